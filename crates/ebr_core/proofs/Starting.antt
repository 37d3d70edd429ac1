-- The database with which the engine begins.
use Rattle.std.proofs.Common.{◌≡◌, ℕ, zero, suc, ◌+◌, ◌≤◌, true, false, List, [], ◌++◌, length, replicate, refl, sym, ap, subst, ◌∙◌, arith}
use Rattle.std.specs.Prelude.{vec_len, vec_capacity}
use Rattle.ebr_cross.specs.Catalogue.{Lists, first_lists, as_catalogue}
use Rattle.ebr_cross.specs.declared.catalogue.Catalogue.{Catalogue}
use Rattle.ebr_record.specs.declared.record.Record.{Record}
use Rattle.ebr_record.specs.Keeper.{Keeper, used_by}
use Rattle.ebr_tx.specs.Data.{Data}
use Rattle.ebr_tx.specs.Calls.{first_data}
use Rattle.ebr_seats.specs.Seats.{Begin, Holds as Seated}
use Rattle.ebr_units.specs.Living.{AreCurrent}
use Rattle.ebr_levels.proofs.ReplyLemmas.{early_first}
use Rattle.ebr_core.specs.declared.current.Current.{Current}
use Rattle.ebr_ast.specs.declared.view.EditionView.{EditionView}
use Rattle.std.specs.Prelude.{Option}
use Rattle.ebr_core.specs.declared.parts.Parts.{Parts}
use Rattle.ebr_core.specs.Asked.{AreFit}
use Rattle.ebr_core.specs.History.{After, Legal, is_short}
use Rattle.ebr_core.specs.Engine.{has_given_up, no_books}
use Rattle.ebr_core.specs.Recovered.{AreRecovered, IsReady}
use Rattle.ebr_core.specs.Machine.{Build}
use Rattle.ebr_core.specs.Records.{catalogue_of}
use Rattle.ebr_core.specs.inside.Held.{Holds}
use Rattle.ebr_core.specs.inside.Parts.{IsEngine, IsSound, Runs, Stands, database, first, lives}
use Rattle.ebr_core.proofs.Lives.{all_there}
use Rattle.ebr_core.proofs.Rooms.{needs_most}
use Rattle.ebr_core.proofs.ReachedRecords.{none_reached}
use Rattle.ebr_core.proofs.Spellings.{own_keys}

-- the database of the records that were recovered
pub first_holds : {K : Type 0} (as_keeper : K → Keeper) (records : List Record) (now : Current K) (n : ℕ) → AreRecovered records n now.world.catalogue now.world.tx.contents
    → ((c : Lists) → AreCurrent c now.views) → ((c : Lists) → AreCurrent c now.world.book) → Begin n now.world.catalogue.chain.default now.seats.items
    → IsReady records (as_keeper now.world.keeper) → Holds as_keeper now (Build records n)
first_holds as_keeper records now n are views books begin ready = record {
  catalogue_is = are.lists;
  own_keys = own_keys records;
  views_are = views (catalogue_of records);
  books_are = books (catalogue_of records);
  seated =
      subst (λ used. Seated used now.world.tx.contents now.seats.items (Build records n)) (sym ready.used)
      (subst (λ d. Seated (used_by records) d now.seats.items (Build records n)) (sym are.contents_are) (first (Build records n) refl refl));
  reached = are.reached;
  early = early_first (Build records n) n (catalogue_of records).editions.default refl refl;
}
  where
    first : Begin n (catalogue_of records).editions.default now.seats.items
    first = subst (λ e. Begin n e now.seats.items) (ap (λ (c : Catalogue). c.chain.default) are.lists) begin

-- nothing was recovered
pub none_recovered : (n : ℕ) (catalogue : Catalogue) (contents : Data) → catalogue ≡ as_catalogue first_lists → contents ≡ first_data n → AreRecovered [] n catalogue contents
none_recovered n catalogue contents lists are = record { lists = lists; contents_are = are; reached = none_reached }

length_of : {X : Type 0} (n : ℕ) (x : X) → length (replicate n x) ≡ n
length_of zero x = refl
length_of (suc n) x = ap suc (length_of n x)

module _ {K : Type 0} (as_keeper : K → Keeper) (p : Parts K) (n : ℕ) (records : List Record) (recovered : p.recovered ≡ records) (living : p.living.items ≡ replicate n true) (books : p.books.items ≡ no_books n) (empty : p.history.items ≡ []) (running : p.stopped ≡ false) where
  living_len : length p.living.items ≡ n
  living_len = ap length living ∙ length_of n true

  books_len : length p.books.items ≡ n
  books_len = ap (λ (bs : List (Option EditionView)). length bs) books ∙ length_of n _

  is_first : database as_keeper p ≡ Build records n
  is_first = (λ i. After (Build (recovered i) (books_len i)) p.history.items) ∙ ap (After (Build records n)) empty

  module _ (room : vec_len p.history + (n + n) ≤ vec_capacity p.history) (holds : Holds as_keeper p.current (Build records n)) (goes : (as_keeper p.current.world.keeper).stopped ≡ false) where
    runs : Runs as_keeper p
    runs = record {
      legal = λ more. subst (λ es. Legal (After (first as_keeper p) es) more → Legal (first as_keeper p) (es ++ more)) (sym empty) (λ h. h);
      holds = subst (Holds as_keeper p.current) (sym is_first) holds;
      goes = goes;
      room = let m = needs_most (λ k. is_short p.history.items (record { 0 = k })) 1 p.living.items in let l = living_len in omega (arith, room, m, l);
    }

    sound : IsSound as_keeper p
    sound = record {
      living = living ∙ sym (all_there n _) ∙ ap lives (sym is_first);
      books = books_len ∙ sym living_len;
      stopped = running ∙ ap has_given_up (sym empty);
      stands = subst (λ b. Stands as_keeper b p) (sym running) runs;
    }

    pub starts : IsEngine as_keeper p
    starts = record { sound = sound; fit = subst AreFit (sym empty) tt }
