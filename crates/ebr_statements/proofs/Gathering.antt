-- The triggers of a statement are made ready one after the other.
use Rattle.std.proofs.Common.{◌≡◌, ℕ, ◌+◌, ◌≤◌, List, [], ◌∷◌, ◌++◌, map, drop, length, Result, Ok, Err, refl, sym, ap, subst, ◌∙◌, append-nil, append_assoc}
use Rattle.std.specs.List.{AllByRecursion}
use Rattle.std.proofs.lemmas.List.{drop_all, map-append}
use Rattle.ebr_base.specs.declared.code.Code.{Code}
use Rattle.ebr_base.specs.declared.code.Stop.{Stop}
use Rattle.ebr_base.specs.declared.code.Stop.TheVariants.{Raised, NoMemory}
use Rattle.ebr_ast.specs.declared.view.EditionView.{EditionView}
use Rattle.ebr_sqlcheck.specs.Checked.{on}
use Rattle.ebr_query.specs.Results.{all, in_front}
use Rattle.ebr_cross.specs.declared.catalogue.Catalogue.{Catalogue}
use Rattle.ebr_cross.specs.Catalogue.{Lists, View}
use Rattle.ebr_fire.specs.declared.firing.Firing.{Firing}
use Rattle.ebr_exec.specs.Places.{names_of}
use Rattle.ebr_units.specs.Living.{AreCurrent, ForBooks}
use Rattle.ebr_statements.specs.declared.ready.Ready.{Ready as Held}
use Rattle.ebr_bodies.specs.Ready.{Ready, all_ready, ready_for}
use Rattle.ebr_statements.specs.inside.Fits.{HasTables, HaveTables}
use Rattle.ebr_statements.specs.inside.Held.{AreServed, GiveReady, GivesReady, IsServed, ready_of}
use Rattle.ebr_statements.specs.Fits.{IsCurrent}
use Rattle.ebr_statements.proofs.Booking.{still_current}

each_more : {A : Type 0} (P : A → Type 0) (xs : List A) (x : A) → AllByRecursion P xs → P x → AllByRecursion P (xs ++ x ∷ [])
each_more P [] x h p = (p, tt)
each_more P (y ∷ ys) x h p = (h.0, each_more P ys x h.1 p)

-- ---- behind those found

abbrev joined : List Ready → Result (List Ready) Code → Result (List Ready) Code
joined found rest = on (λ more. Ok (found ++ more)) rest

joined_none : (rest : Result (List Ready) Code) → joined [] rest ≡ rest
joined_none (Ok more) = refl
joined_none (Err code) = refl

joined_front : (found : List Ready) (r : Ready) (rest : Result (List Ready) Code) → joined (found ++ r ∷ []) rest ≡ joined found (in_front r rest)
joined_front found r (Ok more) = ap (λ rs. Ok rs) (append_assoc found (r ∷ []) more)
joined_front found r (Err code) = refl

-- ---- so many are ready

pub record Gathers (now : Catalogue) (first : List EditionView) (firings : List Firing) (i : ℕ) (found : List Held) (views : List EditionView) : Type 0 where
  pub whole : ForBooks now first (λ lists. joined (map ready_of found) (all (map (ready_for (names_of lists)) (drop i firings))) ≡ all_ready (names_of lists) firings)
  pub served : ForBooks now first (λ lists. AreServed (View lists) found)
  pub tables : HaveTables now found
  pub current : IsCurrent now views
  pub stays : ForBooks now first (λ lists. AreCurrent lists views)

module _ (now : Catalogue) (first : List EditionView) (firings : List Firing) where
  pub gathers_none : IsCurrent now first → Gathers now first firings 0 [] first
  gathers_none c = record {
    whole = λ lists keys current is. joined_none (all_ready (names_of lists) firings);
    served = λ lists keys current is. tt;
    tables = tt;
    current = c;
    stays = λ lists keys current is. current;
  }

  module _ (i : ℕ) (found : List Held) (views : List EditionView) (g : Gathers now first firings i found views) where
    module _ (x : Firing) (next : drop i firings ≡ x ∷ drop (i + 1) firings) where
      abbrev f : Lists → Firing → Result Ready Code
      f lists = ready_for (names_of lists)

      -- what is defined of the rest
      rest_is : (lists : Lists) → all (map (f lists) (drop i firings)) ≡ all (f lists x ∷ map (f lists) (drop (i + 1) firings))
      rest_is lists = ap (λ xs. all (map (f lists) xs)) next

      pub gathers_more : (h : Held) (more : List Held) (views' : List EditionView) → more ≡ found ++ h ∷ []
          → ForBooks now views (λ lists. GivesReady (View lists) (Ok h) (f lists x)) → HasTables now h → ForBooks now views (λ lists. AreCurrent lists views')
          → Gathers now first firings (i + 1) more views'
      gathers_more h more views' is ready tables current = subst (λ hs. Gathers now first firings (i + 1) hs views') (sym is) (record {
        whole = λ lists keys c kept.
            let e = ready lists keys (g.stays lists keys c kept) kept in
            ap (λ rs. joined rs (all (map (f lists) (drop (i + 1) firings)))) (map-append ready_of found (h ∷ []))
            ∙ joined_front (map ready_of found) (ready_of h) (all (map (f lists) (drop (i + 1) firings)))
            ∙ sym (ap (λ r. joined (map ready_of found) (all (r ∷ map (f lists) (drop (i + 1) firings)))) e.0)
            ∙ sym (ap (joined (map ready_of found)) (rest_is lists))
            ∙ g.whole lists keys c kept;
        served = λ lists keys c kept. each_more (IsServed (View lists)) found h (g.served lists keys c kept) (ready lists keys (g.stays lists keys c kept) kept).1;
        tables = each_more (HasTables now) found h g.tables tables;
        current = still_current now views views' g.current (current g.current.lists g.current.own_keys g.current.current g.current.is);
        stays = λ lists keys c kept. current lists keys (g.stays lists keys c kept) kept;
      })

      pub gathers_fails : (stop : Stop) → ForBooks now views (λ lists. GivesReady (View lists) (Err stop) (f lists x))
          → ForBooks now first (λ lists. GiveReady (View lists) (Err stop) (all_ready (names_of lists) firings))
      gathers_fails NoMemory ready = λ lists keys c kept. tt
      gathers_fails (Raised code) ready = λ lists keys c kept.
          sym (g.whole lists keys c kept)
          ∙ ap (joined (map ready_of found)) (rest_is lists)
          ∙ ap (λ r. joined (map ready_of found) (all (r ∷ map (f lists) (drop (i + 1) firings)))) (ready lists keys (g.stays lists keys c kept) kept)

    pub gathers_all : length firings ≤ i → ForBooks now first (λ lists. GiveReady (View lists) (Ok found) (all_ready (names_of lists) firings))
    gathers_all over = λ lists keys c kept. (
      sym (g.whole lists keys c kept)
          ∙ ap (λ xs. joined (map ready_of found) (all (map (ready_for (names_of lists)) xs))) (drop_all i firings over)
          ∙ ap (λ rs. Ok rs) (append-nil (map ready_of found)),
      g.served lists keys c kept,
    )
