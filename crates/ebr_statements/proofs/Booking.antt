-- The books of editions, and what is ready of them.
use Rattle.std.proofs.Common.{◌≡◌, Bool, true, false, List, Option, Some, None, Result, Ok, sym, ap, subst, ◌∙◌}
use Rattle.std.specs.Prelude.{IfOk, if◌then◌else◌, unwrap_or}
use Rattle.std.proofs.lemmas.Result.{IfOk-weaker}
use Rattle.ebr_base.specs.declared.code.Stop.{Stop}
use Rattle.ebr_base.specs.declared.numbers.EditionNo.{EditionNo}
use Rattle.ebr_ast.specs.declared.view.EditionView.{EditionView}
use Rattle.ebr_ast.specs.Views.{IsInOrder}
use Rattle.ebr_editions.specs.Editions.{is_living}
use Rattle.ebr_cross.specs.declared.catalogue.Catalogue.{Catalogue}
use Rattle.ebr_cross.specs.Catalogue.{IsViewOf, Lists, View, as_catalogue}
use Rattle.ebr_fire.specs.declared.firing.Firing.{Firing}
use Rattle.ebr_exec.specs.Places.{names_of}
use Rattle.ebr_run.specs.Units.{valid_unit}
use Rattle.ebr_units.specs.Living.{AreCurrent, Gives, GivesLiving, IsBookIn, IsKept}
use Rattle.ebr_statements.specs.declared.ready.Ready.{Ready as Held}
use Rattle.ebr_bodies.specs.Ready.{ready_for, ready_unit}
use Rattle.ebr_statements.specs.inside.Fits.{HasTables}
use Rattle.ebr_statements.specs.inside.Held.{GivesReady}
use Rattle.ebr_statements.specs.Fits.{IsCurrent}

pub kept_lists : (now : Catalogue) (views : List EditionView) → IsCurrent now views → IsKept now
kept_lists now views c = record { lists = c.lists; own_keys = c.own_keys; is = c.is }

-- books that are current, behind a call that keeps them
pub still_current : (now : Catalogue) (old new : List EditionView) → (c : IsCurrent now old) → AreCurrent c.lists new → IsCurrent now new
still_current now old new c current = record { lists = c.lists; own_keys = c.own_keys; current = current; is = c.is }

module _ (lists : Lists) (e : EditionNo) where
  -- an edition sees the living tables
  pub tables_seen : (now : Catalogue) (v : EditionView) → now ≡ as_catalogue lists → v ≡ View lists e → v.tables ≡ now.tables.living
  tables_seen now v is seen = ap (λ (x : EditionView). x.tables) seen ∙ sym (ap (λ (k : Catalogue). k.tables.living) is)

  -- the book of an edition that lives, and where it was found
  living_is : (v : EditionView) → IsBookIn lists e (Some v) → v ≡ View lists e
  living_is v h = by (is_living lists.editions.made e) h.is
    where
      by : (b : Bool) → Some v ≡ (if b then Some (View lists e) else None) → v ≡ View lists e
      by true is = ap (λ o. unwrap_or o v) is
      by false is = absurd cc

  pub living_found : {E : Type 0} (old new : List EditionView) (r : Result (Option EditionView) E) (o : Option EditionView) (v : EditionView) → r ≡ Ok o → o ≡ Some v → GivesLiving lists e old r new → v ≡ View lists e
  living_found {E = E} old new r o v done found g =
      let h : GivesLiving {E = E} lists e old (Ok (Some v)) new = subst (λ x. GivesLiving {E = E} lists e old (Ok x) new) found (subst (λ x. GivesLiving {E = E} lists e old x new) done g) in
      living_is v h.book

  -- what was made anew is all that the edition sees
  pub made_seen : (seen : EditionView) → seen ≡ View lists e → IsInOrder seen → IsViewOf lists seen.edition seen
  made_seen seen is order = record { is = is ∙ ap (View lists) (sym (ap (λ (v : EditionView). v.edition) is)); order = order }

  pub of_seen : (seen : EditionView) → seen ≡ View lists e → (b : EditionView) → IsViewOf lists seen.edition b → b ≡ View lists e
  of_seen seen is b h = h.is ∙ ap (View lists) (ap (λ (v : EditionView). v.edition) is)

  pub book_seen : {E : Type 0} (seen : EditionView) (old new : List EditionView) (r : Result EditionView E) → seen ≡ View lists e → Gives lists seen.edition old r new → IfOk r (λ b. b ≡ View lists e)
  book_seen seen old new r is g = IfOk-weaker r (λ b. IsViewOf lists seen.edition b) (λ b. b ≡ View lists e) (of_seen seen is) g.book

  pub book_tables : {E : Type 0} (now : Catalogue) (r : Result EditionView E) → now ≡ as_catalogue lists → IfOk r (λ b. b ≡ View lists e) → IfOk r (λ b. b.tables ≡ now.tables.living)
  book_tables now r is h = IfOk-weaker r (λ b. b ≡ View lists e) (λ b. b.tables ≡ now.tables.living) (λ b. tables_seen now b is) h

-- a trigger that is ready in the book of its edition
pub ready_seen : (lists : Lists) (f : Firing) (b : EditionView) (r : Result Held Stop) → b ≡ View lists f.edition
    → GivesReady (View lists) r (ready_unit b f.edition (valid_unit b f.key)) → GivesReady (View lists) r (ready_for (names_of lists) f)
ready_seen lists f b r is h = subst (λ (v : EditionView). GivesReady (View lists) r (ready_unit v f.edition (valid_unit v f.key))) is h

pub tables_ready : (now : Catalogue) (b : EditionView) (r : Result Held Stop) → b.tables ≡ now.tables.living → IfOk r (λ h. h.book ≡ b) → IfOk r (λ h. HasTables now h)
tables_ready now b r is h = IfOk-weaker r (λ (x : Held). x.book ≡ b) (λ x. HasTables now x) (λ x e. ap (λ (v : EditionView). v.tables) e ∙ is) h
