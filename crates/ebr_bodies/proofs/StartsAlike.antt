-- Where a second catalogue agrees for a statement, the statement starts alike in both, with the same triggers.
use Rattle.std.proofs.Common.{◌≡◌, List, [], ◌∷◌, Option, Some, None, Result, Ok, Err, refl, ap, ◌∙◌}
use Rattle.std.specs.List.{AllByRecursion}
use Rattle.std.specs.Prelude.{ℕ, Bool, true, false, if◌then◌else◌}
use Rattle.ebr_base.specs.declared.code.Code.{Code}
use Rattle.ebr_base.specs.declared.code.Code.TheVariants.{Ora}
use Rattle.ebr_base.specs.declared.value.Value.{Value}
use Rattle.ebr_ast.specs.declared.kinds.Timing.{Timing}
use Rattle.ebr_ast.specs.declared.kinds.Timing.TheVariants as timing
use Rattle.ebr_ast.specs.declared.sql.SqlTree.{SqlTree}
use Rattle.ebr_ast.specs.declared.sql.SqlTree.TheVariants as sql
use Rattle.ebr_ast.specs.declared.view.EditionView.{EditionView}
use Rattle.ebr_ast.specs.declared.view.Object.{Object}
use Rattle.ebr_sqlcheck.specs.Checked.{must, on}
use Rattle.ebr_tx.specs.Data.{Data}
use Rattle.ebr_dml.specs.Steps.{DmlState, started}
use Rattle.ebr_exec.specs.Places.{Names, Place, target, questions_on}
use Rattle.ebr_fire.specs.declared.firing.Firing.{Firing}
use Rattle.ebr_bodies.specs.Agree.{RunAlike, AnswerAlike, AppliesAlike, applied_firings}
use Rattle.ebr_bodies.specs.Ready.{Ready, alone, applied, firings, is_timed, applied_firing, all_ready, ready_at}
use Rattle.ebr_bodies.specs.Statements.{Start, start_of, is_appliable, rows_started, triggers_ready}
use Rattle.ebr_bodies.proofs.ReadyAlike.{SeesSame, ReadySame, AllSame, fired_same, all_sees, all_same}

module _ (m n : Names) (p : Place) (sees : SeesSame m n p.edition) where
  -- ---- what fires, for one timing

  -- the same in both, and its bodies run alike
  pub record FiredAlike (s : SqlTree) (at : Timing) : Type 0 where
    pub same : firings m p at s ≡ firings n p at s
    pub bodies : RunAlike m n p.edition (firings m p at s)

  abbrev pub FiredBoth : SqlTree → Type 0
  FiredBoth s = FiredAlike s timing.Before × FiredAlike s timing.After

  chosen : (x : Bool) (o : Object) → RunAlike m n p.edition (applied_firings (Some o)) → RunAlike m n p.edition (if x then applied_firing o ∷ [] else [])
  chosen true o h = h
  chosen false o h = tt

  alone_alike : (at : Timing) (o : Option Object) → RunAlike m n p.edition (applied_firings o) → RunAlike m n p.edition (alone at o)
  alone_alike at None h = tt
  alone_alike at (Some o) h = chosen (is_timed at o.tree) o h

  applied_alike : (name : List ℕ) (at : Timing) → AppliesAlike m n p (sql.Apply name) → FiredAlike (sql.Apply name) at
  applied_alike name at h = record { same = ap (λ (v : EditionView). alone at (applied v name)) sees; bodies = alone_alike at (applied (m.view p.edition) name) h }

  pub fired_both : (s : SqlTree) → AnswerAlike m n (questions_on p (target s)) → AppliesAlike m n p s → FiredBoth s
  fired_both (sql.Query q) h g = (record { same = refl; bodies = tt }, record { same = refl; bodies = tt })
  fired_both (sql.Insert i) h g = (record { same = h.0.same; bodies = h.0.bodies }, record { same = h.1.0.same; bodies = h.1.0.bodies })
  fired_both (sql.Update u) h g = (record { same = h.0.same; bodies = h.0.bodies }, record { same = h.1.0.same; bodies = h.1.0.bodies })
  fired_both (sql.Delete d) h g = (record { same = h.0.same; bodies = h.0.bodies }, record { same = h.1.0.same; bodies = h.1.0.bodies })
  fired_both (sql.Apply name) h g = (applied_alike name timing.Before g, applied_alike name timing.After g)

  -- ---- those that are ready

  ready_same : (s : SqlTree) (at : Timing) → FiredAlike s at → ready_at m p at s ≡ ready_at n p at s
  ready_same s at h = all_same m n (firings m p at s) (fired_same m n p.edition sees (firings m p at s) h.bodies) ∙ ap (λ (fs : List Firing). all_ready n fs) h.same

  ready_sees : (s : SqlTree) (at : Timing) → FiredAlike s at → AllSame m n (ready_at m p at s)
  ready_sees s at h = all_sees m n (firings m p at s) (fired_same m n p.edition sees (firings m p at s) h.bodies)

  -- ---- the start

  abbrev pub StartSame : Result Start Code → Type 0
  StartSame (Ok k) = AllByRecursion (ReadySame m n) k.before × AllByRecursion (ReadySame m n) k.after
  StartSame (Err code) = Unit {0}

  start_sees : (st : DmlState) (before after : Result (List Ready) Code) → AllSame m n before → AllSame m n after → StartSame (on (λ b. on (start_of st b) after) before)
  start_sees st (Ok b) (Ok a) h g = (h, g)
  start_sees st (Ok b) (Err code) h g = tt
  start_sees st (Err code) after h g = tt

  pub rows_same : (s : SqlTree) (binds : List Value) (d : Data) → rows_started m p s binds d ≡ rows_started n p s binds d
  rows_same s binds d = λ i. on (λ u. started d p.tx (sees i) s binds) (must (Ora 4043) (is_appliable (sees i) s))

  pub ready_both_see : (s : SqlTree) (st : DmlState) → FiredBoth s → StartSame (triggers_ready m p s st)
  ready_both_see s st h = start_sees st (ready_at m p timing.Before s) (ready_at m p timing.After s) (ready_sees s timing.Before h.0) (ready_sees s timing.After h.1)

  pub ready_both_same : (s : SqlTree) (st : DmlState) → FiredBoth s → triggers_ready m p s st ≡ triggers_ready n p s st
  ready_both_same s st h =
      let before = ready_same s timing.Before h.0 in
      let after = ready_same s timing.After h.1 in
      λ i. on (λ b. on (start_of st b) (after i)) (before i)
