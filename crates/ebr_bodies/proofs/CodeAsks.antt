-- No code asks for APPLY TRIGGER, whatever it is answered.
use Rattle.std.proofs.Common.{ℕ, zero, suc, List, [], ◌∷◌, map, Option, Some, None}
use Rattle.std.specs.Prelude.{slice_get, option_map, option_and_then}
use Rattle.std.specs.List.{AllByRecursion, filter_map, last_or}
use Rattle.ebr_base.specs.declared.numbers.Stamp.{Stamp}
use Rattle.ebr_base.specs.declared.object.Class.{Class}
use Rattle.ebr_base.specs.declared.object.Class.TheVariants as class
use Rattle.ebr_base.specs.declared.value.Value.{Value}
use Rattle.ebr_ast.specs.declared.statement.Handler.{Handler}
use Rattle.ebr_ast.specs.declared.statement.Stmt.{Stmt}
use Rattle.ebr_ast.specs.declared.unit.PackageBody.{PackageBody}
use Rattle.ebr_ast.specs.declared.unit.PackageItem.{PackageItem}
use Rattle.ebr_ast.specs.declared.unit.Subprogram.{Subprogram}
use Rattle.ebr_ast.specs.declared.unit.UnitTree.{UnitTree}
use Rattle.ebr_ast.specs.declared.unit.UnitTree.TheVariants as unit
use Rattle.ebr_ast.specs.declared.view.EditionView.{EditionView}
use Rattle.ebr_ast.specs.Views.{unit_key}
use Rattle.ebr_asks.specs.declared.ask.Ask.{Ask}
use Rattle.ebr_scope.specs.Meanings.{Word}
use Rattle.ebr_scope.specs.Names.{visible_items}
use Rattle.ebr_run.specs.State.{Runs, Outcome, Normal, ended}
use Rattle.ebr_run.specs.Scope.{body_key, declaration_in}
use Rattle.ebr_run.specs.Expressions.{Calls}
use Rattle.ebr_run.specs.Statements.{declare_all, guarded, meaning_of, handling_of}
use Rattle.ebr_run.specs.Calls.{Part, Making, calls_of}
use Rattle.ebr_run.specs.Run.{Run, Frame, RunStatus, seen, start, run_part}
use Rattle.ebr_run.specs.Run.RunStatus.{Waiting, Returned, Raised}
use Rattle.ebr_run.specs.Units.{in_specification, in_package_body, behind_body, outside, within_subprogram, in_trigger, in_initial_part, packaged_part, valid_unit, part_at, with_specification, specification_run, body_run, making_of, stamp_in, making_with, parts_of}
use Rattle.ebr_bodies.specs.Bodies.{if_waiting, next_ask}
use Rattle.ebr_bodies.proofs.OfCode.{IsOfCode, IsNoneOrOfCode, AsksAsCode}
use Rattle.ebr_bodies.proofs.CodeStates.{Kept, Keeps}
use Rattle.ebr_bodies.proofs.CodeOperators.{CallsKeep}
use Rattle.ebr_bodies.proofs.CodeTargets.{MeaningKeeps}
use Rattle.ebr_bodies.proofs.CodeStatements.{HandlerKeeps, declare_all_keeps, guarded_keeps}
use Rattle.ebr_bodies.proofs.CodeBlocks.{statement_keeps, block_keeps, handler_keeps}
use Rattle.ebr_bodies.proofs.CodeCalls.{RunKeeps, SomePartKeeps, SomeMakingKeeps, PartsKeep, entered_keeps, calls_keep}

-- ---- what an edition has

module _ (v : EditionView) where
  some_packaged : (b : PackageBody) (at : ℕ) (s : Option Subprogram) → SomePartKeeps (option_map (packaged_part v b at) s)
  some_packaged b at None = tt
  some_packaged b at (Some s) = block_keeps s.body _

  part_at_keeps : (u : UnitTree) (at : ℕ) → SomePartKeeps (part_at v u at)
  part_at_keeps (unit.Subprogram s) zero = block_keeps s.body (within_subprogram s.head (outside v (Some (unit_key s.head.name))))
  part_at_keeps (unit.Subprogram s) (suc at) = tt
  part_at_keeps (unit.PackageBody b) at = some_packaged b at (slice_get b.subprograms at)
  part_at_keeps (unit.Trigger t) zero = block_keeps t.body (in_trigger v t)
  part_at_keeps (unit.Trigger t) (suc at) = tt
  part_at_keeps (unit.Block b) zero = block_keeps b (outside v None)
  part_at_keeps (unit.Block b) (suc at) = tt
  part_at_keeps (unit.Package p items) at = tt
  part_at_keeps (unit.View x) at = tt

  part_of_keeps : (u : Option UnitTree) (at : ℕ) → SomePartKeeps (option_and_then (λ (u : UnitTree). part_at v u at) u)
  part_of_keeps None at = tt
  part_of_keeps (Some u) at = part_at_keeps u at

  with_part_keeps : (c : Class) (s : Option UnitTree) (p : Option Part) → SomePartKeeps p → SomePartKeeps (with_specification c s p)
  with_part_keeps class.Body None p h = tt
  with_part_keeps class.Body (Some u) p h = h
  with_part_keeps c s p h = h

  all_statements : (ss : List Stmt) → AllByRecursion MeaningKeeps (map meaning_of ss)
  all_statements [] = tt
  all_statements (s ∷ ss) = (statement_keeps s, all_statements ss)

  all_handlers : (hs : List Handler) → AllByRecursion HandlerKeeps (map handling_of hs)
  all_handlers [] = tt
  all_handlers (x ∷ hs) = (handler_keeps x, all_handlers hs)

  specification_keeps : (p : Word) (items : List PackageItem) (calls : Calls) → CallsKeep calls → (next : Runs) → Keeps next → Keeps (specification_run v p items calls next)
  specification_keeps p items calls kc next n σ h = declare_all_keeps (filter_map declaration_in items) (in_specification v p items) calls kc next n σ h

  body_run_keeps : (b : PackageBody) → RunKeeps (body_run v b)
  body_run_keeps b calls kc σ h =
      let ms = map meaning_of b.statements in
      let hs = map handling_of b.handlers in
      let e = in_initial_part (behind_body v b) in
      specification_keeps b.name (visible_items v b.name) calls kc (declare_all b.declarations (in_package_body v b) calls (guarded ms hs e calls))
      (declare_all_keeps b.declarations (in_package_body v b) calls kc (guarded ms hs e calls) (guarded_keeps ms (all_statements b.statements) hs (all_handlers b.handlers) e calls kc)) σ h

  making_of_keeps : (u : UnitTree) → SomeMakingKeeps (making_of v u)
  making_of_keeps (unit.Package p items) = λ calls kc σ h. specification_keeps p items calls kc (ended Normal) (λ τ k. k) σ h
  making_of_keeps (unit.PackageBody b) = body_run_keeps b
  making_of_keeps (unit.Subprogram s) = tt
  making_of_keeps (unit.Trigger t) = tt
  making_of_keeps (unit.Block b) = tt
  making_of_keeps (unit.View x) = tt

  made_of_keeps : (u : Option UnitTree) → SomeMakingKeeps (option_and_then (making_of v) u)
  made_of_keeps None = tt
  made_of_keeps (Some u) = making_of_keeps u

  with_making_keeps : (c : Class) (s : Option UnitTree) (m : Option Making) → SomeMakingKeeps m → SomeMakingKeeps (with_specification c s m)
  with_making_keeps class.Body None m h = tt
  with_making_keeps class.Body (Some u) m h = h
  with_making_keeps c s m h = h

  making_keeps : (p : Word) (s : Option Stamp) → SomeMakingKeeps (making_with v p s)
  making_keeps p None = made_of_keeps (valid_unit v (unit_key p))
  making_keeps p (Some s) = with_making_keeps class.Body (valid_unit v (unit_key p)) (option_and_then (making_of v) (valid_unit v (body_key p))) (made_of_keeps (valid_unit v (body_key p)))

  parts_keep : PartsKeep (parts_of v)
  parts_keep = record {
    part = λ f. with_part_keeps f.unit.class (valid_unit v (unit_key f.unit.name)) (option_and_then (λ (u : UnitTree). part_at v u f.place) (valid_unit v f.unit)) (part_of_keeps (valid_unit v f.unit) f.place);
    making = λ p. making_keeps p (stamp_in v (body_key p));
  }

  run_part_keeps : (p : Option Part) → SomePartKeeps p → (vs : List Value) → Keeps (run_part p (parts_of v) vs)
  run_part_keeps None pk vs σ h = h
  run_part_keeps (Some p) pk vs σ h = entered_keeps p pk (calls_of (parts_of v)) (calls_keep (parts_of v) parts_keep) vs σ h

-- ---- the ask that a run waits with

last_own : (asks : List Ask) (q : Option Ask) → IsNoneOrOfCode q → AllByRecursion IsOfCode asks → IsNoneOrOfCode (last_or q asks)
last_own [] q own h = own
last_own (x ∷ xs) q own h = last_own xs (Some x) h.0 h.1

waiting_own : (s : RunStatus) (q : Option Ask) → IsNoneOrOfCode q → IsNoneOrOfCode (if_waiting s q)
waiting_own Waiting q own = own
waiting_own Returned q own = tt
waiting_own (Raised c) q own = tt

seen_own : (o : Outcome) → Kept o → IsNoneOrOfCode (next_ask (seen o))
seen_own o h = waiting_own (seen o).standing (last_or None o.state.asks) (last_own o.state.asks None tt h)

pub code_asks : (v : EditionView) (u : UnitTree) (f : Frame) (left : ℕ) → AsksAsCode (Run v u [] [] f left)
unfolding Run
code_asks v u f left answers = seen_own (run_part (part_at v u 0) (parts_of v) [] (start [] f left answers)) (run_part_keeps v (part_at v u 0) (part_at_keeps v u 0) [] (start [] f left answers) tt)
