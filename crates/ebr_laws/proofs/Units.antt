-- What the code of units does is what they do.
use Rattle.std.proofs.Common.{◌≡◌, ℕ, zero, suc, ◌+◌, List, [], ◌∷◌, ◌++◌, map, Option, Some, None, refl, sym, ap, ap₂, ◌∙◌, append-nil, add-zero, zero-add, suc-add, add-suc}
use Rattle.std.specs.Prelude.{slice_get, option_map, option_and_then}
use Rattle.std.specs.List.{filter_map}
use Rattle.ebr_base.specs.declared.numbers.Stamp.{Stamp}
use Rattle.ebr_base.specs.declared.object.Class.{Class}
use Rattle.ebr_base.specs.declared.object.Class.TheVariants as class
use Rattle.ebr_ast.specs.declared.statement.Block.{Block}
use Rattle.ebr_ast.specs.declared.unit.PackageBody.{PackageBody}
use Rattle.ebr_ast.specs.declared.unit.PackageItem.{PackageItem}
use Rattle.ebr_ast.specs.declared.unit.Parameter.{Parameter}
use Rattle.ebr_ast.specs.declared.unit.Subprogram.{Subprogram}
use Rattle.ebr_ast.specs.declared.unit.UnitTree.{UnitTree}
use Rattle.ebr_ast.specs.declared.unit.UnitTree.TheVariants as unit
use Rattle.ebr_ast.specs.declared.view.EditionView.{EditionView}
use Rattle.ebr_ast.specs.Views.{unit_key}
use Rattle.ebr_scope.specs.Meanings.{Word}
use Rattle.ebr_scope.specs.Names.{visible_items}
use Rattle.ebr_run.specs.declared.callee.Callee.{Callee}
use Rattle.ebr_run.specs.State.{State, bare, ended, Normal}
use Rattle.ebr_run.specs.Scope.{Env, body_key, declaration_in, part}
use Rattle.ebr_run.specs.Expressions.{Calls}
use Rattle.ebr_run.specs.Calls.{calls_of}
use Rattle.ebr_run.specs.Units as trees
use Rattle.ebr_run.specs.Units.{outside, within_subprogram, in_specification, in_package_body, behind_body, in_trigger, in_initial_part, formal, subprogram_part, block_part, with_specification, valid_unit, stamp_in, specification_run, body_run, specification_making, body_making}
use Rattle.ebr_run.specs.Run.{seen, start, run_part, Run}
use Rattle.ebr_code.specs.declared.book.Unit as compiled
use Rattle.ebr_code.specs.Books.{Book}
use Rattle.ebr_code.specs.Instructions.{run}
use Rattle.ebr_code.specs.Runs as code
use Rattle.ebr_code.specs.Runs.{part_of, making_in, RunCode}
use Rattle.ebr_code.specs.Codes.{decls_code, guarded_code, stmt_code, handler_code}
use Rattle.ebr_code.specs.Units.{parameter_code, subprogram_code, block_unit, subprograms_code, specification_code, body_code, unit_code}
use Rattle.ebr_laws.specs.Served.{HasCodeOf, DoesTheSame}
use Rattle.ebr_laws.proofs.Blocks.{declared_same, guarded_same}
use Rattle.ebr_laws.proofs.Statements.{block_does, all_statements_read, all_handlers_read}
use Rattle.ebr_laws.proofs.Frames.{bared, bared_making, bared_parts, calls_bared, run_bared}

-- ---- subprograms

formals_same : (v : EditionView) (ps : List Parameter) → map code.formal (map (parameter_code v) ps) ≡ map (formal v) ps
formals_same v [] = refl
formals_same v (p ∷ ps) = ap (λ fs. formal v p ∷ fs) (formals_same v ps)

subprogram_same : (env : Env) (s : Subprogram) → bared (part_of (subprogram_code env s)) ≡ bared (subprogram_part env s)
subprogram_same env s = λ i. record (bared (subprogram_part env s)) {
  formals = formals_same env.view s.head.parameters i;
  run = λ calls σ. sym (block_does s.body (within_subprogram s.head env) calls σ) i;
}

block_same : (env : Env) (b : Block) → bared (part_of (block_unit env b)) ≡ bared (block_part env b)
block_same env b = λ i. record (bared (block_part env b)) { run = λ calls σ. sym (block_does b env calls σ) i }

-- the subprogram at a place of a body
subprogram_at : (n : ℕ) (ss : List Subprogram) (env : Env) (at : ℕ) → slice_get (subprograms_code n ss env) at ≡ option_map (subprogram_code (part (suc (n + at)) env)) (slice_get ss at)
subprogram_at n [] env at = refl
subprogram_at n (s ∷ ss) env zero = ap (λ k. Some (subprogram_code (part (suc k) env) s)) (sym (add-zero n))
subprogram_at n (s ∷ ss) env (suc at) =
    subprogram_at (suc n) ss env at ∙ ap (λ k. option_map (subprogram_code (part (suc k) env)) (slice_get ss at)) (suc-add n at ∙ sym (add-suc n at))

packaged_same : (env : Env) (s : Option Subprogram) → option_map bared (option_map part_of (option_map (subprogram_code env) s)) ≡ option_map bared (option_map (subprogram_part env) s)
packaged_same env None = refl
packaged_same env (Some s) = ap Some (subprogram_same env s)

pub part_at_same : (v : EditionView) (u : UnitTree) (at : ℕ) → option_map bared (code.part_at (unit_code v u) at) ≡ option_map bared (trees.part_at v u at)
part_at_same v (unit.Subprogram s) zero = ap Some (subprogram_same (outside v (Some (unit_key s.head.name))) s)
part_at_same v (unit.Subprogram s) (suc at) = refl
part_at_same v (unit.PackageBody b) at =
    ap (λ s. option_map bared (option_map part_of s)) (subprogram_at 0 b.subprograms (behind_body v b) at)
    ∙ ap (λ k. option_map bared (option_map part_of (option_map (subprogram_code (part (suc k) (behind_body v b))) (slice_get b.subprograms at)))) (zero-add at)
    ∙ packaged_same (part (suc at) (behind_body v b)) (slice_get b.subprograms at)
part_at_same v (unit.Trigger t) zero = ap Some (block_same (in_trigger v t) t.body)
part_at_same v (unit.Trigger t) (suc at) = refl
part_at_same v (unit.Block b) zero = ap Some (block_same (outside v None) b)
part_at_same v (unit.Block b) (suc at) = refl
part_at_same v (unit.Package p items) at = refl
part_at_same v (unit.View view) at = refl

-- ---- packages

specification_same : (v : EditionView) (p : Word) (items : List PackageItem) (calls : Calls) (σ : State) → specification_run v p items calls (ended Normal) (bare σ) ≡ run (specification_code v p items) calls (bare σ)
specification_same v p items calls σ =
    declared_same (filter_map declaration_in items) (in_specification v p items) calls (ended Normal) [] (λ τ. refl) σ
    ∙ ap (λ z. run z calls (bare σ)) (append-nil (specification_code v p items))

body_same : (v : EditionView) (b : PackageBody) (calls : Calls) (σ : State) → body_run v b calls (bare σ) ≡ run (body_code v b) calls (bare σ)
body_same v b calls σ =
    let items = visible_items v b.name in
    let env = in_initial_part (behind_body v b) in
    let rest = guarded_code (map stmt_code b.statements) (map handler_code b.handlers) env in
    declared_same (filter_map declaration_in items) (in_specification v b.name items) calls _ (decls_code b.declarations (in_package_body v b) ++ rest) (λ τ.
    declared_same b.declarations (in_package_body v b) calls _ rest (λ υ.
    guarded_same (all_statements_read b.statements) (all_handlers_read b.handlers) env calls (bare υ)) τ) σ

making_in_same : (v : EditionView) (u : UnitTree) → option_map bared_making (making_in (unit_code v u)) ≡ option_map bared_making (trees.making_of v u)
making_in_same v (unit.Package p items) = λ i. Some (record (bared_making (specification_making v p items)) { run = λ calls σ. sym (specification_same v p items calls σ) i })
making_in_same v (unit.PackageBody b) = λ i. Some (record (bared_making (body_making v b)) { run = λ calls σ. sym (body_same v b calls σ) i })
making_in_same v (unit.Subprogram s) = refl
making_in_same v (unit.Trigger t) = refl
making_in_same v (unit.Block b) = refl
making_in_same v (unit.View view) = refl

-- ---- what an edition has

module _ {A B : Type 0} (f : A → B) (v : EditionView) where
  -- what is wanted of a specification is that there is one
  with_specification_same : (c : Class) (s : Option UnitTree) (x y : Option A) → option_map f x ≡ option_map f y
      → option_map f (with_specification c (option_map (unit_code v) s) x) ≡ option_map f (with_specification c s y)
  with_specification_same class.Body None x y e = refl
  with_specification_same class.Body (Some s) x y e = e
  with_specification_same class.Unit s x y e = e
  with_specification_same class.Trigger s x y e = e

  of_unit : (g : compiled.Unit → Option A) (h : UnitTree → Option A) → ((u : UnitTree) → option_map f (g (unit_code v u)) ≡ option_map f (h u)) → (u : Option UnitTree)
      → option_map f (option_and_then g (option_map (unit_code v) u)) ≡ option_map f (option_and_then h u)
  of_unit g h e None = refl
  of_unit g h e (Some u) = e u

called_same : (v : EditionView) (book : Book) → HasCodeOf v book → (f : Callee) → option_map bared (code.called_part book f) ≡ option_map bared (trees.called_part v f)
called_same v book a f =
    ap₂ (λ s u. option_map bared (with_specification f.unit.class s (option_and_then (λ (u : compiled.Unit). code.part_at u f.place) u))) (a.unit (unit_key f.unit.name)) (a.unit f.unit)
    ∙ with_specification_same bared v f.unit.class (valid_unit v (unit_key f.unit.name)) _ _
    (of_unit bared v (λ u. code.part_at u f.place) (λ u. trees.part_at v u f.place) (λ u. part_at_same v u f.place) (valid_unit v f.unit))

making_same : (v : EditionView) (book : Book) → HasCodeOf v book → (p : Word) (s : Option Stamp) → option_map bared_making (code.making_with book p s) ≡ option_map bared_making (trees.making_with v p s)
making_same v book a p None =
    ap (λ u. option_map bared_making (option_and_then making_in u)) (a.unit (unit_key p)) ∙ of_unit bared_making v making_in (trees.making_of v) (making_in_same v) (valid_unit v (unit_key p))
making_same v book a p (Some s) =
    ap₂ (λ s u. option_map bared_making (with_specification class.Body s (option_and_then making_in u))) (a.unit (unit_key p)) (a.unit (body_key p))
    ∙ with_specification_same bared_making v class.Body (valid_unit v (unit_key p)) _ _ (of_unit bared_making v making_in (trees.making_of v) (making_in_same v) (valid_unit v (body_key p)))

-- What a book's parts do is what the parts of the edition's units do.
pub parts_same : (v : EditionView) (book : Book) → HasCodeOf v book → bared_parts (code.parts_of book) ≡ bared_parts (trees.parts_of v)
parts_same v book a = λ i. record {
  part = λ f. called_same v book a f i;
  making = λ p. (ap (λ s. option_map bared_making (code.making_with book p s)) (a.stamp (body_key p)) ∙ making_same v book a p (stamp_in v (body_key p))) i;
  made = λ p. record { specification = a.stamp (unit_key p) i; body = a.stamp (body_key p) i };
  objects = a.objects i;
}

pub calls_same : (v : EditionView) (book : Book) → HasCodeOf v book → calls_of (code.parts_of book) ≡ calls_of (trees.parts_of v)
calls_same v book a = sym (calls_bared (code.parts_of book)) ∙ ap calls_of (parts_same v book a) ∙ calls_bared (trees.parts_of v)

-- What the code of a unit does is what the unit does.
pub run_same : (v : EditionView) (book : Book) → HasCodeOf v book → (u : UnitTree) → DoesTheSame v book u
unfolding RunCode Run
run_same v book a u arguments packages frame left answers =
    let σ = start packages frame left answers in
    ap seen
    (sym (run_bared (code.part_at (unit_code v u) 0) (code.parts_of book) arguments σ)
    ∙ ap₂ (λ p ps. run_part p ps arguments σ) (part_at_same v u 0) (parts_same v book a)
    ∙ run_bared (trees.part_at v u 0) (trees.parts_of v) arguments σ)
