-- The triggers of a statement.
use Rattle.std.proofs.Common.{◌≡◌, ℕ, Bool, true, false, cond, List, Option, Some, None, Ok, Err, sym, ap, ◌∙◌}
use Rattle.std.specs.Prelude.{option_map, option_and_then, unwrap_or}
use Rattle.ebr_base.specs.declared.code.Stop.{Stop}
use Rattle.ebr_base.specs.declared.code.Stop.TheVariants.{Raised, NoMemory}
use Rattle.ebr_base.specs.declared.numbers.EditionNo.{EditionNo}
use Rattle.ebr_base.specs.declared.object.ObjectKey.{ObjectKey}
use Rattle.ebr_ast.specs.declared.kinds.Origin.{Origin}
use Rattle.ebr_ast.specs.declared.unit.UnitTree.{UnitTree}
use Rattle.ebr_ast.specs.declared.view.EditionView.{EditionView}
use Rattle.ebr_ast.specs.declared.view.Object.{Object}
use Rattle.ebr_ast.specs.Views.{object_of}
use Rattle.ebr_validity.specs.Verdict.{is_valid}
use Rattle.ebr_code.specs.declared.book.Unit as compiled
use Rattle.ebr_code.specs.Units.{unit_code}
use Rattle.ebr_run.specs.Units.{if_valid, valid_unit}
use Rattle.ebr_bodies.specs.Ready.{ready_unit}
use Rattle.ebr_statements.specs.inside.Held.{GivesReady, IsMadeOf}

module _ (v : EditionView) where
  abbrev tree_in : Option Object → Option UnitTree
  tree_in o = option_and_then (λ (x : Object). if_valid v x.tree) o

  abbrev object_or : Object → Option Object → Object
  object_or x o = unwrap_or o x

  abbrev unit_or : compiled.Unit → Option compiled.Unit → compiled.Unit
  unit_or x o = unwrap_or o x

  -- The code is that of the tree of the object that is there.
  code_of : (o : Option Object) (x : Object) (u : compiled.Unit) → o ≡ Some x → option_map (unit_code v) (tree_in o) ≡ Some u → (tree_in o ≡ Some x.tree) × (u ≡ unit_code v x.tree)
  code_of None x u is e = absurd cc
  code_of (Some y) x u is e = by (is_valid v y.tree) e
    where
      same : y ≡ x
      same = ap (object_or x) is

      by : (b : Bool) → option_map (unit_code v) (cond b (Some y.tree) None) ≡ Some u → (cond b (Some y.tree) None ≡ Some x.tree) × (u ≡ unit_code v x.tree)
      by true e = (ap (λ (o : Object). Some o.tree) same, sym (ap (unit_or u) e) ∙ ap (λ (o : Object). unit_code v o.tree) same)
      by false e = absurd cc

-- ---- what is ready, in the book of an edition

module _ (view : EditionNo → EditionView) (v : EditionView) (e : EditionNo) (key : ObjectKey) where
  module _ (x : Object) (u : compiled.Unit) (there : object_of key v.objects ≡ Some x) (is : option_map (unit_code v) (valid_unit v key) ≡ Some u) where
    facts : (valid_unit v key ≡ Some x.tree) × (u ≡ unit_code v x.tree)
    facts = code_of v (object_of key v.objects) x u there is

    -- a code
    pub not_ready : (x' : Object) (stop : Stop) → x' ≡ x → IsMadeOf v e x'.tree (Err stop) → GivesReady view (Err stop) (ready_unit v e (valid_unit v key))
    not_ready x' (Raised code) same m = ap (ready_unit v e) (facts.0 ∙ ap (λ (o : Object). Some o.tree) (sym same)) ∙ m
    not_ready x' NoMemory same m = tt

    pub is_ready : v ≡ view e → (x' : Object) (u' : compiled.Unit) (made : Origin × List ℕ) → x' ≡ x → u' ≡ u → IsMadeOf v e x'.tree (Ok made)
        → GivesReady view (Ok (record { edition = e; book = v; unit = u'; object = x'; origin = made.0; places = made.1 })) (ready_unit v e (valid_unit v key))
    is_ready seen x' u' made same is' m = (
      ap (ready_unit v e) (facts.0 ∙ ap (λ (o : Object). Some o.tree) (sym same)) ∙ m,
      record {
        book = seen;
        unit = is' ∙ facts.1 ∙ ap (λ (o : Object). unit_code v o.tree) (sym same) ∙ ap (λ w. unit_code w x'.tree) seen;
      },
    )
