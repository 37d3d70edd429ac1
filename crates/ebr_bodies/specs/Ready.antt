-- Which triggers a statement fires, and what their bodies run with.
-- Oracle Database Development Guide 19c, Using Edition-Based Redefinition, Crossedition Triggers; Database PL/SQL Language
-- Reference 19c, CREATE TRIGGER. APPLY TRIGGER, and that an invalid trigger refuses the whole statement, is own.
use Rattle.std.specs.Prelude.{ℕ, Bool, false, ◌&&◌, if◌then◌else◌, List, [], ◌∷◌, map, Option, Some, None, option_and_then, Result, Ok, Err}
use Rattle.std.specs.List.{list_any}
use Rattle.ebr_base.specs.declared.code.Code.{Code}
use Rattle.ebr_base.specs.declared.code.Code.TheVariants.{Ora}
use Rattle.ebr_base.specs.declared.numbers.EditionNo.{EditionNo}
use Rattle.ebr_exprtree.specs.declared.op.Op.{Op}
use Rattle.ebr_exprtree.specs.declared.op.Op.TheVariants as op
use Rattle.ebr_ast.specs.declared.kinds.Origin.{Origin}
use Rattle.ebr_ast.specs.declared.kinds.Origin.TheVariants as origin
use Rattle.ebr_ast.specs.declared.kinds.Timing.{Timing}
use Rattle.ebr_ast.specs.declared.sql.SqlTree.{SqlTree}
use Rattle.ebr_ast.specs.declared.sql.SqlTree.TheVariants as sql
use Rattle.ebr_ast.specs.declared.unit.Direction.{Direction}
use Rattle.ebr_ast.specs.declared.unit.Direction.TheVariants as direction
use Rattle.ebr_ast.specs.declared.unit.Trigger.{Trigger}
use Rattle.ebr_ast.specs.declared.unit.UnitTree.{UnitTree}
use Rattle.ebr_ast.specs.declared.unit.UnitTree.TheVariants as unit
use Rattle.ebr_ast.specs.declared.view.EditionView.{EditionView}
use Rattle.ebr_ast.specs.declared.view.Object.{Object}
use Rattle.ebr_ast.specs.Views.{object_of}
use Rattle.ebr_validity.specs.Units.{row_columns, columns_or_none}
use Rattle.ebr_dml.specs.Plans.{places_of, trigger_key}
use Rattle.ebr_exec.specs.Places.{Names, Place}
use Rattle.ebr_fire.specs.declared.firing.Firing.{Firing}
use Rattle.ebr_fire.specs.Fires.{same_direction, same_op, same_timing}
use Rattle.ebr_query.specs.Results.{all}
use Rattle.ebr_run.specs.Units.{valid_unit}

-- A trigger whose body can run: in which edition; where its statements come from; its tree; the places in the table's rows of the
-- columns that its body knows, in their order.
pub record Ready : Type 0 where
  pub edition : EditionNo
  pub origin : Origin
  pub tree : UnitTree
  pub places : List ℕ

-- where the statements of a body come from
abbrev pub origin_of : Option Direction → Origin
origin_of None = origin.Plain
origin_of (Some direction.Forward) = origin.Forward
origin_of (Some direction.Reverse) = origin.Reverse

-- The columns are those of the editioning view or table behind ON.
abbrev pub ready_trigger : EditionView → EditionNo → Trigger → Ready
ready_trigger v e t = record {
  edition = e;
  origin = origin_of t.crossedition;
  tree = unit.Trigger t;
  places = places_of (columns_or_none (row_columns v t t.crossedition));
}

abbrev pub ready_unit : EditionView → EditionNo → Option UnitTree → Result Ready Code
ready_unit v e (Some (unit.Trigger t)) = Ok (ready_trigger v e t)
ready_unit v e u = Err (Ora 4098)

-- ORA-04098 where the trigger is invalid in the edition in which its body would run
abbrev pub ready_for : Names → Firing → Result Ready Code
ready_for names f = ready_unit (names.view f.edition) f.edition (valid_unit (names.view f.edition) f.key)

abbrev pub all_ready : Names → List Firing → Result (List Ready) Code
all_ready names firings = all (map (ready_for names) firings)

-- ---- APPLY TRIGGER

-- a forward crossedition trigger with UPDATE among its events, enabled or not
abbrev pub is_applied : UnitTree → Bool
is_applied (unit.Trigger t) = same_direction t.crossedition (Some direction.Forward) && list_any (same_op op.Update) t.events
is_applied u = false

abbrev pub if_applied : Object → Option Object
if_applied o = if is_applied o.tree then Some o else None

-- the trigger that it fires, where the edition sees it
abbrev pub applied : EditionView → List ℕ → Option Object
applied v name = option_and_then if_applied (object_of (trigger_key name) v.objects)

-- its body runs in the edition in which it is actual
abbrev pub applied_firing : Object → Firing
applied_firing o = record { key = o.key; edition = o.stamp.edition }

abbrev pub is_timed : Timing → UnitTree → Bool
is_timed at (unit.Trigger t) = same_timing at t.timing
is_timed at u = false

abbrev pub alone : Timing → Option Object → List Firing
alone at None = []
alone at (Some o) = if is_timed at o.tree then applied_firing o ∷ [] else []

-- ---- the triggers of a statement, for one timing

abbrev pub firings : Names → Place → Timing → SqlTree → List Firing
firings names p at (sql.Query q) = []
firings names p at (sql.Insert i) = names.fires p.edition i.table op.Insert at p.origin
firings names p at (sql.Update u) = names.fires p.edition u.table op.Update at p.origin
firings names p at (sql.Delete d) = names.fires p.edition d.table op.Delete at p.origin
firings names p at (sql.Apply name) = alone at (applied (names.view p.edition) name)

-- those whose bodies will run
abbrev pub ready_at : Names → Place → Timing → SqlTree → Result (List Ready) Code
ready_at names p at s = all_ready names (firings names p at s)

-- what a statement does to rows, as the bodies of its triggers see it
abbrev pub operation : SqlTree → Op
operation (sql.Insert i) = op.Insert
operation (sql.Delete d) = op.Delete
operation s = op.Update
