-- What the code holds of the triggers of a statement.
use Rattle.std.specs.Prelude.{◌≡◌, ℕ, List, map, Some, Result, Ok, Err}
use Rattle.std.specs.List.{AllByRecursion}
use Rattle.ebr_base.specs.declared.code.Code.{Code}
use Rattle.ebr_base.specs.declared.code.Stop.{Stop}
use Rattle.ebr_base.specs.declared.code.Stop.TheVariants.{Raised, NoMemory}
use Rattle.ebr_base.specs.declared.numbers.EditionNo.{EditionNo}
use Rattle.ebr_base.specs.declared.value.Value.{Value}
use Rattle.ebr_exprtree.specs.declared.op.Op.{Op}
use Rattle.ebr_ast.specs.declared.kinds.Origin.{Origin}
use Rattle.ebr_ast.specs.declared.sql.SqlTree.{SqlTree}
use Rattle.ebr_ast.specs.declared.unit.UnitTree.{UnitTree}
use Rattle.ebr_ast.specs.declared.view.EditionView.{EditionView}
use Rattle.ebr_sqlcheck.specs.Checked.{on}
use Rattle.ebr_tx.specs.Data.{Data}
use Rattle.ebr_exec.specs.Places.{Names, Place}
use Rattle.ebr_code.specs.Units.{unit_code}
use Rattle.ebr_statements.specs.declared.ready.Ready.{Ready as Held}
use Rattle.ebr_statements.specs.declared.start.Start.{Start as CodeStart}
use Rattle.ebr_statements.specs.declared.start.Work.{Work as Triggers}
use Rattle.ebr_bodies.specs.Ready.{Ready, ready_unit}
use Rattle.ebr_bodies.specs.Statements.{Start, rows_started, triggers_ready}

abbrev pub ready_of : Held → Ready
ready_of h = record { edition = h.edition; origin = h.origin; tree = h.object.tree; places = h.places }

-- It has the book of its edition, and the code of its tree.
pub record IsServed (view : EditionNo → EditionView) (h : Held) : Type 0 where
  pub book : h.book ≡ view h.edition
  pub unit : h.unit ≡ unit_code (view h.edition) h.object.tree

abbrev pub AreServed : (EditionNo → EditionView) → List Held → Type 0
AreServed view hs = AllByRecursion (IsServed view) hs

-- what a tree's body runs with, or the code
abbrev pub IsMadeOf : EditionView → EditionNo → UnitTree → Result (Origin × List ℕ) Stop → Type 0
IsMadeOf v e u (Ok made) = ready_unit v e (Some u) ≡ Ok (record { edition = e; origin = made.0; tree = u; places = made.1 })
IsMadeOf v e u (Err (Raised code)) = ready_unit v e (Some u) ≡ Err code
IsMadeOf v e u (Err NoMemory) = Unit {0}

-- a trigger that is ready, or the code
abbrev pub GivesReady : (EditionNo → EditionView) → Result Held Stop → Result Ready Code → Type 0
GivesReady view (Ok h) defined = (defined ≡ Ok (ready_of h)) × IsServed view h
GivesReady view (Err (Raised code)) defined = defined ≡ Err code
GivesReady view (Err NoMemory) defined = Unit {0}

-- triggers that are, or the code
abbrev pub GiveReady : (EditionNo → EditionView) → Result (List Held) Stop → Result (List Ready) Code → Type 0
GiveReady view (Ok hs) defined = (defined ≡ Ok (map ready_of hs)) × AreServed view hs
GiveReady view (Err (Raised code)) defined = defined ≡ Err code
GiveReady view (Err NoMemory) defined = Unit {0}

-- both timings, and what is done to the rows
pub record Serves (view : EditionNo → EditionView) (o : Op) (w : Triggers) (before after : List Ready) : Type 0 where
  pub operation : w.operation ≡ o
  pub before_is : before ≡ map ready_of w.before
  pub after_is : after ≡ map ready_of w.after
  pub before_served : AreServed view w.before
  pub after_served : AreServed view w.after

-- the triggers of both timings, or the first code
abbrev pub ServesAt : (EditionNo → EditionView) → Op → Result Triggers Stop → Result (List Ready) Code → Result (List Ready) Code → Type 0
ServesAt view o (Ok w) before after = (b : List Ready) × (a : List Ready) × (before ≡ Ok b) × (after ≡ Ok a) × Serves view o w b a
ServesAt view o (Err (Raised code)) before after = on (λ b. after) before ≡ Err code
ServesAt view o (Err NoMemory) before after = Unit {0}

-- a change with its rows and its triggers
abbrev pub started_with : Names → Place → SqlTree → List Value → Data → Result Start Code
started_with names p s binds d = on (triggers_ready names p s) (rows_started names p s binds d)

-- a change that starts, or the code
abbrev pub Starts : (EditionNo → EditionView) → Op → Result CodeStart Stop → Result Start Code → Type 0
Starts view o (Ok b) defined = (k : Start) × (defined ≡ Ok k) × (k.standing ≡ b.rows) × Serves view o b.work k.before k.after
Starts view o (Err (Raised code)) defined = defined ≡ Err code
Starts view o (Err NoMemory) defined = Unit {0}
