-- What the blocks of the worked scripts do.
use Rattle.std.proofs.Common.{◌≡◌, ℕ, Bool, true, false, List, [], ◌∷◌, codes, refl, ap, ◌∙◌}
use Rattle.std.specs.Prelude.{zero, suc, Option, Some, None, option_and_then, if◌then◌else◌}
use Rattle.ebr_base.specs.Values.{text_value}
use Rattle.ebr_base.specs.declared.numbers.EditionNo.{EditionNo}
use Rattle.ebr_ast.specs.declared.statement.Block as block
use Rattle.ebr_ast.specs.declared.statement.Stmt.{Stmt}
use Rattle.ebr_ast.specs.declared.statement.Stmt as statement
use Rattle.ebr_ast.specs.declared.statement.Stmt.TheVariants as stmt
use Rattle.ebr_ast.specs.declared.statement.Stmt.TheOpen as form
use Rattle.ebr_ast.specs.declared.unit.UnitTree.{UnitTree}
use Rattle.ebr_ast.specs.declared.unit.UnitTree.TheVariants as unit
use Rattle.ebr_ast.specs.declared.view.EditionView.{EditionView}
use Rattle.ebr_ast.specs.declared.view.Object.{Object}
use Rattle.ebr_ast.specs.Views.{unit_key}
use Rattle.ebr_base.specs.Keys.{same_key}
use Rattle.ebr_exprtree.specs.declared.expression.Expr as expression
use Rattle.ebr_exprtree.specs.declared.expression.Expr.{Expr}
use Rattle.ebr_exprtree.specs.declared.expression.Expr.TheVariants as e
use Rattle.ebr_exprtree.specs.declared.expression.Expr.TheOpen as expression_form
use Rattle.ebr_exprtree.specs.declared.expression.Path.{Path}
use denote.Hole.Carrier as carrier
use Rattle.ebr_asks.specs.declared.answer.Answer.{Answer}
use Rattle.ebr_expr.specs.Operators.{builtin_named}
use Rattle.ebr_value.specs.Texts.{printed}
use Rattle.ebr_run.specs.State.{line}
use Rattle.ebr_run.specs.Scope.{applied_at}
use Rattle.ebr_run.specs.Expressions.{Calls, Reading, reading_of}
use Rattle.ebr_run.specs.Statements.{Meaning, block_meaning, call, guarded, meaning_of}
use Rattle.ebr_run.specs.declared.callee.Callee.{Callee}
use Rattle.ebr_run.specs.Calls.{Part, Parts, calls_of, entered}
use Rattle.ebr_run.specs.Units.{called_part, if_valid, outside, part_at, parts_of, valid_unit, with_specification, within_subprogram}
use Rattle.ebr_run.specs.Run.{Frame, Run, Seen, Returned, seen, start}
use Rattle.ebr_run.proofs.Layers.{block-roll, meaning-roll, reading-roll}
use Rattle.ebr_servertests.specs.WorkedScripts.{block_of, call_of, printing}
use Rattle.ebr_servertests.proofs.Valid.{made_in, procedure_is_valid, procedure_of, seeing}

abbrev frame : ℕ → Frame
frame room = record { row = None; room = room }

abbrev path : List ℕ → Path
path n = record { name = n; member = None }

-- ---- what statements do

abbrev guards : Meaning → Meaning
guards m env calls σ = guarded (m ∷ []) [] env calls σ

of_block_of : (s : Stmt) → block_meaning (block_of s) ≡ guards (meaning_of s)
unfolding block.roll-Block carrier.roll
of_block_of s = block-roll (record { declarations = []; statements = s ∷ []; handlers = [] })

abbrev reads_text : List ℕ → Reading
reads_text content env calls next σ = next (text_value content) σ

of_text : (content : List ℕ) → reading_of (e.Text content) ≡ reads_text content
unfolding expression.roll-Expr carrier.roll
of_text content = reading-roll (expression_form.Text content)

abbrev prints : Reading → Meaning
prints r env calls σ = r env calls (λ v. line (printed v)) σ

of_put_line : (x : Expr) → meaning_of (stmt.PutLine x) ≡ prints (reading_of x)
unfolding statement.roll-Stmt carrier.roll
of_put_line x = meaning-roll (form.PutLine x)

of_printing : (content : List ℕ) → block_meaning (printing content) ≡ guards (prints (reads_text content))
of_printing content = of_block_of (stmt.PutLine (e.Text content)) ∙ ap guards (of_put_line (e.Text content) ∙ ap prints (of_text content))

abbrev called : List ℕ → Meaning
called name env calls σ = call (path name) (Some []) env calls σ

of_call : (name : List ℕ) → meaning_of (stmt.Call (path name) (Some [])) ≡ called name
unfolding statement.roll-Stmt carrier.roll
of_call name = meaning-roll (form.Call (path name) (Some []))

-- ---- the run of a block that calls the procedure A, which prints a line

-- a run that does m
abbrev ran : EditionView → Calls → Meaning → ℕ → List Answer → Seen
ran v calls m room answers = seen (entered (record { formals = []; function = false; autonomous = false; run = m (outside v None) }) calls [] (start [] (frame room) 1000000 answers))

of_block : (v : EditionView) (s : Stmt) (room : ℕ) (answers : List Answer)
    → Run v (unit.Block (block_of s)) [] [] (frame room) 1000000 answers ≡ ran v (calls_of (parts_of v)) (guards (meaning_of s)) room answers
unfolding Run block.out-Block block.roll-Block carrier.out carrier.roll
of_block v s room answers = ap (λ m. ran v (calls_of (parts_of v)) m room answers) (of_block_of s)

abbrev a : List ℕ
a = codes "A"

-- the part at this place, where it is the first
abbrev at_first : ℕ → Part → Option Part
at_first zero p = Some p
at_first (suc n) p = None

module _ (at : EditionNo) (text content : List ℕ) where
  abbrev v : EditionView
  v = seeing at (made_in at text content)

  abbrev tree : UnitTree
  tree = procedure_of a content

  -- a procedure without parameters that does m
  abbrev part_of : Meaning → Part
  part_of m = record { formals = []; function = false; autonomous = false; run = m (within_subprogram (record { name = a; parameters = []; result = None }) (outside v (Some (unit_key a)))) }

  abbrev found : Bool → Option Object
  found b = if b then Some (made_in at text content) else None

  first_part : (n : ℕ) → part_at v tree n ≡ at_first n (part_of (block_meaning (printing content)))
  unfolding block.out-Block block.roll-Block carrier.out carrier.roll
  first_part zero = refl
  first_part (suc n) = refl

  valid_tree : if_valid v tree ≡ Some tree
  valid_tree = ap (λ valid. if valid then Some tree else None) (procedure_is_valid v a content)

  found_part : (b : Bool) (n : ℕ) → option_and_then (λ (u : UnitTree). part_at v u n) (option_and_then (λ (o : Object). if_valid v o.tree) (found b))
      ≡ (if b then at_first n (part_of (block_meaning (printing content))) else None)
  found_part true n = ap (option_and_then (λ (u : UnitTree). part_at v u n)) valid_tree ∙ first_part n
  found_part false n = refl

  -- what the edition has, where its procedure does m
  abbrev parts_with : Meaning → Parts
  parts_with m = record {
    part = λ f. with_specification f.unit.class (valid_unit v (unit_key f.unit.name)) (if same_key f.unit (unit_key a) then at_first f.place (part_of m) else None);
    making = (parts_of v).making;
    made = (parts_of v).made;
    objects = (parts_of v).objects;
  }

  called_as : (f : Callee) → called_part v f ≡ (parts_with (block_meaning (printing content))).part f
  called_as f = ap (with_specification f.unit.class (valid_unit v (unit_key f.unit.name))) (found_part (same_key f.unit (unit_key a)) f.place)

  parts_as : parts_of v ≡ parts_with (block_meaning (printing content))
  parts_as = λ i. record { part = λ f. called_as f i; making = (parts_of v).making; made = (parts_of v).made; objects = (parts_of v).objects }

  called_runs : (room : ℕ) (answers : List Answer) → Run v (unit.Block (call_of a)) [] [] (frame room) 1000000 answers
      ≡ ran v (calls_of (parts_with (guards (prints (reads_text content))))) (guards (called a)) room answers
  called_runs room answers =
      of_block v (stmt.Call (path a) (Some [])) room answers
      ∙ ap (λ m. ran v (calls_of (parts_of v)) (guards m) room answers) (of_call a)
      ∙ ap (λ p. ran v (calls_of p) (guards (called a)) room answers) parts_as
      ∙ ap (λ m. ran v (calls_of (parts_with m)) (guards (called a)) room answers) (of_printing content)

-- what is seen of a run that prints a line in two steps
abbrev pub prints_one : List ℕ → ℕ → Seen
prints_one content room = record { asks = []; lines = content ∷ []; steps = 2; packages = []; new = None; room = room; standing = Returned }

pub a_prints : (at : EditionNo) (text : List ℕ) (answers : List Answer)
    → Run (seeing at (made_in at text (codes "a"))) (unit.Block (call_of a)) [] [] (frame 16777216) 1000000 answers ≡ prints_one (codes "a") 16777214
unfolding applied_at builtin_named
a_prints at text answers = called_runs at text (codes "a") 16777216 answers ∙ refl

pub b_prints : (at : EditionNo) (text : List ℕ) (answers : List Answer)
    → Run (seeing at (made_in at text (codes "b"))) (unit.Block (call_of a)) [] [] (frame 16777216) 1000000 answers ≡ prints_one (codes "b") 16777214
unfolding applied_at builtin_named
b_prints at text answers = called_runs at text (codes "b") 16777216 answers ∙ refl

pub a_prints_next : (at : EditionNo) (text : List ℕ) (answers : List Answer)
    → Run (seeing at (made_in at text (codes "a"))) (unit.Block (call_of a)) [] [] (frame 16777214) 1000000 answers ≡ prints_one (codes "a") 16777212
unfolding applied_at builtin_named
a_prints_next at text answers = called_runs at text (codes "a") 16777214 answers ∙ refl
