-- Blocks whose runs are computed.
use Rattle.std.proofs.Common.{◌≡◌, ℕ, List, [], ◌∷◌, codes, Bool, true, false, refl, ap, ◌∙◌}
use Rattle.std.specs.Prelude.{pos, if◌then◌else◌, Option, Some, None}
use Rattle.std.specs.Fmt.{digits}
use Rattle.ebr_base.specs.declared.code.Code.TheVariants.{Ora, Ebr}
use Rattle.ebr_base.specs.declared.value.Value.{Value}
use Rattle.ebr_base.specs.declared.value.Value.TheVariants as value
use Rattle.ebr_exprtree.specs.declared.expression.Path.{Path}
use Rattle.ebr_exprtree.specs.declared.expression.Expr.{Expr}
use Rattle.ebr_exprtree.specs.declared.expression.Expr.TheOpen as expr
use Rattle.ebr_exprtree.specs.declared.expression.Expr.TheViews.{roll-Expr, roll-Addend}
use Rattle.ebr_exprtree.specs.declared.expression.Comparison.{Comparison}
use Rattle.ebr_exprtree.specs.declared.expression.Comparison.TheVariants as comparison
use Rattle.ebr_exprtree.specs.declared.expression.AdditiveOperator.TheVariants as additive
use Rattle.ebr_ast.specs.declared.statement.Block as block
use Rattle.ebr_ast.specs.declared.statement.Block.{Block}
use denote.Hole.Carrier as carrier
use Rattle.ebr_ast.specs.declared.statement.Caught.TheVariants as caught
use Rattle.ebr_ast.specs.declared.statement.Decl.{Decl}
use Rattle.ebr_ast.specs.declared.statement.Decl.TheVariants as decl
use Rattle.ebr_ast.specs.declared.statement.DeclaredType.TheVariants as declared
use Rattle.ebr_ast.specs.declared.statement.Handler.{Handler}
use Rattle.ebr_ast.specs.declared.statement.Range.{Range}
use Rattle.ebr_ast.specs.declared.statement.Stmt.{Stmt}
use Rattle.ebr_ast.specs.declared.statement.Stmt.TheOpen as stmt
use Rattle.ebr_ast.specs.declared.statement.Stmt.TheViews.{roll-Stmt, roll-Block, roll-Branch, roll-Handler}
use Rattle.ebr_ast.specs.declared.unit.UnitTree.TheVariants as unit
use Rattle.ebr_ast.specs.declared.view.EditionView.{EditionView}
use Rattle.ebr_value.specs.declared.form.BinOp.TheVariants as op
use Rattle.ebr_value.specs.Outcomes.{whole}
use Rattle.ebr_expr.specs.Operators.{compared_by}
use Rattle.ebr_base.specs.Values.{text_value}
use Rattle.ebr_ast.specs.declared.statement.Target.TheVariants as target
use Rattle.ebr_value.specs.Texts.{printed}
use Rattle.ebr_run.specs.State.{State, Runs, line, bare, done, loop, then_run, raises}
use Rattle.ebr_run.specs.declared.fault.Exception.{Exception}
use Rattle.ebr_run.specs.declared.fault.Fault.TheVariants as fault
use Rattle.ebr_run.specs.declared.place.VariableType.TheVariants.{Unknown}
use Rattle.ebr_run.specs.Faults.{ora}
use Rattle.ebr_run.specs.Values.{on_value, is_true, assign, unfit, known_of}
use Rattle.ebr_run.specs.Scope.{part, with_counter, next_variable, declared_type, fault_of, meant, meant_at, raised_at}
use Rattle.ebr_run.specs.Expressions.{Reading, Term, reading_of, term_of, name_reading, further, summed, of_two}
use Rattle.ebr_run.specs.Statements.{Meaning, Handling, meaning_of, block_meaning, over_numbers, run_all, guarded, raise, declare_all, with_decls, assigned, target_place, choose, exits}
use Rattle.ebr_run.specs.Calls.{entered, calls_of}
use Rattle.ebr_run.specs.Units.{outside, parts_of}
use Rattle.ebr_run.specs.Run.{Frame, Run, Seen, Returned, Raised, seen, start}
use Rattle.ebr_run.proofs.Layers.{reading-roll, term-roll, meaning-roll, block-roll, branch-roll, handler-roll}

abbrev frame : Frame
frame = record { row = None; room = 1000 }

-- ---- trees and what they do

abbrev path : List ℕ → Path
path n = record { name = n; member = None }

abbrev name : List ℕ → Expr
name n = roll-Expr (expr.Name (path n))

abbrev reads_name : List ℕ → Reading
reads_name n env calls next σ = name_reading (meant env (path n)) env calls next σ

of_name : (n : List ℕ) → reading_of (name n) ≡ reads_name n
of_name n = reading-roll (expr.Name (path n))

abbrev number : ℕ → Expr
number n = roll-Expr (expr.Number n)

abbrev reads_number : ℕ → Reading
reads_number n env calls next σ = on_value (whole (pos n)) next σ

of_number : (n : ℕ) → reading_of (number n) ≡ reads_number n
of_number n = reading-roll (expr.Number n)

abbrev times : Reading → Reading → Reading
times a b env calls next σ = a env calls (λ x τ. further op.Multiply (b ∷ []) x env calls next τ) σ

of_product : (a b : Expr) → reading_of (roll-Expr (expr.Product a (b ∷ []))) ≡ times (reading_of a) (reading_of b)
of_product a b = reading-roll (expr.Product a (b ∷ []))

abbrev prints : Reading → Meaning
prints r env calls σ = r env calls (λ v. line (printed v)) σ

of_put_line : (e : Expr) → meaning_of (roll-Stmt (stmt.PutLine e)) ≡ prints (reading_of e)
of_put_line e = meaning-roll (stmt.PutLine e)

abbrev range : List ℕ → Bool → Expr → Expr → Range
range n reversed low high = record { name = n; reversed = reversed; low = low; high = high }

abbrev goes_through : List ℕ → Bool → Reading → Reading → Meaning → Meaning
goes_through n reversed a b m env calls σ =
    a env calls (λ low τ. b env calls (λ high υ. over_numbers env.variables reversed low high (run_all 0 (m ∷ []) (with_counter n env) calls) (bare υ)) τ) σ

of_range : (n : List ℕ) (reversed : Bool) (low high : Expr) (s : Stmt)
    → meaning_of (roll-Stmt (stmt.ForRange (range n reversed low high) (s ∷ []))) ≡ goes_through n reversed (reading_of low) (reading_of high) (meaning_of s)
of_range n reversed low high s = meaning-roll (stmt.ForRange (range n reversed low high) (s ∷ []))

abbrev body : Stmt → Block
body s = roll-Block (record { declarations = []; statements = s ∷ []; handlers = [] })

abbrev guards : Meaning → Meaning
guards m env calls σ = guarded (m ∷ []) [] env calls σ

of_body : (s : Stmt) → block_meaning (body s) ≡ guards (meaning_of s)
of_body s = block-roll (record { declarations = []; statements = s ∷ []; handlers = [] })

-- a run of a block that does m
abbrev ran : EditionView → Meaning → ℕ → Seen
ran v m left = seen (entered (record { formals = []; function = false; autonomous = false; run = m (outside v None) }) (calls_of (parts_of v)) [] (start [] frame left []))

of_block : (v : EditionView) (s : Stmt) (left : ℕ) → Run v (unit.Block (body s)) [] [] frame left [] ≡ ran v (guards (meaning_of s)) left
unfolding Run block.out-Block block.roll-Block carrier.out carrier.roll
of_block v s left = ap (λ m. ran v m left) (of_body s)

-- ---- examples

-- the text of a number
abbrev text : ℕ → List ℕ
text n = printed (value.Num (pos n))

-- FOR i IN 1 .. 3 LOOP DBMS_OUTPUT.PUT_LINE(i * i); END LOOP;
abbrev square : Expr
square = roll-Expr (expr.Product (name (codes "I")) (name (codes "I") ∷ []))

abbrev squares : Stmt
squares = roll-Stmt (stmt.ForRange (range (codes "I") false (number 1) (number 3)) (roll-Stmt (stmt.PutLine square) ∷ []))

of_square : reading_of square ≡ times (reads_name (codes "I")) (reads_name (codes "I"))
of_square = of_product (name (codes "I")) (name (codes "I")) ∙ ap (λ r. times r r) (of_name (codes "I"))

of_squares : meaning_of squares ≡ goes_through (codes "I") false (reads_number 1) (reads_number 3) (prints (times (reads_name (codes "I")) (reads_name (codes "I"))))
of_squares =
    of_range (codes "I") false (number 1) (number 3) (roll-Stmt (stmt.PutLine square))
    ∙ ap (λ r. goes_through (codes "I") false r (reading_of (number 3)) (meaning_of (roll-Stmt (stmt.PutLine square)))) (of_number 1)
    ∙ ap (λ r. goes_through (codes "I") false (reads_number 1) r (meaning_of (roll-Stmt (stmt.PutLine square)))) (of_number 3)
    ∙ ap (λ m. goes_through (codes "I") false (reads_number 1) (reads_number 3) m) (of_put_line square ∙ ap prints of_square)

squares_are_printed : (v : EditionView)
    → Run v (unit.Block (body squares)) [] [] frame 1000000 []
    ≡ record { asks = []; lines = codes "1" ∷ codes "4" ∷ codes "9" ∷ []; steps = 7; packages = []; new = None; room = 994; standing = Returned }
unfolding meant_at digits
squares_are_printed v = of_block v squares 1000000 ∙ ap (λ m. ran v (guards m) 1000000) of_squares ∙ refl

-- LOOP NULL; END LOOP; with 20 steps left
abbrev endless : Stmt
endless = roll-Stmt (stmt.Loop (roll-Stmt stmt.Null ∷ []))

abbrev nothing : Meaning
nothing env calls σ = done σ

abbrev loops : Meaning → Meaning
loops m env calls σ = loop done (run_all 0 (m ∷ []) env calls) σ

of_endless : meaning_of endless ≡ loops nothing
of_endless = meaning-roll (stmt.Loop (roll-Stmt stmt.Null ∷ [])) ∙ ap loops (meaning-roll stmt.Null)

endless_loop_is_stopped : (v : EditionView)
    → Run v (unit.Block (body endless)) [] [] frame 20 []
    ≡ record { asks = []; lines = []; steps = 21; packages = []; new = None; room = 1000; standing = Raised (Ebr 7) }
unfolding loop
endless_loop_is_stopped v = of_block v endless 20 ∙ ap (λ m. ran v (guards m) 20) of_endless ∙ refl

-- DECLARE e EXCEPTION; BEGIN RAISE e; END;
abbrev raising : Stmt
raising = roll-Stmt (stmt.Raise (Some (path (codes "E"))))

abbrev raises_it : Meaning
raises_it env calls σ = raise (Some (path (codes "E"))) env calls σ

of_raising : meaning_of raising ≡ raises_it
of_raising = meaning-roll (stmt.Raise (Some (path (codes "E"))))

abbrev declaring : List Decl → Stmt → Block
declaring ds s = roll-Block (record { declarations = ds; statements = s ∷ []; handlers = [] })

abbrev declares : List Decl → Meaning → Meaning
declares ds m env calls σ = declare_all ds env calls (guarded (m ∷ []) [] (with_decls ds env) calls) σ

of_declaring : (ds : List Decl) (s : Stmt) → block_meaning (declaring ds s) ≡ declares ds (meaning_of s)
of_declaring ds s = block-roll (record { declarations = ds; statements = s ∷ []; handlers = [] })

abbrev exceptions : List Decl
exceptions = decl.Exception (codes "E") ∷ []

exception_leaves_the_block : (v : EditionView)
    → Run v (unit.Block (declaring exceptions raising)) [] [] frame 1000000 []
    ≡ record { asks = []; lines = []; steps = 1; packages = []; new = None; room = 1000; standing = Raised (Ora 6510) }
unfolding Run block.out-Block block.roll-Block carrier.out carrier.roll raised_at
exception_leaves_the_block v =
    ap (λ m. ran v m 1000000) (of_declaring exceptions raising)
    ∙ ap (λ m. ran v (declares exceptions m) 1000000) of_raising
    ∙ refl

-- DECLARE n NUMBER := 0; e EXCEPTION;
-- BEGIN
--   WHILE n < 2 LOOP
--     n := n + 1;
--     BEGIN
--       IF n = 2 THEN RAISE e; END IF;
--       DBMS_OUTPUT.PUT_LINE('a');
--     EXCEPTION WHEN e THEN DBMS_OUTPUT.PUT_LINE('b');
--     END;
--   END LOOP;
-- END;
abbrev n : Expr
n = name (codes "N")

abbrev reads_n : Reading
reads_n = reads_name (codes "N")

abbrev literal : List ℕ → Expr
literal t = roll-Expr (expr.Text t)

abbrev reads_text : List ℕ → Reading
reads_text t env calls next σ = next (text_value t) σ

of_literal : (t : List ℕ) → reading_of (literal t) ≡ reads_text t
of_literal t = reading-roll (expr.Text t)

abbrev compare : Comparison → ℕ → Expr
compare c k = roll-Expr (expr.Compare c n (number k))

abbrev compares : Comparison → Reading → Reading → Reading
compares c a b env calls next σ = a env calls (λ x τ. of_two (compared_by c) x b env calls next τ) σ

of_compare : (c : Comparison) (k : ℕ) → reading_of (compare c k) ≡ compares c reads_n (reads_number k)
of_compare c k = reading-roll (expr.Compare c n (number k)) ∙ ap (λ r. compares c r (reading_of (number k))) (of_name (codes "N")) ∙ ap (compares c reads_n) (of_number k)

abbrev plus_one : Expr
plus_one = roll-Expr (expr.Sum n (roll-Addend (record { operator = additive.Add; term = number 1 }) ∷ []))

abbrev adds : Reading → Term → Reading
adds a t env calls next σ = a env calls (λ x τ. summed (t ∷ []) x env calls next τ) σ

of_plus_one : reading_of plus_one ≡ adds reads_n (record { operator = op.Add; operand = reads_number 1 })
of_plus_one =
    reading-roll (expr.Sum n (roll-Addend (record { operator = additive.Add; term = number 1 }) ∷ []))
    ∙ ap (λ r. adds r (term_of (roll-Addend (record { operator = additive.Add; term = number 1 })))) (of_name (codes "N"))
    ∙ ap (adds reads_n) (term-roll (record { operator = additive.Add; term = number 1 }) ∙ ap (λ r. record { operator = op.Add; operand = r }) (of_number 1))

abbrev counting_up : Stmt
counting_up = roll-Stmt (stmt.Assign (target.Name (path (codes "N"))) plus_one)

abbrev assigns : Reading → Meaning
assigns r env calls σ = r env calls (λ v. assigned (target_place env (target.Name (path (codes "N")))) v calls done) σ

of_counting_up : meaning_of counting_up ≡ assigns (adds reads_n (record { operator = op.Add; operand = reads_number 1 }))
of_counting_up = meaning-roll (stmt.Assign (target.Name (path (codes "N"))) plus_one) ∙ ap assigns of_plus_one

abbrev tests : Expr → Stmt → Stmt
tests c s = roll-Stmt (stmt.If (roll-Branch (record { condition = c; statements = s ∷ [] }) ∷ []) [])

abbrev decides : Reading → Meaning → Meaning
decides r m env calls σ =
    r env calls (λ v τ. if is_true v then run_all 0 (m ∷ []) (part 1 env) calls (bare τ) else run_all 0 [] (part 0 env) calls (bare τ)) σ

of_if : (c : Expr) (s : Stmt) → meaning_of (tests c s) ≡ decides (reading_of c) (meaning_of s)
of_if c s =
    meaning-roll (stmt.If (roll-Branch (record { condition = c; statements = s ∷ [] }) ∷ []) [])
    ∙ ap (λ b env calls σ. choose 0 (b ∷ []) (run_all 0 []) env calls σ) (branch-roll (record { condition = c; statements = s ∷ [] }))

abbrev repeats : Expr → Stmt → Stmt → Stmt
repeats c s t = roll-Stmt (stmt.While c (s ∷ t ∷ []))

abbrev whiles : Reading → Meaning → Meaning → Meaning
whiles r m k env calls σ =
    loop (λ τ. r env calls (λ v υ. if is_true v then done (bare υ) else exits (bare υ)) τ) (run_all 0 (m ∷ k ∷ []) env calls) σ

of_while : (c : Expr) (s t : Stmt) → meaning_of (repeats c s t) ≡ whiles (reading_of c) (meaning_of s) (meaning_of t)
of_while c s t = meaning-roll (stmt.While c (s ∷ t ∷ []))

abbrev handler_of_e : Stmt → Handler
handler_of_e s = roll-Handler (record { caught = caught.Named (path (codes "E") ∷ []); statements = s ∷ [] })

abbrev handles : Meaning → Handling
handles m = record { caught = caught.Named (path (codes "E") ∷ []); run = run_all 0 (m ∷ []) }

-- a block with two statements and a handler
abbrev guarding : Stmt → Stmt → Stmt → Stmt
guarding s t h = roll-Stmt (stmt.Block (roll-Block (record { declarations = []; statements = s ∷ t ∷ []; handlers = handler_of_e h ∷ [] })))

abbrev guards_both : Meaning → Meaning → Meaning → Meaning
guards_both m k h env calls σ = guarded (m ∷ k ∷ []) (handles h ∷ []) env calls σ

of_guarding : (s t h : Stmt) → meaning_of (guarding s t h) ≡ guards_both (meaning_of s) (meaning_of t) (meaning_of h)
of_guarding s t h =
    meaning-roll (stmt.Block (roll-Block (record { declarations = []; statements = s ∷ t ∷ []; handlers = handler_of_e h ∷ [] })))
    ∙ block-roll (record { declarations = []; statements = s ∷ t ∷ []; handlers = handler_of_e h ∷ [] })
    ∙ ap (λ x env calls σ. guarded (meaning_of s ∷ meaning_of t ∷ []) (x ∷ []) env calls σ) (handler-roll (record { caught = caught.Named (path (codes "E") ∷ []); statements = h ∷ [] }))

abbrev shows : List ℕ → Stmt
shows t = roll-Stmt (stmt.PutLine (literal t))

of_shows : (t : List ℕ) → meaning_of (shows t) ≡ prints (reads_text t)
of_shows t = of_put_line (literal t) ∙ ap prints (of_literal t)

abbrev inner : Stmt
inner = guarding (tests (compare comparison.Equal 2) raising) (shows (codes "a")) (shows (codes "b"))

abbrev does_inner : Meaning
does_inner = guards_both (decides (compares comparison.Equal reads_n (reads_number 2)) raises_it) (prints (reads_text (codes "a"))) (prints (reads_text (codes "b")))

of_inner : meaning_of inner ≡ does_inner
of_inner =
    of_guarding (tests (compare comparison.Equal 2) raising) (shows (codes "a")) (shows (codes "b"))
    ∙ ap (λ m. guards_both m (meaning_of (shows (codes "a"))) (meaning_of (shows (codes "b"))))
    (of_if (compare comparison.Equal 2) raising ∙ ap (λ r. decides r (meaning_of raising)) (of_compare comparison.Equal 2) ∙ ap (decides (compares comparison.Equal reads_n (reads_number 2))) of_raising)
    ∙ ap (λ m. guards_both (decides (compares comparison.Equal reads_n (reads_number 2)) raises_it) m (meaning_of (shows (codes "b")))) (of_shows (codes "a"))
    ∙ ap (guards_both (decides (compares comparison.Equal reads_n (reads_number 2)) raises_it) (prints (reads_text (codes "a")))) (of_shows (codes "b"))

abbrev twice : Stmt
twice = repeats (compare comparison.Less 2) counting_up inner

abbrev does_twice : Meaning
does_twice = whiles (compares comparison.Less reads_n (reads_number 2)) (assigns (adds reads_n (record { operator = op.Add; operand = reads_number 1 }))) does_inner

of_twice : meaning_of twice ≡ does_twice
of_twice =
    of_while (compare comparison.Less 2) counting_up inner
    ∙ ap (λ r. whiles r (meaning_of counting_up) (meaning_of inner)) (of_compare comparison.Less 2)
    ∙ ap (λ m. whiles (compares comparison.Less reads_n (reads_number 2)) m (meaning_of inner)) of_counting_up
    ∙ ap (whiles (compares comparison.Less reads_n (reads_number 2)) (assigns (adds reads_n (record { operator = op.Add; operand = reads_number 1 })))) of_inner

abbrev n_and_e : Option Expr → List Decl
n_and_e e = decl.Variable (codes "N") false declared.Integer e ∷ decl.Exception (codes "E") ∷ []

-- the first value of n is 0
abbrev declares_both : Reading → Meaning → Meaning
declares_both r m env calls σ =
    r env calls (λ v τ. then_run (assign (next_variable env) (Some (declared_type env.view declared.Integer)) v τ)
    (guarded (m ∷ []) [] (with_decls (n_and_e (Some (number 0))) env) calls)) σ

handler_takes_what_it_names : (v : EditionView)
    → Run v (unit.Block (declaring (n_and_e (Some (number 0))) twice)) [] [] frame 1000000 []
    ≡ record { asks = []; lines = codes "a" ∷ codes "b" ∷ []; steps = 12; packages = []; new = None; room = 996; standing = Returned }
unfolding Run block.out-Block block.roll-Block carrier.out carrier.roll meant_at raised_at loop
handler_takes_what_it_names v =
    ap (λ m. ran v m 1000000) (of_declaring (n_and_e (Some (number 0))) twice)
    ∙ ap (λ r. ran v (declares_both r (meaning_of twice)) 1000000) (of_number 0)
    ∙ ap (λ m. ran v (declares_both (reads_number 0) m) 1000000) of_twice
    ∙ refl

-- ---- codes that EXCEPTION_INIT gives, and a type that isn't known

own_code : (e : Exception) → fault_of (Some 20999) e ≡ ora 20999
own_code e = refl

no_code_behind : (e : Exception) → fault_of (Some 21000) e ≡ fault.User e
no_code_behind e = refl

no_code_above : (e : Exception) → fault_of (Some 5000000000) e ≡ fault.User e
no_code_above e = refl

no_code_of_no_row : (e : Exception) → fault_of (Some 1403) e ≡ fault.User e
no_code_of_no_row e = refl

takes_every : (v : Value) → unfit (Some Unknown) v ≡ None
takes_every v = refl

fits_every : known_of (Some Unknown) ≡ None
fits_every = refl

-- ---- bounds of FOR that aren't two numbers

null_bound : (reversed : Bool) (body : Runs) (σ : State) → over_numbers 0 reversed value.Null (value.Num (pos 1)) body σ ≡ raises (ora 6502) σ
null_bound reversed body σ = refl

-- that of another type goes before the one that is NULL
other_type : (reversed : Bool) (body : Runs) (σ : State) → over_numbers 0 reversed value.Null (value.Bool true) body σ ≡ raises (ora 932) σ
other_type reversed body σ = refl

first_of_other_type : (reversed : Bool) (body : Runs) (σ : State) → over_numbers 0 reversed (value.Bool true) value.Null body σ ≡ raises (ora 932) σ
first_of_other_type reversed body σ = refl
