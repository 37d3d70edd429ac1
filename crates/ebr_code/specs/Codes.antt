-- The slot code of expressions, statements and blocks: one line for each kind, with the code of its parts.
use Rattle.std.specs.Prelude.{ℕ, zero, suc, pos, Bool, true, false, List, [], ◌∷◌, ◌++◌, map, filter_map, length, Option, Some, None, Ok, Err}
use Rattle.ebr_base.specs.declared.object.Class.{Class}
use Rattle.ebr_base.specs.declared.object.Class.TheVariants as class
use Rattle.ebr_base.specs.declared.object.ObjectKey.{ObjectKey}
use Rattle.ebr_base.specs.declared.value.Value.TheVariants as value
use Rattle.ebr_base.specs.Values.{text_value}
use Rattle.ebr_exprtree.specs.declared.expression.Attribute.{Attribute as Asked}
use Rattle.ebr_exprtree.specs.declared.expression.Path.{Path}
use Rattle.ebr_exprtree.specs.declared.expression.RowImage.{RowImage}
use Rattle.ebr_exprtree.specs.declared.expression.RowImage.TheVariants as image
use Rattle.ebr_exprtree.specs.declared.expression.Expr.{Expr}
use Rattle.ebr_exprtree.specs.declared.expression.Addend.{Addend}
use Rattle.ebr_exprtree.specs.declared.expression.Expr.TheOpen.{Expr-F, Addend-F}
use Rattle.ebr_exprtree.specs.declared.expression.Expr.TheOpen as expr
use Rattle.ebr_exprtree.specs.declared.expression.Expr.TheFolds.{fold-Expr, fold-Addend}
use Rattle.ebr_ast.specs.declared.query.Query.{Query}
use Rattle.ebr_ast.specs.declared.sql.SqlTree.{SqlTree}
use Rattle.ebr_ast.specs.declared.sql.SqlTree.TheVariants as statement
use Rattle.ebr_ast.specs.declared.statement.Block.{Block}
use Rattle.ebr_ast.specs.declared.statement.Caught.{Caught}
use Rattle.ebr_ast.specs.declared.statement.Caught.TheVariants as caught_by
use Rattle.ebr_ast.specs.declared.statement.CursorStmt.{CursorStmt}
use Rattle.ebr_ast.specs.declared.statement.CursorStmt.TheVariants as cursor
use Rattle.ebr_ast.specs.declared.statement.Decl.{Decl}
use Rattle.ebr_ast.specs.declared.statement.Decl.TheVariants as decl
use Rattle.ebr_ast.specs.declared.statement.Handler.{Handler}
use Rattle.ebr_ast.specs.declared.statement.Range.{Range}
use Rattle.ebr_ast.specs.declared.statement.Rows.{Rows}
use Rattle.ebr_ast.specs.declared.statement.SqlStmt.{SqlStmt}
use Rattle.ebr_ast.specs.declared.statement.SqlStmt.TheVariants as sql
use Rattle.ebr_ast.specs.declared.statement.Stmt.{Stmt}
use Rattle.ebr_ast.specs.declared.statement.Stmt.TheOpen.{Stmt-F, Block-F, Branch-F, Handler-F}
use Rattle.ebr_ast.specs.declared.statement.Stmt.TheOpen as stmt
use Rattle.ebr_ast.specs.declared.statement.Stmt.TheFolds.{fold-Stmt, fold-Block, fold-Handler}
use Rattle.ebr_ast.specs.declared.unit.Mode.{Mode}
use Rattle.ebr_ast.specs.declared.unit.Mode.TheVariants as mode
use Rattle.ebr_ast.specs.declared.unit.Parameter.{Parameter}
use Rattle.ebr_value.specs.declared.form.BinOp.{BinOp}
use Rattle.ebr_value.specs.declared.form.BinOp.TheVariants as op
use Rattle.ebr_value.specs.declared.form.Builtin.{Builtin}
use Rattle.ebr_value.specs.declared.form.Builtin.TheVariants as builtin
use Rattle.ebr_value.specs.Outcomes.{Outcome as Computed, whole}
use Rattle.ebr_expr.specs.Operators.{compared_by, added_by, builtin_at}
use Rattle.ebr_sqlcheck.specs.Types.{Known}
use Rattle.ebr_scope.specs.Meanings.{Word}
use Rattle.ebr_run.specs.declared.callee.Callee.{Callee}
use Rattle.ebr_run.specs.declared.callee.Reference.TheVariants as reference
use Rattle.ebr_run.specs.declared.fault.Fault.{Fault}
use Rattle.ebr_run.specs.declared.fault.Fault.TheVariants as fault
use Rattle.ebr_run.specs.declared.place.Bind.{Bind}
use Rattle.ebr_run.specs.declared.place.Bind.TheVariants as bind
use Rattle.ebr_run.specs.declared.place.Location.{Location}
use Rattle.ebr_run.specs.declared.place.Location.TheVariants.{Own, Member}
use Rattle.ebr_run.specs.Scope.{Env, Denoted, Variable, Exception, Cursor, Subprogram, Bound, application_error, callee, declared_type, meant, meant_at, called, applied, raised, column_place, part, within_handler, next_variable, next_cursor, with_counter, known_fields}
use Rattle.ebr_run.specs.Binds.{bound_query, bound_insert, bound_update, bound_delete}
use Rattle.ebr_run.specs.Statements.{Place, Stored, New, Nowhere, Source, target_place, place_type, outs, unless_builtin, exception_named, field_type, source_of, in_rows, with_decl, with_decls}
use Rattle.ebr_code.specs.declared.instruction.Caught as caught
use Rattle.ebr_code.specs.declared.instruction.Caught.TheVariants as catching
use Rattle.ebr_code.specs.declared.instruction.Handler as coded
use Rattle.ebr_code.specs.declared.instruction.Instruction.TheViews.{roll-Handler}
use Rattle.ebr_code.specs.declared.instruction.Lookup.{Lookup}
use Rattle.ebr_code.specs.declared.instruction.Lookup.TheVariants as lookup
use Rattle.ebr_code.specs.declared.instruction.Operation.TheVariants as does
use Rattle.ebr_code.specs.declared.instruction.Instruction.{Instruction, Do, Decide, If, Loop, Numbers, Guard, Closing}

-- the code of something where it stands
abbrev pub Coded : Type 0
Coded = Env → List Instruction

-- one after the other
abbrev pub listed : List Coded → Coded
listed [] env = []
listed (c ∷ cs) env = c env ++ listed cs env

-- ---- names

abbrev pub refer_code : Location → List Instruction
refer_code (Own k) = []
refer_code (Member p k) = Do (does.Refer reference.Data p) ∷ []

abbrev pub load_code : Location → List Instruction
load_code l = refer_code l ++ Do (does.Load l) ∷ []

abbrev pub refer_unit : Class → Word → List Instruction
refer_unit class.Body p = Do (does.Refer reference.Other p) ∷ []
refer_unit c p = []

abbrev pub call_code : Callee → List Instruction
call_code f = refer_unit f.unit.class f.unit.name ++ Do (does.Call f) ∷ []

abbrev pub function_code : ObjectKey → ℕ → List Coded → Coded
function_code key at cs env = listed cs env ++ call_code (callee key at (length cs) 1)

abbrev pub name_code : Option Denoted → Coded
name_code (Some (Variable l t)) env = load_code l
name_code (Some (Subprogram key at h)) env = function_code key at [] env
name_code d env = Do does.Broken ∷ []

abbrev pub applied_code : Option Denoted → List Coded → Coded
applied_code (Some (Subprogram key at h)) cs env = function_code key at cs env
applied_code d cs env = Do does.Broken ∷ []

abbrev pub calls_code : Option Builtin → Path → List Coded → Coded
calls_code (Some f) path cs env = listed cs env ++ Do (does.Function f (length cs)) ∷ []
calls_code None path cs env = applied_code (applied env path) cs env

abbrev pub image_code : RowImage → Option ℕ → List Instruction
image_code i (Some k) = Do (does.LoadColumn i k) ∷ []
image_code i None = Do does.Broken ∷ []

-- ---- operators

abbrev pub value_code : Computed → List Instruction
value_code (Ok v) = Do (does.Push v) ∷ []
value_code (Err c) = Do (does.Raise (fault.Code c)) ∷ []

-- whether an operator's left operand may decide alone
abbrev pub may_decide : BinOp → Bool
may_decide op.And = true
may_decide op.Or = true
may_decide o = false

-- the right operand of an operator, and the operator
abbrev pub deciding : Bool → BinOp → List Instruction → List Instruction
deciding true o b = Decide o (b ++ Do (does.Binary o) ∷ []) ∷ []
deciding false o b = b ++ Do (does.Binary o) ∷ []

abbrev pub right_code : BinOp → List Instruction → List Instruction
right_code o b = deciding (may_decide o) o b

pub record Term : Type 0 where
  pub operator : BinOp
  pub operand : Coded

abbrev pub further_code : BinOp → List Coded → Coded
further_code o [] env = []
further_code o (c ∷ cs) env = right_code o (c env) ++ further_code o cs env

abbrev pub summed_code : List Term → Coded
summed_code [] env = []
summed_code (t ∷ ts) env = right_code t.operator (t.operand env) ++ summed_code ts env

abbrev pub not_code : Bool → List Instruction
not_code true = Do (does.Function builtin.Not 1) ∷ []
not_code false = []

-- x stands beneath what was found so far
abbrev pub beside : BinOp → List Instruction → List Instruction
beside o b = Do does.Over ∷ (b ++ Do (does.Binary o) ∷ [])

abbrev pub between_code : List Instruction → List Instruction → List Instruction
between_code a b = Do does.Copy ∷ (a ++ (Do (does.Binary op.GreaterOrEqual) ∷ (right_code op.And (beside op.LessOrEqual b) ++ Do does.Nip ∷ [])))

abbrev pub among_code : List Coded → Coded
among_code [] env = Do does.Nip ∷ []
among_code (c ∷ cs) env = right_code op.Or (beside op.Equal (c env)) ++ among_code cs env

-- ---- attributes

abbrev pub cursor_code : Asked → Option Denoted → List Instruction
cursor_code a (Some (Cursor l q fs)) = refer_code l ++ Do (does.Attribute l a) ∷ []
cursor_code a d = Do does.Broken ∷ []

abbrev pub attribute_code : Option Word → Asked → Coded
attribute_code None a env = Do (does.Affected a) ∷ []
attribute_code (Some c) a env = cursor_code a (meant_at env c None)

abbrev pub sqlcode_code : ℕ → List Instruction
sqlcode_code zero = Do (does.Push (value.Num (pos 0))) ∷ []
sqlcode_code (suc n) = Do (does.SqlCode n) ∷ []

-- ---- expressions

abbrev pub expr_codes : Expr-F Coded Term → Coded
expr_codes (expr.Number n) env = value_code (whole (pos n))
expr_codes (expr.Text t) env = Do (does.Push (text_value t)) ∷ []
expr_codes expr.Null env = Do (does.Push value.Null) ∷ []
expr_codes (expr.Boolean b) env = Do (does.Push (value.Bool b)) ∷ []
expr_codes (expr.Name path) env = name_code (meant env path) env
expr_codes (expr.Call path cs) env = calls_code (builtin_at path.name path.member) path cs env
expr_codes (expr.Row i c) env = image_code i (column_place env c)
expr_codes expr.SqlCode env = sqlcode_code env.handlers
expr_codes (expr.Firing event) env = Do (does.Firing event) ∷ []
expr_codes (expr.Attribute c a) env = attribute_code c a env
expr_codes (expr.Quotient a b) env = a env ++ right_code op.Quotient (b env)
expr_codes (expr.Plus a) env = a env ++ Do does.Unsigned ∷ []
expr_codes (expr.Minus a) env = a env ++ Do (does.Function builtin.Negate 1) ∷ []
expr_codes (expr.Product a more) env = a env ++ further_code op.Multiply more env
expr_codes (expr.Sum a more) env = a env ++ summed_code more env
expr_codes (expr.Compare c a b) env = a env ++ right_code (compared_by c) (b env)
expr_codes (expr.IsNull a negated) env = a env ++ (Do (does.Function builtin.IsNull 1) ∷ not_code negated)
expr_codes (expr.Between x a b negated) env = x env ++ (between_code (a env) (b env) ++ not_code negated)
expr_codes (expr.In x cs negated) env = x env ++ (Do (does.Push (value.Bool false)) ∷ (among_code cs env ++ not_code negated))
expr_codes (expr.Like a b negated) env = a env ++ (right_code op.Like (b env) ++ not_code negated)
expr_codes (expr.Not a) env = a env ++ Do (does.Function builtin.Not 1) ∷ []
expr_codes (expr.And a more) env = a env ++ further_code op.And more env
expr_codes (expr.Or a more) env = a env ++ further_code op.Or more env
expr_codes (expr.Place k) env = Do does.Broken ∷ []
expr_codes (expr.Bind k) env = Do does.Broken ∷ []

abbrev pub term_codes : Addend-F Coded Term → Term
term_codes t = record { operator = added_by t.operator; operand = t.term }

unfoldable pub expr_code : Expr → Coded
expr_code = fold-Expr Coded Term expr_codes term_codes

unfoldable pub term_code : Addend → Term
term_code = fold-Addend Coded Term expr_codes term_codes

-- ---- targets

-- the topmost operand to a target
abbrev pub store_code : Place → List Instruction
store_code (Stored l t) = refer_code l ++ Do (does.Assign l t) ∷ []
store_code (New k t) = Do (does.AssignNew k t) ∷ []
store_code Nowhere = Do does.Broken ∷ []

abbrev pub stores_code : List Place → List Instruction
stores_code [] = []
stores_code (p ∷ ps) = store_code p ++ stores_code ps

-- ---- calls

abbrev pub null_code : Coded
null_code env = Do (does.Push value.Null) ∷ []

abbrev pub passed_code : Option Mode → Expr → Coded
passed_code None e = expr_code e
passed_code (Some mode.In) e = expr_code e
passed_code (Some mode.InOut) e = expr_code e
passed_code (Some mode.Out) e = null_code

abbrev pub arguments_code : List Expr → List Parameter → List Coded
arguments_code (e ∷ es) (p ∷ ps) = passed_code p.mode e ∷ arguments_code es ps
arguments_code (e ∷ es) [] = expr_code e ∷ arguments_code es []
arguments_code [] ps = []

abbrev pub procedure_code : ObjectKey → ℕ → List Coded → List Place → Coded
procedure_code key at cs ps env = listed cs env ++ (call_code (callee key at (length cs) (length ps)) ++ stores_code ps)

abbrev pub call_of_code : Option Denoted → List Expr → Coded
call_of_code (Some (Subprogram key at h)) es env = procedure_code key at (arguments_code es h.parameters) (outs env es h.parameters) env
call_of_code d es env = Do does.Broken ∷ []

abbrev pub call_statement : Path → Option (List Expr) → Coded
call_statement path None env = call_of_code (called env path) [] env
call_statement path (Some es) env = call_of_code (unless_builtin (builtin_at path.name path.member) (applied env path)) es env

-- ---- exceptions

abbrev pub raise_declared : Option Word → Fault → List Instruction
raise_declared None f = Do (does.Raise f) ∷ []
raise_declared (Some p) f = Do (does.Refer reference.Other p) ∷ Do (does.Raise f) ∷ []

abbrev pub raise_of : Option Denoted → List Instruction
raise_of (Some (Exception p f)) = raise_declared p f
raise_of d = Do does.Broken ∷ []

abbrev pub reraise_code : ℕ → List Instruction
reraise_code zero = Do does.Broken ∷ []
reraise_code (suc n) = Do (does.Reraise n) ∷ []

abbrev pub raise_code : Option Path → Coded
raise_code None env = reraise_code env.handlers
raise_code (Some path) env = raise_of (raised env path)

abbrev pub caught_code : Env → Caught → caught.Caught
caught_code env caught_by.Others = catching.Others
caught_code env (caught_by.Named paths) = catching.These (filter_map (exception_named env) paths)

-- ---- statements of SQL

abbrev pub bind_code : Bind → List Instruction
bind_code (bind.Variable l) = load_code l
bind_code (bind.New k) = Do (does.LoadColumn image.New k) ∷ []
bind_code (bind.Old k) = Do (does.LoadColumn image.Old k) ∷ []

abbrev pub binds_code : List Bind → List Instruction
binds_code [] = []
binds_code (b ∷ bs) = bind_code b ++ binds_code bs

abbrev pub request_code : SqlTree → List Bind → Lookup → List Instruction
request_code s bs l = binds_code bs ++ Do (does.Sql s (length bs) l) ∷ []

abbrev pub select_code : Bound Query → List Place → List Instruction
select_code q ps = request_code (statement.Query q.tree) q.binds (lookup.Row (map place_type ps)) ++ (stores_code ps ++ Do (does.Affect 1) ∷ [])

abbrev pub sql_code : SqlStmt → Coded
sql_code (sql.SelectInto q ts) env = select_code (bound_query env q) (map (target_place env) ts)
sql_code (sql.Insert i) env = let b = bound_insert env i in request_code (statement.Insert b.tree) b.binds lookup.Count
sql_code (sql.Update u) env = let b = bound_update env u in request_code (statement.Update b.tree) b.binds lookup.Count
sql_code (sql.Delete d) env = let b = bound_delete env d in request_code (statement.Delete b.tree) b.binds lookup.Count
sql_code (sql.Transaction t) env = Do (does.Transact t) ∷ []

-- ---- cursors

abbrev pub open_code : Location → Bound Query → List Instruction
open_code l q = refer_code l ++ (Do (does.Open l) ∷ request_code (statement.Query q.tree) q.binds (lookup.Open l))

abbrev pub fetch_code : Location → List Known → List Instruction → List Instruction → List Instruction
fetch_code l ts row none = refer_code l ++ (Do (does.Fetch l ts) ∷ If row none ∷ [])

abbrev pub open_of : Option Denoted → List Instruction
open_of (Some (Cursor l q fs)) = open_code l q
open_of d = Do does.Broken ∷ []

abbrev pub fetch_of : Option Denoted → List Place → List Instruction
fetch_of (Some (Cursor l q fs)) ps = fetch_code l (map place_type ps) (stores_code ps) []
fetch_of d ps = Do does.Broken ∷ []

abbrev pub close_of : Option Denoted → List Instruction
close_of (Some (Cursor l q fs)) = refer_code l ++ Do (does.Close l) ∷ []
close_of d = Do does.Broken ∷ []

abbrev pub cursor_statement : CursorStmt → Coded
cursor_statement (cursor.Open c) env = open_of (meant_at env c None)
cursor_statement (cursor.Fetch c ts) env = fetch_of (meant_at env c None) (map (target_place env) ts)
cursor_statement (cursor.Close c) env = close_of (meant_at env c None)

-- ---- lists of statements

-- Each statement begins with a step. The first one is the part at a place.
abbrev pub all : ℕ → List Coded → Coded
all i [] env = []
all i (c ∷ cs) env = Do does.Step ∷ (c (part i env) ++ all (suc i) cs env)

-- ---- IF and loops

abbrev pub choose_code : ℕ → List (Expr × Coded) → Coded → Coded
choose_code i [] otherwise env = otherwise (part 0 env)
choose_code i (b ∷ bs) otherwise env = expr_code b.0 env ++ If (b.1 (part (suc i) env)) (choose_code (suc i) bs otherwise env) ∷ []

abbrev pub leave_code : Instruction → Option Expr → Coded
leave_code i None env = i ∷ []
leave_code i (Some c) env = expr_code c env ++ If (i ∷ []) [] ∷ []

abbrev pub while_code : Expr → Coded
while_code e env = expr_code e env ++ If [] (Do does.Exit ∷ []) ∷ []

abbrev pub range_code : Range → Coded → Coded
range_code r body env = expr_code r.low env ++ (expr_code r.high env ++ Numbers env.variables r.reversed (body (with_counter r.name env)) ∷ [])

-- the fields of a record, of the given types, which are the variables from a place on
abbrev pub fields_code : ℕ → List Known → List Instruction
fields_code k [] = []
fields_code k (t ∷ ts) = Do (does.Assign (Own k) None) ∷ fields_code (suc k) ts

-- a cursor that a loop declares
abbrev pub declared_code : Bool → Location → List Instruction
declared_code true l = Do (does.Reset l) ∷ []
declared_code false l = []

abbrev pub over_rows_code : Source → Word → Coded → Coded
over_rows_code s n body env =
    let ts = map field_type (known_fields s.fields) in
    declared_code s.own s.location
    ++ (open_code s.location s.query ++ Closing s.location (Loop (fetch_code s.location ts (fields_code env.variables ts) (Do does.Exit ∷ [])) (body (in_rows n s env)) ∷ []) ∷ [])

abbrev pub rows_code : Option Source → Rows → Coded → Coded
rows_code None r body env = Do does.Broken ∷ []
rows_code (Some s) r body env = over_rows_code s r.record body env

-- ---- statements

abbrev pub give_code : Option Expr → Coded
give_code None env = Do does.Return ∷ []
give_code (Some e) env = expr_code e env ++ Do (does.Give env.result) ∷ []

pub record Handling : Type 0 where
  pub caught : Caught
  pub code : Coded

abbrev pub stmt_codes : Stmt-F Coded Coded (Expr × Coded) Handling → Coded
stmt_codes stmt.Null env = []
stmt_codes (stmt.Assign t e) env = expr_code e env ++ store_code (target_place env t)
stmt_codes (stmt.Block b) env = b env
stmt_codes (stmt.Return e) env = give_code e env
stmt_codes (stmt.Raise path) env = raise_code path env
stmt_codes (stmt.If bs a) env = choose_code 0 bs (all 0 a) env
stmt_codes (stmt.Loop a) env = Loop [] (all 0 a env) ∷ []
stmt_codes (stmt.While e a) env = Loop (while_code e env) (all 0 a env) ∷ []
stmt_codes (stmt.ForRange r a) env = range_code r (all 0 a) env
stmt_codes (stmt.ForRows r a) env = rows_code (source_of r.from env) r (all 0 a) env
stmt_codes (stmt.Exit e) env = leave_code (Do does.Exit) e env
stmt_codes (stmt.Continue e) env = leave_code (Do does.Continue) e env
stmt_codes (stmt.Call path es) env = call_statement path es env
stmt_codes (stmt.Sql s) env = sql_code s env
stmt_codes (stmt.Cursor c) env = cursor_statement c env
stmt_codes (stmt.PutLine e) env = expr_code e env ++ Do does.PutLine ∷ []
stmt_codes (stmt.RaiseApplicationError k e) env = expr_code e env ++ (Do does.Drop ∷ Do (does.Raise (application_error k)) ∷ [])

-- ---- declarations

abbrev pub initial_code : Option Expr → Coded
initial_code None = null_code
initial_code (Some e) = expr_code e

abbrev pub decl_code : Decl → Coded
decl_code (decl.Variable n c t e) env = initial_code e env ++ Do (does.Assign (next_variable env) (Some (declared_type env.view t))) ∷ []
decl_code (decl.Cursor n q) env = Do (does.Reset (next_cursor env)) ∷ []
decl_code (decl.Exception n) env = []
decl_code (decl.ExceptionInit n k) env = []
decl_code decl.Autonomous env = []

abbrev pub decls_code_among : List Decl → List Decl → Coded
decls_code_among among [] env = []
decls_code_among among (d ∷ ds) env = decl_code d env ++ decls_code_among among ds (with_decl among d env)

abbrev pub decls_code : List Decl → Coded
decls_code ds env = decls_code_among ds ds env

-- ---- blocks

abbrev pub handlers_code : ℕ → List Handling → Env → List coded.Handler
handlers_code i [] env = []
handlers_code i (h ∷ hs) env =
    roll-Handler (record { caught = caught_code env h.caught; body = h.code (within_handler (part (suc i) env)) }) ∷ handlers_code (suc i) hs env

abbrev pub guarded_code : List Coded → List Handling → Coded
guarded_code cs hs env = Guard (all 0 cs (part 0 env)) env.handlers (handlers_code 0 hs env) ∷ []

abbrev pub block_codes : Block-F Coded Coded (Expr × Coded) Handling → Coded
block_codes b env = decls_code b.declarations env ++ guarded_code b.statements b.handlers (with_decls b.declarations env)

abbrev pub branch_codes : Branch-F Coded Coded (Expr × Coded) Handling → Expr × Coded
branch_codes b = (b.condition, all 0 b.statements)

abbrev pub handler_codes : Handler-F Coded Coded (Expr × Coded) Handling → Handling
handler_codes h = record { caught = h.caught; code = all 0 h.statements }

unfoldable pub stmt_code : Stmt → Coded
stmt_code = fold-Stmt Coded Coded (Expr × Coded) Handling stmt_codes block_codes branch_codes handler_codes

unfoldable pub block_code : Block → Coded
block_code = fold-Block Coded Coded (Expr × Coded) Handling stmt_codes block_codes branch_codes handler_codes

unfoldable pub handler_code : Handler → Handling
handler_code = fold-Handler Coded Coded (Expr × Coded) Handling stmt_codes block_codes branch_codes handler_codes
