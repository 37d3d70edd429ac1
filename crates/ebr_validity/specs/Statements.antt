-- The places in declarations, statements and blocks in code. One line for each kind, with the places of its parts.
-- Oracle Database PL/SQL Language Reference 19c, Block, and the statements by their names.
use Rattle.std.specs.Prelude.{Bool, true, false, if◌then◌else◌, List, [], ◌∷◌, ◌++◌, map, filter_map, length, Option, Some, None, option_map}
use Rattle.std.specs.Option.{is_some}
use Rattle.ebr_exprtree.specs.declared.expression.Path.{Path}
use Rattle.ebr_exprtree.specs.declared.expression.Expr.{Expr}
use Rattle.ebr_ast.specs.declared.statement.Block.{Block}
use Rattle.ebr_ast.specs.declared.statement.Branch.{Branch}
use Rattle.ebr_ast.specs.declared.statement.Caught.{Caught}
use Rattle.ebr_ast.specs.declared.statement.Caught.TheVariants as caught
use Rattle.ebr_ast.specs.declared.statement.CursorStmt.{CursorStmt}
use Rattle.ebr_ast.specs.declared.statement.CursorStmt.TheVariants as cursor
use Rattle.ebr_ast.specs.declared.statement.Decl.{Decl}
use Rattle.ebr_ast.specs.declared.statement.Decl.TheVariants as decl
use Rattle.ebr_ast.specs.declared.statement.DeclaredType.{DeclaredType}
use Rattle.ebr_ast.specs.declared.statement.DeclaredType.TheVariants as declared
use Rattle.ebr_ast.specs.declared.statement.Handler.{Handler}
use Rattle.ebr_ast.specs.declared.statement.Range.{Range}
use Rattle.ebr_ast.specs.declared.statement.Rows.{Rows}
use Rattle.ebr_ast.specs.declared.statement.RowsFrom.{RowsFrom}
use Rattle.ebr_ast.specs.declared.statement.RowsFrom.TheVariants as from
use Rattle.ebr_ast.specs.declared.statement.SqlStmt.{SqlStmt}
use Rattle.ebr_ast.specs.declared.statement.SqlStmt.TheVariants as sql
use Rattle.ebr_ast.specs.declared.statement.Stmt.{Stmt}
use Rattle.ebr_ast.specs.declared.statement.Stmt.TheOpen.{Stmt-F, Block-F, Branch-F, Handler-F}
use Rattle.ebr_ast.specs.declared.statement.Stmt.TheOpen as stmt
use Rattle.ebr_ast.specs.declared.statement.Stmt.TheFolds.{fold-Stmt, fold-Block, fold-Branch, fold-Handler}
use Rattle.ebr_ast.specs.declared.unit.Head.{Head}
use Rattle.ebr_value.specs.declared.form.Builtin.{Builtin}
use Rattle.ebr_expr.specs.Operators.{builtin_at}
use Rattle.ebr_sqlcheck.specs.declared.value_type.ValueType.TheVariants as type
use Rattle.ebr_sqlcheck.specs.Types.{Known, type_in}
use Rattle.ebr_scope.specs.Meanings.{Word, Constant, Exception, Cursor, Record, Subprogram, Fields, Scope, entry, with_fields, innermost, is_outer}
use Rattle.ebr_scope.specs.Declarations.{column_type_of, declared_type, decl_name, variable}
use Rattle.ebr_scope.specs.Names.{entry_fields, meant_at, called, applied, raised}
use Rattle.ebr_scope.specs.Around.{Env, OwnPackage, knowing, within_block, within_loop, within_handler}
use Rattle.ebr_fields.specs.Columns.{fields_of}
use Rattle.ebr_validity.specs.Sites.{Calls, Raises, Cursors, Fits, Prints, RaisesNumber, Unset, Gives, Leaves, Reraises, Handles, Loops, Declares, Sized, OfColumn, Pragmas}
use Rattle.ebr_validity.specs.Expressions.{reading_of, sites_of, type_of, wanted, arguments, parameters_of}
use Rattle.ebr_validity.specs.Targets.{In, target_sites, into}
use Rattle.ebr_validity.specs.Embedded.{query_sites, insert_sites, update_sites, delete_sites}

abbrev pub each : List In → In
each [] env = []
each (s ∷ ss) env = s env ++ each ss env

-- ---- declarations

abbrev pub size_sites : DeclaredType → In
size_sites (declared.Number None) env = []
size_sites (declared.Number (Some size)) env = Sized size 18 ∷ []
size_sites declared.Integer env = []
size_sites (declared.Varchar2 size) env = Sized size 32767 ∷ []
size_sites declared.Boolean env = []
size_sites (declared.OfColumn n m) env = OfColumn (column_type_of env.view n m) ∷ []

abbrev pub initial : Bool → Known → Option Expr → In
initial c t None env = Unset c ∷ []
initial c t (Some e) env = sites_of (reading_of e) env ++ Fits t (type_of (reading_of e) env) ∷ []

abbrev pub decl_sites : Decl → In
decl_sites (decl.Variable n c t e) env = size_sites t env ++ initial c (declared_type env.view t) e env
decl_sites (decl.Cursor n q) env = query_sites q env
decl_sites (decl.Exception n) env = []
decl_sites (decl.ExceptionInit n k) env = []
decl_sites decl.Autonomous env = []

-- the names that are known behind a declaration
abbrev pub with_decl : Decl → Env → Scope
with_decl (decl.Variable n c t e) env = entry n (variable c (declared_type env.view t)) ∷ env.scope
with_decl (decl.Exception n) env = entry n Exception ∷ env.scope
with_decl (decl.Cursor n q) env = with_fields n Cursor (fields_of env q) ∷ env.scope
with_decl (decl.ExceptionInit n k) env = env.scope
with_decl decl.Autonomous env = env.scope

abbrev pub with_decls : List Decl → Env → Scope
with_decls [] env = env.scope
with_decls (d ∷ ds) env = with_decls ds (knowing (with_decl d env) env)

-- a name is known from its declaration on
abbrev pub decls_sites : List Decl → In
decls_sites [] env = []
decls_sites (d ∷ ds) env = decl_sites d env ++ decls_sites ds (knowing (with_decl d env) env)

-- ---- cursors

abbrev pub cursor_sites : Word → In
cursor_sites c env = Cursors (meant_at env.view env.scope c None) ∷ []

-- the columns of a cursor
abbrev pub cursor_fields : Word → Env → Fields
cursor_fields c env = entry_fields (innermost c env.scope)

abbrev pub rows_fields : RowsFrom → Env → Fields
rows_fields (from.Cursor c) env = cursor_fields c env
rows_fields (from.Query q) env = fields_of env q

abbrev pub rows_sites : RowsFrom → In
rows_sites (from.Cursor c) env = cursor_sites c env
rows_sites (from.Query q) env = query_sites q env

-- a handler, with what it catches
pub record Handling : Type 0 where
  pub caught : Caught
  pub inside : In

-- ---- statements

abbrev pub condition : Expr → In
condition e env = wanted type.Boolean (reading_of e) env

abbrev pub when : Option Expr → In
when None env = []
when (Some e) env = condition e env

abbrev pub gives : Option Expr → In
gives None env = Gives false (is_some env.result) ∷ []
gives (Some e) env = sites_of (reading_of e) env ++ Gives true (is_some env.result) ∷ Fits (type_in env.result) (type_of (reading_of e) env) ∷ []

abbrev pub raises : Option Path → In
raises None env = Reraises env.in_handler ∷ []
raises (Some path) env = Raises (raised env.view env.scope path) ∷ []

abbrev pub called_with : Option Head → List Expr → In
called_with h es env = Calls (option_map Subprogram h) (length es) ∷ arguments (map reading_of es) (parameters_of h) env

-- a built-in function is no procedure
abbrev pub unless_builtin : Option Builtin → Option Head → Option Head
unless_builtin (Some f) h = None
unless_builtin None h = h

abbrev pub call_sites : Path → Option (List Expr) → In
call_sites path None env = Calls (called env.view env.scope path) 0 ∷ []
call_sites path (Some es) env = called_with (unless_builtin (builtin_at path.name path.member) (applied env.view env.scope path)) es env

abbrev pub sql_sites : SqlStmt → In
sql_sites (sql.SelectInto q ts) env = query_sites q env ++ into (fields_of env q) ts env
sql_sites (sql.Insert i) env = insert_sites i env
sql_sites (sql.Update u) env = update_sites u env
sql_sites (sql.Delete d) env = delete_sites d env
sql_sites (sql.Transaction t) env = []

abbrev pub cursor_stmt_sites : CursorStmt → In
cursor_stmt_sites (cursor.Open c) env = cursor_sites c env
cursor_stmt_sites (cursor.Fetch c ts) env = cursor_sites c env ++ into (cursor_fields c env) ts env
cursor_stmt_sites (cursor.Close c) env = cursor_sites c env

abbrev pub range_sites : Range → In
range_sites r env = wanted type.Number (reading_of r.low) env ++ wanted type.Number (reading_of r.high) env

abbrev pub print_sites : Expr → In
print_sites e env = sites_of (reading_of e) env ++ Prints (type_of (reading_of e) env) ∷ []

-- the body of FOR over numbers, whose variable can't be assigned
abbrev pub in_range : Range → Env → Env
in_range r env = within_loop (knowing (entry r.name (Constant (Some type.Number)) ∷ env.scope) env)

-- the body of FOR over rows
abbrev pub in_rows : Rows → Env → Env
in_rows r env = within_loop (knowing (with_fields r.record Record (rows_fields r.from env) ∷ env.scope) env)

abbrev pub act : Stmt-F In In In Handling → In
act stmt.Null env = []
act (stmt.Assign t e) env = sites_of (reading_of e) env ++ target_sites t (type_of (reading_of e) env) env
act (stmt.Block b) env = b env
act (stmt.Return e) env = gives e env
act (stmt.Raise path) env = raises path env
act (stmt.If bs a) env = each bs env ++ each a env
act (stmt.Loop a) env = each a (within_loop env)
act (stmt.While e a) env = condition e env ++ each a (within_loop env)
act (stmt.ForRange r a) env = range_sites r env ++ each a (in_range r env)
act (stmt.ForRows r a) env = (rows_sites r.from env ++ Loops (rows_fields r.from env) ∷ []) ++ each a (in_rows r env)
act (stmt.Exit e) env = when e env ++ Leaves env.in_loop ∷ []
act (stmt.Continue e) env = when e env ++ Leaves env.in_loop ∷ []
act (stmt.Call path es) env = call_sites path es env
act (stmt.Sql s) env = sql_sites s env
act (stmt.Cursor c) env = cursor_stmt_sites c env
act (stmt.PutLine e) env = print_sites e env
act (stmt.RaiseApplicationError k e) env = RaisesNumber k ∷ wanted type.Text (reading_of e) env

-- ---- blocks

-- OTHERS names no exception
abbrev pub catches : List Path → In
catches [] env = []
catches (p ∷ ps) env = Raises (raised env.view env.scope p) ∷ catches ps env

abbrev pub caught_sites : Caught → In
caught_sites caught.Others env = []
caught_sites (caught.Named paths) env = catches paths env

abbrev pub path_of : Word → Option Word → Path
path_of n m = record { name = n; member = m }

-- The full name of an exception: one of the own package's specification may be written without the package.
abbrev pub in_full : Word → Option Word → Option OwnPackage → Scope → Path
in_full n (Some m) own scope = path_of n (Some m)
in_full n None None scope = path_of n None
in_full n None (Some p) scope = if is_outer p.declares n scope then path_of p.name (Some n) else path_of n None

abbrev pub full_name : Env → Path → Path
full_name env path = in_full path.name path.member env.own env.scope

abbrev pub caught_in_full : Env → Caught → Caught
caught_in_full env caught.Others = caught.Others
caught_in_full env (caught.Named paths) = caught.Named (map (full_name env) paths)

abbrev pub caught_of : Handling → Caught
caught_of h = h.caught

abbrev pub inside_of : Handling → In
inside_of h = h.inside

abbrev pub handlers : List Handling → In
handlers hs env = Handles (map (caught_in_full env) (map caught_of hs)) ∷ each (map inside_of hs) env

abbrev pub in_block : Block-F In In In Handling → In
in_block b env =
    let inner = within_block (with_decls b.declarations env) env in
    Declares (filter_map decl_name b.declarations) ∷ Pragmas env.outermost b.declarations ∷ (decls_sites b.declarations env
    ++ (each b.statements inner ++ handlers b.handlers inner))

abbrev pub branch : Branch-F In In In Handling → In
branch b env = condition b.condition env ++ each b.statements env

abbrev pub handler : Handler-F In In In Handling → Handling
handler h = record { caught = h.caught; inside = λ env. caught_sites h.caught env ++ each h.statements (within_handler env) }

unfoldable pub in_statement : Stmt → In
in_statement = fold-Stmt In In In Handling act in_block branch handler

unfoldable pub in_body : Block → In
in_body = fold-Block In In In Handling act in_block branch handler

unfoldable pub in_branch : Branch → In
in_branch = fold-Branch In In In Handling act in_block branch handler

unfoldable pub in_handler : Handler → Handling
in_handler = fold-Handler In In In Handling act in_block branch handler
