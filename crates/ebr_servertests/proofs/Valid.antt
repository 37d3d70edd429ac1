-- Which units and blocks of the worked scripts are valid.
use Rattle.std.proofs.Common.{◌≡◌, ℕ, Bool, true, List, [], ◌∷◌, ◌++◌, codes, refl, ap, ◌∙◌}
use Rattle.std.specs.Prelude.{Some, None}
use Rattle.std.specs.List.{list_all}
use Rattle.ebr_ast.specs.declared.statement.Block as block
use Rattle.ebr_ast.specs.declared.statement.Block.{Block}
use Rattle.ebr_ast.specs.declared.statement.Stmt.TheViews.{out-roll-Block, out-roll-Stmt}
use Rattle.ebr_ast.specs.declared.statement.Stmt.TheFolds.{map-Stmt, map-Block}
use Rattle.ebr_ast.specs.declared.statement.Stmt.{Stmt}
use Rattle.ebr_ast.specs.declared.statement.Stmt as statement
use Rattle.ebr_ast.specs.declared.statement.Stmt.TheVariants as stmt
use Rattle.ebr_ast.specs.declared.statement.Stmt.TheOpen as form
use Rattle.ebr_ast.specs.declared.statement.Branch.{Branch}
use Rattle.ebr_ast.specs.declared.statement.Handler.{Handler}
use Rattle.ebr_ast.specs.declared.unit.UnitTree.{UnitTree}
use Rattle.ebr_ast.specs.declared.unit.UnitTree.TheVariants as unit
use Rattle.ebr_ast.specs.declared.view.Object.{Object}
use Rattle.ebr_base.specs.declared.numbers.EditionNo.{EditionNo}
use Rattle.ebr_cross.specs.Kinds.{unit_key}
use Rattle.ebr_ast.specs.declared.view.EditionView.{EditionView}
use Rattle.ebr_exprtree.specs.declared.expression.Expr as expression
use Rattle.ebr_exprtree.specs.declared.expression.Expr.{Expr}
use Rattle.ebr_exprtree.specs.declared.expression.Addend.{Addend}
use Rattle.ebr_exprtree.specs.declared.expression.Expr.TheViews.{out-roll-Expr}
use Rattle.ebr_exprtree.specs.declared.expression.Expr.TheFolds.{fold_out-Expr, map-Expr}
use Rattle.ebr_exprtree.specs.declared.expression.Expr.TheVariants as e
use Rattle.ebr_exprtree.specs.declared.expression.Expr.TheOpen as expression_form
use denote.Hole.Carrier as carrier
use Rattle.ebr_sqlcheck.specs.Types.{type_of_text}
use Rattle.ebr_scope.specs.Around.{Env, within_block, outside}
use Rattle.ebr_validity.specs.Sites.{Site, Declares, Pragmas, Handles, Prints, Calls}
use Rattle.ebr_validity.specs.Rules.{Rule, rules, holds}
use Rattle.ebr_validity.specs.Expressions.{Read, Term, reads, reads_term, reading_of, term_of, only_value}
use Rattle.ebr_validity.specs.Targets.{In}
use Rattle.ebr_ast.specs.declared.unit.Head.{Head}
use Rattle.std.specs.Prelude.{Option, option_map}
use Rattle.ebr_value.specs.declared.form.Builtin.{Builtin}
use Rattle.ebr_expr.specs.Operators.{builtin_at}
use Rattle.ebr_scope.specs.Meanings.{Subprogram}
use Rattle.ebr_scope.specs.Names.{applied, applied_at, visible_head}
use Rattle.ebr_validity.specs.Statements.{Handling, act, in_block, called_with, unless_builtin, call_sites, in_statement, in_body, in_branch, in_handler}
use Rattle.ebr_validity.specs.Verdict.{is_valid}
use Rattle.ebr_check.proofs.Laws.{statement-out, body-out}
use Rattle.ebr_servertests.specs.WorkedScripts.{block_of, printing, call_of}

-- the places of a block with one statement
one_statement : (s : Stmt) (env : Env) → in_body (block_of s) env ≡ Declares [] ∷ Pragmas env.outermost [] ∷ ((in_statement s (within_block env.scope env) ++ []) ++ Handles [] ∷ [])
unfolding block.roll-Block carrier.roll
one_statement s env =
    ap (λ r. r env) (body-out (block_of s))
    ∙ ap (λ b. in_block (map-Block Stmt Block Branch Handler In In In Handling in_statement in_body in_branch in_handler b) env) (out-roll-Block (record { declarations = []; statements = s ∷ []; handlers = [] }))

reading-text : (line : List ℕ) → reading_of (e.Text line) ≡ λ env. record { typed = only_value (type_of_text line); sites = [] }
unfolding reading_of term_of expression.roll-Expr carrier.roll
reading-text line =
    fold_out-Expr Read Term reads reads_term (e.Text line)
    ∙ ap (λ x. reads (map-Expr Expr Addend Read Term reading_of term_of x)) (out-roll-Expr (expression_form.Text line))

line_sites : (line : List ℕ) (env : Env) → in_statement (stmt.PutLine (e.Text line)) env ≡ Prints (type_of_text line) ∷ []
unfolding statement.roll-Stmt carrier.roll
line_sites line env =
    ap (λ r. r env) (statement-out (stmt.PutLine (e.Text line)))
    ∙ ap (λ x. act (map-Stmt Stmt Block Branch Handler In In In Handling in_statement in_body in_branch in_handler x) env) (out-roll-Stmt (form.PutLine (e.Text line)))
    ∙ ap (λ (r : Read). (r env).sites ++ Prints (r env).typed.ty ∷ []) (reading-text line)

call_sites-of : (name : List ℕ) (env : Env) → in_statement (stmt.Call (record { name = name; member = None }) (Some [])) env ≡ call_sites (record { name = name; member = None }) (Some []) env
unfolding statement.roll-Stmt carrier.roll
call_sites-of name env =
    ap (λ r. r env) (statement-out (stmt.Call (record { name = name; member = None }) (Some [])))
    ∙ ap (λ x. act (map-Stmt Stmt Block Branch Handler In In In Handling in_statement in_body in_branch in_handler x) env) (out-roll-Stmt (form.Call (record { name = name; member = None }) (Some [])))

-- ---- which are valid

printing_sites : (line : List ℕ) (env : Env) → in_body (printing line) env ≡ Declares [] ∷ Pragmas env.outermost [] ∷ Prints (type_of_text line) ∷ Handles [] ∷ []
printing_sites line env =
    one_statement (stmt.PutLine (e.Text line)) env
    ∙ ap (λ sites. Declares [] ∷ Pragmas env.outermost [] ∷ ((sites ++ []) ++ Handles [] ∷ [])) (line_sites line (within_block env.scope env))

-- a procedure that prints a line, by its name
pub procedure_is_valid : (v : EditionView) (name : List ℕ) (line : List ℕ)
    → is_valid v (unit.Subprogram (record { head = record { name = name; parameters = []; result = None }; body = printing line })) ≡ true
unfolding is_valid
procedure_is_valid v name line =
    ap (λ sites. list_all (λ (r : Rule). holds r (Declares [] ∷ sites)) rules) (printing_sites line (outside v))
    ∙ by line
  where
    by : (line : List ℕ) → list_all (λ (r : Rule). holds r (Declares [] ∷ Declares [] ∷ Pragmas true [] ∷ Prints (type_of_text line) ∷ Handles [] ∷ [])) rules ≡ true
    by [] = refl
    by (b ∷ bs) = refl

call_block_sites : (name : List ℕ) (env : Env)
    → in_body (call_of name) env ≡ Declares [] ∷ Pragmas env.outermost [] ∷ ((call_sites (record { name = name; member = None }) (Some []) (within_block env.scope env) ++ []) ++ Handles [] ∷ [])
call_block_sites name env =
    one_statement (stmt.Call (record { name = name; member = None }) (Some [])) env
    ∙ ap (λ sites. Declares [] ∷ Pragmas env.outermost [] ∷ ((sites ++ []) ++ Handles [] ∷ [])) (call_sites-of name (within_block env.scope env))

abbrev checked_call : Option Head → Bool
checked_call h = list_all (λ (r : Rule). holds r (Declares [] ∷ Pragmas true [] ∷ Calls (option_map Subprogram h) 0 ∷ Handles [] ∷ [])) rules

-- a call without arguments is valid where it names a procedure without parameters
pub call_checks : (v : EditionView) (name : List ℕ) → builtin_at name None ≡ None → is_valid v (unit.Block (call_of name)) ≡ checked_call (visible_head v name)
unfolding is_valid applied_at
call_checks v name none =
    ap (λ sites. list_all (λ (r : Rule). holds r sites) rules) (call_block_sites name (outside v))
    ∙ ap (λ f. list_all (λ (r : Rule). holds r (Declares [] ∷ Pragmas true [] ∷ ((call_with f (outside v) ++ []) ++ Handles [] ∷ []))) rules) none
  where
    call_with : Option Builtin → Env → List Site
    call_with f env = called_with (unless_builtin f (applied env.view [] (record { name = name; member = None }))) [] (within_block [] env)

-- ---- what an edition sees

-- a procedure without parameters that prints a line
abbrev pub procedure_of : List ℕ → List ℕ → UnitTree
procedure_of name line = unit.Subprogram (record { head = record { name = name; parameters = []; result = None }; body = printing line })

-- a procedure of the name A, as the first definition in an edition
abbrev pub made_in : EditionNo → List ℕ → List ℕ → Object
made_in e text line = record {
  key = unit_key (codes "A");
  text = text;
  tree = procedure_of (codes "A") line;
  stamp = record { edition = e; count = 1 };
  enabled = true;
}

-- what an edition sees where there is one object
abbrev pub seeing : EditionNo → Object → EditionView
seeing e o = record { edition = e; objects = o ∷ []; tables = [] }
