-- A statement that changes rows, part by part.
use Rattle.std.proofs.Common.{◌≡◌, List, ◌++◌, sym, ap, ◌∙◌}
use Rattle.ebr_ast.specs.declared.statement.SqlStmt.{SqlStmt}
use Rattle.ebr_ast.specs.declared.statement.SqlStmt.TheVariants as sql
use Rattle.ebr_ast.specs.declared.sql.SqlTree.TheVariants as statement
use Rattle.ebr_ast.specs.declared.sql.Update.{Update}
use Rattle.ebr_code.specs.declared.instruction.Instruction.{Instruction}
use Rattle.ebr_code.specs.declared.instruction.Lookup.TheVariants as lookup
use Rattle.ebr_run.specs.declared.place.Bind.{Bind}
use Rattle.ebr_run.specs.Binds.{bound_update}
use Rattle.ebr_run.specs.Scope.{Env, Bound}
use Rattle.ebr_places.specs.declared.denoted.Bound as has
use Rattle.ebr_places.specs.Lent.{bound}
use Rattle.ebr_code.specs.Codes.{request_code, sql_code}

pub updated : (it : SqlStmt) (u w : Update) (b : has.Bound Update) (bs : List Bind) (env : Env) (start end : List Instruction)
    → it ≡ sql.Update u
    → w ≡ u
    → bound b ≡ bound_update env w
    → bs ≡ b.binds
    → end ≡ start ++ request_code (statement.Update b.tree) bs lookup.Count
    → end ≡ start ++ sql_code it env
updated it u w b bs env start end i q h l e =
    e
    ∙ ap (λ (xs : List Bind). start ++ request_code (statement.Update b.tree) xs lookup.Count) l
    ∙ ap (λ (x : Bound Update). start ++ request_code (statement.Update x.tree) x.binds lookup.Count) (h ∙ ap (bound_update env) q)
    ∙ ap (λ (s : SqlStmt). start ++ sql_code s env) (sym i)
