-- What the branches of an IF mean.
use Rattle.ebr_exprtree.specs.declared.expression.Expr.{Expr}
use Rattle.ebr_ast.specs.declared.statement.Branch.{Branch}
use Rattle.ebr_ast.specs.declared.statement.Stmt.TheFolds.{fold-Branch}
use Rattle.ebr_run.specs.Statements.{Meaning, Handling, act, in_block, branch, handler}

unfoldable pub branch_of : Branch → Expr × Meaning
branch_of = fold-Branch Meaning Meaning (Expr × Meaning) Handling act in_block branch handler
