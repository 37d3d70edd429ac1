-- What the places of a statement or a block are, at one layer.
use Rattle.std.proofs.Common.{◌≡◌}
use Rattle.ebr_ast.specs.declared.statement.Block.{Block, out-Block}
use Rattle.ebr_ast.specs.declared.statement.Branch.{Branch, out-Branch}
use Rattle.ebr_ast.specs.declared.statement.Handler.{Handler, out-Handler}
use Rattle.ebr_ast.specs.declared.statement.Stmt.{Stmt, out-Stmt}
use Rattle.ebr_ast.specs.declared.statement.Stmt.TheFolds.{fold_out-Stmt, fold_out-Block, fold_out-Branch, fold_out-Handler, map-Stmt, map-Block, map-Branch, map-Handler}
use Rattle.ebr_validity.specs.Targets.{In}
use Rattle.ebr_validity.specs.Statements.{Handling, act, in_block, branch, handler, in_statement, in_body, in_branch, in_handler}

pub statement-out : (x : Stmt) → in_statement x ≡ act (map-Stmt Stmt Block Branch Handler In In In Handling in_statement in_body in_branch in_handler (out-Stmt x))
unfolding in_statement in_body in_branch in_handler
statement-out x = fold_out-Stmt In In In Handling act in_block branch handler x

pub body-out : (x : Block) → in_body x ≡ in_block (map-Block Stmt Block Branch Handler In In In Handling in_statement in_body in_branch in_handler (out-Block x))
unfolding in_statement in_body in_branch in_handler
body-out x = fold_out-Block In In In Handling act in_block branch handler x

pub branch-out : (x : Branch) → in_branch x ≡ branch (map-Branch Stmt Block Branch Handler In In In Handling in_statement in_body in_branch in_handler (out-Branch x))
unfolding in_statement in_body in_branch in_handler
branch-out x = fold_out-Branch In In In Handling act in_block branch handler x

pub handler-out : (x : Handler) → in_handler x ≡ handler (map-Handler Stmt Block Branch Handler In In In Handling in_statement in_body in_branch in_handler (out-Handler x))
unfolding in_statement in_body in_branch in_handler
handler-out x = fold_out-Handler In In In Handling act in_block branch handler x
