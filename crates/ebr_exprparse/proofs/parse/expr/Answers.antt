use Rattle.std.proofs.Common.{◌≡◌, Some, None, drop, arith, rules}
use Rattle.std.proofs.lemmas.Grind.{common_steps}
use Rattle.ebr_exprparse.specs.Expressions.{read_expression}
use Rattle.ebr_exprparse.proofs.Whole.{expr_found, expr_only, expr_none}
use Rattle.ebr_exprparse.proofs.parse.expr.Goals as goal

pub overflow_sub-result : goal.overflow_sub-result
overflow_sub-result c =
    let read : read_expression (drop c.args.at c.args.tokens.now) ≡ Some (c.in-Ok.tree, c.read_expression.new.tokens) = first_of (search rules, grind (arith, common_steps)) in
    rw c.left.ensures (expr_found c.args.tokens.now c.args.at c.in-Ok.tree c.read_expression.new.tokens c.requires.within read).0

pub returns-in-Ok-clause-found : goal.returns-in-Ok-clause-found
returns-in-Ok-clause-found c =
    let read : read_expression (drop c.args.at c.args.tokens.now) ≡ Some (c.in-Ok.tree, c.read_expression.new.tokens) = first_of (search rules, grind (arith, common_steps)) in
    rw c.left.ensures (expr_found c.args.tokens.now c.args.at c.in-Ok.tree c.read_expression.new.tokens c.requires.within read).1

pub returns-in-Ok-clause-only : goal.returns-in-Ok-clause-only
returns-in-Ok-clause-only c x end s stop =
    let read : read_expression (drop c.args.at c.args.tokens.now) ≡ Some (c.in-Ok.tree, c.read_expression.new.tokens) = first_of (search rules, grind (arith, common_steps)) in
    rw c.left.ensures (expr_only c.args.tokens.now c.args.at end x c.in-Ok.tree c.read_expression.new.tokens s stop read)

pub returns-in-Err-NoTree-clause-only : goal.returns-in-Err-NoTree-clause-only
returns-in-Err-NoTree-clause-only c x end s stop =
    let read : read_expression (drop c.args.at c.args.tokens.now) ≡ None = first_of (search rules, grind (arith, common_steps)) in
    absurd (expr_none c.args.tokens.now c.args.at end x s stop read)
