-- The terms of a sum, with their values.
use Rattle.std.specs.Prelude.{List}
use Rattle.ebr_base.specs.declared.value.Value.{Value}
use Rattle.ebr_exprtree.specs.declared.expression.Addend.{Addend}
use Rattle.ebr_exprtree.specs.declared.expression.Expr.TheFolds.{fold-Addend}
use Rattle.ebr_value.specs.Outcomes.{Outcome}
use Rattle.ebr_expr.specs.Evaluation.{Term, form, term}

-- A term of a sum, with its value or its code.
unfoldable pub term_of : Addend → List Value → List Value → Term
term_of t row binds = fold-Addend Outcome Term (form row binds) term t
