-- Expressions, as a form of another grammar.
use Rattle.ebr_grammar.specs.Forms.{Outer}
use Rattle.ebr_grammar.specs.Grammar.{Production, outer}
use Rattle.ebr_exprtree.specs.declared.expression.Expr.{Expr}
use Rattle.ebr_exprparse.specs.declared.level.Level.TheVariants.{Whole}
use Rattle.ebr_exprparse.specs.Expressions.{begins, goes_on, SpellsExpr, read_expression}

abbrev pub expression : Outer Expr
expression = record { begins = begins Whole; goes_on = goes_on Whole; form = SpellsExpr; reader = read_expression }

-- e
abbrev pub expr : {K : Type 0} {V : K → Type 0} → Production K V Expr
expr = outer expression (λ x. x)
