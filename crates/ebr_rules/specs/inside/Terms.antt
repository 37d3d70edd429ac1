-- What the terms of a sum mention.
use Rattle.ebr_exprtree.specs.declared.expression.Addend.{Addend}
use Rattle.ebr_exprtree.specs.declared.expression.Expr.TheFolds.{fold-Addend}
use Rattle.ebr_validity.specs.Embedded.{InSql, mention, mention_term}

unfoldable pub mentions_in_term : Addend → InSql
mentions_in_term = fold-Addend InSql InSql mention mention_term
