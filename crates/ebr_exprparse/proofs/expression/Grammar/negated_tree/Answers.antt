use Rattle.ebr_grammar.specs.Reading.{reads}
use Rattle.ebr_exprparse.specs.Expressions.{negated_tree}
use Rattle.ebr_exprparse.proofs.expression.Grammar.negated_tree.Goals as goal

pub returns : goal.returns
unfolding negated_tree reads
returns g c = c.tree_of.ensures _ _ c.negation.ensures
