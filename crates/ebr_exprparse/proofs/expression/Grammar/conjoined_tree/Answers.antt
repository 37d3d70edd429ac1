use Rattle.ebr_grammar.specs.Reading.{reads}
use Rattle.ebr_exprparse.specs.Expressions.{conjoined_tree}
use Rattle.ebr_exprparse.proofs.expression.Grammar.conjoined_tree.Goals as goal

pub returns : goal.returns
unfolding conjoined_tree reads
returns g c = c.tree_of.ensures _ _ c.conjunction.ensures
