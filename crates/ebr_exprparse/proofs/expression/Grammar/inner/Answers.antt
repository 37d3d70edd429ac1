use Rattle.ebr_grammar.specs.Reading.{reads}
use Rattle.ebr_exprparse.specs.Expressions.{inner}
use Rattle.ebr_exprparse.proofs.Found.{unchanged}
use Rattle.ebr_exprparse.proofs.expression.Grammar.inner.Goals as goal

pub returns : goal.returns
unfolding inner reads
returns g c = c.tree_of.ensures _ _ (unchanged _ _ _ c.nested_read.ensures)
