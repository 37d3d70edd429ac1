use Rattle.std.proofs.Common.{rules}
use Rattle.ebr_grammar.proofs.Steps.{steps}
use Rattle.ebr_stmtparse.specs.Statements.{nested_block}
use Rattle.ebr_stmtparse.proofs.grammar.Grammar.nested_block.Goals as goal

pub returns-in_err-block : goal.returns-in_err-block
unfolding nested_block
returns-in_err-block g c = simp steps (search rules)

pub returns-in_err-new : goal.returns-in_err-new
unfolding nested_block
returns-in_err-new g c = simp steps (search rules)

pub returns : goal.returns
unfolding nested_block
returns g c = simp steps (search rules)
