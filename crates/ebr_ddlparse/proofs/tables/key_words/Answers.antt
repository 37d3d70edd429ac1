use Rattle.std.proofs.Common.{rules}
use Rattle.ebr_grammar.proofs.Steps.{steps}
use Rattle.ebr_ddlparse.specs.Tables.{key_words}
use Rattle.ebr_ddlparse.proofs.tables.key_words.Goals as goal

pub returns-in_err-expect : goal.returns-in_err-expect
unfolding key_words
returns-in_err-expect c = simp steps (search rules)

pub returns-in_err-expect-2 : goal.returns-in_err-expect-2
unfolding key_words
returns-in_err-expect-2 c = simp steps (search rules)

pub returns-in_err-expect-3 : goal.returns-in_err-expect-3
unfolding key_words
returns-in_err-expect-3 c = simp steps (search rules)

pub returns : goal.returns
unfolding key_words
returns c = simp steps (search rules)
