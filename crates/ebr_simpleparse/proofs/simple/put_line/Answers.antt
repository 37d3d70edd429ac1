use Rattle.std.proofs.Common.{rules}
use Rattle.ebr_grammar.proofs.Steps.{steps}
use Rattle.ebr_simpleparse.specs.Simple.{put_line}
use Rattle.ebr_simpleparse.proofs.simple.put_line.Goals as goal

pub returns-in_err-expect : goal.returns-in_err-expect
unfolding put_line
returns-in_err-expect c = simp steps (search rules)

pub returns-in_err-expect-2 : goal.returns-in_err-expect-2
unfolding put_line
returns-in_err-expect-2 c = simp steps (search rules)

pub returns-in_err-expect-3 : goal.returns-in_err-expect-3
unfolding put_line
returns-in_err-expect-3 c = simp steps (search rules)

pub returns-in_err-text : goal.returns-in_err-text
unfolding put_line
returns-in_err-text c = simp steps (search rules)

pub returns : goal.returns
unfolding put_line
returns c = simp steps (search rules)
