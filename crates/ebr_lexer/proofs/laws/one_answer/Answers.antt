use Rattle.ebr_lexer.proofs.Agreement.{one_reading, one_fault, never_both, has_one}
use Rattle.ebr_lexer.proofs.laws.one_answer.Goals as goal

pub returns-clause-tokens : goal.returns-clause-tokens
returns-clause-tokens c = one_reading

pub returns-clause-fault : goal.returns-clause-fault
returns-clause-fault c = one_fault

pub returns-clause-never_both : goal.returns-clause-never_both
returns-clause-never_both c = never_both

pub returns-clause-some : goal.returns-clause-some
returns-clause-some c = has_one
