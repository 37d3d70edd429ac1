use Rattle.ebr_base.specs.Word.{is_digit}
use Rattle.ebr_lexer.proofs.Runs.{prefix_all}
use Rattle.ebr_lexer.proofs.number.number_front.Goals as goal

pub decimal-requires-clause-all : goal.decimal-requires-clause-all
decimal-requires-clause-all c = rw c.digit_count-length.ensures.value (prefix_all is_digit c.args.bytes.now)
