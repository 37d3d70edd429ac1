use Rattle.ebr_base.specs.Word.{is_digit}
use Rattle.ebr_value.proofs.Numerals.{prefix_all}
use Rattle.ebr_value.proofs.numeral.read_digits.Goals as goal

pub decimal-requires-clause-all : goal.decimal-requires-clause-all
decimal-requires-clause-all c = rw c.digit_count-length.ensures.value (prefix_all is_digit c.args.text.now)
