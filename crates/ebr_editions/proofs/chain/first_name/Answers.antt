use Rattle.std.proofs.Common.{sym, ◌∙◌}
use Rattle.std.proofs.lemmas.Option.{none-some}
use Rattle.ebr_base.specs.Word.{is_letter, is_word_byte, is_reserved}
use Rattle.ebr_editions.proofs.chain.first_name.Goals as goal

pub unreachable-requires : goal.unreachable-requires
unfolding is_letter is_word_byte is_reserved
unreachable-requires c = none-some _ (sym c.in-None.is ∙ c.in_ok-name.ensures)
