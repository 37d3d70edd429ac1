use Rattle.ebr_grammar.proofs.Unreserved.{free_is_name}
use Rattle.ebr_grammar.proofs.names.unreserved_words_are_names.Goals as goal

pub returns : goal.returns
returns c = free_is_name
