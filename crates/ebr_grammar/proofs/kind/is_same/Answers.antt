use Rattle.std.proofs.Common.{rules}
use Rattle.ebr_grammar.specs.Kinds.{same}
use Rattle.ebr_grammar.proofs.kind.is_same.Goals as goal

pub returns : goal.returns
unfolding same
returns c = search rules
