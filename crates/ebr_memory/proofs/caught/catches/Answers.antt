use Rattle.std.proofs.Common.{rules}
use Rattle.ebr_code.specs.declared.instruction.Instruction.TheViews.{the_lemmas}
use Rattle.ebr_code.proofs.Layers.{handling_of-out}
use Rattle.ebr_memory.proofs.caught.catches.Goals as goal

pub returns : goal.returns
returns c = search (rules, the_lemmas, handling_of-out)
