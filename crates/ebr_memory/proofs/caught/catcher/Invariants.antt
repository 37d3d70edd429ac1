use Rattle.std.proofs.Common.{◌≡◌, drop, map}
use Rattle.ebr_code.specs.Instructions.{handling_of}
use Rattle.ebr_memory.specs.Catching.{catcher}
use Rattle.ebr_memory.proofs.caught.catcher.Given as goal

abbrev pub invariant-loop-handler : goal.invariant-loop-handler
invariant-loop-handler l = catcher (map handling_of (drop l.handler-index l.handlers)) l.fault ≡ catcher (map handling_of l.handlers) l.fault
