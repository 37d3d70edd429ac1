use Rattle.std.proofs.Common.{◌≡◌, ◌++◌, drop}
use Rattle.std.specs.Prelude.{map}
use Rattle.std.specs.List.{concat}
use Rattle.ebr_calls.specs.Steps.{behind_bar}
use Rattle.ebr_calls.proofs.reply.print_others.Given as goal

abbrev pub invariant-loop-value : goal.invariant-loop-value
invariant-loop-value l = l.out ++ concat (map behind_bar (drop l.value-index l.values)) ≡ l.initial.out ++ concat (map behind_bar l.values)
