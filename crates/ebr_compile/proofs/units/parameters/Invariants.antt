use Rattle.std.proofs.Common.{◌≡◌, map, take}
use Rattle.ebr_code.specs.Units.{parameter_code}
use Rattle.ebr_compile.proofs.units.parameters.Given as goal

abbrev pub invariant-loop-it : goal.invariant-loop-it
invariant-loop-it l = l.found ≡ map (parameter_code l.seen.view) (take l.it-index l.it-items)
