use Rattle.std.proofs.Common.{take}
use Rattle.sha2.specs.Hashers.{Holds256}
use Rattle.ebr_versions.specs.inside.Print.{key_bytes}
use Rattle.ebr_versions.proofs.print.digest.Given as goal

-- the hasher holds the values so far
abbrev pub invariant-loop-value : goal.invariant-loop-value
invariant-loop-value l = Holds256 l.hasher (key_bytes (take l.value-index l.key))
