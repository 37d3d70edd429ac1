use Rattle.std.proofs.Common.{take}
use Rattle.sha2.specs.Hashers.{Holds256}
use Rattle.ebr_versions.specs.Keys.{key_of}
use Rattle.ebr_versions.specs.inside.Print.{key_bytes}
use Rattle.ebr_versions.proofs.print.digest_at.Given as goal

-- the hasher holds the values so far
abbrev pub invariant-loop-place : goal.invariant-loop-place
invariant-loop-place l = Holds256 l.hasher (key_bytes (key_of (take l.place-index l.places) l.values))
