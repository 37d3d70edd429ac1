use Rattle.std.proofs.Common.{◌≡◌, drop}
use Rattle.ebr_versions.specs.inside.Print.{spelled}
use Rattle.ebr_versions.proofs.print.number_of.Given as goal

-- the bytes to come spell the rest
abbrev pub invariant-loop-byte : goal.invariant-loop-byte
invariant-loop-byte l = spelled l.number (drop l.byte-index l.bytes) ≡ spelled 0 l.bytes
