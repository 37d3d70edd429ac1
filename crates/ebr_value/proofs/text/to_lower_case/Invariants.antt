use Rattle.std.proofs.Common.{◌≡◌, take, map}
use Rattle.ebr_value.specs.Texts.{lower}
use Rattle.ebr_value.proofs.text.to_lower_case.Given as goal

-- the copy has the bytes so far, in lower case
abbrev pub invariant-loop-byte : goal.invariant-loop-byte
invariant-loop-byte l = l.copy ≡ map lower (take l.byte-index l.bytes)
