use Rattle.std.proofs.Common.{◌≡◌, take}
use Rattle.ebr_versions.specs.Keys.{key_of}
use Rattle.ebr_tx.proofs.keys.key_of.Given as goal

abbrev pub invariant-loop-place : goal.invariant-loop-place
invariant-loop-place l = l.key ≡ key_of (take l.place-index l.places) l.values
