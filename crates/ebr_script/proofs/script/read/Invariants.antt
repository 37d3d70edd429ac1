use Rattle.std.proofs.Common.{◌≡◌, map, take}
use Rattle.ebr_script.specs.Pieces.{piece_at}
use Rattle.ebr_script.proofs.script.read.Given as goal

-- the pieces of the spans so far
abbrev pub invariant-loop-span : goal.invariant-loop-span
invariant-loop-span l = l.pieces ≡ map (piece_at l.script) (take l.span-index l.span-items)
