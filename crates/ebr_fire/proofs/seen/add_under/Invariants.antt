use Rattle.std.proofs.Common.{◌≡◌, drop}
use Rattle.ebr_cross.specs.Catalogue.{ForLists}
use Rattle.ebr_fire.specs.inside.Groups.{with_seen}
use Rattle.ebr_fire.proofs.seen.add_under.Given as goal

abbrev pub invariant-loop-key : goal.invariant-loop-key
invariant-loop-key l = ForLists l.c (λ lists. with_seen lists l.e l.kind l.on l.triggers.keys (drop l.key-index l.keys) ≡ with_seen lists l.e l.kind l.on l.initial.triggers.keys l.keys)
