use Rattle.std.proofs.Common.{◌≡◌, drop, map}
use Rattle.ebr_scope.specs.Lent.{env}
use Rattle.ebr_validity.specs.Embedded.{each, in_item}
use Rattle.ebr_rules.specs.Noted.{noted}
use Rattle.ebr_rules.proofs.mention.in_items.Given as goal

abbrev pub invariant-loop-item : goal.invariant-loop-item
invariant-loop-item l =
    noted (each (map in_item (drop l.item-index l.items)) l.relations (env l.place l.known)) l.least
    ≡ noted (each (map in_item l.items) l.relations (env l.place l.known)) l.initial.least
