use Rattle.std.proofs.Common.{◌≡◌, drop, map}
use Rattle.ebr_scope.specs.Lent.{env}
use Rattle.ebr_validity.specs.Embedded.{each, in_assignment}
use Rattle.ebr_rules.specs.Noted.{noted}
use Rattle.ebr_rules.proofs.mention.in_sets.Given as goal

abbrev pub invariant-loop-set : goal.invariant-loop-set
invariant-loop-set l =
    noted (each (map in_assignment (drop l.set-index l.sets)) l.relations (env l.place l.known)) l.least
    ≡ noted (each (map in_assignment l.sets) l.relations (env l.place l.known)) l.initial.least
