use Rattle.std.proofs.Common.{◌≡◌, [], drop, map}
use Rattle.ebr_scope.specs.Lent.{env}
use Rattle.ebr_validity.specs.Embedded.{each, mentions}
use Rattle.ebr_rules.specs.Noted.{noted}
use Rattle.ebr_rules.proofs.mention.in_values.Given as goal

abbrev pub invariant-loop-e : goal.invariant-loop-e
invariant-loop-e l =
    noted (each (map mentions (drop l.e-index l.values)) [] (env l.place l.known)) l.least
    ≡ noted (each (map mentions l.values) [] (env l.place l.known)) l.initial.least
