use Rattle.std.proofs.Common.{◌≡◌, drop, map}
use Rattle.ebr_scope.specs.Lent.{env}
use Rattle.ebr_validity.specs.Embedded.{each, in_key}
use Rattle.ebr_rules.specs.Noted.{noted}
use Rattle.ebr_rules.proofs.mention.in_keys.Given as goal

abbrev pub invariant-loop-key : goal.invariant-loop-key
invariant-loop-key l =
    noted (each (map in_key (drop l.key-index l.keys)) l.relations (env l.place l.known)) l.least
    ≡ noted (each (map in_key l.keys) l.relations (env l.place l.known)) l.initial.least
