use Rattle.std.proofs.Common.{◌≡◌, drop}
use Rattle.ebr_scope.specs.Lent.{env}
use Rattle.ebr_rules.specs.Noted.{noted}
use Rattle.ebr_validity.specs.Targets.{each_target}
use Rattle.ebr_rules.proofs.targets.each_target.Given as goal

abbrev pub invariant-loop-it : goal.invariant-loop-it
invariant-loop-it l =
    noted (each_target (drop l.it-index l.list) l.rest (env l.place l.known)) l.least ≡ noted (each_target l.list l.fields (env l.place l.known)) l.initial.least
