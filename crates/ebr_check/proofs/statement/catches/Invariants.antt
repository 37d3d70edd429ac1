use Rattle.std.proofs.Common.{◌≡◌, drop}
use Rattle.ebr_scope.specs.Lent.{env}
use Rattle.ebr_rules.specs.Noted.{noted}
use Rattle.ebr_validity.specs.Statements.{catches}
use Rattle.ebr_check.proofs.statement.catches.Given as goal

abbrev pub invariant-loop-path : goal.invariant-loop-path
invariant-loop-path l =
    noted (catches (drop l.path-index l.list) (env l.place l.known)) l.least ≡ noted (catches l.list (env l.place l.known)) l.initial.least
