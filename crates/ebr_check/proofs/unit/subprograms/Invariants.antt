use Rattle.std.proofs.Common.{◌≡◌, drop}
use Rattle.ebr_scope.specs.Lent.{env}
use Rattle.ebr_rules.specs.Noted.{noted}
use Rattle.ebr_validity.specs.Units.{subprograms_sites}
use Rattle.ebr_check.proofs.unit.subprograms.Given as goal

abbrev pub invariant-loop-it : goal.invariant-loop-it
invariant-loop-it l = record {
  least : noted (subprograms_sites (drop l.it-index l.list) (env l.place l.initial.known)) l.least ≡ noted (subprograms_sites l.list (env l.place l.initial.known)) l.initial.least;
  known : l.known ≡ l.initial.known;
}
