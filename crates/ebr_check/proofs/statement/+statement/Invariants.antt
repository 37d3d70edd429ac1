use Rattle.std.proofs.Common.{◌≡◌, map, drop}
use Rattle.ebr_scope.specs.Lent.{env}
use Rattle.ebr_rules.specs.Noted.{noted}
use Rattle.ebr_validity.specs.Statements.{each, in_statement, in_branch, in_handler, inside_of}
use Rattle.ebr_check.proofs.statement.+statement.Given as goal

abbrev pub invariant-statements-loop-it : goal.invariant-statements-loop-it
invariant-statements-loop-it l = record {
  least : noted (each (map in_statement (drop l.it-index l.it-items)) (env l.place l.initial.known)) l.least ≡ noted (each (map in_statement l.it-items) (env l.place l.initial.known)) l.initial.least;
  known : l.known ≡ l.initial.known;
}

abbrev pub invariant-branches-loop-it : goal.invariant-branches-loop-it
invariant-branches-loop-it l = record {
  least : noted (each (map in_branch (drop l.it-index l.it-items)) (env l.place l.initial.known)) l.least ≡ noted (each (map in_branch l.it-items) (env l.place l.initial.known)) l.initial.least;
  known : l.known ≡ l.initial.known;
}

abbrev pub invariant-each_handler-loop-it : goal.invariant-each_handler-loop-it
invariant-each_handler-loop-it l = record {
  least : noted (each (map inside_of (map in_handler (drop l.it-index l.it-items))) (env l.place l.initial.known)) l.least ≡ noted (each (map inside_of (map in_handler l.it-items)) (env l.place l.initial.known)) l.initial.least;
  known : l.known ≡ l.initial.known;
}
