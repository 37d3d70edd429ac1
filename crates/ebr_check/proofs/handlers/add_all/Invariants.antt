use Rattle.std.proofs.Common.{◌≡◌, ◌++◌, map, drop}
use Rattle.ebr_scope.specs.Lent.{env}
use Rattle.ebr_validity.specs.Statements.{full_name}
use Rattle.ebr_check.specs.inside.Caught.{as_path}
use Rattle.ebr_check.proofs.handlers.add_all.Given as goal

abbrev pub invariant-loop-path : goal.invariant-loop-path
invariant-loop-path l =
    map as_path l.paths ++ map (full_name (env l.place l.known)) (drop l.path-index l.named) ≡ map as_path l.initial.paths ++ map (full_name (env l.place l.known)) l.named
