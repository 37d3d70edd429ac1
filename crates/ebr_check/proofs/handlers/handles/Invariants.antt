use Rattle.std.proofs.Common.{◌≡◌, ◌++◌, map, drop, flat_map}
use Rattle.ebr_scope.specs.Lent.{env}
use Rattle.ebr_validity.specs.Rules.{caught_paths}
use Rattle.ebr_validity.specs.Statements.{caught_in_full}
use Rattle.ebr_check.specs.inside.Caught.{caught_of, as_path}
use Rattle.ebr_check.proofs.handlers.handles.Given as goal

abbrev pub invariant-loop-handler : goal.invariant-loop-handler
invariant-loop-handler l =
    let full = caught_in_full (env l.place l.known) in
    map as_path l.paths ++ flat_map caught_paths (map full (map caught_of (drop l.handler-index l.handlers))) ≡ flat_map caught_paths (map full (map caught_of l.handlers))
