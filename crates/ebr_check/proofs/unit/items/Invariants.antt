use Rattle.std.proofs.Common.{◌≡◌, drop}
use Rattle.std.specs.List.{filter_map}
use Rattle.ebr_scope.specs.Lent.{env}
use Rattle.ebr_rules.specs.Noted.{noted}
use Rattle.ebr_names.specs.Headers.{declaration_in}
use Rattle.ebr_validity.specs.Statements.{with_decls}
use Rattle.ebr_validity.specs.Units.{items_sites}
use Rattle.ebr_check.proofs.unit.items.Given as goal

abbrev pub invariant-loop-it : goal.invariant-loop-it
invariant-loop-it l = record {
  least : noted (items_sites (drop l.it-index l.list) (env l.place l.known)) l.least ≡ noted (items_sites l.list (env l.place l.initial.known)) l.initial.least;
  known : with_decls (filter_map declaration_in (drop l.it-index l.list)) (env l.place l.known) ≡ with_decls (filter_map declaration_in l.list) (env l.place l.initial.known);
}
