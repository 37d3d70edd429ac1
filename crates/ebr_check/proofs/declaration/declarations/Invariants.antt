use Rattle.std.proofs.Common.{◌≡◌, drop}
use Rattle.ebr_scope.specs.Lent.{env}
use Rattle.ebr_rules.specs.Noted.{noted}
use Rattle.ebr_validity.specs.Statements.{decls_sites, with_decls}
use Rattle.ebr_check.proofs.declaration.declarations.Given as goal

abbrev pub invariant-loop-it : goal.invariant-loop-it
invariant-loop-it l = record {
  least : noted (decls_sites (drop l.it-index l.list) (env l.place l.known)) l.least ≡ noted (decls_sites l.list (env l.place l.initial.known)) l.initial.least;
  known : with_decls (drop l.it-index l.list) (env l.place l.known) ≡ with_decls l.list (env l.place l.initial.known);
}
