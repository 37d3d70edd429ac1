use Rattle.std.proofs.Common.{◌≡◌, ◌++◌, drop}
use Rattle.std.specs.List.{filter_map}
use Rattle.ebr_run.specs.Scope.{declaration_in}
use Rattle.ebr_run.specs.Statements.{with_decls_among}
use Rattle.ebr_code.specs.Codes.{decls_code_among}
use Rattle.ebr_compile.proofs.packages.items_declared.Given as goal

abbrev pub invariant-loop-item : goal.invariant-loop-item
invariant-loop-item l = record {
  code : l.out ++ decls_code_among l.among (filter_map declaration_in (drop l.item-index l.items)) l.around ≡ l.initial.out ++ decls_code_among l.among (filter_map declaration_in l.items) l.initial.around;
  around : with_decls_among l.among (filter_map declaration_in (drop l.item-index l.items)) l.around ≡ with_decls_among l.among (filter_map declaration_in l.items) l.initial.around;
}
