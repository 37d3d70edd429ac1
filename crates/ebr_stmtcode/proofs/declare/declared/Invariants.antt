use Rattle.std.proofs.Common.{◌≡◌, ◌++◌, drop}
use Rattle.ebr_run.specs.Statements.{with_decls_among}
use Rattle.ebr_code.specs.Codes.{decls_code_among}
use Rattle.ebr_stmtcode.proofs.declare.declared.Given as goal

abbrev pub invariant-loop-it : goal.invariant-loop-it
invariant-loop-it l = record {
  code : l.out ++ decls_code_among l.among (drop l.it-index l.list) l.around ≡ l.initial.out ++ decls_code_among l.among l.list l.initial.around;
  around : with_decls_among l.among (drop l.it-index l.list) l.around ≡ with_decls_among l.among l.list l.initial.around;
}
