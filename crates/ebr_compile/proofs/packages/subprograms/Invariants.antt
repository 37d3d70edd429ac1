use Rattle.std.proofs.Common.{◌≡◌, ◌++◌, drop}
use Rattle.ebr_code.specs.Units.{subprograms_code}
use Rattle.ebr_compile.proofs.packages.subprograms.Given as goal

abbrev pub invariant-loop-at : goal.invariant-loop-at
invariant-loop-at l = record {
  subprograms : l.found ++ subprograms_code l.at (drop l.at l.it-items) l.initial.around ≡ subprograms_code 0 l.it-items l.initial.around;
  around : l.around ≡ l.initial.around;
}
