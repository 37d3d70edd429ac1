use Rattle.std.proofs.Common.{◌≡◌, ◌++◌, map, drop}
use Rattle.ebr_code.specs.Codes.{all, stmt_code, handler_code, handlers_code}
use Rattle.ebr_stmtcode.specs.inside.Choices.{branch_code, choices}
use Rattle.ebr_stmtcode.proofs.statements.+statement.Given as goal

abbrev pub invariant-steps-loop-at : goal.invariant-steps-loop-at
invariant-steps-loop-at l = record {
  code : l.code ++ all l.at (map stmt_code (drop l.at l.it-items)) l.initial.around ≡ all 0 (map stmt_code l.it-items) l.initial.around;
  around : l.around ≡ l.initial.around;
}

abbrev pub invariant-choices-loop-at : goal.invariant-choices-loop-at
invariant-choices-loop-at l = record {
  choices : l.found ++ choices l.at (map branch_code (drop l.at l.it-items)) l.initial.around ≡ choices 0 (map branch_code l.it-items) l.initial.around;
  around : l.around ≡ l.initial.around;
}

abbrev pub invariant-handlers-loop-at : goal.invariant-handlers-loop-at
invariant-handlers-loop-at l = record {
  handlers : l.found ++ handlers_code l.at (map handler_code (drop l.at l.it-items)) l.initial.around ≡ handlers_code 0 (map handler_code l.it-items) l.initial.around;
  around : l.around ≡ l.initial.around;
}
