use Rattle.std.proofs.Common.{drop}
use Rattle.ebr_ast.specs.Members.{is_named}
use Rattle.ebr_ast.proofs.Noted.{Places}
use Rattle.ebr_ast.proofs.package.note_subprograms.Given as goal

abbrev pub invariant-loop-at : goal.invariant-loop-at
invariant-loop-at l = Places is_named l.places.entries l.at (drop l.at l.subprograms) l.subprograms
