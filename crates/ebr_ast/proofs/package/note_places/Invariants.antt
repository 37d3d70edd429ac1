use Rattle.std.proofs.Common.{drop}
use Rattle.ebr_ast.specs.Members.{has_name}
use Rattle.ebr_ast.proofs.Noted.{Places}
use Rattle.ebr_ast.proofs.package.note_places.Given as goal

abbrev pub invariant-loop-at : goal.invariant-loop-at
invariant-loop-at l = Places has_name l.places.entries l.at (drop l.at l.items) l.items
