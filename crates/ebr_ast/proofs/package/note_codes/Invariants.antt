use Rattle.std.proofs.Common.{drop}
use Rattle.ebr_ast.proofs.Noted.{Codes}
use Rattle.ebr_ast.proofs.package.note_codes.Given as goal

abbrev pub invariant-loop-item : goal.invariant-loop-item
invariant-loop-item l = Codes l.codes.entries (drop l.item-index l.items) l.items
