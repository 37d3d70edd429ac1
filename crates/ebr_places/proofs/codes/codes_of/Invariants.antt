use Rattle.std.proofs.Common.{drop}
use Rattle.ebr_places.proofs.GivenCodes.{Codes}
use Rattle.ebr_places.proofs.codes.codes_of.Given as goal

abbrev pub invariant-loop-declaration : goal.invariant-loop-declaration
invariant-loop-declaration l = Codes l.codes.entries (drop l.declaration-index l.list) l.list
