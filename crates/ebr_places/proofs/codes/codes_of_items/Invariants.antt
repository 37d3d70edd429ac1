use Rattle.std.proofs.Common.{drop}
use Rattle.std.specs.List.{filter_map}
use Rattle.ebr_run.specs.Scope.{declaration_in}
use Rattle.ebr_places.proofs.GivenCodes.{Codes}
use Rattle.ebr_places.proofs.codes.codes_of_items.Given as goal

abbrev pub invariant-loop-item : goal.invariant-loop-item
invariant-loop-item l = Codes l.codes.entries (filter_map declaration_in (drop l.item-index l.items)) (filter_map declaration_in l.items)
