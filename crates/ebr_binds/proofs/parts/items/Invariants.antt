use Rattle.std.proofs.Common.{drop, map}
use Rattle.ebr_run.specs.Binds.{bind_all, bound_item}
use Rattle.ebr_binds.proofs.Laws.{Keeps}
use Rattle.ebr_binds.proofs.parts.items.Given as goal

abbrev pub invariant-loop-next : goal.invariant-loop-next
invariant-loop-next l = Keeps (bind_all (map (bound_item l.relations l.around) l.next-items)) l.initial.binds (map (bound_item l.relations l.around) (drop l.next-index l.next-items)) l.bound l.binds
