use Rattle.std.proofs.Common.{◌≡◌, ◌++◌, drop}
use Rattle.ebr_sqlcheck.specs.inside.Found.{starts_from}
use Rattle.ebr_sqlcheck.proofs.lookup.starts_of.Given as goal

abbrev pub invariant-loop-relation : goal.invariant-loop-relation
invariant-loop-relation l = l.starts ++ starts_from l.from (drop l.relation-index l.list) ≡ starts_from 0 l.list
