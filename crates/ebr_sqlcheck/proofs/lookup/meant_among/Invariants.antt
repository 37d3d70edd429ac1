use Rattle.std.proofs.Common.{◌≡◌, drop}
use Rattle.std.specs.List.{filter_map}
use Rattle.ebr_sqlcheck.specs.Names.{columns_meant, named_in}
use Rattle.ebr_sqlcheck.specs.inside.Before.{before}
use Rattle.ebr_sqlcheck.proofs.lookup.meant_among.Given as goal

abbrev pub invariant-loop-relation : goal.invariant-loop-relation
invariant-loop-relation l = before l.found (filter_map (named_in l.path.name l.path.member) (drop l.relation-index l.list)) ≡ columns_meant l.list l.path
