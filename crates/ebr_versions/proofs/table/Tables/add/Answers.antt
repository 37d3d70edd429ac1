use Rattle.std.proofs.Common.{◌≡◌, List, ◌++◌, ◌∷◌, [], ap, rules, length, ◌∙◌}
use Rattle.ebr_versions.specs.declared.table.Table.{Table}
use Rattle.ebr_versions.proofs.TableLemmas.{filed_more}
use Rattle.ebr_versions.proofs.table.Tables.add.Goals as goal

pub invariant_of-self-2 : goal.invariant_of-self-2
invariant_of-self-2 c =
    let at : c.len-place.result ≡ length c.self.inside.tables.items = search rules in
    filed_more c.self.inside.by_id c.add.new.self c.self.inside.tables.items c.push_reserved.new.self.items c.args.table c.spot.result c.len-place.result
    at c.spot.ensures (c.push_reserved.ensures.items ∙ ap (λ (ts : List Table). ts ++ c.args.table ∷ []) c.reserve.ensures.items) c.in_ok-add.ensures.ok c.self.invariant
