use Rattle.ebr_editions.proofs.Entries.{ok_on}
use Rattle.ebr_editions.proofs.Keys.{hidden-more}
use Rattle.ebr_editions.proofs.defined.Definitions.hide_two.Goals as goal

pub returns-clause-ok : goal.returns-clause-ok
returns-clause-ok g c =
    let one = ok_on c.insert.result c.unwrap.result c.unwrap.ensures c.insert.ensures.entries in
    let two = ok_on c.insert-2.result c.unwrap-2.result c.unwrap-2.ensures c.insert-2.ensures.entries in
    hidden-more c.args.self.now c.self.inside.count c.self.inside.objects.entries _ _ _ c.args.first c.args.second c.self.view_is c.in_ok-reserve.ensures.entries one two
