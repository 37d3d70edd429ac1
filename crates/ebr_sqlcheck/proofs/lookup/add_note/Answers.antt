use Rattle.ebr_sqlcheck.proofs.ByName.{added}
use Rattle.ebr_sqlcheck.proofs.lookup.add_note.Goals as goal

pub returns : goal.returns
returns c = added c.args.notes.now.entries c.insert.new.self.entries c.args.name c.args.at c.first_noted-first.result c.first_noted-first.ensures c.in_ok-insert.ensures.entries
