use Rattle.std.proofs.Common.{length, ap, sym, ◌∙◌}
use Rattle.std.proofs.lemmas.List.{length-map}
use Rattle.ebr_tx.specs.inside.Marked.{savepoint_of}
use Rattle.ebr_tx.proofs.savepoints.Named.len.Goals as goal

pub returns : goal.returns
returns c = c.len.ensures.len ∙ sym (length-map c.self.inside.items.entries savepoint_of) ∙ ap length c.self.view_is
