use Rattle.std.proofs.Common.{List, take, ap, sym, ◌∙◌}
use Rattle.std.proofs.lemmas.List.{take-map}
use Rattle.ebr_tx.specs.declared.savepoints.Savepoint.{Savepoint}
use Rattle.ebr_tx.specs.inside.Marked.{savepoint_of, savepoints_of}
use Rattle.ebr_tx.proofs.savepoints.Named.first.Goals as goal

pub returns : goal.returns
returns c =
    ap savepoints_of c.in_ok-copies.ensures ∙ sym (take-map savepoint_of c.args.n c.self.inside.items.entries)
    ∙ ap (λ (ss : List Savepoint). take c.args.n ss) c.self.view_is
