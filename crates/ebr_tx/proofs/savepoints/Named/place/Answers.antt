use Rattle.std.proofs.Common.{List, ap, sym, ◌∙◌}
use Rattle.std.specs.List.{position_or_len}
use Rattle.std.proofs.lemmas.List.{length-map}
use Rattle.ebr_tx.specs.declared.savepoints.Savepoint.{Savepoint}
use Rattle.ebr_tx.specs.Savepoints.{is_savepoint}
use Rattle.ebr_tx.specs.inside.Marked.{savepoint_of}
use Rattle.ebr_tx.proofs.MarkLemmas.{place_some, place_none}
use Rattle.ebr_tx.proofs.savepoints.Named.place.Goals as goal

pub returns-in-Some : goal.returns-in-Some
returns-in-Some c =
    place_some c.args.name.now c.self.inside.items.entries c.in-Some.at c.in-Some.ensures.index
    ∙ ap (λ (ss : List Savepoint). position_or_len (is_savepoint c.args.name.now) ss) c.self.view_is

pub returns-in-None : goal.returns-in-None
returns-in-None c =
    place_none c.args.name.now c.self.inside.items.entries c.len.result (c.len.ensures.len ∙ sym (length-map c.self.inside.items.entries savepoint_of)) c.in-None.ensures.index
    ∙ ap (λ (ss : List Savepoint). position_or_len (is_savepoint c.args.name.now) ss) c.self.view_is
