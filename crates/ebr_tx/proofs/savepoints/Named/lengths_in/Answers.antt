use Rattle.std.proofs.Common.{◌<◌, ◌≤◌, List, ap, sym, ◌∙◌, arith}
use Rattle.std.specs.Prelude.{find}
use Rattle.std.specs.List.{position_or_len}
use Rattle.ebr_tx.specs.declared.savepoints.Savepoint.{Savepoint}
use Rattle.ebr_tx.specs.Savepoints.{is_savepoint, lengths_of}
use Rattle.ebr_tx.proofs.MarkLemmas.{found, find_within, find_past}
use Rattle.ebr_tx.proofs.savepoints.Named.lengths_in.Goals as goal

pub returns-then-place-n : goal.returns-then-place-n
returns-then-place-n c =
    let l : position_or_len (is_savepoint c.args.name.now) c.args.self.now < c.args.n = omega (arith, c.place.ensures, c.if-place-n.true) in
    c.copied.ensures ∙ c.get.ensures.value ∙ found c.args.name.now c.self.inside.items.entries
    ∙ ap (λ (ss : List Savepoint). lengths_of (find (is_savepoint c.args.name.now) ss)) c.self.view_is
    ∙ ap lengths_of (sym (find_within (is_savepoint c.args.name.now) c.args.n c.args.self.now l))

pub returns : goal.returns
returns c =
    let l : c.args.n ≤ position_or_len (is_savepoint c.args.name.now) c.args.self.now = omega (arith, c.place.ensures, c.if-place-n.false) in
    ap lengths_of (sym (find_past (is_savepoint c.args.name.now) c.args.n c.args.self.now l))
