use Rattle.std.proofs.Common.{sym, ap, ◌∙◌}
use Rattle.ebr_sqlcheck.specs.Sources.{is_called}
use Rattle.std.specs.Str.{bytes_eq}
use Rattle.ebr_sqlcheck.specs.inside.Found.{note, with_last}
use Rattle.ebr_sqlcheck.proofs.ByName.{one_more}
use Rattle.ebr_sqlcheck.proofs.lookup.aliases_of.Goals as goal

pub loop-at-preserved : goal.loop-at-preserved
loop-at-preserved c = λ n.
    c.in_ok-add_note.ensures n
    ∙ ap (λ w. with_last (bytes_eq n w) c.loop-at.at (note n c.loop-at.notes.entries)) c.alias.ensures
    ∙ ap (with_last (is_called n c.index-list-at.result) c.loop-at.at) (c.loop-at.invariant n)
    ∙ sym (one_more (is_called n) c.args.list.now c.loop-at.at c.index-list-at.result c.loop-at-test.true c.index-list-at.is)
