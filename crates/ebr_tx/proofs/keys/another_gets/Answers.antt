use Rattle.std.proofs.Common.{sym, ◌∙◌}
use Rattle.ebr_tx.proofs.LoadLemmas.{some_last, no_last}
use Rattle.ebr_tx.proofs.keys.another_gets.Goals as goal

pub returns-then-has_now_at : goal.returns-then-has_now_at
returns-then-has_now_at c =
    some_last c.args.table c.args.places.now c.args.key.now c.args.own.now.changes c.args.this c.in-Some.place (sym c.has_now_at.ensures ∙ c.if-has_now_at.true)

pub returns : goal.returns
returns c =
    no_last c.args.table c.args.places.now c.args.key.now c.args.own.now.changes c.args.this c.args.own.now.entries c.requires.filed c.key_print-print.result c.loop-place.end
    c.key_print-print.ensures c.loop-place.invariant c.in_default.ensures.none
