use Rattle.std.proofs.Common.{◌≤◌, sym, subst, ◌∙◌}
use Rattle.ebr_tx.specs.Conflicts.{gives_key}
use Rattle.ebr_tx.proofs.KeyTests.{none_behind, fails_from, is_last, none_gives}
use Rattle.ebr_tx.proofs.keys.last_giver.Goals as goal

pub loop-place-init : goal.loop-place-init
loop-place-init c = λ q le. none_behind (gives_key c.args.table c.args.places.now c.args.key.now) c.args.own.now.changes q (subst (λ n. n ≤ q) c.len-end.ensures.changes le)

pub loop-place-preserved : goal.loop-place-preserved
loop-place-preserved c =
    fails_from c.args.table c.args.places.now c.args.key.now c.args.own.now.changes c.args.own.now.entries c.requires.filed c.args.print c.loop-place.end c.requires.print c.loop-place.invariant
    c.in-Some.place c.in-Some.ensures.some (sym c.gives_key_at.ensures ∙ c.if-gives_key_at.false)

pub returns-then-gives_key_at-clause-some : goal.returns-then-gives_key_at-clause-some
returns-then-gives_key_at-clause-some c =
    is_last c.args.table c.args.places.now c.args.key.now c.args.own.now.changes c.args.own.now.entries c.requires.filed c.args.print c.loop-place.end c.requires.print c.loop-place.invariant
    c.in-Some.place c.in-Some.ensures.some (sym c.gives_key_at.ensures ∙ c.if-gives_key_at.true)

pub returns-clause-none : goal.returns-clause-none
returns-clause-none c =
    none_gives c.args.table c.args.places.now c.args.key.now c.args.own.now.changes c.args.own.now.entries c.requires.filed c.args.print c.loop-place.end c.requires.print c.loop-place.invariant
    c.in_default.ensures.none
