use Rattle.std.proofs.Common.{◌++◌, List, take, sym, subst, append-nil}
use Rattle.std.specs.Prelude.{Err}
use Rattle.std.proofs.lemmas.List.{take_all}
use Rattle.ebr_record.specs.declared.record.Record.{Record}
use Rattle.ebr_allowed.specs.Allowed.{AllowedBehind}
use Rattle.ebr_recovery.specs.Recovery.{HasRoom, IsRefused, Recovers, StandsAt}
use Rattle.ebr_recovery.proofs.Extending.{one_more, refused}
use Rattle.ebr_recovery.proofs.recovery.Recovery.extend.Goals as goal

pub loop-at-init : goal.loop-at-init
loop-at-init c = λ sessions before stands. (tt, subst (λ (rs : List Record). StandsAt sessions rs c.args.self.now) (sym (append-nil before)) stands)

pub next-requires-clause-stands : goal.next-requires-clause-stands
next-requires-clause-stands c =
    let h = c.requires.stands in
    record { sessions = h.sessions; records = h.records ++ take c.loop-at.at c.args.records.now; stands = (c.loop-at.invariant h.sessions h.records h.stands).1 }

pub next-requires-clause-room : goal.next-requires-clause-room
next-requires-clause-room c = subst HasRoom (sym c.index-records-at.is) (c.requires.room c.loop-at.at c.index-records-at.result c.loop-at-test.true)

pub loop-at-preserved : goal.loop-at-preserved
loop-at-preserved c = λ sessions before stands.
    let k = c.loop-at.invariant sessions before stands in
    one_more sessions before c.args.records.now c.loop-at.at c.index-records-at.result c.next.new.self c.loop-at-test.true c.index-records-at.is k.0
    (subst (Recovers sessions (before ++ take c.loop-at.at c.args.records.now) c.index-records-at.result c.next.new.self) c.in_default.is (c.next.ensures sessions (before ++ take c.loop-at.at c.args.records.now) k.1))

pub returns-in-Err : goal.returns-in-Err
returns-in-Err c = λ sessions before stands.
    let k = c.loop-at.invariant sessions before stands in
    subst (IsRefused before c.args.records.now) (sym c.fault_at.ensures)
    (refused sessions before c.args.records.now c.loop-at.at c.index-records-at.result c.next.new.self c.in-Err.fault c.loop-at-test.true c.index-records-at.is k.0
    (subst (Recovers sessions (before ++ take c.loop-at.at c.args.records.now) c.index-records-at.result c.next.new.self) c.in-Err.is (c.next.ensures sessions (before ++ take c.loop-at.at c.args.records.now) k.1)))

pub returns : goal.returns
returns c = λ sessions before stands.
    let k = c.loop-at.invariant sessions before stands in
    let all = take_all c.loop-at.at c.args.records.now c.loop-at-test.false in
    (subst (AllowedBehind before) all k.0, subst (λ (rs : List Record). StandsAt sessions (before ++ rs) c.loop-at.self) all k.1)
