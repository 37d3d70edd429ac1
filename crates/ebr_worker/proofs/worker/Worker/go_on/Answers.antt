use Rattle.std.proofs.Common.{◌≡◌, ◌+◌, ◌<◌, length, Ok, refl, sym, ap, ◌∙◌, arith, subst}
use Rattle.ebr_worker.specs.declared.limits.TheConstants.{MAX_ASKS}
use Rattle.ebr_worker.specs.Work.{Work}
use Rattle.ebr_worker.specs.inside.Worker.{Advanced}
use Rattle.ebr_worker.proofs.Turns.{goes_failed, goes_wrote, gone_leaving, gone_on, gone_short, gone_unwritten, is_to_leave, never_done, stands_still, why_seen}
use Rattle.ebr_worker.proofs.worker.Worker.go_on.Goals as goal

pub leave-requires-clause-goes_on : goal.leave-requires-clause-goes_on
leave-requires-clause-goes_on g c = c.requires.runs.goes_on

pub leave-requires-clause-leaves : goal.leave-requires-clause-leaves
leave-requires-clause-leaves g c = is_to_leave _ c.requires.runs (why_seen _ _ _ c.self.view_is (sym c.is_some.ensures ∙ c.if-is_some.true))

pub returns-then-is_some : goal.returns-then-is_some
returns-then-is_some g c = gone_leaving _ _ _ c.requires.runs c.requires.no_end (why_seen _ _ _ c.self.view_is (sym c.is_some.ensures ∙ c.if-is_some.true)) c.leave.ensures

pub quit-requires : goal.quit-requires
quit-requires g c = c.requires.runs.goes_on

pub returns-then-transcript : goal.returns-then-transcript
returns-then-transcript g c = gone_short _ _ _ _ _ refl c.requires.runs c.requires.no_end (why_seen _ _ _ c.self.view_is (sym c.is_some.ensures ∙ c.if-is_some.false)) refl c.quit.ensures

pub returns-then-flush : goal.returns-then-flush
returns-then-flush g c =
    let same : length c.transcript.result.now ≡ length c.args.self.now.session.transcript = ap length c.transcript.ensures ∙ ap (λ (w : Work). length w.session.transcript) c.self.view_is in
    let few : length c.args.self.now.session.transcript + 1 < MAX_ASKS = omega (arith, same, c.if-transcript.false) in
    gone_on _ _ _ _ c.requires.runs c.requires.no_end (why_seen _ _ _ c.self.view_is (sym c.is_some.ensures ∙ c.if-is_some.false)) few
    (subst (λ r. Advanced r c.args.self.now c.advance.new.self) (c.in-Ok-Ask.is ∙ ap Ok c.in-Ok-Ask.field-0-is) c.advance.ensures) c.if-flush.ensures

pub quit-requires-in-Ok-Ask : goal.quit-requires-in-Ok-Ask
quit-requires-in-Ok-Ask g c =
    goes_wrote _ _ _ _ _ c.requires.runs (subst (λ r. Advanced r c.args.self.now c.advance.new.self) (c.in-Ok-Ask.is ∙ ap Ok c.in-Ok-Ask.field-0-is) c.advance.ensures) c.if-flush.ensures

pub returns-else-flush : goal.returns-else-flush
returns-else-flush g c =
    gone_unwritten _ _ _ _ _ _ _ refl c.requires.runs c.requires.no_end (why_seen _ _ _ c.self.view_is (sym c.is_some.ensures ∙ c.if-is_some.false))
    (subst (λ r. Advanced r c.args.self.now c.advance.new.self) (c.in-Ok-Ask.is ∙ ap Ok c.in-Ok-Ask.field-0-is) c.advance.ensures) c.if-flush.ensures c.quit-in-Ok-Ask.ensures

pub quit-requires-in-Ok-Done : goal.quit-requires-in-Ok-Done
quit-requires-in-Ok-Done g c = never_done _ _ c.requires.runs (subst (λ r. Advanced r c.args.self.now c.advance.new.self) (c.in-Ok-Done.is ∙ ap Ok c.in-Ok-Done.field-0-is) c.advance.ensures)

pub returns-in-Ok-Done : goal.returns-in-Ok-Done
returns-in-Ok-Done g c = never_done _ _ c.requires.runs (subst (λ r. Advanced r c.args.self.now c.advance.new.self) (c.in-Ok-Done.is ∙ ap Ok c.in-Ok-Done.field-0-is) c.advance.ensures)

pub quit-requires-in-Err : goal.quit-requires-in-Err
quit-requires-in-Err g c = goes_failed _ _ _ c.requires.runs (subst (λ r. Advanced r c.args.self.now c.advance.new.self) c.in-Err.is c.advance.ensures)

pub returns-in-Err : goal.returns-in-Err
returns-in-Err g c =
    let on = subst (λ r. Advanced r c.args.self.now c.advance.new.self) c.in-Err.is c.advance.ensures in
    gone_short _ _ _ _ _ refl c.requires.runs c.requires.no_end (why_seen _ _ _ c.self.view_is (sym c.is_some.ensures ∙ c.if-is_some.false)) (stands_still _ _ on.same on.advances.2) c.quit-in-Err.ensures
