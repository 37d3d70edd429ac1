use Rattle.std.proofs.Common.{sym, ap, ◌∙◌}
use Rattle.ebr_worker.specs.Work.{Work}
use Rattle.ebr_worker.proofs.Turns.{few_mid, may_mid, not_ended, out_mid, rests, runs_of, short_mid, takes_turn}
use Rattle.ebr_worker.proofs.worker.Worker.turn.Goals as goal

pub returns-then-is_some : goal.returns-then-is_some
returns-then-is_some g c = rests g.A.Asked.may_ask g.A.Asked.replied _ _ _ c.requires (ap (λ (w : Work). w.end) c.self.view_is) (sym c.is_some.ensures ∙ c.if-is_some.true)

pub go_on-ask-requires-clause-runs : goal.go_on-ask-requires-clause-runs
go_on-ask-requires-clause-runs g c = (runs_of g.A.Asked.may_ask g.A.Asked.replied c.args.self.now _ c.requires (not_ended _ c.args.self.now (ap (λ (w : Work). w.end) c.self.view_is) (sym c.is_some.ensures ∙ c.if-is_some.false))).0

pub go_on-ask-requires-clause-no_end : goal.go_on-ask-requires-clause-no_end
go_on-ask-requires-clause-no_end g c = not_ended _ c.args.self.now (ap (λ (w : Work). w.end) c.self.view_is) (sym c.is_some.ensures ∙ c.if-is_some.false)

pub reply-answer-requires-clause-may : goal.reply-answer-requires-clause-may
reply-answer-requires-clause-may g c =
    let works = runs_of g.A.Asked.may_ask g.A.Asked.replied c.args.self.now _ c.requires (not_ended _ c.args.self.now (ap (λ (w : Work). w.end) c.self.view_is) (sym c.is_some.ensures ∙ c.if-is_some.false)) in
    may_mid g.A.Asked.may_ask g.A.Asked.replied _ _ _ _ works c.go_on-ask.ensures _ _ c.id.ensures c.transcript.ensures

pub reply-answer-requires-clause-few : goal.reply-answer-requires-clause-few
reply-answer-requires-clause-few g c =
    let works = runs_of g.A.Asked.may_ask g.A.Asked.replied c.args.self.now _ c.requires (not_ended _ c.args.self.now (ap (λ (w : Work). w.end) c.self.view_is) (sym c.is_some.ensures ∙ c.if-is_some.false)) in
    few_mid g.A.Asked.may_ask g.A.Asked.replied _ _ _ _ works c.go_on-ask.ensures _ _ c.id.ensures c.transcript.ensures

pub reply-answer-requires-clause-fit : goal.reply-answer-requires-clause-fit
reply-answer-requires-clause-fit g c = c.go_on-ask.ensures.asks.fit

pub reply-answer-requires-clause-short : goal.reply-answer-requires-clause-short
reply-answer-requires-clause-short g c =
    let works = runs_of g.A.Asked.may_ask g.A.Asked.replied c.args.self.now _ c.requires (not_ended _ c.args.self.now (ap (λ (w : Work). w.end) c.self.view_is) (sym c.is_some.ensures ∙ c.if-is_some.false)) in
    short_mid g.A.Asked.may_ask g.A.Asked.replied _ _ _ _ works c.go_on-ask.ensures _ _ c.id.ensures c.transcript.ensures

pub settle-requires-clause-out : goal.settle-requires-clause-out
settle-requires-clause-out g c = out_mid _ _ c.go_on-ask.ensures.asks

pub settle-requires-clause-suits : goal.settle-requires-clause-suits
settle-requires-clause-suits g c = c.reply-answer.ensures.suits

pub returns : goal.returns
returns g c =
    takes_turn g.A.Asked.may_ask g.A.Asked.replied _ _ _ _ _ _ _ (not_ended _ c.args.self.now (ap (λ (w : Work). w.end) c.self.view_is) (sym c.is_some.ensures ∙ c.if-is_some.false)) c.go_on-ask.ensures _ _ c.id.ensures c.transcript.ensures
    c.reply-answer.ensures.leave c.reply-answer.ensures.again c.reply-answer.ensures.replied c.settle.ensures
