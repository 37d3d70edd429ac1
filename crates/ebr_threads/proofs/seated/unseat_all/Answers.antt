use Rattle.std.proofs.Common.{◌++◌, ◌+◌, ap, sym, subst, ◌∙◌, arith}
use Rattle.std.specs.Prelude.{All, Some}
use Rattle.std.proofs.lemmas.List.Elements.{All-pop, All-push}
use Rattle.ebr_asks.specs.declared.entry.Exchange.{Exchange}
use Rattle.ebr_turn.specs.declared.view.View.{View}
use Rattle.ebr_threads.specs.Seating.{HasEnded, HasSat, workers_of}
use Rattle.ebr_threads.proofs.Placing.{ended_of, joins_one, moved_on, popped_len}
use Rattle.ebr_threads.proofs.seated.unseat_all.Goals as goal

pub join-requires-clause-turn : goal.join-requires-clause-turn
join-requires-clause-turn g c =
    let inv = c.loop-seat.invariant in
    let p = All-pop (λ y. HasSat c.args.turn.now.id g.N.Naming.sessions y.worker y.chair) _ _ (Some c.in-Some.seat) c.in-Some.ensures.items inv.4 in
    (inv.0 ∙ c.requires.turn, p.1.sits.turn)

pub join-requires-clause-idle : goal.join-requires-clause-idle
join-requires-clause-idle g c =
    let inv = c.loop-seat.invariant in
    let p = All-pop (λ y. HasSat c.args.turn.now.id g.N.Naming.sessions y.worker y.chair) _ _ (Some c.in-Some.seat) c.in-Some.ensures.items inv.4 in
    (inv.1, ap (λ (v : View Exchange). v.stage) p.1.sits.chair)

pub loop-seat-preserved : goal.loop-seat-preserved
loop-seat-preserved g c =
    let inv = c.loop-seat.invariant in
    let x = c.in-Some.seat in
    let pops = c.in-Some.ensures.items in
    let p = All-pop (λ y. HasSat c.args.turn.now.id g.N.Naming.sessions y.worker y.chair) _ _ (Some x) pops inv.4 in
    let one = joins_one c.args.turn.now.id g.N.Naming.sessions _ _ c.loop-seat.first.view c.join.new.into.view x.chair x.worker p.1 c.join.ensures.chair inv.6 c.push_reserved.ensures.items in (
      c.join.ensures.turn ∙ inv.0,
      one.2 ∙ inv.1,
      one.3 ∙ inv.2,
      (let s = one.0 in let n = popped_len _ _ x pops in let d = inv.3 in omega (arith, s, n, d)),
      p.0,
      ap (λ l. l ++ workers_of (λ y. y.worker) c.pop.new.self.items) c.push_reserved.ensures.items ∙ moved_on (λ y. y.worker) _ _ _ x _ inv.5 pops,
      one.1,
      (let a = c.in-Some.ensures.len in let b = c.push_reserved.ensures.len in let d = inv.7 in omega (arith, a, b, d)),
      c.push_reserved.ensures.capacity ∙ inv.8,
      subst (All HasEnded) (sym c.push_reserved.ensures.items) (All-push HasEnded c.loop-seat.workers.items x.worker inv.9 (ended_of c.args.turn.now.id g.N.Naming.sessions x.worker x.chair p.1)),
    )
