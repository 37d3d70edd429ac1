use Rattle.std.proofs.Common.{◌++◌, ◌+◌, ap, refl, sym, subst, ◌∙◌, arith}
use Rattle.std.specs.Prelude.{All, Some}
use Rattle.std.proofs.lemmas.List.Elements.{All-push}
use Rattle.ebr_base.specs.declared.numbers.SessionId.{SessionId}
use Rattle.ebr_turn.specs.Chairs.{In, fresh, parted}
use Rattle.ebr_threads.specs.Seating.{IsReady, workers_of}
use Rattle.ebr_threads.proofs.Placing.{given_all, gives_more, is_empty, is_new, is_ready, next_worker, seated_more}
use Rattle.ebr_threads.proofs.seated.seat_all.Goals as goal

pub split-chair-requires-clause-new : goal.split-chair-requires-clause-new
split-chair-requires-clause-new g c =
    let inv = c.loop-worker.invariant in
    let next = next_worker g.N.Naming.sessions _ _ _ c.in-Some.worker _ _ c.requires.ready inv.2 c.in-Some.ensures.items inv.1 in
    let new = is_new _ _ _ next.3 in
    (new.0, λ i. new.1 (subst (λ n. In n c.loop-worker.first.view.given) (ap (λ (s : SessionId). s.0) c.id.ensures ∙ next.2) i))

pub loop-worker-preserved : goal.loop-worker-preserved
loop-worker-preserved g c =
    let inv = c.loop-worker.invariant in
    let split = c.split-chair.ensures in
    let next = next_worker g.N.Naming.sessions _ _ _ c.in-Some.worker _ _ c.requires.ready inv.2 c.in-Some.ensures.items inv.1 in
    let number = ap (λ (s : SessionId). s.0) c.id.ensures in (
      split.turn.0 ∙ inv.0,
      gives_more _ _ _ _ c.requires.few next.3 (split.parent ∙ ap (λ k. parted k c.loop-worker.first.view) (number ∙ next.2)),
      seated_more (λ x. x.worker) _ c.in-Some.worker _ _ _ _ next.0 refl c.push_reserved.ensures.items,
      subst (All (λ x. IsReady c.args.turn.now.id g.N.Naming.sessions x.worker x.chair)) (sym c.push_reserved.ensures.items)
          (All-push (λ x. IsReady c.args.turn.now.id g.N.Naming.sessions x.worker x.chair) c.loop-worker.seats.items _ inv.3 (is_ready c.args.turn.now.id g.N.Naming.sessions _ _ c.in-Some.worker _ c.loop-worker.first.view _ c.requires.ready next.0 next.1 (split.turn.1 ∙ inv.0 ∙ c.requires.turn) next.3.base (split.child ∙ ap (λ k. fresh k c.loop-worker.first.view) number))),
      (let a = c.in-Some.ensures.len in let b = c.push_reserved.ensures.len in let d = inv.4 in omega (arith, a, b, d)),
      c.in-Some.ensures.capacity ∙ inv.5,
      c.push_reserved.ensures.capacity ∙ inv.6,
    )

pub returns-clause-first : goal.returns-clause-first
returns-clause-first g c =
    let none = c.in_default.ensures.cases.0 in
    let len = c.loop-worker.workers.ok.0 in
    given_all _ _ c.loop-worker.first.view (omega (arith, none, len)) c.loop-worker.invariant.1

pub returns-clause-seats : goal.returns-clause-seats
returns-clause-seats g c =
    let none = c.in_default.ensures.cases.0 in
    let len = c.loop-worker.workers.ok.0 in
    ap (λ l. l ++ workers_of (λ x. x.worker) c.loop-worker.seats.items) (sym (is_empty c.loop-worker.workers.items (omega (arith, none, len)))) ∙ c.loop-worker.invariant.2
