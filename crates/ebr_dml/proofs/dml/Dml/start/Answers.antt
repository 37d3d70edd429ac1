use Rattle.std.proofs.Common.{◌≡◌, Ok, subst, rules}
use Rattle.ebr_dml.specs.declared.plan.Plan.{Plan}
use Rattle.ebr_dml.specs.Rows.{rows_of}
use Rattle.ebr_dml.proofs.Stepping.{can-start, found-apart}
use Rattle.ebr_dml.proofs.dml.Dml.start.Goals as goal

pub invariant_of-result : goal.invariant_of-result
invariant_of-result c =
    let d = c.args.tx.now.contents in
    let s = c.args.s.now in
    let binds = c.args.binds.now in
    let p = c.in_ok-plan.plan in
    let g : c.get.result.now ≡ p = search rules in
    found-apart d c.args.t c.args.v.now s binds p c.in_ok-found.found c.in_ok-plan.ensures
    (subst (λ (x : Plan). rows_of d c.args.t s x binds ≡ Ok c.in_ok-found.found) g c.in_ok-found.ensures)

pub returns-clause-ready : goal.returns-clause-ready
returns-clause-ready c =
    let d = c.args.tx.now.contents in
    let s = c.args.s.now in
    let binds = c.args.binds.now in
    let p = c.in_ok-plan.plan in
    let g : c.get.result.now ≡ p = search rules in
    can-start d c.args.t c.args.v.now s binds p c.in_ok-found.found c.in_ok-plan.ensures
    (subst (λ (x : Plan). rows_of d c.args.t s x binds ≡ Ok c.in_ok-found.found) g c.in_ok-found.ensures)
    c.in_ok-binds.binds c.requires.known c.requires.live c.requires.begun
