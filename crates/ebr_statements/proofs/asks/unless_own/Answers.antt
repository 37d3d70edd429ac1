use Rattle.std.proofs.Common.{◌≡◌, ◌<◌, ◌∙◌, ap, arith, rules}
use Rattle.ebr_database.proofs.Goes.{told_wanting}
use Rattle.ebr_exec.specs.Statements.{refused}
use Rattle.ebr_statements.proofs.Within.{own_told, within_told}
use Rattle.ebr_statements.proofs.asks.unless_own.Goals as goal

pub returns-then-opened-eq0-clause-exact : goal.returns-then-opened-eq0-clause-exact
returns-then-opened-eq0-clause-exact g c = λ w r room same.
    let none : c.args.opened.now ≡ 0 = search rules in
    own_told w r room c.args.t same c.args.ask.now c.args.tx.now.contents (g.K.Keep.as_keeper c.args.keeper.now) c.args.opened.now c.requires.opened c.requires.statement c.requires.push
    c.refused.result none (c.refused.ensures ∙ ap refused c.own_refusal.ensures)

pub returns-in_err-top-clause-exact : goal.returns-in_err-top-clause-exact
returns-in_err-top-clause-exact g c = λ w r room same. told_wanting _ _ _ _ c.from_residual.ensures.1

pub returns-clause-exact : goal.returns-clause-exact
returns-clause-exact g c = λ w r room same.
    let some : 0 < c.args.opened.now = search (rules, arith) in
    within_told w r room c.args.t same c.args.ask.now c.args.tx.now.contents (g.K.Keep.as_keeper c.args.keeper.now) c.args.opened.now c.requires.opened c.requires.statement c.requires.push
    c.in_ok-top.top _ (g.K.Keep.as_keeper c.within.new.keeper) c.within.result some c.in_ok-top.ensures c.within.ensures.exact
