use Rattle.std.proofs.Common.{◌≡◌, ◌+◌, rules}
use Rattle.ebr_statements.proofs.Within.{session_there, stays_pushed}
use Rattle.ebr_statements.proofs.asks.push.Goals as goal

pub push_autonomous-requires-clause-live : goal.push_autonomous-requires-clause-live
push_autonomous-requires-clause-live c = session_there c.args.t c.args.opened.now c.args.tx.now.contents c.requires.opened

pub returns-in-Ok-clause-opened : goal.returns-in-Ok-clause-opened
returns-in-Ok-clause-opened c = λ under.
    let more : c.in-Some.more ≡ c.args.opened.now + 1 = search rules in
    stays_pushed c.args.t c.args.opened.now c.in-Some.more more c.args.tx.now.contents c.push_autonomous.new.tx.contents under c.in-Ok.ensures.exact
