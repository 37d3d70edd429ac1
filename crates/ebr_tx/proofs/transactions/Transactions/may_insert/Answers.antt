use Rattle.std.proofs.Common.{subst}
use Rattle.ebr_base.specs.declared.row.Change.{Change}
use Rattle.ebr_versions.specs.Keys.{KeysDiffer}
use Rattle.ebr_tx.specs.Data.{own}
use Rattle.ebr_tx.specs.Calls.{State, insertion, insert_refusal}
use Rattle.ebr_tx.specs.inside.Sound.{IsSound, MayAdd}
use Rattle.ebr_tx.proofs.Allowed.{may_insert}
use Rattle.ebr_tx.proofs.Answered.{unless_ok}
use Rattle.ebr_tx.proofs.transactions.Transactions.may_insert.Goals as goal

pub returns-clause-may : goal.returns-clause-may
returns-clause-may c =
    unless_ok
    (λ (x : Change). MayAdd c.args.self.now.contents.commits c.args.self.now.contents.tables c.args.self.now.contents.live c.args.t (own c.args.self.now.contents c.args.t) x)
    c.insertion.result (insert_refusal c.args.self.now.contents c.args.t c.args.def.now.id c.args.values) (insertion c.args.self.now.contents c.args.def.now.id c.args.values) c.insertion.ensures
    (may_insert c.args.self.now.contents c.args.t c.requires.live
    (subst (λ (s : State). IsSound s.contents.commits s.contents.tables s.contents.live) c.self.view_is c.self.invariant.sound)
    (subst (λ (s : State). KeysDiffer s.contents.commits s.contents.tables) c.self.view_is c.count.ensures.sound.keys)
    c.args.def.now.id c.args.values c.requires.begun c.requires.known.added)
