use Rattle.std.proofs.Common.{◌≡◌, true, Option, None, sym, subst, ◌∙◌}
use Rattle.ebr_base.specs.declared.code.Code.{Code}
use Rattle.ebr_base.specs.declared.numbers.TableId.{TableId}
use Rattle.ebr_versions.specs.Keys.{is_added, KeysDiffer}
use Rattle.ebr_tx.specs.Data.{own}
use Rattle.ebr_tx.specs.Calls.{State, change_refusal}
use Rattle.ebr_tx.specs.inside.Sound.{IsSound, MayAdd}
use Rattle.ebr_tx.proofs.Allowed.{may_change}
use Rattle.ebr_tx.proofs.Answered.{if_ok}
use Rattle.ebr_tx.proofs.transactions.Transactions.may_change.Goals as goal

pub returns-clause-may : goal.returns-clause-may
returns-clause-may c =
    if_ok (λ (o : Option Code). o ≡ change_refusal c.args.self.now.contents c.args.t c.args.c.now)
    (λ (o : Option Code). o ≡ None → MayAdd c.args.self.now.contents.commits c.args.self.now.contents.tables c.args.self.now.contents.live c.args.t (own c.args.self.now.contents c.args.t) c.args.c.now)
    c.change_refusal.result
    (λ o is none.
    may_change c.args.self.now.contents c.args.t c.requires.live
    (subst (λ (s : State). IsSound s.contents.commits s.contents.tables s.contents.live) c.self.view_is c.self.invariant.sound)
    (subst (λ (s : State). KeysDiffer s.contents.commits s.contents.tables) c.self.view_is c.count.ensures.sound.keys)
    c.args.c.now c.requires.begun (subst (λ (t : TableId). is_added c.args.self.now.contents.tables t ≡ true) (sym c.requires.table) c.requires.known.added) (sym is ∙ none))
    c.change_refusal.ensures
