use Rattle.std.proofs.Common.{List, sym, ap, subst, ◌∙◌}
use Rattle.std.specs.Prelude.{find, unwrap_or}
use Rattle.ebr_versions.specs.Keys.{KeysDiffer}
use Rattle.ebr_tx.specs.Data.{Transaction, is_named, not_begun, own}
use Rattle.ebr_tx.specs.Calls.{State, MayCommit}
use Rattle.ebr_tx.specs.inside.Sound.{IsSound}
use Rattle.ebr_tx.proofs.Kept.{may_commit}
use Rattle.ebr_changes.specs.Filed.{Filed}
use Rattle.ebr_tx.specs.inside.Filed.{FiledTransaction, transactions_of}
use Rattle.ebr_tx.proofs.transactions.Transactions.prepare.Goals as goal

pub returns-clause-may : goal.returns-clause-may
returns-clause-may c =
    subst (MayCommit c.args.self.now.contents)
    (sym (c.in_ok-changes.ensures ∙ c.as_slice-2.ensures ∙ ap (λ (f : Filed). f.changes) c.changes-own.ensures ∙ ap (λ (x : Transaction). x.changes) (c.own.ensures.transaction ∙ ap (λ (xs : List FiledTransaction). unwrap_or (find (is_named c.args.t) (transactions_of xs)) (not_begun c.args.t)) c.as_slice.ensures.value ∙ ap (λ (s : State). own s.contents c.args.t) c.self.view_is)))
    (may_commit c.args.self.now.contents c.args.t c.requires (subst (λ (s : State). IsSound s.contents.commits s.contents.tables s.contents.live) c.self.view_is c.self.invariant.sound) (subst (λ (s : State). KeysDiffer s.contents.commits s.contents.tables) c.self.view_is c.count.ensures.sound.keys))
