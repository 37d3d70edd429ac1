use Rattle.std.proofs.Common.{◌≡◌, List, not, ap, sym, subst, ◌∙◌}
use Rattle.std.specs.Prelude.{filter}
use Rattle.ebr_base.specs.declared.row.TxId.{TxId}
use Rattle.ebr_locks.specs.Locks.{same_tx, released}
use Rattle.ebr_tx.specs.Data.{Transaction, is_named, names_of, top_of}
use Rattle.ebr_tx.specs.Calls.{State, data_of, after_pop, top}
use Rattle.ebr_tx.specs.inside.Sound.{IsSound}
use Rattle.ebr_tx.proofs.Kept.{sound_removed}
use Rattle.ebr_tx.proofs.Stays.{names-without}
use Rattle.ebr_tx.specs.inside.Filed.{FiledTransaction, transactions_of}
use Rattle.ebr_tx.proofs.LiveLemmas.{removed, removed_filed}
use Rattle.ebr_tx.proofs.transactions.Transactions.pop_autonomous.Goals as goal

pub invariant_of-self-2 : goal.invariant_of-self-2
invariant_of-self-2 c = record {
  sound = subst (IsSound c.self.inside.versions.commits c.self.inside.versions.tables) (sym (removed c.self.inside.live.items c.remove.new.live.items c.top-t.result c.remove.ensures)) (sound_removed c.self.inside.versions.commits c.self.inside.versions.tables (transactions_of c.self.inside.live.items) _ c.self.invariant.sound);
  filed = removed_filed c.self.inside.versions.tables c.self.inside.live.items c.remove.new.live.items c.top-t.result c.remove.ensures c.self.invariant.filed;
}

pub invariant_of-self : goal.invariant_of-self
invariant_of-self c = record {
  sound = subst (IsSound c.self.inside.versions.commits c.self.inside.versions.tables) (sym (removed c.self.inside.live.items c.remove.new.live.items c.top-t.result c.remove.ensures)) (sound_removed c.self.inside.versions.commits c.self.inside.versions.tables (transactions_of c.self.inside.live.items) _ c.self.invariant.sound);
  filed = removed_filed c.self.inside.versions.tables c.self.inside.live.items c.remove.new.live.items c.top-t.result c.remove.ensures c.self.invariant.filed;
}

pub returns-then-not-failed-clause-stacks : goal.returns-then-not-failed-clause-stacks
returns-then-not-failed-clause-stacks c =
    names-without c.top-t.result (transactions_of c.self.inside.live.items) (transactions_of c.remove.new.live.items) (removed c.self.inside.live.items c.remove.new.live.items c.top-t.result c.remove.ensures)
    ∙ ap (λ (t : TxId). filter (λ (n : TxId). not (same_tx n t)) (names_of (transactions_of c.self.inside.live.items))) (c.top-t.ensures ∙ ap (λ (xs : List FiledTransaction). top_of (names_of (transactions_of xs)) c.args.s) c.as_slice.ensures.value)
    ∙ ap (λ (s : State). filter (λ (n : TxId). not (same_tx n (top s.contents c.args.s))) (names_of s.contents.live)) c.self.view_is

pub returns-clause-stacks : goal.returns-clause-stacks
returns-clause-stacks c =
    names-without c.top-t.result (transactions_of c.self.inside.live.items) (transactions_of c.remove.new.live.items) (removed c.self.inside.live.items c.remove.new.live.items c.top-t.result c.remove.ensures)
    ∙ ap (λ (t : TxId). filter (λ (n : TxId). not (same_tx n t)) (names_of (transactions_of c.self.inside.live.items))) (c.top-t.ensures ∙ ap (λ (xs : List FiledTransaction). top_of (names_of (transactions_of xs)) c.args.s) c.as_slice.ensures.value)
    ∙ ap (λ (s : State). filter (λ (n : TxId). not (same_tx n (top s.contents c.args.s))) (names_of s.contents.live)) c.self.view_is

pub returns-then-not-failed-clause-contents : goal.returns-then-not-failed-clause-contents
returns-then-not-failed-clause-contents c =
    let is : c.top-t.result ≡ top_of (names_of (transactions_of c.self.inside.live.items)) c.args.s = c.top-t.ensures ∙ ap (λ (xs : List FiledTransaction). top_of (names_of (transactions_of xs)) c.args.s) c.as_slice.ensures.value in
    let live = removed c.self.inside.live.items c.remove.new.live.items c.top-t.result c.remove.ensures ∙ ap (λ (t : TxId). filter (λ (x : Transaction). not (is_named t x)) (transactions_of c.self.inside.live.items)) is in
    let locks = c.release_to.ensures.taken ∙ ap (λ (t : TxId). released t 0 c.self.inside.locks.taken) is in
    (λ i. data_of c.self.inside.versions (live i) (locks i)) ∙ ap (λ (s : State). after_pop s.contents c.args.s) c.self.view_is

pub returns-clause-contents : goal.returns-clause-contents
returns-clause-contents c =
    let is : c.top-t.result ≡ top_of (names_of (transactions_of c.self.inside.live.items)) c.args.s = c.top-t.ensures ∙ ap (λ (xs : List FiledTransaction). top_of (names_of (transactions_of xs)) c.args.s) c.as_slice.ensures.value in
    let live = removed c.self.inside.live.items c.remove.new.live.items c.top-t.result c.remove.ensures ∙ ap (λ (t : TxId). filter (λ (x : Transaction). not (is_named t x)) (transactions_of c.self.inside.live.items)) is in
    let locks = c.release_to.ensures.taken ∙ ap (λ (t : TxId). released t 0 c.self.inside.locks.taken) is in
    (λ i. data_of c.self.inside.versions (live i) (locks i)) ∙ ap (λ (s : State). after_pop s.contents c.args.s) c.self.view_is
