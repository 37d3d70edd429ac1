use Rattle.std.proofs.Common.{refl, sym, ap, subst, ◌∙◌}
use Rattle.ebr_tx.specs.Data.{Transaction, IsLive, own, names_of}
use Rattle.ebr_tx.specs.Calls.{State, with_savepoint}
use Rattle.ebr_tx.specs.inside.Sound.{IsSound}
use Rattle.ebr_tx.proofs.Kept.{sound_savepoint}
use Rattle.ebr_tx.proofs.Stays.{stacks-stay, own-after}
use Rattle.ebr_tx.specs.inside.Filed.{transactions_of}
use Rattle.ebr_tx.proofs.transactions.Transactions.savepoint.Goals as goal

pub invariant_of-self-2 : goal.invariant_of-self-2
invariant_of-self-2 c = record {
  sound = subst (IsSound c.self.inside.versions.commits c.self.inside.versions.tables) (sym c.in_ok-put_savepoint.ensures.ok)
      (sound_savepoint c.self.inside.versions.commits c.self.inside.versions.tables (transactions_of c.self.inside.live.items) c.args.t _ (subst (λ (s : State). IsLive s.contents c.args.t) (sym c.self.view_is) c.requires) c.self.invariant.sound);
  filed = c.put_savepoint.ensures.filed c.self.inside.versions.tables c.self.invariant.filed;
}

pub returns-clause-stacks : goal.returns-clause-stacks
returns-clause-stacks c =
    stacks-stay c.args.t (with_savepoint c.savepoint_at-savepoint.result) (λ x. refl) (transactions_of c.self.inside.live.items) (transactions_of c.put_savepoint.new.live.items) c.in_ok-put_savepoint.ensures.ok ∙ ap (λ (s : State). names_of s.contents.live) c.self.view_is

pub returns-clause-begun : goal.returns-clause-begun
returns-clause-begun c =
    ap (λ (x : Transaction). x.begun)
    (own-after c.args.t (with_savepoint c.savepoint_at-savepoint.result) (λ x. refl) (transactions_of c.self.inside.live.items) (transactions_of c.put_savepoint.new.live.items) c.in_ok-put_savepoint.ensures.ok (subst (λ (s : State). IsLive s.contents c.args.t) (sym c.self.view_is) c.requires))
    ∙ ap (λ (s : State). (own s.contents c.args.t).begun) c.self.view_is
