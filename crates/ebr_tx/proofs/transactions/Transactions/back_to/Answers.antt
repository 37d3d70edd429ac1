use Rattle.std.proofs.Common.{refl, sym, ap, subst, ◌∙◌}
use Rattle.ebr_tx.specs.Data.{Transaction, IsLive, own, names_of}
use Rattle.ebr_tx.specs.Calls.{State, kept_to}
use Rattle.ebr_tx.specs.inside.Sound.{IsSound}
use Rattle.ebr_tx.proofs.Kept.{sound_back_to}
use Rattle.ebr_tx.proofs.Stays.{stacks-stay, own-after}
use Rattle.ebr_tx.specs.inside.Filed.{transactions_of}
use Rattle.ebr_tx.proofs.transactions.Transactions.back_to.Goals as goal

pub invariant_of-self : goal.invariant_of-self
invariant_of-self c = record {
  sound = subst (IsSound c.self.inside.versions.commits c.self.inside.versions.tables) (sym c.back_to.ensures.changed)
      (sound_back_to c.self.inside.versions.commits c.self.inside.versions.tables (transactions_of c.self.inside.live.items) c.args.t c.args.n.now c.in-Some.changes (subst (λ (s : State). IsLive s.contents c.args.t) (sym c.self.view_is) c.requires) c.self.invariant.sound);
  filed = c.back_to.ensures.filed c.self.inside.versions.tables c.self.invariant.filed;
}

pub returns-in-Some-clause-stacks : goal.returns-in-Some-clause-stacks
returns-in-Some-clause-stacks c = stacks-stay c.args.t (kept_to c.args.n.now c.in-Some.changes) (λ x. refl) (transactions_of c.self.inside.live.items) (transactions_of c.back_to.new.live.items) c.back_to.ensures.changed ∙ ap (λ (s : State). names_of s.contents.live) c.self.view_is

pub returns-in-Some-clause-begun : goal.returns-in-Some-clause-begun
returns-in-Some-clause-begun c = ap (λ (x : Transaction). x.begun) (own-after c.args.t (kept_to c.args.n.now c.in-Some.changes) (λ x. refl) (transactions_of c.self.inside.live.items) (transactions_of c.back_to.new.live.items) c.back_to.ensures.changed (subst (λ (s : State). IsLive s.contents c.args.t) (sym c.self.view_is) c.requires)) ∙ ap (λ (s : State). (own s.contents c.args.t).begun) c.self.view_is
