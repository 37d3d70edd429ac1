use Rattle.std.proofs.Common.{refl, sym, ap, subst, ◌∙◌}
use Rattle.ebr_tx.specs.Data.{IsLive, names_of}
use Rattle.ebr_tx.specs.Calls.{State, marked}
use Rattle.ebr_tx.specs.inside.Sound.{IsSound}
use Rattle.ebr_tx.proofs.Kept.{sound_marked}
use Rattle.ebr_tx.proofs.Stays.{stacks-stay}
use Rattle.ebr_tx.specs.inside.Filed.{transactions_of}
use Rattle.ebr_tx.proofs.transactions.Transactions.back_to_mark.Goals as goal

pub invariant_of-self : goal.invariant_of-self
invariant_of-self c = record {
  sound = subst (IsSound c.self.inside.versions.commits c.self.inside.versions.tables) (sym c.back_to_mark.ensures.changed)
      (sound_marked c.self.inside.versions.commits c.self.inside.versions.tables (transactions_of c.self.inside.live.items) c.args.t c.args.m (subst (λ (s : State). IsLive s.contents c.args.t) (sym c.self.view_is) c.requires.live) c.requires.mark.begun c.self.invariant.sound);
  filed = c.back_to_mark.ensures.filed c.self.inside.versions.tables c.self.invariant.filed;
}

pub returns-clause-stacks : goal.returns-clause-stacks
returns-clause-stacks c = stacks-stay c.args.t (marked c.args.m) (λ x. refl) (transactions_of c.self.inside.live.items) (transactions_of c.back_to_mark.new.live.items) c.back_to_mark.ensures.changed ∙ ap (λ (s : State). names_of s.contents.live) c.self.view_is
