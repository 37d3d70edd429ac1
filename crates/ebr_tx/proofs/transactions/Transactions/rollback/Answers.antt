use Rattle.std.proofs.Common.{refl, sym, ap, subst, ◌∙◌}
use Rattle.ebr_tx.specs.Data.{IsLive, names_of}
use Rattle.ebr_tx.specs.Calls.{State, ended}
use Rattle.ebr_tx.specs.inside.Sound.{IsSound}
use Rattle.ebr_tx.proofs.Kept.{sound_ended}
use Rattle.ebr_tx.proofs.Stays.{stacks-stay}
use Rattle.ebr_tx.specs.inside.Filed.{transactions_of}
use Rattle.ebr_tx.proofs.transactions.Transactions.rollback.Goals as goal

pub invariant_of-self : goal.invariant_of-self
invariant_of-self c = record {
  sound = subst (IsSound c.self.inside.versions.commits c.self.inside.versions.tables) (sym c.end.ensures.ended)
      (sound_ended c.self.inside.versions.commits c.self.inside.versions.tables (transactions_of c.self.inside.live.items) c.args.t (subst (λ (s : State). IsLive s.contents c.args.t) (sym c.self.view_is) c.requires) c.self.invariant.sound);
  filed = c.end.ensures.filed c.self.inside.versions.tables c.self.invariant.filed;
}

pub returns-clause-stacks : goal.returns-clause-stacks
returns-clause-stacks c = stacks-stay c.args.t ended (λ x. refl) (transactions_of c.self.inside.live.items) (transactions_of c.end.new.live.items) c.end.ensures.ended ∙ ap (λ (s : State). names_of s.contents.live) c.self.view_is
