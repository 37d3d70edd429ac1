use Rattle.std.proofs.Common.{List, refl, sym, ap, subst, ◌∙◌}
use Rattle.std.specs.Prelude.{is_some}
use Rattle.ebr_tx.specs.Data.{Transaction, IsLive, names_of}
use Rattle.ebr_tx.specs.Calls.{State, begun_at}
use Rattle.ebr_tx.specs.inside.Sound.{IsSound}
use Rattle.ebr_versions.specs.declared.table.Table.{Table}
use Rattle.ebr_tx.proofs.Kept.{sound_begun, sound_with}
use Rattle.ebr_tx.proofs.Stays.{stacks-stay, own-after}
use Rattle.ebr_tx.specs.inside.Filed.{transactions_of, AreFiledBy}
use Rattle.ebr_tx.proofs.transactions.Transactions.begin.Goals as goal

pub invariant_of-self : goal.invariant_of-self
invariant_of-self c = record {
  sound = sound_with c.give_back.new.self.commits c.self.inside.versions.commits c.give_back.new.self.tables c.self.inside.versions.tables (transactions_of c.begin.new.live.items) c.give_back.ensures.commits c.give_back.ensures.tables
      (subst (IsSound c.self.inside.versions.commits c.self.inside.versions.tables) (sym c.begin.ensures.changed)
      (sound_begun c.self.inside.versions.commits c.self.inside.versions.tables (transactions_of c.self.inside.live.items) c.args.t c.count-count.result (subst (λ (s : State). IsLive s.contents c.args.t) (sym c.self.view_is) c.requires) c.self.invariant.sound));
  filed = c.begin.ensures.filed c.give_back.new.self.tables (subst (λ (ts : List Table). AreFiledBy ts c.self.inside.live.items) (sym c.give_back.ensures.tables) c.self.invariant.filed);
}

pub returns-clause-stacks : goal.returns-clause-stacks
returns-clause-stacks c = stacks-stay c.args.t (begun_at c.count-count.result) (λ x. refl) (transactions_of c.self.inside.live.items) (transactions_of c.begin.new.live.items) c.begin.ensures.changed ∙ ap (λ (s : State). names_of s.contents.live) c.self.view_is

pub returns-clause-begun : goal.returns-clause-begun
returns-clause-begun c = ap (λ (x : Transaction). is_some x.begun) (own-after c.args.t (begun_at c.count-count.result) (λ x. refl) (transactions_of c.self.inside.live.items) (transactions_of c.begin.new.live.items) c.begin.ensures.changed (subst (λ (s : State). IsLive s.contents c.args.t) (sym c.self.view_is) c.requires))
