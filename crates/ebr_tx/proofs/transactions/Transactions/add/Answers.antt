use Rattle.std.proofs.Common.{refl, sym, ap, subst, ◌∙◌}
use Rattle.ebr_tx.specs.Data.{Transaction, IsLive, own, names_of}
use Rattle.ebr_tx.specs.Calls.{State, with_change}
use Rattle.ebr_tx.specs.inside.Sound.{IsSound, MayAdd}
use Rattle.ebr_tx.proofs.Kept.{sound_changed_more}
use Rattle.ebr_tx.proofs.Stays.{stacks-stay, own-after}
use Rattle.ebr_versions.specs.declared.index.Entry.{Entry}
use Rattle.ebr_tx.specs.inside.Filed.{transactions_of}
use Rattle.ebr_tx.proofs.transactions.Transactions.add.Goals as goal

pub invariant_of-self-2 : goal.invariant_of-self-2
invariant_of-self-2 c = record {
  sound = subst (IsSound c.self.inside.versions.commits c.self.inside.versions.tables) (sym c.in_ok-push.ensures.ok)
      (sound_changed_more c.self.inside.versions.commits c.self.inside.versions.tables (transactions_of c.self.inside.live.items) c.args.t c.args.c (subst (λ (s : State). IsLive s.contents c.args.t) (sym c.self.view_is) c.requires.live) c.self.invariant.sound
      (subst (λ (s : State). MayAdd s.contents.commits s.contents.tables s.contents.live c.args.t (own s.contents c.args.t) c.args.c) (sym c.self.view_is) c.requires.may));
  filed = c.push.ensures.filed c.self.inside.versions.tables (ap (λ (e : Entry). e.print) c.entry-entry.ensures) (subst (λ (s : State). MayAdd s.contents.commits s.contents.tables s.contents.live c.args.t (own s.contents c.args.t) c.args.c) (sym c.self.view_is) c.requires.may).added c.self.invariant.filed;
}

pub returns-clause-stacks : goal.returns-clause-stacks
returns-clause-stacks c =
    stacks-stay c.args.t (with_change c.args.c) (λ x. refl) (transactions_of c.self.inside.live.items) (transactions_of c.push.new.live.items) c.in_ok-push.ensures.ok ∙ ap (λ (s : State). names_of s.contents.live) c.self.view_is

pub returns-clause-begun : goal.returns-clause-begun
returns-clause-begun c =
    ap (λ (x : Transaction). x.begun)
    (own-after c.args.t (with_change c.args.c) (λ x. refl) (transactions_of c.self.inside.live.items) (transactions_of c.push.new.live.items) c.in_ok-push.ensures.ok (subst (λ (s : State). IsLive s.contents c.args.t) (sym c.self.view_is) c.requires.live))
    ∙ ap (λ (s : State). (own s.contents c.args.t).begun) c.self.view_is
