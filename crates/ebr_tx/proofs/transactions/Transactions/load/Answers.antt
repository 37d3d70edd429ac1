use Rattle.std.proofs.Common.{List, ◌++◌, ◌∷◌, [], ap, sym, subst, ◌∙◌}
use Rattle.ebr_tx.specs.Calls.{State, HasNotBegun}
use Rattle.ebr_tx.proofs.Kept.{sound_with, sound_loaded}
use Rattle.ebr_versions.specs.declared.table.Table.{Table}
use Rattle.ebr_tx.specs.inside.Filed.{transactions_of, AreFiledBy}
use Rattle.ebr_tx.proofs.transactions.Transactions.load.Goals as goal

pub invariant_of-self-2 : goal.invariant_of-self-2
invariant_of-self-2 c = record {
  sound = sound_with c.commit.new.self.commits _ c.commit.new.self.tables c.self.inside.versions.tables (transactions_of c.self.inside.live.items)
      (c.commit.ensures.commits ∙ ap (λ cs. cs ++ c.args.changes ∷ []) c.in_ok-reserve.ensures.commits)
      (c.commit.ensures.tables ∙ c.in_ok-reserve.ensures.tables)
      (sound_loaded c.self.inside.versions.commits c.self.inside.versions.tables (transactions_of c.self.inside.live.items) c.args.changes (subst (λ (s : State). HasNotBegun s.contents) (sym c.self.view_is) c.requires.begun) c.self.invariant.sound);
  filed = subst (λ (ts : List Table). AreFiledBy ts c.self.inside.live.items) (sym (c.commit.ensures.tables ∙ c.in_ok-reserve.ensures.tables)) c.self.invariant.filed;
}
