use Rattle.ebr_tx.proofs.Kept.{sound_with, sound_table}
use Rattle.std.proofs.Common.{List, sym, subst}
use Rattle.ebr_versions.specs.declared.table.Table.{Table}
use Rattle.ebr_tx.specs.inside.Filed.{transactions_of, AreFiledBy}
use Rattle.ebr_tx.proofs.LiveLemmas.{table_filed}
use Rattle.ebr_tx.proofs.transactions.Transactions.add_table.Goals as goal

pub invariant_of-self-2 : goal.invariant_of-self-2
invariant_of-self-2 c = record {
  sound = sound_with c.add_table.new.self.commits c.self.inside.versions.commits c.add_table.new.self.tables _ (transactions_of c.self.inside.live.items) c.in_ok-add_table.ensures.commits c.in_ok-add_table.ensures.ok
      (sound_table c.self.inside.versions.commits c.self.inside.versions.tables (transactions_of c.self.inside.live.items) _ c.self.invariant.sound);
  filed = subst (λ (ts : List Table). AreFiledBy ts c.self.inside.live.items) (sym c.in_ok-add_table.ensures.ok) (table_filed c.self.inside.versions.tables (record { id = c.args.t; key = c.args.key }) c.self.inside.live.items c.self.invariant.filed);
}
