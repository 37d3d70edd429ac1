use Rattle.std.proofs.Common.{sym, subst}
use Rattle.ebr_tx.specs.inside.Sound.{IsSound}
use Rattle.ebr_tx.proofs.Kept.{sound_pushed}
use Rattle.ebr_tx.specs.inside.Filed.{transactions_of}
use Rattle.ebr_tx.proofs.LiveLemmas.{opened, opened_filed}
use Rattle.ebr_tx.proofs.transactions.Transactions.push_autonomous.Goals as goal

pub invariant_of-self-2 : goal.invariant_of-self-2
invariant_of-self-2 c = record {
  sound = subst (IsSound c.self.inside.versions.commits c.self.inside.versions.tables) (sym (opened c.self.inside.live.items c.open.new.live.items _ c.in_ok-open.ensures.ok)) (sound_pushed c.self.inside.versions.commits c.self.inside.versions.tables (transactions_of c.self.inside.live.items) _ c.self.invariant.sound);
  filed = opened_filed c.self.inside.versions.tables c.self.inside.live.items c.open.new.live.items _ c.in_ok-open.ensures.ok c.self.invariant.filed;
}
