use Rattle.std.proofs.Common.{List, [], ◌∷◌, ◌++◌, refl, sym, ap, subst, ◌∙◌}
use Rattle.std.specs.Prelude.{find, unwrap_or}
use Rattle.ebr_base.specs.declared.row.Change.{Change}
use Rattle.ebr_versions.specs.Keys.{KeysDiffer}
use Rattle.ebr_tx.specs.Data.{IsLive, is_named, not_begun, names_of}
use Rattle.ebr_tx.specs.Calls.{State, ended, with_commit}
use Rattle.ebr_tx.specs.inside.Sound.{IsSound}
use Rattle.ebr_tx.proofs.FreeKeys.{keys_differ}
use Rattle.ebr_tx.proofs.SoundLemmas.{own_found}
use Rattle.ebr_tx.proofs.Kept.{sound_done, sound_with}
use Rattle.ebr_tx.proofs.Stays.{stacks-stay}
use Rattle.ebr_versions.specs.declared.table.Table.{Table}
use Rattle.ebr_tx.specs.inside.Filed.{transactions_of, AreFiledBy}
use Rattle.ebr_tx.proofs.transactions.Transactions.settle.Goals as goal

pub commit-requires-clause-keys : goal.commit-requires-clause-keys
commit-requires-clause-keys c =
    subst (λ (cs : List Change). KeysDiffer (c.self.inside.versions.commits ++ cs ∷ []) c.self.inside.versions.tables) (sym c.end-changes.ensures.changes)
    (keys_differ c.self.inside.versions.commits c.self.inside.versions.tables (unwrap_or (find (is_named c.args.t) (transactions_of c.self.inside.live.items)) (not_begun c.args.t)).changes c.count.ensures.sound.keys
    (c.self.invariant.sound.free c.args.t (unwrap_or (find (is_named c.args.t) (transactions_of c.self.inside.live.items)) (not_begun c.args.t)) (own_found c.args.t (transactions_of c.self.inside.live.items) (subst (λ (s : State). IsLive s.contents c.args.t) (sym c.self.view_is) c.requires.live))))

pub invariant_of-self : goal.invariant_of-self
invariant_of-self c = record {
  sound = sound_with c.commit.new.versions.commits (with_commit c.self.inside.versions.commits (unwrap_or (find (is_named c.args.t) (transactions_of c.self.inside.live.items)) (not_begun c.args.t)).changes) c.commit.new.versions.tables c.self.inside.versions.tables (transactions_of c.end-changes.new.live.items)
      (c.commit.ensures.commits ∙ ap (with_commit c.self.inside.versions.commits) c.end-changes.ensures.changes) c.commit.ensures.tables
      (subst (IsSound (with_commit c.self.inside.versions.commits (unwrap_or (find (is_named c.args.t) (transactions_of c.self.inside.live.items)) (not_begun c.args.t)).changes) c.self.inside.versions.tables) (sym c.end-changes.ensures.ended)
      (sound_done c.self.inside.versions.commits c.self.inside.versions.tables (transactions_of c.self.inside.live.items) c.args.t (subst (λ (s : State). IsLive s.contents c.args.t) (sym c.self.view_is) c.requires.live) c.self.invariant.sound));
  filed = subst (λ (ts : List Table). AreFiledBy ts c.end-changes.new.live.items) (sym c.commit.ensures.tables) (c.end-changes.ensures.filed c.self.inside.versions.tables c.self.invariant.filed);
}

pub returns-clause-stacks : goal.returns-clause-stacks
returns-clause-stacks c =
    stacks-stay c.args.t ended (λ x. refl) (transactions_of c.self.inside.live.items) (transactions_of c.end-changes.new.live.items) c.end-changes.ensures.ended ∙ ap (λ (s : State). names_of s.contents.live) c.self.view_is
