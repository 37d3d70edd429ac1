-- What a commit does: it is allowed, and its transaction ends; or nothing is done.
use Rattle.std.proofs.Common.{◌≡◌, ◌+◌, Bool, true, false, List, [], ◌∷◌, Err, refl, ap}
use Rattle.std.specs.Prelude.{nat_le}
use Rattle.ebr_base.specs.declared.code.Code.{Code}
use Rattle.ebr_base.specs.declared.code.Code.TheVariants.{Ebr}
use Rattle.ebr_base.specs.declared.row.Change.{Change}
use Rattle.ebr_base.specs.declared.row.TxId.{TxId}
use Rattle.ebr_base.specs.declared.table.TableDef.{TableDef}
use Rattle.ebr_tx.specs.Data.{own}
use Rattle.ebr_tx.specs.Calls.{after_settle, with_commit}
use Rattle.ebr_record.specs.declared.record.Record.TheVariants as made
use Rattle.ebr_record.specs.Keeper.{share, max_journal}
use Rattle.ebr_database.specs.Base.{Base, with_data}
use Rattle.ebr_database.specs.Outcome.{Outcome, and_then}
use Rattle.ebr_database.specs.Transact.{Done, commit, done, keep_changes, kept_if, settled}
use Rattle.ebr_integrity.specs.Commits.{IsSuitable}
use Rattle.ebr_integrity.specs.Integrity.{IsIntact}
use Rattle.ebr_integrity.specs.inside.Works.{Works}
use Rattle.ebr_integrity.proofs.DataLemmas.{commit_allowed, intact_settled}
use Rattle.ebr_integrity.proofs.WorksLemmas.{works_none, works_same}
use Rattle.ebr_integrity.proofs.WrittenLemmas.{suitable_numbered}

-- how a commit ended
pub data Settling : Type 0 where
  Settled : Settling
  Refused : Code → Settling

module _ (living : List TableDef) (b : Base) (fit : IsIntact living b.data_now) (u : TxId) where
  abbrev pub EndsAs : Settling → Outcome Base Done → Type 0
  EndsAs Settling.Settled o = (o.state.data_now ≡ after_settle b.data_now u) × (o.value ≡ done)
  EndsAs (Settling.Refused code) o = (o.state.data_now ≡ b.data_now) × (o.value ≡ Err code)

  pub record CommitWorks (o : Outcome Base Done) : Type 0 where
    pub works : Works living b o.made o.state
    pub how : Settling
    pub ends : EndsAs how o

  by_room : (c : Change) (cs : List Change) → (own b.data_now u).changes ≡ c ∷ cs → (fits : Bool) → CommitWorks (and_then (kept_if fits (made.Commit (c ∷ cs)) b.used) (settled u b.data_now))
  by_room c cs e false = record { works = works_same living b fit; how = Settling.Refused (Ebr 42); ends = (refl, refl) }
  by_room c cs e true = record {
    works = record {
      allowed = (commit_allowed (IsSuitable living) b.data_now fit.intact u c cs e, tt);
      more = ap (with_commit b.data_now.commits) e;
      tables = refl;
      intact = intact_settled (IsSuitable living) b.data_now fit.intact u (suitable_numbered living);
    };
    how = Settling.Settled;
    ends = (refl, refl);
  }

  by_changes : (cs : List Change) → (own b.data_now u).changes ≡ cs → CommitWorks (and_then (keep_changes cs b.used) (settled u b.data_now))
  by_changes [] e = record {
    works = works_none living b (with_data (after_settle b.data_now u) b) (ap (with_commit b.data_now.commits) e) refl (intact_settled (IsSuitable living) b.data_now fit.intact u (suitable_numbered living));
    how = Settling.Settled;
    ends = (refl, refl);
  }
  by_changes (c ∷ cs) e = by_room c cs e (nat_le (b.used + share (made.Commit (c ∷ cs))) max_journal)

  pub commit_works : CommitWorks (commit u b)
  commit_works = by_changes (own b.data_now u).changes refl
