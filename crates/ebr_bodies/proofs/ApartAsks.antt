-- The asks for transactions depend on how much is kept through EBR-0042 alone, and on no catalogue.
use Rattle.std.proofs.Common.{ℕ, ◌+◌, Bool, true, false, List, [], ◌∷◌, Option, Some, None, Ok, Err, refl, ap}
use Rattle.std.specs.Prelude.{nat_le}
use Rattle.ebr_base.specs.declared.code.Code.{Code}
use Rattle.ebr_base.specs.declared.numbers.SessionId.{SessionId}
use Rattle.ebr_base.specs.declared.row.Change.{Change}
use Rattle.ebr_base.specs.declared.row.TxId.{TxId}
use Rattle.ebr_tx.specs.Data.{Data, own}
use Rattle.ebr_tx.specs.Calls.{push_refusal}
use Rattle.ebr_record.specs.declared.record.Record.{Record}
use Rattle.ebr_record.specs.declared.record.Record.TheVariants.{Commit}
use Rattle.ebr_record.specs.Keeper.{share, max_journal}
use Rattle.ebr_database.specs.Base.{Base}
use Rattle.ebr_database.specs.Database.{as_answer}
use Rattle.ebr_database.specs.Outcome.{Outcome}
use Rattle.ebr_database.specs.Transact.{Done, done, kept_if, keep_changes, settled, commit, roll_back, savepoint, back_to, pushed, push, pop}
use Rattle.ebr_exec.specs.Places.{Names}
use Rattle.ebr_bodies.specs.Bodies.{answered}
use Rattle.ebr_bodies.specs.OtherWorlds.{at_used}
use Rattle.ebr_bodies.proofs.Apart.{Same, Apart, still, both}

-- a state that is the count of bytes alone
abbrev pub only : ℕ → ℕ → ℕ
only u used = u

module _ (m n : Names) where
  kept_apart : (x y : Bool) (r : Record) (used u : ℕ) → Apart m n only (kept_if x r used) (kept_if y r u)
  kept_apart true true r used u = record { by = λ h f g. record { used = u + share r; state = refl; made = refl; value = refl } }
  kept_apart true false r used u = record { by = λ h f g. absurd g }
  kept_apart false y r used u = record { by = λ h f g. absurd f }

  keep_apart : (cs : List Change) (used u : ℕ) → Apart m n only (keep_changes cs used) (keep_changes cs u)
  keep_apart [] used u = still m n only used u done
  keep_apart (c ∷ cs) used u = kept_apart (nat_le (used + share (Commit (c ∷ cs))) max_journal) (nat_le (u + share (Commit (c ∷ cs))) max_journal) (Commit (c ∷ cs)) used u

  settled_apart : (t : TxId) (d : Data) (v : Done) (used u : ℕ) → Apart m n at_used (settled t d v used) (settled t d v u)
  settled_apart t d (Ok x) used u = still m n at_used _ u done
  settled_apart t d (Err code) used u = still m n at_used _ u (Err code)

  pub commit_apart : (t : TxId) (b : Base) (u : ℕ) → Apart m n at_used (commit t b) (commit t (at_used u b))
  commit_apart t b u = both m n only at_used (keep_changes (own b.data_now t).changes b.used) (keep_changes (own b.data_now t).changes u) (settled t b.data_now) (settled t b.data_now)
      (keep_apart (own b.data_now t).changes b.used u) (settled_apart t b.data_now)

  pushed_apart : (r : Option Code) (s : SessionId) (b : Base) (u : ℕ) → Apart m n at_used (pushed r s b) (pushed r s (at_used u b))
  pushed_apart None s b u = still m n at_used _ u done
  pushed_apart (Some code) s b u = still m n at_used b u (Err code)

  pub push_apart : (s : SessionId) (b : Base) (u : ℕ) → Apart m n at_used (push s b) (push s (at_used u b))
  push_apart s b u = pushed_apart (push_refusal b.data_now s) s b u

  pub roll_back_apart : (t : TxId) (b : Base) (u : ℕ) → Apart m n at_used (roll_back t b) (roll_back t (at_used u b))
  roll_back_apart t b u = still m n at_used (roll_back t b).state u done

  pub savepoint_apart : (t : TxId) (name : List ℕ) (b : Base) (u : ℕ) → Apart m n at_used (savepoint t name b) (savepoint t name (at_used u b))
  savepoint_apart t name b u = still m n at_used (savepoint t name b).state u done

  pub back_to_apart : (t : TxId) (name : List ℕ) (b : Base) (u : ℕ) → Apart m n at_used (back_to t name b) (back_to t name (at_used u b))
  back_to_apart t name b u = still m n at_used (back_to t name b).state u (back_to t name b).value

  pub pop_apart : (s : SessionId) (failed : Bool) (b : Base) (u : ℕ) → Apart m n at_used (pop s failed b) (pop s failed (at_used u b))
  pop_apart s failed b u = still m n at_used (pop s failed b).state u (pop s failed b).value

  pub answered_apart : (o p : Outcome Base Done) → Apart m n at_used o p → Apart m n at_used (answered o) (answered p)
  answered_apart o p x = record {
    by = λ h f g. let e : Same at_used o p = x.by h f g in record { used = e.used; state = e.state; made = e.made; value = ap as_answer e.value };
  }
