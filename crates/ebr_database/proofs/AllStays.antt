-- What transactions have changed stays storable.
use Rattle.std.proofs.Common.{◌≡◌, ℕ, zero, suc, ◌<◌, Bool, true, false, cond, List, [], ◌∷◌, ◌++◌, sym, subst, arith}
use Rattle.std.specs.Prelude.{Result, Ok, Err, OnOk, OnErr, not, take, filter, find, length, unwrap_or, Option, Some, None}
use Rattle.std.specs.List.{AllByRecursion}
use Rattle.std.proofs.lemmas.List.Elements.{All-from_recursion}
use Rattle.ebr_base.specs.declared.numbers.SessionId.{SessionId}
use Rattle.ebr_base.specs.declared.row.Change.{Change}
use Rattle.ebr_base.specs.declared.row.TxId.{TxId}
use Rattle.ebr_tx.specs.declared.savepoints.Savepoint.{Savepoint}
use Rattle.ebr_tx.specs.declared.savepoints.TxMark.{TxMark}
use Rattle.ebr_tx.specs.Data.{Transaction, Data, is_named, not_begun, changed, own}
use Rattle.ebr_tx.specs.Limits.{record_length}
use Rattle.ebr_tx.specs.Calls.{MayCommit, after_begin, begun_at, after_change, with_change, after_mark, marked, after_savepoint, with_savepoint, savepoint_at, after_back_to, back_to_savepoint, savepoint_named, kept_to, ended, after_rollback, after_settle, after_push, after_pop, top}
use Rattle.ebr_record.specs.declared.record.Record.TheVariants.{Commit}
use Rattle.ebr_record.specs.Payload.{HasPayload, payload}
use Rattle.ebr_database.specs.Storable.{IsStorable, IsStorableBy, AllStorable}

abbrev AreStorable : List Transaction → Type 0
AreStorable live = AllByRecursion IsStorableBy live

stays_changed : (t : TxId) (f : Transaction → Transaction) → ((x : Transaction) → IsStorableBy x → IsStorableBy (f x)) → (live : List Transaction) → AreStorable live → AreStorable (changed t f live)
stays_changed t f h [] all = tt
stays_changed t f h (x ∷ xs) all = by (is_named t x) (stays_changed t f h xs all.1)
  where
    by : (b : Bool) → AreStorable (changed t f xs) → AreStorable (cond b (f x ∷ xs) (x ∷ changed t f xs))
    by true rest = (h x all.0, all.1)
    by false rest = (all.0, rest)

stays_pushed : (live : List Transaction) (x : Transaction) → AreStorable live → IsStorableBy x → AreStorable (live ++ x ∷ [])
stays_pushed [] x all h = (h, tt)
stays_pushed (y ∷ ys) x all h = (all.0, stays_pushed ys x all.1 h)

stays_filtered : (p : Transaction → Bool) (live : List Transaction) → AreStorable live → AreStorable (filter p live)
stays_filtered p [] all = tt
stays_filtered p (x ∷ xs) all = by (p x) (stays_filtered p xs all.1)
  where
    by : (b : Bool) → AreStorable (filter p xs) → AreStorable (cond b (x ∷ filter p xs) (filter p xs))
    by true rest = (all.0, rest)
    by false rest = rest

first_storable : (n : ℕ) (cs : List Change) → AllByRecursion IsStorable cs → AllByRecursion IsStorable (take n cs)
first_storable zero cs h = tt
first_storable (suc n) [] h = tt
first_storable (suc n) (c ∷ cs) h = (h.0, first_storable n cs h.1)

one_more : (cs : List Change) (c : Change) → AllByRecursion IsStorable cs → IsStorable c → AllByRecursion IsStorable (cs ++ c ∷ [])
one_more [] c h hc = (hc, tt)
one_more (d ∷ ds) c h hc = (h.0, one_more ds c h.1 hc)

-- ---- each call

pub begun : (d : Data) (t : TxId) → AllStorable d → AllStorable (after_begin d t)
begun d t all = stays_changed t (begun_at (length d.commits)) (λ x h. h) d.live all

pub with_one : (d : Data) (t : TxId) (c : Change) → IsStorable c → AllStorable d → AllStorable (after_change d t c)
with_one d t c hc all = stays_changed t (with_change c) (λ x h. one_more x.changes c h hc) d.live all

pub to_mark : (d : Data) (t : TxId) (m : TxMark) → AllStorable d → AllStorable (after_mark d t m)
to_mark d t m all = stays_changed t (marked m) (λ x h. first_storable m.changes x.changes h) d.live all

pub rolled_back : (d : Data) (t : TxId) → AllStorable d → AllStorable (after_rollback d t)
rolled_back d t all = stays_changed t ended (λ x h. tt) d.live all

pub settled : (d : Data) (t : TxId) → AllStorable d → AllStorable (after_settle d t)
settled d t all = rolled_back d t all

pub at_savepoint : (d : Data) (t : TxId) (name : List ℕ) → AllStorable d → AllStorable (after_savepoint d t name)
at_savepoint d t name all = stays_changed t (with_savepoint (savepoint_at d t name)) (λ x h. h) d.live all

to_savepoint : (d : Data) (t : TxId) (name : List ℕ) (s : Option Savepoint) → AllStorable d → AllStorable (back_to_savepoint d t name s)
to_savepoint d t name None all = all
to_savepoint d t name (Some s) all = stays_changed t (kept_to name s.changes) (λ x h. first_storable s.changes x.changes h) d.live all

pub back : (d : Data) (t : TxId) (name : List ℕ) → AllStorable d → AllStorable (after_back_to d t name)
back d t name all = to_savepoint d t name (savepoint_named d t name) all

pub pushed : (d : Data) (s : SessionId) → AllStorable d → AllStorable (after_push d s)
pushed d s all = stays_pushed d.live (not_begun _) all tt

pub popped : (d : Data) (s : SessionId) → AllStorable d → AllStorable (after_pop d s)
popped d s all = stays_filtered (λ x. not (is_named (top d s) x)) d.live all

-- ---- what may be committed

of_one : (t : TxId) (live : List Transaction) → AreStorable live → IsStorableBy (unwrap_or (find (is_named t) live) (not_begun t))
of_one t [] all = tt
of_one t (x ∷ xs) all = by (is_named t x) (of_one t xs all.1)
  where
    by : (b : Bool) → IsStorableBy (unwrap_or (find (is_named t) xs) (not_begun t)) → IsStorableBy (unwrap_or (cond b (Some x) (find (is_named t) xs)) (not_begun t))
    by true rest = all.0
    by false rest = rest

-- A transaction's changes can be spelled in a record.
pub has_payload : (d : Data) (t : TxId) → AllStorable d → MayCommit d (own d t).changes → length (payload (Commit (own d t).changes)) ≡ record_length (own d t).changes → HasPayload (Commit (own d t).changes)
has_payload d t all may counted =
    let few : length (own d t).changes < 4294967296 = omega (arith, may.few) in
    record {
      lists = (few, All-from_recursion IsStorable (own d t).changes (of_one t d.live all));
      short = omega (arith, may.short, counted);
      few = may.few;
    }

-- a call that changes nothing where it fails
module _ {A E : Type 0} where
  pub either : (r : Result A E) (d now then_now : Data) → OnOk r (now ≡ then_now) → OnErr r (now ≡ d) → AllStorable then_now → AllStorable d → AllStorable now
  either (Ok a) d now then_now ok err h h' = subst AllStorable (sym ok) h
  either (Err e) d now then_now ok err h h' = subst AllStorable (sym err) h'
