-- What a keeper answers is what is defined.
use Rattle.std.proofs.Common.{◌≡◌, ℕ, ◌+◌, ◌≤◌, ◌<◌, ◌⊎◌, inl, inr, ⊎_elim, true, false, List, [], ◌∷◌, Option, Some, None, Ok, Err, refl, sym, ap, subst, ◌∙◌, append-nil, arith}
use Rattle.std.specs.Prelude.{◌≢◌, Result, IsTrue, nat_le}
use Rattle.std.proofs.lemmas.Bool.{le-leb, lt-leb}
use Rattle.std.proofs.lemmas.Option.{IfSome_then}
use Rattle.ebr_base.specs.declared.code.Code.TheVariants.{Ebr}
use Rattle.ebr_base.specs.declared.row.Change.{Change}
use Rattle.ebr_record.specs.declared.keep.JournalFault.{JournalFault}
use Rattle.ebr_record.specs.declared.keep.JournalFault.TheVariants as fault
use Rattle.ebr_record.specs.declared.record.Record.{Record}
use Rattle.ebr_record.specs.declared.record.Record.TheVariants.{Commit}
use Rattle.ebr_record.specs.Keeper.{Keeper, IsAtRest, LeavesLess, share, max_journal, with_record, Answered, Becomes, Elapses, Passes, Stands, WithOrWithout}
use Rattle.ebr_database.specs.declared.failure.Failure.{Failure}
use Rattle.ebr_database.specs.declared.failure.Halt.{Halt}
use Rattle.ebr_database.specs.declared.failure.Halt.TheVariants as halt
use Rattle.ebr_database.specs.Transact.{kept_if, keep_record, keep_changes}
use Rattle.ebr_database.specs.Shows.{with_records, Between, Holds, JustKept, OneMore, Cause, GaveUp, Said, Shows}
use Rattle.ebr_database.specs.inside.Failed.{failed}
use Rattle.ebr_database.proofs.Keeping.{just_one, with_none}
use Rattle.ebr_database.proofs.Goes.{says}

module _ (old new : Keeper) (r : Record) where
  with_one : (k : Option (List Record)) → with_record k r ≡ with_records k (r ∷ [])
  with_one None = refl
  with_one (Some l) = refl

  between : (k : Option (List Record)) (l : List Record) → WithOrWithout k r l → Between k (r ∷ []) l
  between None l h = tt
  between (Some records) l h = ⊎_elim (λ e. ([], r ∷ [], e ∙ sym (append-nil records), refl)) (λ e. (r ∷ [], [], e, refl)) h

  passes : (made : List Record) → made ≡ r ∷ [] → Passes old new (WithOrWithout old.records r) → Holds old new made
  passes made e p t l before x = subst (λ m. old.may_leave t l ⊎ Between old.records m l) (sym e) (⊎_elim (λ y. inl y) (λ y. inr (between old.records l y)) (p.only t l before x))

  stands : (made : List Record) → Stands old new → Holds old new made
  stands made s t l before x = inl ((s.same t l).0 x)

  fits : old.used + share r ≤ max_journal → nat_le (old.used + share r) max_journal ≡ true
  fits h = le-leb (old.used + share r) max_journal h

  over : (len : ℕ) → len ≡ old.used + share r → max_journal < len → nat_le (old.used + share r) max_journal ≡ false
  over len e h = lt-leb (old.used + share r) max_journal (subst (λ n. max_journal < n) e h)

  made_if : nat_le (old.used + share r) max_journal ≡ true → (keep_record r old.used).made ≡ r ∷ []
  made_if e = ap (λ b. (kept_if b r old.used).made) e

  -- what a keeper that hasn't stopped leaves between two calls
  just : IsAtRest new → new.stopped ≡ false → JustKept new
  just rest going told = IfSome_then new.records (rest.leaves going told) (λ records same l x. (same l).0 x)

  -- what a stop leaves now, where moments went by in which the list was left with the record or without it
  with_or_without : (kept : Option (List Record)) (made l : List Record) → made ≡ r ∷ [] → WithOrWithout kept r l → OneMore kept made l
  with_or_without None made l e h = tt
  with_or_without (Some records) made l e h = ⊎_elim (λ same. inl same) (λ more. inr (r, [], e, more)) h

  left_now : LeavesLess new → (a : Result (Unit {0}) JournalFault) (made : List Record) → made ≡ r ∷ [] → new.records ≡ old.records → old.moment ≤ new.moment
      → Passes old new (WithOrWithout old.records r) → (l : List Record) → new.may_leave new.moment l → OneMore new.records made l
  left_now less a made e same later p l x =
      subst (λ k. OneMore k made l) (sym same) (with_or_without old.records made l e (p.each l (less old.moment new.moment l later x)))

  -- where no moment went by
  stood : (made l : List Record) → IsTrue old.tells → JustKept old → new.records ≡ old.records → Stands old new → new.may_leave new.moment l → OneMore new.records made l
  stood made l told kept same s x =
      subst (λ k. OneMore k made l) (sym same) (just_one old made l told kept (subst (λ t. old.may_leave t l) s.moment ((s.same new.moment l).0 x)))

  gave_up : (a : JournalFault) (why : Halt) (made : List Record) → Becomes old new r (Err a) → (IsTrue old.tells → Holds old new made)
      → (IsTrue old.tells → JustKept old → (l : List Record) → new.may_leave new.moment l → OneMore new.records made l) → Cause why old new → GaveUp old new made why
  gave_up a why made b h now cause = record {
    kept = [];
    left = made;
    made_is = refl;
    records = b.records ∙ sym (with_none old.records);
    used = omega (arith, b.used);
    faults = b.faults;
    moment = b.moment;
    tells = b.tells;
    holds = h;
    now = now;
    cause = cause;
  }

  -- a fault, or want of memory, while the record was to be kept
  failed_at : (a : JournalFault) (why : Halt) (made : List Record) → made ≡ r ∷ [] → LeavesLess new → Becomes old new r (Err a)
      → (IsTrue old.tells → Passes old new (WithOrWithout old.records r)) → Cause why old new → GaveUp old new made why
  failed_at a why made e less b moments cause =
      gave_up a why made b (λ told. passes made e (moments told)) (λ told kept l x. left_now less (Err a) made e b.records b.moment (moments told) l x) cause

  pub keep_shows : (a : Result (Unit {0}) JournalFault) → LeavesLess new → IsAtRest new → Answered old new r a → Becomes old new r a → (IsTrue old.tells → Elapses old new r a)
      → Shows (keep_record r old.used) new.used old new (failed a)
  keep_shows (Ok u) less rest cause b moments =
      subst (λ c. Said (kept_if c r old.used) new.used old new (Ok tt)) (sym (fits cause.1)) (record {
        state = sym b.used;
        grew = record {
          records = b.records ∙ with_one old.records;
          used = omega (arith, b.used);
          faults = b.faults;
          stopped = b.stopped;
          moment = b.moment;
          tells = b.tells;
          holds = λ told. passes (r ∷ []) refl (moments told);
          rest = λ kept. just rest (b.stopped ∙ cause.0);
        };
        value = refl;
      })
  keep_shows (Err (fault.Full len)) less rest cause b moments =
      subst (λ c. Said (kept_if c r old.used) new.used old new (Err (Ebr 42))) (sym (over len cause.1 cause.2)) (record {
        state = sym b.used;
        grew = record {
          records = b.records ∙ sym (with_none old.records);
          used = omega (arith, b.used);
          faults = b.faults;
          stopped = b.stopped;
          moment = b.moment;
          tells = b.tells;
          holds = λ told. stands [] (moments told);
          rest = λ kept. just rest (b.stopped ∙ cause.0);
        };
        value = refl;
      })
  keep_shows (Err fault.DiskFault) less rest cause b moments = failed_at fault.DiskFault halt.DiskFault _ (made_if (fits cause.1)) less b moments cause.2
  keep_shows (Err fault.NoMemory) less rest cause b moments = failed_at fault.NoMemory halt.NoMemory _ (made_if (fits cause.1)) less b moments tt
  keep_shows (Err fault.Stopped) less rest cause b moments =
      let made = (keep_record r old.used).made in
      gave_up fault.Stopped halt.Stopped made b (λ told. stands made (moments told)) (λ told kept l x. stood made l told kept b.records (moments told) x) cause

-- ---- no changes, and some

pub none_kept : (cs : List Change) (k : Keeper) → cs ≡ [] → Shows (keep_changes cs k.used) k.used k k (Ok tt)
none_kept cs k e = subst (λ x. Said (keep_changes x k.used) k.used k k (Ok tt)) (sym e) (says k.used (Ok tt) k)

pub some_kept : (cs : List Change) (old new : Keeper) (r : Result (Unit {0}) Failure) → cs ≢ [] → Shows (keep_record (Commit cs) old.used) new.used old new r → Shows (keep_changes cs old.used) new.used old new r
some_kept [] old new r some h = absurd (some refl)
some_kept (c ∷ cs) old new r some h = h
