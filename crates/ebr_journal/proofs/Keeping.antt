-- A journal as a keeper of records.
use Rattle.std.proofs.Common.{◌≡◌, ◌⊎◌, inl, inr, ⊎_elim, ℕ, Bool, true, false, IsTrue, if◌then◌else◌, List, [], ◌∷◌, ◌++◌, take, Some, None, IfSome, Ok, refl, sym, ◌∙◌, ap, subst, arith}
use Rattle.ebr_outside.specs.Disk.{Medium, LeavesNow, Passes}
use Rattle.ebr_record.specs.declared.record.Record.{Record}
use Rattle.ebr_record.specs.Keeper.{Keeper, used_by, IsAtRest, LeavesJust, WithOrWithout, kept_after}
use Rattle.ebr_record.specs.Keeper as keeper
use Rattle.ebr_encoding.specs.declared.form.Form.{Form}
use Rattle.ebr_journal.specs.Journal.{Layout, records_in, IsSafe, HasRecords}
use Rattle.ebr_journal.specs.Keeper.{kept, keeper_of, AreThese, HasFront, HasNoOther, IsSettled, IsKept, IsSound}
use Rattle.ebr_journal.specs.Crash.{IsBeforeOrAfter}
use Rattle.ebr_journal.proofs.Records.{recovered_is, recovered_ends}

-- the records in front of the gate
pub kept_is : (bytes : List ℕ) (gate : ℕ) (l : Layout) → HasFront bytes gate l → kept bytes gate ≡ records_in l
kept_is bytes gate l has =
    ap records_in (
    recovered_ends (take gate bytes ++ 0 ∷ []) l
    (record { gate = 0; rest = []; closed = omega arith; is = ap (λ (b : List ℕ). b ++ 0 ∷ []) has.front; spelled = has.spelled })
    )

some_told : (b : Bool) (x : List Record) (P : List Record → Type 0) → (IsTrue b → P x) → IfSome (if b then Some x else None) P
some_told true x P holds = holds refl
some_told false x P holds = tt

or_told : (b : Bool) (x l : List Record) (r : Record) → (l ≡ x) ⊎ (l ≡ x ++ r ∷ []) → WithOrWithout (if b then Some x else None) r l
or_told true x l r either = either
or_told false x l r either = tt

these_told : (b : Bool) (x l : List Record) → l ≡ x → AreThese (if b then Some x else None) l
these_told true x l is = is
these_told false x l is = tt

pub same_told : (b b' : Bool) → b' ≡ b → (x x' : List Record) → (IsTrue b → x' ≡ x) → (if b' then Some x' else None) ≡ (if b then Some x else None)
same_told b b' same x x' is = subst (λ (c : Bool). (if c then Some x' else None) ≡ (if b then Some x else None)) (sym same) (by b is)
  where
    by : (c : Bool) → (IsTrue c → x' ≡ x) → (if c then Some x' else None) ≡ (if c then Some x else None)
    by true is = ap (λ (l : List Record). Some l) (is refl)
    by false is = refl

pub more_told : (b b' : Bool) → b' ≡ b → (x x' : List Record) (r : Record) → (IsTrue b → x' ≡ x ++ r ∷ []) → (if b' then Some x' else None) ≡ kept_after (if b then Some x else None) r (Ok tt)
more_told b b' same x x' r is = subst (λ (c : Bool). (if c then Some x' else None) ≡ kept_after (if b then Some x else None) r (Ok tt)) (sym same) (by b is)
  where
    by : (c : Bool) → (IsTrue c → x' ≡ x ++ r ∷ []) → (if c then Some x' else None) ≡ kept_after (if c then Some x else None) r (Ok tt)
    by true is = ap (λ (l : List Record). Some l) (is refl)
    by false is = refl

-- bytes with this layout have these records
of_safe : (image : List ℕ) (l : Layout) → IsSafe image l → HasRecords image (records_in l)
of_safe image l safe = inr (record { layout = l; safe = safe; are = refl })

-- and no others
they_are : (image : List ℕ) (k : List Record) (l : Layout) → HasRecords image k → IsSafe image l → k ≡ records_in l
they_are image k l found safe = sym (recovered_is image k found) ∙ ap records_in (recovered_ends image l safe.ends)

-- between two calls
pub at_rest : (m : Medium) (gate used : ℕ) (form : Form) (stopped : Bool) → (IsTrue m.tells → LeavesNow m m.reads) → IsSound m gate used form stopped → IsAtRest (keeper_of m gate used stopped)
at_rest m gate used form stopped law sound = record {
  used = some_told m.tells (kept m.reads gate) (λ l. used ≡ used_by l)
      (λ told. let k = sound.kept told in k.counts ∙ ap used_by (sym (kept_is m.reads gate k.layout k.front)));
  within = sound.small;
  leaves = λ going told. some_told m.tells (kept m.reads gate) (LeavesJust (keeper_of m gate used stopped)) (λ told'. just told (sound.kept told) going);
}
  where
    just : IsTrue m.tells → (k : IsKept m gate used form stopped) → stopped ≡ false → LeavesJust (keeper_of m gate used stopped) (kept m.reads gate)
    just told k going l =
        let s = k.settled going in
        let is = kept_is m.reads gate k.layout k.front in (
          λ left. sym (left.2 (records_in k.layout) (of_safe left.0 k.layout (subst (λ (b : List ℕ). IsSafe b k.layout) (sym (s.only left.0 left.1)) s.safe))) ∙ sym is,
          λ same. (m.reads, law told, λ others has. they_are m.reads others k.layout has s.safe ∙ sym (same ∙ is)),
        )

-- what a crash leaves at the moments of a call, as lists of records
module _ (old new : Medium) (gate used gate' used' : ℕ) (was stopped : Bool) (l next : Layout) (settled : IsSettled old gate l) (time : Passes old new (IsBeforeOrAfter l next)) where
  module _ (Q : List Record → Type 0) (means : (image : List ℕ) (k : List Record) → HasNoOther image k → IsBeforeOrAfter l next image → Q k) where
    here : (image : List ℕ) → LeavesNow old image → IsBeforeOrAfter l next image
    here image left = inl (subst (λ (b : List ℕ). IsSafe b l) (sym (settled.only image left)) settled.safe)

    passes : keeper.Passes (keeper_of old gate used was) (keeper_of new gate' used' stopped) Q
    passes = record {
      each = λ k left. means left.0 k left.2 (⊎_elim (λ before. here left.0 before) (λ now. now) (time.only old.moment left.0 (omega arith) left.1));
      only = λ t k le left. ⊎_elim (λ before. inl (left.0, before, left.2)) (λ now. inr (means left.0 k left.2 now)) (time.only t left.0 le left.1);
      keeps = λ t k le left. (left.0, time.keeps t left.0 le left.1, left.2);
    }

  module _ (front : HasFront old.reads gate l) where
    is : kept old.reads gate ≡ records_in l
    is = kept_is old.reads gate l front

    pub passes_more : (r : Record) → records_in next ≡ records_in l ++ r ∷ []
        → keeper.Passes (keeper_of old gate used was) (keeper_of new gate' used' stopped) (WithOrWithout (keeper_of old gate used was).records r)
    passes_more r more = passes (WithOrWithout (keeper_of old gate used was).records r) (λ image k none either. or_told old.tells (kept old.reads gate) k r (one image k none either))
      where
        one : (image : List ℕ) (k : List Record) → HasNoOther image k → IsBeforeOrAfter l next image → (k ≡ kept old.reads gate) ⊎ (k ≡ kept old.reads gate ++ r ∷ [])
        one image k none (inl before) = inl (sym (none (records_in l) (of_safe image l before)) ∙ sym is)
        one image k none (inr after) = inr (sym (none (records_in next) (of_safe image next after)) ∙ more ∙ ap (λ (x : List Record). x ++ r ∷ []) (sym is))

    pub passes_same : records_in next ≡ records_in l → keeper.Passes (keeper_of old gate used was) (keeper_of new gate' used' stopped) (AreThese (keeper_of old gate used was).records)
    passes_same same = passes (AreThese (keeper_of old gate used was).records) (λ image k none either. these_told old.tells (kept old.reads gate) k (one image k none either))
      where
        one : (image : List ℕ) (k : List Record) → HasNoOther image k → IsBeforeOrAfter l next image → k ≡ kept old.reads gate
        one image k none (inl before) = sym (none (records_in l) (of_safe image l before)) ∙ sym is
        one image k none (inr after) = sym (none (records_in next) (of_safe image next after)) ∙ same ∙ sym is
