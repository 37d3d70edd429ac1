-- That what a keeper in memory answers and becomes is what a keeper promises.
use Rattle.std.proofs.Common.{◌≡◌, ◌⊎◌, ⊎_elim, ◌↔◌, ◌∙◌, inl, inr, ℕ, ◌+◌, ◌<◌, ◌≤◌, Bool, true, false, List, [], ◌∷◌, ◌++◌, length, refl, sym, subst, arith, length-append, Some, Result, Ok, Err}
use Rattle.std.specs.Prelude.{sum_by, min, nat_lt, if◌then◌else◌}
use Rattle.std.proofs.lemmas.Bool.{ltb-false, ltb-true}
use Rattle.std.proofs.lemmas.List.{take-append-le, take_all}
use Rattle.std.proofs.lemmas.List.Sums.{sum_by_push}
use Rattle.ebr_faults.specs.Faults.{Rises, count_end, one_more}
use Rattle.ebr_record.specs.declared.keep.JournalFault.{JournalFault}
use Rattle.ebr_record.specs.declared.keep.JournalFault.TheVariants.{DiskFault, Stopped, Full, NoMemory}
use Rattle.ebr_record.specs.declared.record.Record.{Record}
use Rattle.ebr_record.specs.Keeper.{Answered, Becomes, Elapses, IsAtRest, Passes, WithOrWithout, max_journal, share, used_by}
use Rattle.ebr_record.specs.InMemory.{AnswersTo, LeftSince, ListState, after_call, answer_to, fails_next, as_keeper}

-- what a choice between the answers says of its tests
abbrev Cause : Bool → Bool → ℕ → Result (Unit {0}) JournalFault → Type 0
Cause stopped full len (Ok x) = (stopped ≡ false) × (full ≡ false)
Cause stopped full len (Err DiskFault) = (stopped ≡ false) × (full ≡ false)
Cause stopped full len (Err Stopped) = stopped ≡ true
Cause stopped full len (Err (Full n)) = (stopped ≡ false) × (full ≡ true) × (n ≡ len)
Cause stopped full len (Err NoMemory) = Unit {0}

cause : (stopped full fails : Bool) (len : ℕ) (answer : Result (Unit {0}) JournalFault)
    → (if stopped then Err Stopped else if full then Err (Full len) else if fails then Err DiskFault else Ok tt) ≡ answer → Cause stopped full len answer
cause true full fails len answer h = subst (Cause true full len) h refl
cause false true fails len answer h = subst (Cause false true len) h (refl, refl, refl)
cause false false true len answer h = subst (Cause false false len) h (refl, refl)
cause false false false len answer h = subst (Cause false false len) h (refl, refl)

rises : (n : ℕ) → Rises n (one_more n)
rises n = by (nat_lt n count_end) refl
  where
    by : (b : Bool) → nat_lt n count_end ≡ b → min (n + 1) count_end ≤ (if b then n + 1 else n)
    by true e = grind arith
    by false e = let high : count_end ≤ n = ltb-false n count_end e in grind (arith, high)

no_less : (n : ℕ) → n ≤ one_more n
no_less n = by (nat_lt n count_end)
  where
    by : (b : Bool) → n ≤ (if b then n + 1 else n)
    by true = omega arith
    by false = omega arith

-- a stop now leaves all that was kept, and that alone
pub just_kept : (records l : List Record) → LeftSince records (length records) l ↔ (l ≡ records)
just_kept records l = (λ left. left.3 ∙ take_all left.0 records left.1, λ same. (length records, omega arith, omega arith, same ∙ sym (take_all (length records) records (omega arith))))

module _ (records : List Record) (r : Record) where
  one_longer : length (records ++ r ∷ []) ≡ length records + 1
  one_longer = length-append records (r ∷ [])

  -- a list of the longer one's moments is one of the shorter one's, or all of it
  shorter_or_all : (t : ℕ) (l : List Record) → LeftSince (records ++ r ∷ []) t l → LeftSince records t l ⊎ (l ≡ records ++ r ∷ [])
  shorter_or_all t l left = by (nat_lt (length records) left.0) refl
    where
      by : (b : Bool) → nat_lt (length records) left.0 ≡ b → LeftSince records t l ⊎ (l ≡ records ++ r ∷ [])
      by true e = let past : length records < left.0 = ltb-true (length records) left.0 e in inr (left.3 ∙ take_all left.0 (records ++ r ∷ []) (omega (arith, past, one_longer)))
      by false e =
          let within : left.0 ≤ length records = ltb-false (length records) left.0 e in
          inl (left.0, left.1, within, left.3 ∙ take-append-le left.0 records (r ∷ []) within)

  longer : (t : ℕ) (l : List Record) → LeftSince records t l → LeftSince (records ++ r ∷ []) t l
  longer t l left = (left.0, left.1, omega (arith, left.2, one_longer), left.3 ∙ sym (take-append-le left.0 records (r ∷ []) left.2))

  now_or_all : (l : List Record) → LeftSince (records ++ r ∷ []) (length records) l → WithOrWithout (Some records) r l
  now_or_all l left = by (shorter_or_all (length records) l left)
    where
      by : LeftSince records (length records) l ⊎ (l ≡ records ++ r ∷ []) → WithOrWithout (Some records) r l
      by (inl before) = inl ((just_kept records l).0 before)
      by (inr all) = inr all

module _ (s : ListState) (r : Record) where
  chosen : (answer : Result (Unit {0}) JournalFault) → answer_to s r ≡ answer → Cause s.stopped (nat_lt max_journal (used_by s.records + share r)) (used_by s.records + share r) answer
  chosen answer h = cause s.stopped (nat_lt max_journal (used_by s.records + share r)) (fails_next s) (used_by s.records + share r) answer h

  fits : nat_lt max_journal (used_by s.records + share r) ≡ false → used_by s.records + share r ≤ max_journal
  fits = ltb-false max_journal (used_by s.records + share r)

  pub answered : (answer : Result (Unit {0}) JournalFault) → AnswersTo s r answer → Answered (as_keeper s) (as_keeper (after_call s r answer)) r answer
  answered (Ok x) h = let why = chosen (Ok x) h in (why.0, fits why.1)
  answered (Err DiskFault) h = let why = chosen (Err DiskFault) h in (why.0, fits why.1, rises s.faults)
  answered (Err Stopped) h = chosen (Err Stopped) h
  answered (Err (Full len)) h =
      let why = chosen (Err (Full len)) h in
      (why.0, why.2, subst (λ n. max_journal < n) (sym why.2) (ltb-true max_journal (used_by s.records + share r) why.1))
  answered (Err NoMemory) h = let why = chosen (Ok tt) h in (why.0, fits why.1)

  pub becomes : (answer : Result (Unit {0}) JournalFault) → Becomes (as_keeper s) (as_keeper (after_call s r answer)) r answer
  becomes (Ok x) = record {
    records = refl;
    used = let more : sum_by share (s.records ++ r ∷ []) ≡ sum_by share s.records + share r = sum_by_push share s.records r in omega (arith, more);
    faults = omega arith;
    stopped = refl;
    moment = omega (arith, one_longer s.records r);
    tells = refl;
  }
  becomes (Err DiskFault) = record { records = refl; used = refl; faults = no_less s.faults; stopped = refl; moment = omega arith; tells = refl }
  becomes (Err NoMemory) = record { records = refl; used = refl; faults = omega arith; stopped = refl; moment = omega arith; tells = refl }
  becomes (Err Stopped) = record { records = refl; used = refl; faults = omega arith; stopped = refl; moment = omega arith; tells = refl }
  becomes (Err (Full len)) = record { records = refl; used = refl; faults = omega arith; stopped = refl; moment = omega arith; tells = refl }

  stays : Passes (as_keeper s) (as_keeper s) (WithOrWithout (Some s.records) r)
  stays = record { each = λ l left. inl ((just_kept s.records l).0 left); only = λ t l early left. inl left; keeps = λ t l early left. left }

  pub elapses : (answer : Result (Unit {0}) JournalFault) → Elapses (as_keeper s) (as_keeper (after_call s r answer)) r answer
  elapses (Ok x) = record {
    each = now_or_all s.records r;
    only = λ t l early left. ⊎_elim (λ (before : LeftSince s.records t l). inl before) (λ (all : l ≡ s.records ++ r ∷ []). inr (inr all)) (shorter_or_all s.records r t l left);
    keeps = λ t l early left. longer s.records r t l left;
  }
  elapses (Err DiskFault) = record { each = stays.each; only = stays.only; keeps = stays.keeps }
  elapses (Err NoMemory) = record { each = stays.each; only = stays.only; keeps = stays.keeps }
  elapses (Err Stopped) = record { moment = refl; same = λ t l. (λ left. left, λ left. left) }
  elapses (Err (Full len)) = record { moment = refl; same = λ t l. (λ left. left, λ left. left) }

pub at_rest : (s : ListState) → used_by s.records ≤ max_journal → IsAtRest (as_keeper s)
at_rest s within = record { used = refl; within = omega (arith, within); leaves = λ going tells. just_kept s.records }
