-- Laws of the files of databases.
use Rattle.std.proofs.Common.{◌≡◌, ◌⊎◌, inl, inr, ⊎_elim, ℕ, List, [], ◌∷◌, ◌++◌, refl, sym, ◌∙◌, ap, subst}
use Rattle.ebr_record.specs.declared.record.Record.{Record}
use Rattle.ebr_journal.specs.declared.found.Found as found
use Rattle.ebr_journal.specs.Found.{Holds}
use Rattle.ebr_journal.specs.Journal.{HasRecords, IsBlank, found_in, none_yet}
use Rattle.ebr_journal.proofs.Damage.{never_both}
use Rattle.ebr_journal.proofs.Deciding.{read_or_not}
use Rattle.ebr_journal.proofs.Places.{one_damage, one_found}
use Rattle.ebr_journal.proofs.Records.{one_list}
use Rattle.ebr_allowed.specs.Allowed.{Allowed, AreAllowed}
use Rattle.ebr_allowed.proofs.RecordLemmas.{records_before}
use Rattle.ebr_startup.specs.Damage.{HasDatabase, IsDamagedAt, IsFirstUnallowed, gate_behind}
use Rattle.ebr_startup.proofs.Walking.{allowed_there}

-- the records that were found are those of the file
pub holds_has : (bytes : List ℕ) (f : found.Found) → Holds bytes f → HasRecords bytes f.records
holds_has bytes f (inl blank) = inl (blank.0, ap (λ (x : found.Found). x.records) blank.1)
holds_has bytes f (inr whole) = inr (record { layout = whole.layout; safe = whole.safe; are = ap (λ (x : found.Found). x.records) whole.is })

pub has_records : (bytes : List ℕ) (records : List Record) → HasDatabase bytes records → HasRecords bytes records
has_records bytes records db = subst (HasRecords bytes) (sym db.records_are) (holds_has bytes db.found db.holds)

-- and what is found in a file that has records
has_holds : (bytes : List ℕ) (records : List Record) → HasRecords bytes records → (f : found.Found) × Holds bytes f × (records ≡ f.records)
has_holds bytes records (inl blank) = (found_in none_yet, inl (blank.0, refl), blank.1)
has_holds bytes records (inr journal) = (found_in journal.layout, inr (record { layout = journal.layout; safe = journal.safe; is = refl }), journal.are)

-- a file has records, or none
pub records_or_none : (bytes : List ℕ) → ((records : List Record) × HasRecords bytes records) ⊎ ((records : List Record) → HasRecords bytes records → ⊥)
records_or_none bytes = ⊎_elim
    (λ h. inl (h.0.records, holds_has bytes h.0 h.1))
    (λ d. inr (λ records has. let h = has_holds bytes records has in never_both bytes h.0 d.0 d.1 h.1 d.2))
    (read_or_not bytes)

-- it has a database, where its records are the first of some that are allowed
pub first_database : (bytes : List ℕ) (records more : List Record) → HasRecords bytes records → AreAllowed (records ++ more) → HasDatabase bytes records
first_database bytes records more has allowed =
    let h = has_holds bytes records has in
    record { found = h.0; holds = h.1; records_are = h.2; allowed = records_before records more allowed }

-- a database's file isn't damaged
pub never_damaged : (bytes : List ℕ) (records : List Record) (at : ℕ) → HasDatabase bytes records → IsDamagedAt bytes at → ⊥
never_damaged bytes records at db (inl bad) =
    let same : bad.found.records ≡ records = one_list bytes bad.found.records records (holds_has bytes bad.found bad.holds) (has_records bytes records db) in
    let all : AreAllowed (bad.first.before ++ bad.first.first ∷ bad.first.behind) = subst AreAllowed (sym same ∙ bad.first.records_are) db.allowed in
    bad.first.unallowed (allowed_there [] bad.first.before bad.first.first bad.first.behind all)
never_damaged bytes records at db (inr damage) = never_both bytes db.found damage.place damage.before db.holds damage.damaged

-- nor is a blank one
pub blank_not : (bytes : List ℕ) (at : ℕ) → IsDamagedAt bytes at → IsBlank bytes → ⊥
blank_not bytes at damaged blank = never_damaged bytes [] at (record { found = found_in none_yet; holds = inl (blank, refl); records_are = refl; allowed = tt }) damaged

-- ---- one place

-- two places in one list: the same one, or one is behind the other
two_places : (xs ys r s : List Record) (a b : Record) → xs ++ a ∷ r ≡ ys ++ b ∷ s → (xs ≡ ys) ⊎ (((m : List Record) × (ys ≡ xs ++ a ∷ m)) ⊎ ((m : List Record) × (xs ≡ ys ++ b ∷ m)))
two_places [] [] r s a b e = inl refl
two_places [] (y ∷ ys) r s a b e = inr (inl (ys, ap (λ (x : Record). x ∷ ys) (sym (heads e))))
  where
    heads : a ∷ r ≡ y ∷ (ys ++ b ∷ s) → a ≡ y
    heads e = cc
two_places (x ∷ xs) [] r s a b e = inr (inr (xs, ap (λ (y : Record). y ∷ xs) (heads e)))
  where
    heads : x ∷ (xs ++ a ∷ r) ≡ b ∷ s → x ≡ b
    heads e = cc
two_places (x ∷ xs) (y ∷ ys) r s a b e = further (two_places xs ys r s a b (tails e))
  where
    heads : x ∷ (xs ++ a ∷ r) ≡ y ∷ (ys ++ b ∷ s) → x ≡ y
    heads e = cc

    tails : x ∷ (xs ++ a ∷ r) ≡ y ∷ (ys ++ b ∷ s) → xs ++ a ∷ r ≡ ys ++ b ∷ s
    tails e = cc

    further : (xs ≡ ys) ⊎ (((m : List Record) × (ys ≡ xs ++ a ∷ m)) ⊎ ((m : List Record) × (xs ≡ ys ++ b ∷ m))) → (x ∷ xs ≡ y ∷ ys) ⊎ (((m : List Record) × (y ∷ ys ≡ (x ∷ xs) ++ a ∷ m)) ⊎ ((m : List Record) × (x ∷ xs ≡ (y ∷ ys) ++ b ∷ m)))
    further (inl same) = inl (λ i. heads e i ∷ same i)
    further (inr (inl more)) = inr (inl (more.0, λ i. sym (heads e) i ∷ more.1 i))
    further (inr (inr more)) = inr (inr (more.0, λ i. heads e i ∷ more.1 i))

module _ (f : found.Found) (p q : ℕ) (one : IsFirstUnallowed f p) (other : IsFirstUnallowed f q) where
  not_within : (before : List Record) (r : Record) (m : List Record) → AreAllowed before → (xs : List Record) → before ≡ xs ++ r ∷ m → (Allowed xs r → ⊥) → ⊥
  not_within before r m all xs is unallowed = unallowed (allowed_there [] xs r m (subst AreAllowed is all))

  one_unallowed : p ≡ q
  one_unallowed = elim (two_places one.before other.before one.behind other.behind one.first other.first (sym one.records_are ∙ other.records_are)) [
    | inl same ↦ one.gate ∙ ap (gate_behind f.short) same ∙ sym other.gate
    | inr (inl more) ↦ absurd (not_within other.before one.first more.0 other.allowed one.before more.1 one.unallowed)
    | inr (inr more) ↦ absurd (not_within one.before other.first more.0 one.allowed other.before more.1 other.unallowed)
  ]

unallowed_not : (f : found.Found) (at : ℕ) → IsFirstUnallowed f at → AreAllowed f.records → ⊥
unallowed_not f at bad all = bad.unallowed (allowed_there [] bad.before bad.first bad.behind (subst AreAllowed bad.records_are all))

one_smallest : (f : found.Found) (place p q : ℕ) → IsFirstUnallowed f p ⊎ (AreAllowed f.records × (p ≡ place)) → IsFirstUnallowed f q ⊎ (AreAllowed f.records × (q ≡ place)) → p ≡ q
one_smallest f place p q (inl bad) (inl bad') = one_unallowed f p q bad bad'
one_smallest f place p q (inl bad) (inr all) = absurd (unallowed_not f p bad all.0)
one_smallest f place p q (inr all) (inl bad) = absurd (unallowed_not f q bad all.0)
one_smallest f place p q (inr all) (inr all') = all.1 ∙ sym all'.1

one_by : (f g : found.Found) (x y p q : ℕ) → x ≡ y → f ≡ g → IsFirstUnallowed f p ⊎ (AreAllowed f.records × (p ≡ x)) → IsFirstUnallowed g q ⊎ (AreAllowed g.records × (q ≡ y)) → p ≡ q
one_by f g x y p q places founds one other =
    one_smallest g y p q (subst (λ (h : found.Found). IsFirstUnallowed h p ⊎ (AreAllowed h.records × (p ≡ y))) founds (subst (λ (n : ℕ). IsFirstUnallowed f p ⊎ (AreAllowed f.records × (p ≡ n))) places one)) other

-- a file is damaged at one place at most
pub one_place : (bytes : List ℕ) (p q : ℕ) → IsDamagedAt bytes p → IsDamagedAt bytes q → p ≡ q
one_place bytes p q (inl one) (inl other) = one_by one.found other.found 0 0 p q refl (one_found bytes one.found other.found one.holds other.holds) (inl one.first) (inl other.first)
one_place bytes p q (inl one) (inr other) = absurd (never_both bytes one.found other.place other.before one.holds other.damaged)
one_place bytes p q (inr one) (inl other) = absurd (never_both bytes other.found one.place one.before other.holds one.damaged)
one_place bytes p q (inr one) (inr other) =
    let same = one_damage bytes one.place other.place one.before other.before one.damaged other.damaged in
    one_by one.before other.before one.place other.place p q same.0 same.1 one.smallest other.smallest
