-- Where the gate of a record stands, and that this is a number of few bytes.
use Rattle.std.proofs.Common.{◌≡◌, ℕ, ◌+◌, ◌-◌, ◌<◌, ◌≤◌, Bool, true, false, List, [], ◌∷◌, length, take, drop, sym, ◌∙◌, ap, subst, arith}
use Rattle.std.specs.Prelude.{nat_lt, if◌then◌else◌, sum_by}
use Rattle.std.proofs.lemmas.Bool.Decides.{nat_tests}
use Rattle.std.proofs.lemmas.List.{drop-take, length-take, take-take}
use Rattle.std.proofs.lemmas.List.Sums.{sum_by-cons, sum_by-take-drop, sum_by-take-le}
use Rattle.ebr_record.specs.declared.record.Record.{Record}
use Rattle.ebr_record.specs.Keeper.{share}
use Rattle.ebr_encoding.specs.declared.form.Form.{Form}
use Rattle.ebr_encoding.specs.declared.form.Form.TheVariants.{Short, Long}
use Rattle.ebr_journal.specs.declared.found.Found.{Found}
use Rattle.ebr_journal.specs.Found.{AreFit}
use Rattle.ebr_journal.specs.Journal.{share_in}
use Rattle.ebr_startup.specs.Damage.{gate_behind}

share_le : (form : Form) (r : Record) → share_in form r ≤ share r
share_le Short r = omega arith
share_le Long r = omega arith

sum_le : (form : Form) (records : List Record) → sum_by (share_in form) records ≤ sum_by share records
sum_le form [] = omega arith
sum_le form (r ∷ records) = omega (arith, share_le form r, sum_le form records, sum_by-cons (share_in form) r records, sum_by-cons share r records)

-- the records that were found are few bytes in either form, and so are parts of them
module _ (found : Found) (fit : AreFit found) where
  abbrev records : List Record
  records = found.records

  all_few : (form : Form) → sum_by (share_in form) records < 2147483648
  all_few form = omega (arith, fit.small, sum_le form records)

  first_few : (form : Form) (n : ℕ) → sum_by (share_in form) (take n records) < 2147483648
  first_few form n = omega (arith, all_few form, sum_by-take-le (share_in form) records n)

  middle_few : (form : Form) (m n : ℕ) → sum_by (share_in form) (take m (drop n records)) < 2147483648
  middle_few form m n = omega (arith, all_few form, sum_by-take-le (share_in form) (drop n records) m, sum_by-take-drop (share_in form) records n)

  -- .. and of a slice of them
  module _ (xs : List Record) (is : xs ≡ records) where
    pub first_of : (form : Form) (n : ℕ) → sum_by (share_in form) (take n xs) < 2147483648
    first_of form n = subst (λ l. sum_by (share_in form) (take n l) < 2147483648) (sym is) (first_few form n)

    pub middle_of : (form : Form) (m n : ℕ) → sum_by (share_in form) (take m (drop n xs)) < 2147483648
    middle_of form m n = subst (λ l. sum_by (share_in form) (take m (drop n l)) < 2147483648) (sym is) (middle_few form m n)

is_less : (m n : ℕ) → m < n → nat_lt m n ≡ true
is_less m n h = grind (arith, nat_tests)

is_not_less : (m n : ℕ) → n ≤ m → nat_lt m n ≡ false
is_not_less m n h = grind (arith, nat_tests)

module _ (short count : ℕ) (records : List Record) (within : count < length records) where
  abbrev before : List Record
  before = take count records

  long : length before ≡ count
  long = omega (arith, length-take count records, within)

  by_test : (b : Bool) → nat_lt (length before) short ≡ b
      → gate_behind short before ≡ (if b then 1 + sum_by (share_in Short) before else 8 + sum_by (share_in Short) (take short before) + sum_by (share_in Long) (drop short before))
  by_test b is = ap (λ t. if t then 1 + sum_by (share_in Short) before else 8 + sum_by (share_in Short) (take short before) + sum_by (share_in Long) (drop short before)) is

  pub short_gate : count < short → 1 + sum_by (share_in Short) before ≡ gate_behind short before
  short_gate early = sym (by_test true (is_less (length before) short (omega (arith, long, early))))

  pub long_gate : short ≤ count → 8 + sum_by (share_in Short) (take short records) + sum_by (share_in Long) (take (count - short) (drop short records)) ≡ gate_behind short before
  long_gate late =
      let split : short + (count - short) ≡ count = omega (arith, late) in
      let first : take short before ≡ take short records = take-take short count records late in
      let rest : drop short before ≡ take (count - short) (drop short records) = ap (λ n. drop short (take n records)) (sym split) ∙ drop-take short (count - short) records in
      ap (λ xs. 8 + sum_by (share_in Short) xs + sum_by (share_in Long) (take (count - short) (drop short records))) (sym first)
      ∙ ap (λ xs. 8 + sum_by (share_in Short) (take short before) + sum_by (share_in Long) xs) (sym rest)
      ∙ sym (by_test false (is_not_less (length before) short (omega (arith, long, late))))
