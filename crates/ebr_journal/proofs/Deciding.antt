-- A file is read, or it is damaged.
use Rattle.std.proofs.Common.{◌≡◌, ◌≢◌, ◌⊎◌, inl, inr, ⊎_elim, ℕ, zero, suc, ◌+◌, ◌<◌, ◌≤◌, ◌^◌, Bool, true, false, List, ◌++◌, length, take, drop, get_or, Option, Some, None, refl, sym, ◌∙◌, ap, subst, arith, take-append-drop}
use Rattle.std.specs.Prelude.{All, IfSome}
use Rattle.std.specs.Bool.{Decides}
use Rattle.std.specs.List.{list_all}
use Rattle.std.specs.Str.{bytes_eq}
use Rattle.std.specs.Int.{w32, w64, to_be_bytes, from_be_bytes}
use Rattle.std.proofs.lemmas.Bool.{cases_eq, cases_lt}
use Rattle.std.proofs.lemmas.Bool.Decides.{Decides-by_and}
use Rattle.std.proofs.lemmas.List.{take_at}
use Rattle.std.proofs.lemmas.Nat.{from_be_bytes-to_be_bytes_4, from_be_bytes-to_be_bytes_8}
use Rattle.std.proofs.lemmas.Slice.Eq.{bytes_eq-Decides}
use Rattle.ebr_base.specs.declared.row.Change.{Change}
use Rattle.ebr_base.specs.declared.value.Value.{Value}
use Rattle.ebr_base.specs.declared.value.Value.TheVariants as value
use Rattle.ebr_record.specs.declared.record.Record.{Record}
use Rattle.ebr_record.specs.declared.record.Record.TheVariants as made
use Rattle.ebr_record.specs.Keeper.{max_journal}
use Rattle.ebr_record.specs.Payload.{AreValues, HasLists, IsStored, max_payload, payload}
use Rattle.ebr_encoding.specs.Reading.{decoded}
use Rattle.ebr_encoding.specs.Spelled.{changes_of, most_bytes, most_changes}
use Rattle.ebr_encoding.specs.declared.form.Form.{Form}
use Rattle.ebr_encoding.specs.declared.form.Form.TheVariants.{Short, Long}
use Rattle.ebr_journal.specs.declared.found.Found.{Found}
use Rattle.ebr_journal.specs.Journal.{entry, mark, payload_at, Layout, none_yet, form_of, last_gate, found_in}
use Rattle.ebr_journal.specs.Crash.{added, marked}
use Rattle.ebr_journal.specs.Found.{mark_payload, AreEarly, Holds, IsDamaged, IsRecordAt, LeadsTo, StandsWhole}
use Rattle.ebr_journal.proofs.Layouts.{added_front, added_spelled, long_is_not_short, marked_front}
use Rattle.ebr_journal.proofs.Places.{early_next}
use Rattle.ebr_journal.proofs.Reading.{framed, late_unmarked, leads_end, leads_next, leads_start, no_journal}

abbrev Dec : Type 0 → Type 0
Dec P = P ⊎ (P → ⊥)

by_test : (t : Bool) (P : Type 0) → Decides t P → Dec P
by_test true P d = inl (d.0 refl)
by_test false P d = inr (λ p. absurd (false_is (d.1 p)))
  where
    false_is : false ≡ true → ⊥
    false_is e = cc

both_so : {P Q : Type 0} → Dec P → Dec Q → Dec (P × Q)
both_so (inl p) (inl q) = inl (p, q)
both_so (inl p) (inr isnt) = inr (λ x. isnt x.1)
both_so (inr isnt) q = inr (λ x. isnt x.0)

less_so : (m n : ℕ) → Dec (m < n)
less_so m n = ⊎_elim (λ less. inl less) (λ more. inr (λ less. omega (arith, less, more))) (cases_lt m n)

most_so : (m n : ℕ) → Dec (m ≤ n)
most_so m n = ⊎_elim (λ less. inr (λ le. omega (arith, less, le))) (λ le. inl le) (cases_lt n m)

-- ---- whether a record's lists have a spelling

abbrev is_stored : Value → Bool
is_stored (value.Bool b) = false
is_stored v = true

stored_decides : (v : Value) → Decides (is_stored v) (IsStored v)
stored_decides value.Null = (λ e. tt, λ p. refl)
stored_decides (value.Num n) = (λ e. tt, λ p. refl)
stored_decides (value.Text t) = (λ e. tt, λ p. refl)
stored_decides (value.Bool b) = (λ e. absurd (never e), λ p. absurd p)
  where
    never : false ≡ true → ⊥
    never e = cc

all_so : {X : Type 0} (P : X → Type 0) (p : X → Bool) → ((x : X) → Decides (p x) (P x)) → (xs : List X) → Dec (All P xs)
all_so P p each xs = by_test (list_all p xs) (All P xs) (Decides-by_and p P (list_all p) each refl (λ _ _. refl) xs)

decides_of : {P : Type 0} → Dec P → (t : Bool) × Decides t P
decides_of (inl p) = (true, (λ e. p, λ q. refl))
decides_of (inr isnt) = (false, (λ e. absurd (never e), λ q. absurd (isnt q)))
  where
    never : false ≡ true → ⊥
    never e = cc

values_so : (o : Option (List Value)) → Dec (IfSome o AreValues)
values_so None = inl tt
values_so (Some values) = both_so (less_so (length values) (2 ^ 16)) (all_so IsStored is_stored stored_decides values)

changes_so : (changes : List Change) → Dec (All (λ (c : Change). IfSome c.values AreValues) changes)
changes_so changes = all_so (λ (c : Change). IfSome c.values AreValues) (λ c. (decides_of (values_so c.values)).0) (λ c. (decides_of (values_so c.values)).1) changes

lists_so : (r : Record) → Dec (HasLists r)
lists_so (made.Commit changes) = both_so (less_so (length changes) (2 ^ 32)) (changes_so changes)
lists_so (made.Edition name parent) = inl tt
lists_so (made.EditionGone e) = inl tt
lists_so (made.Default e) = inl tt
lists_so (made.Object e enabled text) = inl tt
lists_so (made.Gone e class name) = inl tt
lists_so (made.Table name columns key) = both_so (less_so (length columns) (2 ^ 16)) (less_so (length key) (2 ^ 8))
lists_so (made.Column t column) = inl tt
lists_so (made.TableGone t) = inl tt

-- ---- what stands at a gate

stands_so : (b : List ℕ) (gate : ℕ) (piece : List ℕ) → Dec (StandsWhole b gate piece)
stands_so b gate piece = ⊎_elim
    (λ there. inl (record { is = there.0; within = there.1 }))
    (λ isnt. inr (λ there. isnt (there.is, there.within)))
    (both_so (by_test (bytes_eq (take (length piece) (drop gate b)) piece) (take (length piece) (drop gate b) ≡ piece) (bytes_eq-Decides (take (length piece) (drop gate b)) piece)) (less_so (gate + length piece) (length b)))

-- a record's payload is found by the length in front of it
payload_in : (form : Form) (r : Record) (rest : List ℕ) → length (payload r) ≤ max_payload → payload_at form (entry form r ++ rest) ≡ payload r
payload_in Short r rest few =
    let size : from_be_bytes w32 (to_be_bytes w32 (length (payload r))) ≡ length (payload r) = from_be_bytes-to_be_bytes_4 (length (payload r)) (omega (arith, few)) in
    ap (λ (k : ℕ). take k (payload r ++ rest)) size ∙ take_at (payload r) rest (length (payload r)) refl
payload_in Long r rest few =
    let size : from_be_bytes w64 (to_be_bytes w64 (length (payload r))) ≡ length (payload r) = from_be_bytes-to_be_bytes_8 (length (payload r)) (omega (arith, few)) in
    ap (λ (k : ℕ). take k (payload r ++ rest)) size ∙ take_at (payload r) rest (length (payload r)) refl

module _ (b : List ℕ) (gate : ℕ) (form : Form) where
  abbrev here : List ℕ
  here = payload_at form (drop gate b)

  seen : (r : Record) → StandsWhole b gate (entry form r) → length (payload r) ≤ max_payload → here ≡ payload r
  seen r there few =
      ap (payload_at form) (sym (take-append-drop (length (entry form r)) (drop gate b)) ∙ ap (λ (x : List ℕ). x ++ drop (length (entry form r)) (drop gate b)) there.is)
      ∙ payload_in form r (drop (length (entry form r)) (drop gate b)) few

  abbrev MayBe : Record → Type 0
  MayBe r = StandsWhole b gate (entry form r) × (HasLists r × ((length (payload r) ≤ max_payload) × ((length (payload r) ≤ most_bytes form) × (changes_of r ≤ most_changes form))))

  may_be : (r : Record) → IsRecordAt b gate form r → MayBe r
  may_be r there = (there.stands, (there.may.spelled.lists, (there.may.spelled.short, (there.may.fits.short, there.may.fits.few))))

  may_so : (r : Record) → Dec (MayBe r)
  may_so r =
      both_so (stands_so b gate (entry form r))
      (both_so (lists_so r) (both_so (most_so (length (payload r)) max_payload) (both_so (most_so (length (payload r)) (most_bytes form)) (most_so (changes_of r) (most_changes form)))))

  abbrev Records : Type 0
  Records = (r : Record) × IsRecordAt b gate form r

  some_is : (r k : Record) → Some r ≡ Some k → r ≡ k
  some_is r k e = cc

  some_not : (r : Record) → None ≡ Some r → ⊥
  some_not r e = cc

  read_back : (r : Record) → IsRecordAt b gate form r → decoded here ≡ Some r
  read_back r there = ap decoded (seen r there.stands there.may.spelled.short) ∙ there.may.spelled.same

  by_decoded : (o : Option Record) → decoded here ≡ o → Dec Records
  by_decoded None none = inr (λ found. some_not found.0 (sym none ∙ read_back found.0 found.1))
  by_decoded (Some r) is = ⊎_elim
      (λ m. inl (
        r,
        record {
          stands = m.0;
          may = record {
            spelled = record { lists = m.1.0; short = m.1.1.0; same = ap decoded (sym (seen r m.0 m.1.1.0)) ∙ is };
            fits = record { short = m.1.1.1.0; few = m.1.1.1.1 };
          };
        },
      ))
      (λ isnt. inr (λ found. isnt (subst MayBe (sym (some_is r found.0 (sym is ∙ read_back found.0 found.1))) (may_be found.0 found.1))))
      (may_so r)

  pub record_so : Dec Records
  record_so = by_decoded (decoded here) refl

form_so : (form : Form) → Dec (form ≡ Short)
form_so Short = inl refl
form_so Long = inr (λ e. long_is_not_short e)

-- ---- the whole file

abbrev Is : List ℕ → Type 0
Is b = ((found : Found) × Holds b found) ⊎ ((at : ℕ) × (before : Found) × IsDamaged b at before)

module _ (b : List ℕ) where
  -- the gate is closed
  whole_so : (l : Layout) (gate : ℕ) → LeadsTo b l gate → get_or b gate 0 ≢ 1 → gate < max_journal → Is b
  whole_so l gate leads closed early = elim (cases_lt (last_gate (form_of l.long)) gate) [
    | inl late ↦
        let u = late_unmarked (form_of l.long) gate late early in
        inr (gate, found_in l, inr (inr (inl (record { layout = l; leads = leads; closed = closed; unmarked = u.0; late = u.1; early = early; found = refl }))))
    | inr room ↦ elim (cases_lt max_journal (length b)) [
      | inl long ↦ inr (max_journal, found_in l, inr (inr (inr (record { long = long; here = refl; layout = l; place = gate; leads = leads; ends = inr (closed, room); found = refl }))))
      | inr short ↦ inl (
        found_in l,
        inr (record {
          layout = l;
          safe = record { ends = leads_end b l gate leads closed; room = subst (λ (n : ℕ). n ≤ last_gate (form_of l.long)) leads.place room; short = short };
          is = refl;
        }),
      )
    ]
  ]

  -- from a gate on
  from_gate : (n : ℕ) (l : Layout) (gate : ℕ) → LeadsTo b l gate → AreEarly b gate → length b ≤ gate + n → Is b
  from_gate zero l gate leads early le = absurd (omega (arith, leads.within, le))
  from_gate (suc n) l gate leads early le = elim (cases_lt gate max_journal) [
    | inr late ↦ inr (
      max_journal,
      found_in l,
      inr (inr (inr (record {
        long = omega (arith, leads.within, late);
        here = refl;
        layout = l;
        place = gate;
        leads = leads;
        ends = inl (record { late = late; first = early });
        found = refl;
      }))),
    )
    | inl within ↦ elim (cases_eq (get_or b gate 0) 1) [
      | inr closed ↦ whole_so l gate leads closed within
      | inl opened ↦ elim (record_so b gate (form_of l.long)) [
        | inl r ↦ from_gate n (added l r.0) (gate + length (entry (form_of l.long) r.0))
            (leads_next b l (added l r.0) gate (entry (form_of l.long) r.0) leads r.1.stands (added_front l.short l.long r.0) (added_spelled l.short l.long r.0 leads.spelled r.1.may))
            (early_next b l gate leads early within (payload r.0) r.1.may.fits.short r.1.stands)
            (omega (arith, le))
        | inr no_record ↦ elim (both_so (form_so (form_of l.long)) (stands_so b gate mark)) [
          | inl m ↦ from_gate n (marked l) (gate + 7)
              (leads_next b l (marked l) gate mark leads m.1 (marked_front l.short l.long m.0) (record { short = leads.spelled.short; long = leads.spelled.long }))
              (subst (λ (f : Form). AreEarly b (gate + length (framed f mark_payload))) m.0
              (early_next b l gate leads early within mark_payload (subst (λ (f : Form). 2 ≤ most_bytes f) (sym m.0) (omega arith)) (subst (λ (f : Form). StandsWhole b gate (framed f mark_payload)) (sym m.0) m.1)))
              (omega (arith, le))
          | inr no_mark ↦ inr (
            gate,
            found_in l,
            inr (inl (record {
              layout = l;
              leads = leads;
              broken = record { opened = opened; no_record = λ r there. no_record (r, there); no_mark = λ unmarked there. no_mark (unmarked, there) };
              early = within;
              found = refl;
            })),
          )
        ]
      ]
    ]
  ]

  pub read_or_not : Is b
  read_or_not = elim (cases_lt 1 (length b)) [
    | inr short ↦ inl (found_in none_yet, inl (inl short, refl))
    | inl long ↦ elim (cases_eq (get_or b 0 0) 1) [
      | inl first ↦ from_gate (length b) none_yet 1 (leads_start b long first) (λ l gate leads within. omega (arith, within)) (omega arith)
      | inr other ↦ elim (cases_eq (length b) 2) [
        | inl two ↦ inl (found_in none_yet, inl (inr (two, other), refl))
        | inr more ↦ inr (0, found_in none_yet, inl (no_journal b long more other))
      ]
    ]
  ]
