-- A file that is read isn't damaged.
use Rattle.std.proofs.Common.{◌≡◌, ◌≢◌, ◌⊎◌, inl, inr, ⊎_elim, ℕ, zero, suc, ◌+◌, ◌<◌, ◌≤◌, List, [], ◌∷◌, ◌++◌, length, take, drop, get_or, Option, Some, None, refl, sym, ◌∙◌, ap, subst, arith, append_assoc, append-nil, length-append, length-drop, take-append-drop}
use Rattle.std.proofs.lemmas.List.{take_at, drop_at, get_or-take, get_or-drop}
use Rattle.std.specs.List.{flat_map}
use Rattle.std.proofs.lemmas.List.Concat.{flat_map-append}
use Rattle.ebr_record.specs.declared.record.Record.{Record}
use Rattle.ebr_encoding.specs.declared.form.Form.{Form}
use Rattle.ebr_encoding.specs.declared.form.Form.TheVariants.{Short, Long}
use Rattle.ebr_journal.specs.declared.found.Found.{Found}
use Rattle.ebr_journal.specs.Journal.{entry, mark, MayAllStand, Layout, long_in, form_of, behind_short, front, last_gate, IsBlank, Ends, walked, with_first, laid_out}
use Rattle.ebr_journal.specs.Found.{Holds, HasNoRoom, IsBadRecord, IsDamaged, IsRecordAt, IsWhole, LeadsTo, StandsWhole}
use Rattle.ebr_journal.proofs.Records.{walked_past, laid_out_past, laid_out_all, recovered_ends}
use Rattle.ebr_journal.proofs.Reading.{leads_end}

abbrev shorts : List Record → List ℕ
shorts records = flat_map (entry Short) records

abbrev longs : List Record → List ℕ
longs records = flat_map (entry Long) records

-- ---- a walk over records, and whatever stands behind them

walked_on : (m n : ℕ) (records : List Record) (rest : List ℕ) → m ≡ length records + n → MayAllStand Long records → walked m (longs records ++ rest) ≡ records ++ walked n rest
walked_on m n [] rest is all = ap (λ (k : ℕ). walked k rest) (let e : m ≡ n = omega (arith, is) in e)
walked_on zero n (r ∷ records) rest is all = absurd (omega (arith, is))
walked_on (suc m) n (r ∷ records) rest is all =
    ap (walked (suc m)) (append_assoc (entry Long r) (longs records) rest)
    ∙ walked_past m r (longs records ++ rest) all.0
    ∙ ap (λ (l : List Record). r ∷ l) (walked_on m n records rest (omega (arith, is)) all.1)

abbrev behind_records : List Record → Layout → Layout
behind_records before l = record { short = before ++ l.short; long = l.long }

laid_on : (m n : ℕ) (records : List Record) (rest : List ℕ) → m ≡ length records + n → MayAllStand Short records → laid_out m (shorts records ++ rest) ≡ behind_records records (laid_out n rest)
laid_on m n [] rest is all = ap (λ (k : ℕ). laid_out k rest) (let e : m ≡ n = omega (arith, is) in e)
laid_on zero n (r ∷ records) rest is all = absurd (omega (arith, is))
laid_on (suc m) n (r ∷ records) rest is all =
    ap (laid_out (suc m)) (append_assoc (entry Short r) (shorts records) rest)
    ∙ laid_out_past m r (shorts records ++ rest) all.0
    ∙ ap (with_first r) (laid_on m n records rest (omega (arith, is)) all.1)

laid_mark : (m n : ℕ) (records : List Record) (rest : List ℕ) → m ≡ length records + n → MayAllStand Long records → laid_out (suc m) ((mark ++ longs records) ++ rest) ≡ record { short = []; long = Some (records ++ walked n rest) }
unfolding laid_out
laid_mark m n records rest is all = ap (λ (l : List Record). record { short = []; long = Some l }) (walked_on m n records rest is all)

-- ---- what stands behind them

-- a record of the form, or where no mark came before, the mark
abbrev pub Next : List ℕ → ℕ → Form → Type 0
Next b at form = ((r : Record) × IsRecordAt b at form r) ⊎ ((form ≡ Short) × StandsWhole b at mark)

there_is : (b : List ℕ) (at : ℕ) (piece more : List ℕ) → drop at b ≡ piece ++ more → 0 < length more → StandsWhole b at piece
there_is b at piece more is some = record {
  is = ap (λ (l : List ℕ). take (length piece) l) is ∙ take_at piece more (length piece) refl;
  within = omega (arith, length-drop at b, ap length is, length-append piece more, some);
}

closed_not : (b : List ℕ) (at gate : ℕ) (rest : List ℕ) → drop at b ≡ gate ∷ rest → gate ≢ 1 → get_or b at 0 ≡ 1 → ⊥
closed_not b at gate rest is closed opened =
    closed (sym (ap (λ (l : List ℕ). get_or l 0 0) is) ∙ get_or-drop at b 0 0 ∙ ap (λ (k : ℕ). get_or b k 0) (let e : at + 0 ≡ at = omega arith in e) ∙ opened)

next_long : (b : List ℕ) (at gate : ℕ) (rest : List ℕ) (records : List Record) → drop at b ≡ longs records ++ gate ∷ rest → gate ≢ 1 → MayAllStand Long records → get_or b at 0 ≡ 1 → Next b at Long
next_long b at gate rest [] is closed all opened = absurd (closed_not b at gate rest is closed opened)
next_long b at gate rest (r ∷ records) is closed all opened =
    inl (
      r,
      record {
        stands = there_is b at (entry Long r) (longs records ++ gate ∷ rest) (is ∙ append_assoc (entry Long r) (longs records) (gate ∷ rest)) (omega (arith, length-append (longs records) (gate ∷ rest)));
        may = all.0;
      },
    )

next_short : (b : List ℕ) (at gate : ℕ) (rest : List ℕ) (short : List Record) (long : Option (List Record)) → drop at b ≡ (shorts short ++ behind_short long) ++ gate ∷ rest → gate ≢ 1 → MayAllStand Short short → get_or b at 0 ≡ 1
    → Next b at Short
next_short b at gate rest [] None is closed all opened = absurd (closed_not b at gate rest is closed opened)
next_short b at gate rest [] (Some long) is closed all opened =
    inr (refl, there_is b at mark (longs long ++ gate ∷ rest) (is ∙ append_assoc mark (longs long) (gate ∷ rest)) (omega (arith, length-append (longs long) (gate ∷ rest))))
next_short b at gate rest (r ∷ short) long is closed all opened =
    let more = (shorts short ++ behind_short long) ++ gate ∷ rest in
    let split : drop at b ≡ entry Short r ++ more =
    is ∙ ap (λ (l : List ℕ). l ++ gate ∷ rest) (append_assoc (entry Short r) (shorts short) (behind_short long)) ∙ append_assoc (entry Short r) (shorts short ++ behind_short long) (gate ∷ rest) in
    inl (
      r,
      record {
        stands = there_is b at (entry Short r) more split (omega (arith, length-append (shorts short ++ behind_short long) (gate ∷ rest)));
        may = all.0;
      },
    )

-- the later ones of a list
later_stand : (form : Form) (before records : List Record) → MayAllStand form (before ++ records) → MayAllStand form records
later_stand form [] records all = all
later_stand form (r ∷ before) records all = later_stand form before records all.1

-- A layout that leads to an open gate is the beginning of the one that the file has.
module _ (b : List ℕ) (l : Layout) (ends : Ends b l) (at : ℕ) where
  abbrev all : List ℕ
  all = (shorts l.short ++ behind_short l.long) ++ ends.gate ∷ ends.rest

  abbrev many : ℕ
  many = suc (length l.short + length (long_in l.long))

  laid_all : (n : ℕ) → many ≤ n → laid_out n all ≡ l
  laid_all n le = laid_out_all n l.short l.long ends.gate ends.rest (omega (arith, le)) ends.closed ends.spelled.short ends.spelled.long

  -- what stands behind the first byte, up to the gate and from it on
  module _ (fronts : List ℕ) (leads : take at b ≡ 1 ∷ fronts) (place : at ≡ suc (length fronts)) where
    split : all ≡ fronts ++ drop at b
    split = ap (λ (x : List ℕ). drop 1 x) (sym ends.is ∙ sym (take-append-drop at b) ∙ ap (λ (x : List ℕ). x ++ drop at b) leads)

    from_there : (more : List ℕ) → all ≡ fronts ++ more → drop at b ≡ more
    from_there more is =
        ap (λ (x : List ℕ). drop at x) ends.is ∙ ap (λ (k : ℕ). drop k (1 ∷ all)) place ∙ ap (λ (x : List ℕ). drop (length fronts) x) is ∙ drop_at fronts more (length fronts) refl

  pub next_of : (short : List Record) (long : Option (List Record)) → LeadsTo b (record { short = short; long = long }) at → get_or b at 0 ≡ 1 → Next b at (form_of long)
  next_of short None leads opened =
      let t = laid_out many (drop at b) in
      let fronts = shorts short ++ [] in
      let front_is : fronts ≡ shorts short = append-nil (shorts short) in
      let walk : laid_out (length short + many) all ≡ behind_records short t =
      ap (laid_out (length short + many)) (split fronts leads.front leads.place ∙ ap (λ (x : List ℕ). x ++ drop at b) front_is) ∙ laid_on (length short + many) many short (drop at b) refl leads.spelled.short in
      let is : l ≡ behind_records short t = sym (laid_all (length short + many) (omega arith)) ∙ walk in
      let shape : all ≡ fronts ++ ((shorts t.short ++ behind_short t.long) ++ ends.gate ∷ ends.rest) =
      ap (λ (x : Layout). (shorts x.short ++ behind_short x.long) ++ ends.gate ∷ ends.rest) is
      ∙ ap (λ (x : List ℕ). (x ++ behind_short t.long) ++ ends.gate ∷ ends.rest) (flat_map-append (entry Short) short t.short)
      ∙ ap (λ (x : List ℕ). x ++ ends.gate ∷ ends.rest) (append_assoc (shorts short) (shorts t.short) (behind_short t.long))
      ∙ append_assoc (shorts short) (shorts t.short ++ behind_short t.long) (ends.gate ∷ ends.rest)
      ∙ ap (λ (x : List ℕ). x ++ ((shorts t.short ++ behind_short t.long) ++ ends.gate ∷ ends.rest)) (sym front_is) in
      let spelled : MayAllStand Short t.short = later_stand Short short t.short (subst (λ (x : Layout). MayAllStand Short x.short) is ends.spelled.short) in
      next_short b at ends.gate ends.rest t.short t.long (from_there fronts leads.front leads.place ((shorts t.short ++ behind_short t.long) ++ ends.gate ∷ ends.rest) shape) ends.closed spelled opened
  next_of short (Some long) leads opened =
      let t = walked many (drop at b) in
      let fronts = shorts short ++ (mark ++ longs long) in
      let n = suc (length long + many) in
      let walk : laid_out (length short + n) all ≡ record { short = short ++ []; long = Some (long ++ t) } =
      ap (laid_out (length short + n)) (split fronts leads.front leads.place ∙ append_assoc (shorts short) (mark ++ longs long) (drop at b))
      ∙ laid_on (length short + n) n short ((mark ++ longs long) ++ drop at b) refl leads.spelled.short
      ∙ ap (behind_records short) (laid_mark (length long + many) many long (drop at b) refl leads.spelled.long) in
      let is : l ≡ record { short = short ++ []; long = Some (long ++ t) } = sym (laid_all (length short + n) (omega arith)) ∙ walk in
      let shape : all ≡ fronts ++ (longs t ++ ends.gate ∷ ends.rest) =
      ap (λ (x : Layout). (shorts x.short ++ behind_short x.long) ++ ends.gate ∷ ends.rest) is
      ∙ ap (λ (x : List Record). (shorts x ++ (mark ++ longs (long ++ t))) ++ ends.gate ∷ ends.rest) (append-nil short)
      ∙ ap (λ (x : List ℕ). (shorts short ++ (mark ++ x)) ++ ends.gate ∷ ends.rest) (flat_map-append (entry Long) long t)
      ∙ ap (λ (x : List ℕ). (shorts short ++ x) ++ ends.gate ∷ ends.rest) (sym (append_assoc mark (longs long) (longs t)))
      ∙ ap (λ (x : List ℕ). x ++ ends.gate ∷ ends.rest) (sym (append_assoc (shorts short) (mark ++ longs long) (longs t)))
      ∙ append_assoc fronts (longs t) (ends.gate ∷ ends.rest) in
      let spelled : MayAllStand Long t = later_stand Long long t (subst (λ (x : Layout). MayAllStand Long (long_in x.long)) is ends.spelled.long) in
      next_long b at ends.gate ends.rest t (from_there fronts leads.front leads.place (longs t ++ ends.gate ∷ ends.rest) shape) ends.closed spelled opened

pub first_is : (b : List ℕ) (l : Layout) (at : ℕ) → LeadsTo b l at → get_or b 0 0 ≡ 1
first_is b l at leads = sym (get_or-take at b 0 0 (omega (arith, leads.place))) ∙ ap (λ (x : List ℕ). get_or x 0 0) leads.front

not_blank : (b : List ℕ) (l : Layout) (at : ℕ) → LeadsTo b l at → IsBlank b → ⊥
not_blank b l at leads blank = ⊎_elim (λ short. omega (arith, short, leads.place, leads.within)) (λ two. two.1 (first_is b l at leads)) blank

bad_never : (b : List ℕ) (l : Layout) (at : ℕ) (before : Found) → Ends b l → IsBadRecord b at before → ⊥
bad_never b l at before ends bad =
    ⊎_elim (λ r. bad.broken.no_record r.0 r.1) (λ m. bad.broken.no_mark m.0 m.1)
    (next_of b l ends at bad.layout.short bad.layout.long bad.leads bad.broken.opened)

no_room_never : (b : List ℕ) (found : Found) (at : ℕ) (before : Found) → IsWhole b found → HasNoRoom b at before → ⊥
no_room_never b found at before whole none =
    let same : none.layout ≡ whole.layout = sym (recovered_ends b none.layout (leads_end b none.layout at none.leads none.closed)) ∙ recovered_ends b whole.layout whole.safe.ends in
    let room : length (front none.layout) ≤ last_gate (form_of none.layout.long) = subst (λ (x : Layout). length (front x) ≤ last_gate (form_of x.long)) (sym same) whole.safe.room in
    let room' : length (front none.layout) ≤ last_gate Short = subst (λ (f : Form). length (front none.layout) ≤ last_gate f) none.unmarked room in
    omega (arith, room', none.late, none.leads.place)

pub never_both : (bytes : List ℕ) (found : Found) (at : ℕ) (before : Found) → Holds bytes found → IsDamaged bytes at before → ⊥
never_both bytes found at before (inl blank) (inl no_journal) = no_journal.filled blank.0
never_both bytes found at before (inl blank) (inr (inl bad)) = not_blank bytes bad.layout at bad.leads blank.0
never_both bytes found at before (inl blank) (inr (inr (inl none))) = not_blank bytes none.layout at none.leads blank.0
never_both bytes found at before (inl blank) (inr (inr (inr long))) = ⊎_elim (λ short. omega (arith, short, long.long)) (λ two. omega (arith, two.0, long.long)) blank.0
never_both bytes found at before (inr whole) (inl no_journal) = no_journal.first (ap (λ (x : List ℕ). get_or x 0 0) whole.safe.ends.is)
never_both bytes found at before (inr whole) (inr (inl bad)) = bad_never bytes whole.layout at before whole.safe.ends bad
never_both bytes found at before (inr whole) (inr (inr (inl none))) = no_room_never bytes found at before whole none
never_both bytes found at before (inr whole) (inr (inr (inr long))) = omega (arith, long.long, whole.safe.short)
