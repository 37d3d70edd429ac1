-- Where gates lie, and that a file is damaged at one place at most.
use Rattle.std.proofs.Common.{◌≡◌, ◌≢◌, ◌⊎◌, inl, inr, ⊎_elim, ℕ, ◌+◌, ◌<◌, ◌≤◌, List, [], ◌∷◌, ◌++◌, length, take, drop, get_or, refl, sym, ◌∙◌, ap, subst, arith, length-append}
use Rattle.std.proofs.lemmas.Bool.{cases_eq, cases_order}
use Rattle.std.proofs.lemmas.List.{drop-take, get_or-take, get_or_append_left, length-take-le, take-append-le, take-take}
use Rattle.ebr_record.specs.declared.record.Record.{Record}
use Rattle.ebr_record.specs.Keeper.{max_journal}
use Rattle.ebr_record.specs.Payload.{payload}
use Rattle.ebr_encoding.specs.Spelled.{most_bytes}
use Rattle.ebr_encoding.specs.declared.form.Form.{Form}
use Rattle.ebr_encoding.specs.declared.form.Form.TheVariants.{Short, Long}
use Rattle.ebr_journal.specs.declared.found.Found.{Found}
use Rattle.ebr_journal.specs.declared.read.Walked.{Walked}
use Rattle.ebr_journal.specs.Journal.{share_in, mark, Layout, form_of, front, last_gate, found_in, IsBlank, Ends}
use Rattle.ebr_journal.specs.Found.{mark_payload, AreEarly, HasCome, HasNoRoom, Holds, IsBadRecord, IsBrokenAt, IsDamaged, IsFirstLate, IsNoJournal, IsRecordAt, IsTooLong, LeadsTo, StandsWhole}
use Rattle.ebr_journal.proofs.Records.{length-entry, recovered_ends}
use Rattle.ebr_journal.proofs.Reading.{framed, framed_length, leads_end, most_small, same_size, size_there}
use Rattle.ebr_journal.proofs.Damage.{Next, first_is, next_of}

-- ---- two gates

module _ (b : List ℕ) (l : Layout) (at : ℕ) (leads : LeadsTo b l at) where
  -- the file up to the later one, which is closed here
  abbrev part : List ℕ
  part = take at b ++ 0 ∷ []

  long : length (take at b) ≡ at
  long = length-take-le at b (omega (arith, leads.within))

  part_long : length part ≡ at + 1
  part_long = omega (arith, long, length-append (take at b) (0 ∷ []))

  pub part_ends : Ends part l
  part_ends = record { gate = 0; rest = []; closed = omega arith; is = ap (λ (x : List ℕ). x ++ 0 ∷ []) leads.front; spelled = leads.spelled }

  part_front : (n : ℕ) → n ≤ at → take n part ≡ take n b
  part_front n le = take-append-le n (take at b) (0 ∷ []) (omega (arith, long, le)) ∙ take-take n at b le

  module _ (l0 : Layout) (gate : ℕ) (leads0 : LeadsTo b l0 gate) (before : gate < at) where
    leads_in : LeadsTo part l0 gate
    leads_in = record { place = leads0.place; front = part_front gate (omega (arith, before)) ∙ leads0.front; spelled = leads0.spelled; within = omega (arith, part_long, before) }

    same_gate : get_or part gate 0 ≡ get_or b gate 0
    same_gate = get_or_append_left (take at b) (0 ∷ []) 0 gate (omega (arith, long, before)) ∙ get_or-take at b gate 0 before

    -- the earlier one is open
    pub is_open : get_or b gate 0 ≡ 1
    is_open = ⊎_elim (λ e. e) (λ closed. absurd (never closed)) (cases_eq (get_or b gate 0) 1)
      where
        never : get_or b gate 0 ≢ 1 → ⊥
        never closed =
            let ends : Ends part l0 = leads_end part l0 gate leads_in (λ e. closed (sym same_gate ∙ e)) in
            let same : l0 ≡ l = sym (recovered_ends part l0 ends) ∙ recovered_ends part l part_ends in
            omega (arith, leads0.place, leads.place, ap (λ (x : Layout). length (front x)) same, before)

    -- what stands in that part stands in the file, up to the later gate at most
    in_file : (piece : List ℕ) → StandsWhole part gate piece → StandsWhole b gate piece × (gate + length piece ≤ at)
    in_file piece there =
        let reach : gate + length piece ≤ at = omega (arith, there.within, part_long) in (
          record {
            is = sym (drop-take gate (length piece) b) ∙ ap (λ (x : List ℕ). drop gate x) (sym (part_front (gate + length piece) reach)) ∙ drop-take gate (length piece) part ∙ there.is;
            within = omega (arith, reach, leads.within);
          },
          reach,
        )

    -- what stands at the earlier gate: a record, or the mark
    pub next_there : Next b gate (form_of l0.long)
    next_there = ⊎_elim
        (λ r. inl (r.0, record { stands = (in_file _ r.1.stands).0; may = r.1.may }))
        (λ m. inr (m.0, (in_file mark m.1).0))
        (next_of part l part_ends gate l0.short l0.long leads_in (same_gate ∙ is_open))

    -- its payload, behind which the later gate lies, or further
    pub payload_there : (q : List ℕ) × (length q ≤ most_bytes (form_of l0.long)) × StandsWhole b gate (framed (form_of l0.long) q) × (gate + length (framed (form_of l0.long) q) ≤ at)
    payload_there = ⊎_elim
        (λ r. let i = in_file (framed (form_of l0.long) (payload r.0)) r.1.stands in (payload r.0, r.1.may.fits.short, i.0, i.1))
        (λ m. let i = in_file mark m.1 in (
          mark_payload,
          subst (λ (f : Form). 2 ≤ most_bytes f) (sym m.0) (omega arith),
          subst (λ (f : Form). StandsWhole b gate (framed f mark_payload)) (sym m.0) i.0,
          subst (λ (f : Form). gate + length (framed f mark_payload) ≤ at) (sym m.0) i.1,
        ))
        (next_of part l part_ends gate l0.short l0.long leads_in (same_gate ∙ is_open))

-- two payloads at one gate are as long
same_long : (b : List ℕ) (gate : ℕ) (form : Form) (p q : List ℕ) → length p ≤ most_bytes form → length q ≤ most_bytes form → StandsWhole b gate (framed form p) → StandsWhole b gate (framed form q) → length p ≡ length q
same_long b gate form p q few few' there there' =
    same_size form (length p) (length q) (most_small form (length p) few) (most_small form (length q) few') (sym (size_there b gate form p there) ∙ size_there b gate form q there')

framed_long : (form : Form) (p q : List ℕ) → length p ≡ length q → length (framed form p) ≡ length (framed form q)
framed_long form p q same = omega (arith, same, framed_length form p, framed_length form q)

-- the gates in front of the next one are early
pub early_next : (b : List ℕ) (l : Layout) (gate : ℕ) → LeadsTo b l gate → AreEarly b gate → gate < max_journal → (q : List ℕ) → length q ≤ most_bytes (form_of l.long) → StandsWhole b gate (framed (form_of l.long) q)
    → AreEarly b (gate + length (framed (form_of l.long) q))
early_next b l gate leads early within q few there l' at leads' before = elim (cases_order at gate) [
  | inl same ↦ omega (arith, same, within)
  | inr (inl less) ↦ early l' at leads' less
  | inr (inr more) ↦ absurd (beyond more)
]
  where
    beyond : gate < at → ⊥
    beyond more =
        let p = payload_there b l' at leads' l gate leads more in
        let same : length (framed (form_of l.long) q) ≡ length (framed (form_of l.long) p.0) =
        framed_long (form_of l.long) q p.0 (same_long b gate (form_of l.long) q p.0 few p.1 there p.2) in
        omega (arith, same, p.3, before)

-- .. of a walk
pub early_more : (b : List ℕ) (w : Walked) (r : Record) → w.gate < max_journal → (come : HasCome b w) → IsRecordAt b w.gate w.form r → AreEarly b (w.gate + share_in w.form r)
early_more b w r within come there =
    let form = form_of come.layout.long in
    let there' : IsRecordAt b w.gate form r = subst (λ (f : Form). IsRecordAt b w.gate f r) come.laid.follows there in
    subst (λ (n : ℕ). AreEarly b (w.gate + n)) (length-entry form r ∙ ap (λ (f : Form). share_in f r) (sym come.laid.follows))
    (early_next b come.layout w.gate come.leads come.early within (payload r) there'.may.fits.short there'.stands)

pub early_marked : (b : List ℕ) (w : Walked) → w.gate < max_journal → (come : HasCome b w) → w.form ≡ Short → StandsWhole b w.gate mark → AreEarly b (w.gate + 7)
early_marked b w within come is_short there =
    let form = form_of come.layout.long in
    let unmarked : form ≡ Short = sym come.laid.follows ∙ is_short in
    subst (λ (f : Form). AreEarly b (w.gate + length (framed f mark_payload))) unmarked
    (early_next b come.layout w.gate come.leads come.early within mark_payload (subst (λ (f : Form). 2 ≤ most_bytes f) (sym unmarked) (omega arith)) (subst (λ (f : Form). StandsWhole b w.gate (framed f mark_payload)) (sym unmarked) there))

-- ---- one place

-- a layout is told by where it leads
one_layout : (b : List ℕ) (l k : Layout) (at : ℕ) → LeadsTo b l at → LeadsTo b k at → l ≡ k
one_layout b l k at first second = sym (recovered_ends (take at b ++ 0 ∷ []) l (part_ends b l at first)) ∙ recovered_ends (take at b ++ 0 ∷ []) k (part_ends b k at second)

-- What ends the records at a gate, and the place of the damage: a broken gate, a closed one without room, a closed one of a file that is
-- too long, or the first that isn't early.
abbrev IsTight : List ℕ → Layout → ℕ → Type 0
IsTight b l gate = (get_or b gate 0 ≢ 1) × (form_of l.long ≡ Short) × (last_gate Short < gate) × (gate < max_journal)

abbrev Kind : List ℕ → Layout → ℕ → ℕ → Type 0
Kind b l gate at =
    (IsBrokenAt b gate (form_of l.long) × (gate < max_journal) × (at ≡ gate))
    ⊎ ((IsTight b l gate × (at ≡ gate)) ⊎ (((get_or b gate 0 ≢ 1) × (gate ≤ last_gate (form_of l.long)) × (at ≡ max_journal)) ⊎ (IsFirstLate b gate × (at ≡ max_journal))))

last_early : (form : Form) (gate : ℕ) → gate ≤ last_gate form → gate < max_journal
last_early Short gate le = omega (arith, le)
last_early Long gate le = omega (arith, le)

tight_last : (form : Form) (gate : ℕ) → form ≡ Short → last_gate Short < gate → gate ≤ last_gate form → ⊥
tight_last form gate is less le = let room : gate ≤ last_gate Short = subst (λ (f : Form). gate ≤ last_gate f) is le in omega (arith, less, room)

module _ (b : List ℕ) where
  -- a gate that is early, or the first that isn't
  not_behind : (l : Layout) (gate : ℕ) → LeadsTo b l gate → (l' : Layout) (gate' at' : ℕ) → Kind b l' gate' at' → max_journal ≤ gate → gate < gate' → ⊥
  not_behind l gate leads l' gate' at' (inl k) late less = omega (arith, k.1, late, less)
  not_behind l gate leads l' gate' at' (inr (inl k)) late less = omega (arith, k.0.3, late, less)
  not_behind l gate leads l' gate' at' (inr (inr (inl k))) late less = omega (arith, last_early (form_of l'.long) gate' k.1, late, less)
  not_behind l gate leads l' gate' at' (inr (inr (inr k))) late less = omega (arith, k.0.first l gate leads less, late)

  not_before : (l : Layout) (gate at : ℕ) → LeadsTo b l gate → Kind b l gate at → (l' : Layout) (gate' at' : ℕ) → LeadsTo b l' gate' → Kind b l' gate' at' → gate < gate' → ⊥
  not_before l gate at leads (inl k) l' gate' at' leads' k' less =
      ⊎_elim (λ r. k.0.no_record r.0 r.1) (λ m. k.0.no_mark m.0 m.1) (next_there b l' gate' leads' l gate leads less)
  not_before l gate at leads (inr (inl k)) l' gate' at' leads' k' less = k.0.0 (is_open b l' gate' leads' l gate leads less)
  not_before l gate at leads (inr (inr (inl k))) l' gate' at' leads' k' less = k.0 (is_open b l' gate' leads' l gate leads less)
  not_before l gate at leads (inr (inr (inr k))) l' gate' at' leads' k' less = not_behind l gate leads l' gate' at' k' k.0.late less

  -- two kinds of end of one layout
  one_kind : (l : Layout) (gate at at' : ℕ) → Kind b l gate at → Kind b l gate at' → at ≡ at'
  one_kind l gate at at' (inl k) (inl k') = k.2 ∙ sym k'.2
  one_kind l gate at at' (inl k) (inr (inl k')) = k.2 ∙ sym k'.1
  one_kind l gate at at' (inl k) (inr (inr (inl k'))) = absurd (k'.0 k.0.opened)
  one_kind l gate at at' (inl k) (inr (inr (inr k'))) = absurd (omega (arith, k.1, k'.0.late))
  one_kind l gate at at' (inr (inl k)) (inl k') = k.1 ∙ sym k'.2
  one_kind l gate at at' (inr (inl k)) (inr (inl k')) = k.1 ∙ sym k'.1
  one_kind l gate at at' (inr (inl k)) (inr (inr (inl k'))) = absurd (tight_last (form_of l.long) gate k.0.1 k.0.2 k'.1)
  one_kind l gate at at' (inr (inl k)) (inr (inr (inr k'))) = absurd (omega (arith, k.0.3, k'.0.late))
  one_kind l gate at at' (inr (inr (inl k))) (inl k') = absurd (k.0 k'.0.opened)
  one_kind l gate at at' (inr (inr (inl k))) (inr (inl k')) = absurd (tight_last (form_of l.long) gate k'.0.1 k'.0.2 k.1)
  one_kind l gate at at' (inr (inr (inl k))) (inr (inr (inl k'))) = k.2 ∙ sym k'.2
  one_kind l gate at at' (inr (inr (inl k))) (inr (inr (inr k'))) = k.2 ∙ sym k'.1
  one_kind l gate at at' (inr (inr (inr k))) (inl k') = absurd (omega (arith, k'.1, k.0.late))
  one_kind l gate at at' (inr (inr (inr k))) (inr (inl k')) = absurd (omega (arith, k'.0.3, k.0.late))
  one_kind l gate at at' (inr (inr (inr k))) (inr (inr (inl k'))) = k.1 ∙ sym k'.2
  one_kind l gate at at' (inr (inr (inr k))) (inr (inr (inr k'))) = k.1 ∙ sym k'.1

  -- a damage behind the first byte
  record Stop (at : ℕ) (before : Found) : Type 0 where
    layout : Layout
    gate : ℕ
    leads : LeadsTo b layout gate
    kind : Kind b layout gate at
    found : before ≡ found_in layout

  stop_of : (at : ℕ) (before : Found) → IsBadRecord b at before ⊎ (HasNoRoom b at before ⊎ IsTooLong b at before) → Stop at before
  stop_of at before (inl bad) = record { layout = bad.layout; gate = at; leads = bad.leads; kind = inl (bad.broken, bad.early, refl); found = bad.found }
  stop_of at before (inr (inl none)) = record { layout = none.layout; gate = at; leads = none.leads; kind = inr (inl ((none.closed, none.unmarked, none.late, none.early), refl)); found = none.found }
  stop_of at before (inr (inr long)) =
      record { layout = long.layout; gate = long.place; leads = long.leads; kind = ⊎_elim (λ late. inr (inr (inr (late, long.here)))) (λ closed. inr (inr (inl (closed.0, closed.1, long.here)))) long.ends; found = long.found }

  one_stop : (p q : ℕ) (before other : Found) → Stop p before → Stop q other → (p ≡ q) × (before ≡ other)
  one_stop p q before other s t =
      let gates : s.gate ≡ t.gate = elim (cases_order s.gate t.gate) [
        | inl same ↦ same
        | inr (inl less) ↦ absurd (not_before s.layout s.gate p s.leads s.kind t.layout t.gate q t.leads t.kind less)
        | inr (inr more) ↦ absurd (not_before t.layout t.gate q t.leads t.kind s.layout s.gate p s.leads s.kind more)
      ] in
      let layouts : s.layout ≡ t.layout = one_layout b s.layout t.layout t.gate (subst (λ (n : ℕ). LeadsTo b s.layout n) gates s.leads) t.leads in
      let kind : Kind b t.layout t.gate p = subst (λ (x : Layout). Kind b x t.gate p) layouts (subst (λ (n : ℕ). Kind b s.layout n p) gates s.kind) in
      (one_kind t.layout t.gate p q kind t.kind, s.found ∙ ap found_in layouts ∙ sym t.found)

  no_both : (p q : ℕ) (before other : Found) → IsNoJournal b p before → Stop q other → ⊥
  no_both p q before other x s = x.first (first_is b s.layout s.gate s.leads)

  -- a file is damaged at one place at most, behind the same records
  pub one_damage : (p q : ℕ) (before other : Found) → IsDamaged b p before → IsDamaged b q other → (p ≡ q) × (before ≡ other)
  one_damage p q before other (inl x) (inl y) = (x.here ∙ sym y.here, x.none ∙ sym y.none)
  one_damage p q before other (inl x) (inr s) = absurd (no_both p q before other x (stop_of q other s))
  one_damage p q before other (inr s) (inl x) = absurd (no_both q p other before x (stop_of p before s))
  one_damage p q before other (inr s) (inr t) = one_stop p q before other (stop_of p before s) (stop_of q other t)

  -- what is found in a file is one
  ends_filled : (l : Layout) → Ends b l → IsBlank b → ⊥
  ends_filled l ends blank = ⊎_elim
      (λ short. omega (arith, short, ap length ends.is, length-append (front l) (ends.gate ∷ ends.rest)))
      (λ two. two.1 (ap (λ (x : List ℕ). get_or x 0 0) ends.is))
      blank

  pub one_found : (f g : Found) → Holds b f → Holds b g → f ≡ g
  one_found f g (inl blank) (inl blank') = blank.1 ∙ sym blank'.1
  one_found f g (inl blank) (inr whole) = absurd (ends_filled whole.layout whole.safe.ends blank.0)
  one_found f g (inr whole) (inl blank) = absurd (ends_filled whole.layout whole.safe.ends blank.0)
  one_found f g (inr whole) (inr whole') = whole.is ∙ ap found_in (sym (recovered_ends b whole.layout whole.safe.ends) ∙ recovered_ends b whole'.layout whole'.safe.ends) ∙ sym whole'.is
