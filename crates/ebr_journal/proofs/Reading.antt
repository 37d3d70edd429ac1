-- What stands at a gate, and where records lead.
use Rattle.std.proofs.Common.{◌≡◌, ◌≢◌, ⊎_elim, ℕ, ◌+◌, ◌-◌, ◌<◌, ◌≤◌, IsTrue, List, [], ◌∷◌, ◌++◌, length, take, drop, get_or, Option, Some, None, refl, sym, ◌∙◌, ap, subst, arith, append_assoc, length-append, take-append-drop, take-add}
use Rattle.std.specs.Prelude.{All}
use Rattle.std.proofs.lemmas.List.Elements.{All-nil, All-push}
use Rattle.std.proofs.lemmas.List.{take_at, drop_at, drop_more, drop-drop}
use Rattle.std.specs.Int.{w32, w64, from_be_bytes}
use Rattle.std.proofs.lemmas.Nat.{from_be_bytes-to_be_bytes_4, from_be_bytes-to_be_bytes_8}
use Rattle.ebr_outside.specs.Disk.{Medium}
use Rattle.ebr_record.specs.declared.record.Record.{Record}
use Rattle.ebr_record.specs.Keeper.{max_journal, share, used_by}
use Rattle.ebr_record.specs.Payload.{HasPayload, IsOfFew, payload}
use Rattle.ebr_record.specs.declared.record.Record.TheVariants as made
use Rattle.ebr_encoding.specs.declared.form.Form.{Form}
use Rattle.ebr_encoding.specs.declared.form.Form.TheVariants.{Short, Long}
use Rattle.ebr_encoding.specs.Spelled.{changes_of, most_bytes, most_changes}
use Rattle.ebr_journal.specs.declared.read.Gate.{Gate}
use Rattle.ebr_journal.specs.declared.read.Gate.TheVariants.{Closed, Open, Mark, Broken}
use Rattle.ebr_journal.specs.declared.read.Walked.{Walked}
use Rattle.ebr_journal.specs.declared.found.Found as found
use Rattle.ebr_journal.specs.Journal.{entry, share_in, size_bytes, mark, MayStand, Layout, none_yet, form_of, front, last_gate, records_in, found_in, AreSpelled, Ends}
use Rattle.ebr_journal.specs.Keeper.{beside}
use Rattle.ebr_journal.specs.Crash.{added_to, added, marked}
use Rattle.ebr_journal.specs.Found.{begun, head, size_limit, mark_payload, short_one, with_one, with_mark, Counts, AreEarly, AreFit, HasCome, IsBrokenAt, IsNoJournal, IsRead, IsRecordAt, LeadsTo, LiesWithin, StandsAt, StandsWhole, WalksTo}
use Rattle.ebr_journal.proofs.Records.{length-entry, some_bytes}
use Rattle.ebr_journal.proofs.Layouts.{added_form, added_front, added_records, added_spelled, marked_front, share_head, used_more}

-- a payload behind its gate and its length
abbrev pub framed : Form → List ℕ → List ℕ
framed form p = 1 ∷ (size_bytes form (length p) ++ p)

size_length : (form : Form) (n : ℕ) → length (size_bytes form n) + 1 ≡ head form
size_length Short n = refl
size_length Long n = refl

pub framed_length : (form : Form) (p : List ℕ) → length (framed form p) ≡ head form + length p
framed_length form p = omega (arith, length-append (size_bytes form (length p)) p, size_length form (length p))

pub same_size : (form : Form) (m n : ℕ) → m < size_limit form → n < size_limit form → size_bytes form m ≡ size_bytes form n → m ≡ n
same_size Short m n small small' same = sym (from_be_bytes-to_be_bytes_4 m small) ∙ ap (from_be_bytes w32) same ∙ from_be_bytes-to_be_bytes_4 n small'
same_size Long m n small small' same = sym (from_be_bytes-to_be_bytes_8 m small) ∙ ap (from_be_bytes w64) same ∙ from_be_bytes-to_be_bytes_8 n small'

pub most_small : (form : Form) (n : ℕ) → n ≤ most_bytes form → n < size_limit form
most_small Short n le = omega (arith, le)
most_small Long n le = omega (arith, le)

module _ (b : List ℕ) (place : ℕ) (form : Form) where
  some_head : 1 ≤ head form
  some_head = omega (arith, size_length form 0)

  behind_size : drop (head form - 1) (drop (place + 1) b) ≡ drop (place + head form) b
  behind_size =
      let e : place + 1 + (head form - 1) ≡ place + head form = omega (arith, some_head) in
      drop-drop (head form - 1) (place + 1) b ∙ ap (λ (k : ℕ). drop k b) e

  module _ (p : List ℕ) (there : StandsWhole b place (framed form p)) where
    abbrev z : List ℕ
    z = drop (length (framed form p)) (drop place b)

    whole : drop place b ≡ framed form p ++ z
    whole = sym (take-append-drop (length (framed form p)) (drop place b)) ∙ ap (λ (l : List ℕ). l ++ z) there.is

    tail : drop (place + 1) b ≡ size_bytes form (length p) ++ (p ++ z)
    tail = sym (drop-drop 1 place b) ∙ ap (λ (l : List ℕ). drop 1 l) whole ∙ append_assoc (size_bytes form (length p)) p z

    pub size_there : take (head form - 1) (drop (place + 1) b) ≡ size_bytes form (length p)
    size_there = ap (λ (l : List ℕ). take (head form - 1) l) tail ∙ take_at (size_bytes form (length p)) (p ++ z) (head form - 1) (omega (arith, size_length form (length p)))

    pub payload_there : take (length p) (drop (place + head form) b) ≡ p
    payload_there =
        ap (λ (l : List ℕ). take (length p) l) (sym behind_size ∙ ap (λ (l : List ℕ). drop (head form - 1) l) tail ∙ drop_at (size_bytes form (length p)) (p ++ z) (head form - 1) (omega (arith, size_length form (length p))))
        ∙ take_at p z (length p) refl

    pub room_there : place + head form + length p < length b
    room_there = omega (arith, there.within, framed_length form p)

    module _ (size : ℕ) (small : size < size_limit form) (is : size_bytes form size ≡ take (head form - 1) (drop (place + 1) b)) (short : length p ≤ most_bytes form) where
      pub size_is : size ≡ length p
      size_is = same_size form size (length p) small (most_small form (length p) short) (is ∙ size_there)

      pub same_payload : (q : List ℕ) → q ≡ take size (drop (place + head form) b) → q ≡ p
      same_payload q reads = reads ∙ ap (λ (k : ℕ). take k (drop (place + head form) b)) size_is ∙ payload_there

  pub is_there : (size : ℕ) (p : List ℕ) → place < length b → get_or b place 0 ≡ 1 → size_bytes form size ≡ take (head form - 1) (drop (place + 1) b) → p ≡ take size (drop (place + head form) b)
      → length p ≡ size → place + head form + size < length b → StandsWhole b place (framed form p)
  is_there size p within is_open is reads long room =
      let z = drop size (drop (place + head form) b) in
      let rest : drop (place + head form) b ≡ p ++ z = sym (take-append-drop size (drop (place + head form) b)) ∙ ap (λ (l : List ℕ). l ++ z) (sym reads) in
      let first : take (head form - 1) (drop (place + 1) b) ≡ size_bytes form (length p) = sym is ∙ ap (size_bytes form) (sym long) in
      let tail : drop (place + 1) b ≡ size_bytes form (length p) ++ (p ++ z) =
      sym (take-append-drop (head form - 1) (drop (place + 1) b)) ∙ ap (λ (l : List ℕ). l ++ drop (head form - 1) (drop (place + 1) b)) first ∙ ap (λ (l : List ℕ). size_bytes form (length p) ++ l) (behind_size ∙ rest) in
      let all : drop place b ≡ framed form p ++ z =
      drop_more b place 0 within ∙ ap (λ (k : ℕ). k ∷ drop (place + 1) b) is_open ∙ ap (λ (l : List ℕ). 1 ∷ l) (tail ∙ sym (append_assoc (size_bytes form (length p)) p z)) in
      record {
        is = ap (λ (l : List ℕ). take (length (framed form p)) l) all ∙ take_at (framed form p) z (length (framed form p)) refl;
        within = omega (arith, framed_length form p, long, room);
      }

  -- ---- nothing stands there

  broken : get_or b place 0 ≡ 1 → (Q : List ℕ → Type 0) → ((p : List ℕ) → length p ≤ most_bytes form → StandsWhole b place (framed form p) → Q p)
      → ((r : Record) → Q (payload r) → MayStand form r → ⊥) → (form ≡ Short → Q mark_payload → ⊥) → IsBrokenAt b place form
  broken opened Q all record_no mark_no = record {
    opened = opened;
    no_record = λ r there. record_no r (all (payload r) there.may.fits.short there.stands) there.may;
    no_mark = λ is_short there.
        mark_no is_short (all mark_payload (subst (λ (f : Form). 2 ≤ most_bytes f) (sym is_short) (omega arith)) (subst (λ (f : Form). StandsWhole b place (framed f mark_payload)) (sym is_short) there));
  }

  pub no_room : get_or b place 0 ≡ 1 → length b ≤ place + head form → IsBrokenAt b place form
  no_room opened short = broken opened (λ p. ⊥) (λ p few there. omega (arith, room_there p there, short)) (λ r no may. no) (λ is_short no. no)

  module _ (opened : get_or b place 0 ≡ 1) (size : ℕ) (small : size < size_limit form) (is : size_bytes form size ≡ take (head form - 1) (drop (place + 1) b)) where
    pub too_large : most_bytes form < size → IsBrokenAt b place form
    too_large large = broken opened (λ p. ⊥) (λ p few there. omega (arith, size_is p there size small is few, few, large)) (λ r no may. no) (λ is_short no. no)

    pub cut_short : length b ≤ place + head form + size → IsBrokenAt b place form
    cut_short short = broken opened (λ p. ⊥) (λ p few there. omega (arith, size_is p there size small is few, room_there p there, short)) (λ r no may. no) (λ is_short no. no)

    -- what was read
    module _ (within : place < length b) (q : List ℕ) (reads : q ≡ take size (drop (place + head form) b)) (long : length q ≡ size) (room : place + head form + size < length b) where
      stands : StandsWhole b place (framed form q)
      stands = is_there size q within opened is reads long room

      pub gate_is : (next : ℕ) (gate : Gate) → IsRead form q next gate → StandsAt b place form gate
      gate_is next Closed read = absurd read
      gate_is next (Open r n) read = record {
        stands = subst (λ (p : List ℕ). StandsWhole b place (framed form p)) read.0.is stands;
        may = record { spelled = read.0.spelled; fits = read.1 };
      }
      gate_is next Mark read = subst (λ (f : Form). StandsWhole b place (framed f mark_payload)) read.0 (subst (λ (p : List ℕ). StandsWhole b place (framed form p)) read.1 stands)
      gate_is next Broken read =
          broken opened (λ p. q ≡ p) (λ p few there. same_payload p there size small is few q reads)
          (λ r same may. read.0 r (record { is = same; spelled = may.spelled }) may.fits) (λ is_short same. read.1 is_short same)

-- where a gate was read that lies so
pub gate_lies : (form : Form) (q : List ℕ) (place size len : ℕ) → length q ≡ size → place + head form + size < len → (gate : Gate) → IsRead form q (place + head form + size) gate → LiesWithin place len form gate
gate_lies form q place size len long room Closed read = tt
gate_lies form q place size len long room (Open r n) read =
    let counts : length (payload r) ≡ size = sym (ap length read.0.is) ∙ long in
    (record { spelled = read.0.spelled; fits = read.1 }, omega (arith, read.2, share_head form r, counts), omega (arith, read.2, room))
gate_lies form q place size len long room Mark read =
    let counts : size ≡ 2 = sym long ∙ ap length read.1 in
    (read.0, omega (arith, subst (λ (f : Form). place + head f + size < len) read.0 room, counts))
gate_lies form q place size len long room Broken read = tt

-- ---- what may stand has a payload

few_changes : (form : Form) (r : Record) → changes_of r ≤ most_changes form → IsOfFew r
few_changes Short (made.Commit changes) few = omega (arith, few)
few_changes Long (made.Commit changes) few = few
few_changes form r few = tt

pub may_payload : (form : Form) (r : Record) → MayStand form r → HasPayload r
may_payload form r may = record { lists = may.spelled.lists; short = may.spelled.short; few = few_changes form r may.fits.few }

-- ---- from gate to gate

-- the first gate
pub leads_start : (b : List ℕ) → 1 < length b → get_or b 0 0 ≡ 1 → LeadsTo b none_yet 1
leads_start [] long first = absurd (omega arith)
leads_start (x ∷ b) long first = record { place = refl; front = ap (λ (k : ℕ). k ∷ []) first; spelled = record { short = tt; long = tt }; within = long }

-- and the next one
pub leads_next : (b : List ℕ) (l next : Layout) (at : ℕ) (piece : List ℕ) → LeadsTo b l at → StandsWhole b at piece → front next ≡ front l ++ piece → AreSpelled next → LeadsTo b next (at + length piece)
leads_next b l next at piece leads there grows spelled = record {
  place = omega (arith, leads.place, ap length grows, length-append (front l) piece);
  front = take-add at (length piece) b ∙ ap (λ (x : List ℕ). x ++ take (length piece) (drop at b)) leads.front ∙ ap (λ (x : List ℕ). front l ++ x) there.is ∙ sym grows;
  spelled = spelled;
  within = there.within;
}

one_short : (short : List Record) (long : Option (List Record)) (r : Record) → length short + short_one (form_of long) ≡ length (added_to short long r).short
one_short short None r = sym (length-append short (r ∷ []))
one_short short (Some long) r = omega arith

module _ (b : List ℕ) (w : Walked) where
  pub comes_more : (r : Record) → HasCome b w → IsRecordAt b w.gate w.form r → AreEarly b (w.gate + share_in w.form r) → HasCome b (with_one w r)
  comes_more r come there early =
      let l = come.layout in
      let follows = come.laid.follows in
      let stands : StandsWhole b w.gate (entry (form_of l.long) r) = subst (λ (f : Form). StandsWhole b w.gate (entry f r)) follows there.stands in
      let may : MayStand (form_of l.long) r = subst (λ (f : Form). MayStand f r) follows there.may in
      let e : length (entry (form_of l.long) r) ≡ share_in w.form r = length-entry (form_of l.long) r ∙ ap (λ (f : Form). share_in f r) (sym follows) in
      let short : w.found.short + short_one w.form ≡ length (added l r).short =
      ap (λ (k : ℕ). k + short_one w.form) (ap (λ (f : found.Found). f.short) come.laid.found) ∙ ap (λ (f : Form). length l.short + short_one f) follows ∙ one_short l.short l.long r in
      let records : w.found.records ++ r ∷ [] ≡ records_in (added l r) =
      ap (λ (rs : List Record). rs ++ r ∷ []) (ap (λ (f : found.Found). f.records) come.laid.found) ∙ sym (added_records l r) in
      record {
        layout = added l r;
        leads = subst (λ (k : ℕ). LeadsTo b (added l r) (w.gate + k)) e (leads_next b l (added l r) w.gate (entry (form_of l.long) r) come.leads stands (added_front l.short l.long r) (added_spelled l.short l.long r come.leads.spelled may));
        early = early;
        laid = record {
          found = λ i. record { records = records i; short = short i };
          counts = ap (λ (n : ℕ). n + share r) come.laid.counts ∙ sym (used_more (records_in l) r) ∙ ap used_by (sym (added_records l r));
          follows = follows ∙ sym (added_form l r);
        };
      }

  pub comes_marked : HasCome b w → w.form ≡ Short → StandsWhole b w.gate mark → AreEarly b (w.gate + 7) → HasCome b (with_mark w)
  comes_marked come is_short there early =
      let l = come.layout in
      let unmarked : form_of l.long ≡ Short = sym come.laid.follows ∙ is_short in
      record {
        layout = marked l;
        leads = leads_next b l (marked l) w.gate mark come.leads there (marked_front l.short l.long unmarked) (record { short = come.leads.spelled.short; long = come.leads.spelled.long });
        early = early;
        laid = record { found = come.laid.found; counts = come.laid.counts; follows = refl };
      }

  pub counts_more : (r : Record) → w.gate < max_journal → MayStand w.form r → Counts w → Counts (with_one w r)
  counts_more r early may c =
      by w.form c.room (ap (λ (n : ℕ). n + share r) c.counted ∙ sym (used_more w.found.records r)) (All-push HasPayload w.found.records r c.payloads (may_payload w.form r may))
    where
      by : (f : Form) → w.gate + beside f ≤ w.used → w.used + share r ≡ used_by (w.found.records ++ r ∷ []) → All HasPayload (w.found.records ++ r ∷ [])
          → Counts (record { found = record { records = w.found.records ++ r ∷ []; short = w.found.short + short_one f }; gate = w.gate + share_in f r; used = w.used + share r; form = f })
      by Short room counted payloads = record {
        some = omega (arith, c.some);
        early = omega (arith, early, may.spelled.short);
        room = omega (arith, room);
        small = omega (arith, c.small);
        few = omega (arith, c.few, some_bytes r);
        counted = counted;
        payloads = payloads;
      }
      by Long room counted payloads = record {
        some = omega (arith, c.some);
        early = omega (arith, early, may.spelled.short);
        room = omega (arith, room);
        small = omega (arith, c.small);
        few = omega (arith, c.few);
        counted = counted;
        payloads = payloads;
      }

  pub counts_marked : w.gate < max_journal → w.form ≡ Short → Counts w → Counts (with_mark w)
  counts_marked early is_short c =
      let room : w.gate + 8 ≤ w.used = subst (λ (f : Form). w.gate + beside f ≤ w.used) is_short c.room in
      record { some = omega (arith, c.some); early = omega (arith, early); room = omega (arith, room); small = omega (arith, c.small); few = omega (arith, c.few); counted = c.counted; payloads = c.payloads }

pub leads_end : (b : List ℕ) (l : Layout) (at : ℕ) → LeadsTo b l at → get_or b at 0 ≢ 1 → Ends b l
leads_end b l at leads closed = record {
  gate = get_or b at 0;
  rest = drop (at + 1) b;
  closed = closed;
  is = sym (take-append-drop at b) ∙ ap (λ (x : List ℕ). x ++ drop at b) leads.front ∙ ap (λ (x : List ℕ). front l ++ x) (drop_more b at 0 leads.within);
  spelled = leads.spelled;
}

-- ---- the walk

-- the records that were found have payloads, and are counted in few bytes
pub fit_of : (w : Walked) → Counts w → AreFit w.found
fit_of w c = record { payloads = c.payloads; small = omega (arith, c.early, c.small, c.few, c.counted) }

pub begun_counts : Counts begun
begun_counts = record { some = omega arith; early = omega arith; room = omega arith; small = omega arith; few = omega arith; counted = refl; payloads = All-nil HasPayload }

pub begun_fit : (w : Walked) → w ≡ begun → AreFit w.found
begun_fit w is = subst (λ (x : Walked). AreFit x.found) (sym is) (fit_of begun begun_counts)

pub walks_start : (m : Medium) (len : ℕ) (w : Walked) → w ≡ begun → 1 < len → (IsTrue m.tells → len ≡ length m.reads) → WalksTo m len w
walks_start m len w is some long = subst (WalksTo m len) (sym is) (record {
  counts = begun_counts;
  within = some;
  told = λ told first. record {
    layout = none_yet;
    leads = leads_start m.reads (omega (arith, some, long told)) first;
    early = λ l gate leads within. omega (arith, within);
    laid = record { found = refl; counts = refl; follows = refl };
  };
})

module _ (m : Medium) (len : ℕ) (w w' : Walked) (walks : WalksTo m len w) where
  pub walks_more : (r : Record) (next : ℕ) → w.gate < max_journal → w' ≡ with_one w r → LiesWithin w.gate len w.form (Open r next) → (IsTrue m.tells → IsRecordAt m.reads w.gate w.form r)
      → ((come : HasCome m.reads w) → IsRecordAt m.reads w.gate w.form r → AreEarly m.reads (w.gate + share_in w.form r)) → WalksTo m len w'
  walks_more r next early is lies there behind = subst (WalksTo m len) (sym is) (record {
    counts = counts_more m.reads w r early lies.0 walks.counts;
    within = omega (arith, lies.1, lies.2);
    told = λ told first. let come = walks.told told first in comes_more m.reads w r come (there told) (behind come (there told));
  })

  pub walks_marked : w.gate < max_journal → w' ≡ with_mark w → LiesWithin w.gate len w.form Mark → (IsTrue m.tells → StandsWhole m.reads w.gate mark)
      → ((come : HasCome m.reads w) → w.form ≡ Short → StandsWhole m.reads w.gate mark → AreEarly m.reads (w.gate + 7)) → WalksTo m len w'
  walks_marked early is lies there behind = subst (WalksTo m len) (sym is) (record {
    counts = counts_marked m.reads w early lies.0 walks.counts;
    within = lies.1;
    told = λ told first. let come = walks.told told first in comes_marked m.reads w come lies.0 (there told) (behind come lies.0 (there told));
  })

-- a gate that lies so late has no mark in front of it
pub late_unmarked : (form : Form) (gate : ℕ) → last_gate form < gate → gate < max_journal → (form ≡ Short) × (last_gate Short < gate)
late_unmarked Short gate late early = (refl, late)
late_unmarked Long gate late early = absurd (omega (arith, late, early))

pub no_journal : (b : List ℕ) → 1 < length b → length b ≢ 2 → get_or b 0 0 ≢ 1 → IsNoJournal b 0 (found_in none_yet)
no_journal b long not_two first = record {
  filled = λ blank. ⊎_elim (λ short. omega (arith, short)) (λ two. not_two two.0) blank;
  first = first;
  here = refl;
  none = refl;
}
