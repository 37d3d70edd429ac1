-- Layouts with one record more, and with the mark.
use Rattle.std.proofs.Common.{◌≡◌, ℕ, ◌+◌, ◌≤◌, List, [], ◌∷◌, ◌++◌, length, Option, Some, None, refl, sym, ◌∙◌, ap, subst, arith, append_assoc, append-nil, length-append}
use Rattle.std.specs.Prelude.{Bool, true, false}
use mathlib.Core.Bool.{false≢true}
use Rattle.std.specs.List.{flat_map}
use Rattle.std.proofs.lemmas.List.Concat.{flat_map-append}
use Rattle.std.proofs.lemmas.List.Sums.{sum_by_push}
use Rattle.ebr_record.specs.declared.record.Record.{Record}
use Rattle.ebr_record.specs.Keeper.{max_journal, share, used_by}
use Rattle.ebr_record.specs.declared.record.Record.TheVariants as made
use Rattle.ebr_record.specs.Payload.{HasPayload, IsOfFew, payload}
use Rattle.ebr_encoding.specs.declared.form.Form.{Form}
use Rattle.ebr_encoding.specs.declared.form.Form.TheVariants.{Short, Long}
use Rattle.ebr_encoding.specs.Spelled.{HasForm, changes_of}
use Rattle.ebr_journal.specs.Journal.{body, entry, share_in, mark, mark_body, MayStand, MayAllStand, Layout, long_in, form_of, front, last_gate, records_in, AreSpelled}
use Rattle.ebr_journal.specs.Keeper.{beside}
use Rattle.ebr_journal.specs.Crash.{added_to, added, marked, IsNext, IsPiece}
use Rattle.ebr_journal.specs.Found.{head}
use Rattle.ebr_journal.proofs.Records.{length-entry}

abbrev is_long : Form → Bool
is_long Short = false
is_long Long = true

pub long_is_not_short : Long ≡ Short → ⊥
long_is_not_short e = false≢true (sym (ap is_long e))

few_changes : (r : Record) → IsOfFew r → changes_of r ≤ 200000
few_changes (made.Commit changes) few = few
few_changes (made.Edition name parent) few = omega arith
few_changes (made.EditionGone e) few = omega arith
few_changes (made.Default e) few = omega arith
few_changes (made.Object e enabled text) few = omega arith
few_changes (made.Gone e class name) few = omega arith
few_changes (made.Table name columns key) few = omega arith
few_changes (made.Column t column) few = omega arith
few_changes (made.TableGone t) few = omega arith

-- each record that has a payload may stand behind the mark
pub long_form : (r : Record) → HasPayload r → HasForm Long r
long_form r has = record { short = has.short; few = few_changes r has.few }

pub all_more : (form : Form) (records : List Record) (r : Record) → MayAllStand form records → MayStand form r → MayAllStand form (records ++ r ∷ [])
all_more form [] r all one = (one, tt)
all_more form (x ∷ records) r all one = (all.0, all_more form records r all.1 one)

entries_more : (form : Form) (records : List Record) (r : Record) → flat_map (entry form) (records ++ r ∷ []) ≡ flat_map (entry form) records ++ entry form r
entries_more form records r = flat_map-append (entry form) records (r ∷ []) ∙ ap (λ (l : List ℕ). flat_map (entry form) records ++ l) (append-nil (entry form r))

-- ---- one record more

pub added_front : (short : List Record) (long : Option (List Record)) (r : Record) → front (added_to short long r) ≡ front (record { short = short; long = long }) ++ entry (form_of long) r
added_front short None r =
    ap (λ (l : List ℕ). 1 ∷ l) (
    append-nil (flat_map (entry Short) (short ++ r ∷ [])) ∙ entries_more Short short r
    ∙ ap (λ (l : List ℕ). l ++ entry Short r) (sym (append-nil (flat_map (entry Short) short)))
    )
added_front short (Some long) r =
    let shorts = flat_map (entry Short) short in
    let longs = flat_map (entry Long) long in
    ap (λ (l : List ℕ). 1 ∷ l) (
    ap (λ (l : List ℕ). shorts ++ (mark ++ l)) (entries_more Long long r)
    ∙ ap (λ (l : List ℕ). shorts ++ l) (sym (append_assoc mark longs (entry Long r)))
    ∙ sym (append_assoc shorts (mark ++ longs) (entry Long r))
    )

pub added_spelled : (short : List Record) (long : Option (List Record)) (r : Record) → AreSpelled (record { short = short; long = long }) → MayStand (form_of long) r → AreSpelled (added_to short long r)
added_spelled short None r all one = record { short = all_more Short short r all.short one; long = tt }
added_spelled short (Some long) r all one = record { short = all.short; long = all_more Long long r all.long one }

added_form_to : (short : List Record) (long : Option (List Record)) (r : Record) → form_of (added_to short long r).long ≡ form_of long
added_form_to short None r = refl
added_form_to short (Some long) r = refl

pub added_form : (l : Layout) (r : Record) → form_of (added l r).long ≡ form_of l.long
added_form l r = added_form_to l.short l.long r

added_room : (l : Layout) (r : Record) (form : Form) → form ≡ form_of l.long → length (front l) + share_in form r ≤ last_gate form → length (front (added l r)) ≤ last_gate (form_of (added l r).long)
added_room l r form follows room =
    let grown : length (front (added l r)) ≡ length (front l) + share_in (form_of l.long) r =
    ap length (added_front l.short l.long r) ∙ length-append (front l) (entry (form_of l.long) r) ∙ ap (λ (n : ℕ). length (front l) + n) (length-entry (form_of l.long) r) in
    let fits : length (front l) + share_in (form_of l.long) r ≤ last_gate (form_of l.long) = subst (λ (f : Form). length (front l) + share_in f r ≤ last_gate f) follows room in
    subst (λ (f : Form). length (front (added l r)) ≤ last_gate f) (sym (added_form l r)) (omega (arith, grown, fits))

pub added_next : (l : Layout) (r : Record) (form : Form) (piece : List ℕ) → form ≡ form_of l.long → HasForm form r → IsPiece form piece r → AreSpelled l → length (front l) + share_in form r ≤ last_gate form
    → IsNext l (added l r) piece
added_next l r form piece follows has is_piece all room =
    let may : MayStand (form_of l.long) r = subst (λ (f : Form). MayStand f r) follows (record { spelled = is_piece.spelled; fits = has }) in
    record {
      behind = body form r;
      is = is_piece.is;
      grows = added_front l.short l.long r ∙ ap (λ (f : Form). front l ++ entry f r) (sym follows);
      spelled = added_spelled l.short l.long r all may;
      room = added_room l r form follows room;
    }

added_records_to : (short : List Record) (long : Option (List Record)) (r : Record) → records_in (added_to short long r) ≡ (short ++ long_in long) ++ r ∷ []
added_records_to short None r = append-nil (short ++ r ∷ []) ∙ ap (λ (l : List Record). l ++ r ∷ []) (sym (append-nil short))
added_records_to short (Some long) r = sym (append_assoc short long (r ∷ []))

pub added_records : (l : Layout) (r : Record) → records_in (added l r) ≡ records_in l ++ r ∷ []
added_records l r = added_records_to l.short l.long r

pub used_more : (records : List Record) (r : Record) → used_by (records ++ r ∷ []) ≡ used_by records + share r
used_more records r = omega (arith, sum_by_push share records r)

pub share_head : (form : Form) (r : Record) → share_in form r ≡ head form + length (payload r)
share_head Short r = refl
share_head Long r = refl

pub piece_size : (form : Form) (r : Record) (piece : List ℕ) → IsPiece form piece r → length piece ≡ share_in form r
piece_size form r piece is_piece = omega (arith, ap length is_piece.is, length-append (body form r) (0 ∷ []), length-entry form r)

-- a record that fits leaves room for the mark
pub bounds : (form : Form) (gate used : ℕ) (r : Record) → gate + beside form ≤ used → used + share r ≤ max_journal → (gate + share_in form r ≤ last_gate form) × (gate + share_in form r + beside form ≤ used + share r)
bounds Short gate used r room fits = (omega (arith, room, fits), omega (arith, room))
bounds Long gate used r room fits = (omega (arith, room, fits), omega (arith, room))

-- ---- the mark

pub marked_front : (short : List Record) (long : Option (List Record)) → form_of long ≡ Short → front (record { short = short; long = Some (long_in long) }) ≡ front (record { short = short; long = long }) ++ 1 ∷ mark_body
marked_front short None unmarked = ap (λ (l : List ℕ). 1 ∷ l) (ap (λ (l : List ℕ). l ++ mark) (sym (append-nil (flat_map (entry Short) short))))
marked_front short (Some long) unmarked = absurd (long_is_not_short unmarked)

pub marked_next : (l : Layout) → form_of l.long ≡ Short → AreSpelled l → length (front l) ≤ last_gate (form_of l.long) → IsNext l (marked l) (mark_body ++ 0 ∷ [])
marked_next l unmarked all room =
    let grown : length (front (marked l)) ≡ length (front l) + 7 = ap length (marked_front l.short l.long unmarked) ∙ length-append (front l) mark in
    let fits : length (front l) ≤ last_gate Short = subst (λ (f : Form). length (front l) ≤ last_gate f) unmarked room in
    record {
      behind = mark_body;
      is = refl;
      grows = marked_front l.short l.long unmarked;
      spelled = record { short = all.short; long = all.long };
      room = omega (arith, grown, fits);
    }
