-- A part of a pattern is sought by its longest stretch without `_`.
use Rattle.std.proofs.Common.{ℕ, zero, suc, ◌≡◌, ◌≢◌, ◌<◌, ◌≤◌, ◌+◌, ◌-◌, true, false, ◌||◌, ◌==◌, List, [], ◌∷◌, length, take, drop, get_or, sym, ap, inl, inr, ◌∙◌, arith, length-take, length-drop, get_or-take, get_or-drop, Some, None, below_more}
use Rattle.std.specs.Prelude.{slice_index}
use Rattle.std.proofs.lemmas.Bool.{and_parts, or_cases, eqb-true, cases_lt, false_from_ne_true, false≢true}
use Rattle.memchr.specs.Find.{OccursAt, FindsNeedle}
use Rattle.ebr_value.specs.Places.{first_place}
use Rattle.ebr_value.specs.inside.Parts.{fits, IsStretch}
use Rattle.ebr_value.proofs.Places.{place_none}
use Rattle.ebr_value.proofs.Likeness.{fits-length, too-short}

-- where a part fits, a byte of it that isn't `_` stands
fits-reads : (part t : List ℕ) (k : ℕ) → fits part t ≡ true → k < length part → slice_index part k ≢ 95 → slice_index t k ≡ slice_index part k
fits-reads [] t k h l n = absurd (omega (arith, l))
fits-reads (p ∷ ps) [] k h l n = absurd (false≢true h)
fits-reads (p ∷ ps) (b ∷ bs) zero h l n =
    elim (or_cases (p == 95) (p == b) (and_parts (p == 95 || p == b) (fits ps bs) h).0) [
      | inl u ↦ absurd (n (eqb-true p 95 u))
      | inr s ↦ sym (eqb-true p b s)
    ]
fits-reads (p ∷ ps) (b ∷ bs) (suc k) h l n = fits-reads ps bs k (and_parts (p == 95 || p == b) (fits ps bs) h).1 (omega (arith, l)) n

-- where a part fits, a stretch of it stands
stands : (part text : List ℕ) (start end at m : ℕ) → IsStretch part start end → at + m ≤ length text → fits part (drop (at + m) text) ≡ true → OccursAt (drop (at + start) text) (take (end - start) (drop start part)) m
stands part text start end at m s l f =
    let fl : length part ≤ length (drop (at + m) text) = fits-length part (drop (at + m) text) f in
    let size : length (take (end - start) (drop start part)) ≡ end - start = omega (arith, s.ordered, s.within, length-take (end - start) (drop start part), length-drop start part) in
    record {
      fits = omega (arith, l, fl, size, s.ordered, s.within, length-drop (at + m) text, length-drop (at + start) text);
      reads = λ j b.
          let e : at + start + (m + j) ≡ at + m + (start + j) = omega arith in
          get_or-drop (at + start) text (m + j) 0 ∙ ap (λ k. get_or text k 0) e ∙ sym (get_or-drop (at + m) text (start + j) 0)
          ∙ fits-reads part (drop (at + m) text) (start + j) f (omega (arith, b, size, s.ordered, s.within)) (s.plain (start + j) (omega arith) (omega (arith, b, size)))
          ∙ sym (get_or-drop start part j 0) ∙ sym (get_or-take (end - start) (drop start part) j 0 (omega (arith, b, size)));
    }

-- The stretch is sought in what is left of a text, where the part fits at no place before.
module _ (part text hay needle : List ℕ) (start end at : ℕ) (stretch : IsStretch part start end) (left : hay ≡ drop (at + start) text) (sought : needle ≡ take (end - start) (drop start part)) (below : (k : ℕ) → k < at → fits part (drop k text) ≡ false) where
  stands_behind : (k : ℕ) → at ≤ k → k ≤ length text → fits part (drop k text) ≡ true → OccursAt hay needle (k - at)
  stands_behind k a l f =
      let e : k ≡ at + (k - at) = omega arith in
      rw (left, sought) (stands part text start end at (k - at) stretch (omega arith) (rw e at f))

  pub none_found : FindsNeedle hay needle 0 None → first_place (fits part) text ≡ None
  none_found h =
      place_none (fits part) text
      (λ k l. elim (cases_lt k at) [
        | inl less ↦ below k less
        | inr more ↦ false_from_ne_true (fits part (drop k text)) (λ f. let o = stands_behind k more l f in h (k - at) (omega arith) (omega (arith, o.fits)) o)
      ])

  pub passed : (j : ℕ) → FindsNeedle hay needle 0 (Some j) → (k : ℕ) → k < at + j → fits part (drop k text) ≡ false
  passed j h k b =
      elim (cases_lt k at) [
        | inl less ↦ below k less
        | inr more ↦
            false_from_ne_true (fits part (drop k text))
            (λ f. h.0.before (k - at) (omega arith) (omega (arith, b, more)) (stands_behind k more (omega (arith, b, h.1.fits, ap length left, length-drop (at + start) text)) f))
      ]

-- what is left of a text is too short
pub ends_before : (part text : List ℕ) (at : ℕ) → length text < at + length part → ((k : ℕ) → k < at → fits part (drop k text) ≡ false) → first_place (fits part) text ≡ None
ends_before part text at l below =
    place_none (fits part) text
    (λ k w. elim (cases_lt k at) [
      | inl less ↦ below k less
      | inr more ↦ too-short part (drop k text) (omega (arith, l, more, length-drop k text))
    ])

-- What is known at a place of a part: the stretch that ends there, whole, and the longest one up to there.
pub record StretchesTo (part : List ℕ) (at from start end : ℕ) : Type 0 where
  pub here : IsStretch part from at
  pub whole : (a : ℕ) → IsStretch part a at → from ≤ a
  pub stretch : IsStretch part start end
  pub longest : (a b : ℕ) → IsStretch part a b → b ≤ at → b - a ≤ end - start

-- a stretch of nothing
empty : (part : List ℕ) (at : ℕ) → at ≤ length part → IsStretch part at at
empty part at l = record { ordered = omega arith; within = l; plain = λ k a b. absurd (omega (arith, a, b)) }

-- a stretch that ends right behind `_` has nothing
begins_behind : (part : List ℕ) (at a : ℕ) → slice_index part at ≡ 95 → IsStretch part a (at + 1) → at + 1 ≤ a
begins_behind part at a e s =
    elim (cases_lt a (at + 1)) [
      | inl less ↦ absurd (s.plain at (omega (arith, less)) (omega arith) e)
      | inr more ↦ more
    ]

-- a stretch that ends one place later, and one place earlier
longer : (part : List ℕ) (from at : ℕ) → at < length part → slice_index part at ≢ 95 → IsStretch part from at → IsStretch part from (at + 1)
longer part from at l n s =
    record {
      ordered = omega (arith, s.ordered);
      within = omega arith;
      plain = λ k f b. below_more (λ k. from ≤ k → slice_index part k ≢ 95) at (λ k b f. s.plain k f b) (λ f. n) k b f;
    }

begins_before : (part : List ℕ) (from at a : ℕ) → from ≤ at → ((a : ℕ) → IsStretch part a at → from ≤ a) → IsStretch part a (at + 1) → from ≤ a
begins_before part from at a l whole s =
    elim (cases_lt at a) [
      | inl less ↦ omega (arith, less)
      | inr more ↦ whole a (record { ordered = more; within = omega (arith, s.within); plain = λ k f b. s.plain k f (omega (arith, b)) })
    ]

-- no stretch up to the next place is longer
up_to : (part : List ℕ) (at m n : ℕ) → ((a b : ℕ) → IsStretch part a b → b ≤ at → b - a ≤ m) → m ≤ n → ((a : ℕ) → IsStretch part a (at + 1) → at + 1 - a ≤ n) → (a b : ℕ) → IsStretch part a b → b ≤ at + 1 → b - a ≤ n
up_to part at m n before l next a b s w =
    elim (cases_lt at b) [
      | inl later ↦ let e : b ≡ at + 1 = omega (arith, later) in rw e (next a (rw e at s))
      | inr earlier ↦ omega (arith, before a b s earlier)
    ]

pub next_underscore : (part : List ℕ) (at from start end : ℕ) → at < length part → slice_index part at ≡ 95 → StretchesTo part at from start end → StretchesTo part (at + 1) (at + 1) start end
next_underscore part at from start end l e s =
    record {
      here = empty part (at + 1) (omega arith);
      whole = λ a p. begins_behind part at a e p;
      stretch = s.stretch;
      longest = up_to part at (end - start) (end - start) s.longest (omega arith) (λ a p. omega (arith, begins_behind part at a e p));
    }

pub next_longer : (part : List ℕ) (at from start end : ℕ) → at < length part → slice_index part at ≢ 95 → end - start < at + 1 - from → StretchesTo part at from start end → StretchesTo part (at + 1) from from (at + 1)
next_longer part at from start end l n more s =
    let h = longer part from at l n s.here in
    let w = λ (a : ℕ) (p : IsStretch part a (at + 1)). begins_before part from at a s.here.ordered s.whole p in
    record {
      here = h;
      whole = w;
      stretch = h;
      longest = up_to part at (end - start) (at + 1 - from) s.longest (omega arith) (λ a p. omega (arith, w a p));
    }

pub next_other : (part : List ℕ) (at from start end : ℕ) → at < length part → slice_index part at ≢ 95 → at + 1 - from ≤ end - start → StretchesTo part at from start end → StretchesTo part (at + 1) from start end
next_other part at from start end l n more s =
    let w = λ (a : ℕ) (p : IsStretch part a (at + 1)). begins_before part from at a s.here.ordered s.whole p in
    record {
      here = longer part from at l n s.here;
      whole = w;
      stretch = s.stretch;
      longest = up_to part at (end - start) (end - start) s.longest (omega arith) (λ a p. omega (arith, w a p));
    }
