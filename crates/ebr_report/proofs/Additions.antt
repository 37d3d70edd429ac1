-- What a sink holds after one more write.
use Rattle.std.proofs.Common.{ℕ, ◌≡◌, ◌+◌, ◌-◌, ◌≤◌, List, ◌++◌, length, take, drop, Option, Some, None, arith, refl, sym, ◌∙◌, ap, append_assoc, length-drop, length-append}
use Rattle.ebr_outside.specs.Sink.{appended}
use Rattle.std.proofs.Math.Seq.{take-add, take-append_seam, drop-append_seam}
use Rattle.std.proofs.lemmas.List.{drop-drop, take_all, take-append-le}
use Rattle.ebr_report.specs.Lines.{AddsPart}

pub appended-appended : (held : Option (List ℕ)) (xs ys : List ℕ) → appended (appended held xs) ys ≡ appended held (xs ++ ys)
appended-appended None xs ys = refl
appended-appended (Some h) xs ys = ap Some (append_assoc h xs ys)

pub taken_on : (bytes : List ℕ) (from at taken : ℕ) → from ≤ at
    → take (at - from) (drop from bytes) ++ take taken (drop at bytes) ≡ take (at + taken - from) (drop from bytes)
taken_on bytes from at taken onward =
    let e : at + taken - from ≡ (at - from) + taken = omega arith in
    let place : from + (at - from) ≡ at = omega arith in
    sym (ap (λ k. take k (drop from bytes)) e ∙ (take-add (at - from) taken (drop from bytes)
    ∙ ap (λ xs. take (at - from) (drop from bytes) ++ take taken xs) (drop-drop (at - from) from bytes ∙ ap (λ k. drop k bytes) place)))

-- the slice from a place on, as a list
pub rest_of : (bytes : List ℕ) (at : ℕ) → take (length bytes - at) (drop at bytes) ≡ drop at bytes
rest_of bytes at = take_all (length bytes - at) (drop at bytes) (omega (arith, length-drop at bytes))

pub held_on : (bytes : List ℕ) (from at taken : ℕ) (first mid last : Option (List ℕ)) → from ≤ at → mid ≡ appended first (take (at - from) (drop from bytes))
    → last ≡ appended mid (take taken (take (length bytes - at) (drop at bytes))) → last ≡ appended first (take (at + taken - from) (drop from bytes))
held_on bytes from at taken first mid last onward was now =
    now ∙ (ap (λ xs. appended mid (take taken xs)) (rest_of bytes at) ∙ (ap (λ h. appended h (take taken (drop at bytes))) was ∙ (appended-appended first _ _ ∙ ap (appended first) (taken_on bytes from at taken onward))))

-- A part of a text is a part of a longer one.
pub AddsPart-more : (old new : Option (List ℕ)) (text more : List ℕ) → AddsPart old new text → AddsPart old new (text ++ more)
AddsPart-more old new text more part = record {
  count = part.count;
  within = omega (arith, part.within, length-append text more);
  held = part.held ∙ ap (appended old) (sym (take-append-le part.count text more part.within));
}

take-append-more : (text more : List ℕ) (count : ℕ) → take (length text + count) (text ++ more) ≡ text ++ take count more
take-append-more text more count =
    take-add (length text) count (text ++ more)
    ∙ (ap (λ xs. xs ++ take count (drop (length text) (text ++ more))) (take-append_seam text more) ∙ ap (λ ys. text ++ take count ys) (drop-append_seam text more))

-- a part of what comes after a text
pub AddsPart-after : (old mid new : Option (List ℕ)) (text more : List ℕ) → mid ≡ appended old text → AddsPart mid new more → AddsPart old new (text ++ more)
AddsPart-after old mid new text more whole part = record {
  count = length text + part.count;
  within = omega (arith, part.within, length-append text more);
  held = part.held
      ∙ (ap (λ h. appended h (take part.count more)) whole
      ∙ (appended-appended old text (take part.count more) ∙ ap (appended old) (sym (take-append-more text more part.count))));
}

pub appended-twice : (old mid new : Option (List ℕ)) (text more : List ℕ) → mid ≡ appended old text → new ≡ appended mid more → new ≡ appended old (text ++ more)
appended-twice old mid new text more first second = second ∙ (ap (λ h. appended h more) first ∙ appended-appended old text more)
