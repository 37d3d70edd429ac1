-- Where the tokens of a text begin and end.
use Rattle.std.proofs.Common.{ℕ, suc, ◌≡◌, ◌<◌, ◌-◌, List, [], ◌∷◌, length, get_or, refl, ap, arith, slice_range, take, ◌∙◌, sym}
use Rattle.ebr_lexer.specs.declared.token.Token.{Token}
use Rattle.ebr_cut.specs.Scans.{end_of, stored, StandsInFront}

-- the end of the last token, if there is one
pub end_of-last : (ts : List Token) (at : ℕ) (d : Token) → 0 < length ts → end_of at ts ≡ (get_or ts (length ts - 1) d).to
end_of-last [] at d l = absurd (omega (arith, l))
end_of-last (t ∷ []) at d l = refl
end_of-last (t ∷ u ∷ ts) at d l =
    let one : length (t ∷ u ∷ ts) - 1 ≡ suc (length (u ∷ ts) - 1) = omega arith in
    rw one (end_of-last (u ∷ ts) t.to d (omega arith))

-- the stored text stands before the end of the last token
pub stored_front : (text : List ℕ) (ts : List Token) → StandsInFront ts → take (end_of 0 ts) text ≡ stored text ts
stored_front text [] f = refl
stored_front text (t ∷ ts) f =
    let e = end_of t.to ts in
    let whole : e ≡ e - 0 = omega arith in
    ap (λ k. take k text) whole ∙ sym (ap (λ k. slice_range text k e) f)
