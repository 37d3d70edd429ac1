-- A part of a piece is a part of the file.
use Rattle.std.proofs.Common.{◌≡◌, ℕ, ◌+◌, ◌-◌, ◌≤◌, List, length, take, drop, ◌∙◌, ap, arith}
use Rattle.std.proofs.lemmas.List.{take-take, drop-drop, drop-take}

pub part_of : (bytes items : List ℕ) (from at size : ℕ) → items ≡ take (length items) (drop from bytes) → from ≤ at → at + size ≤ from + length items
    → take size (drop (at - from) items) ≡ take size (drop at bytes)
part_of bytes items from at size is le within =
    let k = at - from in
    let m = length items - k in
    let split : length items ≡ k + m = omega (arith, le, within) in
    let place : from + k ≡ at = omega (arith, le) in
    ap (λ (l : List ℕ). take size (drop k l)) (is ∙ ap (λ (n : ℕ). take n (drop from bytes)) split)
    ∙ ap (λ (l : List ℕ). take size l) (drop-take k m (drop from bytes))
    ∙ take-take size m (drop k (drop from bytes)) (omega (arith, le, within))
    ∙ ap (λ (l : List ℕ). take size l) (drop-drop k from bytes ∙ ap (λ (n : ℕ). drop n bytes) place)
