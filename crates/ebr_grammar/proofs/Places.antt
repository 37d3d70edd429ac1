-- What is read from a place on.
use Rattle.std.proofs.Common.{◌≡◌, ℕ, ◌+◌, ◌-◌, ◌≤◌, false, List, ◌++◌, length, take, drop, Option, Some, None, refl, sym, ap, subst, ◌∙◌, arith}
use Rattle.std.specs.Prelude.{slice_range}
use Rattle.std.proofs.lemmas.List.{take_at, take-append-drop, length-append, length-drop, drop-drop}
use Rattle.ebr_grammar.specs.declared.kind.Kind.{Kind}
use Rattle.ebr_lexer.specs.declared.token.Token.{Token}
use Rattle.ebr_grammar.specs.Forms.{Form, Reader, sees}
use Rattle.ebr_grammar.proofs.Right.{IsReader}
use Rattle.ebr_grammar.proofs.Laws.{some_is}

module _ {A : Type 0} (begins goes_on : List Kind) (F : Form A) (r : Reader A) (is : IsReader begins goes_on F r) where
  pub found_at : (ts : List Token) (at : ℕ) (a : A) (rest : List Token) → at ≤ length ts → r (drop at ts) ≡ Some (a, rest)
      → (length rest ≤ length ts) × (at ≤ length ts - length rest) × (length ts - length rest ≤ length ts) × F (slice_range ts at (length ts - length rest)) a
  found_at ts at a rest le e =
      let p = is.sound (drop at ts) (a, rest) e in
      let len : length p.0 + length rest ≡ length ts - at = sym (length-append p.0 rest) ∙ ap length (sym p.1) ∙ length-drop at ts in
      let front : take ((length ts - length rest) - at) (drop at ts) ≡ p.0 =
      ap (take ((length ts - length rest) - at)) p.1 ∙ take_at p.0 rest ((length ts - length rest) - at) (omega (arith, len)) in
      (omega (arith, len), omega (arith, len), omega arith, subst (λ (z : List Token). F z a) (sym front) p.2)

  pub only_at : (ts : List Token) (at end : ℕ) (a : A) → at ≤ end → end ≤ length ts → F (slice_range ts at end) a → sees goes_on (drop end ts) ≡ false → r (drop at ts) ≡ Some (a, drop end ts)
  only_at ts at end a le past s stop =
      let back : drop (end - at) (drop at ts) ≡ drop end ts = drop-drop (end - at) at ts ∙ ap (λ (n : ℕ). drop n ts) (omega arith) in
      let parts : drop at ts ≡ take (end - at) (drop at ts) ++ drop end ts = sym (take-append-drop (end - at) (drop at ts)) ∙ ap (λ (z : List Token). take (end - at) (drop at ts) ++ z) back in
      ap r parts ∙ is.complete (take (end - at) (drop at ts)) (drop end ts) a s stop

  -- so the two agree
  pub agree_at : (ts : List Token) (at end : ℕ) (a b : A) (rest : List Token) → at ≤ end → end ≤ length ts → F (slice_range ts at end) a → sees goes_on (drop end ts) ≡ false → r (drop at ts) ≡ Some (b, rest)
      → ◌≡◌ {A = Option (A × ℕ)} (Some (b, length ts - length rest)) (Some (a, end))
  agree_at ts at end a b rest le past s stop e =
      let same = some_is (b, rest) (a, drop end ts) (sym e ∙ only_at ts at end a le past s stop) in
      let tree-is : b ≡ a = ap (λ (z : A × List Token). z.0) same in
      let rest-is : length rest ≡ length ts - end = ap (λ (z : A × List Token). length z.1) same ∙ length-drop end ts in
      let end-is : length ts - length rest ≡ end = omega (arith, rest-is) in
      rw (tree-is, end-is) refl

  pub none_at : (ts : List Token) (at end : ℕ) (a : A) → at ≤ end → end ≤ length ts → F (slice_range ts at end) a → sees goes_on (drop end ts) ≡ false → r (drop at ts) ≡ None → ⊥
  none_at ts at end a le past s stop e = let both = sym e ∙ only_at ts at end a le past s stop in absurd cc
