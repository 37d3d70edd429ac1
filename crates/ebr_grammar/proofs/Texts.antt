-- A text as a whole: what its tokens spell, all of them, is what is read from them where none is left.
use Rattle.std.proofs.Common.{◌≡◌, List, [], length, Option, Some, None, Result, Ok, Err, eqb, sym, ap, subst, ◌∙◌}
use Rattle.std.specs.Prelude.{IfOk, IfSome}
use Rattle.std.proofs.lemmas.List.{append-nil, nil_from_length}
use Rattle.std.proofs.lemmas.Bool.{eqb-true}
use Rattle.ebr_grammar.specs.declared.kind.Kind.{Kind}
use Rattle.ebr_lexer.specs.declared.token.Token.{Token}
use Rattle.ebr_grammar.specs.Forms.{Form, Found, Reader}
use Rattle.ebr_grammar.specs.Reading.{whole}
use Rattle.ebr_grammar.proofs.Next.{sees-nothing}
use Rattle.ebr_grammar.proofs.Right.{IsReader}
use Rattle.ebr_grammar.proofs.Laws.{some_is, if_some}

whole_some : {A : Type 0} (x : Found A) (a : A) → whole x ≡ Some a → x ≡ Some (a, [])
whole_some None a e = absurd cc
whole_some (Some x) a e =
    let p = if_some (eqb (length x.1) 0) x.0 a e in
    let none : x.1 ≡ [] = nil_from_length x.1 (eqb-true _ _ p.0) in
    ap (λ (z : _ × List Token). Some z) (λ i. (p.1 i, none i))

module _ {A : Type 0} {begins goes_on : List Kind} {F : Form A} {r : Reader A} (is : IsReader begins goes_on F r) where
  all_is_read : (ts : List Token) (a : A) → F ts a → r ts ≡ Some (a, [])
  all_is_read ts a s = ap r (sym (append-nil ts)) ∙ is.complete ts [] a s (sees-nothing goes_on)

  -- a text spells one tree
  pub is_one : (ts : List Token) (a b : A) → F ts a → F ts b → a ≡ b
  is_one ts a b p q = ap (λ (z : A × List Token). z.0) (some_is (a, []) (b, []) (sym (all_is_read ts a p) ∙ all_is_read ts b q))

  pub whole_complete : (ts : List Token) (a : A) → F ts a → whole (r ts) ≡ Some a
  whole_complete ts a s = ap whole (all_is_read ts a s)

  pub whole_sound : (ts : List Token) (a : A) → whole (r ts) ≡ Some a → F ts a
  whole_sound ts a e =
      let p = is.sound ts (a, []) (whole_some (r ts) a e) in
      subst (λ (z : List Token). F z a) (sym (p.1 ∙ append-nil p.0)) p.2

  -- what a call found that answers the tree which is read
  pub is_found : {E : Type 0} (ts : List Token) (result : Result (Option A) E) → IfOk result (λ o. o ≡ whole (r ts)) → IfOk result (λ o. IfSome o (F ts))
  is_found ts (Err e) h = tt
  is_found ts (Ok None) h = tt
  is_found ts (Ok (Some a)) h = whole_sound ts a (sym h)

  pub is_only : {E : Type 0} (ts : List Token) (result : Result (Option A) E) → IfOk result (λ o. o ≡ whole (r ts)) → (a : A) → F ts a → IfOk result (λ o. o ≡ Some a)
  is_only ts (Err e) h a s = tt
  is_only ts (Ok o) h a s = h ∙ whole_complete ts a s
