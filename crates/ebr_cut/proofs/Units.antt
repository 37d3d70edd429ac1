-- Where unit pieces end: what `unit_length` finds, and that it finds each.
use Rattle.std.proofs.Common.{ℕ, suc, ◌≡◌, Bool, true, false, ◌&&◌, ◌||◌, not, cond, List, [], ◌∷◌, ◌++◌, length, drop, refl, ap, ◌∙◌, sym, arith, subst, append-nil, inl, inr, ◌⊎◌}
use Rattle.std.proofs.lemmas.Bool.{and_parts, and_from, or_from, or_parts, eqb-true, false≢true, cond-true, cond-false, cond_both}
use Rattle.std.proofs.lemmas.List.{length-append}
use Rattle.ebr_base.specs.Word.{is_white}
use Rattle.ebr_lexer.specs.Lexis.{is_slash, first_is}
use Rattle.ebr_cut.specs.Lines.{is_line_end, rest_is_white, is_slash_line, has_slash_line}
use Rattle.ebr_cut.specs.Sections.{BeforeSlashLine, EndsAsUnit}
use Rattle.ebr_cut.specs.Reading.{unit_length}

-- What follows a line's end doesn't count for the line.
white_cut : (before more : List ℕ) → rest_is_white ((before ++ 10 ∷ []) ++ more) ≡ rest_is_white (before ++ 10 ∷ [])
white_cut [] more = refl
white_cut (b ∷ bs) more = ap (λ k. is_line_end b || is_white b && k) (white_cut bs more)

line_cut : (before more : List ℕ) → is_slash_line ((before ++ 10 ∷ []) ++ more) ≡ is_slash_line (before ++ 10 ∷ [])
line_cut [] more = refl
line_cut (b ∷ bs) more =
    ap (λ k. cond (is_slash b) k (not (is_line_end b) && is_white b && is_slash_line ((bs ++ 10 ∷ []) ++ more))) (white_cut bs more)
    ∙ ap (λ k. cond (is_slash b) (rest_is_white (bs ++ 10 ∷ [])) (not (is_line_end b) && is_white b && k)) (line_cut bs more)

-- how the text may end: at the script's end, or before a line with `/`, which may be its own first one
abbrev pub UnitEnd : Bool → List ℕ → List ℕ → Type 0
UnitEnd begins text more = (more ≡ []) ⊎ (((text ≡ []) × (begins ≡ true) × (is_slash_line more ≡ true)) ⊎ BeforeSlashLine text more)

same_line : (begins : Bool) (b : ℕ) (text more : List ℕ) → UnitEnd begins (b ∷ text) more → is_slash_line (b ∷ text ++ more) ≡ is_slash_line (b ∷ text)
same_line begins b text more (inl e) = ap (λ (k : List ℕ). is_slash_line (b ∷ text ++ k)) e ∙ ap (λ (k : List ℕ). is_slash_line (b ∷ k)) (append-nil text)
same_line begins b text more (inr (inl e)) = let z = ap length e.0 in absurd (omega (arith, z))
same_line begins b text more (inr (inr e)) =
    subst (λ (k : List ℕ). is_slash_line (k ++ more) ≡ is_slash_line k) (sym e.spelled) (line_cut e.before more)

-- what is found
pub record Found (n : ℕ) (begins : Bool) (bytes : List ℕ) : Type 0 where
  pub text : List ℕ
  pub more : List ℕ
  pub split : bytes ≡ text ++ more
  pub long : n ≡ length text
  pub none : has_slash_line text ≡ false
  pub first : begins ≡ true → is_slash_line text ≡ false
  pub ends : UnitEnd begins text more

end_more : (begins : Bool) (b : ℕ) (text more : List ℕ) → UnitEnd (is_line_end b) text more → UnitEnd begins (b ∷ text) more
end_more begins b text more (inl e) = inl e
end_more begins b text more (inr (inl e)) =
    inr (inr (record { before = []; spelled = ap (λ k. b ∷ k) e.0 ∙ ap (λ k. k ∷ []) (eqb-true b 10 e.1); slash = e.2 }))
end_more begins b text more (inr (inr e)) = inr (inr (record { before = b ∷ e.before; spelled = ap (λ k. b ∷ k) e.spelled; slash = e.slash }))

unless : (x y : Bool) → (x ≡ true → y ≡ false) → (x && y) ≡ false
unless true y f = f refl
unless false y f = refl

one_more : (begins : Bool) (b : ℕ) (bs : List ℕ) → (begins && is_slash_line (b ∷ bs)) ≡ false → Found (unit_length (is_line_end b) bs) (is_line_end b) bs
    → Found (suc (unit_length (is_line_end b) bs)) begins (b ∷ bs)
one_more begins b bs e u =
    let ends = end_more begins b u.text u.more u.ends in
    let long = u.long in
    record {
      text = b ∷ u.text;
      more = u.more;
      split = ap (λ k. b ∷ k) u.split;
      long = omega (arith, long);
      none = or_from _ _ (unless (is_line_end b) (is_slash_line u.text) u.first) u.none;
      first = λ t. sym (same_line begins b u.text u.more ends) ∙ ap (λ (k : List ℕ). is_slash_line (b ∷ k)) (sym u.split) ∙ sym (ap (λ k. k && is_slash_line (b ∷ bs)) t) ∙ e;
      ends = ends;
    }

pub unit_sound : (bs : List ℕ) (begins : Bool) → Found (unit_length begins bs) begins bs
unit_sound [] begins = record { text = []; more = []; split = refl; long = refl; none = refl; first = λ t. refl; ends = inl refl }
unit_sound (b ∷ bs) begins =
    cond_both (begins && is_slash_line (b ∷ bs)) _ _ (λ n. Found n begins (b ∷ bs))
    (λ e. let p = and_parts _ _ e in record { text = []; more = b ∷ bs; split = refl; long = refl; none = refl; first = λ t. refl; ends = inr (inl (refl, p.0, p.1)) })
    (λ e. one_more begins b bs e (unit_sound bs (is_line_end b)))

end_by : (before : List ℕ) (b : ℕ) (text more : List ℕ) → b ∷ text ≡ before ++ 10 ∷ [] → is_slash_line more ≡ true → UnitEnd (is_line_end b) text more
end_by [] b text more e s = inr (inl (ap (drop 1) e, ap (first_is is_line_end) e, s))
end_by (x ∷ xs) b text more e s = inr (inr (record { before = xs; spelled = ap (drop 1) e; slash = s }))

end_less : (begins : Bool) (b : ℕ) (text more : List ℕ) → UnitEnd begins (b ∷ text) more → UnitEnd (is_line_end b) text more
end_less begins b text more (inl e) = inl e
end_less begins b text more (inr (inl e)) = let z = ap length e.0 in absurd (omega (arith, z))
end_less begins b text more (inr (inr e)) = end_by e.before b text more e.spelled e.slash

at_once : (begins : Bool) (more : List ℕ) → begins ≡ true → is_slash_line more ≡ true → unit_length begins more ≡ 0
at_once begins [] t s = refl
at_once begins (b ∷ bs) t s = cond-true (begins && is_slash_line (b ∷ bs)) _ _ (and_from _ _ t s)

none_only : (begins : Bool) (more : List ℕ) → UnitEnd begins [] more → unit_length begins more ≡ 0
none_only begins more (inl e) = ap (unit_length begins) e
none_only begins more (inr (inl e)) = at_once begins more e.1 e.2
none_only begins more (inr (inr e)) = let z = ap length e.spelled in let l = length-append e.before (10 ∷ []) in absurd (omega (arith, z, l))

when : (x y : Bool) → (x && y) ≡ false → x ≡ true → y ≡ false
when true y h e = h
when false y h e = absurd (false≢true e)

pub unit_only : (text : List ℕ) (begins : Bool) (more : List ℕ) → has_slash_line text ≡ false → (begins ≡ true → is_slash_line text ≡ false) → UnitEnd begins text more
    → unit_length begins (text ++ more) ≡ length text
unit_only [] begins more h f u = none_only begins more u
unit_only (b ∷ bs) begins more h f u =
    let p = or_parts _ _ h in
    let test : (begins && is_slash_line (b ∷ bs ++ more)) ≡ false = unless begins _ (λ t. same_line begins b bs more u ∙ f t) in
    let rest = unit_only bs (is_line_end b) more p.1 (when (is_line_end b) (is_slash_line bs) p.0) (end_less begins b bs more u) in
    cond-false (begins && is_slash_line (b ∷ bs ++ more)) _ _ test ∙ ap suc rest

abbrev never : {A : Type 0} → false ≡ true → A
never e = absurd (false≢true e)

unit_end : (text more : List ℕ) → UnitEnd false text more → BeforeSlashLine text more ⊎ (more ≡ [])
unit_end text more (inl e) = inr e
unit_end text more (inr (inl e)) = never e.1
unit_end text more (inr (inr e)) = inl e

pub end_unit : (text more : List ℕ) → BeforeSlashLine text more ⊎ (more ≡ []) → UnitEnd false text more
end_unit text more (inl e) = inr (inr e)
end_unit text more (inr e) = inl e

-- what is found is where a unit piece ends
pub unit_ends : (bytes : List ℕ) (u : Found (unit_length false bytes) false bytes) → EndsAsUnit u.text [] u.more
unit_ends bytes u = record { whole = refl; none = u.none; ends = unit_end u.text u.more u.ends }

-- where a unit piece ends is found
pub unit_is : (text closing more : List ℕ) → EndsAsUnit text closing more → unit_length false (text ++ more) ≡ length text
unit_is text closing more h = unit_only text false more h.none never (end_unit text more h.ends)
