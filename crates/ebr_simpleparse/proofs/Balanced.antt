-- The parentheses of an expression are balanced, and commas stand inside of them alone: the look-ahead passes over it.
use Rattle.std.proofs.Common.{◌≡◌, ℕ, zero, suc, ◌+◌, ◌-◌, ◌<◌, Bool, true, false, List, [], ◌∷◌, ◌++◌, Option, Some, None, refl, sym, ap, subst, ◌∙◌, inl, inr, append_assoc, arith}
use Rattle.std.specs.Prelude.{◌==◌, if◌then◌else◌}
use Rattle.std.proofs.lemmas.Bool.{eqb-true}
use Rattle.ebr_grammar.specs.declared.kind.Kind.{Kind}
use Rattle.ebr_grammar.specs.declared.kind.Kind.TheVariants as k
use Rattle.ebr_lexer.specs.declared.token.Token.{Token}
use Rattle.ebr_grammar.specs.Kinds.{same, kind_of, member, name_kinds, names_but}
use Rattle.ebr_grammar.specs.Forms.{Form}
use Rattle.ebr_grammar.specs.Grammar.{Production, token, word, nothing, both, or, many, made, tested, led, named, outer, SpellsEach, Spells, SpellsWithin}
use Rattle.ebr_grammar.specs.Choice.{apart}
use Rattle.ebr_grammar.proofs.Next.{or_false, same_is, member-apart}
use Rattle.ebr_grammar.proofs.Laws.{which, if_some}
use Rattle.ebr_exprtree.specs.declared.expression.Expr.{Expr}
use Rattle.ebr_exprparse.specs.declared.level.Level.{Level}
use Rattle.ebr_exprparse.specs.declared.level.Level.TheVariants.{Whole, Sum}
use Rattle.ebr_exprparse.specs.Expressions.{grammar, sum_alone, disjunction, more_conjunctions, conjoined_tree, conjunction, more_negations, negated_tree, negation, comparison, comparison_tail, signed, sign, test, membership, null_test, pattern, range, range_end, in_list, closed_list, sum, more_terms, addend, operator, term, more_factors, factor, primary, reference, constant, row_column, row_image, closed, name_tail, trunc_tail, trunc_arguments, trunc_end, trunc_call, divisor, inner, inner_sum, sql_attribute, statement_attribute, attribute, member as member_tail, maybe_arguments, arguments, list, more_items, SpellsExpr}
use Rattle.ebr_grammar.specs.Forms.{sees}
use Rattle.ebr_simpleparse.specs.Looking.{closes}
use Rattle.ebr_simpleparse.proofs.Closing.{at_left, at_right, at_comma}

-- kinds that the look-ahead tells from others
abbrev pub told_kinds : List Kind
told_kinds = k.Range ∷ k.LeftParen ∷ k.RightParen ∷ k.Comma ∷ []

-- how many parentheses are open behind a word
abbrev behind_word : Kind → ℕ → Option ℕ
behind_word kind depth =
    if apart (kind ∷ []) told_kinds then Some depth
    else if same kind k.LeftParen then Some (suc depth)
    else if same kind k.RightParen then elim depth [ zero ↦ None | suc less ↦ Some less ]
    else if same kind k.Comma then elim depth [ zero ↦ None | suc less ↦ Some (suc less) ]
    else None

-- the same, from both
abbrev and_open : Option ℕ → (ℕ → Option ℕ) → Option ℕ
and_open None f = None
and_open (Some n) f = f n

abbrev pub same_end : Option ℕ → Option ℕ → Option ℕ
same_end None b = None
same_end (Some n) None = None
same_end (Some n) (Some m) = if n == m then Some n else None

-- How many parentheses are open behind what the production spells, where so many are open before it. None where it may close
-- one that isn't open there, take `..`, or take a comma outside of all.
abbrev pub ends : {K : Type 0} {V : K → Type 0} {C : Type 0} → Production K V C → ℕ → Option ℕ
ends (token kinds f) n = if apart kinds told_kinds then Some n else None
ends (word kind c) n = behind_word kind n
ends (nothing x) n = Some n
ends (both f g h) n = and_open (ends g n) (ends h)
ends (or g h) n = same_end (ends g n) (ends h n)
ends (many f g) n = same_end (Some n) (ends g n)
ends (made f g) n = ends g n
ends (tested f g) n = ends g n
ends (led kinds g) n = ends g n
ends (named k f) n = Some n
ends (outer o f) n = None

-- ---- steps

some_is : {A : Type 0} (x y : A) → Some x ≡ Some y → x ≡ y
some_is x y e = cc

none_some : (m : ℕ) → ◌≡◌ {A = Option ℕ} None (Some m) → ⊥
none_some m e = absurd cc

if_some_n : (b : Bool) (x y : ℕ) → (if b then Some x else None) ≡ Some y → (b ≡ true) × (x ≡ y)
if_some_n b x y e = if_some b x y e

and_some : (x : Option ℕ) (f : ℕ → Option ℕ) (m : ℕ) → and_open x f ≡ Some m → (j : ℕ) × (x ≡ Some j) × (f j ≡ Some m)
and_some None f m e = absurd cc
and_some (Some j) f m e = (j, refl, e)

same_some : (a b : Option ℕ) (m : ℕ) → same_end a b ≡ Some m → (a ≡ Some m) × (b ≡ Some m)
same_some None b m e = absurd cc
same_some (Some x) None m e = absurd cc
same_some (Some x) (Some y) m e =
    let p = if_some_n (x == y) x m e in
    (ap (λ (z : ℕ). Some z) p.1, ap (λ (z : ℕ). Some z) (sym (eqb-true x y p.0) ∙ p.1))

-- from so many open to so many
abbrev Passes : ℕ → ℕ → List Token → Type 0
Passes n m ts = (base : ℕ) (rest : List Token) → closes (base + n) (ts ++ rest) ≡ closes (base + m) rest

other_step : (depth : ℕ) (t : Token) (rest : List Token) → member (kind_of t) told_kinds ≡ false → closes depth (t ∷ rest) ≡ closes depth rest
other_step depth t rest e =
    let p = or_false (same (kind_of t) k.Range) (member (kind_of t) (k.LeftParen ∷ k.RightParen ∷ k.Comma ∷ [])) e in
    let q = or_false (same (kind_of t) k.LeftParen) (member (kind_of t) (k.RightParen ∷ k.Comma ∷ [])) p.1 in
    let r = or_false (same (kind_of t) k.RightParen) (member (kind_of t) (k.Comma ∷ [])) q.1 in
    rw (p.0, q.0, r.0, r.1) refl

passes_other : (kinds : List Kind) (n : ℕ) (t : Token) → apart kinds told_kinds ≡ true → member (kind_of t) kinds ≡ true → Passes n n (t ∷ [])
passes_other kinds n t clear is base rest = other_step (base + n) t rest (member-apart (kind_of t) kinds told_kinds clear is)

passes_left : (n : ℕ) (t : Token) → member (kind_of t) (k.LeftParen ∷ []) ≡ true → Passes n (suc n) (t ∷ [])
unfolding same sees
passes_left n t is base rest =
    let more : (base + n) + 1 ≡ base + suc n = omega arith in
    at_left (base + n) (t ∷ rest) (member-apart (kind_of t) (k.LeftParen ∷ []) (k.Range ∷ []) refl is) is ∙ ap (λ (d : ℕ). closes d rest) more

passes_right : (n : ℕ) (t : Token) → member (kind_of t) (k.RightParen ∷ []) ≡ true → Passes (suc n) n (t ∷ [])
unfolding same sees
passes_right n t is base rest =
    let less : (base + suc n) - 1 ≡ base + n = omega arith in
    let some : 0 < base + suc n = omega arith in
    at_right (base + suc n) (t ∷ rest) (member-apart (kind_of t) (k.RightParen ∷ []) (k.Range ∷ []) refl is) (member-apart (kind_of t) (k.RightParen ∷ []) (k.LeftParen ∷ []) refl is) is some ∙ ap (λ (d : ℕ). closes d rest) less

passes_comma : (n : ℕ) (t : Token) → member (kind_of t) (k.Comma ∷ []) ≡ true → Passes (suc n) (suc n) (t ∷ [])
unfolding same sees
passes_comma n t is base rest =
    let some : 0 < base + suc n = omega arith in
    at_comma (base + suc n) (t ∷ rest) (member-apart (kind_of t) (k.Comma ∷ []) (k.Range ∷ []) refl is) (member-apart (kind_of t) (k.Comma ∷ []) (k.LeftParen ∷ []) refl is) (member-apart (kind_of t) (k.Comma ∷ []) (k.RightParen ∷ []) refl is) is some

word_is : (kind other : Kind) (t : Token) → same kind other ≡ true → member (kind_of t) (kind ∷ []) ≡ true → member (kind_of t) (other ∷ []) ≡ true
word_is kind other t e is = subst (λ (z : Kind). member (kind_of t) (z ∷ []) ≡ true) (same_is kind other e) is

closing_word : (n m : ℕ) (t : Token) → member (kind_of t) (k.RightParen ∷ []) ≡ true → elim n as (λ _. Option ℕ) [ zero ↦ None | suc less ↦ Some less ] ≡ Some m → Passes n m (t ∷ [])
closing_word zero m t is e = absurd cc
closing_word (suc n) m t is e = subst (λ (z : ℕ). Passes (suc n) z (t ∷ [])) (some_is n m e) (passes_right n t is)

comma_word : (n m : ℕ) (t : Token) → member (kind_of t) (k.Comma ∷ []) ≡ true → elim n as (λ _. Option ℕ) [ zero ↦ None | suc less ↦ Some (suc less) ] ≡ Some m → Passes n m (t ∷ [])
comma_word zero m t is e = absurd cc
comma_word (suc n) m t is e = subst (λ (z : ℕ). Passes (suc n) z (t ∷ [])) (some_is (suc n) m e) (passes_comma n t is)

passes_word : (kind : Kind) (n m : ℕ) (t : Token) → behind_word kind n ≡ Some m → member (kind_of t) (kind ∷ []) ≡ true → Passes n m (t ∷ [])
passes_word kind n m t e is =
    elim (which (apart (kind ∷ []) told_kinds) (Some n) _ (Some m) e) [
      | inl it ↦ subst (λ (z : ℕ). Passes n z (t ∷ [])) (some_is n m it.1) (passes_other (kind ∷ []) n t it.0 is)
      | inr at ↦
          elim (which (same kind k.LeftParen) (Some (suc n)) _ (Some m) at.1) [
            | inl it ↦ subst (λ (z : ℕ). Passes n z (t ∷ [])) (some_is (suc n) m it.1) (passes_left n t (word_is kind k.LeftParen t it.0 is))
            | inr at2 ↦
                elim (which (same kind k.RightParen) _ _ (Some m) at2.1) [
                  | inl it ↦ closing_word n m t (word_is kind k.RightParen t it.0 is) it.1
                  | inr at3 ↦
                      elim (which (same kind k.Comma) _ None (Some m) at3.1) [
                        | inl it ↦ comma_word n m t (word_is kind k.Comma t it.0 is) it.1
                        | inr none ↦ absurd (none_some m none.1)
                      ]
                ]
          ]
    ]

passes_joined : (n j m : ℕ) (ts x y : List Token) → ts ≡ x ++ y → Passes n j x → Passes j m y → Passes n m ts
passes_joined n j m ts x y e p q base rest =
    ap (λ (z : List Token). closes (base + n) (z ++ rest)) e ∙ ap (closes (base + n)) (append_assoc x y rest) ∙ p base (y ++ rest) ∙ q base rest

passes_each : {A : Type 0} (F : Form A) (n : ℕ) → ((ts : List Token) (a : A) → F ts a → Passes n n ts) → (all : List A) (ts : List Token) → SpellsEach F all ts → Passes n n ts
passes_each F n h [] ts s = λ base rest. ap (λ (z : List Token). closes (base + n) (z ++ rest)) s
passes_each F n h (a ∷ all) ts s = passes_joined n n n ts s.0 s.1 s.2 (h s.0 a s.3) (passes_each F n h all s.1 s.4)

module _ {K : Type 0} {V : K → Type 0} (given : (k : K) → Form (V k)) (even : (k : K) (ts : List Token) (a : V k) → given k ts a → (depth : ℕ) (rest : List Token) → closes depth (ts ++ rest) ≡ closes depth rest) where
  passes : {C : Type 0} (g : Production K V C) (n m : ℕ) → ends g n ≡ Some m → (ts : List Token) (c : C) → Spells given g ts c → Passes n m ts
  passes (token kinds f) n m e ts c s =
      let p = if_some_n (apart kinds told_kinds) n m e in
      subst (λ (z : List Token). Passes n m z) (sym s.1) (subst (λ (z : ℕ). Passes n z (s.0 ∷ [])) p.1 (passes_other kinds n s.0 p.0 s.2))
  passes (word kind d) n m e ts c s = subst (λ (z : List Token). Passes n m z) (sym s.1) (passes_word kind n m s.0 e s.2)
  passes (nothing x) n m e ts c s = λ base rest. ap (λ (z : List Token). closes (base + n) (z ++ rest)) s.0 ∙ ap (λ (z : ℕ). closes (base + z) rest) (some_is n m e)
  passes (both f g h) n m e ts c s =
      let p = and_some (ends g n) (ends h) m e in
      passes_joined n p.0 m ts s.0 s.1 s.4 (passes g n p.0 p.1 s.0 s.2 s.5) (passes h p.0 m p.2 s.1 s.3 s.6)
  passes (or g h) n m e ts c (inl s) = passes g n m (same_some (ends g n) (ends h n) m e).0 ts c s
  passes (or g h) n m e ts c (inr s) = passes h n m (same_some (ends g n) (ends h n) m e).1 ts c s
  passes (many f g) n m e ts c s =
      let p = same_some (Some n) (ends g n) m e in
      let is : n ≡ m = some_is n m p.0 in
      subst (λ (z : ℕ). Passes n z ts) is (passes_each (Spells given g) n (passes g n n (p.1 ∙ sym p.0)) s.0 ts s.1)
  passes (made f g) n m e ts c s = passes g n m e ts s.0 s.1
  passes (tested f g) n m e ts c s = passes g n m e ts s.0 s.1
  passes (led kinds g) n m e ts c s = passes g n m e ts c s
  passes (named k f) n m e ts c s = λ base rest. even k ts s.0 s.1 (base + n) rest ∙ ap (λ (z : ℕ). closes (base + z) rest) (some_is n m e)
  passes (outer o f) n m e ts c s = absurd cc

module _ {K : Type 0} {V : K → Type 0} (grammar : (k : K) → Production K V (V k)) (level : (k : K) → ends (grammar k) 0 ≡ Some 0) where
  even_within : (n : ℕ) (k : K) (ts : List Token) (a : V k) → SpellsWithin grammar n k ts a → (depth : ℕ) (rest : List Token) → closes depth (ts ++ rest) ≡ closes depth rest
  even_within zero k ts a s depth rest = absurd s
  even_within (suc n) k ts a s depth rest =
      let none : depth ≡ depth + 0 = omega arith in
      ap (λ (d : ℕ). closes d (ts ++ rest)) none ∙ passes (SpellsWithin grammar n) (even_within n) (grammar k) 0 0 (level k) ts a s depth rest ∙ ap (λ (d : ℕ). closes d rest) (sym none)

is_level : (l : Level) → ends (grammar l) 0 ≡ Some 0
unfolding same name_kinds names_but grammar sum_alone disjunction more_conjunctions conjoined_tree conjunction more_negations negated_tree negation comparison comparison_tail signed sign test membership null_test pattern range range_end in_list closed_list sum more_terms addend operator term more_factors factor primary reference constant row_column row_image closed name_tail trunc_tail trunc_arguments trunc_end trunc_call divisor inner inner_sum sql_attribute statement_attribute attribute member_tail maybe_arguments arguments list more_items
is_level Whole = refl
is_level Sum = refl

-- the look-ahead passes over an expression
pub passes_expression : (ts : List Token) (x : Expr) → SpellsExpr ts x → (depth : ℕ) (rest : List Token) → closes depth (ts ++ rest) ≡ closes depth rest
passes_expression ts x s depth rest = even_within grammar is_level s.1.0 Whole ts (x, s.0) s.1.1 depth rest
