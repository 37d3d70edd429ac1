-- The look-ahead behind REVERSE is right: it holds where an expression stands there, and fails where REVERSE is a name that an
-- expression begins with and none stands behind it.
use Rattle.std.proofs.Common.{◌≡◌, ℕ, Bool, true, false, Option, List, [], ◌∷◌, ◌++◌, refl, sym, ap, subst, ◌∙◌, inl, inr, append_assoc}
use Rattle.std.specs.Prelude.{not, ◌&&◌, ◌⊎◌}
use Rattle.std.proofs.lemmas.List.{append-nil}
use Rattle.ebr_grammar.specs.declared.kind.Kind.{Kind}
use Rattle.ebr_grammar.specs.declared.kind.Kind.TheVariants as k
use Rattle.ebr_lexer.specs.declared.token.Token.{Token}
use Rattle.ebr_grammar.specs.Kinds.{same, kind_of, member, name_kinds, names_but}
use Rattle.ebr_grammar.specs.Forms.{sees}
use Rattle.ebr_grammar.specs.Grammar.{led, Spells, SpellsEach, SpellsAny}
use Rattle.ebr_grammar.specs.Reading.{nullable, first}
use Rattle.ebr_grammar.specs.Words.{◌▸◌}
use Rattle.ebr_grammar.specs.Choice.{apart, among, is_clear}
use Rattle.ebr_grammar.proofs.Next.{and_true, not_true, not_both, member-apart, member-among, sees-append, sees-apart, sees-among}
use Rattle.ebr_grammar.proofs.Right.{foreign, AreRight}
use Rattle.ebr_grammar.proofs.Laws.{begun, begun_first}
use Rattle.ebr_exprtree.specs.declared.expression.Addend.{Addend}
use Rattle.ebr_exprtree.specs.declared.expression.AdditiveOperator.{AdditiveOperator}
use Rattle.ebr_exprtree.specs.declared.expression.Comparison.{Comparison}
use Rattle.ebr_exprtree.specs.declared.expression.Expr.{Expr}
use Rattle.ebr_exprtree.specs.declared.expression.Expr.TheVariants as e
use Rattle.ebr_exprparse.specs.declared.level.Level.TheVariants.{Whole}
use Rattle.ebr_exprparse.specs.Expressions.{P, Read, signs as comparison_signs, begins, goes_on, grammar, hints, disjunction, more_conjunctions, conjoined_tree, conjunction, more_negations, negated_tree, negation, comparison, comparison_tail, signed, sign, test, membership, null_test, pattern, range, range_end, in_list, closed_list, sum, more_terms, operators, addend, operator, term, more_factors, factor, primary, reference, constant, constants, row_column, row_image, closed, name_tail, trunc_tail, trunc_arguments, trunc_end, trunc_call, divisor, inner, inner_sum, sql_attribute, statement_attribute, attribute, member as member_tail, maybe_arguments, arguments, list, more_items, SpellsExpr}
use Rattle.ebr_exprparse.proofs.Whole.{reads_expressions}
use Rattle.ebr_simpleparse.specs.Looking.{closes, signs, tests, has_one_item, name_ends, begins_bound}
use Rattle.ebr_simpleparse.proofs.Closing.{at_last_right, at_last_comma}
use Rattle.ebr_simpleparse.proofs.Balanced.{passes_expression}
use Rattle.ebr_simpleparse.proofs.Layers.{Has, starts_any, opened, closed_up, joins, Layers, Negated, cut, has_all}

-- ---- the test, by the first token

paren_first : (t : Token) (ts : List Token) → member (kind_of t) (k.LeftParen ∷ []) ≡ true → begins_bound (t ∷ ts) ≡ has_one_item ts
unfolding begins_bound sees
paren_first t ts e = rw e refl

sign_first : (t : Token) (ts : List Token) → member (kind_of t) signs ≡ true → begins_bound (t ∷ ts) ≡ not (sees signs ts)
unfolding same begins_bound sees
sign_first t ts e = rw (member-apart (kind_of t) signs (k.LeftParen ∷ []) refl e, e) refl

not_first : (t : Token) (ts : List Token) → member (kind_of t) (k.Not ∷ []) ≡ true → begins_bound (t ∷ ts) ≡ not (sees tests ts)
unfolding same begins_bound sees
not_first t ts e = rw (member-apart (kind_of t) (k.Not ∷ []) (k.LeftParen ∷ []) refl e, member-apart (kind_of t) (k.Not ∷ []) signs refl e, e) refl

end_first : (ts : List Token) → sees name_ends ts ≡ true → begins_bound ts ≡ false
unfolding same begins_bound sees name_ends
end_first [] e = absurd cc
end_first (t ∷ ts) e = rw (member-apart (kind_of t) name_ends (k.LeftParen ∷ []) refl e, member-apart (kind_of t) name_ends signs refl e, member-apart (kind_of t) name_ends (k.Not ∷ []) refl e, e) refl

-- kinds with which nothing of these begins
abbrev looked_at : List Kind
looked_at = k.LeftParen ∷ k.Plus ∷ k.Minus ∷ k.Not ∷ name_ends

other_first : (kinds : List Kind) (ts : List Token) → apart kinds (k.LeftParen ∷ []) ≡ true → apart kinds signs ≡ true → apart kinds (k.Not ∷ []) ≡ true → apart kinds name_ends ≡ true → sees kinds ts ≡ true → begins_bound ts ≡ true
unfolding begins_bound sees
other_first kinds [] a b c d e = absurd cc
other_first kinds (t ∷ ts) a b c d e = rw (member-apart (kind_of t) kinds (k.LeftParen ∷ []) a e, member-apart (kind_of t) kinds signs b e, member-apart (kind_of t) kinds (k.Not ∷ []) c e, member-apart (kind_of t) kinds name_ends d e) refl

-- ---- how parts begin

front_is : (ts x y : List Token) (t : Token) (kinds : List Kind) → ts ≡ x ++ y → x ≡ t ∷ [] → member (kind_of t) kinds ≡ true → sees kinds ts ≡ true
unfolding sees
front_is ts x y t kinds e is m = rw (e, is) m

begun_by : {C : Type 0} (g : P C) → is_clear hints g ≡ true → AreRight (foreign g) → (ts : List Token) → Has g ts → (sees (first hints g) ts ≡ true) ⊎ ((nullable hints g ≡ true) × (ts ≡ []))
begun_by g clear right ts h = begun hints (SpellsAny grammar) starts_any g clear right ts h.0 h.1

some_by : {C : Type 0} (g : P C) → is_clear hints g ≡ true → AreRight (foreign g) → nullable hints g ≡ false → (ts : List Token) → Has g ts → sees (first hints g) ts ≡ true
some_by g clear right full ts h = begun_first (first hints g) (nullable hints g) ts full (begun_by g clear right ts h)

-- ---- joined layers

module _ (kinds : List Kind) (factors terms tail negations conjunctions rest : List Token) where
  joined_sees : (front : List Token) → sees kinds front ≡ true → sees kinds (joins front factors terms tail negations conjunctions ++ rest) ≡ true
  joined_sees front e =
      let a = sees-append kinds front factors e in
      let b = sees-append kinds (front ++ factors) terms a in
      let c = sees-append kinds ((front ++ factors) ++ terms) tail b in
      let d = sees-append kinds (((front ++ factors) ++ terms) ++ tail) negations c in
      sees-append kinds (joins front factors terms tail negations conjunctions) rest (sees-append kinds ((((front ++ factors) ++ terms) ++ tail) ++ negations) conjunctions d)

module _ (factors terms tail negations conjunctions rest : List Token) where
  joined_more : (x z : List Token) → joins (x ++ z) factors terms tail negations conjunctions ++ rest ≡ x ++ (joins z factors terms tail negations conjunctions ++ rest)
  joined_more [] z = refl
  joined_more (t ∷ x) z = ap (λ (ts : List Token). t ∷ ts) (joined_more x z)

-- ---- one item in parentheses

inner_is : (ts : List Token) → Has inner ts → (x : Expr) × SpellsExpr ts x
unfolding inner
inner_is ts h = (h.1.1.0.0, (h.1.1.0.1, h.1.1.1))

both_true : (a b : Bool) → a ≡ false → b ≡ true → (not a && b) ≡ true
both_true a b p q = rw (p, q) refl

one_item : (ts : List Token) (x : Expr) → SpellsExpr ts x → (t : Token) → member (kind_of t) (k.RightParen ∷ []) ≡ true → (rest : List Token) → has_one_item (ts ++ (t ∷ rest)) ≡ true
unfolding same name_kinds begins has_one_item sees
one_item ts x s t is rest =
    let some : sees (begins Whole) (ts ++ (t ∷ rest)) ≡ true = sees-append (begins Whole) ts (t ∷ rest) (reads_expressions.begun ts x s) in
    let no_end : sees (k.RightParen ∷ []) (ts ++ (t ∷ rest)) ≡ false = sees-apart (k.RightParen ∷ []) (begins Whole) (ts ++ (t ∷ rest)) refl some in
    let closing : closes 0 (ts ++ (t ∷ rest)) ≡ true = passes_expression ts x s 0 (t ∷ rest)
    ∙ at_last_right 0 (t ∷ rest) (member-apart (kind_of t) (k.RightParen ∷ []) (k.Range ∷ []) refl is) (member-apart (kind_of t) (k.RightParen ∷ []) (k.LeftParen ∷ []) refl is) is refl in
    both_true (sees (k.RightParen ∷ []) (ts ++ (t ∷ rest))) (closes 0 (ts ++ (t ∷ rest))) no_end closing

-- ---- where an expression stands, the test holds

not_is : (a : Bool) → a ≡ false → not a ≡ true
not_is a e = rw e refl

constant_begins : (ts : List Token) → Has (led constants constant) ts → sees constants ts ≡ true
unfolding same constant
constant_begins ts h = some_by (led constants constant) refl tt refl ts h

-- with which a primary begins that has no parenthesis in front
abbrev open_begins : List Kind
open_begins = k.NumberLiteral ∷ k.TextLiteral ∷ k.Colon ∷ k.Sql ∷ constants ++ name_kinds

-- a primary begins so, or is an expression in parentheses
abbrev Closed : List Token → Type 0
Closed ts = (t u : Token) × (inside : List Token) × (x : Expr) × (ts ≡ t ∷ (inside ++ u ∷ [])) × (member (kind_of t) (k.LeftParen ∷ []) ≡ true) × SpellsExpr inside x × (member (kind_of u) (k.RightParen ∷ []) ≡ true)

trunc_begins : (ts : List Token) → sees (k.Trunc ∷ []) ts ≡ true → sees open_begins ts ≡ true
unfolding same name_kinds
trunc_begins ts e = sees-among (k.Trunc ∷ []) open_begins ts refl e

name_begins : (ts : List Token) → sees (names_but (k.Trunc ∷ [])) ts ≡ true → sees open_begins ts ≡ true
unfolding same name_kinds names_but
name_begins ts e = sees-among (names_but (k.Trunc ∷ [])) open_begins ts refl e

constants_begin : (ts : List Token) → sees constants ts ≡ true → sees open_begins ts ≡ true
unfolding same name_kinds
constants_begin ts e = sees-among constants open_begins ts refl e

one_begins : (kind : Kind) (ts : List Token) → among (kind ∷ []) open_begins ≡ true → sees (kind ∷ []) ts ≡ true → sees open_begins ts ≡ true
one_begins kind ts a e = sees-among (kind ∷ []) open_begins ts a e

reference_begins : (ts : List Token) (x : Expr) → Spells (SpellsAny grammar) reference ts x → sees open_begins ts ≡ true
unfolding reference
reference_begins ts x (inl s) = trunc_begins ts (front_is ts s.1.0 s.1.1 s.1.5.0 (k.Trunc ∷ []) s.1.4 s.1.5.1 s.1.5.2)
reference_begins ts x (inr s) = name_begins ts (front_is ts s.0 s.1 s.5.0 (names_but (k.Trunc ∷ [])) s.4 s.5.1 s.5.2)

closed_is : (ts x y : List Token) (t : Token) → ts ≡ x ++ y → x ≡ t ∷ [] → member (kind_of t) (k.LeftParen ∷ []) ≡ true → (c : Expr) → Spells (SpellsAny grammar) closed y c → Closed ts
unfolding closed
closed_is ts x y t e is m c s =
    let item = inner_is s.0 (s.2, s.5) in
    (t, s.6.0, s.0, item.0, e ∙ ap (λ (z : List Token). z ++ y) is ∙ ap (λ (z : List Token). t ∷ z) (s.4 ∙ ap (λ (z : List Token). s.0 ++ z) s.6.1), m, item.1, s.6.2)

primary_is : (ts : List Token) (x : Expr) → Spells (SpellsAny grammar) primary ts x → (sees open_begins ts ≡ true) ⊎ Closed ts
unfolding same primary name_kinds
primary_is ts x (inl s) = inl (one_begins k.NumberLiteral ts refl (front_is ts (s.1.0 ∷ []) [] s.1.0 (k.NumberLiteral ∷ []) s.1.1 refl s.1.2))
primary_is ts x (inr (inl s)) = inl (one_begins k.TextLiteral ts refl (front_is ts (s.1.0 ∷ []) [] s.1.0 (k.TextLiteral ∷ []) s.1.1 refl s.1.2))
primary_is ts x (inr (inr (inl s))) = inr (closed_is ts s.0 s.1 s.5.0 s.4 s.5.1 s.5.2 s.3 s.6)
primary_is ts x (inr (inr (inr (inl s)))) = inl (constants_begin ts (constant_begins ts (x, s)))
primary_is ts x (inr (inr (inr (inr (inl s))))) = inl (one_begins k.Colon ts refl (front_is ts s.0 s.1 s.5.0 (k.Colon ∷ []) s.4 s.5.1 s.5.2))
primary_is ts x (inr (inr (inr (inr (inr (inl s)))))) = inl (one_begins k.Sql ts refl (front_is ts s.0 s.1 s.5.0 (k.Sql ∷ []) s.4 s.5.1 s.5.2))
primary_is ts x (inr (inr (inr (inr (inr (inr s)))))) = inl (reference_begins ts x s)

open_first : (ts : List Token) → sees open_begins ts ≡ true → begins_bound ts ≡ true
unfolding same name_kinds name_ends
open_first ts e = other_first open_begins ts refl refl refl refl e

unsigned : (ts : List Token) → sees open_begins ts ≡ true → sees signs ts ≡ false
unfolding same name_kinds
unsigned ts e = sees-apart signs open_begins ts refl e

paren_unsigned : (t : Token) (ts : List Token) → member (kind_of t) (k.LeftParen ∷ []) ≡ true → sees signs (t ∷ ts) ≡ false
unfolding same sees
paren_unsigned t ts e = member-apart (kind_of t) (k.LeftParen ∷ []) signs refl e

sign_of : (kind : Kind) (t : Token) → among (kind ∷ []) signs ≡ true → member (kind_of t) (kind ∷ []) ≡ true → member (kind_of t) signs ≡ true
sign_of kind t a e = member-among (kind_of t) (kind ∷ []) signs a e

module _ (factors terms tail negations conjunctions rest : List Token) where
  abbrev Text : List Token → List Token
  Text front = joins front factors terms tail negations conjunctions ++ rest

  closed_text : (ts : List Token) (c : Closed ts) → Text ts ≡ c.0 ∷ (c.2 ++ (c.1 ∷ Text []))
  closed_text ts c = ap Text c.4 ∙ ap (λ (z : List Token). c.0 ∷ z) (joined_more factors terms tail negations conjunctions rest c.2 (c.1 ∷ []))

  primary_first : (ts : List Token) (x : Expr) → Spells (SpellsAny grammar) primary ts x → (begins_bound (Text ts) ≡ true) × (sees signs (Text ts) ≡ false)
  primary_first ts x s =
      elim (primary_is ts x s) [
        | inl e ↦ let seen = joined_sees open_begins factors terms tail negations conjunctions rest ts e in (open_first (Text ts) seen, unsigned (Text ts) seen)
        | inr c ↦
            let all = closed_text ts c in (
              ap begins_bound all ∙ paren_first c.0 (c.2 ++ (c.1 ∷ Text [])) c.5 ∙ one_item c.2 c.3 c.6 c.1 c.7 (Text []),
              ap (sees signs) all ∙ paren_unsigned c.0 (c.2 ++ (c.1 ∷ Text [])) c.5,
            )
      ]

  signed_first : (kind : Kind) (ts x y : List Token) (t : Token) (c : Expr) → among (kind ∷ []) signs ≡ true → ts ≡ x ++ y → x ≡ t ∷ [] → member (kind_of t) (kind ∷ []) ≡ true → Spells (SpellsAny grammar) primary y c → begins_bound (Text ts) ≡ true
  signed_first kind ts x y t c a e is m s =
      let all : Text ts ≡ t ∷ Text y = ap Text (e ∙ ap (λ (z : List Token). z ++ y) is) in
      ap begins_bound all ∙ sign_first t (Text y) (sign_of kind t a m) ∙ not_is (sees signs (Text y)) (primary_first y c s).1

  factor_first : (ts : List Token) (x : Expr) → Spells (SpellsAny grammar) factor ts x → begins_bound (Text ts) ≡ true
  unfolding same factor
  factor_first ts x (inl s) = signed_first k.Plus ts s.0 s.1 s.5.0 s.6.0 refl s.4 s.5.1 s.5.2 s.6.1
  factor_first ts x (inr (inl s)) = signed_first k.Minus ts s.0 s.1 s.5.0 s.6.0 refl s.4 s.5.1 s.5.2 s.6.1
  factor_first ts x (inr (inr s)) = (primary_first ts x s).0

comparison_unlike : (ts rest : List Token) → Has comparison ts → sees tests (ts ++ rest) ≡ false
unfolding same name_kinds names_but begins goes_on hints comparison comparison_tail signed sign test membership null_test pattern range range_end in_list closed_list sum more_terms addend operator term more_factors factor primary reference constant row_column row_image closed name_tail trunc_tail trunc_arguments trunc_end trunc_call divisor inner inner_sum sql_attribute statement_attribute attribute member_tail maybe_arguments arguments list more_items
comparison_unlike ts rest h =
    sees-apart tests (first hints comparison) (ts ++ rest) refl (sees-append (first hints comparison) ts rest (some_by comparison refl tt refl ts h))

-- behind REVERSE the keyword the test holds
pub begins_where : (ts : List Token) (x : Expr) → SpellsExpr ts x → (rest : List Token) → begins_bound (ts ++ rest) ≡ true
begins_where ts x s rest =
    elim (cut ts (x, s.0) (opened ts (x, s.0) s.1)) [
      | inl n ↦
          ap (λ (z : List Token). begins_bound (z ++ rest)) n.3 ∙ not_first n.0 ((n.1 ++ n.2) ++ rest) n.4
          ∙ not_is (sees tests ((n.1 ++ n.2) ++ rest)) (ap (sees tests) (append_assoc n.1 n.2 rest) ∙ comparison_unlike n.1 (n.2 ++ rest) n.5)
      | inr p ↦
          ap (λ (z : List Token). begins_bound (z ++ rest)) p.all ∙ factor_first p.factors p.terms p.tail p.negations p.conjunctions rest p.front p.has_front.0 p.has_front.1
    ]

-- ---- where REVERSE is a name and the test holds, an expression stands behind it

not_false : (ts : List Token) → begins_bound ts ≡ true → begins_bound ts ≡ false → ⊥
not_false ts p q = not_both (begins_bound ts) p q

-- what is read is none of these
ends_there : (kinds : List Kind) (ts : List Token) → among kinds name_ends ≡ true → sees kinds ts ≡ true → begins_bound ts ≡ true → ⊥
ends_there kinds ts a e holds = not_false ts holds (end_first ts (sees-among kinds name_ends ts a e))

factors_begin : (ts : List Token) → Has more_factors ts → (sees (k.Star ∷ []) ts ≡ true) ⊎ (ts ≡ [])
unfolding same name_kinds names_but begins goes_on hints more_factors factor primary reference constant row_column row_image closed name_tail trunc_tail trunc_arguments trunc_end trunc_call divisor inner inner_sum sql_attribute statement_attribute attribute member_tail maybe_arguments arguments list more_items
factors_begin ts h = elim (begun_by more_factors refl tt ts h) [ inl seen ↦ inl seen | inr none ↦ inr none.1 ]

negations_begin : (ts : List Token) → Has more_negations ts → (sees (k.And ∷ []) ts ≡ true) ⊎ (ts ≡ [])
unfolding same name_kinds names_but begins goes_on hints more_negations negated_tree negation comparison comparison_tail signed sign test membership null_test pattern range range_end in_list closed_list sum more_terms addend operator term more_factors factor primary reference constant row_column row_image closed name_tail trunc_tail trunc_arguments trunc_end trunc_call divisor inner inner_sum sql_attribute statement_attribute attribute member_tail maybe_arguments arguments list more_items
negations_begin ts h = elim (begun_by more_negations refl tt ts h) [ inl seen ↦ inl seen | inr none ↦ inr none.1 ]

conjunctions_begin : (ts : List Token) → Has more_conjunctions ts → (sees (k.Or ∷ []) ts ≡ true) ⊎ (ts ≡ [])
unfolding same name_kinds names_but begins goes_on hints more_conjunctions conjoined_tree conjunction more_negations negated_tree negation comparison comparison_tail signed sign test membership null_test pattern range range_end in_list closed_list sum more_terms addend operator term more_factors factor primary reference constant row_column row_image closed name_tail trunc_tail trunc_arguments trunc_end trunc_call divisor inner inner_sum sql_attribute statement_attribute attribute member_tail maybe_arguments arguments list more_items
conjunctions_begin ts h = elim (begun_by more_conjunctions refl tt ts h) [ inl seen ↦ inl seen | inr none ↦ inr none.1 ]

sign_begins : (ts : List Token) (c : Comparison) → Spells (SpellsAny grammar) sign ts c → sees comparison_signs ts ≡ true
unfolding same sign
sign_begins ts c s = some_by (led comparison_signs sign) refl tt refl ts (c, s)

word_among : (kind : Kind) (kinds : List Kind) (ts x y : List Token) (t : Token) → among (kind ∷ []) kinds ≡ true → ts ≡ x ++ y → x ≡ t ∷ [] → member (kind_of t) (kind ∷ []) ≡ true → sees kinds ts ≡ true
word_among kind kinds ts x y t a e is m = front_is ts x y t kinds e is (member-among (kind_of t) (kind ∷ []) kinds a m)

membership_begins : (negated : Bool) (ts : List Token) (f : Expr → Expr) → Spells (SpellsAny grammar) (membership negated) ts f → sees tests ts ≡ true
unfolding same membership
membership_begins negated ts f (inl s) = word_among k.In tests ts s.0 s.1 s.5.0 refl s.4 s.5.1 s.5.2
membership_begins negated ts f (inr (inl s)) = word_among k.Between tests ts s.0 s.1 s.5.0 refl s.4 s.5.1 s.5.2
membership_begins negated ts f (inr (inr s)) = word_among k.Like tests ts s.0 s.1 s.5.0 refl s.4 s.5.1 s.5.2

item_holds : (ts : List Token) → has_one_item ts ≡ true → (sees (k.RightParen ∷ []) ts ≡ false) × (closes 0 ts ≡ true)
unfolding has_one_item
item_holds ts e =
    let p = and_true (not (sees (k.RightParen ∷ []) ts)) (closes 0 ts) e in
    (not_true (sees (k.RightParen ∷ []) ts) p.0, p.1)

tails : (r t : Token) (xs ys : List Token) → r ∷ xs ≡ t ∷ ys → xs ≡ ys
tails r t xs ys e = cc

-- where nothing stands behind the name, `..` does
module _ (d : Token) (is_range : member (kind_of d) (k.Range ∷ []) ≡ true) where
  nothing_left : begins_bound (d ∷ []) ≡ true → ⊥
  unfolding same name_ends sees
  nothing_left holds = ends_there (k.Range ∷ []) (d ∷ []) refl is_range holds

  three_more : (kinds : List Kind) (x y z : List Token) → sees kinds x ≡ true → sees kinds (((x ++ y) ++ z) ++ d ∷ []) ≡ true
  three_more kinds x y z e = sees-append kinds ((x ++ y) ++ z) (d ∷ []) (sees-append kinds (x ++ y) z (sees-append kinds x y e))

  at_conjunctions : (y : List Token) → Has more_conjunctions y → begins_bound (y ++ d ∷ []) ≡ true → ⊥
  unfolding same name_ends
  at_conjunctions y h holds =
      elim (conjunctions_begin y h) [
        | inl seen ↦ ends_there (k.Or ∷ []) (y ++ d ∷ []) refl (sees-append (k.Or ∷ []) y (d ∷ []) seen) holds
        | inr none ↦ nothing_left (subst (λ (z : List Token). begins_bound (z ++ d ∷ []) ≡ true) none holds)
      ]

  at_negations : (x y : List Token) → Has more_negations x → Has more_conjunctions y → begins_bound ((x ++ y) ++ d ∷ []) ≡ true → ⊥
  unfolding same name_ends
  at_negations x y h more holds =
      elim (negations_begin x h) [
        | inl seen ↦ ends_there (k.And ∷ []) ((x ++ y) ++ d ∷ []) refl (sees-append (k.And ∷ []) (x ++ y) (d ∷ []) (sees-append (k.And ∷ []) x y seen)) holds
        | inr none ↦ at_conjunctions y more (subst (λ (z : List Token). begins_bound ((z ++ y) ++ d ∷ []) ≡ true) none holds)
      ]

  at_test : (x y z : List Token) (f : Expr → Expr) → Spells (SpellsAny grammar) test x f → begins_bound (((x ++ y) ++ z) ++ d ∷ []) ≡ true → ⊥
  unfolding same name_ends test
  at_test x y z f (inl s) holds = ends_there (k.Is ∷ []) (((x ++ y) ++ z) ++ d ∷ []) refl (three_more (k.Is ∷ []) x y z (front_is x s.0 s.1 s.5.0 (k.Is ∷ []) s.4 s.5.1 s.5.2)) holds
  at_test x y z f (inr (inl s)) holds =
      let all : ((x ++ y) ++ z) ++ d ∷ [] ≡ s.5.0 ∷ (((s.1 ++ y) ++ z) ++ d ∷ []) = ap (λ (v : List Token). ((v ++ y) ++ z) ++ d ∷ []) (s.4 ∙ ap (λ (v : List Token). v ++ s.1) s.5.1) in
      let fails : begins_bound (s.5.0 ∷ (((s.1 ++ y) ++ z) ++ d ∷ [])) ≡ false = not_first s.5.0 (((s.1 ++ y) ++ z) ++ d ∷ []) s.5.2 ∙ ap not (three_more tests s.1 y z (membership_begins true s.1 s.3 s.6)) in
      not_false (((x ++ y) ++ z) ++ d ∷ []) holds (ap begins_bound all ∙ fails)
  at_test x y z f (inr (inr s)) holds = ends_there tests (((x ++ y) ++ z) ++ d ∷ []) refl (three_more tests x y z (membership_begins false x f s)) holds

  at_tail : (x y z : List Token) (f : Expr → Read) → Spells (SpellsAny grammar) comparison_tail x f → Has more_negations y → Has more_conjunctions z → begins_bound (((x ++ y) ++ z) ++ d ∷ []) ≡ true → ⊥
  unfolding same name_ends comparison_tail signed
  at_tail x y z f (inl s) more last holds =
      let seen : sees comparison_signs x ≡ true = subst (λ (v : List Token). sees comparison_signs v ≡ true) (sym s.1.4) (sees-append comparison_signs s.1.0 s.1.1 (sign_begins s.1.0 s.1.2 s.1.5)) in
      ends_there comparison_signs (((x ++ y) ++ z) ++ d ∷ []) refl (three_more comparison_signs x y z seen) holds
  at_tail x y z f (inr (inl s)) more last holds = at_test x y z s.0 s.1 holds
  at_tail x y z f (inr (inr s)) more last holds = at_negations y z more last (subst (λ (v : List Token). begins_bound (((v ++ y) ++ z) ++ d ∷ []) ≡ true) s.0 holds)

  -- what is joined behind a sign: the sign begins a factor
  abbrev Behind : List Token → List Token → List Token → List Token → List Token → List Token
  Behind y terms tail negations conjunctions = (((y ++ terms) ++ tail) ++ negations) ++ conjunctions

  five_more : (kinds : List Kind) (y terms tail negations conjunctions : List Token) → sees kinds y ≡ true → sees kinds (Behind y terms tail negations conjunctions ++ d ∷ []) ≡ true
  five_more kinds y terms tail negations conjunctions e =
      three_more kinds ((y ++ terms) ++ tail) negations conjunctions (sees-append kinds (y ++ terms) tail (sees-append kinds y terms e))

  module _ (terms tail negations conjunctions : List Token) (has_terms : Has more_terms terms) (has_tail : Has comparison_tail tail) (has_negations : Has more_negations negations) (has_conjunctions : Has more_conjunctions conjunctions) where
    twice : (x y z : List Token) (t : Token) → x ≡ t ∷ [] → member (kind_of t) signs ≡ true → sees signs y ≡ true → begins_bound (Behind (x ++ (y ++ z)) terms tail negations conjunctions ++ d ∷ []) ≡ true → ⊥
    twice x y z t is m again holds =
        let all : Behind (x ++ (y ++ z)) terms tail negations conjunctions ++ d ∷ [] ≡ t ∷ (Behind (y ++ z) terms tail negations conjunctions ++ d ∷ []) = ap (λ (v : List Token). Behind (v ++ (y ++ z)) terms tail negations conjunctions ++ d ∷ []) is in
        let fails : begins_bound (t ∷ (Behind (y ++ z) terms tail negations conjunctions ++ d ∷ [])) ≡ false =
        sign_first t (Behind (y ++ z) terms tail negations conjunctions ++ d ∷ []) m ∙ ap not (five_more signs (y ++ z) terms tail negations conjunctions (sees-append signs y z again)) in
        not_false (Behind (x ++ (y ++ z)) terms tail negations conjunctions ++ d ∷ []) holds (ap begins_bound all ∙ fails)

    -- a sign and a term, of which the first factor has no sign
    at_signed : (x y z : List Token) (t : Token) → x ≡ t ∷ [] → member (kind_of t) signs ≡ true → ((c : Expr) → Spells (SpellsAny grammar) primary y c → Has factor (x ++ y)) → (c : Expr) → Spells (SpellsAny grammar) factor y c → Has more_factors z
        → begins_bound (Behind (x ++ (y ++ z)) terms tail negations conjunctions ++ d ∷ []) ≡ true → Has disjunction (Behind (x ++ (y ++ z)) terms tail negations conjunctions)
    unfolding same factor
    at_signed x y z t is m make c (inl s) more holds = absurd (twice x y z t is m (word_among k.Plus signs y s.0 s.1 s.5.0 refl s.4 s.5.1 s.5.2) holds)
    at_signed x y z t is m make c (inr (inl s)) more holds = absurd (twice x y z t is m (word_among k.Minus signs y s.0 s.1 s.5.0 refl s.4 s.5.1 s.5.2) holds)
    at_signed x y z t is m make c (inr (inr s)) more holds =
        subst (λ (v : List Token). Has disjunction (Behind v terms tail negations conjunctions)) (append_assoc x y z)
        (has_all (x ++ y) z terms tail negations conjunctions (make c s) more has_terms has_tail has_negations has_conjunctions)

    at_operator : (x y z : List Token) (o : AdditiveOperator) → Spells (SpellsAny grammar) operator x o → (c : Expr) → Spells (SpellsAny grammar) factor y c → Has more_factors z
        → begins_bound (Behind (x ++ (y ++ z)) terms tail negations conjunctions ++ d ∷ []) ≡ true → Has disjunction (Behind (x ++ (y ++ z)) terms tail negations conjunctions)
    unfolding same name_ends operator factor
    at_operator x y z o (inl s) c f more holds =
        at_signed x y z s.0 s.1 (member-among (kind_of s.0) (k.Plus ∷ []) signs refl s.2) (λ a p. (e.Plus a, inl (x, y, tt, e.Plus a, refl, (s.0, s.1, s.2, refl), (a, p, refl), refl))) c f more holds
    at_operator x y z o (inr (inl s)) c f more holds =
        at_signed x y z s.0 s.1 (member-among (kind_of s.0) (k.Minus ∷ []) signs refl s.2) (λ a p. (e.Minus a, inr (inl (x, y, tt, e.Minus a, refl, (s.0, s.1, s.2, refl), (a, p, refl), refl)))) c f more holds
    at_operator x y z o (inr (inr s)) c f more holds =
        let seen : sees (k.Concat ∷ []) x ≡ true = front_is x x [] s.0 (k.Concat ∷ []) (sym (append-nil x)) s.1 s.2 in
        absurd (ends_there (k.Concat ∷ []) (Behind (x ++ (y ++ z)) terms tail negations conjunctions ++ d ∷ []) refl (five_more (k.Concat ∷ []) (x ++ (y ++ z)) terms tail negations conjunctions (sees-append (k.Concat ∷ []) x (y ++ z) seen)) holds)

  module _ (tail negations conjunctions : List Token) (has_tail : Has comparison_tail tail) (has_negations : Has more_negations negations) (has_conjunctions : Has more_conjunctions conjunctions) where
    at_each : (all : List Addend) (ts : List Token) → SpellsEach (Spells (SpellsAny grammar) (led operators addend)) all ts → begins_bound ((((ts ++ tail) ++ negations) ++ conjunctions) ++ d ∷ []) ≡ true
        → Has disjunction (((ts ++ tail) ++ negations) ++ conjunctions)
    unfolding addend term more_terms
    at_each [] ts s holds =
        absurd (at_tail tail negations conjunctions has_tail.0 has_tail.1 has_negations has_conjunctions (subst (λ (v : List Token). begins_bound ((((v ++ tail) ++ negations) ++ conjunctions) ++ d ∷ []) ≡ true) s holds))
    at_each (a ∷ all) ts s holds =
        let parts = s.3 in
        let inside = parts.6 in
        let is : ts ≡ (parts.0 ++ (inside.0 ++ inside.1)) ++ s.1 = s.2 ∙ ap (λ (v : List Token). v ++ s.1) (parts.4 ∙ ap (λ (v : List Token). parts.0 ++ v) inside.4) in
        subst (λ (v : List Token). Has disjunction (((v ++ tail) ++ negations) ++ conjunctions)) (sym is)
        (at_operator s.1 tail negations conjunctions (all, (all, s.4, refl)) has_tail has_negations has_conjunctions parts.0 inside.0 inside.1 parts.2 parts.5 inside.2 inside.5 (inside.3, inside.6)
        (subst (λ (v : List Token). begins_bound ((((v ++ tail) ++ negations) ++ conjunctions) ++ d ∷ []) ≡ true) is holds))

  module _ (factors terms tail negations conjunctions : List Token) (has_factors : Has more_factors factors) (has_terms : Has more_terms terms) (has_tail : Has comparison_tail tail) (has_negations : Has more_negations negations)
      (has_conjunctions : Has more_conjunctions conjunctions) where
    -- the name alone
    at_nothing : begins_bound (joins [] factors terms tail negations conjunctions ++ d ∷ []) ≡ true → Has disjunction (joins [] factors terms tail negations conjunctions)
    unfolding same name_ends more_terms
    at_nothing holds =
        elim (factors_begin factors has_factors) [
          | inl seen ↦ absurd (ends_there (k.Star ∷ []) (joins [] factors terms tail negations conjunctions ++ d ∷ []) refl (five_more (k.Star ∷ []) factors terms tail negations conjunctions seen) holds)
          | inr none ↦
              subst (λ (v : List Token). Has disjunction ((((v ++ terms) ++ tail) ++ negations) ++ conjunctions)) (sym none)
              (at_each tail negations conjunctions has_tail has_negations has_conjunctions has_terms.1.0 terms has_terms.1.1
              (subst (λ (v : List Token). begins_bound (((((v ++ terms) ++ tail) ++ negations) ++ conjunctions) ++ d ∷ []) ≡ true) none holds))
        ]

    at_word : (kind : Kind) (ts x y : List Token) (t : Token) → among (kind ∷ []) name_ends ≡ true → ts ≡ x ++ y → x ≡ t ∷ [] → member (kind_of t) (kind ∷ []) ≡ true → begins_bound (joins ts factors terms tail negations conjunctions ++ d ∷ []) ≡ true → ⊥
    at_word kind ts x y t a e is m holds =
        ends_there (kind ∷ []) (joins ts factors terms tail negations conjunctions ++ d ∷ []) a (joined_sees (kind ∷ []) factors terms tail negations conjunctions (d ∷ []) ts (front_is ts x y t (kind ∷ []) e is m)) holds

    -- the name with arguments: one alone may stand in parentheses by itself
    paren_holds : (ts x y : List Token) (t : Token) → ts ≡ x ++ y → x ≡ t ∷ [] → member (kind_of t) (k.LeftParen ∷ []) ≡ true → begins_bound (joins ts factors terms tail negations conjunctions ++ d ∷ []) ≡ true
        → (sees (k.RightParen ∷ []) (joins y factors terms tail negations conjunctions ++ d ∷ []) ≡ false) × (closes 0 (joins y factors terms tail negations conjunctions ++ d ∷ []) ≡ true)
    paren_holds ts x y t e is m holds =
        let all : joins ts factors terms tail negations conjunctions ++ d ∷ [] ≡ t ∷ (joins y factors terms tail negations conjunctions ++ d ∷ []) = ap (λ (v : List Token). joins v factors terms tail negations conjunctions ++ d ∷ []) (e ∙ ap (λ (v : List Token). v ++ y) is) in
        item_holds (joins y factors terms tail negations conjunctions ++ d ∷ []) (sym (ap begins_bound all ∙ paren_first t (joins y factors terms tail negations conjunctions ++ d ∷ []) m) ∙ holds)

    no_more : (item more last : List Token) (x : Expr) → SpellsExpr item x → (all : List Expr) → SpellsEach (Spells (SpellsAny grammar) (k.Comma ▸ inner)) all more
        → closes 0 (joins ((item ++ more) ++ last) factors terms tail negations conjunctions ++ d ∷ []) ≡ true → more ≡ []
    unfolding same
    no_more item more last x is [] s holds = s
    no_more item more last x is (a ∷ all) s holds =
        let rest : List Token = joins (more ++ last) factors terms tail negations conjunctions ++ d ∷ [] in
        let parts : joins ((item ++ more) ++ last) factors terms tail negations conjunctions ++ d ∷ [] ≡ item ++ rest =
        ap (λ (v : List Token). joins v factors terms tail negations conjunctions ++ d ∷ []) (append_assoc item more last) ∙ joined_more factors terms tail negations conjunctions (d ∷ []) item (more ++ last) in
        let comma : sees (k.Comma ∷ []) more ≡ true =
        subst (λ (v : List Token). sees (k.Comma ∷ []) v ≡ true) (sym s.2) (sees-append (k.Comma ∷ []) s.0 s.1 (front_is s.0 s.3.0 s.3.1 s.3.5.0 (k.Comma ∷ []) s.3.4 s.3.5.1 s.3.5.2)) in
        let seen : sees (k.Comma ∷ []) rest ≡ true = joined_sees (k.Comma ∷ []) factors terms tail negations conjunctions (d ∷ []) (more ++ last) (sees-append (k.Comma ∷ []) more last comma) in
        let fails : closes 0 rest ≡ false =
        at_last_comma 0 rest (sees-apart (k.Range ∷ []) (k.Comma ∷ []) rest refl seen) (sees-apart (k.LeftParen ∷ []) (k.Comma ∷ []) rest refl seen) (sees-apart (k.RightParen ∷ []) (k.Comma ∷ []) rest refl seen) seen refl in
        absurd (not_both (closes 0 (joins ((item ++ more) ++ last) factors terms tail negations conjunctions ++ d ∷ [])) holds (ap (closes 0) parts ∙ passes_expression item x is 0 rest ∙ fails))

    at_items : (ts x inside last : List Token) (t u : Token) → ts ≡ x ++ (inside ++ last) → x ≡ t ∷ [] → member (kind_of t) (k.LeftParen ∷ []) ≡ true → last ≡ u ∷ [] → member (kind_of u) (k.RightParen ∷ []) ≡ true
        → (items : List Expr) → Spells (SpellsAny grammar) list inside items → closes 0 (joins (inside ++ last) factors terms tail negations conjunctions ++ d ∷ []) ≡ true → Has factor ts
    unfolding list more_items closed primary factor
    at_items ts x inside last t u e is m last-is last-m items s holds =
        let item = inner_is s.0 (s.2, s.5) in
        let none : s.1 ≡ [] = no_more s.0 s.1 last item.0 item.1 s.6.0 s.6.1 (subst (λ (v : List Token). closes 0 (joins (v ++ last) factors terms tail negations conjunctions ++ d ∷ []) ≡ true) s.4 holds) in
        let alone : inside ++ last ≡ s.0 ++ last = ap (λ (v : List Token). v ++ last) (s.4 ∙ ap (λ (v : List Token). s.0 ++ v) none ∙ append-nil s.0) in
        (s.2, inr (inr (inr (inr (inl (x, inside ++ last, tt, s.2, e, (t, is, m, refl), (s.0, last, s.2, tt, alone, s.5, (u, last-is, last-m, refl), refl), refl))))))

    at_arguments : (ts x y : List Token) (t : Token) → ts ≡ x ++ y → x ≡ t ∷ [] → member (kind_of t) (k.LeftParen ∷ []) ≡ true → (items : List Expr) → Spells (SpellsAny grammar) arguments y items → begins_bound (joins ts factors terms tail negations conjunctions ++ d ∷ []) ≡ true → Has factor ts
    unfolding arguments
    at_arguments ts x y t e is m items (inl s) holds =
        let seen : sees (k.RightParen ∷ []) y ≡ true = front_is y y [] s.0 (k.RightParen ∷ []) (sym (append-nil y)) s.1 s.2 in
        absurd (not_both (sees (k.RightParen ∷ []) (joins y factors terms tail negations conjunctions ++ d ∷ [])) (joined_sees (k.RightParen ∷ []) factors terms tail negations conjunctions (d ∷ []) y seen) (paren_holds ts x y t e is m holds).0)
    at_arguments ts x y t e is m items (inr s) holds =
        at_items ts x s.0 s.1 t s.6.0 (e ∙ ap (λ (v : List Token). x ++ v) s.4) is m s.6.1 s.6.2 s.2 s.5
        (subst (λ (v : List Token). closes 0 (joins v factors terms tail negations conjunctions ++ d ∷ []) ≡ true) s.4 (paren_holds ts x y t e is m holds).1)

    at_given : (ts : List Token) (found : Option (List Expr)) → Spells (SpellsAny grammar) maybe_arguments ts found → begins_bound (joins ts factors terms tail negations conjunctions ++ d ∷ []) ≡ true → Has disjunction (joins ts factors terms tail negations conjunctions)
    unfolding maybe_arguments
    at_given ts found (inl s) holds =
        has_all ts factors terms tail negations conjunctions (at_arguments ts s.1.0 s.1.1 s.1.5.0 s.1.4 s.1.5.1 s.1.5.2 s.1.3 s.1.6 holds) has_factors has_terms has_tail has_negations has_conjunctions
    at_given ts found (inr s) holds =
        subst (λ (v : List Token). Has disjunction (joins v factors terms tail negations conjunctions)) (sym s.0)
        (at_nothing (subst (λ (v : List Token). begins_bound (joins v factors terms tail negations conjunctions ++ d ∷ []) ≡ true) s.0 holds))

    pub behind_name : (ts : List Token) (f : List ℕ → Expr) → Spells (SpellsAny grammar) name_tail ts f → begins_bound (joins ts factors terms tail negations conjunctions ++ d ∷ []) ≡ true → Has disjunction (joins ts factors terms tail negations conjunctions)
    unfolding same name_ends name_tail
    behind_name ts f (inl s) holds = absurd (at_word k.Dot ts s.0 s.1 s.5.0 refl s.4 s.5.1 s.5.2 holds)
    behind_name ts f (inr (inl s)) holds = absurd (at_word k.Percent ts s.0 s.1 s.5.0 refl s.4 s.5.1 s.5.2 holds)
    behind_name ts f (inr (inr s)) holds = at_given ts s.0 s.1 holds

  -- ---- REVERSE as the name that an expression begins with

  module _ (r : Token) (ts : List Token) (is_reverse : member (kind_of r) (k.Reverse ∷ []) ≡ true) (holds : begins_bound (ts ++ d ∷ []) ≡ true) where
    clash : (kinds : List Kind) → apart kinds (k.Reverse ∷ []) ≡ true → (rest : List Token) → sees kinds (r ∷ rest) ≡ true → ⊥
    unfolding sees
    clash kinds other rest e = not_both (member (kind_of r) (k.Reverse ∷ [])) is_reverse (member-apart (kind_of r) kinds (k.Reverse ∷ []) other e)

    module _ (p : Layers (r ∷ ts)) where
      no_other : (kinds : List Kind) → apart kinds (k.Reverse ∷ []) ≡ true → sees kinds p.front ≡ true → ⊥
      no_other kinds other e =
          clash kinds other (ts ++ d ∷ []) (subst (λ (v : List Token). sees kinds (v ++ d ∷ []) ≡ true) (sym p.all) (joined_sees kinds p.factors p.terms p.tail p.negations p.conjunctions (d ∷ []) p.front e))

      at_name : (x y : List Token) (t : Token) (f : List ℕ → Expr) → p.front ≡ x ++ y → x ≡ t ∷ [] → Spells (SpellsAny grammar) name_tail y f → Has disjunction ts
      at_name x y t f e is s =
          let all : r ∷ ts ≡ t ∷ joins y p.factors p.terms p.tail p.negations p.conjunctions =
          p.all ∙ ap (λ (v : List Token). joins v p.factors p.terms p.tail p.negations p.conjunctions) (e ∙ ap (λ (v : List Token). v ++ y) is) in
          let behind : ts ≡ joins y p.factors p.terms p.tail p.negations p.conjunctions = tails r t ts (joins y p.factors p.terms p.tail p.negations p.conjunctions) all in
          subst (λ (v : List Token). Has disjunction v) (sym behind)
          (behind_name p.factors p.terms p.tail p.negations p.conjunctions p.has_factors p.has_terms p.has_tail p.has_negations p.has_conjunctions y f s
          (subst (λ (v : List Token). begins_bound (v ++ d ∷ []) ≡ true) behind holds))

      at_reference : (x : Expr) → Spells (SpellsAny grammar) reference p.front x → Has disjunction ts
      unfolding same reference
      at_reference x (inl s) = absurd (no_other (k.Trunc ∷ []) refl (front_is p.front s.1.0 s.1.1 s.1.5.0 (k.Trunc ∷ []) s.1.4 s.1.5.1 s.1.5.2))
      at_reference x (inr s) = at_name s.0 s.1 s.5.0 s.3 s.4 s.5.1 s.6

      at_primary : (x : Expr) → Spells (SpellsAny grammar) primary p.front x → Has disjunction ts
      unfolding same primary
      at_primary x (inl s) = absurd (no_other (k.NumberLiteral ∷ []) refl (front_is p.front (s.1.0 ∷ []) [] s.1.0 (k.NumberLiteral ∷ []) s.1.1 refl s.1.2))
      at_primary x (inr (inl s)) = absurd (no_other (k.TextLiteral ∷ []) refl (front_is p.front (s.1.0 ∷ []) [] s.1.0 (k.TextLiteral ∷ []) s.1.1 refl s.1.2))
      at_primary x (inr (inr (inl s))) = absurd (no_other (k.LeftParen ∷ []) refl (front_is p.front s.0 s.1 s.5.0 (k.LeftParen ∷ []) s.4 s.5.1 s.5.2))
      at_primary x (inr (inr (inr (inl s)))) = absurd (no_other constants refl (constant_begins p.front (x, s)))
      at_primary x (inr (inr (inr (inr (inl s))))) = absurd (no_other (k.Colon ∷ []) refl (front_is p.front s.0 s.1 s.5.0 (k.Colon ∷ []) s.4 s.5.1 s.5.2))
      at_primary x (inr (inr (inr (inr (inr (inl s)))))) = absurd (no_other (k.Sql ∷ []) refl (front_is p.front s.0 s.1 s.5.0 (k.Sql ∷ []) s.4 s.5.1 s.5.2))
      at_primary x (inr (inr (inr (inr (inr (inr s)))))) = at_reference x s

      at_factor : (x : Expr) → Spells (SpellsAny grammar) factor p.front x → Has disjunction ts
      unfolding same factor
      at_factor x (inl s) = absurd (no_other (k.Plus ∷ []) refl (front_is p.front s.0 s.1 s.5.0 (k.Plus ∷ []) s.4 s.5.1 s.5.2))
      at_factor x (inr (inl s)) = absurd (no_other (k.Minus ∷ []) refl (front_is p.front s.0 s.1 s.5.0 (k.Minus ∷ []) s.4 s.5.1 s.5.2))
      at_factor x (inr (inr s)) = at_primary x s

    no_not : Negated (r ∷ ts) → ⊥
    unfolding same
    no_not n = clash (k.Not ∷ []) refl ts (front_is (r ∷ ts) (n.0 ∷ []) (n.1 ++ n.2) n.0 (k.Not ∷ []) n.3 refl n.4)

    -- an expression stands behind it
    pub behind_reverse : (x : Expr) → SpellsExpr (r ∷ ts) x → (y : Expr) × SpellsExpr ts y
    behind_reverse x s =
        let found : Has disjunction ts = elim (cut (r ∷ ts) (x, s.0) (opened (r ∷ ts) (x, s.0) s.1)) [ inl n ↦ absurd (no_not n) | inr p ↦ at_factor p p.has_front.0 p.has_front.1 ] in
        (found.0.0, (found.0.1, closed_up ts found.0 found.1))
