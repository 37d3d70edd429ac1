-- The name of an aggregate with one expression in parentheses spells that aggregate.
use Rattle.std.proofs.Common.{◌≡◌, ℕ, suc, Bool, true, false, List, [], ◌∷◌, ◌++◌, Some, None, refl, sym, ap, ◌∙◌, inl, inr}
use Rattle.std.specs.Prelude.{◌&&◌, ◌⊎◌, if◌then◌else◌}
use Rattle.std.proofs.lemmas.List.{append-nil}
use Rattle.ebr_lexer.specs.declared.token.Token.{Token}
use Rattle.ebr_grammar.specs.declared.kind.Kind.TheVariants as k
use Rattle.ebr_grammar.specs.Kinds.{same, kind_of, member, name_kinds, names_but}
use Rattle.ebr_grammar.specs.Forms.{Form, sees}
use Rattle.ebr_grammar.specs.Grammar.{both, led, Spells, SpellsWithin}
use Rattle.ebr_grammar.specs.Choice.{apart, among}
use Rattle.ebr_grammar.specs.Outcome.{named_by}
use Rattle.ebr_grammar.specs.Words.{◌▸◌, all}
use Rattle.ebr_grammar.proofs.Next.{member-among, sees-append, sees-apart}
use Rattle.ebr_exprtree.specs.declared.expression.Expr.{Expr}
use Rattle.ebr_exprtree.specs.declared.expression.Expr.TheVariants as e
use Rattle.ebr_exprtree.specs.declared.expression.Expr.TheOpen as form
use Rattle.ebr_exprtree.specs.declared.expression.Expr.TheViews.{out-roll-Expr}
use Rattle.ebr_exprtree.specs.declared.expression.Expr as rolled
use denote.Hole.Carrier as carrier
use Rattle.ebr_ast.specs.declared.query.ItemKind.TheVariants as item
use Rattle.ebr_exprparse.specs.declared.level.Level.{Level}
use Rattle.ebr_exprparse.specs.declared.level.Level.TheVariants.{Whole}
use Rattle.ebr_exprparse.specs.Expressions as expressions
use Rattle.ebr_exprparse.specs.Expressions.{P, Read, path, SpellsExpr, grammar, begins}
use Rattle.ebr_exprparse.proofs.Whole.{reads_expressions}
use Rattle.ebr_sqlparse.specs.declared.items.Function.{Function}
use Rattle.ebr_sqlparse.specs.declared.items.Function.TheVariants as function
use Rattle.ebr_sqlparse.specs.Items.{aggregate_of, counts_rows, function_ahead, item_of, item_of_call, judged, only_argument, SpellsWhat}

-- ---- the call, from the innermost production outwards; `given` is what the levels spell

module _ (given : Level → Form Read) (t p q : Token) (n : List ℕ) (es : List Token) (x : Expr) (is_sum : Bool)
    (plain : member (kind_of t) (names_but (k.Trunc ∷ [])) ≡ true) (named : named_by t ≡ Some n) (opens : member (kind_of p) (k.LeftParen ∷ []) ≡ true) (closes : member (kind_of q) (k.RightParen ∷ []) ≡ true)
    (inside : given Whole es (x, is_sum)) where
  abbrev By : {C : Type 0} → P C → Form C
  By g = Spells given g

  abbrev text : List Token
  text = t ∷ p ∷ es ++ q ∷ []

  abbrev tree : Expr
  tree = e.Call (path n None) (x ∷ [])

  -- the first operand of a level, with no other
  alone : {A B C : Type 0} (f : A → List B → C) (g : P A) (h : P B) (ts : List Token) (a : A) → By g ts a → By (both f g (all h)) ts (f a [])
  alone f g h ts a s = (ts, [], a, [], sym (append-nil ts), s, ([], refl, refl), refl)

  list_is : By expressions.list es (x ∷ [])
  unfolding expressions.list expressions.more_items expressions.inner
  list_is = (es, [], x, (λ first. first ∷ []), sym (append-nil es), ((x, is_sum), ((x, is_sum), inside, refl), refl), ([], refl, refl), refl)

  arguments_are : By expressions.arguments (es ++ q ∷ []) (x ∷ [])
  unfolding expressions.arguments
  arguments_are = inr (es, q ∷ [], x ∷ [], tt, refl, list_is, (q, refl, closes, refl), refl)

  given_are : By expressions.maybe_arguments (p ∷ es ++ q ∷ []) (Some (x ∷ []))
  unfolding expressions.maybe_arguments
  given_are = inl (x ∷ [], (p ∷ [], es ++ q ∷ [], tt, x ∷ [], refl, (p, refl, opens, refl), arguments_are, refl), refl)

  tail_is : By expressions.name_tail (p ∷ es ++ q ∷ []) (λ first. e.Call (path first None) (x ∷ []))
  unfolding expressions.name_tail
  tail_is = inr (inr (Some (x ∷ []), given_are, refl))

  reference_is : By expressions.reference text tree
  unfolding expressions.reference
  reference_is = inr (t ∷ [], p ∷ es ++ q ∷ [], n, (λ first. e.Call (path first None) (x ∷ [])), refl, (t, refl, plain, named), tail_is, refl)

  primary_is : By expressions.primary text tree
  unfolding expressions.primary
  primary_is = inr (inr (inr (inr (inr (inr reference_is)))))

  factor_is : By expressions.factor text tree
  unfolding expressions.factor
  factor_is = inr (inr primary_is)

  term_is : By expressions.term text tree
  unfolding expressions.term expressions.more_factors
  term_is = alone (expressions.joined e.Product) expressions.factor (k.Star ▸ expressions.factor) text tree factor_is

  sum_is : By expressions.sum text tree
  unfolding expressions.sum expressions.more_terms
  sum_is = alone expressions.summed expressions.term (led expressions.operators expressions.addend) text tree term_is

  comparison_is : By expressions.comparison text (tree, true)
  unfolding expressions.comparison expressions.comparison_tail
  comparison_is = (text, [], tree, (λ a. (a, true)), sym (append-nil text), sum_is, inr (inr (refl, refl)), refl)

  conjunction_is : By expressions.conjunction text (tree, true)
  unfolding expressions.conjunction expressions.more_negations expressions.negation
  conjunction_is = alone (expressions.combined e.And) expressions.negation (k.And ▸ expressions.negated_tree) text (tree, true) (inr comparison_is)

  disjunction_is : By expressions.disjunction text (tree, true)
  unfolding expressions.disjunction expressions.more_conjunctions
  disjunction_is = alone (expressions.combined e.Or) expressions.conjunction (k.Or ▸ expressions.conjoined_tree) text (tree, true) conjunction_is

-- ---- the aggregate

-- some function is ahead, so one of the four tests holds
one_holds : (a b c d : Bool) (f : Function) → (if a then Some function.Count else if b then Some function.Sum else if c then Some function.Min else if d then Some function.Max else None) ≡ Some f
    → (a ≡ true) ⊎ ((b ≡ true) ⊎ ((c ≡ true) ⊎ (d ≡ true)))
one_holds true b c d f is = inl refl
one_holds false true c d f is = inr (inl refl)
one_holds false false true d f is = inr (inr (inl refl))
one_holds false false false true f is = inr (inr (inr refl))
one_holds false false false false f is = absurd cc

count_is_plain : among (k.Count ∷ []) (names_but (k.Trunc ∷ [])) ≡ true
unfolding same name_kinds names_but
count_is_plain = refl

sum_is_plain : among (k.Sum ∷ []) (names_but (k.Trunc ∷ [])) ≡ true
unfolding same name_kinds names_but
sum_is_plain = refl

min_is_plain : among (k.Min ∷ []) (names_but (k.Trunc ∷ [])) ≡ true
unfolding same name_kinds names_but
min_is_plain = refl

max_is_plain : among (k.Max ∷ []) (names_but (k.Trunc ∷ [])) ≡ true
unfolding same name_kinds names_but
max_is_plain = refl

plain_ahead : (t : Token) (f : Function) → function_ahead (t ∷ []) ≡ Some f → member (kind_of t) (names_but (k.Trunc ∷ [])) ≡ true
unfolding function_ahead sees
plain_ahead t f is =
    elim (one_holds (member (kind_of t) (k.Count ∷ [])) (member (kind_of t) (k.Sum ∷ [])) (member (kind_of t) (k.Min ∷ [])) (member (kind_of t) (k.Max ∷ [])) f is) [
      | inl it ↦ member-among (kind_of t) (k.Count ∷ []) (names_but (k.Trunc ∷ [])) count_is_plain it
      | inr more ↦ elim more [
        | inl it ↦ member-among (kind_of t) (k.Sum ∷ []) (names_but (k.Trunc ∷ [])) sum_is_plain it
        | inr more ↦ elim more [
          | inl it ↦ member-among (kind_of t) (k.Min ∷ []) (names_but (k.Trunc ∷ [])) min_is_plain it
          | inr it ↦ member-among (kind_of t) (k.Max ∷ []) (names_but (k.Trunc ∷ [])) max_is_plain it
        ]
      ]
    ]

ahead_is : (t : Token) (ts : List Token) → function_ahead (t ∷ ts) ≡ function_ahead (t ∷ [])
unfolding function_ahead sees
ahead_is t ts = refl

third_false : (a b c : Bool) → c ≡ false → (a && (b && c)) ≡ false
third_false true true c is = is
third_false true false c is = refl
third_false false b c is = refl

no_star : apart (k.Star ∷ []) (begins Whole) ≡ true
unfolding same begins name_kinds
no_star = refl

counts_no_rows : (t p q : Token) (es : List Token) (x : Expr) → SpellsExpr es x → counts_rows (t ∷ p ∷ es ++ q ∷ []) ≡ false
unfolding counts_rows
counts_no_rows t p q es x s =
    let begun = sees-append (begins Whole) es (q ∷ []) (reads_expressions.begun es x s) in
    third_false (sees (k.Count ∷ []) (t ∷ p ∷ es ++ q ∷ [])) (sees (k.LeftParen ∷ []) (p ∷ es ++ q ∷ [])) (sees (k.Star ∷ []) (es ++ q ∷ []))
    (sees-apart (k.Star ∷ []) (begins Whole) (es ++ q ∷ []) no_star begun)

call_is : (t p q : Token) (n : List ℕ) (es : List Token) (x : Expr) → member (kind_of t) (names_but (k.Trunc ∷ [])) ≡ true → named_by t ≡ Some n → member (kind_of p) (k.LeftParen ∷ []) ≡ true
    → member (kind_of q) (k.RightParen ∷ []) ≡ true → SpellsExpr es x → SpellsExpr (t ∷ p ∷ es ++ q ∷ []) (e.Call (path n None) (x ∷ []))
unfolding grammar
call_is t p q n es x plain named opens closes s = (true, (suc s.1.0, disjunction_is (SpellsWithin grammar s.1.0) t p q n es x s.0 plain named opens closes s.1.1))

aggregate_is : (f : Function) (n : List ℕ) (x : Expr) → item_of_call f (e.Call (path n None) (x ∷ [])) ≡ item.Aggregate (aggregate_of f x)
unfolding item_of_call rolled.roll-Expr carrier.roll
aggregate_is f n x = ap (λ y. judged f (e.Call (path n None) (x ∷ [])) (only_argument y)) (out-roll-Expr (form.Call (path n None) (x ∷ [])))

pub aggregates : (t p q : Token) (n : List ℕ) (es : List Token) (f : Function) (x : Expr) → function_ahead (t ∷ []) ≡ Some f → named_by t ≡ Some n → member (kind_of p) (k.LeftParen ∷ []) ≡ true
    → member (kind_of q) (k.RightParen ∷ []) ≡ true → SpellsExpr es x → SpellsWhat (t ∷ p ∷ es ++ q ∷ []) (item.Aggregate (aggregate_of f x))
aggregates t p q n es f x ahead named opens closes s =
    let tree = e.Call (path n None) (x ∷ []) in
    let is = ap (λ g. item_of g tree) (ahead_is t (p ∷ es ++ q ∷ []) ∙ ahead) ∙ aggregate_is f n x in
    inr (tree, counts_no_rows t p q es x s, call_is t p q n es x (plain_ahead t f ahead) named opens closes s, is)
