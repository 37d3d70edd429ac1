-- Reading the low bound of a range is right.
use Rattle.std.proofs.Common.{◌≡◌, ℕ, ◌+◌, ◌-◌, ◌==◌, Bool, true, false, List, [], ◌∷◌, ◌++◌, Some, refl, sym, ap, subst, ◌∙◌, inl, inr, append_assoc}
use Rattle.std.specs.Prelude.{◌&&◌, if◌then◌else◌}
use Rattle.ebr_lexer.specs.declared.token.Token.{Token}
use Rattle.ebr_grammar.specs.declared.kind.Kind.{Kind}
use Rattle.ebr_grammar.specs.declared.kind.Kind.TheVariants as k
use Rattle.ebr_grammar.specs.Kinds.{same, kind_of, member, name_kinds}
use Rattle.ebr_grammar.specs.Forms.{sees}
use Rattle.ebr_grammar.specs.Choice.{apart}
use Rattle.ebr_grammar.proofs.Next.{and_true, cases_bool, not_both, member-apart}
use Rattle.ebr_grammar.proofs.Right.{IsReader, widened}
use Rattle.ebr_grammar.proofs.Laws.{which, take_first, take_second}
use Rattle.ebr_exprparse.specs.declared.level.Level.TheVariants.{Whole}
use Rattle.ebr_exprtree.specs.declared.expression.Expr.{Expr}
use Rattle.ebr_exprparse.specs.Expressions.{begins, goes_on, SpellsExpr}
use Rattle.ebr_exprparse.proofs.Whole.{reads_expressions}
use Rattle.ebr_simpleparse.specs.Types.{SpelledPlainly, reads_plainly}
use Rattle.ebr_simpleparse.specs.Bounds.{Bound, plain_bound, reversed_bound, SpellsBound}
use Rattle.ebr_simpleparse.specs.Looking.{closes, signs, tests, has_one_item, name_ends, begins_bound, is_reversed, bound_reader}
use Rattle.ebr_simpleparse.proofs.Keyword.{begins_where, behind_reverse}
use Rattle.ebr_simpleparse.proofs.Reader.{reads_plain}

reads_reversed : IsReader (begins Whole) [] (SpelledPlainly reversed_bound) (reads_plainly reversed_bound)
unfolding same name_kinds begins goes_on reversed_bound
reads_reversed = widened (reads_plain reversed_bound (record { clear = refl; full = refl; right = (reads_expressions, tt) })) refl refl

reads_unreversed : IsReader (begins Whole) [] (SpelledPlainly plain_bound) (reads_plainly plain_bound)
unfolding same name_kinds begins goes_on plain_bound
reads_unreversed = widened (reads_plain plain_bound (record { clear = refl; full = refl; right = (reads_expressions, tt) })) refl refl

-- ---- the test looks at nothing behind `..`

abbrev pub IsRange : Token → Type 0
IsRange d = member (kind_of d) (k.Range ∷ []) ≡ true

-- a first token, and `..` as the last
abbrev pub Ends : List Token → Type 0
Ends front = (t : Token) × (ts : List Token) × (d : Token) × (front ≡ t ∷ (ts ++ d ∷ [])) × IsRange d

none_of : (d : Token) (kinds : List Kind) → IsRange d → apart (k.Range ∷ []) kinds ≡ true → member (kind_of d) kinds ≡ false
none_of d kinds is other = member-apart (kind_of d) (k.Range ∷ []) kinds other is

if_true : {A : Type 0} (b : Bool) (x y : A) → b ≡ true → (if b then x else y) ≡ x
if_true true x y e = refl
if_true false x y e = absurd cc

-- a choice between what is the same
same_choice : (b : Bool) (x y v w : Bool) → x ≡ v → y ≡ w → (if b then x else y) ≡ (if b then v else w)
same_choice b x y v w p q = rw (p, q) refl

same_closes : (depth : ℕ) (ts rest : List Token) (d : Token) → IsRange d → closes depth ((ts ++ d ∷ []) ++ rest) ≡ closes depth (ts ++ d ∷ [])
same_closes depth [] rest d is = rw is refl
same_closes depth (t ∷ ts) rest d is =
    same_choice (member (kind_of t) (k.Range ∷ [])) false _ false _ refl
    (same_choice (member (kind_of t) (k.LeftParen ∷ [])) _ _ _ _ (same_closes (depth + 1) ts rest d is)
    (same_choice (member (kind_of t) (k.RightParen ∷ [])) _ _ _ _ (same_choice (depth == 0) true _ true _ refl (same_closes (depth - 1) ts rest d is))
    (same_choice (member (kind_of t) (k.Comma ∷ [])) _ _ _ _ (same_choice (depth == 0) false _ false _ refl (same_closes depth ts rest d is)) (same_closes depth ts rest d is))))

-- what holds of the first token alone
same_ahead : (kinds : List Kind) (t : Token) (x y : List Token) → sees kinds (t ∷ x) ≡ sees kinds (t ∷ y)
unfolding sees
same_ahead kinds t x y = refl

same_sees : (kinds : List Kind) (ts rest : List Token) (d : Token) → sees kinds ((ts ++ d ∷ []) ++ rest) ≡ sees kinds (ts ++ d ∷ [])
same_sees kinds [] rest d = same_ahead kinds d rest []
same_sees kinds (t ∷ ts) rest d = same_ahead kinds t ((ts ++ d ∷ []) ++ rest) (ts ++ d ∷ [])

same_item : (ts rest : List Token) (d : Token) → IsRange d → has_one_item ((ts ++ d ∷ []) ++ rest) ≡ has_one_item (ts ++ d ∷ [])
unfolding has_one_item
same_item ts rest d is = rw (same_sees (k.RightParen ∷ []) ts rest d, same_closes 0 ts rest d is) refl

ended : (d : Token) (rest : List Token) → IsRange d → begins_bound (d ∷ rest) ≡ begins_bound (d ∷ [])
unfolding sees same begins_bound
ended d rest is = rw (none_of d (k.LeftParen ∷ []) is refl, none_of d signs is refl, none_of d (k.Not ∷ []) is refl) refl

same_begins : (ts rest : List Token) (d : Token) → IsRange d → begins_bound ((ts ++ d ∷ []) ++ rest) ≡ begins_bound (ts ++ d ∷ [])
unfolding begins_bound
same_begins [] rest d is = ended d rest is
same_begins (t ∷ ts) rest d is =
    rw (same_sees (k.LeftParen ∷ []) (t ∷ ts) rest d, same_item ts rest d is, same_sees signs (t ∷ ts) rest d, same_sees signs ts rest d, same_sees (k.Not ∷ []) (t ∷ ts) rest d, same_sees tests ts rest d, same_sees name_ends (t ∷ ts) rest d) refl

tested : (t : Token) (ts rest : List Token) (d : Token) → IsRange d → is_reversed ((t ∷ (ts ++ d ∷ [])) ++ rest) ≡ is_reversed (t ∷ (ts ++ d ∷ []))
unfolding is_reversed
tested t ts rest d is = rw (same_ahead (k.Reverse ∷ []) t ((ts ++ d ∷ []) ++ rest) (ts ++ d ∷ []), same_begins ts rest d is) refl

same_test : (front rest : List Token) → Ends front → is_reversed (front ++ rest) ≡ is_reversed front
same_test front rest ends = subst (λ (z : List Token). is_reversed (z ++ rest) ≡ is_reversed z) (sym ends.3) (tested ends.0 ends.1 rest ends.2 ends.4)

some_first : (ts : List Token) (kinds : List Kind) → sees kinds ts ≡ true → (t : Token) × (y : List Token) × (ts ≡ t ∷ y)
unfolding sees
some_first [] kinds e = absurd cc
some_first (t ∷ ts) kinds e = (t, ts, refl)

pub reversed_ends : (front : List Token) (b : Bound) → SpelledPlainly reversed_bound front b → Ends front
unfolding reversed_bound
reversed_ends front b s =
    (s.5.0, s.6.0, s.6.6.0, s.4 ∙ ap (λ (z : List Token). z ++ s.1) s.5.1 ∙ ap (λ (z : List Token). s.5.0 ∷ z) (s.6.4 ∙ ap (λ (z : List Token). s.6.0 ++ z) s.6.6.1), s.6.6.2)

pub plain_ends : (front : List Token) (b : Bound) → SpelledPlainly plain_bound front b → Ends front
unfolding plain_bound
plain_ends front b s =
    let one = some_first s.0 (begins Whole) (reads_expressions.begun s.0 s.5.0 s.5.1) in
    (one.0, one.1, s.6.0, s.4 ∙ ap (λ (z : List Token). z ++ s.1) one.2 ∙ ap (λ (z : List Token). one.0 ∷ (one.1 ++ z)) s.6.1, s.6.2)

-- ---- the test tells whether REVERSE is the keyword

both_hold : (a b : Bool) → a ≡ true → b ≡ true → (a && b) ≡ true
both_hold a b p q = rw (p, q) refl

test_holds : (t : Token) (ts : List Token) → member (kind_of t) (k.Reverse ∷ []) ≡ true → begins_bound ts ≡ true → is_reversed (t ∷ ts) ≡ true
unfolding is_reversed sees
test_holds t ts p q = both_hold (member (kind_of t) (k.Reverse ∷ [])) (begins_bound ts) p q

test_held : (t : Token) (ts : List Token) → is_reversed (t ∷ ts) ≡ true → (member (kind_of t) (k.Reverse ∷ []) ≡ true) × (begins_bound ts ≡ true)
unfolding is_reversed sees
test_held t ts e = and_true (member (kind_of t) (k.Reverse ∷ [])) (begins_bound ts) e

reversed_is_seen : (front rest : List Token) (b : Bound) → SpelledPlainly reversed_bound front b → is_reversed (front ++ rest) ≡ true
unfolding reversed_bound
reversed_is_seen front rest b s =
    let all : front ≡ s.5.0 ∷ s.1 = s.4 ∙ ap (λ (z : List Token). z ++ s.1) s.5.1 in
    let behind : s.1 ++ rest ≡ s.6.0 ++ (s.6.1 ++ rest) = ap (λ (z : List Token). z ++ rest) s.6.4 ∙ append_assoc s.6.0 s.6.1 rest in
    ap (λ (z : List Token). is_reversed (z ++ rest)) all ∙ test_holds s.5.0 (s.1 ++ rest) s.5.2 (ap begins_bound behind ∙ begins_where s.6.0 s.6.5.0 s.6.5.1 (s.6.1 ++ rest))

reversed_there : (t : Token) (ts : List Token) (d : Token) (x : Expr) → IsRange d → SpellsExpr (t ∷ ts) x → is_reversed (t ∷ (ts ++ d ∷ [])) ≡ true → (c : Bound) × SpelledPlainly reversed_bound (t ∷ (ts ++ d ∷ [])) c
unfolding reversed_bound
reversed_there t ts d x is s holds =
    let held = test_held t (ts ++ d ∷ []) holds in
    let found = behind_reverse d is t ts held.0 held.1 x s in
    ((true, found.0), (t ∷ [], ts ++ d ∷ [], tt, (true, found.0), refl, (t, refl, held.0, refl), (ts, d ∷ [], (true, found.0), tt, refl, (found.0, found.1, refl), (d, refl, is, refl), refl), refl))

plain_is_unseen : (front rest : List Token) (b : Bound) → SpelledPlainly plain_bound front b → ((c : Bound) → SpelledPlainly reversed_bound front c → ⊥) → is_reversed (front ++ rest) ≡ false
unfolding plain_bound
plain_is_unseen front rest b s none =
    let one = some_first s.0 (begins Whole) (reads_expressions.begun s.0 s.5.0 s.5.1) in
    let all : front ≡ one.0 ∷ (one.1 ++ s.6.0 ∷ []) = s.4 ∙ ap (λ (z : List Token). z ++ s.1) one.2 ∙ ap (λ (z : List Token). one.0 ∷ (one.1 ++ z)) s.6.1 in
    elim (cases_bool (is_reversed (front ++ rest))) [
      | inl it ↦
          let holds : is_reversed (one.0 ∷ (one.1 ++ s.6.0 ∷ [])) ≡ true = ap is_reversed (sym all) ∙ sym (same_test front rest (one.0, one.1, s.6.0, all, s.6.2)) ∙ it in
          let found = reversed_there one.0 one.1 s.6.0 s.5.0 s.6.2 (subst (λ (z : List Token). SpellsExpr z s.5.0) one.2 s.5.1) holds in
          absurd (none found.0 (subst (λ (z : List Token). SpelledPlainly reversed_bound z found.0) (sym all) found.1))
      | inr it ↦ it
    ]

-- ---- the laws

bound_begun : (front : List Token) (b : Bound) → SpellsBound front b → sees (begins Whole) front ≡ true
bound_begun front b (inl s) = reads_reversed.begun front b s
bound_begun front b (inr s) = reads_unreversed.begun front b s.0

bound_sound : (ts : List Token) (x : Bound × List Token) → bound_reader ts ≡ Some x → (front : List Token) × (ts ≡ front ++ x.1) × SpellsBound front x.0
unfolding bound_reader
bound_sound ts x e =
    elim (which (is_reversed ts) (reads_plainly reversed_bound ts) (reads_plainly plain_bound ts) (Some x) e) [
      | inl it ↦ let one = reads_reversed.sound ts x it.1 in (one.0, one.1, inl one.2)
      | inr it ↦
          let one = reads_unreversed.sound ts x it.1 in
          (one.0, one.1, inr (one.2, λ c s. not_both (is_reversed ts) (ap is_reversed one.1 ∙ reversed_is_seen one.0 x.1 c s) it.0))
    ]

bound_complete : (front rest : List Token) (b : Bound) → SpellsBound front b → sees [] rest ≡ false → bound_reader (front ++ rest) ≡ Some (b, rest)
unfolding bound_reader
bound_complete front rest b (inl s) stop =
    take_first (is_reversed (front ++ rest)) (reads_plainly reversed_bound (front ++ rest)) (reads_plainly plain_bound (front ++ rest)) (Some (b, rest)) (reversed_is_seen front rest b s) (reads_reversed.complete front rest b s stop)
bound_complete front rest b (inr s) stop =
    take_second (is_reversed (front ++ rest)) (reads_plainly reversed_bound (front ++ rest)) (reads_plainly plain_bound (front ++ rest)) (Some (b, rest)) (plain_is_unseen front rest b s.0 s.1) (reads_unreversed.complete front rest b s.0 stop)

pub reads_bounds : IsReader (begins Whole) [] SpellsBound bound_reader
reads_bounds = record { begun = bound_begun; sound = bound_sound; complete = bound_complete }
