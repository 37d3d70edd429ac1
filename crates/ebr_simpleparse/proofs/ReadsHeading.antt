-- Reading the heading of a FOR loop is right.
use Rattle.std.proofs.Common.{◌≡◌, Bool, true, false, List, [], ◌∷◌, ◌++◌, refl, sym, ap, subst, ◌∙◌, inl, inr, append_assoc}
use Rattle.std.specs.Prelude.{◌&&◌, ◌||◌}
use Rattle.ebr_lexer.specs.declared.token.Token.{Token}
use Rattle.ebr_grammar.specs.declared.kind.Kind.TheVariants as k
use Rattle.ebr_grammar.specs.Kinds.{same, kind_of, member, name_kinds}
use Rattle.ebr_grammar.specs.Forms.{sees}
use Rattle.ebr_grammar.proofs.Next.{or_false, or_right, sees-append}
use Rattle.ebr_grammar.proofs.Right.{IsReader, IsRight, widened}
use Rattle.ebr_grammar.proofs.Absent.{stands, absent_token, joined}
use Rattle.ebr_grammar.proofs.Outside.{either_reader}
use Rattle.ebr_exprparse.specs.declared.level.Level.TheVariants.{Whole}
use Rattle.ebr_exprparse.specs.Expressions.{begins}
use Rattle.ebr_ast.specs.declared.query.Query.{Query}
use Rattle.ebr_ast.specs.declared.statement.RowsFrom.{RowsFrom}
use Rattle.ebr_sqlparse.specs.Statements as sql
use Rattle.ebr_sqlparse.specs.Parts.{query_part}
use Rattle.ebr_sqlparse.proofs.Parts.{reads_queries}
use Rattle.ebr_simpleparse.specs.declared.headings.Heading.{Heading}
use Rattle.ebr_simpleparse.specs.Types.{SpelledPlainly}
use Rattle.ebr_simpleparse.specs.Bounds.{Bound, plain_bound, reversed_bound, SpellsBound}
use Rattle.ebr_simpleparse.specs.Productions.{part_begins, part_goes_on, hints, SpelledBy, reads_by}
use Rattle.ebr_simpleparse.specs.Headings.{rows_from, rows, high_bound, range, begins_query, begins_cursor, is_rows, heading_reader}
use Rattle.ebr_simpleparse.specs.Parts.{heading_part}
use Rattle.ebr_simpleparse.proofs.Absent.{loop_is_absent, select_is_absent}
use Rattle.ebr_simpleparse.proofs.ReadsBound.{Ends, reversed_ends, plain_ends}
use Rattle.ebr_simpleparse.proofs.ReadsParts.{reader}
use Rattle.ebr_simpleparse.proofs.Clear.{rows_is, range_is}

reads_rows : IsReader (begins Whole) [] (SpelledBy rows) (reads_by rows)
unfolding same name_kinds begins hints rows_from rows
reads_rows = widened (reader rows rows_is) refl refl

reads_ranges : IsReader (begins Whole) [] (SpelledBy range) (reads_by range)
unfolding same name_kinds begins part_begins part_goes_on hints high_bound range
reads_ranges = widened (reader range range_is) refl refl

-- ---- where rows stand, the test holds

left_is : (a b c : Bool) → a ≡ true → b ≡ true → ((a && b) || c) ≡ true
left_is a b c p q = rw (p, q) refl

right_is : (a b c : Bool) → b ≡ true → c ≡ true → (a || (b && c)) ≡ true
right_is a b c p q = rw (p, q) (or_right a true refl)

paren_is_seen : (t : Token) (ts : List Token) → member (kind_of t) (k.LeftParen ∷ []) ≡ true → sees (k.Select ∷ []) ts ≡ true → is_rows (t ∷ ts) ≡ true
unfolding begins_query begins_cursor is_rows sees
paren_is_seen t ts p q = left_is (member (kind_of t) (k.LeftParen ∷ [])) (sees (k.Select ∷ []) ts) (member (kind_of t) name_kinds && sees (k.Loop ∷ []) ts) p q

name_is_seen : (t u : Token) (ts : List Token) → member (kind_of t) name_kinds ≡ true → member (kind_of u) (k.Loop ∷ []) ≡ true → is_rows (t ∷ u ∷ ts) ≡ true
unfolding begins_query begins_cursor is_rows sees
name_is_seen t u ts p q = right_is (member (kind_of t) (k.LeftParen ∷ []) && member (kind_of u) (k.Select ∷ [])) (member (kind_of t) name_kinds) (member (kind_of u) (k.Loop ∷ [])) p q

query_begins : (ts : List Token) (q : Query) → query_part.form ts q → sees (k.Select ∷ []) ts ≡ true
unfolding sql.query
query_begins ts q s = reads_queries.begun ts q s

seen_from : (x y rest : List Token) (l : Token) (from : RowsFrom) → SpelledBy rows_from x from → y ≡ l ∷ [] → member (kind_of l) (k.Loop ∷ []) ≡ true → is_rows ((x ++ y) ++ rest) ≡ true
unfolding rows_from
seen_from x y rest l from (inl s) y-is is =
    let all : x ≡ s.5.0 ∷ s.1 = s.4 ∙ ap (λ (z : List Token). z ++ s.1) s.5.1 in
    let query : sees (k.Select ∷ []) s.1 ≡ true = subst (λ (z : List Token). sees (k.Select ∷ []) z ≡ true) (sym s.6.4) (sees-append (k.Select ∷ []) s.6.0 s.6.1 (query_begins s.6.0 s.6.5.1.0 s.6.5.1.1)) in
    subst (λ (z : List Token). is_rows ((z ++ y) ++ rest) ≡ true) (sym all) (paren_is_seen s.5.0 ((s.1 ++ y) ++ rest) s.5.2 (sees-append (k.Select ∷ []) (s.1 ++ y) rest (sees-append (k.Select ∷ []) s.1 y query)))
seen_from x y rest l from (inr s) y-is is =
    let one : (x ++ y) ++ rest ≡ s.1.0 ∷ l ∷ rest = rw (s.1.1, y-is) refl in
    subst (λ (z : List Token). is_rows z ≡ true) (sym one) (name_is_seen s.1.0 l rest s.1.2 is)

rows_are_seen : (front rest : List Token) (h : Heading) → SpelledBy rows front h → sees [] rest ≡ false → is_rows (front ++ rest) ≡ true
unfolding rows
rows_are_seen front rest h s stop =
    subst (λ (z : List Token). is_rows (z ++ rest) ≡ true) (sym s.1.4) (seen_from s.1.0 s.1.1 rest s.1.6.0 s.1.2 s.1.5 s.1.6.1 s.1.6.2)

-- ---- where a range stands, it fails

neither_is : (a b c d : Bool) → b ≡ false → d ≡ false → ((a && b) || (c && d)) ≡ false
neither_is true b true d p q = rw (p, q) refl
neither_is true b false d p q = rw p refl
neither_is false b true d p q = q
neither_is false b false d p q = refl

abbrev Without : List Token → Type 0
Without ts = (stands k.Select ts ≡ false) × (stands k.Loop ts ≡ false)

two_unseen : (t u : Token) (ts rest : List Token) → Without (t ∷ u ∷ ts) → is_rows ((t ∷ u ∷ ts) ++ rest) ≡ false
unfolding begins_query begins_cursor is_rows sees
two_unseen t u ts rest w =
    let no_select = or_false (member (kind_of u) (k.Select ∷ [])) (stands k.Select ts) (or_false (member (kind_of t) (k.Select ∷ [])) (stands k.Select (u ∷ ts)) w.0).1 in
    let no_loop = or_false (member (kind_of u) (k.Loop ∷ [])) (stands k.Loop ts) (or_false (member (kind_of t) (k.Loop ∷ [])) (stands k.Loop (u ∷ ts)) w.1).1 in
    neither_is (member (kind_of t) (k.LeftParen ∷ [])) (member (kind_of u) (k.Select ∷ [])) (member (kind_of t) name_kinds) (member (kind_of u) (k.Loop ∷ [])) no_select.0 no_loop.0

unseen_from : (t : Token) (ts : List Token) (d : Token) (rest : List Token) → Without (t ∷ (ts ++ d ∷ [])) → is_rows ((t ∷ (ts ++ d ∷ [])) ++ rest) ≡ false
unseen_from t [] d rest w = two_unseen t d [] rest w
unseen_from t (u ∷ ts) d rest w = two_unseen t u (ts ++ d ∷ []) rest w

ends_unseen : (front rest : List Token) → Ends front → Without front → is_rows (front ++ rest) ≡ false
ends_unseen front rest e w =
    subst (λ (z : List Token). is_rows (z ++ rest) ≡ false) (sym e.3) (unseen_from e.0 e.1 e.2 rest (subst (λ (z : List Token). Without z) e.3 w))

reversed_without : (front : List Token) (b : Bound) → SpelledPlainly reversed_bound front b → Without front
unfolding same reversed_bound
reversed_without front b s = (
  joined k.Select front s.0 s.1 s.4 (absent_token k.Select (k.Reverse ∷ []) s.0 s.5.0 refl s.5.1 s.5.2)
      (joined k.Select s.1 s.6.0 s.6.1 s.6.4 (select_is_absent s.6.0 s.6.5.0 s.6.5.1) (absent_token k.Select (k.Range ∷ []) s.6.1 s.6.6.0 refl s.6.6.1 s.6.6.2)),
  joined k.Loop front s.0 s.1 s.4 (absent_token k.Loop (k.Reverse ∷ []) s.0 s.5.0 refl s.5.1 s.5.2)
      (joined k.Loop s.1 s.6.0 s.6.1 s.6.4 (loop_is_absent s.6.0 s.6.5.0 s.6.5.1) (absent_token k.Loop (k.Range ∷ []) s.6.1 s.6.6.0 refl s.6.6.1 s.6.6.2)),
)

plain_without : (front : List Token) (b : Bound) → SpelledPlainly plain_bound front b → Without front
unfolding same plain_bound
plain_without front b s = (
  joined k.Select front s.0 s.1 s.4 (select_is_absent s.0 s.5.0 s.5.1) (absent_token k.Select (k.Range ∷ []) s.1 s.6.0 refl s.6.1 s.6.2),
  joined k.Loop front s.0 s.1 s.4 (loop_is_absent s.0 s.5.0 s.5.1) (absent_token k.Loop (k.Range ∷ []) s.1 s.6.0 refl s.6.1 s.6.2),
)

bound_is_unseen : (front rest : List Token) (b : Bound) → SpellsBound front b → is_rows (front ++ rest) ≡ false
bound_is_unseen front rest b (inl s) = ends_unseen front rest (reversed_ends front b s) (reversed_without front b s)
bound_is_unseen front rest b (inr s) = ends_unseen front rest (plain_ends front b s.0) (plain_without front b s.0)

range_is_unseen : (front rest : List Token) (h : Heading) → SpelledBy range front h → sees [] rest ≡ false → is_rows (front ++ rest) ≡ false
unfolding range
range_is_unseen front rest h s stop =
    subst (λ (z : List Token). is_rows (z ++ rest) ≡ false) (sym s.4) (ap is_rows (append_assoc s.0 s.1 rest) ∙ bound_is_unseen s.0 (s.1 ++ rest) s.5.0 s.5.1)

pub reads_headings : IsRight heading_part
unfolding same name_kinds begins heading_reader
reads_headings =
    widened
    (either_reader (begins Whole) [] (begins Whole) [] (SpelledBy rows) (SpelledBy range) (reads_by rows) (reads_by range) reads_rows reads_ranges is_rows rows_are_seen range_is_unseen)
    refl refl
