-- Reading what an item is, is right.
use Rattle.std.proofs.Common.{◌≡◌, Bool, true, false, List, [], ◌∷◌, ◌++◌, drop, Some, refl, sym, ap, subst, ◌∙◌, inl, inr}
use Rattle.std.specs.Prelude.{◌&&◌}
use Rattle.ebr_lexer.specs.declared.token.Token.{Token}
use Rattle.ebr_grammar.specs.declared.kind.Kind.TheVariants as k
use Rattle.ebr_grammar.specs.Kinds.{same, kind_of, member}
use Rattle.ebr_grammar.specs.Forms.{Found, sees}
use Rattle.ebr_grammar.specs.Reading.{and_then}
use Rattle.ebr_grammar.specs.Choice.{among}
use Rattle.ebr_grammar.proofs.Next.{sees_left, sees_right, unseen-among}
use Rattle.ebr_grammar.proofs.Right.{IsReader}
use Rattle.ebr_grammar.proofs.Outside.{IsReadable, reader_over}
use Rattle.ebr_grammar.proofs.Laws.{bind_some, some_is, which, take_first, take_second}
use Rattle.ebr_exprtree.specs.declared.expression.Expr.{Expr}
use Rattle.ebr_ast.specs.declared.query.ItemKind.{ItemKind}
use Rattle.ebr_exprparse.specs.declared.level.Level.TheVariants.{Whole}
use Rattle.ebr_exprparse.specs.Expressions.{begins, goes_on, read_expression}
use Rattle.ebr_exprparse.proofs.Whole.{reads_expressions}
use Rattle.ebr_sqlparse.specs.Items.{no_form, no_reader, no_hints, rows, SpellsRows, read_rows, counts_rows, function_ahead, item_of, SpellsWhat, read_plain, read_what}

rows_are : IsReadable no_hints rows
unfolding rows same
rows_are = record { clear = refl; full = refl; right = tt }

-- ---- the test on three tokens

both_true : (a b : Bool) → a ≡ true → b ≡ true → (a && b) ≡ true
both_true a b p q = rw (p, q) refl

second_false : (a b : Bool) → b ≡ false → (a && b) ≡ false
second_false true b e = e
second_false false b e = refl

first_false : (a b : Bool) → a ≡ false → (a && b) ≡ false
first_false a b e = ap (λ z. z && b) e

joined : (x y ts : List Token) (t : Token) → ts ≡ x ++ y → x ≡ t ∷ [] → ts ≡ t ∷ y
joined x y ts t e is = e ∙ ap (λ (z : List Token). z ++ y) is

three_seen : (t u v : Token) (more : List Token) → member (kind_of t) (k.Count ∷ []) ≡ true → member (kind_of u) (k.LeftParen ∷ []) ≡ true → member (kind_of v) (k.Star ∷ []) ≡ true → counts_rows (t ∷ u ∷ v ∷ more) ≡ true
unfolding counts_rows sees
three_seen t u v more p q r = both_true _ _ p (both_true _ _ q r)

-- what counts rows begins so
rows_seen : (front rest : List Token) (w : ItemKind) → SpellsRows front w → counts_rows (front ++ rest) ≡ true
unfolding rows
rows_seen front rest w s =
    let third = joined s.6.6.0 s.6.6.1 s.6.1 s.6.6.5.0 s.6.6.4 s.6.6.5.1 in
    let second = joined s.6.0 s.6.1 s.1 s.6.5.0 s.6.4 s.6.5.1 ∙ ap (λ (z : List Token). s.6.5.0 ∷ z) third in
    let all = joined s.0 s.1 front s.5.0 s.4 s.5.1 ∙ ap (λ (z : List Token). s.5.0 ∷ z) second in
    subst (λ (z : List Token). counts_rows (z ++ rest) ≡ true) (sym all) (three_seen s.5.0 s.6.5.0 s.6.6.5.0 (s.6.6.1 ++ rest) s.5.2 s.6.5.2 s.6.6.5.2)

paren_follows : among (k.LeftParen ∷ []) (goes_on Whole) ≡ true
unfolding same goes_on
paren_follows = refl

star_follows : among (k.Star ∷ []) (goes_on Whole) ≡ true
unfolding same goes_on
star_follows = refl

-- what doesn't begin so doesn't either before what stops it
unseen : (front rest : List Token) → sees (begins Whole) front ≡ true → counts_rows front ≡ false → sees (goes_on Whole) rest ≡ false → counts_rows (front ++ rest) ≡ false
unfolding counts_rows sees
unseen [] rest some unlike stop = absurd cc
unseen (t ∷ []) rest some unlike stop =
    second_false (member (kind_of t) (k.Count ∷ [])) (sees (k.LeftParen ∷ []) rest && sees (k.Star ∷ []) (drop 1 rest))
    (first_false (sees (k.LeftParen ∷ []) rest) (sees (k.Star ∷ []) (drop 1 rest)) (unseen-among (k.LeftParen ∷ []) (goes_on Whole) rest paren_follows stop))
unseen (t ∷ u ∷ []) rest some unlike stop =
    second_false (member (kind_of t) (k.Count ∷ [])) (member (kind_of u) (k.LeftParen ∷ []) && sees (k.Star ∷ []) rest)
    (second_false (member (kind_of u) (k.LeftParen ∷ [])) (sees (k.Star ∷ []) rest) (unseen-among (k.Star ∷ []) (goes_on Whole) rest star_follows stop))
unseen (t ∷ u ∷ v ∷ more) rest some unlike stop = unlike

shorter : (front rest : List Token) → counts_rows (front ++ rest) ≡ false → counts_rows front ≡ false
unfolding counts_rows sees
shorter [] rest unlike = refl
shorter (t ∷ []) rest unlike = second_false (member (kind_of t) (k.Count ∷ [])) false refl
shorter (t ∷ u ∷ []) rest unlike = second_false (member (kind_of t) (k.Count ∷ [])) (member (kind_of u) (k.LeftParen ∷ []) && false) (second_false (member (kind_of u) (k.LeftParen ∷ [])) false refl)
shorter (t ∷ u ∷ v ∷ more) rest unlike = unlike

-- the first token is that of the front
same_ahead : (front rest : List Token) → sees (begins Whole) front ≡ true → function_ahead (front ++ rest) ≡ function_ahead front
unfolding function_ahead sees
same_ahead [] rest some = absurd cc
same_ahead (t ∷ front) rest some = refl

none_stops : (ts : List Token) → sees [] ts ≡ false
unfolding sees
none_stops [] = refl
none_stops (t ∷ ts) = refl

-- ---- the laws

reads_rows : IsReader (k.Count ∷ []) [] SpellsRows read_rows
unfolding rows
reads_rows = reader_over no_hints no_form no_reader (λ part. absurd part) rows rows_are

what_begun : (front : List Token) (w : ItemKind) → SpellsWhat front w → sees (k.Count ∷ begins Whole) front ≡ true
what_begun front w (inl s) = sees_left (k.Count ∷ []) (begins Whole) front (reads_rows.begun front w s)
what_begun front w (inr s) = sees_right (k.Count ∷ []) (begins Whole) front (reads_expressions.begun front s.0 s.2)

what_sound : (ts : List Token) (x : ItemKind × List Token) → read_what ts ≡ Some x → (front : List Token) × (ts ≡ front ++ x.1) × SpellsWhat front x.0
unfolding read_what
what_sound ts x e =
    elim (which (counts_rows ts) (read_rows ts) (read_plain ts) (Some x) e) [
      | inl it ↦ let one = reads_rows.sound ts x it.1 in (one.0, one.1, inl one.2)
      | inr it ↦
          let p = bind_some (read_expression ts) (λ y end. Some (item_of (function_ahead ts) y, end)) x it.1 in
          let one = reads_expressions.sound ts p.0 p.1 in
          let is = some_is (item_of (function_ahead ts) p.0.0, p.0.1) x p.2 in
          let unlike = shorter one.0 p.0.1 (subst (λ (z : List Token). counts_rows z ≡ false) one.1 it.0) in
          let ahead = ap function_ahead one.1 ∙ same_ahead one.0 p.0.1 (reads_expressions.begun one.0 p.0.0 one.2) in
          let tree-is = ap (λ f. item_of f p.0.0) (sym ahead) ∙ ap (λ (z : ItemKind × List Token). z.0) is in
          (one.0, one.1 ∙ ap (λ (z : ItemKind × List Token). one.0 ++ z.1) is, inr (p.0.0, unlike, one.2, tree-is))
    ]

made_of : (found : Found Expr) (f : Expr → ItemKind) (x : Expr) (rest : List Token) (w : ItemKind) → found ≡ Some (x, rest) → f x ≡ w → and_then found (λ y end. Some (f y, end)) ≡ Some (w, rest)
made_of found f x rest w p is = rw (p, is) refl

what_complete : (front rest : List Token) (w : ItemKind) → SpellsWhat front w → sees (goes_on Whole) rest ≡ false → read_what (front ++ rest) ≡ Some (w, rest)
unfolding read_what
what_complete front rest w (inl s) stop =
    take_first (counts_rows (front ++ rest)) (read_rows (front ++ rest)) (read_plain (front ++ rest)) (Some (w, rest)) (rows_seen front rest w s) (reads_rows.complete front rest w s (none_stops rest))
what_complete front rest w (inr s) stop =
    let some = reads_expressions.begun front s.0 s.2 in
    let is = ap (λ f. item_of f s.0) (same_ahead front rest some) ∙ s.3 in
    take_second (counts_rows (front ++ rest)) (read_rows (front ++ rest)) (read_plain (front ++ rest)) (Some (w, rest)) (unseen front rest some s.1 stop)
    (made_of (read_expression (front ++ rest)) (item_of (function_ahead (front ++ rest))) s.0 rest w (reads_expressions.complete front rest s.0 s.2 stop) is)

pub reads_what : IsReader (k.Count ∷ begins Whole) (goes_on Whole) SpellsWhat read_what
reads_what = record { begun = what_begun; sound = what_sound; complete = what_complete }

-- ---- each of the two ways

pub reads_rows_there : (ts : List Token) → counts_rows ts ≡ true → read_what ts ≡ read_rows ts
unfolding read_what
reads_rows_there ts e = take_first (counts_rows ts) (read_rows ts) (read_plain ts) (read_rows ts) e refl

pub reads_plain_there : (ts : List Token) → counts_rows ts ≡ false → read_what ts ≡ read_plain ts
unfolding read_what
reads_plain_there ts e = take_second (counts_rows ts) (read_rows ts) (read_plain ts) (read_plain ts) e refl
