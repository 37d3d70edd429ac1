-- What is read of an expression at one layer, and how places are noted one after the other.
use Rattle.std.proofs.Common.{◌≡◌, ℕ, List, [], ◌∷◌, ◌++◌, Option, refl, sym, ap, ◌∙◌}
use Rattle.ebr_exprtree.specs.declared.expression.Addend.{Addend, out-Addend}
use Rattle.ebr_exprtree.specs.declared.expression.Expr.{Expr, out-Expr}
use Rattle.ebr_exprtree.specs.declared.expression.Expr.TheFolds.{fold_out-Expr, fold_out-Addend, map-Expr, map-Addend}
use Rattle.ebr_validity.specs.Sites.{Site}
use Rattle.ebr_validity.specs.Rules.{rules as the_rules}
use Rattle.ebr_rules.specs.Noted.{noted, judged}
use Rattle.ebr_validity.specs.Expressions.{Read, Term, reads, reads_term, reading_of, term_of}
use Rattle.ebr_validity.specs.Embedded.{InSql, mention, mention_term, mentions}
use Rattle.ebr_rules.specs.inside.Terms.{mentions_in_term}

pub noted_append : (xs ys : List Site) (l : Option ℕ) → noted (xs ++ ys) l ≡ noted ys (noted xs l)
noted_append [] ys l = refl
noted_append (x ∷ xs) ys l = noted_append xs ys (judged the_rules x l)

pub reading_of-out : (e : Expr) → reading_of e ≡ reads (map-Expr Expr Addend Read Term reading_of term_of (out-Expr e))
unfolding reading_of term_of
reading_of-out e = fold_out-Expr Read Term reads reads_term e

pub term_of-out : (t : Addend) → term_of t ≡ reads_term (map-Addend Expr Addend Read Term reading_of term_of (out-Addend t))
unfolding reading_of term_of
term_of-out t = fold_out-Addend Read Term reads reads_term t

pub mentions-out : (e : Expr) → mentions e ≡ mention (map-Expr Expr Addend InSql InSql mentions mentions_in_term (out-Expr e))
unfolding mentions mentions_in_term
mentions-out e = fold_out-Expr InSql InSql mention mention_term e

pub mentions_in_term-out : (t : Addend) → mentions_in_term t ≡ mention_term (map-Addend Expr Addend InSql InSql mentions mentions_in_term (out-Addend t))
unfolding mentions mentions_in_term
mentions_in_term-out t = fold_out-Addend InSql InSql mention mention_term t

-- One element more of a list that a loop goes through, with what the loop keeps beside the least number.
pub more_with : {X S : Type 0} (all : S → List X → List Site) (part : S → X → List Site) (next : S → X → S)
    → ((s : S) (x : X) (xs : List X) → all s (x ∷ xs) ≡ part s x ++ all (next s x) xs)
    → (s s' : S) (items rest : List X) (x : X) (l l' r : Option ℕ)
    → items ≡ x ∷ rest → noted (all s items) l ≡ r → l' ≡ noted (part s x) l → s' ≡ next s x → noted (all s' rest) l' ≡ r
more_with all part next step s s' items rest x l l' r e h k n =
    ap (λ t. noted (all t rest) l') n
    ∙ ap (noted (all (next s x) rest)) k
    ∙ sym (noted_append (part s x) (all (next s x) rest) l)
    ∙ ap (λ ss. noted ss l) (sym (step s x rest))
    ∙ ap (λ ys. noted (all s ys) l) (sym e) ∙ h

pub more : {X : Type 0} (all : List X → List Site) (part : X → List Site) → ((x : X) (xs : List X) → all (x ∷ xs) ≡ part x ++ all xs)
    → (items rest : List X) (x : X) (l l' r : Option ℕ) → items ≡ x ∷ rest → noted (all items) l ≡ r → l' ≡ noted (part x) l → noted (all rest) l' ≡ r
more all part step items rest x l l' r e h k =
    ap (noted (all rest)) k
    ∙ sym (noted_append (part x) (all rest) l)
    ∙ ap (λ ss. noted ss l) (sym (step x rest))
    ∙ ap (λ ys. noted (all ys) l) (sym e) ∙ h
