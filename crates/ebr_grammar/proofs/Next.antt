-- Tests on kinds and on the next token.
use Rattle.std.proofs.Common.{◌≡◌, Bool, true, false, List, [], ◌∷◌, ◌++◌, refl, sym, ap, subst, ◌∙◌, inl, inr}
use Rattle.std.specs.Prelude.{not, ◌&&◌, ◌||◌, if◌then◌else◌, ◌⊎◌}
use denote.Enum.Bare.{same_true}
use Rattle.std.proofs.Common.{rules}
use Rattle.ebr_grammar.specs.contracts.kind.Kind.{the_type}
use Rattle.ebr_grammar.specs.declared.kind.Kind.{Kind}
use Rattle.ebr_lexer.specs.declared.token.Token.{Token}
use Rattle.ebr_grammar.specs.Kinds.{same, kind_of, member}
use Rattle.ebr_grammar.specs.Forms.{sees}
use Rattle.ebr_grammar.specs.Choice.{apart, among}

pub and_true : (a b : Bool) → (a && b) ≡ true → (a ≡ true) × (b ≡ true)
and_true true b e = (refl, e)
and_true false b e = absurd cc

pub or_false : (a b : Bool) → (a || b) ≡ false → (a ≡ false) × (b ≡ false)
or_false true b e = absurd cc
or_false false b e = (refl, e)

pub or_true : (a b : Bool) → (a || b) ≡ true → (a ≡ true) ⊎ (b ≡ true)
or_true true b e = inl refl
or_true false b e = inr e

pub not_true : (a : Bool) → not a ≡ true → a ≡ false
not_true true e = absurd cc
not_true false e = refl

pub if_true : (a b : Bool) → (if a then b else false) ≡ true → (a ≡ true) × (b ≡ true)
if_true true b e = (refl, e)
if_true false b e = absurd cc

pub if_false : (a b : Bool) → (if a then false else b) ≡ true → (a ≡ false) × (b ≡ true)
if_false true b e = absurd cc
if_false false b e = (refl, e)

pub cases_bool : (b : Bool) → (b ≡ true) ⊎ (b ≡ false)
cases_bool true = inl refl
cases_bool false = inr refl

pub not_both : (b : Bool) → b ≡ true → b ≡ false → ⊥
not_both b p q = absurd cc

pub same_is : (j k : Kind) → same j k ≡ true → j ≡ k
unfolding same
same_is j k e = same_true the_type (search rules) j k e

pub member-append : (k : Kind) (xs ys : List Kind) → member k (xs ++ ys) ≡ (member k xs || member k ys)
member-append k [] ys = refl
member-append k (x ∷ xs) ys = elim (same k x) as (λ b. (b || member k (xs ++ ys)) ≡ ((b || member k xs) || member k ys)) [ true ↦ refl | false ↦ member-append k xs ys ]

pub member-apart : (k : Kind) (xs ys : List Kind) → apart xs ys ≡ true → member k xs ≡ true → member k ys ≡ false
member-apart k [] ys e h = absurd cc
member-apart k (x ∷ xs) ys e h =
    let parts = if_false (member x ys) (apart xs ys) e in
    elim (or_true (same k x) (member k xs) h) [
      | inl is ↦ subst (λ (j : Kind). member j ys ≡ false) (sym (same_is k x is)) parts.0
      | inr later ↦ member-apart k xs ys parts.1 later
    ]

pub member-among : (k : Kind) (xs ys : List Kind) → among xs ys ≡ true → member k xs ≡ true → member k ys ≡ true
member-among k [] ys e h = absurd cc
member-among k (x ∷ xs) ys e h =
    let parts = if_true (member x ys) (among xs ys) e in
    elim (or_true (same k x) (member k xs) h) [
      | inl is ↦ subst (λ (j : Kind). member j ys ≡ true) (sym (same_is k x is)) parts.0
      | inr later ↦ member-among k xs ys parts.1 later
    ]

pub sees-append : (kinds : List Kind) (x y : List Token) → sees kinds x ≡ true → sees kinds (x ++ y) ≡ true
unfolding sees
sees-append kinds [] y e = absurd cc
sees-append kinds (t ∷ x) y e = e

pub sees-nothing : (kinds : List Kind) → sees kinds [] ≡ false
unfolding sees
sees-nothing kinds = refl

pub sees_more : (xs ys : List Kind) (ts : List Token) → sees (xs ++ ys) ts ≡ (sees xs ts || sees ys ts)
unfolding sees
sees_more xs ys [] = refl
sees_more xs ys (t ∷ ts) = member-append (kind_of t) xs ys

pub sees_left : (xs ys : List Kind) (ts : List Token) → sees xs ts ≡ true → sees (xs ++ ys) ts ≡ true
sees_left xs ys ts e = sees_more xs ys ts ∙ ap (λ b. b || sees ys ts) e

pub or_right : (a b : Bool) → b ≡ true → (a || b) ≡ true
or_right true b e = refl
or_right false b e = e

pub sees_right : (xs ys : List Kind) (ts : List Token) → sees ys ts ≡ true → sees (xs ++ ys) ts ≡ true
sees_right xs ys ts e = sees_more xs ys ts ∙ or_right (sees xs ts) (sees ys ts) e

pub sees_neither : (xs ys : List Kind) (ts : List Token) → sees (xs ++ ys) ts ≡ false → (sees xs ts ≡ false) × (sees ys ts ≡ false)
sees_neither xs ys ts e = or_false (sees xs ts) (sees ys ts) (sym (sees_more xs ys ts) ∙ e)

pub sees-apart : (xs ys : List Kind) (ts : List Token) → apart xs ys ≡ true → sees ys ts ≡ true → sees xs ts ≡ false
unfolding sees
sees-apart xs ys [] e h = refl
sees-apart xs ys (t ∷ ts) e h = elim (cases_bool (member (kind_of t) xs)) [ inl is ↦ absurd (not_both _ h (member-apart (kind_of t) xs ys e is)) | inr is ↦ is ]

pub sees-among : (xs ys : List Kind) (ts : List Token) → among xs ys ≡ true → sees xs ts ≡ true → sees ys ts ≡ true
unfolding sees
sees-among xs ys [] e h = absurd cc
sees-among xs ys (t ∷ ts) e h = member-among (kind_of t) xs ys e h

pub unseen-among : (xs ys : List Kind) (ts : List Token) → among xs ys ≡ true → sees ys ts ≡ false → sees xs ts ≡ false
unseen-among xs ys ts e h = elim (cases_bool (sees xs ts)) [ inl is ↦ absurd (not_both _ (sees-among xs ys ts e is) h) | inr is ↦ is ]
