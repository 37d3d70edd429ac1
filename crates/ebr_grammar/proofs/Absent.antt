-- A kind that no production of a grammar mentions stands in no text that the grammar spells.
use Rattle.std.proofs.Common.{◌≡◌, ℕ, zero, suc, Bool, true, false, List, [], ◌∷◌, ◌++◌, refl, sym, subst, inl, inr}
use Rattle.std.specs.Prelude.{◌||◌, if◌then◌else◌}
use Rattle.ebr_grammar.specs.declared.kind.Kind.{Kind}
use Rattle.ebr_lexer.specs.declared.token.Token.{Token}
use Rattle.ebr_grammar.specs.Kinds.{kind_of, member}
use Rattle.ebr_grammar.specs.Forms.{Form}
use Rattle.ebr_grammar.specs.Grammar.{Production, token, word, nothing, both, or, many, made, tested, led, named, outer, SpellsEach, Spells, SpellsWithin, SpellsAny}
use Rattle.ebr_grammar.proofs.Next.{or_false, cases_bool, not_both, member-apart}

-- a token of the kind stands there
abbrev pub stands : Kind → List Token → Bool
stands kind [] = false
stands kind (t ∷ ts) = member (kind_of t) (kind ∷ []) || stands kind ts

-- The production takes tokens of the kind, itself; a form of another grammar may take any.
abbrev pub mentions : Kind → {K : Type 0} {V : K → Type 0} {C : Type 0} → Production K V C → Bool
mentions kind (token kinds f) = member kind kinds
mentions kind (word other c) = member kind (other ∷ [])
mentions kind (nothing x) = false
mentions kind (both f g h) = mentions kind g || mentions kind h
mentions kind (or g h) = mentions kind g || mentions kind h
mentions kind (many f g) = mentions kind g
mentions kind (made f g) = mentions kind g
mentions kind (tested f g) = mentions kind g
mentions kind (led kinds g) = mentions kind g
mentions kind (named k f) = false
mentions kind (outer o f) = true

apart_of : (b : Bool) → b ≡ false → (if b then false else true) ≡ true
apart_of true e = absurd cc
apart_of false e = refl

unlike : (kind : Kind) (t : Token) (kinds : List Kind) → member kind kinds ≡ false → member (kind_of t) kinds ≡ true → member (kind_of t) (kind ∷ []) ≡ false
unlike kind t kinds other is =
    elim (cases_bool (member (kind_of t) (kind ∷ []))) [
      | inl it ↦ absurd (not_both (member (kind_of t) kinds) is (member-apart (kind_of t) (kind ∷ []) kinds (apart_of (member kind kinds) other) it))
      | inr it ↦ it
    ]

pub neither : (a b : Bool) → a ≡ false → b ≡ false → (a || b) ≡ false
neither true b p q = absurd cc
neither false b p q = q

pub stands-append : (kind : Kind) (x y : List Token) → stands kind x ≡ false → stands kind y ≡ false → stands kind (x ++ y) ≡ false
stands-append kind [] y p q = q
stands-append kind (t ∷ x) y p q =
    let parts = or_false (member (kind_of t) (kind ∷ [])) (stands kind x) p in
    neither (member (kind_of t) (kind ∷ [])) (stands kind (x ++ y)) parts.0 (stands-append kind x y parts.1 q)

pub absent_token : (kind : Kind) (kinds : List Kind) (ts : List Token) (t : Token) → member kind kinds ≡ false → ts ≡ t ∷ [] → member (kind_of t) kinds ≡ true → stands kind ts ≡ false
absent_token kind kinds ts t other e is =
    subst (λ (z : List Token). stands kind z ≡ false) (sym e) (neither (member (kind_of t) (kind ∷ [])) false (unlike kind t kinds other is) refl)

pub joined : (kind : Kind) (ts x y : List Token) → ts ≡ x ++ y → stands kind x ≡ false → stands kind y ≡ false → stands kind ts ≡ false
joined kind ts x y e p q = subst (λ (z : List Token). stands kind z ≡ false) (sym e) (stands-append kind x y p q)

absent_each : (kind : Kind) {A : Type 0} (F : Form A) → ((ts : List Token) (a : A) → F ts a → stands kind ts ≡ false) → (all : List A) (ts : List Token) → SpellsEach F all ts → stands kind ts ≡ false
absent_each kind F h [] ts s = subst (λ (z : List Token). stands kind z ≡ false) (sym s) refl
absent_each kind F h (a ∷ all) ts s = joined kind ts s.0 s.1 s.2 (h s.0 a s.3) (absent_each kind F h all s.1 s.4)

module _ (kind : Kind) {K : Type 0} {V : K → Type 0} (given : (k : K) → Form (V k)) (none : (k : K) (ts : List Token) (a : V k) → given k ts a → stands kind ts ≡ false) where
  pub absent : {C : Type 0} (g : Production K V C) → mentions kind g ≡ false → (ts : List Token) (c : C) → Spells given g ts c → stands kind ts ≡ false
  absent (token kinds f) other ts c s = absent_token kind kinds ts s.0 other s.1 s.2
  absent (word it d) other ts c s = absent_token kind (it ∷ []) ts s.0 other s.1 s.2
  absent (nothing x) other ts c s = subst (λ (z : List Token). stands kind z ≡ false) (sym s.0) refl
  absent (both f g h) other ts c s =
      let p = or_false (mentions kind g) (mentions kind h) other in
      joined kind ts s.0 s.1 s.4 (absent g p.0 s.0 s.2 s.5) (absent h p.1 s.1 s.3 s.6)
  absent (or g h) other ts c (inl s) = absent g (or_false (mentions kind g) (mentions kind h) other).0 ts c s
  absent (or g h) other ts c (inr s) = absent h (or_false (mentions kind g) (mentions kind h) other).1 ts c s
  absent (many f g) other ts c s = absent_each kind (Spells given g) (absent g other) s.0 ts s.1
  absent (made f g) other ts c s = absent g other ts s.0 s.1
  absent (tested f g) other ts c s = absent g other ts s.0 s.1
  absent (led kinds g) other ts c s = absent g other ts c s
  absent (named k f) other ts c s = none k ts s.0 s.1
  absent (outer o f) other ts c s = absurd cc

module _ (kind : Kind) {K : Type 0} {V : K → Type 0} (grammar : (k : K) → Production K V (V k)) (other : (k : K) → mentions kind (grammar k) ≡ false) where
  absent_within : (n : ℕ) (k : K) (ts : List Token) (a : V k) → SpellsWithin grammar n k ts a → stands kind ts ≡ false
  absent_within zero k ts a s = absurd s
  absent_within (suc n) k ts a s = absent kind (SpellsWithin grammar n) (absent_within n) (grammar k) (other k) ts a s

  pub absent_any : (k : K) (ts : List Token) (a : V k) → SpellsAny grammar k ts a → stands kind ts ≡ false
  absent_any k ts a s = absent_within s.0 k ts a s.1
