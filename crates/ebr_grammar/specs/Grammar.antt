-- Productions of a grammar, what tokens they stand for, and what trees.
use Rattle.std.specs.Prelude.{◌≡◌, ℕ, zero, suc, true, ◌⊎◌, List, [], ◌∷◌, ◌++◌, Option, Some}
use Rattle.ebr_lexer.specs.declared.token.Token.{Token}
use Rattle.ebr_grammar.specs.declared.kind.Kind.{Kind}
use Rattle.ebr_grammar.specs.Kinds.{kind_of, member}
use Rattle.ebr_grammar.specs.Forms.{Form, Outer}

-- A production that stands for a C. The names of K stand for productions that are given elsewhere.
pub data Production (K : Type 0) (V : K → Type 0) : Type 0 → Type 1 where
  -- one token of one of these kinds, which has such a value
  token : {C : Type 0} → List Kind → (Token → Option C) → Production K V C
  -- the one token of a kind
  word : {C : Type 0} → Kind → C → Production K V C
  -- no token
  nothing : {C : Type 0} → C → Production K V C
  -- the first and then the second
  both : {A B C : Type 0} → (A → B → C) → Production K V A → Production K V B → Production K V C
  -- the first or the second
  or : {C : Type 0} → Production K V C → Production K V C → Production K V C
  -- any number of them
  many : {A C : Type 0} → (List A → C) → Production K V A → Production K V C
  -- the same tokens, for another tree
  made : {A C : Type 0} → (A → C) → Production K V A → Production K V C
  -- the same tokens, where a test gives another tree
  tested : {A C : Type 0} → (A → Option C) → Production K V A → Production K V C
  -- the same, which begins with one of these kinds
  led : {C : Type 0} → List Kind → Production K V C → Production K V C
  -- what a name stands for
  named : {C : Type 0} → (k : K) → (V k → C) → Production K V C
  -- a form of another grammar
  outer : {A C : Type 0} → Outer A → (A → C) → Production K V C

-- each of the trees in turn
abbrev pub SpellsEach : {A : Type 0} → Form A → List A → List Token → Type 0
SpellsEach F [] ts = ts ≡ []
SpellsEach F (a ∷ rest) ts = (x y : List Token) × (ts ≡ x ++ y) × F x a × SpellsEach F rest y

-- The tokens spell the tree by the production.
abbrev pub Spells : {K : Type 0} {V : K → Type 0} → ((k : K) → Form (V k)) → {C : Type 0} → Production K V C → Form C
Spells forms (token kinds f) ts c = (t : Token) × (ts ≡ t ∷ []) × (member (kind_of t) kinds ≡ true) × (f t ≡ Some c)
Spells forms (word kind c') ts c = (t : Token) × (ts ≡ t ∷ []) × (member (kind_of t) (kind ∷ []) ≡ true) × (c' ≡ c)
Spells forms (nothing x) ts c = (ts ≡ []) × (x ≡ c)
Spells forms (both f g h) ts c = (x y : List Token) × (a : _) × (b : _) × (ts ≡ x ++ y) × Spells forms g x a × Spells forms h y b × (f a b ≡ c)
Spells forms (or g h) ts c = Spells forms g ts c ⊎ Spells forms h ts c
Spells forms (many f g) ts c = (each : List _) × SpellsEach (Spells forms g) each ts × (f each ≡ c)
Spells forms (made f g) ts c = (a : _) × Spells forms g ts a × (f a ≡ c)
Spells forms (tested f g) ts c = (a : _) × Spells forms g ts a × (f a ≡ Some c)
Spells forms (led kinds g) ts c = Spells forms g ts c
Spells forms (named k f) ts c = (a : _) × forms k ts a × (f a ≡ c)
Spells forms (outer o f) ts c = (a : _) × o.form ts a × (f a ≡ c)

-- by derivations of at most this height
abbrev pub SpellsWithin : {K : Type 0} {V : K → Type 0} → ((k : K) → Production K V (V k)) → ℕ → (k : K) → Form (V k)
SpellsWithin grammar zero k ts a = ⊥
SpellsWithin grammar (suc n) k ts a = Spells (SpellsWithin grammar n) (grammar k) ts a

-- The tokens spell the tree of the name.
abbrev pub SpellsAny : {K : Type 0} {V : K → Type 0} → ((k : K) → Production K V (V k)) → (k : K) → Form (V k)
SpellsAny grammar k ts a = (n : ℕ) × SpellsWithin grammar n k ts a
