-- Reading tokens from the left by productions, with one token to choose by.
use Rattle.std.specs.Prelude.{ℕ, zero, suc, Bool, true, false, if◌then◌else◌, List, [], ◌∷◌, ◌++◌, length, ◌==◌, Option, Some, None}
use Rattle.ebr_grammar.specs.declared.kind.Kind.{Kind}
use Rattle.ebr_lexer.specs.declared.token.Token.{Token}
use Rattle.ebr_grammar.specs.Kinds.{kind_of, member}
use Rattle.ebr_grammar.specs.Forms.{Found, Reader, sees}
use Rattle.ebr_grammar.specs.Grammar.{Production, token, word, nothing, both, or, many, made, tested, led, named, outer}

-- what is found, and then what is found after it
abbrev pub and_then : {A B : Type 0} → Found A → (A → Reader B) → Found B
and_then None f = None
and_then (Some x) f = f x.0 x.1

-- what was found, behind what stood before it
abbrev pub with_first : {A B : Type 0} → A → Found (A → B) → Found B
with_first a found = and_then found (λ f end. Some (f a, end))

unfoldable pub next : List Token → List Token
next [] = []
next (t ∷ ts) = ts

-- a value, before these tokens
abbrev pub before : {C : Type 0} → List Token → Option C → Found C
before ts None = None
before ts (Some c) = Some (c, ts)

unfoldable pub read_token : {C : Type 0} → List Kind → (Token → Option C) → Reader C
read_token kinds f [] = None
read_token kinds f (t ∷ ts) = if member (kind_of t) kinds then before ts (f t) else None

abbrev pub read_word : {C : Type 0} → Kind → C → Reader C
read_word kind c ts = if sees (kind ∷ []) ts then Some (c, next ts) else None

-- what a named production may begin with, and what it may go on with where it could have ended
pub record Hints (K : Type 0) : Type 0 where
  pub begins : K → List Kind
  pub goes_on : K → List Kind

module _ {K : Type 0} {V : K → Type 0} (hints : Hints K) where
  abbrev pub nullable : {C : Type 0} → Production K V C → Bool
  nullable (token kinds f) = false
  nullable (word kind c) = false
  nullable (nothing x) = true
  nullable (both f g h) = if nullable g then nullable h else false
  nullable (or g h) = if nullable g then true else nullable h
  nullable (many f g) = true
  nullable (made f g) = nullable g
  nullable (tested f g) = nullable g
  nullable (led kinds g) = false
  nullable (named k f) = false
  nullable (outer o f) = false

  abbrev pub first : {C : Type 0} → Production K V C → List Kind
  first (token kinds f) = kinds
  first (word kind c) = kind ∷ []
  first (nothing x) = []
  first (both f g h) = if nullable g then first g ++ first h else first g
  first (or g h) = first g ++ first h
  first (many f g) = first g
  first (made f g) = first g
  first (tested f g) = first g
  first (led kinds g) = kinds
  first (named k f) = hints.begins k
  first (outer o f) = o.begins

-- many, as a loop over at most so many turns
unfoldable pub repeat : {A : Type 0} → List Kind → Reader A → ℕ → List A → Reader (List A)
repeat kinds r zero found ts = Some (found, ts)
repeat kinds r (suc n) found ts = if sees kinds ts then and_then (r ts) (λ a. repeat kinds r n (found ++ a ∷ [])) else Some (found, ts)

unfoldable pub reads : {K : Type 0} {V : K → Type 0} → Hints K → ((k : K) → Reader (V k)) → {C : Type 0} → Production K V C → Reader C
reads hints at (token kinds f) ts = read_token kinds f ts
reads hints at (word kind c) ts = read_word kind c ts
reads hints at (nothing x) ts = Some (x, ts)
reads hints at (both f g h) ts = and_then (reads hints at g ts) (λ a rest. and_then (reads hints at h rest) (λ b end. Some (f a b, end)))
reads hints at (or g h) ts = if sees (first hints g) ts then reads hints at g ts else reads hints at h ts
reads hints at (many f g) ts = and_then (repeat (first hints g) (reads hints at g) (length ts) [] ts) (λ found end. Some (f found, end))
reads hints at (made f g) ts = and_then (reads hints at g ts) (λ a end. Some (f a, end))
reads hints at (tested f g) ts = and_then (reads hints at g ts) (λ a end. before end (f a))
reads hints at (led kinds g) ts = reads hints at g ts
reads hints at (named k f) ts = and_then (at k ts) (λ a end. Some (f a, end))
reads hints at (outer o f) ts = and_then (o.reader ts) (λ a end. Some (f a, end))

-- to at most this depth
unfoldable pub reads_within : {K : Type 0} {V : K → Type 0} → Hints K → ((k : K) → Production K V (V k)) → ℕ → (k : K) → Reader (V k)
reads_within hints grammar zero k ts = None
reads_within hints grammar (suc n) k ts = reads hints (reads_within hints grammar n) (grammar k) ts

-- the tree, where no token is left
abbrev pub whole : {A : Type 0} → Found A → Option A
whole None = None
whole (Some x) = if length x.1 == 0 then Some x.0 else None
