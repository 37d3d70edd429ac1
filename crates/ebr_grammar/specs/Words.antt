-- Words in which grammars are written.
use Rattle.std.specs.Prelude.{ℕ, Bool, true, false, List, Option, Some, None}
use Rattle.ebr_grammar.specs.declared.kind.Kind.{Kind}
use Rattle.ebr_grammar.specs.Kinds.{name_kinds}
use Rattle.ebr_grammar.specs.Grammar.{Production, token, word, nothing, both, or, many, made}
use Rattle.ebr_grammar.specs.Outcome.{named_by}

-- the one token of a kind, for no tree
abbrev pub mark : {K : Type 0} {V : K → Type 0} → Kind → Production K V (Unit {0})
mark kind = word kind tt

-- what stands behind a token
infixr 6 ◌▸◌
abbrev pub ◌▸◌ : {K : Type 0} {V : K → Type 0} {C : Type 0} → Kind → Production K V C → Production K V C
kind ▸ g = both (λ _ c. c) (mark kind) g

-- what stands before a token
infixl 7 ◌◂◌
abbrev pub ◌◂◌ : {K : Type 0} {V : K → Type 0} {C : Type 0} → Production K V C → Kind → Production K V C
g ◂ kind = both (λ c _. c) g (mark kind)

-- one or the other
infixr 4 ◌∣◌
abbrev pub ◌∣◌ : {K : Type 0} {V : K → Type 0} {C : Type 0} → Production K V C → Production K V C → Production K V C
g ∣ h = or g h

-- one, or nothing
abbrev pub maybe : {K : Type 0} {V : K → Type 0} {C : Type 0} → Production K V C → Production K V (Option C)
maybe g = or (made Some g) (nothing None)

-- whether a word stands there
abbrev pub is_there : {K : Type 0} {V : K → Type 0} → Kind → Production K V Bool
is_there kind = or (word kind true) (nothing false)

-- what stands behind a word, or without it
abbrev pub past : {K : Type 0} {V : K → Type 0} {C : Type 0} → Kind → Production K V C → Production K V C
past kind g = both (λ _ c. c) (is_there kind) g

-- a name
abbrev pub name : {K : Type 0} {V : K → Type 0} → Production K V (List ℕ)
name = token name_kinds named_by

-- any number of them
abbrev pub all : {K : Type 0} {V : K → Type 0} {C : Type 0} → Production K V C → Production K V (List C)
all g = many (λ found. found) g
