-- Productions that hold no other by its name, and lists of names.
use Rattle.std.specs.Prelude.{ℕ, List, [], ◌∷◌, None}
use Rattle.ebr_grammar.specs.declared.kind.Kind.TheVariants as k
use Rattle.ebr_grammar.specs.Forms.{Form, Reader}
use Rattle.ebr_grammar.specs.Grammar.{Production, both, many, Spells}
use Rattle.ebr_grammar.specs.Reading.{Hints, reads}
use Rattle.ebr_grammar.specs.Words.{◌▸◌, ◌◂◌, name}

abbrev pub P : Type 0 → Type 1
P C = Production ⊥ (λ _. ⊥) C

unfoldable pub hints : Hints ⊥
hints = record { begins = λ _. []; goes_on = λ _. [] }

-- what is read by a production
abbrev pub reading : {C : Type 0} → P C → Reader C
reading g = reads hints (λ _ ts. None) g

-- The tokens spell the tree by the production.
abbrev pub SpellsBy : {C : Type 0} → P C → Form C
SpellsBy g = Spells (λ _ ts a. ⊥) g

unfoldable pub one_name : P (List ℕ)
one_name = name

-- behind the first name
unfoldable pub more_names : P (List ℕ → List (List ℕ))
more_names = many (λ found first. first ∷ found) (k.Comma ▸ one_name)

-- one or more, with commas
unfoldable pub names : P (List (List ℕ))
names = both (λ first f. f first) one_name more_names

-- behind the opening parenthesis
unfoldable pub closed_names : P (List (List ℕ))
closed_names = names ◂ k.RightParen
