-- Productions of units, and what reading by them gives. No production is named: what nests stands in the forms of other
-- grammars.
use Rattle.std.specs.Prelude.{[], None}
use Rattle.ebr_grammar.specs.declared.kind.Kind.TheVariants as k
use Rattle.ebr_grammar.specs.Forms.{Form, Reader, Outer}
use Rattle.ebr_grammar.specs.Grammar.{Production, outer, Spells}
use Rattle.ebr_grammar.specs.Reading.{Hints, reads}
use Rattle.ebr_grammar.specs.Words.{mark, ◌∣◌}

abbrev pub P : Type 0 → Type 1
P C = Production ⊥ (λ _. ⊥) C

unfoldable pub hints : Hints ⊥
hints = record { begins = λ _. []; goes_on = λ _. [] }

-- What reading by the production gives.
abbrev pub reads_by : {C : Type 0} → P C → Reader C
reads_by g = reads hints (λ _ ts. None) g

-- The tokens spell the tree by the production.
abbrev pub SpelledBy : {C : Type 0} → P C → Form C
SpelledBy g = Spells (λ _ ts a. ⊥) g

-- what a form of another grammar spells
abbrev pub part : {A : Type 0} → Outer A → P A
part form = outer form (λ a. a)

-- IS | AS
unfoldable pub is_or_as : P (Unit {0})
is_or_as = mark k.Is ∣ mark k.As
