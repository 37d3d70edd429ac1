-- The type of a variable, before which CONSTANT may stand (Oracle Database PL/SQL Language Reference 19c, Constant
-- Declaration): [CONSTANT] type. CONSTANT is no reserved word, so before a dot it names a table.
use Rattle.std.specs.Prelude.{Bool, true, false, not, ◌&&◌, List, [], ◌∷◌, drop, None}
use Rattle.ebr_lexer.specs.declared.token.Token.{Token}
use Rattle.ebr_grammar.specs.declared.kind.Kind.TheVariants as k
use Rattle.ebr_grammar.specs.Forms.{Form, Reader, sees, either, by_test}
use Rattle.ebr_grammar.specs.Grammar.{Production, outer, Spells}
use Rattle.ebr_grammar.specs.Reading.{Hints, reads}
use Rattle.ebr_grammar.specs.Words.{◌▸◌}
use Rattle.ebr_ast.specs.declared.statement.DeclaredType.{DeclaredType}
use Rattle.ebr_ddlparse.specs.Parts.{type_part}

-- productions that hold none by its name
abbrev pub Plain : Type 0 → Type 1
Plain C = Production ⊥ (λ _. ⊥) C

abbrev pub plain_hints : Hints ⊥
plain_hints = record { begins = λ _. []; goes_on = λ _. [] }

-- The tokens spell the tree by the production.
abbrev pub SpelledPlainly : {C : Type 0} → Plain C → Form C
SpelledPlainly g = Spells (λ _ ts a. ⊥) g

-- what is read by the production
abbrev pub reads_plainly : {C : Type 0} → Plain C → Reader C
reads_plainly g = reads plain_hints (λ _ ts. None) g

-- whether it is a constant, and its type
abbrev pub Typed : Type 0
Typed = Bool × DeclaredType

-- CONSTANT type
unfoldable pub constant : Plain Typed
constant = k.Constant ▸ outer type_part (λ ty. (true, ty))

-- type
unfoldable pub variable : Plain Typed
variable = outer type_part (λ ty. (false, ty))

-- CONSTANT stands in front, and no dot behind it
unfoldable pub is_constant : List Token → Bool
is_constant ts = sees (k.Constant ∷ []) ts && not (sees (k.Dot ∷ []) (drop 1 ts))

-- [CONSTANT] type
abbrev pub SpellsTyped : Form Typed
SpellsTyped = either (SpelledPlainly constant) (SpelledPlainly variable)

-- The reading of a type, before which CONSTANT may stand.
unfoldable pub typed_reader : Reader Typed
typed_reader ts = by_test is_constant (reads_plainly constant) (reads_plainly variable) ts
