-- Forms that tokens may have, and readers of tokens.
use Rattle.std.specs.Prelude.{Bool, false, ◌⊎◌, if◌then◌else◌, List, [], ◌∷◌, Option, Some, None}
use Rattle.ebr_lexer.specs.declared.token.Token.{Token}
use Rattle.ebr_grammar.specs.declared.kind.Kind.{Kind}
use Rattle.ebr_grammar.specs.Kinds.{kind_of, member}

-- Which tokens stand for which trees.
abbrev pub Form : Type 0 → Type 1
Form A = List Token → A → Type 0

-- A tree and the tokens after it, or none.
abbrev pub Found : Type 0 → Type 0
Found A = Option (A × List Token)

abbrev pub Reader : Type 0 → Type 0
Reader A = List Token → Found A

-- The next token is of one of these kinds.
unfoldable pub sees : List Kind → List Token → Bool
sees kinds [] = false
sees kinds (t ∷ ts) = member (kind_of t) kinds

-- the kind of the first token
abbrev pub ahead : List Token → Option Kind
ahead [] = None
ahead (t ∷ ts) = Some (kind_of t)

-- A form with its reader, and with what it begins and may go on: how the trees of one grammar stand in another.
pub record Outer (A : Type 0) : Type 1 where
  pub begins : List Kind
  pub goes_on : List Kind
  pub form : Form A
  pub reader : Reader A

-- one of two forms
abbrev pub either : {A : Type 0} → Form A → Form A → Form A
either F G ts a = F ts a ⊎ G ts a

-- one of two readers, by a test on the tokens
abbrev pub by_test : {A : Type 0} → (List Token → Bool) → Reader A → Reader A → Reader A
by_test p r s ts = if p ts then r ts else s ts
