-- What a piece begins with: its first words (Oracle Database PL/SQL Language Reference 19c, Block and the CREATE
-- statements; which pieces are units is own).
use Rattle.std.specs.Prelude.{◌≡◌, ℕ, Bool, if◌then◌else◌, List, [], ◌∷◌, ◌++◌, map, codes, ◌⊎◌}
use Rattle.ebr_lexer.specs.declared.token.TokenKind.{TokenKind}
use Rattle.ebr_lexer.specs.declared.token.TokenKind.TheVariants as kind
use Rattle.ebr_lexer.specs.Lexis as lexis
use Rattle.ebr_cut.specs.declared.span.Lead.{Lead}
use Rattle.ebr_cut.specs.declared.span.Lead.TheVariants as lead

-- the token of a part
abbrev pub token_of : lexis.Part → List TokenKind
token_of (lexis.Lexeme k) = k ∷ []
token_of part = []

-- the tokens among parts of a text
abbrev pub tokens_among : List lexis.Spelled → List TokenKind
tokens_among [] = []
tokens_among (p ∷ ps) = token_of p.part ++ tokens_among ps

-- The first tokens are these words; white bytes and comments may stand before each.
pub record BeginsWith (words : List (List ℕ)) (bytes : List ℕ) : Type 0 where
  pub parts : List lexis.Spelled
  pub rest : List ℕ
  pub stand : lexis.Stand parts bytes rest
  pub spells : tokens_among parts ≡ map kind.Word words

-- the objects that are made of PL/SQL
pub data Object : Type 0 where
  Procedure : Object
  Function : Object
  Package : Object
  Trigger : Object

abbrev pub word_of : Object → List ℕ
word_of Procedure = codes "PROCEDURE"
word_of Function = codes "FUNCTION"
word_of Package = codes "PACKAGE"
word_of Trigger = codes "TRIGGER"

abbrev pub or_replace : Bool → List (List ℕ) → List (List ℕ)
or_replace there words = if there then codes "OR" ∷ codes "REPLACE" ∷ words else words

abbrev pub editionable : Bool → List (List ℕ) → List (List ℕ)
editionable there words = if there then codes "EDITIONABLE" ∷ words else words

-- CREATE [OR REPLACE] [EDITIONABLE] (PROCEDURE | FUNCTION | PACKAGE | TRIGGER)
abbrev pub unit_head : Bool → Bool → Object → List (List ℕ)
unit_head replaced named object = codes "CREATE" ∷ or_replace replaced (editionable named (word_of object ∷ []))

abbrev pub BeginsUnit : List ℕ → Type 0
BeginsUnit bytes = (replaced named : Bool) × (object : Object) × BeginsWith (unit_head replaced named object) bytes

abbrev pub BeginsBlock : List ℕ → Type 0
BeginsBlock bytes = BeginsWith (codes "BEGIN" ∷ []) bytes ⊎ BeginsWith (codes "DECLARE" ∷ []) bytes

abbrev pub BeginsCall : List ℕ → Type 0
BeginsCall bytes = BeginsWith (codes "CALL" ∷ []) bytes

-- This stands in front.
abbrev pub Leads : Lead → List ℕ → Type 0
Leads lead.Unit bytes = BeginsUnit bytes
Leads lead.Block bytes = BeginsBlock bytes
Leads lead.Call bytes = BeginsCall bytes
Leads lead.Other bytes = (BeginsUnit bytes → ⊥) × (BeginsBlock bytes → ⊥) × (BeginsCall bytes → ⊥)
