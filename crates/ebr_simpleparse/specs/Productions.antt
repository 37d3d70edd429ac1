-- Productions of declarations and of statements that hold no others, and what reading by them gives. Two forms stand in them
-- by name, since they are told by more than one token: a type before which CONSTANT may stand, and the low bound of a range.
use Rattle.std.specs.Prelude.{List, []}
use Rattle.ebr_grammar.specs.declared.kind.Kind.{Kind}
use Rattle.ebr_grammar.specs.Kinds.{name_kinds}
use Rattle.ebr_grammar.specs.Forms.{Form, Reader}
use Rattle.ebr_grammar.specs.Grammar.{Production, Spells}
use Rattle.ebr_grammar.specs.Reading.{Hints, reads}
use Rattle.ebr_exprtree.specs.declared.expression.Expr.{Expr}
use Rattle.ebr_exprparse.specs.declared.level.Level.TheVariants.{Whole}
use Rattle.ebr_exprparse.specs.Expressions as expressions
use Rattle.ebr_exprparse.specs.Parts as parts
use Rattle.ebr_ddlparse.specs.Types.{type_goes_on}
use Rattle.ebr_simpleparse.specs.Types.{Typed, SpellsTyped, typed_reader}
use Rattle.ebr_simpleparse.specs.Bounds.{Bound, SpellsBound}
use Rattle.ebr_simpleparse.specs.Looking.{bound_reader}

pub data Part : Type 0 where
  a_type : Part
  a_bound : Part

abbrev pub Tree : Part → Type 0
Tree a_type = Typed
Tree a_bound = Bound

-- what spells a part
abbrev pub SpellsPart : (part : Part) → Form (Tree part)
SpellsPart a_type = SpellsTyped
SpellsPart a_bound = SpellsBound

abbrev pub part_reader : (part : Part) → Reader (Tree part)
part_reader a_type = typed_reader
part_reader a_bound = bound_reader

unfoldable pub part_begins : Part → List Kind
part_begins a_type = name_kinds
part_begins a_bound = expressions.begins Whole

unfoldable pub part_goes_on : Part → List Kind
part_goes_on a_type = type_goes_on
part_goes_on a_bound = []

unfoldable pub hints : Hints Part
hints = record { begins = part_begins; goes_on = part_goes_on }

abbrev pub P : Type 0 → Type 1
P C = Production Part Tree C

-- The tokens spell the tree by the production.
abbrev pub SpelledBy : {C : Type 0} → P C → Form C
SpelledBy g = Spells SpellsPart g

-- What reading by the production gives.
abbrev pub reads_by : {C : Type 0} → P C → Reader C
reads_by g = reads hints part_reader g

-- e
abbrev pub expr : P Expr
expr = parts.expr
