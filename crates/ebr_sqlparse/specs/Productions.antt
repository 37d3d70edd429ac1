-- Productions of statements, and what reading by them gives. Two forms stand in them: expressions, as a form of another
-- grammar, and what an item of a list is, as the one name, since it is told by three tokens. No statement stands in another.
use Rattle.std.specs.Prelude.{ℕ, List, ◌∷◌}
use Rattle.ebr_grammar.specs.declared.kind.Kind.TheVariants as k
use Rattle.ebr_grammar.specs.Forms.{Form, Reader}
use Rattle.ebr_grammar.specs.Grammar.{Production, named, Spells}
use Rattle.ebr_grammar.specs.Reading.{Hints, reads}
use Rattle.ebr_grammar.specs.Words as words
use Rattle.ebr_exprtree.specs.declared.expression.Expr.{Expr}
use Rattle.ebr_ast.specs.declared.query.ItemKind.{ItemKind}
use Rattle.ebr_exprparse.specs.declared.level.Level.TheVariants.{Whole}
use Rattle.ebr_exprparse.specs.Expressions as expressions
use Rattle.ebr_exprparse.specs.Parts as parts
use Rattle.ebr_sqlparse.specs.declared.items.Part.{Part}
use Rattle.ebr_sqlparse.specs.declared.items.Part.TheVariants.{What}
use Rattle.ebr_sqlparse.specs.Items.{SpellsWhat, read_what}

abbrev pub P : Type 0 → Type 1
P C = Production Part (λ _. ItemKind) C

abbrev pub SpellsPart : Part → Form ItemKind
SpellsPart _ = SpellsWhat

abbrev pub part_reader : Part → Reader ItemKind
part_reader _ = read_what

abbrev pub hints : Hints Part
hints = record { begins = λ _. k.Count ∷ expressions.begins Whole; goes_on = λ _. expressions.goes_on Whole }

-- The tokens spell the tree by the production.
abbrev pub SpelledBy : {C : Type 0} → P C → Form C
SpelledBy g ts c = Spells SpellsPart g ts c

-- What reading by the production gives.
abbrev pub reads_by : {C : Type 0} → P C → Reader C
reads_by g ts = reads hints part_reader g ts

-- e
abbrev pub expr : P Expr
expr = parts.expr

-- n
abbrev pub name : P (List ℕ)
name = words.name

-- What an item is, without its alias.
abbrev pub what : P ItemKind
what = named What (λ w. w)
