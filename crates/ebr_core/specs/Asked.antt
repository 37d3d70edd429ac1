-- What the engine needs of an ask.
use Rattle.std.specs.Prelude.{◌≡◌, ◌≤◌, ℕ, List, length, Some}
use Rattle.std.specs.List.{AllByRecursion}
use Rattle.ebr_ast.specs.declared.definition.Definition.{Definition}
use Rattle.ebr_script.specs.Pieces.{CreatesObject, stored_definition}
use Rattle.ebr_asks.specs.declared.ask.Ask.{Ask}
use Rattle.ebr_asks.specs.declared.ask.Ask.TheVariants.{Ddl}
use Rattle.ebr_asks.specs.declared.entry.Entry.{Entry}

-- the most bytes of a text that goes with a definition, as of a script (own)
abbrev pub max_text : ℕ
max_text = 1048576

-- A text that goes with a definition: the stored text of the object that it creates.
pub record IsTextOf (what : Definition) (text : List ℕ) : Type 0 where
  pub spelled : CreatesObject what → stored_definition text ≡ Some what
  pub small : length text ≤ max_text

-- what the engine needs of an ask
abbrev pub IsFit : Ask → Type 0
IsFit (Ddl what text) = IsTextOf what text
IsFit ask = Unit {0}

-- every ask of the history is fit
abbrev pub AreFit : List Entry → Type 0
AreFit history = AllByRecursion (λ (x : Entry). IsFit x.ask) history
