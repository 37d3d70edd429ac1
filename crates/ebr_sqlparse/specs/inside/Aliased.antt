-- What the readers of an item give.
use Rattle.std.specs.Prelude.{Some}
use Rattle.ebr_grammar.specs.Forms.{Found}
use Rattle.ebr_grammar.specs.Reading.{and_then}
use Rattle.ebr_ast.specs.declared.query.Item.{Item}
use Rattle.ebr_ast.specs.declared.query.ItemKind.{ItemKind}
use Rattle.ebr_sqlparse.specs.Productions.{reads_by}
use Rattle.ebr_sqlparse.specs.Statements.{item_with, item_alias}

-- what was found of an item, with the alias that stands behind it
abbrev pub aliased : Found ItemKind → Found Item
aliased found = and_then found (λ what rest. and_then (reads_by item_alias rest) (λ alias end. Some (item_with what alias, end)))
