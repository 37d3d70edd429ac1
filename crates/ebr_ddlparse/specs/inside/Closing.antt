-- What the readers of a table's columns and its key give.
use Rattle.std.specs.Prelude.{ℕ, List, ◌∷◌, Some}
use Rattle.ebr_grammar.specs.declared.kind.Kind.TheVariants as k
use Rattle.ebr_grammar.specs.Forms.{Found, Reader}
use Rattle.ebr_grammar.specs.Reading.{and_then, before}
use Rattle.ebr_grammar.specs.Words.{mark}
use Rattle.ebr_ast.specs.declared.definition.ColumnTree.{ColumnTree}
use Rattle.ebr_ddlparse.specs.Tables.{Entry, Items, the_column, placed}
use Rattle.ebr_ddlparse.specs.Definitions.{reads_by}

-- the items, where the closing parenthesis follows
abbrev pub closing : Items → Reader Items
closing items ts = and_then (reads_by (mark k.RightParen) ts) (λ _ end. Some (items, end))

-- The items behind the first column that were found, where the closing parenthesis follows.
abbrev pub closed_behind : ColumnTree → Found (List Entry) → Found Items
closed_behind first found = and_then (and_then found (λ more end. before end (placed (the_column first ∷ more)))) closing

-- The columns with the key that was found, where the closing parenthesis follows.
abbrev pub closed_key : List ColumnTree → Found (List (List ℕ)) → Found Items
closed_key columns found = and_then found (λ key. closing (columns, key))
