-- The grammar of editioning views (Oracle Database SQL Language Reference 19c, CREATE VIEW; Database Development Guide
-- 19c, Editioning Views; which of their forms there are is this server's own choice):
--   EDITIONING VIEW n [( n {, n} )] AS SELECT n [[AS] n] {, n [[AS] n]} FROM n
use Rattle.std.specs.Prelude.{ℕ, List, [], ◌∷◌, Option, Some}
use Rattle.ebr_lexer.specs.declared.token.Token.{Token}
use Rattle.ebr_grammar.specs.declared.kind.Kind.TheVariants as k
use Rattle.ebr_grammar.specs.Forms.{Reader}
use Rattle.ebr_grammar.specs.Grammar.{nothing, both, many, made}
use Rattle.ebr_grammar.specs.Words.{◌▸◌, ◌◂◌, ◌∣◌, maybe, name}
use Rattle.ebr_ast.specs.declared.unit.EditioningView.{EditioningView}
use Rattle.ebr_ast.specs.declared.unit.ViewItem.{ViewItem}
use Rattle.ebr_ddlparse.specs.Base.{P, reading, SpellsBy, closed_names}

abbrev pub item_tree : List ℕ → Option (List ℕ) → ViewItem
item_tree column alias = record { column = column; alias = alias }

-- a view's name with its columns' names, and its items with the table
abbrev pub Head : Type 0
Head = List ℕ × List (List ℕ)

abbrev pub Body : Type 0
Body = List ViewItem × List ℕ

abbrev pub view_tree : Head → Body → EditioningView
view_tree head body = record { name = head.0; names = head.1; items = body.0; table = body.1 }

unfoldable pub alias : P (Option (List ℕ))
alias = k.As ▸ made Some name ∣ maybe name

unfoldable pub item : P ViewItem
item = both item_tree name alias

-- behind the first item
unfoldable pub more_items : P (ViewItem → List ViewItem)
more_items = many (λ found first. first ∷ found) (k.Comma ▸ item)

unfoldable pub items : P (List ViewItem)
items = both (λ first f. f first) item more_items

unfoldable pub selected : P (List ViewItem)
selected = k.As ▸ (k.Select ▸ items ◂ k.From)

unfoldable pub view_body : P Body
view_body = both (λ items table. (items, table)) selected name

-- the names of a view's columns, where they are given
unfoldable pub view_names : P (List (List ℕ))
view_names = k.LeftParen ▸ closed_names ∣ nothing []

unfoldable pub view_head : P Head
view_head = k.Editioning ▸ (k.View ▸ both (λ name names. (name, names)) name view_names)

unfoldable pub editioning_view : P EditioningView
editioning_view = both view_tree view_head view_body

-- The tokens spell the view.
abbrev pub SpellsView : List Token → EditioningView → Type 0
SpellsView = SpellsBy editioning_view

-- The reading of a view, from EDITIONING on.
unfoldable pub view_reader : Reader EditioningView
view_reader ts = reading editioning_view ts
