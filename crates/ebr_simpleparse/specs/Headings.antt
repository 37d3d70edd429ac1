-- What stands behind IN in the heading of a FOR loop, up to and with LOOP (Oracle Database PL/SQL Language Reference 19c,
-- FOR LOOP Statement and Cursor FOR LOOP Statement; which of their forms there are is this server's own choice):
--   [REVERSE] e .. e LOOP | n LOOP | ( query ) LOOP
use Rattle.std.specs.Prelude.{Bool, ◌&&◌, ◌||◌, List, [], ◌∷◌, drop}
use Rattle.ebr_lexer.specs.declared.token.Token.{Token}
use Rattle.ebr_grammar.specs.declared.kind.Kind.TheVariants as k
use Rattle.ebr_grammar.specs.Kinds.{name_kinds}
use Rattle.ebr_grammar.specs.Forms.{Form, Reader, sees, either, by_test}
use Rattle.ebr_grammar.specs.Grammar.{both, made, named, outer}
use Rattle.ebr_grammar.specs.Words.{◌▸◌, ◌◂◌, ◌∣◌, name}
use Rattle.ebr_exprtree.specs.declared.expression.Expr.{Expr}
use Rattle.ebr_ast.specs.declared.statement.RowsFrom.{RowsFrom}
use Rattle.ebr_ast.specs.declared.statement.RowsFrom.TheVariants as rows_of
use Rattle.ebr_sqlparse.specs.Parts.{query_part}
use Rattle.ebr_simpleparse.specs.declared.headings.Heading.{Heading}
use Rattle.ebr_simpleparse.specs.declared.headings.Heading.TheVariants as heading
use Rattle.ebr_simpleparse.specs.Productions.{P, a_bound, SpelledBy, reads_by, expr}

-- ( query ) | n
unfoldable pub rows_from : P RowsFrom
rows_from = k.LeftParen ▸ made rows_of.Query (outer query_part (λ q. q)) ◂ k.RightParen ∣ made rows_of.Cursor name

unfoldable pub rows : P Heading
rows = made heading.Rows (rows_from ◂ k.Loop)

-- e LOOP
unfoldable pub high_bound : P Expr
high_bound = expr ◂ k.Loop

-- [REVERSE] e .. e LOOP
unfoldable pub range : P Heading
range = both (λ bound high. heading.Range bound.0 bound.1 high) (named a_bound (λ bound. bound)) high_bound

-- ( SELECT stands in front
unfoldable pub begins_query : List Token → Bool
begins_query ts = sees (k.LeftParen ∷ []) ts && sees (k.Select ∷ []) (drop 1 ts)

-- a name stands in front, and LOOP behind it
unfoldable pub begins_cursor : List Token → Bool
begins_cursor ts = sees name_kinds ts && sees (k.Loop ∷ []) (drop 1 ts)

-- rows stand there: no bound begins so
unfoldable pub is_rows : List Token → Bool
is_rows ts = begins_query ts || begins_cursor ts

-- The tokens spell the heading from IN on, up to and with LOOP.
abbrev pub SpellsHeading : Form Heading
SpellsHeading = either (SpelledBy rows) (SpelledBy range)

-- The reading of a heading.
unfoldable pub heading_reader : Reader Heading
heading_reader ts = by_test is_rows (reads_by rows) (reads_by range) ts
