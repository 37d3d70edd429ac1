-- The sources of a statement. Each resolves, and no two have one alias.
-- Oracle Database SQL Language Reference 19c, SELECT, from_clause and t_alias; the codes are own in part.
use Rattle.std.specs.Prelude.{ℕ, Bool, if◌then◌else◌, codes, List, [], ◌∷◌, ◌++◌, Result, Ok, Err}
use Rattle.std.specs.List.{list_any}
use Rattle.std.specs.Option.{unwrap_or}
use Rattle.std.specs.Str.{bytes_eq}
use Rattle.ebr_base.specs.declared.code.Code.{Code}
use Rattle.ebr_base.specs.declared.value.ColType.TheVariants as column
use Rattle.ebr_ast.specs.declared.query.Source.{Source}
use Rattle.ebr_ast.specs.declared.query.Source.TheVariants as source
use Rattle.ebr_ast.specs.declared.view.EditionView.{EditionView}
use Rattle.ebr_names.specs.declared.column.ViewColumn.{ViewColumn}
use Rattle.ebr_names.specs.Columns.{columns_named}
use Rattle.ebr_sqlcheck.specs.Checked.{on, ambiguous}

-- a source as the statement sees it: what it is called, and its columns
pub record Relation : Type 0 where
  pub alias : List ℕ
  pub columns : List ViewColumn

-- what a source is called: its alias, or its name where it has none
abbrev pub alias_of : Source → List ℕ
alias_of source.Dual = codes "DUAL"
alias_of (source.Named name alias) = unwrap_or alias name

-- DUAL has the one column DUMMY (Oracle Database SQL Language Reference 19c, Selecting from the DUAL Table).
abbrev pub dual_columns : List ViewColumn
dual_columns = record { name = codes "DUMMY"; place = 0; ty = column.Text 1 } ∷ []

-- the columns of a source: those of an editioning view or a table, or the code where the name has none
abbrev pub columns_of : EditionView → Source → Result (List ViewColumn) Code
columns_of v source.Dual = Ok dual_columns
columns_of v (source.Named name alias) = columns_named v name

abbrev pub is_called : List ℕ → Relation → Bool
is_called alias r = bytes_eq alias r.alias

abbrev pub as_relation : List ℕ → List ViewColumn → Relation
as_relation alias columns = record { alias = alias; columns = columns }

abbrev pub unless_called : List ℕ → List Relation → List ViewColumn → Result Relation Code
unless_called alias before columns = if list_any (is_called alias) before then Err ambiguous else Ok (as_relation alias columns)

-- a source behind those before it, none of which has its alias
unfoldable pub next_relation : EditionView → List Relation → Source → Result Relation Code
next_relation v before s = on (unless_called (alias_of s) before) (columns_of v s)

-- sources behind those before them
abbrev pub relations_behind : EditionView → List Relation → List Source → Result (List Relation) Code
relations_behind v before [] = Ok before
relations_behind v before (s ∷ rest) = on (λ r. relations_behind v (before ++ r ∷ []) rest) (next_relation v before s)

-- The sources of a query, or the code of the first fault: source after source, first that it resolves, then its alias.
abbrev pub relations_of : EditionView → List Source → Result (List Relation) Code
relations_of v sources = relations_behind v [] sources
