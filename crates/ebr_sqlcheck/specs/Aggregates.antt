-- Where aggregates and FOR UPDATE stand.
-- Oracle Database SQL Language Reference 19c, Aggregate Functions, and SELECT, for_update_clause; that ORDER BY doesn't stand
-- beside aggregates, and the code EBR-0017, are own.
use Rattle.std.specs.Prelude.{Bool, true, false, not, ◌&&◌, ◌||◌, List, [], ◌∷◌}
use Rattle.std.specs.List.{list_all, list_any}
use Rattle.ebr_ast.specs.declared.query.Item.{Item}
use Rattle.ebr_ast.specs.declared.query.ItemKind.{ItemKind}
use Rattle.ebr_ast.specs.declared.query.ItemKind.TheVariants as item
use Rattle.ebr_ast.specs.declared.query.Query.{Query}
use Rattle.ebr_ast.specs.declared.query.SelectList.{SelectList}
use Rattle.ebr_ast.specs.declared.query.SelectList.TheVariants as list
use Rattle.ebr_ast.specs.declared.query.SortKey.{SortKey}
use Rattle.ebr_ast.specs.declared.query.Source.{Source}
use Rattle.ebr_ast.specs.declared.query.Source.TheVariants as source
use Rattle.ebr_sqlcheck.specs.Checked.{Checked, must, both, misplaced}

abbrev pub is_aggregate_kind : ItemKind → Bool
is_aggregate_kind (item.Expr e) = false
is_aggregate_kind (item.Aggregate a) = true

abbrev pub is_aggregate : Item → Bool
is_aggregate i = is_aggregate_kind i.what

abbrev pub has_aggregate : SelectList → Bool
has_aggregate list.All = false
has_aggregate (list.Items items) = list_any is_aggregate items

abbrev pub all_aggregates : SelectList → Bool
all_aggregates list.All = false
all_aggregates (list.Items items) = list_all is_aggregate items

abbrev pub is_empty : List SortKey → Bool
is_empty [] = true
is_empty (k ∷ ks) = false

-- the one source is an editioning view or a table
abbrev pub is_one_table : List Source → Bool
is_one_table (source.Named name alias ∷ []) = true
is_one_table sources = false

-- where one item is an aggregate, all are, and there is no ORDER BY and no FOR UPDATE
abbrev pub aggregates_stand : Query → Bool
aggregates_stand q = not (has_aggregate q.list) || (all_aggregates q.list && is_empty q.order && not q.for_update)

-- FOR UPDATE has one source that isn't DUAL
abbrev pub lock_stands : Query → Bool
lock_stands q = not q.for_update || is_one_table q.sources

abbrev pub stands : Query → Checked
stands q = both (must misplaced (aggregates_stand q)) (must misplaced (lock_stands q))
