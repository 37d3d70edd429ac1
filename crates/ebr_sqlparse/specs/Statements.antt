-- The grammar of SQL statements (Oracle Database SQL Language Reference 19c: SELECT, INSERT, UPDATE, DELETE, COMMIT, ROLLBACK,
-- SAVEPOINT, ALTER SESSION; which of their clauses there are is this server's own choice, and so is APPLY TRIGGER).
use Rattle.std.specs.Prelude.{ℕ, Bool, true, false, List, [], ◌∷◌, Option, Some}
use Rattle.ebr_grammar.specs.declared.kind.Kind.TheVariants as k
use Rattle.ebr_grammar.specs.Forms.{Form}
use Rattle.ebr_grammar.specs.Grammar.{word, nothing, both, many, made, led}
use Rattle.ebr_grammar.specs.Words.{◌▸◌, ◌◂◌, ◌∣◌, maybe, is_there, past}
use Rattle.ebr_exprtree.specs.declared.expression.Expr.{Expr}
use Rattle.ebr_ast.specs.declared.query.Query.{Query}
use Rattle.ebr_ast.specs.declared.query.SelectList.{SelectList}
use Rattle.ebr_ast.specs.declared.query.SelectList.TheVariants as select
use Rattle.ebr_ast.specs.declared.query.Item.{Item}
use Rattle.ebr_ast.specs.declared.query.ItemKind.{ItemKind}
use Rattle.ebr_ast.specs.declared.query.Source.{Source}
use Rattle.ebr_ast.specs.declared.query.Source.TheVariants as source_of
use Rattle.ebr_ast.specs.declared.query.SortKey.{SortKey}
use Rattle.ebr_ast.specs.declared.sql.SqlTree.{SqlTree}
use Rattle.ebr_ast.specs.declared.sql.SqlTree.TheVariants as tree
use Rattle.ebr_ast.specs.declared.sql.Insert.{Insert}
use Rattle.ebr_ast.specs.declared.sql.Update.{Update}
use Rattle.ebr_ast.specs.declared.sql.Assignment.{Assignment}
use Rattle.ebr_ast.specs.declared.sql.Delete.{Delete}
use Rattle.ebr_ast.specs.declared.sql.Transaction.{Transaction}
use Rattle.ebr_ast.specs.declared.sql.Transaction.TheVariants as transaction_of
use Rattle.ebr_sqlparse.specs.declared.queries.Tail.{Tail}
use Rattle.ebr_sqlparse.specs.declared.change.Changed.{Changed}
use Rattle.ebr_sqlparse.specs.Productions.{P, SpelledBy, expr, name, what}

-- ---- trees

abbrev pub item_with : ItemKind → Option (List ℕ) → Item
item_with what alias = record { what = what; alias = alias }

abbrev pub key_of : Expr → Bool → SortKey
key_of key descending = record { key = key; descending = descending }

abbrev pub tail_of : Option Expr → List SortKey → Bool → Tail
tail_of filter order for_update = record { filter = filter; order = order; for_update = for_update }

abbrev pub query_of : SelectList → List Source → Tail → Query
query_of list sources tail = record { list = list; sources = sources; filter = tail.filter; order = tail.order; for_update = tail.for_update }

abbrev pub insert_of : List ℕ → List (List ℕ) → List Expr → Insert
insert_of table columns values = record { table = table; columns = columns; values = values }

abbrev pub target_of : List ℕ → Option (List ℕ) → Changed
target_of table alias = record { table = table; alias = alias }

abbrev pub assignment_of : List ℕ → Expr → Assignment
assignment_of column value = record { column = column; value = value }

abbrev pub update_of : Changed → List Assignment → Option Expr → Update
update_of target sets filter = record { table = target.table; alias = target.alias; sets = sets; filter = filter }

abbrev pub delete_of : Changed → Option Expr → Delete
delete_of target filter = record { table = target.table; alias = target.alias; filter = filter }

-- ---- queries

-- [n]
unfoldable pub alias : P (Option (List ℕ))
alias = maybe name

-- [[AS] n]
unfoldable pub item_alias : P (Option (List ℕ))
item_alias = k.As ▸ made Some name ∣ alias

-- (e | aggregate) [[AS] n]
unfoldable pub item : P Item
item = both item_with what item_alias

-- {, item}, behind the first
unfoldable pub more_items : P (Item → List Item)
more_items = many (λ found first. first ∷ found) (k.Comma ▸ item)

unfoldable pub items : P (List Item)
items = both (λ first f. f first) item more_items

-- * | item {, item}
unfoldable pub select_list : P SelectList
select_list = word k.Star select.All ∣ made select.Items items

-- n [n] | DUAL
unfoldable pub source : P Source
source = word k.Dual source_of.Dual ∣ both (λ n a. source_of.Named n a) name alias

unfoldable pub more_sources : P (Source → List Source)
more_sources = many (λ found first. first ∷ found) (k.Comma ▸ source)

-- source {, source}
unfoldable pub sources : P (List Source)
sources = both (λ first f. f first) source more_sources

-- [WHERE e]
unfoldable pub filter : P (Option Expr)
filter = maybe (k.Where ▸ expr)

-- [ASC|DESC]
unfoldable pub direction : P Bool
direction = word k.Asc false ∣ is_there k.Desc

-- e [ASC|DESC]
unfoldable pub key : P SortKey
key = both key_of expr direction

unfoldable pub more_keys : P (SortKey → List SortKey)
more_keys = many (λ found first. first ∷ found) (k.Comma ▸ key)

-- key {, key}
unfoldable pub keys : P (List SortKey)
keys = both (λ first f. f first) key more_keys

-- [ORDER BY key {, key}]
unfoldable pub order : P (List SortKey)
order = k.Order ▸ k.By ▸ keys ∣ nothing []

-- [FOR UPDATE [NOWAIT]]
unfoldable pub for_update : P Bool
for_update = k.For ▸ k.Update ▸ made (λ _. true) (is_there k.Nowait) ∣ nothing false

-- [WHERE e] [ORDER BY key {, key}] [FOR UPDATE [NOWAIT]]
unfoldable pub query_tail : P Tail
query_tail = both (λ f (g : Option Expr → Tail). g f) filter (both (λ keys locks f. tail_of f keys locks) order for_update)

-- A query from its first source on, behind its list.
unfoldable pub query_rest : P (SelectList → Query)
query_rest = both (λ sources tail list. query_of list sources tail) sources query_tail

-- SELECT list FROM source {, source} [WHERE e] [ORDER BY key {, key}] [FOR UPDATE [NOWAIT]]
unfoldable pub query : P Query
query = k.Select ▸ both (λ list f. f list) select_list (k.From ▸ query_rest)

-- ---- changes of rows

unfoldable pub more_names : P (List ℕ → List (List ℕ))
more_names = many (λ found first. first ∷ found) (k.Comma ▸ name)

-- n {, n}
unfoldable pub names : P (List (List ℕ))
names = both (λ first f. f first) name more_names

-- [( n {, n} )]
unfoldable pub columns : P (List (List ℕ))
columns = k.LeftParen ▸ names ◂ k.RightParen ∣ nothing []

unfoldable pub more_exprs : P (Expr → List Expr)
more_exprs = many (λ found first. first ∷ found) (k.Comma ▸ expr)

-- e {, e}
unfoldable pub exprs : P (List Expr)
exprs = both (λ first f. f first) expr more_exprs

-- VALUES ( e {, e} )
unfoldable pub values : P (List Expr)
values = k.Values ▸ k.LeftParen ▸ exprs ◂ k.RightParen

-- INSERT INTO n [( n {, n} )] VALUES ( e {, e} )
unfoldable pub insert : P Insert
insert = k.Insert ▸ k.Into ▸ both (λ table (f : List ℕ → Insert). f table) name (both (λ columns values table. insert_of table columns values) columns values)

-- n [n]
unfoldable pub target : P Changed
target = both target_of name alias

-- n = e
unfoldable pub assignment : P Assignment
assignment = both assignment_of name (k.Equal ▸ expr)

unfoldable pub more_assignments : P (Assignment → List Assignment)
more_assignments = many (λ found first. first ∷ found) (k.Comma ▸ assignment)

-- n = e {, n = e}
unfoldable pub assignments : P (List Assignment)
assignments = both (λ first f. f first) assignment more_assignments

-- SET n = e {, n = e} [WHERE e]
unfoldable pub update_rest : P (Changed → Update)
update_rest = k.Set ▸ both (λ sets filter target. update_of target sets filter) assignments filter

-- UPDATE n [n] SET n = e {, n = e} [WHERE e]
unfoldable pub update : P Update
update = k.Update ▸ both (λ target f. f target) target update_rest

-- DELETE [FROM] n [n] [WHERE e]
unfoldable pub delete : P Delete
delete = k.Delete ▸ past k.From (both delete_of target filter)

-- APPLY TRIGGER n
unfoldable pub apply : P (List ℕ)
apply = k.Apply ▸ k.Trigger ▸ name

-- query | insert | update | delete | apply
unfoldable pub sql : P SqlTree
sql = led (k.Select ∷ []) (made tree.Query query)
    ∣ led (k.Insert ∷ []) (made tree.Insert insert)
    ∣ led (k.Update ∷ []) (made tree.Update update)
    ∣ led (k.Delete ∷ []) (made tree.Delete delete)
    ∣ made tree.Apply apply

-- ---- transactions and sessions

-- [TO [SAVEPOINT] n]
unfoldable pub back : P Transaction
back = k.To ▸ both (λ _ n. transaction_of.RollbackTo n) (is_there k.Savepoint) name ∣ nothing transaction_of.Rollback

-- COMMIT [WORK] | ROLLBACK [WORK] [TO [SAVEPOINT] n] | SAVEPOINT n
unfoldable pub transaction : P Transaction
transaction = k.Commit ▸ made (λ _. transaction_of.Commit) (is_there k.Work)
    ∣ k.Rollback ▸ both (λ _ t. t) (is_there k.Work) back
    ∣ k.Savepoint ▸ made transaction_of.Savepoint name

-- ALTER SESSION SET EDITION = n
unfoldable pub session : P (List ℕ)
session = k.Alter ▸ k.Session ▸ k.Set ▸ k.Edition ▸ k.Equal ▸ name

-- ---- what is spelled

-- The tokens spell the statement.
abbrev pub SpellsSql : Form SqlTree
SpellsSql = SpelledBy sql

abbrev pub SpellsTransaction : Form Transaction
SpellsTransaction = SpelledBy transaction

-- The tokens spell the choice of an edition, of this name.
abbrev pub SpellsSession : Form (List ℕ)
SpellsSession = SpelledBy session
