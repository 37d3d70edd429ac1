-- Where a statement stands, and what it reads of the catalogue.
use Rattle.std.specs.Prelude.{ℕ, Bool, ◌&&◌, ◌==◌, List, [], ◌∷◌, Option, Some, None, option_map}
use Rattle.std.specs.List.{list_any, filter_map}
use Rattle.ebr_base.specs.declared.numbers.EditionNo.{EditionNo}
use Rattle.ebr_base.specs.declared.numbers.TableId.{TableId}
use Rattle.ebr_base.specs.declared.row.TxId.{TxId}
use Rattle.ebr_base.specs.declared.table.TableDef.{TableDef}
use Rattle.ebr_exprtree.specs.declared.op.Op.{Op}
use Rattle.ebr_exprtree.specs.declared.op.Op.TheVariants as op
use Rattle.ebr_ast.specs.declared.kinds.Origin.{Origin}
use Rattle.ebr_ast.specs.declared.kinds.Origin.TheVariants.{Plain}
use Rattle.ebr_ast.specs.declared.kinds.Timing.{Timing}
use Rattle.ebr_ast.specs.declared.kinds.Timing.TheVariants as timing
use Rattle.ebr_ast.specs.declared.query.Source.{Source}
use Rattle.ebr_ast.specs.declared.query.Source.TheVariants as source
use Rattle.ebr_ast.specs.declared.sql.SqlTree.{SqlTree}
use Rattle.ebr_ast.specs.declared.sql.SqlTree.TheVariants as sql
use Rattle.ebr_ast.specs.declared.view.EditionView.{EditionView}
use Rattle.ebr_locks.specs.Locks.{same_tx}
use Rattle.ebr_cross.specs.Catalogue.{Lists, View}
use Rattle.ebr_fire.specs.declared.firing.Firing.{Firing}
use Rattle.ebr_fire.specs.Fires.{Fires as fired_by}
use Rattle.ebr_query.specs.Seen.{table_of}
use Rattle.ebr_database.specs.Outcome.{Question}
use Rattle.ebr_database.specs.Outcome.Question.{Fires}

-- A table that a statement of this transaction is changing.
pub record Under : Type 0 where
  pub table : TableId
  pub tx : TxId

-- Where a statement stands: the edition of its code, what it is issued by, its transaction, which is on top of its session's
-- stack, and the tables that the statements around it are changing. A session's own statement has none around it.
pub record Place : Type 0 where
  pub edition : EditionNo
  pub origin : Origin
  pub tx : TxId
  pub changing : List Under

-- where a session's own statement stands
abbrev pub own_place : EditionNo → TxId → Place
own_place e t = record { edition = e; origin = Plain; tx = t; changing = [] }

-- What statements read of the catalogue: what each edition sees, and which triggers fire.
pub record Names : Type 0 where
  pub view : EditionNo → EditionView
  pub fires : EditionNo → List ℕ → Op → Timing → Origin → List Firing

abbrev pub names_of : Lists → Names
names_of c = record { view = View c; fires = fired_by c }

-- ---- the tables of a statement

abbrev pub id_of : TableDef → TableId
id_of def = def.id

abbrev pub named_table : EditionView → List ℕ → Option TableId
named_table v name = option_map id_of (table_of v name)

abbrev pub source_table : EditionView → Source → Option TableId
source_table v source.Dual = None
source_table v (source.Named name alias) = named_table v name

abbrev pub one : Option TableId → List TableId
one None = []
one (Some id) = id ∷ []

-- the tables that a statement reads or writes
abbrev pub touched : EditionView → SqlTree → List TableId
touched v (sql.Query q) = filter_map (source_table v) q.sources
touched v (sql.Insert i) = one (named_table v i.table)
touched v (sql.Update u) = one (named_table v u.table)
touched v (sql.Delete d) = one (named_table v d.table)
touched v (sql.Apply name) = []

abbrev pub is_table : TableId → TableId → Bool
is_table a b = a.0 == b.0

abbrev pub is_changing : TxId → List TableId → Under → Bool
is_changing t tables u = same_tx u.tx t && list_any (is_table u.table) tables

-- ---- the triggers of a statement

-- what a statement fires: the name that it gives, and its operation
abbrev pub target : SqlTree → Option (List ℕ × Op)
target (sql.Query q) = None
target (sql.Insert i) = Some (i.table, op.Insert)
target (sql.Update u) = Some (u.table, op.Update)
target (sql.Delete d) = Some (d.table, op.Delete)
target (sql.Apply name) = None

abbrev pub questions_on : Place → Option (List ℕ × Op) → List Question
questions_on p None = []
questions_on p (Some on) = Fires p.edition on.0 on.1 timing.Before p.origin ∷ Fires p.edition on.0 on.1 timing.After p.origin ∷ []
