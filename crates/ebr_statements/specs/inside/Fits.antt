-- What each call asks for and leaves, whatever it answers.
use Rattle.std.specs.Prelude.{◌≡◌, ℕ, true, false, ◌&&◌, List}
use Rattle.std.specs.List.{AllByRecursion, list_any}
use Rattle.ebr_base.specs.declared.numbers.TableId.{TableId}
use Rattle.ebr_base.specs.declared.row.TxId.{TxId}
use Rattle.ebr_ast.specs.declared.view.EditionView.{EditionView}
use Rattle.ebr_locks.specs.Locks.{same_tx}
use Rattle.ebr_tx.specs.Data.{Data}
use Rattle.ebr_cross.specs.declared.catalogue.Catalogue.{Catalogue}
use Rattle.ebr_database.specs.Storable.{AllStorable}
use Rattle.ebr_exec.specs.Places.{Under, is_table}
use Rattle.ebr_levels.specs.Keeps.{UnderChange}
use Rattle.ebr_statements.specs.declared.ready.Ready.{Ready as Held}
use Rattle.ebr_statements.specs.inside.Opened.{IsOpen, Stays}
use Rattle.ebr_statements.specs.Fits.{IsFit, StayCurrent}

-- which tables are under change, by these statements
abbrev pub under_by : List Under → UnderChange
under_by changing t table = list_any (λ (u : Under). same_tx u.tx t && is_table u.table table) changing

-- the tables that editions see
abbrev pub HasTables : Catalogue → Held → Type 0
HasTables now h = h.book.tables ≡ now.tables.living

abbrev pub HaveTables : Catalogue → List Held → Type 0
HaveTables now hs = AllByRecursion (HasTables now) hs

-- a body can go on that has so many autonomous transactions open
pub record FitsOpen (now : Catalogue) (views : List EditionView) (d : Data) (under : UnderChange) (t : TxId) (n : ℕ) : Type 0 where
  pub fit : IsFit now views d
  pub opened : IsOpen under t n d

-- what an ask of a body leaves, before which so many autonomous transactions were open, and behind it so many
pub record RemainsOpen (now : Catalogue) (t : TxId) (under : UnderChange) (n : ℕ) (views : List EditionView) (d : Data) (m : ℕ) (views' : List EditionView) (d' : Data) : Type 0 where
  pub current : StayCurrent now views views'
  pub stays : Stays under t n d m d'
  pub storable : AllStorable d'

-- These are under change, and not the statement's own tables.
pub record Spares (under : UnderChange) (t : TxId) (changing : List Under) (tables : List TableId) : Type 0 where
  pub own : (x : TableId) → list_any (is_table x) tables ≡ true → under t x ≡ false
  pub others : (x : TableId) → under t x ≡ true → under_by changing t x ≡ true

-- The statement's own tables are under change.
abbrev pub Covers : List Under → TxId → List TableId → Type 0
Covers changing t tables = (x : TableId) → list_any (is_table x) tables ≡ true → under_by changing t x ≡ true
