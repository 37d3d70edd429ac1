-- What a session's statement asks for, and what it leaves, whatever it answers.
use Rattle.std.specs.Prelude.{◌≡◌, List}
use Rattle.ebr_base.specs.declared.row.TxId.{TxId}
use Rattle.ebr_ast.specs.declared.sql.SqlTree.{SqlTree}
use Rattle.ebr_ast.specs.declared.sql.SqlTree.TheVariants as sql
use Rattle.ebr_ast.specs.declared.view.EditionView.{EditionView}
use Rattle.ebr_cross.specs.declared.catalogue.Catalogue.{Catalogue}
use Rattle.ebr_cross.specs.Catalogue.{Lists, HaveOwnKeys, View, as_catalogue}
use Rattle.ebr_tx.specs.Data.{Data}
use Rattle.ebr_dml.specs.Steps.{AreKnown}
use Rattle.ebr_database.specs.Storable.{AllStorable}
use Rattle.ebr_exec.specs.Narrow.{AreNarrow}
use Rattle.ebr_levels.specs.Keeps.{UnderChange}
use Rattle.ebr_levels.specs.Levels.{GoesBack, IsTop, Leaves}
use Rattle.ebr_units.specs.Living.{AreCurrent, ForBooks}

-- There are lists that the catalogue keeps, in which objects stand under their own keys, and the books are of what editions see of
-- these.
pub record IsCurrent (now : Catalogue) (views : List EditionView) : Type 0 where
  pub lists : Lists
  pub own_keys : HaveOwnKeys lists
  pub current : AreCurrent lists views
  pub is : now ≡ as_catalogue lists

-- This is so of whichever lists the catalogue keeps of which the books and the view are.
abbrev pub ForViews : Catalogue → List EditionView → EditionView → (Lists → Type 0) → Type 0
ForViews now views v P = (c : Lists) → HaveOwnKeys c → AreCurrent c views → now ≡ as_catalogue c → v ≡ View c v.edition → P c

-- The books are current, and the tables are there.
pub record IsFit (now : Catalogue) (views : List EditionView) (d : Data) : Type 0 where
  pub current : IsCurrent now views
  pub known : AreKnown d now.tables.living
  pub narrow : AreNarrow now.tables.living
  pub storable : AllStorable d

-- a statement can run in this transaction
pub record Fits (now : Catalogue) (views : List EditionView) (d : Data) (t : TxId) : Type 0 where
  pub fit : IsFit now views d
  pub top : IsTop d t

-- books that were current are
abbrev pub StayCurrent : Catalogue → List EditionView → List EditionView → Type 0
StayCurrent now old new = ForBooks now old (λ lists. AreCurrent lists new)

-- what a statement leaves
pub record Remains (now : Catalogue) (t : TxId) (under : UnderChange) (views : List EditionView) (d : Data) (views' : List EditionView) (d' : Data) : Type 0 where
  pub current : StayCurrent now views views'
  pub leaves : Leaves d t under d'
  pub storable : AllStorable d'

-- What is as before where a statement gives up: of a query all data, and its keeper, which wasn't asked; of a change its transaction and
-- all others, but for what autonomous transactions committed.
abbrev pub IsAsBefore : {K : Type 0} → SqlTree → TxId → Data → Data → K → K → Type 0
IsAsBefore (sql.Query q) t old new keeper keeper' = (new ≡ old) × (keeper' ≡ keeper)
IsAsBefore s t old new keeper keeper' = GoesBack old t new
