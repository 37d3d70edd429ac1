-- The objects of a view with what a key shows now.
use Rattle.std.specs.Prelude.{◌≡◌, ◌<◌, List, length}
use Rattle.ebr_base.specs.declared.numbers.EditionNo.{EditionNo}
use Rattle.ebr_base.specs.declared.numbers.TheConstants.{MAX_COUNT}
use Rattle.ebr_base.specs.declared.object.ObjectKey.{ObjectKey}
use Rattle.ebr_base.specs.declared.table.TableDef.{TableDef}
use Rattle.ebr_base.specs.Keys as keys
use Rattle.ebr_ast.specs.declared.view.EditionView.{EditionView}
use Rattle.ebr_ast.specs.declared.view.Object.{Object}
use Rattle.ebr_ast.specs.Views.{key_of}
use Rattle.ebr_cross.specs.Catalogue.{Lists, visible}
use Rattle.ebr_cross.specs.Places.{placed}

-- the objects with what an edition sees under a key now
abbrev pub with_seen : Lists → EditionNo → ObjectKey → List Object → List Object
with_seen c e key objects = placed keys.key_order key_of key (visible c e key) objects

-- The view has these objects and tables, and its objects can be counted.
pub record Shows (e : EditionNo) (objects : List Object) (tables : List TableDef) (v : EditionView) : Type 0 where
  pub is : v ≡ record { edition = e; objects = objects; tables = tables }
  pub few : length v.objects < MAX_COUNT
