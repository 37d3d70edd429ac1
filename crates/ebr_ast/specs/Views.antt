-- What is looked up in what an edition sees.
-- Oracle Database Development Guide 19c, Using Edition-Based Redefinition, Name Resolution for Editioned and Noneditioned
-- Objects; that names of classes are apart, and the order of the objects, is own.
use Rattle.std.specs.Prelude.{◌<◌, ℕ, List, map, length, find, Option}
use Rattle.std.specs.List.Sorted.{IsStrictlySortedBy}
use Rattle.ebr_base.specs.declared.numbers.TheConstants.{MAX_COUNT}
use Rattle.ebr_base.specs.declared.object.Class.TheVariants as class
use Rattle.ebr_base.specs.declared.object.ObjectKey.{ObjectKey}
use Rattle.ebr_base.specs.Keys.{same_key, key_order}
use Rattle.ebr_ast.specs.declared.view.EditionView.{EditionView}
use Rattle.ebr_ast.specs.declared.view.Object.{Object}

abbrev pub key_of : Object → ObjectKey
key_of o = o.key

-- the key of the procedure, function, package or editioning view of a name
abbrev pub unit_key : List ℕ → ObjectKey
unit_key name = record { class = class.Unit; name = name }

-- the visible object of a key
abbrev pub object_of : ObjectKey → List Object → Option Object
object_of key objects = find (λ (o : Object). same_key key o.key) objects

-- the visible procedure, function, package or editioning view of a name
abbrev pub unit_named : List ℕ → List Object → Option Object
unit_named name objects = object_of (unit_key name) objects

-- What holds of all that an edition sees: its objects stand in the order of their keys, each key once, and they can be
-- counted.
pub record IsInOrder (v : EditionView) : Type 0 where
  pub objects : IsStrictlySortedBy key_order (map key_of v.objects)
  pub few : length v.objects < MAX_COUNT
