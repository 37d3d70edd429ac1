-- What a unit's tree defines: an object of a kind, under a name.
-- Oracle Database SQL Language Reference 19c, Database Object Naming Rules: objects of one name space have different
-- names. The name spaces here are the three classes (own).
use Rattle.std.specs.Prelude.{ℕ, Bool, true, false, List, Option, Some, None}
use Rattle.ebr_base.specs.declared.object.Class.{Class}
use Rattle.ebr_base.specs.declared.object.Class.TheVariants as class
use Rattle.ebr_base.specs.declared.object.ObjectKey.{ObjectKey}
use Rattle.ebr_ast.specs.declared.definition.ObjectKind.{ObjectKind}
use Rattle.ebr_ast.specs.declared.definition.ObjectKind.TheVariants as kind
use Rattle.ebr_ast.specs.declared.unit.ParameterType.{ParameterType}
use Rattle.ebr_ast.specs.declared.unit.UnitTree.{UnitTree}
use Rattle.ebr_ast.specs.declared.unit.UnitTree.TheVariants as unit

-- a function has a result, a procedure has none
abbrev pub subprogram_kind : Option ParameterType → ObjectKind
subprogram_kind None = kind.Procedure
subprogram_kind (Some ty) = kind.Function

-- The kind of object that a unit is. A block is none: no text that defines an object spells one.
abbrev pub kind_of : UnitTree → Option ObjectKind
kind_of (unit.Subprogram s) = Some (subprogram_kind s.head.result)
kind_of (unit.Package name items) = Some kind.Package
kind_of (unit.PackageBody b) = Some kind.PackageBody
kind_of (unit.Trigger t) = Some kind.Trigger
kind_of (unit.View v) = Some kind.View
kind_of (unit.Block b) = None

abbrev pub name_of : UnitTree → Option (List ℕ)
name_of (unit.Subprogram s) = Some s.head.name
name_of (unit.Package name items) = Some name
name_of (unit.PackageBody b) = Some b.name
name_of (unit.Trigger t) = Some t.name
name_of (unit.View v) = Some v.name
name_of (unit.Block b) = None

abbrev pub class_of : ObjectKind → Class
class_of kind.PackageBody = class.Body
class_of kind.Trigger = class.Trigger
class_of k = class.Unit

abbrev pub key_of : ObjectKind → List ℕ → ObjectKey
key_of k name = record { class = class_of k; name = name }

-- the key of a procedure, function, package specification or view
abbrev pub unit_key : List ℕ → ObjectKey
unit_key name = record { class = class.Unit; name = name }

abbrev pub is_unit_class : Class → Bool
is_unit_class class.Unit = true
is_unit_class c = false

abbrev pub same_kind : ObjectKind → ObjectKind → Bool
same_kind kind.Procedure kind.Procedure = true
same_kind kind.Function kind.Function = true
same_kind kind.Package kind.Package = true
same_kind kind.PackageBody kind.PackageBody = true
same_kind kind.Trigger kind.Trigger = true
same_kind kind.View kind.View = true
same_kind j k = false

abbrev pub is_kind : ObjectKind → Option ObjectKind → Bool
is_kind k None = false
is_kind k (Some other) = same_kind k other

-- whether a unit is an object of a kind
abbrev pub is_of_kind : ObjectKind → UnitTree → Bool
is_of_kind k u = is_kind k (kind_of u)
