-- What is planned may be carried out, and is what the record says.
use Rattle.std.proofs.Common.{◌≡◌, ℕ, Bool, true, false, cond, ◌&&◌, not, List, [], ◌∷◌, refl, sym, ap, subst, ◌∙◌}
use Rattle.std.specs.Prelude.{IfOk, Some, None, Result, Ok, Err}
use Rattle.std.specs.List.{list_any}
use Rattle.std.specs.Str.{bytes_eq}
use Rattle.std.specs.Cmp.Lexicographic.{bytes_decides}
use Rattle.std.proofs.lemmas.Bool.{or_parts}
use Rattle.std.proofs.lemmas.Cmp.{nat_list_eq_equiv}
use Rattle.std.proofs.lemmas.Option.{same_Some}
use Rattle.ebr_base.specs.declared.code.Code.{Code}
use Rattle.ebr_base.specs.declared.code.Code.TheVariants.{Ebr}
use Rattle.ebr_base.specs.declared.numbers.EditionNo.{EditionNo}
use Rattle.ebr_base.specs.declared.numbers.TableId.{TableId}
use Rattle.ebr_base.specs.declared.object.ObjectKey.{ObjectKey}
use Rattle.ebr_base.specs.declared.table.Column as column
use Rattle.ebr_base.specs.declared.table.TableDef.{TableDef}
use Rattle.ebr_base.specs.Keys.{table_named}
use Rattle.ebr_ast.specs.declared.definition.ObjectKind.{ObjectKind}
use Rattle.ebr_ast.specs.declared.unit.UnitTree.{UnitTree}
use Rattle.ebr_ast.specs.declared.view.Object.{Object}
use Rattle.ebr_tables.specs.Definitions.{has_repetition}
use Rattle.ebr_tables.specs.Tables.{AllTables, AreTables, add_refusal, has_id, same_table_name, table_of_id, unless_refused}
use Rattle.ebr_cross.specs.declared.catalogue.Catalogue.{Catalogue}
use Rattle.ebr_cross.specs.declared.record.CatalogueRecord.{CatalogueRecord}
use Rattle.ebr_cross.specs.declared.record.CatalogueRecord.TheVariants as made
use Rattle.ebr_cross.specs.Catalogue.{Lists}
use Rattle.ebr_cross.specs.Definitions.{is_full, object_of, put_object}
use Rattle.ebr_cross.specs.Following.{MayFollow}
use Rattle.ebr_cross.specs.Kinds.{key_of}
use Rattle.ebr_record.specs.declared.record.DroppedClass.{DroppedClass}
use Rattle.ebr_record.specs.declared.record.DroppedClass.TheVariants as dropped
use Rattle.ebr_record.specs.declared.record.Record.TheVariants as left
use Rattle.ebr_core.specs.Records.{gone, with_named}
use Rattle.ebr_allowed.specs.Allowed.{may_be_enabled, may_put}
use Rattle.ebr_recovery.specs.declared.fault.RecoveryFault.{RecoveryFault}
use Rattle.ebr_recovery.specs.inside.Plans.{IsPlan}

-- a table that is found by its id is of another name than one before it, where no name is there twice
other_name : (u : TableDef) (id : TableId) (ts : List TableDef) (t : TableDef) → list_any (same_table_name u) ts ≡ false → table_of_id id ts ≡ Some t → bytes_eq t.name u.name ≡ false
other_name u id [] t none e = cc
other_name u id (x ∷ ts) t none e = let s = or_parts (same_table_name u x) (list_any (same_table_name u) ts) none in by (has_id id x) s.0 e (other_name u id ts t s.1)
  where
    by : (b : Bool) → same_table_name u x ≡ false → cond b (Some x) (table_of_id id ts) ≡ Some t → (table_of_id id ts ≡ Some t → bytes_eq t.name u.name ≡ false) → bytes_eq t.name u.name ≡ false
    by true here e rest = nat_list_eq_equiv.symm t.name u.name ∙ ap (same_table_name u) (sym (same_Some x t e)) ∙ here
    by false here e rest = rest e

named_by_id : (id : TableId) (ts : List TableDef) (t : TableDef) → has_repetition same_table_name ts ≡ false → table_of_id id ts ≡ Some t → table_named t.name ts ≡ Some t
named_by_id id [] t none e = cc
named_by_id id (u ∷ ts) t none e =
    let s = or_parts (list_any (same_table_name u) ts) (has_repetition same_table_name ts) none in
    by (has_id id u) s.0 e (named_by_id id ts t s.1)
  where
    by : (b : Bool) → list_any (same_table_name u) ts ≡ false → cond b (Some u) (table_of_id id ts) ≡ Some t → (table_of_id id ts ≡ Some t → table_named t.name ts ≡ Some t) → cond (bytes_eq t.name u.name) (Some u) (table_named t.name ts) ≡ Some t
    by true others e rest =
        let same : u ≡ t = same_Some u t e in
        subst (λ (x : TableDef). cond (bytes_eq x.name u.name) (Some u) (table_named x.name ts) ≡ Some x) same
        (ap (λ b. cond b (Some u) (table_named u.name ts)) ((bytes_decides u.name u.name).1 refl))
    by false others e rest = ap (λ b. cond b (Some u) (table_named t.name ts)) (other_name u id ts t others e) ∙ rest e

-- a refusal by the name of the table of an id
pub refusal_by_id : (s : AllTables) (id : TableId) (t : TableDef) (c : column.Column) → AreTables s → Some t ≡ table_of_id id s.living → add_refusal (table_named t.name s.living) c ≡ add_refusal (table_of_id id s.living) c
refusal_by_id s id t c are found = ap (λ o. add_refusal o c) (named_by_id id s.living t are.names (sym found) ∙ found)

-- ---- objects

ok_or : CatalogueRecord → Result CatalogueRecord Code → CatalogueRecord
ok_or x (Ok y) = y
ok_or x (Err code) = x

abbrev as_ok : CatalogueRecord → Result CatalogueRecord Code
as_ok x = Ok x

same_ok : (x y : CatalogueRecord) → as_ok x ≡ as_ok y → x ≡ y
unfolding ok_or
same_ok x y is = ap (ok_or x) is

put_plan : (c : Lists) (e : EditionNo) (key : ObjectKey) (o : Object) (m : CatalogueRecord) → put_object c e key o ≡ Ok m → (is_full c e key o ≡ false) × (made.Object o ≡ m)
put_plan c e key o m h = by (is_full c e key o) refl h
  where
    by : (b : Bool) → is_full c e key o ≡ b → unless_refused (cond b (Some (Ebr 34)) None) (made.Object o) ≡ Ok m → (is_full c e key o ≡ false) × (made.Object o ≡ m)
    by true is h = absurd cc
    by false is h = (is, same_ok (made.Object o) m h)

module _ (c : Lists) (e : EditionNo) (enabled : Bool) (text : List ℕ) (u : UnitTree) (k : ObjectKind) (name : List ℕ) where
  abbrev o : Object
  o = object_of c e (key_of k name) text u enabled

  pub named_planned : (m : CatalogueRecord) → may_be_enabled k enabled ≡ true → put_object c e (key_of k name) o ≡ Ok m
      → (may_put c e enabled text u (Some k) (Some name) ≡ true) × IsPlan c (with_named c e enabled text u (Some k) (Some name)) (left.Object e enabled text) m
  named_planned m may put =
      let p = put_plan c e (key_of k name) o m put in (
        ap (λ b. b && not (is_full c e (key_of k name) o)) may ∙ ap not p.0,
        subst (IsPlan c (with_named c e enabled text u (Some k) (Some name)) (left.Object e enabled text)) p.1 (record { is = refl; next = tt; leaves = refl }),
      )

-- ---- drops

-- of a drop nothing is asked
gone_follows : (now : Catalogue) (e : EditionNo) (class : DroppedClass) (name : List ℕ) → MayFollow now (gone e class name)
gone_follows now e dropped.Unit name = tt
gone_follows now e dropped.Body name = tt
gone_follows now e dropped.Trigger name = tt
gone_follows now e dropped.Package name = tt

pub drop_follows : (now : Catalogue) (e : EditionNo) (class : DroppedClass) (name : List ℕ) (result : Result CatalogueRecord RecoveryFault) → IfOk result (λ m. m ≡ gone e class name) → IfOk result (λ x. MayFollow now x)
drop_follows now e class name (Ok m) is = subst (MayFollow now) (sym is) (gone_follows now e class name)
drop_follows now e class name (Err fault) is = tt
