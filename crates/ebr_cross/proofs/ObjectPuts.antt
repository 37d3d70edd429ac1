-- Objects that are made actual, or would be one too many.
use Rattle.std.proofs.Common.{◌≡◌, ℕ, Bool, true, false, cond, List, Some, None, Ok, Err, refl, sym, ap, subst, ◌∙◌}
use Rattle.ebr_base.specs.declared.code.Code.{Code}
use Rattle.ebr_base.specs.declared.code.Code.TheVariants.{Ebr}
use Rattle.ebr_base.specs.declared.numbers.EditionNo.{EditionNo}
use Rattle.ebr_base.specs.declared.numbers.Stamp.{Stamp}
use Rattle.ebr_base.specs.declared.object.ObjectKey.{ObjectKey}
use Rattle.ebr_ast.specs.declared.unit.UnitTree.{UnitTree}
use Rattle.ebr_ast.specs.declared.view.Object.{Object}
use Rattle.ebr_editions.specs.declared.entry.EditionEntry.{EditionEntry}
use Rattle.ebr_editions.specs.Held.{Held, held}
use Rattle.ebr_editions.specs.Objects.{ObjectEntry, next_stamp, with_entry, put_answer}
use Rattle.ebr_tables.specs.Tables.{unless_refused}
use Rattle.ebr_cross.specs.declared.catalogue.Catalogue.{Catalogue}
use Rattle.ebr_cross.specs.declared.record.CatalogueRecord.TheVariants as made
use Rattle.ebr_cross.specs.Catalogue.{Lists, as_catalogue}
use Rattle.ebr_cross.specs.Definitions.{object_of, is_full, put_object}
use Rattle.ebr_cross.specs.Records.{with_object}
use Rattle.ebr_cross.specs.inside.Steps.{MakesObject}

-- what holds of whichever entries are held holds of those of the lists
for-lists : (old : Catalogue) (c : Lists) (P : List EditionEntry → List (ObjectEntry Object) → Type 0) → old ≡ as_catalogue c → ((entries : List (ObjectEntry Object)) → old.actuals ≡ held entries → P old.chain.made entries) → P c.editions.made c.entries
for-lists old c P h all = subst (λ (k : Catalogue). P k.chain.made c.entries) h (all c.entries (ap (λ (k : Catalogue). k.actuals) h))

module _ (c : Lists) (e : EditionNo) (key : ObjectKey) (o : Object) where
  is-put : (stamp : Stamp) → put_answer c.editions.made c.entries e key o ≡ Ok stamp → put_object c e key o ≡ Ok (made.Object o)
  is-put stamp h = by (is_full c e key o) h
    where
      by : (b : Bool) → cond b (Err (Ebr 34)) (Ok (next_stamp c.entries e)) ≡ Ok stamp → unless_refused (cond b (Some (Ebr 34)) None) (made.Object o) ≡ Ok (made.Object o)
      by true h = absurd cc
      by false h = refl

  is-refused : (code : Code) → put_answer c.editions.made c.entries e key o ≡ Err code → put_object c e key o ≡ Err code
  is-refused code h = by (is_full c e key o) h
    where
      by : (b : Bool) → cond b (Err (Ebr 34)) (Ok (next_stamp c.entries e)) ≡ Err code → unless_refused (cond b (Some (Ebr 34)) None) (made.Object o) ≡ Err code
      by true h = cc
      by false h = absurd cc

module _ (old : Catalogue) (c : Lists) (e : EditionNo) (key : ObjectKey) (text : List ℕ) (tree : UnitTree) (enabled : Bool) (o : Object) where
  -- an object that the edition may see is made
  pub object-allowed : (stamp : Stamp) → old ≡ as_catalogue c → o ≡ object_of c e key text tree enabled → ((entries : List (ObjectEntry Object)) → old.actuals ≡ held entries → Ok stamp ≡ put_answer old.chain.made entries e key o)
      → MakesObject (put_object c e key (object_of c e key text tree enabled)) (Ok o)
  object-allowed stamp h is accepted =
      let put : put_object c e key o ≡ Ok (made.Object o) = is-put c e key o stamp (sym (for-lists old c (λ m entries. Ok stamp ≡ put_answer m entries e key o) h accepted)) in
      ap (put_object c e key) (sym is) ∙ put

  -- one that would be one too many is refused
  pub object-full : (code : Code) → old ≡ as_catalogue c → o ≡ object_of c e key text tree enabled → ((entries : List (ObjectEntry Object)) → old.actuals ≡ held entries → Err code ≡ put_answer old.chain.made entries e key o)
      → put_object c e key (object_of c e key text tree enabled) ≡ Err code
  object-full code h is refused =
      ap (put_object c e key) (sym is) ∙ is-refused c e key o code (sym (for-lists old c (λ m entries. Err code ≡ put_answer m entries e key o) h refused))

-- the catalogue with other objects
pub with-entries : (old : Catalogue) (c : Lists) (actuals : Held Object) (entries : List (ObjectEntry Object)) → old ≡ as_catalogue c → actuals ≡ held entries
    → ◌≡◌ {A = Catalogue} (record { chain = old.chain; actuals = actuals; tables = old.tables }) (as_catalogue (record c { entries = entries }))
with-entries old c actuals entries h is =
    let make : Catalogue → Held Object → Catalogue = λ k a. record { chain = k.chain; actuals = a; tables = k.tables } in
    ap (λ k. make k actuals) h ∙ ap (make (as_catalogue c)) is

pub actuals-of : (old : Catalogue) (c : Lists) → old ≡ as_catalogue c → old.actuals ≡ held c.entries
actuals-of old c h = ap (λ (k : Catalogue). k.actuals) h

-- an object is put in the edition of its stamp, under its own key
pub object-put : (old : Catalogue) (c : Lists) (o x y z : Object) (key : ObjectKey) (actuals : Held Object) → old ≡ as_catalogue c → x ≡ o → y ≡ o → key ≡ y.key → z ≡ o
    → ((entries : List (ObjectEntry Object)) → old.actuals ≡ held entries → actuals ≡ held (with_entry entries x.stamp.edition key (Some z)))
    → ◌≡◌ {A = Catalogue} (record { chain = old.chain; actuals = actuals; tables = old.tables }) (as_catalogue (with_object c o.stamp.edition o.key (Some o)))
object-put old c o x y z key actuals h first second own same put =
    let entered : EditionNo → ObjectKey → Object → List (ObjectEntry Object) = λ e k s. with_entry c.entries e k (Some s) in
    with-entries old c actuals (entered o.stamp.edition o.key o) h
    (put c.entries (actuals-of old c h) ∙ ap held (ap (λ (s : Object). entered s.stamp.edition key z) first
    ∙ (ap (λ k. entered o.stamp.edition k z) (own ∙ ap (λ (s : Object). s.key) second) ∙ ap (entered o.stamp.edition o.key) same)))
