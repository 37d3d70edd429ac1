-- Objects stand under their own keys.
use Rattle.std.proofs.Common.{◌≡◌, ℕ, Bool, true, false, cond, ◌&&◌, List, [], ◌∷◌, ◌++◌, fold, Option, Some, None, option_map, IfSome, is_some, Result, Ok, Err, IfOk, refl, sym, ap, ◌∙◌}
use Rattle.std.specs.List.{AllByRecursion}
use Rattle.std.specs.Ordering.{nat_cmp, ordering_then, ordering_reverse, is_eq}
use Rattle.std.specs.Cmp.{IsTotalOrder}
use Rattle.std.specs.Cmp.Lexicographic.{slice_cmp, on_texts}
use Rattle.std.specs.Str.{bytes_eq}
use Rattle.std.specs.declared.cmp.Ordering.{Ordering}
use Rattle.std.specs.declared.cmp.Ordering.TheVariants.{Less, Equal, Greater}
use Rattle.std.proofs.lemmas.Bool.{and_parts}
use Rattle.std.proofs.lemmas.Cmp.{nat_cmp_total, then_total, on_total}
use Rattle.std.proofs.lemmas.Map.Text.{is_eq-slice_cmp}
use Rattle.std.proofs.lemmas.Slice.Eq.{bytes_eq-Decides}
use Rattle.ebr_base.specs.declared.code.Stop.{Stop}
use Rattle.ebr_base.specs.declared.numbers.EditionNo.{EditionNo}
use Rattle.ebr_base.specs.declared.object.Class.{Class}
use Rattle.ebr_base.specs.declared.object.Class.TheVariants as class
use Rattle.ebr_base.specs.declared.object.ObjectKey.{ObjectKey}
use Rattle.ebr_base.specs.Keys.{class_place, key_order, same_class, same_key}
use Rattle.ebr_ast.specs.declared.definition.ObjectKind.TheVariants as kind
use Rattle.ebr_ast.specs.declared.view.Object.{Object}
use Rattle.ebr_editions.specs.Editions.{line_of}
use Rattle.ebr_editions.specs.Objects.{ObjectEntry, entry_or, nearest, is_in, is_entry_of, next_stamp, with_entry, last_entry, Visible}
use Rattle.ebr_cross.specs.declared.record.CatalogueRecord.{CatalogueRecord}
use Rattle.ebr_cross.specs.declared.record.CatalogueRecord.TheVariants as made
use Rattle.ebr_cross.specs.Catalogue.{Lists, HasOwnKey, HaveOwnKeys, visible}
use Rattle.ebr_cross.specs.Kinds.{key_of}
use Rattle.ebr_cross.specs.Records.{with_record}

pub key_total : IsTotalOrder key_order
key_total = then_total (on_total (λ (k : ObjectKey). class_place k.class) nat_cmp_total) (on_texts (λ (k : ObjectKey). k.name))

is_eq-reverse : (o : Ordering) → is_eq (ordering_reverse o) ≡ is_eq o
is_eq-reverse Less = refl
is_eq-reverse Equal = refl
is_eq-reverse Greater = refl

by_class : (a b : Class) (m n : List ℕ) → (same_class a b && bytes_eq m n) ≡ is_eq (ordering_then (nat_cmp (class_place a) (class_place b)) (slice_cmp nat_cmp m n))
by_class class.Unit class.Unit m n = sym (is_eq-slice_cmp m n)
by_class class.Unit class.Body m n = refl
by_class class.Unit class.Trigger m n = refl
by_class class.Body class.Unit m n = refl
by_class class.Body class.Body m n = sym (is_eq-slice_cmp m n)
by_class class.Body class.Trigger m n = refl
by_class class.Trigger class.Unit m n = refl
by_class class.Trigger class.Body m n = refl
by_class class.Trigger class.Trigger m n = sym (is_eq-slice_cmp m n)

-- keys are the same where they stand at one place of the order
pub same-order : (a b : ObjectKey) → same_key a b ≡ is_eq (key_order a b)
same-order a b = by_class a.class b.class a.name b.name

pub same-turned : (a b : ObjectKey) → same_key a b ≡ is_eq (key_order b a)
same-turned a b = same-order a b ∙ (ap is_eq (key_total.antisymm a b) ∙ is_eq-reverse (key_order b a))

class-same : (a b : Class) → same_class a b ≡ true → a ≡ b
class-same class.Unit class.Unit h = refl
class-same class.Unit class.Body h = absurd cc
class-same class.Unit class.Trigger h = absurd cc
class-same class.Body class.Unit h = absurd cc
class-same class.Body class.Body h = refl
class-same class.Body class.Trigger h = absurd cc
class-same class.Trigger class.Unit h = absurd cc
class-same class.Trigger class.Body h = absurd cc
class-same class.Trigger class.Trigger h = refl

pub key-same : (a b : ObjectKey) → same_key a b ≡ true → a ≡ b
key-same a b h =
    let both = and_parts (same_class a.class b.class) (bytes_eq a.name b.name) h in
    let key : Class → List ℕ → ObjectKey = λ c n. record { class = c; name = n } in
    ap (λ c. key c a.name) (class-same a.class b.class both.0) ∙ ap (key b.class) ((bytes_eq-Decides a.name b.name).0 both.1)

pub key-exact : (a b : ObjectKey) → key_order a b ≡ Equal → a ≡ b
key-exact a b h = key-same a b (same-order a b ∙ ap is_eq h)

abbrev under : ObjectKey → Option Object → Type 0
under key o = IfSome o (λ (x : Object). x.key ≡ key)

abbrev entered-under : ObjectKey → Option (ObjectEntry Object) → Type 0
entered-under key found = IfSome found (λ (x : ObjectEntry Object). under key x.object)

under-same : (a b : ObjectKey) (o : Option Object) → a ≡ b → under a o → under b o
under-same a b None same h = tt
under-same a b (Some x) same h = h ∙ same

last-under : (e : EditionNo) (key : ObjectKey) (entries : List (ObjectEntry Object)) (found : Option (ObjectEntry Object)) → AllByRecursion HasOwnKey entries → entered-under key found
    → entered-under key (fold (λ f x. cond (is_entry_of e key x) (Some x) f) found entries)
last-under e key [] found all h = h
last-under e key (x ∷ xs) found all h = last-under e key xs (cond (is_entry_of e key x) (Some x) found) all.1 (by (is_entry_of e key x) refl)
  where
    by : (b : Bool) → is_entry_of e key x ≡ b → entered-under key (cond b (Some x) found)
    by true t = under-same x.key key x.object (sym (key-same key x.key (and_parts (is_in e x) (same_key key x.key) t).1)) all.0
    by false t = h

nearest-under : (key : ObjectKey) (at : EditionNo → Option (ObjectEntry Object)) → ((d : EditionNo) → entered-under key (at d)) → (line : List EditionNo) → under key (nearest (λ d. option_map (λ (x : ObjectEntry Object). x.object) (at d)) line)
nearest-under key at all [] = tt
nearest-under key at all (d ∷ ds) = by (at d) (all d) (nearest-under key at all ds)
  where
    by : (found : Option (ObjectEntry Object)) → entered-under key found → under key (nearest (λ d. option_map (λ (x : ObjectEntry Object). x.object) (at d)) ds)
        → under key (entry_or (option_map (λ (x : ObjectEntry Object). x.object) found) (nearest (λ d. option_map (λ (x : ObjectEntry Object). x.object) (at d)) ds))
    by None h rest = rest
    by (Some x) h rest = h

-- what is seen under a key has that key
pub seen-under : (c : Lists) → HaveOwnKeys c → (e : EditionNo) (key : ObjectKey) (o : Object) → visible c e key ≡ Some o → o.key ≡ key
seen-under c own e key o seen = by (visible c e key) seen (nearest-under key (λ d. last_entry c.entries d key) (λ d. last-under d key c.entries None own tt) (line_of c.editions.made e))
  where
    by : (x : Option Object) → x ≡ Some o → under key x → o.key ≡ key
    by None e h = absurd cc
    by (Some x) e h = let same : x ≡ o = cc in ap (λ (y : Object). y.key) (sym same) ∙ h

one-more : (entries : List (ObjectEntry Object)) (e : EditionNo) (key : ObjectKey) (o : Option Object) → AllByRecursion HasOwnKey entries → under key o → AllByRecursion HasOwnKey (with_entry entries e key o)
one-more entries e key o own h = pushed entries own
  where
    pushed : (xs : List (ObjectEntry Object)) → AllByRecursion HasOwnKey xs → AllByRecursion HasOwnKey (xs ++ record { edition = e; key = key; object = o; stamp = next_stamp entries e } ∷ [])
    pushed [] all = (h, tt)
    pushed (x ∷ xs) all = (all.0, pushed xs all.1)

-- each record enters an object under its own key
pub own_kept : (c : Lists) (r : CatalogueRecord) → HaveOwnKeys c → HaveOwnKeys (with_record c r)
own_kept c (made.Edition name parent) own = own
own_kept c (made.EditionGone e) own = own
own_kept c (made.Default e) own = own
own_kept c (made.Object o) own = one-more c.entries o.stamp.edition o.key (Some o) own refl
own_kept c (made.ObjectGone e key) own = one-more c.entries e key None own tt
own_kept c (made.PackageGone e name) own = by (is_some (Visible c.editions.made c.entries e (key_of kind.PackageBody name))) (one-more c.entries e (key_of kind.Package name) None own tt)
  where
    by : (b : Bool) → AllByRecursion HasOwnKey (with_entry c.entries e (key_of kind.Package name) None)
        → AllByRecursion HasOwnKey (cond b (with_entry (with_entry c.entries e (key_of kind.Package name) None) e (key_of kind.PackageBody name) None) (with_entry c.entries e (key_of kind.Package name) None))
    by true h = one-more (with_entry c.entries e (key_of kind.Package name) None) e (key_of kind.PackageBody name) None h tt
    by false h = h
own_kept c (made.Table d) own = own
own_kept c (made.Column id column) own = own
own_kept c (made.TableGone id) own = own
