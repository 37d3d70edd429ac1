-- What an edition sees after a record, from what it saw before.
use Rattle.std.proofs.Common.{◌≡◌, ◌<◌, ℕ, zero, suc, Bool, true, false, cond, ◌||◌, ◌&&◌, List, [], ◌∷◌, ◌++◌, map, length, fold, find, Option, Some, None, option_map, is_some, Result, Ok, Err, IfOk, refl, sym, ap, ◌∙◌, subst, append_assoc}
use Rattle.std.specs.List.{filter_map, list_any}
use Rattle.std.specs.Ordering.{is_eq}
use Rattle.std.specs.List.Sorted.{IsStrictlySortedBy}
use Rattle.std.specs.BTreeSet.{insert_key}
use Rattle.ebr_base.specs.declared.numbers.EditionNo.{EditionNo}
use Rattle.ebr_base.specs.declared.numbers.TheConstants.{MAX_COUNT}
use Rattle.ebr_base.specs.declared.object.ObjectKey.{ObjectKey}
use Rattle.ebr_base.specs.declared.table.TableDef.{TableDef}
use Rattle.ebr_base.specs.Keys.{key_order, same_key}
use Rattle.ebr_ast.specs.declared.definition.ObjectKind.TheVariants as kind
use Rattle.ebr_ast.specs.declared.view.EditionView.{EditionView}
use Rattle.ebr_ast.specs.declared.view.Object.{Object}
use Rattle.ebr_ast.specs.Views as views
use Rattle.ebr_ast.specs.Views.{IsInOrder}
use Rattle.ebr_editions.specs.declared.entry.EditionEntry.{EditionEntry}
use Rattle.ebr_editions.specs.Editions.{Editions, IsLine, is_numbered, parent_entry, parent_of, leaf, line_up, line_of, gone}
use Rattle.ebr_editions.specs.Objects.{ObjectEntry, with_key, nearest, is_in, is_entry_of, next_stamp, with_entry, last_entry, last_object, keys_of}
use Rattle.ebr_cross.specs.declared.record.CatalogueRecord.{CatalogueRecord}
use Rattle.ebr_cross.specs.declared.record.CatalogueRecord.TheVariants as made
use Rattle.ebr_cross.specs.declared.catalogue.Catalogue.{Catalogue}
use Rattle.ebr_editions.specs.Held.{ForEntries}
use Rattle.ebr_cross.specs.Catalogue.{Lists, ForLists, HaveOwnKeys, IsViewOf, View, in_order, as_catalogue, visible}
use Rattle.ebr_cross.specs.Kinds.{key_of}
use Rattle.ebr_cross.specs.Records.{with_child, with_object, with_record}
use Rattle.ebr_cross.specs.Places.{placed}
use Rattle.ebr_cross.specs.inside.Places.{with_seen, Shows}
use Rattle.ebr_cross.proofs.InOrder.{fold-push}
use Rattle.ebr_cross.proofs.NewEdition.{line-before-leaf}
use Rattle.ebr_cross.proofs.OwnKeys.{key_total, key-exact, same-order, same-turned, seen-under, own_kept}
use Rattle.ebr_cross.proofs.Placed.{sorted-insert, insert-there, any-insert, sorted-seen, seen-placed, seen-nothing}

sorted-fold : (keys acc : List ObjectKey) → IsStrictlySortedBy key_order acc → IsStrictlySortedBy key_order (fold (insert_key key_order) acc keys)
sorted-fold [] acc up = up
sorted-fold (k ∷ keys) acc up = sorted-fold keys (insert_key key_order acc k) (sorted-insert key_total acc k up)

sorted-none : IsStrictlySortedBy key_order []
unfolding IsStrictlySortedBy
sorted-none = tt

pub sorted-in_order : (keys : List ObjectKey) → IsStrictlySortedBy key_order (in_order keys)
unfolding in_order
sorted-in_order keys = sorted-fold keys [] sorted-none

or-false : (b : Bool) → b ≡ (b || false)
or-false true = refl
or-false false = refl

or-turned : (a b c : Bool) → ((a || b) || c) ≡ (b || (a || c))
or-turned true true c = refl
or-turned true false c = refl
or-turned false true c = refl
or-turned false false c = refl

pub any-fold : (p : ObjectKey → Bool) (keys acc : List ObjectKey) → list_any p (fold (insert_key key_order) acc keys) ≡ (list_any p acc || list_any p keys)
any-fold p [] acc = or-false (list_any p acc)
any-fold p (k ∷ keys) acc =
    any-fold p keys (insert_key key_order acc k) ∙ (ap (λ b. b || list_any p keys) (any-insert key-exact p acc k) ∙ or-turned (p k) (list_any p acc) (list_any p keys))

pub same-test : (k : ObjectKey) → same_key k ≡ (λ y. is_eq (key_order k y))
same-test k = λ i y. same-order k y i

-- keys in order with one more
pub more-in_order : (keys : List ObjectKey) (k : ObjectKey) → in_order (with_key keys k) ≡ insert_key key_order (in_order keys) k
unfolding in_order
more-in_order keys k = by (list_any (same_key k) keys) refl
  where
    by : (b : Bool) → list_any (same_key k) keys ≡ b → fold (insert_key key_order) [] (cond b keys (keys ++ k ∷ [])) ≡ insert_key key_order (fold (insert_key key_order) [] keys) k
    by true t =
        sym (insert-there key_total (fold (insert_key key_order) [] keys) k (sorted-fold keys [] sorted-none)
        (any-fold (λ y. is_eq (key_order k y)) keys [] ∙ (ap (λ p. list_any p keys) (sym (same-test k)) ∙ t)))
    by false f = fold-push (insert_key key_order) [] keys k

keys-more : (entries : List (ObjectEntry Object)) (e : EditionNo) (k : ObjectKey) (o : Option Object) → keys_of (with_entry entries e k o) ≡ with_key (keys_of entries) k
keys-more entries e k o = fold-push (λ keys (x : ObjectEntry Object). with_key keys x.key) [] entries (record { edition = e; key = k; object = o; stamp = next_stamp entries e })

pub and-false : (a b : Bool) → b ≡ false → (a && b) ≡ false
and-false true b h = h
and-false false b h = refl

-- another key has the same last entries
other-last : (entries : List (ObjectEntry Object)) (d e : EditionNo) (k q : ObjectKey) (o : Option Object) → same_key q k ≡ false → last_object (with_entry entries d k o) e q ≡ last_object entries e q
other-last entries d e k q o apart =
    let y : ObjectEntry Object = record { edition = d; key = k; object = o; stamp = next_stamp entries d } in
    ap (option_map (λ (x : ObjectEntry Object). x.object))
    (fold-push (λ found x. cond (is_entry_of e q x) (Some x) found) None entries y ∙ ap (λ b. cond b (Some y) (last_entry entries e q)) (and-false (is_in e y) (same_key q k) apart))

other-seen : (c : Lists) (d e : EditionNo) (k q : ObjectKey) (o : Option Object) → same_key q k ≡ false → visible (with_object c d k o) e q ≡ visible c e q
other-seen c d e k q o apart = ap (λ at. nearest at (line_of c.editions.made e)) (λ i x. other-last c.entries d x k q o apart i)

-- one definition of an object, or one drop
after-key : (c : Lists) (d e : EditionNo) (k : ObjectKey) (o : Option Object) → HaveOwnKeys c → (View (with_object c d k o) e).objects ≡ with_seen (with_object c d k o) e k (View c e).objects
after-key c d e k o own =
    ap (filter_map (λ key. visible (with_object c d k o) e key)) (ap in_order (keys-more c.entries d k o) ∙ more-in_order (keys_of c.entries) k)
    ∙ seen-placed key_order views.key_of key_total key-exact k (λ key. visible c e key) (λ key. visible (with_object c d k o) e key) (λ q x h. seen-under c own e q x h)
    (λ q h. other-seen c d e k q o (same-turned q k ∙ h)) (in_order (keys_of c.entries)) (sorted-in_order (keys_of c.entries))

-- what is seen of lists is in order
pub view-in-order : (c : Lists) (e : EditionNo) (v : EditionView) → HaveOwnKeys c → v ≡ View c e → length v.objects < MAX_COUNT → IsInOrder v
view-in-order c e v own is few = record {
  objects = subst (λ (w : EditionView). IsStrictlySortedBy key_order (map views.key_of w.objects)) (sym is)
      (sorted-seen key_order views.key_of (λ key. visible c e key) (λ q x h. seen-under c own e q x h) (in_order (keys_of c.entries)) (sorted-in_order (keys_of c.entries)));
  few = few;
}

pub sorted-view : (c : Lists) (w : EditionView) → HaveOwnKeys c → w ≡ View c w.edition → IsStrictlySortedBy key_order (map views.key_of w.objects)
sorted-view c w own is =
    subst (λ (x : EditionView). IsStrictlySortedBy key_order (map views.key_of x.objects)) (sym is)
    (sorted-seen key_order views.key_of (λ key. visible c w.edition key) (λ q x h. seen-under c own w.edition q x h) (in_order (keys_of c.entries)) (sorted-in_order (keys_of c.entries)))

view : EditionNo → List TableDef → List Object → EditionView
view e tables objects = record { edition = e; objects = objects; tables = tables }

pub shown-view : (c : Lists) (e : EditionNo) (objects : List Object) (tables : List TableDef) (v : EditionView) → objects ≡ (View c e).objects → tables ≡ c.tables.living → Shows e objects tables v → v ≡ View c e
unfolding view
shown-view c e objects tables v same living shows = shows.is ∙ (ap (view e tables) same ∙ ap (λ ts. view e ts (View c e).objects) living)

-- the objects under the keys in order
pub looked-up : (now : Catalogue) (c : Lists) (e : EditionNo) (objects : List Object) (ordered keys : List ObjectKey) → now ≡ as_catalogue c → ForEntries now.actuals (λ entries. keys ≡ keys_of entries) → ordered ≡ in_order keys
    → ForLists now (λ lists. objects ≡ filter_map (λ key. visible lists e key) ordered) → objects ≡ (View c e).objects
looked-up now c e objects ordered keys h ks order found = found c h ∙ ap (filter_map (λ key. visible c e key)) (order ∙ ap in_order (ks c.entries (ap (λ (n : Catalogue). n.actuals) h)))

-- what shows the objects that are seen, and the living tables, is the view
pub shown : (c : Lists) (e : EditionNo) (objects : List Object) (tables : List TableDef) (v : EditionView) → HaveOwnKeys c → objects ≡ (View c e).objects → tables ≡ c.tables.living → Shows e objects tables v → IsViewOf c e v
shown c e objects tables v own same living shows =
    let is = shown-view c e objects tables v same living shows in
    record { is = is; order = view-in-order c e v own is shows.few }

-- an object that was made, altered or dropped
pub after-object : (c : Lists) (r : CatalogueRecord) (d : EditionNo) (k : ObjectKey) (o : Option Object) (w v : EditionView) → HaveOwnKeys c → with_record c r ≡ with_object c d k o → w ≡ View c w.edition
    → Shows w.edition (with_seen (with_record c r) w.edition k w.objects) w.tables v → IsViewOf (with_record c r) w.edition v
after-object c r d k o w v own is seen shows =
    shown (with_record c r) w.edition (with_seen (with_record c r) w.edition k w.objects) w.tables v (own_kept c r own)
    (ap (λ n. with_seen n w.edition k w.objects) is
    ∙ (ap (λ (x : EditionView). with_seen (with_object c d k o) w.edition k x.objects) seen
    ∙ (sym (after-key c d w.edition k o own) ∙ ap (λ n. (View n w.edition).objects) (sym is))))
    (ap (λ (x : EditionView). x.tables) seen ∙ ap (λ (n : Lists). n.tables.living) (sym is))
    shows

-- a package that was dropped with its body
module _ (c : Lists) (e : EditionNo) (name : List ℕ) (own : HaveOwnKeys c) where
  head_key : ObjectKey
  head_key = key_of kind.Package name

  body_key : ObjectKey
  body_key = key_of kind.PackageBody name

  hidden : Lists
  hidden = with_object c e head_key None

  dropped : Bool → Lists
  dropped b = record c { entries = cond b (with_entry (with_entry c.entries e head_key None) e body_key None) (with_entry c.entries e head_key None) }

  hidden-own : HaveOwnKeys hidden
  unfolding hidden head_key
  hidden-own = own_kept c (made.ObjectGone e head_key) own

  head-seen : (b : Bool) → visible (dropped b) e head_key ≡ visible hidden e head_key
  unfolding dropped hidden head_key body_key
  head-seen true = other-seen (with_object c e head_key None) e e body_key head_key None refl
  head-seen false = refl

  first : (b : Bool) → with_seen (dropped b) e head_key (View c e).objects ≡ (View hidden e).objects
  unfolding hidden head_key
  first b = ap (λ o. placed key_order views.key_of head_key o (View c e).objects) (head-seen b) ∙ sym (after-key c e e head_key None own)

  second : (b : Bool) → is_some (visible c e body_key) ≡ b → with_seen (dropped b) e body_key (View hidden e).objects ≡ (View (dropped b) e).objects
  unfolding dropped hidden head_key body_key
  second true t = sym (after-key (with_object c e head_key None) e e body_key None hidden-own)
  second false f =
      let none : visible (with_object c e head_key None) e body_key ≡ None = other-seen c e e head_key body_key None refl ∙ nothing (visible c e body_key) f in
      let h = with_object c e head_key None in
      sym (seen-placed key_order views.key_of key_total key-exact body_key (λ key. visible h e key) (λ key. visible h e key) (λ q x s. seen-under h hidden-own e q x s) (λ q s. refl) (in_order (keys_of h.entries)) (sorted-in_order (keys_of h.entries)))
      ∙ seen-nothing key_order views.key_of (λ key. visible h e key) body_key key-exact none (in_order (keys_of h.entries))
    where
      nothing : (o : Option Object) → is_some o ≡ false → o ≡ None
      nothing None g = refl
      nothing (Some o) g = absurd cc

  seen-first : (w : EditionView) → w ≡ View c e → with_seen (with_record c (made.PackageGone e name)) e head_key w.objects ≡ (View hidden e).objects
  unfolding dropped hidden head_key body_key
  seen-first w is = ap (λ (x : EditionView). with_seen (with_record c (made.PackageGone e name)) e head_key x.objects) is ∙ first (is_some (visible c e body_key))

  sorted-first : (w : EditionView) → w ≡ View c e → IsStrictlySortedBy key_order (map views.key_of (with_seen (with_record c (made.PackageGone e name)) e head_key w.objects))
  unfolding hidden head_key
  sorted-first w is =
      let h = with_object c e head_key None in
      subst (λ objects. IsStrictlySortedBy key_order (map views.key_of objects)) (sym (seen-first w is))
      (sorted-seen key_order views.key_of (λ key. visible h e key) (λ q x s. seen-under h hidden-own e q x s) (in_order (keys_of h.entries)) (sorted-in_order (keys_of h.entries)))

  after-package : (w v : EditionView) → w ≡ View c e
      → Shows e (with_seen (with_record c (made.PackageGone e name)) e body_key (with_seen (with_record c (made.PackageGone e name)) e head_key w.objects)) w.tables v → IsViewOf (with_record c (made.PackageGone e name)) e v
  unfolding dropped hidden head_key body_key
  after-package w v is shows =
      shown (with_record c (made.PackageGone e name)) e _ w.tables v (own_kept c (made.PackageGone e name) own)
      (ap (with_seen (with_record c (made.PackageGone e name)) e body_key) (seen-first w is) ∙ second (is_some (visible c e body_key)) refl)
      (ap (λ (x : EditionView). x.tables) is)
      shows

-- the same where the view is that of the edition in which the package was dropped
pub after-package-in : (c : Lists) (e : EditionNo) (name : List ℕ) (w v : EditionView) → HaveOwnKeys c → e ≡ w.edition → w ≡ View c w.edition
    → Shows w.edition (with_seen (with_record c (made.PackageGone e name)) w.edition (key_of kind.PackageBody name) (with_seen (with_record c (made.PackageGone e name)) w.edition (key_of kind.Package name) w.objects)) w.tables v
    → IsViewOf (with_record c (made.PackageGone e name)) w.edition v
unfolding head_key body_key
after-package-in c e name w v own same is =
    subst (λ d. Shows w.edition (with_seen (with_record c (made.PackageGone d name)) w.edition (key_of kind.PackageBody name) (with_seen (with_record c (made.PackageGone d name)) w.edition (key_of kind.Package name) w.objects)) w.tables v
    → IsViewOf (with_record c (made.PackageGone d name)) w.edition v) (sym same) (after-package c w.edition name own w v is)

pub sorted-first-in : (c : Lists) (e : EditionNo) (name : List ℕ) (w : EditionView) → HaveOwnKeys c → e ≡ w.edition → w ≡ View c w.edition
    → IsStrictlySortedBy key_order (map views.key_of (with_seen (with_record c (made.PackageGone e name)) w.edition (key_of kind.Package name) w.objects))
unfolding head_key
sorted-first-in c e name w own same is =
    subst (λ d. IsStrictlySortedBy key_order (map views.key_of (with_seen (with_record c (made.PackageGone d name)) w.edition (key_of kind.Package name) w.objects))) (sym same) (sorted-first c w.edition name own w is)

-- an edition that was dropped stays in the line of those that were made below it
gone-parent : (d : EditionNo) (made : List EditionEntry) (x : EditionNo) → parent_of (map (gone d) made) x ≡ parent_of made x
gone-parent d [] x = refl
gone-parent d (y ∷ made) x = by (is_numbered d y) (gone-parent d made x)
  where
    pass : (z : EditionEntry) → z.parent ≡ y.parent → (b : Bool) → parent_of (map (gone d) made) x ≡ parent_of made x → parent_entry (cond b (Some z) (find (is_numbered x) (map (gone d) made))) ≡ parent_entry (cond b (Some y) (find (is_numbered x) made))
    pass z e true h = e
    pass z e false h = h

    by : (b : Bool) → parent_of (map (gone d) made) x ≡ parent_of made x → parent_of (cond b (record y { living = false }) y ∷ map (gone d) made) x ≡ parent_of (y ∷ made) x
    by true h = pass (record y { living = false }) refl (is_numbered x y) h
    by false h = pass y refl (is_numbered x y) h

gone-line : (d : EditionNo) (made : List EditionEntry) (n : ℕ) (e : Option EditionNo) → line_up (map (gone d) made) n e ≡ line_up made n e
gone-line d made zero e = refl
gone-line d made (suc n) None = refl
gone-line d made (suc n) (Some e) = ap (λ p. e ∷ line_up (map (gone d) made) n p) (gone-parent d made e) ∙ ap (λ es. e ∷ es) (gone-line d made n (parent_of made e))

seen-along : Lists → EditionNo → List EditionNo → EditionView
seen-along c e line = record { edition = e; objects = filter_map (λ key. nearest (λ d. last_object c.entries d key) line) (in_order (keys_of c.entries)); tables = c.tables.living }

-- a view that a record leaves as it is
still : (c n : Lists) (w v : EditionView) → View n w.edition ≡ View c w.edition → w ≡ View c w.edition → IsInOrder w → v ≡ w → IsViewOf n w.edition v
still c n w v same seen order copy = record { is = copy ∙ (seen ∙ sym same); order = subst IsInOrder (sym copy) order }

pub after-edition-gone : (c : Lists) (r : CatalogueRecord) (d : EditionNo) (w v : EditionView) → r ≡ made.EditionGone d → w ≡ View c w.edition → IsInOrder w → v ≡ w → IsViewOf (with_record c r) w.edition v
unfolding seen-along
after-edition-gone c r d w v is seen order copy =
    still c (with_record c r) w v
    (ap (λ q. View (with_record c q) w.edition) is ∙ ap (seen-along c w.edition) (gone-line d c.editions.made (suc w.edition.0) (Some w.edition)))
    seen order copy

pub after-default : (c : Lists) (r : CatalogueRecord) (d : EditionNo) (w v : EditionView) → r ≡ made.Default d → w ≡ View c w.edition → IsInOrder w → v ≡ w → IsViewOf (with_record c r) w.edition v
after-default c r d w v is seen order copy = still c (with_record c r) w v (ap (λ q. View (with_record c q) w.edition) is) seen order copy

pub after-edition : (c : Lists) (r : CatalogueRecord) (name : List ℕ) (parent : EditionNo) (chain : Editions) (w v : EditionView) → r ≡ made.Edition name parent → chain ≡ (with_record c r).editions → IsLine chain → w.edition.0 < (leaf chain.made).0
    → w ≡ View c w.edition → IsInOrder w → v ≡ w → IsViewOf (with_record c r) w.edition v
unfolding seen-along
after-edition c r name parent chain w v is now line before seen order copy =
    let after : chain ≡ with_child c.editions name parent = now ∙ ap (λ q. (with_record c q).editions) is in
    still c (with_record c r) w v
    (ap (λ q. View (with_record c q) w.edition) is
    ∙ ap (seen-along c w.edition) (line-before-leaf c.editions name parent w.edition (subst IsLine after line) (subst (λ (x : Editions). w.edition.0 < (leaf x.made).0) after before)))
    seen order copy

-- tables alone changed
pub after-table : (c n : Lists) (w v : EditionView) → HaveOwnKeys n → (View n w.edition).objects ≡ (View c w.edition).objects → w ≡ View c w.edition → Shows w.edition w.objects n.tables.living v → IsViewOf n w.edition v
after-table c n w v own same seen shows = shown n w.edition w.objects n.tables.living v own (ap (λ (x : EditionView). x.objects) seen ∙ sym same) refl shows

-- a view that was looked up anew
pub if-anew : {E : Type 0} (c : Lists) (e : EditionNo) (r : Result EditionView E) → IfOk r (λ v. v ≡ View c e) → IfOk r (λ v. IsInOrder v) → IfOk r (λ v. IsViewOf c e v)
if-anew c e (Ok v) is order = record { is = is; order = order }
if-anew c e (Err x) is order = tt
