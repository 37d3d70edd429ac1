-- What all that an edition sees tells of a catalogue, and what it is after a definition or a drop of an object.
use Rattle.std.proofs.Common.{◌≡◌, ℕ, ◌+◌, Bool, true, false, cond, not, ◌&&◌, ◌||◌, List, [], ◌∷◌, ◌++◌, length, fold, Option, Some, None, option_map, is_some, count_by, refl, sym, ap, ◌∙◌, arith}
use Rattle.std.specs.List.{filter_map, cons_option, list_any}
use Rattle.std.specs.Ordering.{match_ordering, is_eq}
use Rattle.std.specs.declared.cmp.Ordering.{Ordering}
use Rattle.std.specs.declared.cmp.Ordering.TheVariants.{Less, Equal, Greater}
use Rattle.std.specs.BTreeSet.{insert_key}
use Rattle.std.proofs.lemmas.List.Sums.{sum_by-append}
use Rattle.ebr_base.specs.declared.numbers.EditionNo.{EditionNo}
use Rattle.ebr_base.specs.declared.object.ObjectKey.{ObjectKey}
use Rattle.ebr_base.specs.declared.table.TableDef.{TableDef}
use Rattle.ebr_base.specs.Keys.{key_order, same_key}
use Rattle.ebr_ast.specs.declared.view.EditionView.{EditionView}
use Rattle.ebr_ast.specs.declared.view.Object.{Object}
use Rattle.ebr_ast.specs.Views as views
use Rattle.ebr_editions.specs.Editions.{line_of, line_up, parent_of}
use Rattle.ebr_editions.specs.Objects.{ObjectEntry, with_key, entry_or, nearest, is_in, is_entry_of, next_stamp, with_entry, last_entry, last_object, keys_of, visible_count}
use Rattle.ebr_editions.proofs.Entries.{edition_itself, key-itself}
use Rattle.ebr_cross.specs.Catalogue.{Lists, HaveOwnKeys, View, in_order, visible}
use Rattle.ebr_cross.specs.Definitions.{has_other_view, is_view_on, shows_table}
use Rattle.ebr_cross.specs.Records.{with_object}
use Rattle.ebr_cross.specs.Places.{placed}
use Rattle.ebr_cross.proofs.InOrder.{fold-push}
use Rattle.ebr_cross.proofs.OwnKeys.{key_total, key-exact, key-same, same-turned, seen-under}
use Rattle.ebr_cross.proofs.Placed.{Owns, seen-placed}
use Rattle.ebr_cross.proofs.Seen.{sorted-in_order, any-fold, same-test, more-in_order, and-false}
use Rattle.ebr_units.proofs.Unchanged.{none-seen}

-- ---- keys in order

-- a test finds the same among keys and among keys in order
any-in_order : (p : ObjectKey → Bool) (keys : List ObjectKey) → list_any p (in_order keys) ≡ list_any p keys
unfolding in_order
any-in_order p keys = any-fold p keys []

new-in_order : (keys : List ObjectKey) (k : ObjectKey) → in_order (keys ++ k ∷ []) ≡ insert_key key_order (in_order keys) k
unfolding in_order
new-in_order keys k = fold-push (insert_key key_order) [] keys k

-- ---- what is seen, among the objects of a view

found-among : (f : ObjectKey → Option Object) → Owns views.key_of f → (key : ObjectKey) (qs : List ObjectKey) → views.object_of key (filter_map f qs) ≡ cond (list_any (same_key key) qs) (f key) None
found-among f own key [] = refl
found-among f own key (q ∷ qs) = by (f q) refl (same_key key q) refl (found-among f own key qs)
  where
    either : (b : Bool) → f key ≡ None → cond b (f key) None ≡ f key
    either true none = refl
    either false none = sym none

    by : (r : Option Object) → f q ≡ r → (b : Bool) → same_key key q ≡ b → views.object_of key (filter_map f qs) ≡ cond (list_any (same_key key) qs) (f key) None
        → views.object_of key (cons_option r (filter_map f qs)) ≡ cond (b || list_any (same_key key) qs) (f key) None
    by None is true s h = h ∙ either (list_any (same_key key) qs) (ap f (key-same key q s) ∙ is)
    by None is false s h = h
    by (Some x) is b s h =
        ap (λ k. cond (same_key key k) (Some x) (views.object_of key (filter_map f qs))) (own q x is)
        ∙ ap (λ t. cond t (Some x) (views.object_of key (filter_map f qs))) s
        ∙ there b s
      where
        there : (b : Bool) → same_key key q ≡ b → cond b (Some x) (views.object_of key (filter_map f qs)) ≡ cond (b || list_any (same_key key) qs) (f key) None
        there true s = sym is ∙ ap f (sym (key-same key q s))
        there false s = h

-- What an edition sees under a key is what its view has of it.
pub seen-in-view : (c : Lists) (e : EditionNo) → HaveOwnKeys c → (key : ObjectKey) → visible c e key ≡ views.object_of key (View c e).objects
seen-in-view c e own key = by (list_any (same_key key) (keys_of c.entries)) refl
  where
    among : (b : Bool) → list_any (same_key key) (keys_of c.entries) ≡ b → views.object_of key (View c e).objects ≡ cond b (visible c e key) None
    among b is =
        found-among (λ k. visible c e k) (λ q x h. seen-under c own e q x h) key (in_order (keys_of c.entries))
        ∙ ap (λ t. cond t (visible c e key) None) (any-in_order (same_key key) (keys_of c.entries) ∙ is)

    by : (b : Bool) → list_any (same_key key) (keys_of c.entries) ≡ b → visible c e key ≡ views.object_of key (View c e).objects
    by true t = sym (among true t)
    by false f = none-seen c e key f ∙ sym (among false f)

other-among : (f : ObjectKey → Option Object) → Owns views.key_of f → (table : List ℕ) (key : ObjectKey) (qs : List ObjectKey)
    → list_any (λ k. not (same_key k key) && shows_table table (f k)) qs ≡ list_any (λ (o : Object). not (same_key o.key key) && is_view_on table o.tree) (filter_map f qs)
other-among f own table key [] = refl
other-among f own table key (q ∷ qs) = by (f q) refl (other-among f own table key qs)
  where
    by : (r : Option Object) → f q ≡ r → list_any (λ k. not (same_key k key) && shows_table table (f k)) qs ≡ list_any (λ (o : Object). not (same_key o.key key) && is_view_on table o.tree) (filter_map f qs)
        → ((not (same_key q key) && shows_table table r) || list_any (λ k. not (same_key k key) && shows_table table (f k)) qs)
        ≡ list_any (λ (o : Object). not (same_key o.key key) && is_view_on table o.tree) (cons_option r (filter_map f qs))
    by None is h = ap (λ b. b || list_any (λ k. not (same_key k key) && shows_table table (f k)) qs) (and-false (not (same_key q key)) false refl) ∙ h
    by (Some x) is h =
        ap (λ k. (not (same_key k key) && is_view_on table x.tree) || list_any (λ k. not (same_key k key) && shows_table table (f k)) qs) (sym (own q x is))
        ∙ ap (λ b. (not (same_key x.key key) && is_view_on table x.tree) || b) h

-- whether another editioning view of a table is seen
other-in-view : (c : Lists) (e : EditionNo) → HaveOwnKeys c → (table : List ℕ) (key : ObjectKey)
    → has_other_view c e table key ≡ list_any (λ (o : Object). not (same_key o.key key) && is_view_on table o.tree) (View c e).objects
other-in-view c e own table key =
    sym (any-in_order (λ k. not (same_key k key) && shows_table table (visible c e k)) (keys_of c.entries))
    ∙ other-among (λ k. visible c e k) (λ q x h. seen-under c own e q x h) table key (in_order (keys_of c.entries))

-- ---- how many objects are seen

abbrev one_if : Option Object → ℕ
one_if r = cond (is_some r) 1 0

length-seen : (r : Option Object) (xs : List Object) → length (cons_option r xs) ≡ one_if r + length xs
length-seen None xs = omega arith
length-seen (Some x) xs = omega arith

length-insert : (f : ObjectKey → Option Object) (qs : List ObjectKey) (k : ObjectKey) → list_any (λ y. is_eq (key_order k y)) qs ≡ false
    → length (filter_map f (insert_key key_order qs k)) ≡ one_if (f k) + length (filter_map f qs)
length-insert f [] k none = length-seen (f k) []
length-insert f (q ∷ qs) k none = by (key_order k q) none (length-insert f qs k)
  where
    by : (r : Ordering) → (is_eq r || list_any (λ y. is_eq (key_order k y)) qs) ≡ false
        → (list_any (λ y. is_eq (key_order k y)) qs ≡ false → length (filter_map f (insert_key key_order qs k)) ≡ one_if (f k) + length (filter_map f qs))
        → length (filter_map f (match_ordering r (k ∷ q ∷ qs) (q ∷ qs) (q ∷ insert_key key_order qs k))) ≡ one_if (f k) + length (filter_map f (q ∷ qs))
    by Less e h = length-seen (f k) (filter_map f (q ∷ qs))
    by Equal e h = absurd cc
    by Greater e h =
        let a = length-seen (f q) (filter_map f (insert_key key_order qs k)) in
        let b = length-seen (f q) (filter_map f qs) in
        let more = h e in
        omega (arith, a, b, more)

abbrev IsCounted : (ObjectKey → Option Object) → List ObjectKey → Type 0
IsCounted f keys = count_by (λ k. is_some (f k)) keys ≡ length (filter_map f (in_order keys))

counted-with : (f : ObjectKey → Option Object) (keys : List ObjectKey) (k : ObjectKey) → IsCounted f keys → IsCounted f (with_key keys k)
counted-with f keys k h = by (list_any (same_key k) keys) refl
  where
    by : (b : Bool) → list_any (same_key k) keys ≡ b → IsCounted f (cond b keys (keys ++ k ∷ []))
    by true t = h
    by false none =
        let sum : count_by (λ q. is_some (f q)) (keys ++ k ∷ []) ≡ count_by (λ q. is_some (f q)) keys + count_by (λ q. is_some (f q)) (k ∷ []) = sum_by-append (λ q. cond (is_some (f q)) 1 0) keys (k ∷ []) in
        let one : count_by (λ q. is_some (f q)) (k ∷ []) ≡ one_if (f k) = single (f k) in
        let absent : list_any (λ y. is_eq (key_order k y)) (in_order keys) ≡ false = any-in_order (λ y. is_eq (key_order k y)) keys ∙ (ap (λ p. list_any p keys) (sym (same-test k)) ∙ none) in
        let more : length (filter_map f (in_order (keys ++ k ∷ []))) ≡ one_if (f k) + length (filter_map f (in_order keys)) = ap (λ qs. length (filter_map f qs)) (new-in_order keys k) ∙ length-insert f (in_order keys) k absent in
        omega (arith, sum, one, more, h)
      where
        single : (r : Option Object) → 0 + cond (is_some r) 1 0 ≡ one_if r
        single None = refl
        single (Some x) = refl

counted-from : (f : ObjectKey → Option Object) (entries : List (ObjectEntry Object)) (keys : List ObjectKey) → IsCounted f keys → IsCounted f (fold (λ ks (x : ObjectEntry Object). with_key ks x.key) keys entries)
counted-from f [] keys h = h
counted-from f (x ∷ xs) keys h = counted-from f xs (with_key keys x.key) (counted-with f keys x.key h)

none-counted : (f : ObjectKey → Option Object) → IsCounted f []
unfolding in_order
none-counted f = refl

-- The objects that an edition sees are those of its view.
pub count-in-view : (c : Lists) (e : EditionNo) → visible_count c.editions.made c.entries e ≡ length (View c e).objects
count-in-view c e = counted-from (λ k. visible c e k) c.entries [] (none-counted (λ k. visible c e k))

-- ---- one more definition of an object, or one more drop, in the edition

module _ (c : Lists) (e : EditionNo) (k : ObjectKey) (o : Option Object) where
  entry : ObjectEntry Object
  entry = record { edition = e; key = k; object = o; stamp = next_stamp c.entries e }

  last-entry : (d : EditionNo) (q : ObjectKey) → last_object (with_entry c.entries e k o) d q ≡ option_map (λ (x : ObjectEntry Object). x.object) (cond (is_entry_of d q entry) (Some entry) (last_entry c.entries d q))
  unfolding entry
  last-entry d q = ap (option_map (λ (x : ObjectEntry Object). x.object)) (fold-push (λ found x. cond (is_entry_of d q x) (Some x) found) None c.entries entry)

  other-seen : (q : ObjectKey) → same_key q k ≡ false → visible (with_object c e k o) e q ≡ visible c e q
  unfolding entry
  other-seen q apart =
      let last : (d : EditionNo) → last_object (with_entry c.entries e k o) d q ≡ last_object c.entries d q = λ d.
      last-entry d q ∙ ap (λ b. option_map (λ (x : ObjectEntry Object). x.object) (cond b (Some entry) (last_entry c.entries d q))) (and-false (is_in d entry) (same_key q k) apart) in
      ap (λ at. nearest at (line_of c.editions.made e)) (λ i d. last d i)

  own-seen : visible (with_object c e k o) e k ≡ o
  unfolding entry
  own-seen =
      let here : is_entry_of e k entry ≡ true = ap (λ b. b && same_key k k) (edition_itself e) ∙ key-itself k in
      let last : last_object (with_entry c.entries e k o) e k ≡ Some o = last-entry e k ∙ ap (λ b. option_map (λ (x : ObjectEntry Object). x.object) (cond b (Some entry) (last_entry c.entries e k))) here in
      ap (λ x. entry_or x (nearest (λ d. last_object (with_entry c.entries e k o) d k) (line_up c.editions.made e.0 (parent_of c.editions.made e)))) last

  keys-more : keys_of (with_entry c.entries e k o) ≡ with_key (keys_of c.entries) k
  unfolding entry
  keys-more = fold-push (λ keys (x : ObjectEntry Object). with_key keys x.key) [] c.entries entry

  -- the objects that it sees then, by those that it saw before
  seen-after : HaveOwnKeys c → (View (with_object c e k o) e).objects ≡ placed key_order views.key_of k o (View c e).objects
  seen-after own =
      ap (filter_map (λ key. visible (with_object c e k o) e key)) (ap in_order keys-more ∙ more-in_order (keys_of c.entries) k)
      ∙ seen-placed key_order views.key_of key_total key-exact k (λ key. visible c e key) (λ key. visible (with_object c e k o) e key) (λ q x h. seen-under c own e q x h)
      (λ q h. other-seen q (same-turned q k ∙ h)) (in_order (keys_of c.entries)) (sorted-in_order (keys_of c.entries))
      ∙ ap (λ x. placed key_order views.key_of k x (View c e).objects) own-seen

-- ---- two catalogues in which an edition sees the same

view-of : EditionNo → List Object → List TableDef → EditionView
view-of e objects tables = record { edition = e; objects = objects; tables = tables }

module _ (c d : Lists) (e : EditionNo) (own : HaveOwnKeys c) (own' : HaveOwnKeys d) (same : View c e ≡ View d e) where
  objects-same : (View c e).objects ≡ (View d e).objects
  objects-same = ap (λ (v : EditionView). v.objects) same

  pub visible-same : (key : ObjectKey) → visible c e key ≡ visible d e key
  visible-same key = seen-in-view c e own key ∙ ap (views.object_of key) objects-same ∙ sym (seen-in-view d e own' key)

  pub other-same : (table : List ℕ) (key : ObjectKey) → has_other_view c e table key ≡ has_other_view d e table key
  other-same table key =
      other-in-view c e own table key
      ∙ ap (list_any (λ (o : Object). not (same_key o.key key) && is_view_on table o.tree)) objects-same
      ∙ sym (other-in-view d e own' table key)

  -- so it does after the same definition or drop
  pub after-same : (k : ObjectKey) (o : Option Object) → View (with_object c e k o) e ≡ View (with_object d e k o) e
  unfolding view-of
  after-same k o =
      let seen : (View (with_object c e k o) e).objects ≡ (View (with_object d e k o) e).objects =
      seen-after c e k o own ∙ ap (placed key_order views.key_of k o) objects-same ∙ sym (seen-after d e k o own') in
      let tables : c.tables.living ≡ d.tables.living = ap (λ (v : EditionView). v.tables) same in
      λ i. view-of e (seen i) (tables i)
