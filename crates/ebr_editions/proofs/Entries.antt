-- What a list of object entries leaves is read as the definitions read the list.
use Rattle.std.proofs.Common.{◌≡◌, ℕ, suc, ◌+◌, Bool, true, false, cond, ◌&&◌, ◌||◌, List, [], ◌∷◌, ◌++◌, Option, Some, None, option_map, IfSome, is_some, Result, Ok, Err, OnOk, OnErr, IfOk, filter, fold, count_by, refl, sym, ap, subst, ◌∙◌, arith}
use Rattle.std.specs.List.{slice_get, list_any}
use Rattle.std.specs.Option.{unwrap_or, option_copied}
use Rattle.std.specs.Borrow.{Bor}
use Rattle.std.specs.Map.{lookup, set_value, keys_of as map_keys}
use Rattle.std.specs.Str.{bytes_eq}
use Rattle.indexmap.specs.IndexMap.{insert_entry}
use Rattle.ebr_base.specs.declared.numbers.EditionNo.{EditionNo}
use Rattle.ebr_base.specs.declared.object.Class.{Class}
use Rattle.ebr_base.specs.declared.object.Class.TheVariants as class
use Rattle.ebr_base.specs.declared.object.ObjectKey.{ObjectKey}
use Rattle.ebr_editions.specs.declared.entry.EditionEntry.{EditionEntry}
use Rattle.ebr_editions.specs.Editions.{Editions, IsLine, is_edition, parent_of, line_from, line_of}
use Rattle.ebr_editions.proofs.Line.{line_of-step}
use Rattle.ebr_base.specs.Keys.{same_class, same_key}
use Rattle.ebr_editions.specs.Objects.{ObjectEntry, with_key, entry_or, nearest, is_in, is_entry_of, entries_in, next_stamp, with_entry, actual_object, actual_at, last_object, Visible, keys_of}
use Rattle.ebr_editions.specs.Held.{Defined, Held, nothing_defined, with_object, defined_in, with_definition, hold, nothing_held, held}
use Rattle.ebr_editions.specs.inside.Held.{held_object, held_visible, held_at}
use Rattle.ebr_editions.proofs.Lists.{by_test, cond-true, cond-false, count-true, count-false, none_some, false_true, slice_get-map, same_edition, is_edition-same, same_name, name_itself}

pub fold-push : {A B : Type 0} (f : B → A → B) (b : B) (xs : List A) (x : A) → fold f b (xs ++ x ∷ []) ≡ f (fold f b xs) x
fold-push f b [] x = refl
fold-push f b (y ∷ xs) x = fold-push f (f b y) xs x

-- a look-up after an insertion, where the test is equality
module _ {K V : Type 0} (eq : K → K → Bool) (same : (a b : K) → eq a b ≡ true → a ≡ b) (itself : (a : K) → eq a a ≡ true) where
  pub lookup-insert : (es : List (K × V)) (k : K) (v : V) (q : K) → lookup (eq q) (insert_entry eq es k v) ≡ cond (eq q k) (Some v) (lookup (eq q) es)
  lookup-insert [] k v q = refl
  lookup-insert (a ∷ es) k v q =
      by_test (eq k a.0)
      (λ t.
      let is : k ≡ a.0 = same k a.0 t in
      ap (lookup (eq q)) (cond-true (eq k a.0) ((a.0, v) ∷ es) (a ∷ insert_entry eq es k v) t)
      ∙ by_test (eq q k)
      (λ u. cond-true (eq q a.0) (Some v) (lookup (eq q) es) (sym (ap (eq q) is) ∙ u) ∙ sym (cond-true (eq q k) (Some v) _ u))
      (λ u.
      let other : eq q a.0 ≡ false = sym (ap (eq q) is) ∙ u in
      cond-false (eq q a.0) (Some v) (lookup (eq q) es) other ∙ sym (cond-false (eq q k) (Some v) _ u ∙ cond-false (eq q a.0) (Some a.1) (lookup (eq q) es) other)))
      (λ f.
      ap (lookup (eq q)) (cond-false (eq k a.0) ((a.0, v) ∷ es) (a ∷ insert_entry eq es k v) f)
      ∙ by_test (eq q a.0)
      (λ u.
      let is : q ≡ a.0 = same q a.0 u in
      let other : eq q k ≡ false = by_test (eq q k) (λ w. false_true (sym f ∙ (ap (λ z. eq z a.0) (sym (same q k w)) ∙ u))) (λ w. w) in
      cond-true (eq q a.0) (Some a.1) _ u ∙ sym (cond-false (eq q k) (Some v) _ other ∙ cond-true (eq q a.0) (Some a.1) _ u))
      (λ u.
      cond-false (eq q a.0) (Some a.1) _ u ∙ (lookup-insert es k v q ∙ sym (ap (λ r. cond (eq q k) (Some v) r) (cond-false (eq q a.0) (Some a.1) (lookup (eq q) es) u)))))

pub edition_itself : (e : EditionNo) → is_edition e e ≡ true
edition_itself e = is_edition-same e e refl

class-same : (a b : Class) → same_class a b ≡ true → a ≡ b
class-same class.Unit class.Unit h = refl
class-same class.Unit class.Body h = false_true h
class-same class.Unit class.Trigger h = false_true h
class-same class.Body class.Unit h = false_true h
class-same class.Body class.Body h = refl
class-same class.Body class.Trigger h = false_true h
class-same class.Trigger class.Unit h = false_true h
class-same class.Trigger class.Body h = false_true h
class-same class.Trigger class.Trigger h = refl

class-itself : (a : Class) → same_class a a ≡ true
class-itself class.Unit = refl
class-itself class.Body = refl
class-itself class.Trigger = refl

and-both : (a b : Bool) → (a && b) ≡ true → (a ≡ true) × (b ≡ true)
and-both true b h = (refl, h)
and-both false b h = false_true h

pub key-same : (a b : ObjectKey) → same_key a b ≡ true → a ≡ b
key-same a b h =
    let both = and-both (same_class a.class b.class) (bytes_eq a.name b.name) h in
    let made : Class → List ℕ → ObjectKey = λ c n. record { class = c; name = n } in
    ap (λ c. made c a.name) (class-same a.class b.class both.0) ∙ ap (made b.class) (same_name a.name b.name both.1)

pub key-itself : (a : ObjectKey) → same_key a a ≡ true
key-itself a = ap (λ t. t && bytes_eq a.name a.name) (class-itself a.class) ∙ name_itself a.name

module _ {O : Type 0} where
  -- one more entry holds one more definition
  pub held-with_entry : (entries : List (ObjectEntry O)) (e : EditionNo) (key : ObjectKey) (object : Option O) → held (with_entry entries e key object) ≡ hold (held entries) e key object
  held-with_entry entries e key object = fold-push (λ h (x : ObjectEntry O). hold h x.edition x.key x.object) nothing_held entries (record { edition = e; key = key; object = object; stamp = next_stamp entries e })

  -- what is defined in an edition after one more definition
  pub defined-after : (es : List (EditionNo × Defined O)) (d e : EditionNo) (key : ObjectKey) (object : Option O) → defined_in (with_definition es d key object) e ≡ cond (is_edition e d) (with_object (defined_in es e) key object) (defined_in es e)
  defined-after es d e key object =
      ap (λ r. unwrap_or r nothing_defined) (lookup-insert is_edition same_edition edition_itself es d (with_object (defined_in es d) key object) e)
      ∙ by_test (is_edition e d)
      (λ t.
      ap (λ r. unwrap_or r nothing_defined) (cond-true (is_edition e d) (Some (with_object (defined_in es d) key object)) (lookup (is_edition e) es) t)
      ∙ (ap (λ x. with_object (defined_in es x) key object) (sym (same_edition e d t)) ∙ sym (cond-true (is_edition e d) (with_object (defined_in es e) key object) (defined_in es e) t)))
      (λ f.
      ap (λ r. unwrap_or r nothing_defined) (cond-false (is_edition e d) (Some (with_object (defined_in es d) key object)) (lookup (is_edition e) es) f)
      ∙ sym (cond-false (is_edition e d) (with_object (defined_in es e) key object) (defined_in es e) f))

  defined-held : Held O → EditionNo → Defined O
  defined-held h e = defined_in h.editions e

  after : Held O → ObjectEntry O → Held O
  after h x = hold h x.edition x.key x.object

  count-from : (entries : List (ObjectEntry O)) (h : Held O) (e : EditionNo) (n : ℕ) → (defined_in h.editions e).count ≡ n → (defined_in (fold (λ k (x : ObjectEntry O). hold k x.edition x.key x.object) h entries).editions e).count ≡ n + count_by (is_in e) entries
  count-from [] h e n p = p ∙ omega arith
  count-from (x ∷ entries) h e n p =
      let step = ap (λ (d : Defined O). d.count) (defined-after h.editions x.edition e x.key x.object) in
      by_test (is_in e x)
      (λ t.
      let more = count-from entries (hold h x.edition x.key x.object) e (suc n) (step ∙ (ap (λ (d : Defined O). d.count) (cond-true (is_edition e x.edition) (with_object (defined_in h.editions e) x.key x.object) (defined_in h.editions e) t) ∙ ap suc p)) in
      more ∙ (let one = count-true (is_in {O = O} e) x entries t in omega (arith, one)))
      (λ f.
      let more = count-from entries (hold h x.edition x.key x.object) e n (step ∙ (ap (λ (d : Defined O). d.count) (cond-false (is_edition e x.edition) (with_object (defined_in h.editions e) x.key x.object) (defined_in h.editions e) f) ∙ p)) in
      more ∙ (let none = count-false (is_in {O = O} e) x entries f in omega (arith, none)))

  pub count-held : (entries : List (ObjectEntry O)) (e : EditionNo) → (defined_in (held entries).editions e).count ≡ entries_in entries e
  count-held entries e = count-from entries nothing_held e 0 refl ∙ omega arith

  found-object : Option (ObjectEntry O) → Option (Option O)
  found-object o = option_map (λ (x : ObjectEntry O). x.object) o

  -- what a definition leaves of a key in an edition
  pub object-after : (h : Held O) (x : ObjectEntry O) (e : EditionNo) (key : ObjectKey) → held_object (hold h x.edition x.key x.object) e key ≡ cond (is_entry_of e key x) (Some x.object) (held_object h e key)
  object-after h x e key =
      let objects : Defined O → Option (Option O) = λ d. lookup (same_key key) d.objects in
      ap objects (defined-after h.editions x.edition e x.key x.object)
      ∙ by_test (is_in e x)
      (λ t.
      ap objects (cond-true (is_edition e x.edition) (with_object (defined_in h.editions e) x.key x.object) (defined_in h.editions e) t)
      ∙ (lookup-insert same_key key-same key-itself (defined_in h.editions e).objects x.key x.object key
      ∙ sym (ap (λ b. cond (b && same_key key x.key) (Some x.object) (held_object h e key)) t)))
      (λ f.
      ap objects (cond-false (is_edition e x.edition) (with_object (defined_in h.editions e) x.key x.object) (defined_in h.editions e) f)
      ∙ sym (ap (λ b. cond (b && same_key key x.key) (Some x.object) (held_object h e key)) f))

  object-from : (entries : List (ObjectEntry O)) (h : Held O) (found : Option (ObjectEntry O)) (e : EditionNo) (key : ObjectKey) → held_object h e key ≡ option_map (λ (x : ObjectEntry O). x.object) found
      → held_object (fold (λ k (x : ObjectEntry O). hold k x.edition x.key x.object) h entries) e key ≡ option_map (λ (x : ObjectEntry O). x.object) (fold (λ f x. cond (is_entry_of e key x) (Some x) f) found entries)
  object-from [] h found e key p = p
  object-from (x ∷ entries) h found e key p =
      object-from entries (hold h x.edition x.key x.object) (cond (is_entry_of e key x) (Some x) found) e key
      (object-after h x e key
      ∙ by_test (is_entry_of e key x)
      (λ t. cond-true (is_entry_of e key x) (Some x.object) _ t ∙ sym (ap (option_map (λ (y : ObjectEntry O). y.object)) (cond-true (is_entry_of e key x) (Some x) found t)))
      (λ f. cond-false (is_entry_of e key x) (Some x.object) _ f ∙ (p ∙ sym (ap (option_map (λ (y : ObjectEntry O). y.object)) (cond-false (is_entry_of e key x) (Some x) found f)))))

  -- what is held of a key in an edition is what the last entry left
  pub object-held : (entries : List (ObjectEntry O)) (e : EditionNo) (key : ObjectKey) → held_object (held entries) e key ≡ last_object entries e key
  object-held entries e key = object-from entries nothing_held None e key refl

  keys-from : (entries : List (ObjectEntry O)) (h : Held O) → (fold (λ k (x : ObjectEntry O). hold k x.edition x.key x.object) h entries).keys ≡ fold (λ keys (x : ObjectEntry O). with_key keys x.key) h.keys entries
  keys-from [] h = refl
  keys-from (x ∷ entries) h = keys-from entries (hold h x.edition x.key x.object)

  pub keys-held : (entries : List (ObjectEntry O)) → (held entries).keys ≡ keys_of entries
  keys-held entries = keys-from entries nothing_held

  pub nearest-same : (at at' : EditionNo → Option (Option O)) → ((e : EditionNo) → at e ≡ at' e) → (es : List EditionNo) → nearest at es ≡ nearest at' es
  nearest-same at at' h [] = refl
  nearest-same at at' h (e ∷ es) = ap (λ o. entry_or o (nearest at es)) (h e) ∙ ap (entry_or (at' e)) (nearest-same at at' h es)

  -- what is held shows what the entries show
  pub visible-held : (made : List EditionEntry) (entries : List (ObjectEntry O)) (e : EditionNo) (key : ObjectKey) → held_visible made (held entries) e key ≡ Visible made entries e key
  visible-held made entries e key = nearest-same (λ d. held_object (held entries) d key) (λ d. last_object entries d key) (λ d. object-held entries d key) (line_of made e)

  map-with_key : (es : List (ObjectKey × Option O)) (key : ObjectKey) (object : Option O) → map_keys (insert_entry same_key es key object) ≡ with_key (map_keys es) key
  map-with_key [] key object = refl
  map-with_key (a ∷ es) key object =
      by_test (same_key key a.0)
      (λ t.
      ap map_keys (cond-true (same_key key a.0) ((a.0, object) ∷ es) (a ∷ insert_entry same_key es key object) t)
      ∙ sym (ap (λ b. cond (b || list_any (same_key key) (map_keys es)) (a.0 ∷ map_keys es) ((a.0 ∷ map_keys es) ++ key ∷ [])) t))
      (λ f.
      ap map_keys (cond-false (same_key key a.0) ((a.0, object) ∷ es) (a ∷ insert_entry same_key es key object) f)
      ∙ (ap (λ ks. a.0 ∷ ks) (map-with_key es key object)
      ∙ (pushed (list_any (same_key key) (map_keys es)) ∙ sym (ap (λ b. cond (b || list_any (same_key key) (map_keys es)) (a.0 ∷ map_keys es) ((a.0 ∷ map_keys es) ++ key ∷ [])) f))))
    where
      pushed : (b : Bool) → a.0 ∷ cond b (map_keys es) (map_keys es ++ key ∷ []) ≡ cond b (a.0 ∷ map_keys es) ((a.0 ∷ map_keys es) ++ key ∷ [])
      pushed true = refl
      pushed false = refl

  places-from : (entries : List (ObjectEntry O)) (h : Held O) (e : EditionNo) (keys : List ObjectKey) → map_keys (defined_in h.editions e).objects ≡ keys
      → map_keys (defined_in (fold (λ k (x : ObjectEntry O). hold k x.edition x.key x.object) h entries).editions e).objects ≡ fold (λ ks (x : ObjectEntry O). with_key ks x.key) keys (filter (is_in e) entries)
  places-from [] h e keys p = p
  places-from (x ∷ entries) h e keys p =
      let names : Defined O → List ObjectKey = λ d. map_keys d.objects in
      let step = ap names (defined-after h.editions x.edition e x.key x.object) in
      let ends : List (ObjectEntry O) → List ObjectKey = λ xs. fold (λ ks (y : ObjectEntry O). with_key ks y.key) keys xs in
      by_test (is_in e x)
      (λ t.
      places-from entries (hold h x.edition x.key x.object) e (with_key keys x.key)
      (step ∙ (ap names (cond-true (is_edition e x.edition) (with_object (defined_in h.editions e) x.key x.object) (defined_in h.editions e) t)
      ∙ (map-with_key (defined_in h.editions e).objects x.key x.object ∙ ap (λ ks. with_key ks x.key) p)))
      ∙ sym (ap ends (cond-true (is_in e x) (x ∷ filter (is_in e) entries) (filter (is_in e) entries) t)))
      (λ f.
      places-from entries (hold h x.edition x.key x.object) e keys
      (step ∙ (ap names (cond-false (is_edition e x.edition) (with_object (defined_in h.editions e) x.key x.object) (defined_in h.editions e) f) ∙ p))
      ∙ sym (ap ends (cond-false (is_in e x) (x ∷ filter (is_in e) entries) (filter (is_in e) entries) f)))

  -- the keys of an edition stand in the order of their first entries there
  pub places-held : (entries : List (ObjectEntry O)) (e : EditionNo) → map_keys (defined_in (held entries).editions e).objects ≡ keys_of (filter (is_in e) entries)
  places-held entries e = places-from entries nothing_held e [] refl

  pub actual-held : (now : Held O) (entries : List (ObjectEntry O)) (e : EditionNo) (key : ObjectKey) (o : Option (Option O)) → now ≡ held entries → o ≡ held_object now e key → entry_or o None ≡ actual_object entries e key
  actual-held now entries e key o h p = ap (λ x. entry_or x None) (p ∙ (ap (λ k. held_object k e key) h ∙ object-held entries e key))

  pub at-held : (now : Held O) (entries : List (ObjectEntry O)) (e : EditionNo) (at : ℕ) (r : Option (ObjectKey × Option O)) → now ≡ held entries → r ≡ held_at now e at → IfSome r (λ p. held_object now e p.0 ≡ Some p.1) → r ≡ actual_at entries e at
  at-held now entries e at r h p last =
      by_cases r last
      ∙ ap (option_map (λ key. (key, actual_object entries e key)))
      (ap (option_map (λ (q : ObjectKey × Option O). q.0)) p
      ∙ (sym (slice_get-map (λ (q : ObjectKey × Option O). q.0) (defined_in now.editions e).objects at)
      ∙ ap (λ keys. slice_get keys at) (ap (λ (k : Held O). map_keys (defined_in k.editions e).objects) h ∙ places-held entries e)))
    where
      by_cases : (q : Option (ObjectKey × Option O)) → IfSome q (λ x. held_object now e x.0 ≡ Some x.1) → q ≡ option_map (λ key. (key, actual_object entries e key)) (option_map (λ (x : ObjectKey × Option O). x.0) q)
      by_cases None l = refl
      by_cases (Some x) l = ap (λ v. Some (x.0, v)) (ap (λ y. entry_or y None) (sym l) ∙ actual-held now entries e x.0 (held_object now e x.0) h refl)

pub if_some-map : {X Y : Type 0} (f : X → Y) (P : Y → Type 0) (o : Option X) → IfSome o (λ x. P (f x)) → IfSome (option_map f o) P
if_some-map f P None h = tt
if_some-map f P (Some x) h = h

-- a write at a key that is there is an insertion
pub set-insert : {K V : Type 0} (eq : K → K → Bool) (k : K) (es : List (K × V)) (v w : V) → lookup (eq k) es ≡ Some v → set_value (eq k) es w ≡ insert_entry eq es k w
set-insert eq k [] v w h = none_some h
set-insert eq k (a ∷ es) v w h =
    by_test (eq k a.0)
    (λ t. cond-true (eq k a.0) _ _ t ∙ sym (cond-true (eq k a.0) ((a.0, w) ∷ es) (a ∷ insert_entry eq es k w) t))
    (λ f.
    cond-false (eq k a.0) _ _ f ∙ (ap (λ xs. a ∷ xs) (set-insert eq k es v w (sym (cond-false (eq k a.0) (Some a.1) (lookup (eq k) es) f) ∙ h))
    ∙ sym (cond-false (eq k a.0) ((a.0, w) ∷ es) (a ∷ insert_entry eq es k w) f)))

-- a number above that of an edition, or 0 at the end of the line
abbrev pub above : Option EditionNo → ℕ
above None = 0
above (Some e) = suc e.0

-- one edition up the line, where this one has no entry
pub seen-step : {O : Type 0} (c : Editions) → IsLine c → (at : EditionNo → Option (Option O)) (next : Option EditionNo) (d : EditionNo) (r : Option O) → nearest at (line_from c.made next) ≡ r → next ≡ Some d → at d ≡ None
    → nearest at (line_from c.made (parent_of c.made d)) ≡ r
seen-step c line at next d r h n a =
    let up = nearest at (line_from c.made (parent_of c.made d)) in
    sym (ap (λ p. nearest at (line_from c.made p)) n ∙ (ap (nearest at) (line_of-step c line d) ∙ ap (λ o. entry_or o up) a)) ∙ h

pub on_ok : {T E : Type 0} {P Q : Type 0} (r : Result T E) → (P → Q) → OnOk r P → OnOk r Q
on_ok (Ok x) f h = f h
on_ok (Err e) f h = tt

pub on_err : {T E : Type 0} {P Q : Type 0} (r : Result T E) → (P → Q) → OnErr r P → OnErr r Q
on_err (Ok x) f h = tt
on_err (Err e) f h = f h

ok_same : {T E : Type 0} (a b : T) → ◌≡◌ {A = Result T E} (Ok a) (Ok b) → a ≡ b
ok_same a b q = cc

pub if_ok : {T E : Type 0} (r : Result T E) (x : T) (P : T → Type 0) → r ≡ Ok x → IfOk r P → P x
if_ok (Ok y) x P e h = subst P (ok_same y x e) h
if_ok (Err y) x P e h = absurd cc

pub is_some-copied : {O : Type 0} (o : Option (Bor O)) → is_some (option_copied o) ≡ is_some o
is_some-copied None = refl
is_some-copied (Some x) = refl

-- of two insertions of one key the second counts
pub insert-twice : {K V : Type 0} (eq : K → K → Bool) (itself : (a : K) → eq a a ≡ true) (es : List (K × V)) (k : K) (v w : V) → insert_entry eq (insert_entry eq es k v) k w ≡ insert_entry eq es k w
insert-twice eq itself [] k v w = cond-true (eq k k) ((k, w) ∷ []) ((k, v) ∷ (k, w) ∷ []) (itself k)
insert-twice eq itself (a ∷ es) k v w =
    by_test (eq k a.0)
    (λ t.
    ap (λ xs. insert_entry eq xs k w) (cond-true (eq k a.0) ((a.0, v) ∷ es) (a ∷ insert_entry eq es k v) t)
    ∙ (cond-true (eq k a.0) ((a.0, w) ∷ es) ((a.0, v) ∷ insert_entry eq es k w) t
    ∙ sym (cond-true (eq k a.0) ((a.0, w) ∷ es) (a ∷ insert_entry eq es k w) t)))
    (λ f.
    ap (λ xs. insert_entry eq xs k w) (cond-false (eq k a.0) ((a.0, v) ∷ es) (a ∷ insert_entry eq es k v) f)
    ∙ (cond-false (eq k a.0) ((a.0, w) ∷ insert_entry eq es k v) (a ∷ insert_entry eq (insert_entry eq es k v) k w) f
    ∙ (ap (λ xs. a ∷ xs) (insert-twice eq itself es k v w)
    ∙ sym (cond-false (eq k a.0) ((a.0, w) ∷ es) (a ∷ insert_entry eq es k w) f))))

module _ {O : Type 0} where
  own-defined : (es : List (EditionNo × Defined O)) (e : EditionNo) (key : ObjectKey) (object : Option O) → defined_in (with_definition es e key object) e ≡ with_object (defined_in es e) key object
  own-defined es e key object = defined-after es e e key object ∙ cond-true (is_edition e e) (with_object (defined_in es e) key object) (defined_in es e) (edition_itself e)

  -- two definitions in one edition
  pub defined-twice : (es : List (EditionNo × Defined O)) (e : EditionNo) (k1 k2 : ObjectKey) (o1 o2 : Option O)
      → with_definition (with_definition es e k1 o1) e k2 o2 ≡ insert_entry is_edition es e (with_object (with_object (defined_in es e) k1 o1) k2 o2)
  defined-twice es e k1 k2 o1 o2 =
      ap (λ d. insert_entry is_edition (with_definition es e k1 o1) e (with_object d k2 o2)) (own-defined es e k1 o1)
      ∙ insert-twice is_edition edition_itself es e (with_object (defined_in es e) k1 o1) (with_object (with_object (defined_in es e) k1 o1) k2 o2)

  pub count-more : (h : Held O) (e : EditionNo) (key : ObjectKey) (object : Option O) → (defined_in (hold h e key object).editions e).count ≡ suc (defined_in h.editions e).count
  count-more h e key object = ap (λ (d : Defined O). d.count) (own-defined h.editions e key object)

pub ok_on : {T E : Type 0} {P : Type 0} (r : Result T E) (x : T) → r ≡ Ok x → OnOk r P → P
ok_on (Ok y) x e h = h
ok_on (Err y) x e h = absurd cc
