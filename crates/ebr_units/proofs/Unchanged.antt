-- What editions see that were made before the one of a definition stays as it is.
use Rattle.std.proofs.Common.{◌≡◌, ◌<◌, ◌≤◌, ℕ, zero, suc, Bool, true, false, cond, ◌||◌, ◌&&◌, List, [], ◌∷◌, ◌++◌, fold, find, Option, Some, None, option_map, is_some, MatchOption, IfSome, refl, sym, ap, subst, ◌∙◌, arith, eqb-true}
use Rattle.std.specs.List.{All, filter_map, list_any, AllByRecursion}
use Rattle.std.specs.BTreeSet.{insert_key}
use Rattle.std.proofs.lemmas.List.Elements.{All-nil, All-cons, All-head, All-tail, recursion_from_All}
use Rattle.ebr_base.specs.declared.numbers.EditionNo.{EditionNo}
use Rattle.ebr_base.specs.declared.object.ObjectKey.{ObjectKey}
use Rattle.ebr_base.specs.Keys.{key_order, same_key}
use Rattle.ebr_ast.specs.declared.definition.ObjectKind.TheVariants as kind
use Rattle.ebr_ast.specs.declared.view.EditionView.{EditionView}
use Rattle.ebr_ast.specs.declared.view.Object.{Object}
use Rattle.ebr_ast.specs.Views as views
use Rattle.ebr_editions.specs.declared.entry.EditionEntry.{EditionEntry}
use Rattle.ebr_editions.specs.Editions.{Editions, IsLine, HasSmallerParent, is_edition, is_numbered, parent_entry, parent_of, leaf, line_up, line_of}
use Rattle.ebr_editions.specs.Objects.{ObjectEntry, with_key, entry_or, nearest, is_in, is_entry_of, next_stamp, with_entry, last_entry, last_object, keys_of}
use Rattle.ebr_editions.proofs.Lists.{is_edition-other}
use Rattle.ebr_cross.specs.declared.record.CatalogueRecord.{CatalogueRecord}
use Rattle.ebr_cross.specs.declared.record.CatalogueRecord.TheVariants as made
use Rattle.ebr_cross.specs.Catalogue.{Lists, IsViewOf, View, in_order, visible}
use Rattle.ebr_cross.specs.Kinds.{key_of}
use Rattle.ebr_cross.specs.Records.{with_object, with_record}
use Rattle.ebr_cross.proofs.InOrder.{fold-push}
use Rattle.ebr_cross.proofs.OwnKeys.{key-exact, key-same}
use Rattle.ebr_cross.proofs.Placed.{seen-nothing}
use Rattle.ebr_cross.proofs.Seen.{after-edition, after-edition-gone, after-default}
use Rattle.ebr_units.specs.Living.{AreCurrent}

-- ---- the line of an edition

lower : (A : Type 0) (p : Option EditionNo) (m n : ℕ) → m ≤ n → MatchOption p A (λ q. q.0 < m) → IfSome p (λ q. q.0 < n)
lower A None m n up h = tt
lower A (Some q) m n up h = omega (arith, up, h)

parent-smaller : (chain : List EditionEntry) (e : EditionNo) → AllByRecursion HasSmallerParent chain → IfSome (parent_of chain e) (λ p. p.0 < e.0)
parent-smaller [] e all = tt
parent-smaller (x ∷ chain) e all = by (is_numbered e x) refl (parent-smaller chain e all.1)
  where
    by : (b : Bool) → is_numbered e x ≡ b → IfSome (parent_of chain e) (λ p. p.0 < e.0) → IfSome (parent_entry (cond b (Some x) (find (is_numbered e) chain))) (λ p. p.0 < e.0)
    by true t rest = let same : x.number.0 ≡ e.0 = eqb-true x.number.0 e.0 t in lower _ x.parent x.number.0 e.0 (omega (arith, same)) all.0
    by false f rest = rest

-- Numbers fall up a line, so what stands below a bound decides alone.
nearest-below : (chain : List EditionEntry) (b : ℕ) (at now : EditionNo → Option (Option Object)) → AllByRecursion HasSmallerParent chain → ((d : EditionNo) → d.0 < b → now d ≡ at d) → (n : ℕ) (e : Option EditionNo) → IfSome e (λ d. d.0 < b)
    → nearest now (line_up chain n e) ≡ nearest at (line_up chain n e)
nearest-below chain b at now all same zero e low = refl
nearest-below chain b at now all same (suc n) None low = refl
nearest-below chain b at now all same (suc n) (Some e) low =
    ap (λ x. entry_or x (nearest now (line_up chain n (parent_of chain e)))) (same e low)
    ∙ ap (entry_or (at e)) (nearest-below chain b at now all same n (parent_of chain e) (lower _ (parent_of chain e) e.0 b (omega (arith, low)) (parent-smaller chain e all)))

-- an entry of another edition
other-last : (entries : List (ObjectEntry Object)) (d e : EditionNo) (k q : ObjectKey) (o : Option Object) → is_edition e d ≡ false → last_object (with_entry entries d k o) e q ≡ last_object entries e q
other-last entries d e k q o apart =
    let y : ObjectEntry Object = record { edition = d; key = k; object = o; stamp = next_stamp entries d } in
    ap (option_map (λ (x : ObjectEntry Object). x.object))
    (fold-push (λ found x. cond (is_entry_of e q x) (Some x) found) None entries y ∙ ap (λ b. cond (b && same_key q k) (Some y) (last_entry entries e q)) apart)

visible-before : (c : Lists) (d e : EditionNo) (k q : ObjectKey) (o : Option Object) → IsLine c.editions → e.0 < d.0 → visible (with_object c d k o) e q ≡ visible c e q
visible-before c d e k q o line before =
    nearest-below c.editions.made d.0 (λ x. last_object c.entries x q) (λ x. last_object (with_entry c.entries d k o) x q) (recursion_from_All HasSmallerParent c.editions.made line.parents)
    (λ x low. other-last c.entries d x k q o (is_edition-other x d (λ same. omega (arith, same, low)))) (suc e.0) (Some e) before

-- ---- a key without an entry

apart-push : (p : ObjectKey → Bool) (keys : List ObjectKey) (q : ObjectKey) → list_any p (keys ++ q ∷ []) ≡ false → (p q ≡ false) × (list_any p keys ≡ false)
apart-push p [] q h = (by (p q) h, refl)
  where
    by : (b : Bool) → (b || false) ≡ false → b ≡ false
    by true h = h
    by false h = refl
apart-push p (k ∷ keys) q h = by (apart-push p keys q) (p k) h
  where
    by : (list_any p (keys ++ q ∷ []) ≡ false → (p q ≡ false) × (list_any p keys ≡ false)) → (b : Bool) → (b || list_any p (keys ++ q ∷ [])) ≡ false → (p q ≡ false) × ((b || list_any p keys) ≡ false)
    by f true h = absurd cc
    by f false h = f h

apart-with : (k q : ObjectKey) (keys : List ObjectKey) (b : Bool) → list_any (same_key q) keys ≡ b → list_any (same_key k) (cond b keys (keys ++ q ∷ [])) ≡ false → (same_key k q ≡ false) × (list_any (same_key k) keys ≡ false)
apart-with k q keys true t h = (by (same_key k q) refl, h)
  where
    by : (b : Bool) → same_key k q ≡ b → b ≡ false
    by true s = sym t ∙ (ap (λ z. list_any (same_key z) keys) (sym (key-same k q s)) ∙ h)
    by false s = refl
apart-with k q keys false t h = apart-push (same_key k) keys q h

not-entered : (k : ObjectKey) (entries : List (ObjectEntry Object)) (keys : List ObjectKey) → list_any (same_key k) (fold (λ ks (x : ObjectEntry Object). with_key ks x.key) keys entries) ≡ false
    → AllByRecursion (λ (x : ObjectEntry Object). same_key k x.key ≡ false) entries × (list_any (same_key k) keys ≡ false)
not-entered k [] keys h = (tt, h)
not-entered k (x ∷ xs) keys h =
    let rest = not-entered k xs (with_key keys x.key) h in
    let here = apart-with k x.key keys (list_any (same_key x.key) keys) refl rest.1 in
    ((here.0, rest.0), here.1)

and-false : (a b : Bool) → b ≡ false → (a && b) ≡ false
and-false true b h = h
and-false false b h = refl

none-last : (k : ObjectKey) (d : EditionNo) (entries : List (ObjectEntry Object)) (last : Option (ObjectEntry Object)) → AllByRecursion (λ (x : ObjectEntry Object). same_key k x.key ≡ false) entries
    → fold (λ found x. cond (is_entry_of d k x) (Some x) found) last entries ≡ last
none-last k d [] last all = refl
none-last k d (x ∷ xs) last all =
    ap (λ b. fold (λ found y. cond (is_entry_of d k y) (Some y) found) (cond b (Some x) last) xs) (and-false (is_in d x) (same_key k x.key) all.0) ∙ none-last k d xs last all.1

nearest-none : (at : EditionNo → Option (Option Object)) → ((d : EditionNo) → at d ≡ None) → (line : List EditionNo) → nearest at line ≡ None
nearest-none at none [] = refl
nearest-none at none (d ∷ ds) = ap (λ x. entry_or x (nearest at ds)) (none d) ∙ nearest-none at none ds

pub none-seen : (c : Lists) (e : EditionNo) (k : ObjectKey) → list_any (same_key k) (keys_of c.entries) ≡ false → visible c e k ≡ None
none-seen c e k h =
    let apart = (not-entered k c.entries [] h).0 in
    nearest-none (λ d. last_object c.entries d k) (λ d. ap (option_map (λ (x : ObjectEntry Object). x.object)) (none-last k d c.entries None apart)) (line_of c.editions.made e)

-- ---- what an edition sees

seen : EditionNo → Lists → List Object → EditionView
seen e c objects = record { edition = e; objects = objects; tables = c.tables.living }

-- a key more shows nothing that wasn't seen before
key-more : (c : Lists) (d e : EditionNo) (k : ObjectKey) (o : Option Object) → filter_map (λ key. visible c e key) (in_order (keys_of (with_entry c.entries d k o))) ≡ filter_map (λ key. visible c e key) (in_order (keys_of c.entries))
unfolding in_order
key-more c d e k o =
    ap (λ keys. filter_map (λ key. visible c e key) (in_order keys))
    (fold-push (λ keys (x : ObjectEntry Object). with_key keys x.key) [] c.entries (record { edition = d; key = k; object = o; stamp = next_stamp c.entries d }))
    ∙ by (list_any (same_key k) (keys_of c.entries)) refl
  where
    by : (b : Bool) → list_any (same_key k) (keys_of c.entries) ≡ b
        → filter_map (λ key. visible c e key) (fold (insert_key key_order) [] (cond b (keys_of c.entries) (keys_of c.entries ++ k ∷ []))) ≡ filter_map (λ key. visible c e key) (fold (insert_key key_order) [] (keys_of c.entries))
    by true t = refl
    by false f =
        ap (filter_map (λ key. visible c e key)) (fold-push (insert_key key_order) [] (keys_of c.entries) k)
        ∙ seen-nothing key_order views.key_of (λ key. visible c e key) k key-exact (none-seen c e k f) (fold (insert_key key_order) [] (keys_of c.entries))

-- A definition of an object, or a drop, in a later edition.
pub unchanged : (c : Lists) (d e : EditionNo) (k : ObjectKey) (o : Option Object) → IsLine c.editions → e.0 < d.0 → View (with_object c d k o) e ≡ View c e
unfolding seen
unchanged c d e k o line before =
    ap (λ f. seen e c (filter_map f (in_order (keys_of (with_entry c.entries d k o))))) (λ i key. visible-before c d e k key o line before i)
    ∙ ap (seen e c) (key-more c d e k o)

-- The drop of a package with its body.
pub unchanged-package : (c : Lists) (d e : EditionNo) (name : List ℕ) → IsLine c.editions → e.0 < d.0 → View (with_record c (made.PackageGone d name)) e ≡ View c e
unchanged-package c d e name line before = by (is_some (visible c d (key_of kind.PackageBody name)))
  where
    by : (b : Bool)
        → View (record c { entries = cond b (with_entry (with_entry c.entries d (key_of kind.Package name) None) d (key_of kind.PackageBody name) None) (with_entry c.entries d (key_of kind.Package name) None) }) e ≡ View c e
    by true = unchanged (with_object c d (key_of kind.Package name) None) d e (key_of kind.PackageBody name) None line before ∙ unchanged c d e (key_of kind.Package name) None line before
    by false = unchanged c d e (key_of kind.Package name) None line before

-- ---- the books that stay

still : (c n : Lists) (v : EditionView) → View n v.edition ≡ View c v.edition → IsViewOf c v.edition v → IsViewOf n v.edition v
still c n v same h = record { is = h.is ∙ sym same; order = h.order }

-- books of earlier editions
before-all : (c n : Lists) (d : EditionNo) → ((v : EditionView) → v.edition.0 < d.0 → IsViewOf c v.edition v → IsViewOf n v.edition v) → (vs : List EditionView) → All (λ v. v.edition.0 < d.0) vs → AreCurrent c vs → AreCurrent n vs
before-all c n d stays [] low all = All-nil (λ (v : EditionView). IsViewOf n v.edition v)
before-all c n d stays (v ∷ vs) low all =
    All-cons (λ (w : EditionView). IsViewOf n w.edition w) v vs
    (stays v (All-head (λ (w : EditionView). w.edition.0 < d.0) v vs low) (All-head (λ (w : EditionView). IsViewOf c w.edition w) v vs all))
    (before-all c n d stays vs (All-tail (λ (w : EditionView). w.edition.0 < d.0) v vs low) (All-tail (λ (w : EditionView). IsViewOf c w.edition w) v vs all))

pub before-object : (c : Lists) (r : CatalogueRecord) (d : EditionNo) (o : Object) (vs : List EditionView) → r ≡ made.Object o → d ≡ o.stamp.edition → IsLine (with_record c r).editions → All (λ v. v.edition.0 < d.0) vs → AreCurrent c vs
    → AreCurrent (with_record c r) vs
before-object c r d o vs is at line low all =
    subst (λ q. AreCurrent (with_record c q) vs) (sym is)
    (before-all c (with_record c (made.Object o)) o.stamp.edition (λ v before h. still c (with_record c (made.Object o)) v (unchanged c o.stamp.edition v.edition o.key (Some o) (subst (λ q. IsLine (with_record c q).editions) is line) before) h) vs
    (subst (λ (x : EditionNo). All (λ v. v.edition.0 < x.0) vs) at low) all)

pub before-gone : (c : Lists) (r : CatalogueRecord) (d : EditionNo) (k : ObjectKey) (vs : List EditionView) → r ≡ made.ObjectGone d k → IsLine (with_record c r).editions → All (λ v. v.edition.0 < d.0) vs → AreCurrent c vs → AreCurrent (with_record c r) vs
before-gone c r d k vs is line low all =
    subst (λ q. AreCurrent (with_record c q) vs) (sym is)
    (before-all c (with_record c (made.ObjectGone d k)) d (λ v before h. still c (with_record c (made.ObjectGone d k)) v (unchanged c d v.edition k None (subst (λ q. IsLine (with_record c q).editions) is line) before) h) vs low all)

pub before-package : (c : Lists) (r : CatalogueRecord) (d : EditionNo) (name : List ℕ) (vs : List EditionView) → r ≡ made.PackageGone d name → IsLine (with_record c r).editions → All (λ v. v.edition.0 < d.0) vs → AreCurrent c vs → AreCurrent (with_record c r) vs
before-package c r d name vs is line low all =
    subst (λ q. AreCurrent (with_record c q) vs) (sym is)
    (before-all c (with_record c (made.PackageGone d name)) d (λ v before h. still c (with_record c (made.PackageGone d name)) v (unchanged-package c d v.edition name (subst (λ q. IsLine (with_record c q).editions) is line) before) h) vs low all)

-- A new edition is the leaf, in the line of none before it.
pub before-edition : (c : Lists) (r : CatalogueRecord) (name : List ℕ) (parent d : EditionNo) (chain : Editions) (vs : List EditionView) → r ≡ made.Edition name parent → chain ≡ (with_record c r).editions → IsLine chain → d ≡ leaf chain.made
    → All (λ v. v.edition.0 < d.0) vs → AreCurrent c vs → AreCurrent (with_record c r) vs
before-edition c r name parent d chain vs is now line last low all =
    before-all c (with_record c r) d (λ v before h. after-edition c r name parent chain v v is now line (subst (λ (x : EditionNo). v.edition.0 < x.0) last before) h.is h.order refl) vs low all

-- An edition that is dropped, or made the default, changes nothing that is seen.
pub after-gone : (c : Lists) (r : CatalogueRecord) (d : EditionNo) (vs : List EditionView) → r ≡ made.EditionGone d → AreCurrent c vs → AreCurrent (with_record c r) vs
after-gone c r d [] is all = All-nil (λ (v : EditionView). IsViewOf (with_record c r) v.edition v)
after-gone c r d (v ∷ vs) is all =
    let h = All-head (λ (w : EditionView). IsViewOf c w.edition w) v vs all in
    All-cons (λ (w : EditionView). IsViewOf (with_record c r) w.edition w) v vs (after-edition-gone c r d v v is h.is h.order refl) (after-gone c r d vs is (All-tail (λ (w : EditionView). IsViewOf c w.edition w) v vs all))

pub after-new-default : (c : Lists) (r : CatalogueRecord) (d : EditionNo) (vs : List EditionView) → r ≡ made.Default d → AreCurrent c vs → AreCurrent (with_record c r) vs
after-new-default c r d [] is all = All-nil (λ (v : EditionView). IsViewOf (with_record c r) v.edition v)
after-new-default c r d (v ∷ vs) is all =
    let h = All-head (λ (w : EditionView). IsViewOf c w.edition w) v vs all in
    All-cons (λ (w : EditionView). IsViewOf (with_record c r) w.edition w) v vs (after-default c r d v v is h.is h.order refl) (after-new-default c r d vs is (All-tail (λ (w : EditionView). IsViewOf c w.edition w) v vs all))
