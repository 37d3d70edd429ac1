-- What holds of the line of editions, by induction on the list of all that were made.
use Rattle.std.proofs.Common.{◌≡◌, ◌≢◌, ℕ, zero, suc, ◌+◌, ◌<◌, ◌≤◌, Bool, true, false, cond, not, List, [], ◌∷◌, ◌++◌, Option, Some, None, option_map, MatchOption, IfSome, is_some, find, filter, map, set, length, fold, refl, sym, ap, subst, ◌∙◌, arith}
use Rattle.std.specs.List.{slice_get, AllByRecursion, IsDistinct}
use Rattle.std.specs.Map.{lookup}
use Rattle.std.specs.Str.{bytes_eq}
use Rattle.ebr_base.specs.declared.numbers.EditionNo.{EditionNo}
use Rattle.ebr_editions.specs.declared.entry.EditionEntry.{EditionEntry}
use Rattle.std.proofs.lemmas.List.Elements.{recursion_from_All}
use Rattle.ebr_editions.specs.Editions.{Editions, IsLine, is_edition, is_numbered, edition_of, is_living, living, living_entry, parent_entry, parent_of, line_up, line_from, line_of, is_parent, gone, IsNumberedFrom, IsLineBelow, HasSmallerParent}
use Rattle.ebr_editions.specs.inside.Chain.{named}
use Rattle.ebr_editions.proofs.Lists.{by_test, by_option, cond-true, cond-false, some_same, none_some, false_true, same_edition, is_edition-same, is_edition-other, same_name, name_itself, find-true, each-find, each-get, each-weaker}

abbrev pub number_of : EditionEntry → EditionNo
number_of x = x.number

abbrev pub name_in : EditionEntry → List ℕ
name_in x = x.name

abbrev pub lives_there : EditionEntry → Bool
lives_there x = x.living

abbrev pub has_name : List ℕ → EditionEntry → Bool
has_name n x = bytes_eq n x.name

abbrev pub child_test : EditionNo → EditionEntry → Bool
child_test e x = is_parent e x.parent

abbrev pub other_than : EditionNo → EditionEntry → Bool
other_than e x = not (is_numbered e x)

-- An edition stands at its number's place.
pub edition_of-at : (n k : ℕ) (made : List EditionEntry) (e : EditionNo) → IsNumberedFrom n made → e.0 ≡ suc n + k → edition_of made e ≡ slice_get made k
edition_of-at n k [] e h p = refl
edition_of-at n zero (x ∷ made) e h p = cond-true (is_numbered e x) _ _ (is_edition-same x.number e (omega (arith, h.0)))
edition_of-at n (suc k) (x ∷ made) e h p =
    cond-false (is_numbered e x) _ _ (is_edition-other x.number e (omega (arith, h.0))) ∙ edition_of-at (suc n) k made e h.1 (omega arith)

-- No edition has a number of the ones before.
pub edition_of-below : (n : ℕ) (made : List EditionEntry) (e : EditionNo) → IsNumberedFrom n made → e.0 ≤ n → edition_of made e ≡ None
edition_of-below n [] e h p = refl
edition_of-below n (x ∷ made) e h p =
    cond-false (is_numbered e x) _ _ (is_edition-other x.number e (omega (arith, h.0))) ∙ edition_of-below (suc n) made e h.1 (omega arith)

-- No number is greater than the count of those made.
pub edition_of-bound : (n : ℕ) (made : List EditionEntry) (e : EditionNo) (x : EditionEntry) → IsNumberedFrom n made → edition_of made e ≡ Some x → e.0 ≤ n + length made
edition_of-bound n [] e x h p = none_some p
edition_of-bound n (y ∷ made) e x h p =
    by_test (is_numbered e y)
    (λ t. let same = ap (λ (d : EditionNo). d.0) (same_edition y.number e t) in omega (arith, h.0, same))
    (λ f. let rest = edition_of-bound (suc n) made e x h.1 (sym (cond-false (is_numbered e y) (Some y) (edition_of made e) f) ∙ p) in omega (arith, rest))

-- No number is that of an edition before.
pub edition_of-above : (n : ℕ) (made : List EditionEntry) (e : EditionNo) (x : EditionEntry) → IsNumberedFrom n made → edition_of made e ≡ Some x → n < e.0
edition_of-above n [] e x h p = none_some p
edition_of-above n (y ∷ made) e x h p =
    by_test (is_numbered e y)
    (λ t. let same = ap (λ (d : EditionNo). d.0) (same_edition y.number e t) in omega (arith, h.0, same))
    (λ f. let rest = edition_of-above (suc n) made e x h.1 (sym (cond-false (is_numbered e y) (Some y) (edition_of made e) f) ∙ p) in omega (arith, rest))

-- An edition that is there is found by its name.
pub name-there : (xs : List EditionEntry) (e : EditionNo) (x : EditionEntry) → edition_of xs e ≡ Some x → is_some (find (has_name x.name) xs) ≡ true
name-there [] e x h = none_some h
name-there (y ∷ xs) e x h =
    by_test (has_name x.name y)
    (λ t. ap is_some (cond-true (has_name x.name y) (Some y) (find (has_name x.name) xs) t))
    (λ f.
    ap is_some (cond-false (has_name x.name y) (Some y) (find (has_name x.name) xs) f)
    ∙ by_test (is_numbered e y)
    (λ t.
    let same : y ≡ x = some_same (sym (cond-true (is_numbered e y) (Some y) (edition_of xs e) t) ∙ h) in
    false_true (sym f ∙ (ap (λ (z : EditionEntry). bytes_eq x.name z.name) same ∙ name_itself x.name)))
    (λ g. name-there xs e x (sym (cond-false (is_numbered e y) (Some y) (edition_of xs e) g) ∙ h)))

-- The map from names answers as the list does.
pub lookup-named : (n : List ℕ) (xs : List EditionEntry) → lookup (bytes_eq n) (map named xs) ≡ option_map number_of (find (has_name n) xs)
lookup-named n [] = refl
lookup-named n (x ∷ xs) =
    by_test (has_name n x)
    (λ t. cond-true (has_name n x) _ _ t ∙ sym (ap (option_map number_of) (cond-true (has_name n x) (Some x) (find (has_name n) xs) t)))
    (λ f. cond-false (has_name n x) _ _ f ∙ (lookup-named n xs ∙ sym (ap (option_map number_of) (cond-false (has_name n x) (Some x) (find (has_name n) xs) f))))

-- A living edition is found by its number.
pub record IsFound (n : ℕ) (made : List EditionEntry) (x : EditionEntry) : Type 0 where
  pub above : n < x.number.0
  pub entry : edition_of made x.number ≡ Some x
  pub lives : x.living ≡ true

later : (n : ℕ) (y : EditionEntry) (made : List EditionEntry) → y.number.0 ≡ suc n → (x : EditionEntry) → IsFound (suc n) made x → IsFound n (y ∷ made) x
later n y made h x f = record {
  above = omega (arith, f.above);
  entry = cond-false (is_numbered x.number y) _ _ (is_edition-other y.number x.number (omega (arith, f.above, h))) ∙ f.entry;
  lives = f.lives;
}

pub each-found : (n : ℕ) (made : List EditionEntry) → IsNumberedFrom n made → AllByRecursion (IsFound n made) (living made)
each-found n [] h = tt
each-found n (y ∷ made) h =
    let rest : AllByRecursion (IsFound n (y ∷ made)) (living made) = each-weaker _ _ (later n y made h.0) (living made) (each-found (suc n) made h.1) in
    let here : y.living ≡ true → IsFound n (y ∷ made) y = λ t. record {
      above = omega (arith, h.0);
      entry = cond-true (is_numbered y.number y) _ _ (is_edition-same y.number y.number refl);
      lives = t;
    } in
    by_test y.living
    (λ t. subst (AllByRecursion (IsFound n (y ∷ made))) (sym (cond-true y.living (y ∷ living made) (living made) t)) (here t, rest))
    (λ f. subst (AllByRecursion (IsFound n (y ∷ made))) (sym (cond-false y.living (y ∷ living made) (living made) f)) rest)

pub found-lives : {n : ℕ} {made : List EditionEntry} {x : EditionEntry} → IsFound n made x → is_living made x.number ≡ true
found-lives {n} {made} {x} f = ap living_entry f.entry ∙ f.lives

-- what is found among all and lives is found among the living
pub edition_of-living : (made : List EditionEntry) (e : EditionNo) (x : EditionEntry) → edition_of made e ≡ Some x → x.living ≡ true → edition_of (living made) e ≡ Some x
edition_of-living [] e x h l = h
edition_of-living (y ∷ made) e x h l =
    let P : List EditionEntry → Type 0 = λ ys. edition_of ys e ≡ Some x in
    by_test (is_numbered e y)
    (λ t.
    let same : y ≡ x = some_same (sym (cond-true (is_numbered e y) (Some y) (edition_of made e) t) ∙ h) in
    let lives : y.living ≡ true = ap lives_there same ∙ l in
    subst P (sym (cond-true y.living (y ∷ living made) (living made) lives)) (cond-true (is_numbered e y) (Some y) (edition_of (living made) e) t ∙ ap Some same))
    (λ f.
    let rest = edition_of-living made e x (sym (cond-false (is_numbered e y) (Some y) (edition_of made e) f) ∙ h) l in
    by_test y.living
    (λ t. subst P (sym (cond-true y.living (y ∷ living made) (living made) t)) (cond-false (is_numbered e y) (Some y) (edition_of (living made) e) f ∙ rest))
    (λ g. subst P (sym (cond-false y.living (y ∷ living made) (living made) g)) rest))

-- an edition that lives has an entry, which stands among the living
pub living-entry : (made : List EditionEntry) (e : EditionNo) → is_living made e ≡ true → (x : EditionEntry) × (edition_of made e ≡ Some x) × (edition_of (living made) e ≡ Some x)
living-entry made e h =
    by_option (edition_of made e)
    (λ none. false_true (sym (ap living_entry none) ∙ h))
    (λ x some. (x, some, edition_of-living made e x some (sym (ap living_entry some) ∙ h)))

-- one that doesn't live isn't among the living
pub living-none : (made : List EditionEntry) (e : EditionNo) → IsNumberedFrom 0 made → is_living made e ≡ false → edition_of (living made) e ≡ None
living-none made e h g =
    by_option (edition_of (living made) e)
    (λ none. none)
    (λ x some.
    let found = each-find (IsFound 0 made) (is_numbered e) (living made) x (each-found 0 made h) some in
    let same : x.number ≡ e = same_edition x.number e (find-true (is_numbered e) (living made) x some) in
    false_true (sym g ∙ subst (λ d. is_living made d ≡ true) same (found-lives found)))

-- the edition after the one of a number
abbrev pub next_after : EditionNo → List EditionEntry → Option EditionEntry
next_after e [] = None
next_after e (x ∷ xs) = cond (is_numbered e x) (slice_get xs 0) (next_after e xs)

pub next_after-none : (e : EditionNo) (xs : List EditionEntry) → edition_of xs e ≡ None → next_after e xs ≡ None
next_after-none e [] h = refl
next_after-none e (x ∷ xs) h =
    by_test (is_numbered e x)
    (λ t. none_some (sym h ∙ cond-true (is_numbered e x) (Some x) (edition_of xs e) t))
    (λ f. cond-false (is_numbered e x) _ _ f ∙ next_after-none e xs (sym (cond-false (is_numbered e x) (Some x) (edition_of xs e) f) ∙ h))

head-child : (e : EditionNo) (x : EditionEntry) (xs : List EditionEntry) → is_numbered e x ≡ true → IsLineBelow (Some x.number) xs → find (child_test e) xs ≡ slice_get xs 0
head-child e x [] t h = refl
head-child e x (y ∷ xs) t h = cond-true (child_test e y) (Some y) _ (ap (is_parent e) h.0 ∙ t)

-- In a line the child of an edition is the one after it.
pub child-next : (e : EditionNo) (p : Option EditionNo) (xs : List EditionEntry) → IsLineBelow p xs → is_parent e p ≡ false → find (child_test e) xs ≡ next_after e xs
child-next e p [] h g = refl
child-next e p (x ∷ xs) h g =
    cond-false (child_test e x) (Some x) (find (child_test e) xs) (ap (is_parent e) h.0 ∙ g)
    ∙ by_test (is_numbered e x)
    (λ t. head-child e x xs t h.1 ∙ sym (cond-true (is_numbered e x) (slice_get xs 0) (next_after e xs) t))
    (λ f. child-next e (Some x.number) xs h.1 f ∙ sym (cond-false (is_numbered e x) (slice_get xs 0) (next_after e xs) f))

same_names : List ℕ → List ℕ → Bool
same_names = bytes_eq

-- Where names are distinct, the place of an edition's name is its own.
pub next-place : (xs : List EditionEntry) (e : EditionNo) (x : EditionEntry) (i : ℕ) (y : EditionEntry) → edition_of xs e ≡ Some x → IsDistinct bytes_eq (map name_in xs) → slice_get xs i ≡ Some y
    → bytes_eq x.name y.name ≡ true → next_after e xs ≡ slice_get xs (suc i)
unfolding IsDistinct
next-place [] e x i y h d g s = none_some h
next-place (z ∷ zs) e x zero y h d g s =
    by_test (is_numbered e z)
    (λ t. cond-true (is_numbered e z) (slice_get zs 0) (next_after e zs) t)
    (λ f.
    let there = sym (cond-false (is_numbered e z) (Some z) (edition_of zs e) f) ∙ h in
    let apart = each-find (λ (w : EditionEntry). bytes_eq z.name w.name ≡ false) (is_numbered e) zs x (apart_from z.name zs d.0) there in
    let same : x.name ≡ z.name = same_name x.name y.name s ∙ ap name_in (some_same (sym g)) in
    false_true (sym apart ∙ (ap (bytes_eq z.name) same ∙ name_itself z.name)))
  where
    apart_from : (n : List ℕ) (ws : List EditionEntry) → AllByRecursion (λ m. bytes_eq n m ≡ false) (map name_in ws) → AllByRecursion (λ (w : EditionEntry). bytes_eq n w.name ≡ false) ws
    apart_from n [] all = tt
    apart_from n (w ∷ ws) all = (all.0, apart_from n ws all.1)
next-place (z ∷ zs) e x (suc i) y h d g s =
    by_test (is_numbered e z)
    (λ t.
    let same : z ≡ x = some_same (sym (cond-true (is_numbered e z) (Some z) (edition_of zs e) t) ∙ h) in
    let apart = each-get (λ (w : EditionEntry). bytes_eq z.name w.name ≡ false) zs i y (apart_from z.name zs d.0) g in
    false_true (sym apart ∙ (ap (λ (w : EditionEntry). bytes_eq w.name y.name) same ∙ s)))
    (λ f.
    cond-false (is_numbered e z) (slice_get zs 0) (next_after e zs) f
    ∙ next-place zs e x i y (sym (cond-false (is_numbered e z) (Some z) (edition_of zs e) f) ∙ h) d.1 g s)
  where
    apart_from : (n : List ℕ) (ws : List EditionEntry) → AllByRecursion (λ m. bytes_eq n m ≡ false) (map name_in ws) → AllByRecursion (λ (w : EditionEntry). bytes_eq n w.name ≡ false) ws
    apart_from n [] all = tt
    apart_from n (w ∷ ws) all = (all.0, apart_from n ws all.1)

-- The end of the line: an edition with no child stands last.
pub ends : (e : EditionNo) (xs : List EditionEntry) (x : EditionEntry) → edition_of xs e ≡ Some x → next_after e xs ≡ None → xs ≡ filter (other_than e) xs ++ x ∷ []
ends e [] x h g = none_some h
ends e (y ∷ ys) x h g =
    by_test (is_numbered e y)
    (λ t.
    let same : y ≡ x = some_same (sym (cond-true (is_numbered e y) (Some y) (edition_of ys e) t) ∙ h) in
    let last : slice_get ys 0 ≡ None = sym (cond-true (is_numbered e y) (slice_get ys 0) (next_after e ys) t) ∙ g in
    alone ys last same t)
    (λ f.
    let rest = ends e ys x (sym (cond-false (is_numbered e y) (Some y) (edition_of ys e) f) ∙ h) (sym (cond-false (is_numbered e y) (slice_get ys 0) (next_after e ys) f) ∙ g) in
    ap (λ zs. y ∷ zs) rest ∙ sym (ap (λ zs. zs ++ x ∷ []) (cond-true (other_than e y) (y ∷ filter (other_than e) ys) (filter (other_than e) ys) (ap not f))))
  where
    alone : (zs : List EditionEntry) → slice_get zs 0 ≡ None → y ≡ x → is_numbered e y ≡ true → y ∷ zs ≡ filter (other_than e) (y ∷ zs) ++ x ∷ []
    alone [] n same t = ap (λ z. z ∷ []) same ∙ sym (ap (λ ws. ws ++ x ∷ []) (cond-false (other_than e y) (y ∷ []) [] (ap not t)))
    alone (z ∷ zs) n same t = none_some (sym n)

-- A child of the last edition goes on with the line.
pub below-push : (e : EditionNo) (p : Option EditionNo) (xs : List EditionEntry) (y x : EditionEntry) → edition_of xs e ≡ Some y → next_after e xs ≡ None → x.parent ≡ Some e → IsLineBelow p xs → IsLineBelow p (xs ++ x ∷ [])
below-push e p [] y x h g q l = none_some h
below-push e p (z ∷ zs) y x h g q l =
    by_test (is_numbered e z)
    (λ t.
    let last : slice_get zs 0 ≡ None = sym (cond-true (is_numbered e z) (slice_get zs 0) (next_after e zs) t) ∙ g in
    (l.0, alone zs last (q ∙ ap Some (sym (same_edition z.number e t)))))
    (λ f.
    (l.0, below-push e (Some z.number) zs y x (sym (cond-false (is_numbered e z) (Some z) (edition_of zs e) f) ∙ h) (sym (cond-false (is_numbered e z) (slice_get zs 0) (next_after e zs) f) ∙ g) q l.1))
  where
    alone : (ws : List EditionEntry) → slice_get ws 0 ≡ None → x.parent ≡ Some z.number → IsLineBelow (Some z.number) (ws ++ x ∷ [])
    alone [] n s = (s, tt)
    alone (w ∷ ws) n s = none_some (sym n)

pub below-front : (p : Option EditionNo) (xs ys : List EditionEntry) → IsLineBelow p (xs ++ ys) → IsLineBelow p xs
below-front p [] ys l = tt
below-front p (x ∷ xs) ys l = (l.0, below-front (Some x.number) xs ys l.1)

-- what lives after one is gone
pub living-gone : (e : EditionNo) (made : List EditionEntry) → living (map (gone e) made) ≡ filter (other_than e) (living made)
living-gone e [] = refl
living-gone e (x ∷ made) =
    let rest = living-gone e made in
    let after : List EditionEntry = living (map (gone e) made) in
    by_test (is_numbered e x)
    (λ t.
    ap (λ (z : EditionEntry). cond z.living (z ∷ after) after) (cond-true (is_numbered e x) (record x { living = false }) x t)
    ∙ (rest
    ∙ by_test x.living
    (λ l. sym (ap (filter (other_than e)) (cond-true x.living (x ∷ living made) (living made) l) ∙ cond-false (other_than e x) _ _ (ap not t)))
    (λ l. sym (ap (filter (other_than e)) (cond-false x.living (x ∷ living made) (living made) l)))))
    (λ f.
    ap (λ (z : EditionEntry). cond z.living (z ∷ after) after) (cond-false (is_numbered e x) (record x { living = false }) x f)
    ∙ by_test x.living
    (λ l.
    cond-true x.living _ _ l ∙ (ap (λ zs. x ∷ zs) rest
    ∙ sym (ap (filter (other_than e)) (cond-true x.living (x ∷ living made) (living made) l) ∙ cond-true (other_than e x) _ _ (ap not f))))
    (λ l. cond-false x.living _ _ l ∙ (rest ∙ sym (ap (filter (other_than e)) (cond-false x.living (x ∷ living made) (living made) l)))))

gone-above : (n : ℕ) (e : EditionNo) (made : List EditionEntry) → IsNumberedFrom n made → e.0 ≤ n → map (gone e) made ≡ made
gone-above n e [] h p = refl
gone-above n e (x ∷ made) h p =
    ap (λ z. z ∷ map (gone e) made) (cond-false (is_numbered e x) (record x { living = false }) x (is_edition-other x.number e (omega (arith, h.0))))
    ∙ ap (λ zs. x ∷ zs) (gone-above (suc n) e made h.1 (omega arith))

-- a write at the place of an edition marks it alone
pub gone-set : (n k : ℕ) (e : EditionNo) (made : List EditionEntry) (x : EditionEntry) → IsNumberedFrom n made → e.0 ≡ suc n + k → slice_get made k ≡ Some x → set made k (record x { living = false }) ≡ map (gone e) made
gone-set n k e [] x h p g = none_some g
gone-set n zero e (y ∷ made) x h p g =
    let same : y ≡ x = some_same g in
    sym (ap (λ zs. gone e y ∷ zs) (gone-above (suc n) e made h.1 (omega arith))
    ∙ ap (λ z. z ∷ made) (cond-true (is_numbered e y) (record y { living = false }) y (is_edition-same y.number e (omega (arith, h.0))) ∙ ap (λ (z : EditionEntry). let w : EditionEntry = record z { living = false } in w) same))
gone-set n (suc k) e (y ∷ made) x h p g =
    ap (λ zs. y ∷ zs) (gone-set (suc n) k e made x h.1 (omega arith) g)
    ∙ sym (ap (λ z. z ∷ map (gone e) made) (cond-false (is_numbered e y) (record y { living = false }) y (is_edition-other y.number e (omega (arith, h.0)))))

pub numbered-push : (n : ℕ) (made : List EditionEntry) (x : EditionEntry) → IsNumberedFrom n made → x.number.0 ≡ suc (n + length made) → IsNumberedFrom n (made ++ x ∷ [])
numbered-push n [] x h p = (omega (arith, p), tt)
numbered-push n (y ∷ made) x h p = (h.0, numbered-push (suc n) made x h.1 (omega (arith, p)))

gone-number : (e : EditionNo) (x : EditionEntry) → (gone e x).number ≡ x.number
gone-number e x = by_test (is_numbered e x) (λ t. ap number_of (cond-true (is_numbered e x) (record x { living = false }) x t)) (λ f. ap number_of (cond-false (is_numbered e x) (record x { living = false }) x f))

gone-parent : (e : EditionNo) (x : EditionEntry) → (gone e x).parent ≡ x.parent
gone-parent e x =
    let parent : EditionEntry → Option EditionNo = λ z. z.parent in
    by_test (is_numbered e x) (λ t. ap parent (cond-true (is_numbered e x) (record x { living = false }) x t)) (λ f. ap parent (cond-false (is_numbered e x) (record x { living = false }) x f))

pub numbered-gone : (n : ℕ) (e : EditionNo) (made : List EditionEntry) → IsNumberedFrom n made → IsNumberedFrom n (map (gone e) made)
numbered-gone n e [] h = tt
numbered-gone n e (x ∷ made) h = (ap (λ (d : EditionNo). d.0) (gone-number e x) ∙ h.0, numbered-gone (suc n) e made h.1)

pub smaller-gone : (e : EditionNo) (x : EditionEntry) → HasSmallerParent x → HasSmallerParent (gone e x)
smaller-gone e x h =
    let P : Option EditionNo → EditionNo → Type 0 = λ p d. MatchOption p (d.0 ≡ 1) (λ q. q.0 < d.0) in
    subst (λ p. P p (gone e x).number) (sym (gone-parent e x)) (subst (P x.parent) (sym (gone-number e x)) h)

-- another edition stays as it is
pub edition_of-gone : (e d : EditionNo) (made : List EditionEntry) → d ≢ e → edition_of (map (gone e) made) d ≡ edition_of made d
edition_of-gone e d [] h = refl
edition_of-gone e d (x ∷ made) h =
    let rest = edition_of-gone e d made h in
    let other : is_numbered d (gone e x) ≡ is_numbered d x = ap (λ n. is_edition n d) (gone-number e x) in
    by_test (is_numbered d x)
    (λ t.
    let apart : is_numbered e x ≡ false = is_edition-other x.number e (λ s. h (sym (same_edition x.number d t) ∙ same_edition x.number e (is_edition-same x.number e s))) in
    cond-true (is_numbered d (gone e x)) _ _ (other ∙ t) ∙ (ap Some (cond-false (is_numbered e x) (record x { living = false }) x apart) ∙ sym (cond-true (is_numbered d x) (Some x) (edition_of made d) t)))
    (λ f. cond-false (is_numbered d (gone e x)) _ _ (other ∙ f) ∙ (rest ∙ sym (cond-false (is_numbered d x) (Some x) (edition_of made d) f)))

pub last-fold : (xs : List EditionEntry) (d : EditionNo) (k : ℕ) (x : EditionEntry) → slice_get xs k ≡ Some x → suc k ≡ length xs → fold (λ e (z : EditionEntry). z.number) d xs ≡ x.number
last-fold [] d k x h p = none_some h
last-fold (y ∷ []) d zero x h p = ap number_of (some_same h)
last-fold (y ∷ (z ∷ zs)) d zero x h p = absurd (omega (arith, p))
last-fold (y ∷ ys) d (suc k) x h p = last-fold ys y.number k x h (omega (arith, p))

if_some : {X : Type 0} (A : Type 0) (o : Option X) (Q : X → Type 0) → MatchOption o A Q → IfSome o Q
if_some A None Q h = tt
if_some A (Some x) Q h = h

pub parent-smaller : (c : Editions) (e : EditionNo) (x : EditionEntry) → IsLine c → edition_of c.made e ≡ Some x → IfSome x.parent (λ p. p.0 < e.0)
parent-smaller c e x line h =
    let smaller = each-find HasSmallerParent (is_numbered e) c.made x (recursion_from_All HasSmallerParent c.made line.parents) h in
    let same : x.number ≡ e = same_edition x.number e (find-true (is_numbered e) c.made x h) in
    if_some _ x.parent (λ p. p.0 < e.0) (subst (λ (d : EditionNo). MatchOption x.parent (d.0 ≡ 1) (λ p. p.0 < d.0)) same smaller)

pub parent-below : (c : Editions) → IsLine c → (e : EditionNo) → IfSome (parent_of c.made e) (λ p. p.0 < e.0)
parent-below c line e =
    by_option (edition_of c.made e)
    (λ none. subst (λ x. IfSome (parent_entry x) (λ p. p.0 < e.0)) (sym none) tt)
    (λ x some. subst (λ y. IfSome (parent_entry y) (λ p. p.0 < e.0)) (sym some) (parent-smaller c e x line some))

Below : ℕ → Option EditionNo → Type 0
Below n None = Unit {0}
Below n (Some e) = e.0 < n

under : (e : EditionNo) (p : Option EditionNo) (n : ℕ) → e.0 ≤ n → IfSome p (λ q. q.0 < e.0) → Below n p
unfolding Below
under e None n a s = tt
under e (Some q) n a s = omega (arith, s, a)

-- How far the line may go up makes no difference, once it is above the number.
line_up-any : (made : List EditionEntry) → ((e : EditionNo) → IfSome (parent_of made e) (λ p. p.0 < e.0)) → (k l : ℕ) (at : Option EditionNo) → Below k at → Below l at → line_up made k at ≡ line_up made l at
unfolding Below
line_up-any made h zero zero at b c = refl
line_up-any made h zero (suc l) None b c = refl
line_up-any made h (suc k) zero None b c = refl
line_up-any made h (suc k) (suc l) None b c = refl
line_up-any made h zero l (Some e) b c = absurd (omega (arith, b))
line_up-any made h (suc k) zero (Some e) b c = absurd (omega (arith, c))
line_up-any made h (suc k) (suc l) (Some e) b c =
    ap (λ es. e ∷ es) (line_up-any made h k l (parent_of made e) (under e (parent_of made e) k (omega (arith, b)) (h e)) (under e (parent_of made e) l (omega (arith, c)) (h e)))

line_up-none : (made : List EditionEntry) (n : ℕ) → line_up made n None ≡ []
line_up-none made zero = refl
line_up-none made (suc n) = refl

-- the line of an edition is itself and the line of its parent
pub line_of-step : (c : Editions) → IsLine c → (e : EditionNo) → line_of c.made e ≡ e ∷ line_from c.made (parent_of c.made e)
unfolding Below
line_of-step c line e = ap (λ es. e ∷ es) (from (parent_of c.made e) (parent-below c line e))
  where
    from : (p : Option EditionNo) → IfSome p (λ q. q.0 < e.0) → line_up c.made e.0 p ≡ line_from c.made p
    from None s = line_up-none c.made e.0
    from (Some q) s = line_up-any c.made (parent-below c line) e.0 (suc q.0) (Some q) s (omega arith)
