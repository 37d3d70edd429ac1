-- What the invariant of `Chain` gives its methods: the map of the living editions answers as the definitions do.
use Rattle.std.proofs.Common.{◌≡◌, ◌≢◌, ℕ, suc, ◌-◌, ◌<◌, ◌≤◌, true, false, cond, List, [], ◌∷◌, ◌++◌, Option, Some, None, option_map, MatchOption, IfSome, IsSome, is_some, find, filter, map, length, position, get_or, refl, sym, ap, subst, ◌∙◌, arith}
use Rattle.std.specs.Prelude.{AllPairs}
use Rattle.std.specs.List.{slice_get, IsDistinct}
use Rattle.std.specs.Option.{option_to_list}
use Rattle.std.specs.Map.{lookup, keys_of}
use Rattle.std.specs.Str.{bytes_eq}
use Rattle.std.proofs.lemmas.List.{length-map, length_push, map-append, same_from_push, get_or-map}
use Rattle.std.proofs.lemmas.List.Kept.{AllPairs-filter}
use Rattle.std.proofs.lemmas.List.Elements.{filter-append, All-push, All-map, All-weaker}
use Rattle.std.proofs.lemmas.List.Quantifiers.{position-Some}
use Rattle.std.proofs.lemmas.Option.{slice_get-map, slice_get-get_or, slice_get_within}
use Rattle.ebr_base.specs.declared.numbers.EditionNo.{EditionNo}
use Rattle.ebr_editions.specs.declared.entry.EditionEntry.{EditionEntry}
use Rattle.ebr_editions.specs.Editions.{is_numbered, edition_of, edition_named, is_living, living, living_entry, name_of, child_of, leaf, gone, IsLineBelow, HasSmallerParent, max_editions}
use Rattle.ebr_editions.specs.inside.Chain.{named, IsIndexed}
use Rattle.ebr_editions.proofs.Lists.{by_option, some_same, none_some, false_true, each-find, each-get, find-append}
use Rattle.ebr_editions.proofs.Names.{pairs-push, free-name, filter-fewer}
use Rattle.ebr_editions.proofs.Line.{number_of, name_in, has_name, other_than, lookup-named, IsFound, each-found, found-lives, edition_of-living, living-entry, living-none, next_after, next_after-none, child-next, next-place, ends, below-push, below-front, living-gone, numbered-push, numbered-gone, smaller-gone, edition_of-gone, edition_of-bound, name-there, last-fold}

map-some : {X Y : Type 0} (f : X → Y) (o : Option X) (y : Y) → option_map f o ≡ Some y → (x : X) × (o ≡ Some x) × (f x ≡ y)
map-some f None y h = none_some h
map-some f (Some x) y h = (x, refl, some_same h)

map-none : {X Y : Type 0} (f : X → Y) (o : Option X) → option_map f o ≡ None → o ≡ None
map-none f None h = refl
map-none f (Some x) h = none_some (sym h)

abbrev pub other_names : EditionEntry → EditionEntry → Type 0
other_names x y = x.name ≢ y.name

names_of : (xs : List EditionEntry) → keys_of (map named xs) ≡ map name_in xs
names_of [] = refl
names_of (x ∷ xs) = ap (λ ns. x.name ∷ ns) (names_of xs)

second : (o : Option EditionEntry) → option_map (λ (p : List ℕ × EditionNo). p.1) (option_map named o) ≡ option_map number_of o
second None = refl
second (Some x) = refl

pub same_index : (made made' : List EditionEntry) (index index' : List (List ℕ × EditionNo)) (default default' : EditionNo) → made ≡ made' → index ≡ index' → default ≡ default' → IsIndexed made index default → IsIndexed made' index' default'
same_index made made' index index' default default' m i d s =
    subst (λ x. IsIndexed made' index' x) d (subst (λ x. IsIndexed made' x default) i (subst (λ x. IsIndexed x index default) m s))

module _ (made : List EditionEntry) (index : List (List ℕ × EditionNo)) (default : EditionNo) (s : IsIndexed made index default) where
  pub number-is : (n : List ℕ) → lookup (bytes_eq n) index ≡ edition_named made n
  number-is n = ap (lookup (bytes_eq n)) s.living ∙ lookup-named n (living made)

  pub number-lives : (n : List ℕ) → IfSome (edition_named made n) (λ e. is_living made e ≡ true)
  number-lives n =
      by_option (find (has_name n) (living made))
      (λ none. subst (λ o. IfSome (option_map number_of o) (λ e. is_living made e ≡ true)) (sym none) tt)
      (λ x some.
      subst (λ o. IfSome (option_map number_of o) (λ e. is_living made e ≡ true)) (sym some)
      (found-lives (each-find (IsFound 0 made) (has_name n) (living made) x (each-found 0 made s.line.numbered) some)))

  at-place : (i : ℕ) (p : List ℕ × EditionNo) → slice_get index i ≡ Some p → (x : EditionEntry) × (slice_get (living made) i ≡ Some x) × (named x ≡ p)
  at-place i p h = map-some named (slice_get (living made) i) p (sym (slice_get-map named (living made) i) ∙ (sym (ap (λ xs. slice_get xs i) s.living) ∙ h))

  pub place-lives : (i : ℕ) (p : List ℕ × EditionNo) → slice_get index i ≡ Some p → is_living made p.1 ≡ true
  place-lives i p h =
      let there = at-place i p h in
      subst (λ (q : List ℕ × EditionNo). is_living made q.1 ≡ true) there.2
      (found-lives (each-get (IsFound 0 made) (living made) i there.0 (each-found 0 made s.line.numbered) there.1))

  pub index-length : length index ≡ length (living made)
  index-length = ap length s.living ∙ length-map (living made) named

  pub leaf-is : (i : ℕ) (p : List ℕ × EditionNo) → i ≡ length index - 1 → slice_get index i ≡ Some p → p.1 ≡ leaf made
  leaf-is i p e h =
      let there = at-place i p h in
      let within = slice_get_within (living made) i there.0 there.1 in
      sym (last-fold (living made) _ i there.0 there.1 (omega (arith, within, index-length)) ∙ ap (λ (q : List ℕ × EditionNo). q.1) there.2)

  pub not-empty : 0 < length index
  not-empty =
      let there = living-entry made default s.line.default_lives in
      by_length (living made) index-length there.2
    where
      by_length : (xs : List EditionEntry) → length index ≡ length xs → edition_of xs default ≡ Some (living-entry made default s.line.default_lives).0 → 0 < length index
      by_length [] l h = none_some h
      by_length (x ∷ xs) l h = omega (arith, l)

  line-is : IsLineBelow None (living made)
  line-is = s.line.line

  child-is : (e : EditionNo) → child_of made e ≡ option_map number_of (next_after e (living made))
  child-is e = ap (option_map number_of) (child-next e None (living made) line-is refl)

  pub child-gone : (e : EditionNo) → is_living made e ≡ false → child_of made e ≡ None
  child-gone e h = child-is e ∙ ap (option_map number_of) (next_after-none e (living made) (living-none made e s.line.numbered h))

  -- the entry behind an edition's name
  entry-named : (e : EditionNo) (n : List ℕ) → name_of made e ≡ Some n → is_living made e ≡ true → (x : EditionEntry) × (edition_of made e ≡ Some x) × (x.name ≡ n) × (edition_of (living made) e ≡ Some x)
  entry-named e n h l =
      let there = map-some name_in (edition_of made e) n h in
      (there.0, there.1, there.2, edition_of-living made e there.0 there.1 (sym (ap living_entry there.1) ∙ l))

  pub name-found : (e : EditionNo) (n : List ℕ) → name_of made e ≡ Some n → is_living made e ≡ true → is_some (lookup (bytes_eq n) index) ≡ true
  name-found e n h l =
      let there = entry-named e n h l in
      ap is_some (number-is n)
      ∙ (still (find (has_name n) (living made))
      ∙ subst (λ m. is_some (find (has_name m) (living made)) ≡ true) there.2 (name-there (living made) e there.0 there.3))
    where
      still : (o : Option EditionEntry) → is_some (option_map number_of o) ≡ is_some o
      still None = refl
      still (Some x) = refl

  pub child-at : (e : EditionNo) (n : List ℕ) (i : ℕ) → name_of made e ≡ Some n → is_living made e ≡ true → IsDistinct bytes_eq (keys_of index) → position (bytes_eq n) (keys_of index) ≡ Some i
      → option_map (λ (p : List ℕ × EditionNo). p.1) (slice_get index (suc i)) ≡ child_of made e
  child-at e n i h l d g =
      let there = entry-named e n h l in
      let x : EditionEntry = there.0 in
      let names : keys_of index ≡ map name_in (living made) = ap keys_of s.living ∙ names_of (living made) in
      let place = position-Some (bytes_eq n) (map name_in (living made)) i n (sym (ap (position (bytes_eq n)) names) ∙ g) in
      let within : i < length (living made) = omega (arith, place.0, length-map (living made) name_in) in
      let same : get_or (map name_in (living made)) i n ≡ name_in (get_or (living made) i x) = get_or-map name_in (living made) i x n within in
      let here : bytes_eq x.name (get_or (living made) i x).name ≡ true = ap (λ m. bytes_eq m (get_or (living made) i x).name) there.2 ∙ (ap (bytes_eq n) (sym same) ∙ place.1) in
      let next = next-place (living made) e x i (get_or (living made) i x) there.3 (subst (IsDistinct bytes_eq) names d) (slice_get-get_or (living made) i x within) here in
      ap (option_map (λ (p : List ℕ × EditionNo). p.1)) (ap (λ xs. slice_get xs (suc i)) s.living ∙ slice_get-map named (living made) (suc i))
      ∙ (second (slice_get (living made) (suc i)) ∙ (ap (option_map number_of) (sym next) ∙ sym (child-is e)))

  last-is : (e : EditionNo) → child_of made e ≡ None → next_after e (living made) ≡ None
  last-is e h = map-none number_of (next_after e (living made)) (sym (child-is e) ∙ h)

  -- a child of the last edition
  pub added : (x : EditionEntry) (e : EditionNo) → is_living made e ≡ true → child_of made e ≡ None → x.parent ≡ Some e → x.living ≡ true → x.number.0 ≡ suc (length made) → edition_named made x.name ≡ None → length (living made) < max_editions → IsIndexed (made ++ x ∷ []) (index ++ named x ∷ []) default
  added x e l c p a n free room =
      let there = living-entry made e l in
      let after : living (made ++ x ∷ []) ≡ living made ++ x ∷ [] =
      filter-append (λ (z : EditionEntry). z.living) made (x ∷ []) ∙ ap (λ b. living made ++ cond b (x ∷ []) []) a in
      let low = edition_of-bound 0 made e there.0 s.line.numbered there.1 in
      let stays = living-entry made default s.line.default_lives in
      record {
        living = ap (λ xs. xs ++ named x ∷ []) s.living ∙ (sym (map-append named (living made) (x ∷ [])) ∙ ap (map named) (sym after));
        line = record {
          numbered = numbered-push 0 made x s.line.numbered (omega (arith, n));
          parents = All-push HasSmallerParent made x s.line.parents (smaller x.parent p (omega (arith, low, n)));
          line = subst (IsLineBelow None) (sym after) (below-push e None (living made) there.0 x there.2 (last-is e c) p line-is);
          names = subst (AllPairs other_names) (sym after) (pairs-push other_names (living made) x s.line.names (free-name x.name (living made) free));
          few = omega (arith, room, length_push (living made) x, ap length after);
          default_lives = ap living_entry (find-append (is_numbered default) made (x ∷ []) stays.0 stays.1) ∙ (sym (ap living_entry stays.1) ∙ s.line.default_lives);
        };
      }
    where
      smaller : (q : Option EditionNo) → q ≡ Some e → e.0 < x.number.0 → MatchOption q (x.number.0 ≡ 1) (λ r. r.0 < x.number.0)
      smaller None h g = none_some h
      smaller (Some r) h g = subst (λ (z : EditionNo). z.0 < x.number.0) (sym (some_same h)) g

  -- the line without its last edition
  pub removed : (e : EditionNo) (index' : List (List ℕ × EditionNo)) (r : Option (List ℕ × EditionNo)) → is_living made e ≡ true → child_of made e ≡ None → e ≢ default → index ≡ index' ++ option_to_list r → (0 < length index → IsSome r)
      → IsIndexed (map (gone e) made) index' default
  removed e index' r l c o i f =
      let there = living-entry made e l in
      let last = ends e (living made) there.0 there.2 (last-is e c) in
      let after = living-gone e made in
      let d : default ≢ e = λ q. o (sym q) in
      record {
        living = cut r i (f not-empty) _ _ (s.living ∙ (ap (map named) last ∙ map-append named (filter (other_than e) (living made)) (there.0 ∷ []))) ∙ ap (map named) (sym after);
        line = record {
          numbered = numbered-gone 0 e made s.line.numbered;
          parents = All-map HasSmallerParent (gone e) made (All-weaker HasSmallerParent (λ z. HasSmallerParent (gone e z)) (smaller-gone e) made s.line.parents);
          line = subst (IsLineBelow None) (sym after) (below-front None (filter (other_than e) (living made)) (there.0 ∷ []) (subst (IsLineBelow None) last line-is));
          names = subst (AllPairs other_names) (sym after) (AllPairs-filter other_names (other_than e) (living made) s.line.names);
          few = subst (λ xs. length xs ≤ max_editions) (sym after) (filter-fewer (other_than e) (living made) max_editions s.line.few);
          default_lives = ap living_entry (edition_of-gone e default made d) ∙ s.line.default_lives;
        };
      }
    where
      cut : (q : Option (List ℕ × EditionNo)) → index ≡ index' ++ option_to_list q → IsSome q → (xs : List (List ℕ × EditionNo)) (y : List ℕ × EditionNo) → index ≡ xs ++ y ∷ [] → index' ≡ xs
      cut None h g xs y k = false_true g
      cut (Some p) h g xs y k = (same_from_push index' xs p y (sym h ∙ k)).0
