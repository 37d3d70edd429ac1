-- What joins a group, object by object, is what the definitions filter; and the line down, edition by edition.
use Rattle.std.proofs.Common.{◌≡◌, ◌<◌, ◌≤◌, ◌-◌, ◌+◌, ℕ, zero, suc, Bool, true, false, cond, List, [], ◌∷◌, ◌++◌, Option, Some, None, option_map, map, filter, fold, drop, refl, sym, ap, ◌∙◌, arith}
use Rattle.std.specs.List.{filter_map, cons_option, slice_get}
use Rattle.std.specs.BTreeSet.{insert_key}
use Rattle.std.proofs.lemmas.List.{map-append}
use Rattle.std.proofs.lemmas.List.Elements.{filter-append}
use Rattle.std.proofs.lemmas.List.Sums.{fold-append}
use Rattle.ebr_base.specs.declared.numbers.EditionNo.{EditionNo}
use Rattle.ebr_base.specs.declared.object.ObjectKey.{ObjectKey}
use Rattle.ebr_ast.specs.declared.view.Object.{Object}
use Rattle.ebr_editions.specs.declared.entry.EditionEntry.{EditionEntry}
use Rattle.ebr_editions.specs.Editions.{child_of}
use Rattle.ebr_editions.specs.Objects.{actual_object, is_in, keys_of}
use Rattle.ebr_cross.specs.Catalogue.{Lists, visible}
use Rattle.ebr_fire.specs.declared.firing.Stamped.{Stamped}
use Rattle.ebr_fire.specs.declared.kind.Kind.{Kind}
use Rattle.ebr_fire.specs.Fires.{is_fired, is_trigger_key, firing_order, stamped, in_order, firing, group, line_down, seen_triggers, actual_triggers, actual_among}
use Rattle.ebr_fire.specs.inside.Groups.{with_object, with_some, with_key, with_keys, with_seen, with_edition, with_editions}

module _ (k : Kind) (on : List ℕ) where
  -- a group with the objects of a list that fire
  abbrev pub joined : List Stamped → List Object → List Stamped
  joined group os = fold (insert_key firing_order) group (map stamped (filter (is_fired k on) os))

  object-more : (group : List Stamped) (o : Object) (os : List Object) → joined group (o ∷ os) ≡ joined (with_object k on group o) os
  object-more group o os = by (is_fired k on o)
    where
      by : (b : Bool) → fold (insert_key firing_order) group (map stamped (cond b (o ∷ filter (is_fired k on) os) (filter (is_fired k on) os))) ≡ fold (insert_key firing_order) (cond b (insert_key firing_order group (stamped o)) group) (map stamped (filter (is_fired k on) os))
      by true = refl
      by false = refl

  some-more : (group : List Stamped) (x : Option Object) (os : List Object) → joined group (cons_option x os) ≡ joined (with_some k on group x) os
  some-more group None os = refl
  some-more group (Some o) os = object-more group o os

  joined-append : (group : List Stamped) (xs ys : List Object) → joined group (xs ++ ys) ≡ joined (joined group xs) ys
  joined-append group xs ys =
      ap (λ os. fold (insert_key firing_order) group (map stamped os)) (filter-append (is_fired k on) xs ys)
      ∙ (ap (fold (insert_key firing_order) group) (map-append stamped (filter (is_fired k on) xs) (filter (is_fired k on) ys))
      ∙ fold-append (insert_key firing_order) group (map stamped (filter (is_fired k on) xs)) (map stamped (filter (is_fired k on) ys)))

  pub keys-joined : (at : ObjectKey → Option Object) (group : List Stamped) (keys : List ObjectKey) → with_keys at k on group keys ≡ joined group (filter_map at (filter is_trigger_key keys))
  keys-joined at group [] = refl
  keys-joined at group (key ∷ keys) = keys-joined at (with_key at k on group key) keys ∙ sym (by (is_trigger_key key))
    where
      by : (b : Bool) → joined group (filter_map at (cond b (key ∷ filter is_trigger_key keys) (filter is_trigger_key keys))) ≡ joined (cond b (with_some k on group (at key)) group) (filter_map at (filter is_trigger_key keys))
      by true = some-more group (at key) (filter_map at (filter is_trigger_key keys))
      by false = refl

  pub editions-joined : (c : Lists) (group : List Stamped) (es : List EditionNo) → with_editions c k on group es ≡ joined group (actual_among c es)
  editions-joined c group [] = refl
  editions-joined c group (e ∷ es) =
      editions-joined c (with_edition c k on group e) es
      ∙ (ap (λ g. joined g (actual_among c es)) (keys-joined (λ key. actual_object c.entries e key) group (keys_of (filter (is_in e) c.entries)))
      ∙ sym (joined-append group (actual_triggers c e) (actual_among c es)))

-- one edition down the line, where so many more may come
pub down-step : (made : List EditionEntry) (max turn : ℕ) (next : Option EditionNo) (d : EditionNo) → turn < max → next ≡ Some d
    → line_down made (max - turn) next ≡ d ∷ line_down made (max - (turn + 1)) (child_of made d)
down-step made max turn next d lt is =
    let left : max - turn ≡ suc (max - (turn + 1)) = omega (arith, lt) in
    ap (λ n. line_down made n next) left ∙ ap (line_down made (suc (max - (turn + 1)))) is

pub down-none : (made : List EditionEntry) (n : ℕ) (next : Option EditionNo) → next ≡ None → line_down made n next ≡ []
down-none made n next is = ap (line_down made n) is ∙ by n
  where
    by : (n : ℕ) → line_down made n None ≡ []
    by zero = refl
    by (suc n) = refl

pub down-end : (made : List EditionEntry) (max turn : ℕ) (next : Option EditionNo) → max ≤ turn → line_down made (max - turn) next ≡ []
down-end made max turn next le = let none : max - turn ≡ 0 = omega (arith, le) in ap (λ n. line_down made n next) none

-- a list from the place of an element on
module _ {K O : Type 0} (f : K → Option O) where
  pub from-place : (xs : List K) (i : ℕ) (k : K) (o : Option O) → ◌≡◌ {A = Option (K × Option O)} (Some (k, o)) (option_map (λ x. (x, f x)) (slice_get xs i)) → (drop i xs ≡ k ∷ drop (suc i) xs) × (f k ≡ o)
  from-place [] i k o h = absurd cc
  from-place (x ∷ xs) zero k o h =
      let same : ◌≡◌ {A = K × Option O} (k, o) (x, f x) = cc in (
        ap (λ (p : K × Option O). p.0 ∷ xs) (sym same),
        ap (λ (p : K × Option O). f p.0) same ∙ sym (ap (λ (p : K × Option O). p.1) same),
      )
  from-place (x ∷ xs) (suc i) k o h = from-place xs i k o h

  pub past-end : (xs : List K) (i : ℕ) → ◌≡◌ {A = Option (K × Option O)} None (option_map (λ x. (x, f x)) (slice_get xs i)) → drop i xs ≡ []
  past-end [] zero h = refl
  past-end [] (suc i) h = refl
  past-end (x ∷ xs) zero h = absurd cc
  past-end (x ∷ xs) (suc i) h = past-end xs i h

-- one edition more
pub edition-more : (c : Lists) (k : Kind) (on : List ℕ) (group new : List Stamped) (d : EditionNo) (all rest : List EditionNo) (whole : List Stamped) → all ≡ d ∷ rest → new ≡ with_edition c k on group d
    → with_editions c k on group all ≡ whole → with_editions c k on new rest ≡ whole
edition-more c k on group new d all rest whole first is so_far = ap (λ g. with_editions c k on g rest) is ∙ (ap (with_editions c k on group) (sym first) ∙ so_far)

-- an edition's entry more
pub entry-more : (k : Kind) (on : List ℕ) (f : ObjectKey → Option Object) (group new : List Stamped) (keys : List ObjectKey) (i : ℕ) (key : ObjectKey) (o : Option Object) (whole : List Stamped)
    → ◌≡◌ {A = Option (ObjectKey × Option Object)} (Some (key, o)) (option_map (λ x. (x, f x)) (slice_get keys i)) → new ≡ with_key (λ x. o) k on group key
    → with_keys f k on group (drop i keys) ≡ whole → with_keys f k on new (drop (i + 1) keys) ≡ whole
entry-more k on f group new keys i key o whole at is so_far =
    let place = from-place f keys i key o at in
    let same : with_key (λ x. o) k on group key ≡ with_key f k on group key = ap (λ x. cond (is_trigger_key key) (with_some k on group x) group) (sym place.1) in
    let one : suc i ≡ i + 1 = omega arith in
    let next : drop (suc i) keys ≡ drop (i + 1) keys = ap (λ n. drop n keys) one in
    ap (λ g. with_keys f k on g (drop (i + 1) keys)) (is ∙ same)
    ∙ (ap (with_keys f k on (with_key f k on group key)) (sym next) ∙ (ap (with_keys f k on group) (sym place.0) ∙ so_far))

-- what joined an empty group, in order, is the group that is defined
pub group-seen : (c : Lists) (e : EditionNo) (k : Kind) (on : List ℕ) (keys : List ObjectKey) (first last : List Stamped) → first ≡ [] → keys ≡ keys_of c.entries → last ≡ with_seen c e k on first keys
    → map (firing k.crossedition e) last ≡ group e k on (seen_triggers c e)
unfolding in_order
group-seen c e k on keys first last empty all is =
    ap (map (firing k.crossedition e)) (is ∙ (ap (λ g. with_seen c e k on g keys) empty ∙ (ap (with_seen c e k on []) all ∙ keys-joined k on (λ key. visible c e key) [] (keys_of c.entries))))

pub group-among : (c : Lists) (e : EditionNo) (k : Kind) (on : List ℕ) (es ds : List EditionNo) (first last : List Stamped) → first ≡ [] → es ≡ ds → last ≡ with_editions c k on first es
    → map (firing k.crossedition e) last ≡ group e k on (actual_among c ds)
unfolding in_order
group-among c e k on es ds first last empty same is =
    ap (map (firing k.crossedition e)) (is ∙ (ap (λ g. with_editions c k on g es) empty ∙ (ap (with_editions c k on []) same ∙ editions-joined k on c [] ds)))
