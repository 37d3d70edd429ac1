-- How many objects an edition sees after one more definition: those under other keys, and the new one.
use Rattle.std.proofs.Common.{◌≡◌, ℕ, suc, ◌+◌, ◌<◌, Bool, true, false, cond, not, ◌&&◌, ◌||◌, List, [], ◌∷◌, ◌++◌, Option, Some, None, is_some, Ok, Err, fold, count_by, nat_lt, nat_le, refl, sym, ap, subst, ◌∙◌, arith}
use Rattle.std.specs.List.{list_any}
use Rattle.std.proofs.lemmas.Bool.Decides.{nat_tests}
use Rattle.std.proofs.lemmas.List.Sums.{sum_by-append}
use Rattle.ebr_base.specs.declared.numbers.EditionNo.{EditionNo}
use Rattle.ebr_base.specs.declared.numbers.Stamp.{Stamp}
use Rattle.ebr_base.specs.declared.numbers.TheConstants.{MAX_COUNT}
use Rattle.ebr_base.specs.declared.object.ObjectKey.{ObjectKey}
use Rattle.ebr_base.specs.declared.code.Code.TheVariants.{Ora, Ebr}
use Rattle.ebr_editions.specs.declared.entry.EditionEntry.{EditionEntry}
use Rattle.ebr_editions.specs.Editions.{is_edition, line_of, line_up, parent_of}
use Rattle.ebr_base.specs.Keys.{same_key}
use Rattle.ebr_editions.specs.Objects.{ObjectEntry, with_key, entry_or, nearest, is_in, entries_in, next_stamp, with_entry, last_object, Visible, keys_of, visible_count, put_answer, hide_answer, without_both}
use Rattle.ebr_editions.specs.Held.{Held, HasEntries, hold, held, defined_in}
use Rattle.ebr_editions.specs.inside.Held.{held_object, held_visible, held_stamp, held_others}
use Rattle.ebr_editions.proofs.Lists.{by_test, same_edition, cond-true, cond-false, count-true, count-false, count-same, false_true}
use Rattle.ebr_editions.proofs.Entries.{fold-push, key-same, key-itself, edition_itself, held-with_entry, object-after, object-held, keys-held, count-held, count-more, visible-held, nearest-same}

or-left : (a b : Bool) → (a || b) ≡ false → a ≡ false
or-left true b h = h
or-left false b h = refl

or-right : (a b : Bool) → (a || b) ≡ false → b ≡ false
or-right true b h = false_true (sym h)
or-right false b h = h

and-false : (a b : Bool) → b ≡ false → (a && b) ≡ false
and-false true b h = h
and-false false b h = refl

other_key : (a b : ObjectKey) → same_key a b ≡ false → same_key b a ≡ false
other_key a b h = by_test (same_key b a) (λ t. false_true (sym h ∙ (ap (same_key a) (key-same b a t) ∙ key-itself a))) (λ f. f)

-- no key stands twice
Apart : List ObjectKey → Type 0
Apart [] = Unit {0}
Apart (k ∷ ks) = (list_any (same_key k) ks ≡ false) × Apart ks

any-push : (k key : ObjectKey) (ks : List ObjectKey) → list_any (same_key k) ks ≡ false → same_key k key ≡ false → list_any (same_key k) (ks ++ key ∷ []) ≡ false
any-push k key [] h f = ap (λ b. b || false) f
any-push k key (a ∷ ks) h f = ap (λ b. b || list_any (same_key k) (ks ++ key ∷ [])) (or-left _ _ h) ∙ any-push k key ks (or-right (same_key k a) _ h) f

apart-push : (ks : List ObjectKey) (key : ObjectKey) → Apart ks → list_any (same_key key) ks ≡ false → Apart (ks ++ key ∷ [])
unfolding Apart
apart-push [] key a h = (refl, tt)
apart-push (k ∷ ks) key a h = (any-push k key ks a.0 (other_key key k (or-left _ _ h)), apart-push ks key a.1 (or-right (same_key key k) _ h))

apart-with_key : (ks : List ObjectKey) (key : ObjectKey) → Apart ks → Apart (with_key ks key)
apart-with_key ks key a =
    by_test (list_any (same_key key) ks)
    (λ t. subst Apart (sym (cond-true (list_any (same_key key) ks) ks (ks ++ key ∷ []) t)) a)
    (λ f. subst Apart (sym (cond-false (list_any (same_key key) ks) ks (ks ++ key ∷ []) f)) (apart-push ks key a f))

apart-from : {O : Type 0} (entries : List (ObjectEntry O)) (ks : List ObjectKey) → Apart ks → Apart (fold (λ keys (x : ObjectEntry O). with_key keys x.key) ks entries)
apart-from [] ks a = a
apart-from (x ∷ entries) ks a = apart-from entries (with_key ks x.key) (apart-with_key ks x.key a)

apart-keys : {O : Type 0} (entries : List (ObjectEntry O)) → Apart (keys_of entries)
unfolding Apart
apart-keys entries = apart-from entries [] tt

-- a test that passes the key, and agrees with another one elsewhere
module _ (key : ObjectKey) (q after : ObjectKey → Bool) (own : after key ≡ true) (other : (k : ObjectKey) → same_key k key ≡ false → after k ≡ q k) where
  others : ObjectKey → Bool
  others k = not (same_key k key) && q k

  agrees : (k : ObjectKey) → same_key k key ≡ false → after k ≡ others k
  unfolding others
  agrees k f = other k f ∙ sym (ap (λ b. not b && q k) f)

  count-absent : (ks : List ObjectKey) → list_any (same_key key) ks ≡ false → count_by after ks ≡ count_by others ks
  count-absent [] h = refl
  count-absent (k ∷ ks) h =
      let same = agrees k (other_key key k (or-left _ _ h)) in
      let rest = count-absent ks (or-right (same_key key k) _ h) in
      by_test (after k)
      (λ t. count-true after k ks t ∙ (ap suc rest ∙ sym (count-true others k ks (sym same ∙ t))))
      (λ f. count-false after k ks f ∙ (rest ∙ sym (count-false others k ks (sym same ∙ f))))

  count-with_key : (ks : List ObjectKey) → Apart ks → count_by after (with_key ks key) ≡ suc (count_by others ks)
  unfolding Apart others
  count-with_key [] a = count-true after key [] own
  count-with_key (k ∷ ks) a =
      by_test (same_key key k)
      (λ t.
      let is : key ≡ k = key-same key k t in
      let absent : list_any (same_key key) ks ≡ false = ap (λ z. list_any (same_key z) ks) is ∙ a.0 in
      let passed : after k ≡ true = sym (ap after is) ∙ own in
      let left : others k ≡ false = ap (λ b. not b && q k) (ap (λ z. same_key z key) (sym is) ∙ key-itself key) in
      ap (λ b. count_by after (cond (b || list_any (same_key key) ks) (k ∷ ks) ((k ∷ ks) ++ key ∷ []))) t
      ∙ (count-true after k ks passed ∙ ap suc (count-absent ks absent ∙ sym (count-false others k ks left))))
      (λ f.
      let same = agrees k (other_key key k f) in
      let rest = count-with_key ks a.1 in
      ap (λ b. count_by after (cond (b || list_any (same_key key) ks) (k ∷ ks) ((k ∷ ks) ++ key ∷ []))) f
      ∙ (ap (count_by after) (pushed (list_any (same_key key) ks) k ks)
      ∙ by_test (after k)
      (λ t. count-true after k (with_key ks key) t ∙ (ap suc rest ∙ sym (ap suc (count-true others k ks (sym same ∙ t)))))
      (λ g. count-false after k (with_key ks key) g ∙ (rest ∙ sym (ap suc (count-false others k ks (sym same ∙ g)))))))
    where
      pushed : (b : Bool) (k : ObjectKey) (ks : List ObjectKey) → cond b (k ∷ ks) ((k ∷ ks) ++ key ∷ []) ≡ k ∷ cond b ks (ks ++ key ∷ [])
      pushed true k ks = refl
      pushed false k ks = refl

module _ {O : Type 0} (made : List EditionEntry) (entries : List (ObjectEntry O)) (e : EditionNo) (key : ObjectKey) (object : Option O) where
  new_entry : ObjectEntry O
  new_entry = record { edition = e; key = key; object = object; stamp = next_stamp entries e }

  object-step : (d : EditionNo) (k : ObjectKey) → last_object (with_entry entries e key object) d k ≡ cond (is_edition d e && same_key k key) (Some object) (last_object entries d k)
  unfolding new_entry
  object-step d k =
      sym (object-held (with_entry entries e key object) d k)
      ∙ (ap (λ h. held_object h d k) (held-with_entry entries e key object)
      ∙ (object-after (held entries) new_entry d k
      ∙ ap (λ o. cond (is_edition d e && same_key k key) (Some object) o) (object-held entries d k)))

  visible-other : (d : EditionNo) (k : ObjectKey) → same_key k key ≡ false → Visible made (with_entry entries e key object) d k ≡ Visible made entries d k
  visible-other d k f =
      nearest-same _ _ (λ x. object-step x k ∙ cond-false (is_edition x e && same_key k key) (Some object) (last_object entries x k) (and-false (is_edition x e) (same_key k key) f)) (line_of made d)

  visible-own : Visible made (with_entry entries e key object) e key ≡ object
  visible-own =
      ap (λ o. entry_or o (nearest (λ d. last_object (with_entry entries e key object) d key) (line_up made e.0 (parent_of made e))))
      (object-step e key ∙ cond-true (is_edition e e && same_key key key) (Some object) _ (ap (λ b. b && same_key key key) (edition_itself e) ∙ key-itself key))

-- the objects seen afterwards are those seen under other keys and the new one
pub count-after : {O : Type 0} (made : List EditionEntry) (entries : List (ObjectEntry O)) (e : EditionNo) (key : ObjectKey) (o : O) → visible_count made (with_entry entries e key (Some o)) e ≡ suc (held_others made (held entries) e key)
unfolding others
count-after made entries e key o =
    let after : ObjectKey → Bool = λ k. is_some (Visible made (with_entry entries e key (Some o)) e k) in
    let before : ObjectKey → Bool = λ k. is_some (Visible made entries e k) in
    let keys = fold-push (λ ks (x : ObjectEntry _). with_key ks x.key) [] entries (record { edition = e; key = key; object = Some o; stamp = next_stamp entries e }) in
    let counted = count-with_key key before after (ap is_some (visible-own made entries e key (Some o))) (λ k f. ap is_some (visible-other made entries e key (Some o) e k f)) (keys_of entries) (apart-keys entries) in
    ap (count_by after) keys
    ∙ (counted
    ∙ ap suc
    (count-same _ _ (keys_of entries) (λ k. ap (λ v. not (same_key k key) && is_some v) (sym (visible-held made entries e k)))
    ∙ ap (count_by (λ k. not (same_key k key) && is_some (held_visible made (held entries) e k))) (sym (keys-held entries))))

limit-reached : (n : ℕ) → nat_le 4096 n ≡ true → nat_lt 4096 (suc n) ≡ true
limit-reached n h = grind (arith, nat_tests)

limit-clear : (n : ℕ) → nat_le 4096 n ≡ false → nat_lt 4096 (suc n) ≡ false
limit-clear n h = grind (arith, nat_tests)

-- what a full edition answers, and any other
pub put-full : {O : Type 0} (made : List EditionEntry) (now : Held O) (entries : List (ObjectEntry O)) (e : EditionNo) (key : ObjectKey) (o : O) → now ≡ held entries → nat_le 4096 (held_others made now e key) ≡ true → put_answer made entries e key o ≡ Err (Ebr 34)
put-full made now entries e key o h full =
    let reached = limit-reached (held_others made (held entries) e key) (sym (ap (λ k. nat_le 4096 (held_others made k e key)) h) ∙ full) in
    cond-true (nat_lt 4096 (visible_count made (with_entry entries e key (Some o)) e)) _ _ (ap (nat_lt 4096) (count-after made entries e key o) ∙ reached)

pub stamp-held : {O : Type 0} (now : Held O) (entries : List (ObjectEntry O)) (e : EditionNo) → now ≡ held entries → held_stamp now e ≡ next_stamp entries e
stamp-held now entries e h =
    let numbered : ℕ → Stamp = λ n. record { edition = e; count = suc n } in
    ap (λ k. held_stamp k e) h ∙ ap numbered (count-held entries e)

pub put-clear : {O : Type 0} (made : List EditionEntry) (now : Held O) (entries : List (ObjectEntry O)) (e : EditionNo) (key : ObjectKey) (o : O) → now ≡ held entries → nat_le 4096 (held_others made now e key) ≡ false → put_answer made entries e key o ≡ Ok (held_stamp now e)
put-clear made now entries e key o h clear =
    let free = limit-clear (held_others made (held entries) e key) (sym (ap (λ k. nat_le 4096 (held_others made k e key)) h) ∙ clear) in
    cond-false (nat_lt 4096 (visible_count made (with_entry entries e key (Some o)) e)) _ _ (ap (nat_lt 4096) (count-after made entries e key o) ∙ free)
    ∙ ap Ok (sym (stamp-held now entries e h))

pub seen-is : {O : Type 0} (made : List EditionEntry) (now : Held O) (entries : List (ObjectEntry O)) (e : EditionNo) (key : ObjectKey) (b : Bool) → now ≡ held entries → is_some (held_visible made now e key) ≡ b → is_some (Visible made entries e key) ≡ b
seen-is made now entries e key b h seen = ap is_some (sym (visible-held made entries e key)) ∙ (sym (ap (λ k. is_some (held_visible made k e key)) h) ∙ seen)

pub hide-seen : {O : Type 0} (made : List EditionEntry) (now : Held O) (entries : List (ObjectEntry O)) (e : EditionNo) (key : ObjectKey) (b : Bool) → now ≡ held entries → is_some (held_visible made now e key) ≡ b → hide_answer made entries e key ≡ cond b (Ok (held_stamp now e)) (Err (Ora 4043))
hide-seen made now entries e key b h seen =
    let is = seen-is made now entries e key b h seen in
    ap (λ t. cond t (Ok (next_stamp entries e)) (Err (Ora 4043))) is ∙ ap (λ s. cond b (Ok s) (Err (Ora 4043))) (sym (stamp-held now entries e h))

pub held-after : {O : Type 0} (now : Held O) (entries : List (ObjectEntry O)) (e : EditionNo) (key : ObjectKey) (object : Option O) → now ≡ held entries → hold now e key object ≡ held (with_entry entries e key object)
held-after now entries e key object h = ap (λ k. hold k e key object) h ∙ sym (held-with_entry entries e key object)

-- one more entry in an edition that can have one
pub few-after : {O : Type 0} (entries : List (ObjectEntry O)) (e : EditionNo) (key : ObjectKey) (object : Option O) → suc (entries_in entries e) < MAX_COUNT → ((d : EditionNo) → entries_in entries d < MAX_COUNT)
    → (d : EditionNo) → entries_in (with_entry entries e key object) d < MAX_COUNT
few-after {O} entries e key object here few d =
    let x : ObjectEntry O = record { edition = e; key = key; object = object; stamp = next_stamp entries e } in
    let sum : entries_in (entries ++ x ∷ []) d ≡ entries_in entries d + entries_in (x ∷ []) d = sum_by-append (λ (y : ObjectEntry O). cond (is_in d y) 1 0) entries (x ∷ []) in
    by_test (is_edition d e)
    (λ t.
    let one = count-true (is_in {O = O} d) x [] t in
    let same : entries_in entries d ≡ entries_in entries e = ap (entries_in entries) (same_edition d e t) in
    omega (arith, sum, one, same, here))
    (λ f. let none = count-false (is_in {O = O} d) x [] f in omega (arith, sum, none, few d))

pub has-after : {O : Type 0} (now after : Held O) (e : EditionNo) (key : ObjectKey) (object : Option O) → HasEntries now → suc (defined_in now.editions e).count < MAX_COUNT → after ≡ hold now e key object → HasEntries after
has-after now after e key object has room made =
    let count : (defined_in now.editions e).count ≡ entries_in has.entries e = ap (λ (k : Held _). (defined_in k.editions e).count) has.is ∙ count-held has.entries e in
    record {
      entries = with_entry has.entries e key object;
      is = made ∙ held-after now has.entries e key object has.is;
      few = few-after has.entries e key object (omega (arith, count, room)) has.few;
    }

pub few-held : {O : Type 0} (now : Held O) (e : EditionNo) → HasEntries now → (defined_in now.editions e).count < MAX_COUNT
few-held now e has =
    let count : (defined_in now.editions e).count ≡ entries_in has.entries e = ap (λ (k : Held _). (defined_in k.editions e).count) has.is ∙ count-held has.entries e in
    omega (arith, count, has.few e)

-- one more drop, or two, where the second key is visible
pub one-hidden : {O : Type 0} (made : List EditionEntry) (entries : List (ObjectEntry O)) (e : EditionNo) (key other : ObjectKey) → is_some (Visible made entries e other) ≡ false
    → with_entry entries e key None ≡ without_both made entries e key other
one-hidden made entries e key other f =
    sym (cond-false (is_some (Visible made entries e other)) (with_entry (with_entry entries e key None) e other None) (with_entry entries e key None) f)

pub both-hidden : {O : Type 0} (made : List EditionEntry) (now : Held O) (entries : List (ObjectEntry O)) (e : EditionNo) (key other : ObjectKey) → now ≡ held entries → is_some (Visible made entries e other) ≡ true
    → hold (hold now e key None) e other None ≡ held (without_both made entries e key other)
both-hidden made now entries e key other h t =
    held-after _ (with_entry entries e key None) e other None (held-after now entries e key None h)
    ∙ ap held (sym (cond-true (is_some (Visible made entries e other)) (with_entry (with_entry entries e key None) e other None) (with_entry entries e key None) t))

pub has-after-two : {O : Type 0} (now after : Held O) (e : EditionNo) (k1 k2 : ObjectKey) → HasEntries now → suc (suc (defined_in now.editions e).count) < MAX_COUNT → after ≡ hold (hold now e k1 None) e k2 None → HasEntries after
has-after-two now after e k1 k2 has room made =
    let mid = hold now e k1 None in
    let counted : (defined_in mid.editions e).count ≡ suc (defined_in now.editions e).count = count-more now e k1 None in
    has-after mid after e k2 None (has-after now mid e k1 None has (omega arith) refl) (omega (arith, counted, room)) made
