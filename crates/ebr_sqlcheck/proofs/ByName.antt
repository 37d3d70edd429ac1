-- What is noted of sources by name, and what it tells of them.
use Rattle.std.proofs.Common.{◌≡◌, ◌<◌, ◌≤◌, ◌+◌, ◌||◌, ℕ, zero, suc, Bool, true, false, cond, List, [], ◌∷◌, ◌++◌, map, find, take, length, get_or, Option, Some, None, is_some, option_map, slice_get, refl, sym, ap, subst, ◌∙◌, true≢false, arith}
use Rattle.std.specs.Borrow.{Bor}
use Rattle.std.specs.List.{list_any, filter_map, cons_option}
use Rattle.std.specs.Option.{option_and_then, option_to_list}
use Rattle.std.specs.Str.{bytes_eq}
use Rattle.std.specs.Cmp.Lexicographic.{bytes_decides}
use Rattle.std.proofs.lemmas.Grind.{take_at_read}
use Rattle.std.proofs.lemmas.Option.{none-some}
use Rattle.indexmap.specs.IndexMap.{insert_entry}
use Rattle.ebr_names.specs.Columns.{column_named}
use Rattle.ebr_sqlcheck.specs.declared.lookup.Ends.{Ends}
use Rattle.ebr_sqlcheck.specs.declared.lookup.Start.{Start}
use Rattle.ebr_sqlcheck.specs.declared.relation.Meant.TheVariants as meant
use Rattle.ebr_sqlcheck.specs.declared.value_type.ValueType.{ValueType}
use Rattle.ebr_sqlcheck.specs.Sources.{Relation, is_called}
use Rattle.ebr_sqlcheck.specs.Names.{column_in, named_in, one_of}
use Rattle.ebr_sqlcheck.specs.inside.Aliases.{HasAliases}
use Rattle.ebr_sqlcheck.specs.inside.Found.{Noted, note, Notes, alone, with_first, with_last, ends_from, ends_of, first_or, has_column, may_have, starts_from, widths, Begins}

-- ---- the set of aliases

mapped : {A B : Type 0} (p : B → Bool) (f : A → B) (xs : List A) → list_any p (map f xs) ≡ list_any (λ x. p (f x)) xs
mapped p f [] = refl
mapped p f (x ∷ xs) = ap (λ b. p (f x) || b) (mapped p f xs)

pub told : (before : List Relation) (keys : List (Bor (List ℕ))) (a : List ℕ) → HasAliases before keys → list_any (λ (k : Bor (List ℕ)). bytes_eq a k.now) keys ≡ list_any (is_called a) before
told before keys a h =
    sym (mapped (bytes_eq a) (λ (k : Bor (List ℕ)). k.now) keys)
    ∙ ap (list_any (bytes_eq a)) h
    ∙ mapped (bytes_eq a) (λ (r : Relation). r.alias) before

-- ---- one note more

abbrev same : Bor (List ℕ) → Bor (List ℕ) → Bool
same x y = bytes_eq x.now y.now

at_once : {A : Type 0} (c : Bool) (a b r : A) → cond c a r ≡ cond c a (cond c b r)
at_once true a b r = refl
at_once false a b r = refl

put : (n : List ℕ) (es : Noted) (k : Bor (List ℕ)) (e : Ends) → note n (insert_entry same es k e) ≡ cond (bytes_eq n k.now) (Some e) (note n es)
put n [] k e = refl
put n (x ∷ es) k e = by (same k x.0) refl (put n es k e)
  where
    apart : same k x.0 ≡ false → (c d : Bool) → bytes_eq n k.now ≡ c → bytes_eq n x.0.now ≡ d → cond d (Some x.1) (cond c (Some e) (note n es)) ≡ cond c (Some e) (cond d (Some x.1) (note n es))
    apart h true true p q = absurd (true≢false (sym ((bytes_decides k.now x.0.now).1 (sym ((bytes_decides n k.now).0 p) ∙ (bytes_decides n x.0.now).0 q)) ∙ h))
    apart h true false p q = refl
    apart h false true p q = refl
    apart h false false p q = refl

    by : (b : Bool) → same k x.0 ≡ b → note n (insert_entry same es k e) ≡ cond (bytes_eq n k.now) (Some e) (note n es)
        → note n (cond b ((x.0, e) ∷ es) (x ∷ insert_entry same es k e)) ≡ cond (bytes_eq n k.now) (Some e) (cond (bytes_eq n x.0.now) (Some x.1) (note n es))
    by true h so =
        at_once (bytes_eq n x.0.now) (Some e) (Some x.1) (note n es)
        ∙ ap (λ w. cond (bytes_eq n w) (Some e) (cond (bytes_eq n x.0.now) (Some x.1) (note n es))) (sym ((bytes_decides k.now x.0.now).0 h))
    by false h so =
        ap (cond (bytes_eq n x.0.now) (Some x.1)) so
        ∙ apart h (bytes_eq n k.now) (bytes_eq n x.0.now) refl refl

abbrev ends : ℕ → ℕ → Ends
ends first last = record { first = first; last = last }

from_first : (at : ℕ) (o : Option Ends) → Some (ends (first_or at o) at) ≡ with_last true at o
from_first at None = refl
from_first at (Some e) = refl

pub added : (old new : Noted) (k : Bor (List ℕ)) (at first : ℕ) → first ≡ first_or at (note k.now old) → new ≡ insert_entry same old k (ends first at) → Notes (λ n. bytes_eq n k.now) at old new
added old new k at first f made = λ n. ap (note n) made ∙ put n old k (ends first at) ∙ by n (bytes_eq n k.now) refl
  where
    by : (n : List ℕ) (b : Bool) → bytes_eq n k.now ≡ b → cond b (Some (ends first at)) (note n old) ≡ with_last b at (note n old)
    by n false h = refl
    by n true h =
        ap (λ x. Some (ends x at)) f
        ∙ from_first at (note k.now old)
        ∙ ap (λ w. with_last true at (note w old)) (sym ((bytes_decides n k.now).0 h))

-- ---- the columns of one source

either : (a b : Bool) (at : ℕ) (o : Option Ends) → with_last a at (with_last b at o) ≡ with_last (b || a) at o
either false false at o = refl
either false true at o = refl
either true false at o = refl
either true true at None = refl
either true true at (Some e) = refl

pub column_more : (is : List ℕ → Bool) (word : List ℕ) (rest all : List ℕ → Bool) (at : ℕ) (old now new : Noted) → ((n : List ℕ) → with_last (is n) at (note n now) ≡ with_last (all n) at (note n old))
    → ((n : List ℕ) → is n ≡ (bytes_eq n word || rest n)) → Notes (λ n. bytes_eq n word) at now new → (n : List ℕ) → with_last (rest n) at (note n new) ≡ with_last (all n) at (note n old)
column_more is word rest all at old now new before parts add = λ n.
    ap (with_last (rest n) at) (add n)
    ∙ either (rest n) (bytes_eq n word) at (note n now)
    ∙ ap (λ b. with_last b at (note n now)) (sym (parts n))
    ∙ before n

pub found_any : {A : Type 0} (p : A → Bool) (xs : List A) → list_any p xs ≡ is_some (find p xs)
found_any p [] = refl
found_any p (x ∷ xs) = by (p x) (found_any p xs)
  where
    by : (b : Bool) → list_any p xs ≡ is_some (find p xs) → (b || list_any p xs) ≡ is_some (cond b (Some x) (find p xs))
    by true so = refl
    by false so = so

-- ---- one source more

across : (a b : Bool) (i k : ℕ) (o : Option Ends) → with_first a i (with_last b k o) ≡ with_last b k (with_first a i o)
across false false i k o = refl
across false true i k o = refl
across true false i k o = refl
across true true i k None = refl
across true true i k (Some e) = refl

pushed : {A : Type 0} (p : A → Bool) (at : ℕ) (xs : List A) (x : A) → ends_from p at (xs ++ x ∷ []) ≡ with_last (p x) (at + length xs) (ends_from p at xs)
pushed p at [] x =
    let e : at ≡ at + 0 = omega arith in
    by (p x) ∙ ap (λ k. with_last (p x) k None) e
  where
    by : (b : Bool) → with_first b at None ≡ with_last b at None
    by true = refl
    by false = refl
pushed p at (y ∷ xs) x =
    let e : suc at + length xs ≡ at + suc (length xs) = omega arith in
    ap (with_first (p y) at) (pushed p (suc at) xs x)
    ∙ ap (λ k. with_first (p y) at (with_last (p x) k (ends_from p (suc at) xs))) e
    ∙ across (p y) (p x) at (at + suc (length xs)) (ends_from p (suc at) xs)

length_take : {A : Type 0} (i : ℕ) (xs : List A) → i < length xs → length (take i xs) ≡ i
length_take zero xs h = refl
length_take (suc i) [] h = absurd (omega (arith, h))
length_take (suc i) (x ∷ xs) h = ap suc (length_take i xs (omega (arith, h)))

pub one_more : {A : Type 0} (p : A → Bool) (xs : List A) (i : ℕ) (x : A) → i < length xs → x ≡ get_or xs i x → ends_of p (take (i + 1) xs) ≡ with_last (p x) i (ends_of p (take i xs))
one_more p xs i x lt read =
    let e : 0 + length (take i xs) ≡ i = omega (arith, length_take i xs lt) in
    ap (ends_of p) ((take_at_read xs i x lt).1 ∙ ap (λ y. take i xs ++ y ∷ []) (sym read))
    ∙ pushed p 0 (take i xs) x
    ∙ ap (λ k. with_last (p x) k (ends_of p (take i xs))) e

-- ---- how many columns stand before a source

pub started : (at : ℕ) (rs : List Relation) (k : ℕ) → k < length rs → slice_get (starts_from at rs) k ≡ Some (at + widths (take k rs))
started at [] k h = absurd (omega (arith, h))
started at (r ∷ rs) zero h = ap Some (omega arith)
started at (r ∷ rs) (suc k) h = started (at + length r.columns) rs k (omega (arith, h)) ∙ ap Some (omega arith)

-- ---- what the ends tell

abbrev last_or : ℕ → Option Ends → ℕ
last_or at None = at
last_or at (Some e) = e.last

bounds : {A : Type 0} (p : A → Bool) (at : ℕ) (xs : List A) (e : Ends) → ends_from p at xs ≡ Some e → (at ≤ e.first) × (e.first ≤ e.last)
bounds p at [] e h = absurd (none-some e h)
bounds p at (x ∷ xs) e h = by (p x) (ends_from p (suc at) xs) refl (bounds p (suc at) xs) h
  where
    by : (b : Bool) (o : Option Ends) → ends_from p (suc at) xs ≡ o → ((d : Ends) → ends_from p (suc at) xs ≡ Some d → (suc at ≤ d.first) × (d.first ≤ d.last)) → with_first b at o ≡ Some e
        → (at ≤ e.first) × (e.first ≤ e.last)
    by false o is more h = let m = more e (is ∙ h) in (omega (arith, m.0), m.1)
    by true None is more h =
        let f : at ≡ e.first = ap (first_or at) h in
        let l : at ≡ e.last = ap (last_or at) h in (omega (arith, f), omega (arith, f, l))
    by true (Some d) is more h =
        let m = more d is in
        let f : at ≡ e.first = ap (first_or at) h in
        let l : d.last ≡ e.last = ap (last_or at) h in (omega (arith, f), omega (arith, f, l, m.0, m.1))

module _ {A B : Type 0} (f : A → Option B) (p : A → Bool) (no : (x : A) → p x ≡ false → f x ≡ None) where
  none : (at : ℕ) (xs : List A) → ends_from p at xs ≡ None → filter_map f xs ≡ []
  none at [] h = refl
  none at (x ∷ xs) h = by (p x) refl (ends_from p (suc at) xs) refl (none (suc at) xs) h
    where
      by : (b : Bool) → p x ≡ b → (o : Option Ends) → ends_from p (suc at) xs ≡ o → (ends_from p (suc at) xs ≡ None → filter_map f xs ≡ []) → with_first b at o ≡ None → cons_option (f x) (filter_map f xs) ≡ []
      by false q o is more h = ap (λ y. cons_option y (filter_map f xs)) (no x q) ∙ more (is ∙ h)
      by true q None is more h = absurd (none-some (alone at) (sym h))
      by true q (Some d) is more h = absurd (none-some (ends at d.last) (sym h))

  -- none before the first one is so
  front : (at : ℕ) (xs : List A) (e : Ends) → ends_from p at xs ≡ Some e → (k : ℕ) → e.first ≡ at + k → (filter_map f (take k xs) ≡ []) × (k < length xs)
  front at [] e h k place = absurd (none-some e h)
  front at (x ∷ xs) e h k place = by (p x) refl (ends_from p (suc at) xs) refl (λ more j. front (suc at) xs e more j) h k place
    where
      here : (k : ℕ) → at ≡ at + k → (filter_map f (take k (x ∷ xs)) ≡ []) × (k < length (x ∷ xs))
      here zero place = (refl, omega arith)
      here (suc j) place = absurd (omega (arith, place))

      behind : p x ≡ false → ends_from p (suc at) xs ≡ Some e → ((j : ℕ) → e.first ≡ suc at + j → (filter_map f (take j xs) ≡ []) × (j < length xs)) → (k : ℕ) → e.first ≡ at + k → (filter_map f (take k (x ∷ xs)) ≡ []) × (k < length (x ∷ xs))
      behind q is more zero place = absurd (omega (arith, place, (bounds p (suc at) xs e is).0))
      behind q is more (suc j) place = let m = more j (omega (arith, place)) in (ap (λ y. cons_option y (filter_map f (take j xs))) (no x q) ∙ m.0, omega (arith, m.1))

      by : (b : Bool) → p x ≡ b → (o : Option Ends) → ends_from p (suc at) xs ≡ o → (ends_from p (suc at) xs ≡ Some e → (j : ℕ) → e.first ≡ suc at + j → (filter_map f (take j xs) ≡ []) × (j < length xs)) → with_first b at o ≡ Some e
          → (k : ℕ) → e.first ≡ at + k → (filter_map f (take k (x ∷ xs)) ≡ []) × (k < length (x ∷ xs))
      by false q o is more h k place = behind q (is ∙ h) (more (is ∙ h)) k place
      by true q None is more h k place = here k (ap (first_or at) h ∙ place)
      by true q (Some d) is more h k place = here k (ap (first_or at) h ∙ place)

  only : (o : Option B) → cons_option o [] ≡ option_to_list o
  only None = refl
  only (Some y) = refl

  -- one alone may be so
  pub one : (at : ℕ) (xs : List A) (e : Ends) → ends_from p at xs ≡ Some e → e.first ≡ e.last → (k : ℕ) → e.first ≡ at + k → filter_map f xs ≡ option_to_list (option_and_then f (slice_get xs k))
  one at [] e h same_ends k place = absurd (none-some e h)
  one at (x ∷ xs) e h same_ends k place = by (p x) refl (ends_from p (suc at) xs) refl (λ more j. one (suc at) xs e more same_ends j) h k place
    where
      at_first : (ends_from p (suc at) xs ≡ None) → (k : ℕ) → at ≡ at + k → cons_option (f x) (filter_map f xs) ≡ option_to_list (option_and_then f (slice_get (x ∷ xs) k))
      at_first is zero place = ap (cons_option (f x)) (none (suc at) xs is) ∙ only (f x)
      at_first is (suc j) place = absurd (omega (arith, place))

      behind : p x ≡ false → ends_from p (suc at) xs ≡ Some e → ((j : ℕ) → e.first ≡ suc at + j → filter_map f xs ≡ option_to_list (option_and_then f (slice_get xs j))) → (k : ℕ) → e.first ≡ at + k
          → cons_option (f x) (filter_map f xs) ≡ option_to_list (option_and_then f (slice_get (x ∷ xs) k))
      behind q is more zero place = absurd (omega (arith, place, (bounds p (suc at) xs e is).0))
      behind q is more (suc j) place = ap (λ y. cons_option y (filter_map f xs)) (no x q) ∙ more j (omega (arith, place))

      by : (b : Bool) → p x ≡ b → (o : Option Ends) → ends_from p (suc at) xs ≡ o → (ends_from p (suc at) xs ≡ Some e → (j : ℕ) → e.first ≡ suc at + j → filter_map f xs ≡ option_to_list (option_and_then f (slice_get xs j)))
          → with_first b at o ≡ Some e → (k : ℕ) → e.first ≡ at + k → cons_option (f x) (filter_map f xs) ≡ option_to_list (option_and_then f (slice_get (x ∷ xs) k))
      by false q o is more h k place = behind q (is ∙ h) (more (is ∙ h)) k place
      by true q None is more h k place = at_first is k (ap (first_or at) h ∙ place)
      by true q (Some d) is more h k place =
          let m = bounds p (suc at) xs d is in
          let f : at ≡ e.first = ap (first_or at) h in
          let l : d.last ≡ e.last = ap (last_or at) h in
          absurd (omega (arith, f, l, m.0, m.1, same_ends))

  module _ (yes : (x : A) → p x ≡ true → is_some (f x) ≡ true) where
    some_in : (o : Option B) (ys : List B) → is_some o ≡ true → (t : B) × (cons_option o ys ≡ t ∷ ys)
    some_in None ys h = absurd (true≢false (sym h))
    some_in (Some t) ys h = (t, refl)

    begins : (at : ℕ) (xs : List A) (e : Ends) → ends_from p at xs ≡ Some e → (t : B) × (ts : List B) × (filter_map f xs ≡ t ∷ ts)
    begins at [] e h = absurd (none-some e h)
    begins at (x ∷ xs) e h = by (p x) refl (begins (suc at) xs e) h
      where
        by : (b : Bool) → p x ≡ b → (ends_from p (suc at) xs ≡ Some e → (t : B) × (ts : List B) × (filter_map f xs ≡ t ∷ ts)) → with_first b at (ends_from p (suc at) xs) ≡ Some e
            → (t : B) × (ts : List B) × (cons_option (f x) (filter_map f xs) ≡ t ∷ ts)
        by false q more h = let m = more h in (m.0, m.1, ap (λ y. cons_option y (filter_map f xs)) (no x q) ∙ m.2)
        by true q more h = let s = some_in (f x) (filter_map f xs) (yes x q) in (s.0, filter_map f xs, s.1)

    -- two are so
    two : (at : ℕ) (xs : List A) (e : Ends) → ends_from p at xs ≡ Some e → (e.first ≡ e.last → ⊥) → (t u : B) × (ts : List B) × (filter_map f xs ≡ t ∷ u ∷ ts)
    two at [] e h differ = absurd (none-some e h)
    two at (x ∷ xs) e h differ = by (p x) refl (ends_from p (suc at) xs) refl (λ more. two (suc at) xs e more differ) h
      where
        by : (b : Bool) → p x ≡ b → (o : Option Ends) → ends_from p (suc at) xs ≡ o → (ends_from p (suc at) xs ≡ Some e → (t u : B) × (ts : List B) × (filter_map f xs ≡ t ∷ u ∷ ts)) → with_first b at o ≡ Some e
            → (t u : B) × (ts : List B) × (cons_option (f x) (filter_map f xs) ≡ t ∷ u ∷ ts)
        by false q o is more h = let m = more (is ∙ h) in (m.0, m.1, m.2, ap (λ y. cons_option y (filter_map f xs)) (no x q) ∙ m.3)
        by true q None is more h = absurd (differ (sym (ap (first_or at) h) ∙ ap (last_or at) h))
        by true q (Some d) is more h =
            let s = some_in (f x) (filter_map f xs) (yes x q) in
            let m = begins (suc at) xs d is in
            (s.0, m.0, m.1, s.1 ∙ ap (λ ys. s.0 ∷ ys) m.2)

-- ---- sources

of_column : {A B : Type 0} (g : A → B) (o : Option A) (b : Bool) → is_some o ≡ b → is_some (option_map g o) ≡ b
of_column g None b h = h
of_column g (Some x) b h = h

not_there : {A : Type 0} (o : Option A) → is_some o ≡ false → o ≡ None
not_there None h = refl
not_there (Some x) h = absurd (true≢false h)

has_none : (n : List ℕ) (m : Option (List ℕ)) (r : Relation) → may_have n m r ≡ false → named_in n m r ≡ None
has_none n None r h = not_there (column_in n r) (of_column _ (column_named n r.columns) false h)
has_none n (Some m) r h = ap (λ b. cond b (column_in m r) None) h

pub nothing : (list : List Relation) (n : List ℕ) (m : Option (List ℕ)) → None ≡ ends_of (may_have n m) list → meant.Nothing ≡ one_of (filter_map (named_in n m) list)
nothing list n m h = ap one_of (sym (none (named_in n m) (may_have n m) (has_none n m) 0 list (sym h)))

pub one_alone : (list : List Relation) (n : List ℕ) (m : Option (List ℕ)) (e : Ends) → ends_of (may_have n m) list ≡ Some e → e.first ≡ e.last → one_of (option_to_list (option_and_then (named_in n m) (slice_get list e.first))) ≡ one_of (filter_map (named_in n m) list)
one_alone list n m e h same_ends =
    let z : e.first ≡ 0 + e.first = omega arith in
    ap one_of (sym (one (named_in n m) (may_have n m) (has_none n m) 0 list e h same_ends e.first z))

pub several : (list : List Relation) (n : List ℕ) (m : Option (List ℕ)) (e : Ends) → ends_of (may_have n m) list ≡ Some e → None ≡ m → (e.first ≡ e.last → ⊥) → meant.Several ≡ one_of (filter_map (named_in n m) list)
several list n m e h alone_name differ = subst (λ m. meant.Several ≡ one_of (filter_map (named_in n m) list)) alone_name (by (two (named_in n None) (has_column n) (has_none n None) yes 0 list e (subst (λ m. ends_of (may_have n m) list ≡ Some e) (sym alone_name) h) differ))
  where
    yes : (r : Relation) → has_column n r ≡ true → is_some (column_in n r) ≡ true
    yes r h = of_column _ (column_named n r.columns) true h

    by : (t u : ValueType) × (ts : List ValueType) × (filter_map (named_in n None) list ≡ t ∷ u ∷ ts) → meant.Several ≡ one_of (filter_map (named_in n None) list)
    by s = ap one_of (sym s.3)

abbrev start : ℕ → ℕ → Start
start source columns = record { source = source; columns = columns }

pub begins_at : (list : List Relation) (n : List ℕ) (m : Option (List ℕ)) (e : Ends) (s : Option ℕ) → ends_of (may_have n m) list ≡ Some e → s ≡ slice_get (starts_from 0 list) e.first → Begins n m list (option_map (start e.first) s)
begins_at list n m e s h is =
    let z : e.first ≡ 0 + e.first = omega arith in
    let f = front (named_in n m) (may_have n m) (has_none n m) 0 list e h e.first z in
    subst (λ o. Begins n m list (option_map (start e.first) o)) (sym (is ∙ started 0 list e.first f.1)) (f.0, omega (arith, f.1), omega arith)

pub begins_nowhere : (list : List Relation) (n : List ℕ) (m : Option (List ℕ)) → None ≡ ends_of (may_have n m) list → filter_map (named_in n m) list ≡ []
begins_nowhere list n m h = none (named_in n m) (may_have n m) (has_none n m) 0 list (sym h)
