-- Whether a name stands twice, told from the front on.
use Rattle.std.proofs.Common.{◌≡◌, ◌<◌, ◌+◌, ℕ, Bool, true, false, not, cond, ◌||◌, List, [], ◌∷◌, ◌++◌, take, drop, get_or, length, refl, sym, ap, ◌∙◌}
use Rattle.std.specs.List.{list_any}
use Rattle.std.specs.Str.{bytes_eq}
use Rattle.std.specs.Cmp.Lexicographic.{bytes_decides}
use Rattle.std.proofs.lemmas.Bool.{or_parts, or_from}
use Rattle.std.proofs.lemmas.List.Folds.{list_any-append}
use Rattle.std.proofs.lemmas.List.{take-append-drop}
use Rattle.std.proofs.lemmas.Grind.{take_at_read}
use Rattle.indexmap.specs.IndexSet.{insert_key}
use Rattle.ebr_tables.specs.Definitions.{has_repetition}

true-or : (b : Bool) → (b || true) ≡ true
true-or true = refl
true-or false = refl

other-way : (x y : List ℕ) → bytes_eq x y ≡ true → bytes_eq y x ≡ true
other-way x y h = (bytes_decides y x).1 (sym ((bytes_decides x y).0 h))

any-last : (y x : List ℕ) (ys : List (List ℕ)) → bytes_eq y x ≡ true → list_any (bytes_eq y) (ys ++ x ∷ []) ≡ true
any-last y x [] h = ap (λ b. b || false) h
any-last y x (z ∷ ys) h = ap (λ b. bytes_eq y z || b) (any-last y x ys h) ∙ true-or (bytes_eq y z)

-- the last one stands before it already
twice : (x : List ℕ) (xs : List (List ℕ)) → list_any (bytes_eq x) xs ≡ true → has_repetition bytes_eq (xs ++ x ∷ []) ≡ true
twice x [] h = absurd cc
twice x (y ∷ ys) h = by (bytes_eq x y) refl (twice x ys) h
  where
    by : (b : Bool) → bytes_eq x y ≡ b → (list_any (bytes_eq x) ys ≡ true → has_repetition bytes_eq (ys ++ x ∷ []) ≡ true) → (b || list_any (bytes_eq x) ys) ≡ true
        → (list_any (bytes_eq y) (ys ++ x ∷ []) || has_repetition bytes_eq (ys ++ x ∷ [])) ≡ true
    by true e f h = ap (λ b. b || has_repetition bytes_eq (ys ++ x ∷ [])) (any-last y x ys (other-way x y e))
    by false e f h = ap (λ b. list_any (bytes_eq y) (ys ++ x ∷ []) || b) (f h) ∙ true-or (list_any (bytes_eq y) (ys ++ x ∷ []))

-- more names leave one twice
more-twice : (xs ys : List (List ℕ)) → has_repetition bytes_eq xs ≡ true → has_repetition bytes_eq (xs ++ ys) ≡ true
more-twice [] ys h = absurd cc
more-twice (x ∷ xs) ys h = by (list_any (bytes_eq x) xs) refl (more-twice xs ys) h
  where
    by : (b : Bool) → list_any (bytes_eq x) xs ≡ b → (has_repetition bytes_eq xs ≡ true → has_repetition bytes_eq (xs ++ ys) ≡ true) → (b || has_repetition bytes_eq xs) ≡ true
        → (list_any (bytes_eq x) (xs ++ ys) || has_repetition bytes_eq (xs ++ ys)) ≡ true
    by true e f h = ap (λ b. b || has_repetition bytes_eq (xs ++ ys)) (list_any-append (bytes_eq x) xs ys ∙ ap (λ b. b || list_any (bytes_eq x) ys) e)
    by false e f h = ap (λ b. list_any (bytes_eq x) (xs ++ ys) || b) (f h) ∙ true-or (list_any (bytes_eq x) (xs ++ ys))

-- a new one makes none twice
once : (x : List ℕ) (xs : List (List ℕ)) → has_repetition bytes_eq xs ≡ false → list_any (bytes_eq x) xs ≡ false → has_repetition bytes_eq (xs ++ x ∷ []) ≡ false
once x [] h none = refl
once x (y ∷ ys) h none =
    let s = or_parts (list_any (bytes_eq y) ys) (has_repetition bytes_eq ys) h in
    let n = or_parts (bytes_eq x y) (list_any (bytes_eq x) ys) none in
    or_from (list_any (bytes_eq y) (ys ++ x ∷ [])) (has_repetition bytes_eq (ys ++ x ∷ []))
    (list_any-append (bytes_eq y) ys (x ∷ []) ∙ or_from (list_any (bytes_eq y) ys) (bytes_eq y x || false) s.0 (ap (λ b. b || false) (differ (bytes_eq y x) refl n.0)))
    (once x ys s.1 n.1)
  where
    differ : (b : Bool) → bytes_eq y x ≡ b → bytes_eq x y ≡ false → b ≡ false
    differ true e f = sym (other-way y x e) ∙ f
    differ false e f = refl

-- what the names so far are
pub record AreOnce (names : List (List ℕ)) (i : ℕ) (set : List (List ℕ)) : Type 0 where
  pub keys : set ≡ take i names
  pub once : has_repetition bytes_eq (take i names) ≡ false

pub found-twice : (names : List (List ℕ)) (i : ℕ) (keys : List (List ℕ)) (name copy : List ℕ) → i < length names → AreOnce names i keys → copy ≡ name → name ≡ get_or names i name → false ≡ not (list_any (bytes_eq copy) keys) → has_repetition bytes_eq names ≡ true
found-twice names i keys name copy lt are same read found =
    let there : list_any (bytes_eq name) (take i names) ≡ true =
    ap (λ n. list_any (bytes_eq n) (take i names)) (sym same) ∙ (ap (list_any (bytes_eq copy)) (sym are.keys) ∙ not-not (list_any (bytes_eq copy) keys) (sym found)) in
    let front : has_repetition bytes_eq (take (i + 1) names) ≡ true =
    ap (has_repetition bytes_eq) ((take_at_read names i name lt).1 ∙ ap (λ n. take i names ++ n ∷ []) (sym read)) ∙ twice name (take i names) there in
    ap (has_repetition bytes_eq) (sym (take-append-drop (i + 1) names)) ∙ more-twice (take (i + 1) names) (drop (i + 1) names) front
  where
    not-not : (b : Bool) → not b ≡ false → b ≡ true
    not-not true h = refl
    not-not false h = absurd cc

pub one-more-once : (names : List (List ℕ)) (i : ℕ) (keys new : List (List ℕ)) (name copy : List ℕ) → i < length names → AreOnce names i keys → copy ≡ name → name ≡ get_or names i name → true ≡ not (list_any (bytes_eq copy) keys)
    → new ≡ insert_key bytes_eq keys copy → AreOnce names (i + 1) new
one-more-once names i keys new name copy lt are same read added put =
    let none : list_any (bytes_eq copy) keys ≡ false = not-true (list_any (bytes_eq copy) keys) (sym added) in
    let absent : list_any (bytes_eq name) (take i names) ≡ false =
    ap (λ n. list_any (bytes_eq n) (take i names)) (sym same) ∙ (ap (list_any (bytes_eq copy)) (sym are.keys) ∙ none) in
    let longer : take (i + 1) names ≡ take i names ++ name ∷ [] = (take_at_read names i name lt).1 ∙ ap (λ n. take i names ++ n ∷ []) (sym read) in
    record {
      keys = put ∙ (ap (λ b. cond b keys (keys ++ copy ∷ [])) none ∙ (ap (λ ks. ks ++ copy ∷ []) are.keys ∙ (ap (λ n. take i names ++ n ∷ []) same ∙ sym longer)));
      once = ap (has_repetition bytes_eq) longer ∙ once name (take i names) are.once absent;
    }
  where
    not-true : (b : Bool) → not b ≡ true → b ≡ false
    not-true true h = absurd cc
    not-true false h = refl
