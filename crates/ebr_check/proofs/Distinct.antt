-- Whether keys are different, told from the front on.
use Rattle.std.proofs.Common.{◌≡◌, ℕ, Bool, true, false, not, ◌&&◌, ◌||◌, List, [], ◌∷◌, ◌++◌, map, Option, Some, None, option_map, refl, ap, ◌∙◌}
use Rattle.std.specs.Borrow.{Bor}
use Rattle.std.specs.List.{list_any, list_all}
use Rattle.std.specs.Option.{option_eq}
use Rattle.std.specs.Str.{bytes_eq}
use Rattle.std.proofs.lemmas.Cmp.{nat_list_eq_equiv}
use Rattle.std.proofs.lemmas.List.Folds.{list_any-append}
use Rattle.ebr_validity.specs.Rules.{are_distinct, are_distinct_paths, same_path, same_member}
use Rattle.ebr_check.specs.inside.Caught.{Key, as_path}
use Rattle.ebr_check.specs.inside.Names.{are_fresh}

-- none of the keys stands before them
abbrev apart : {K : Type 0} → (K → K → Bool) → List K → List K → Bool
apart same before ks = list_all (λ k. not (list_any (same k) before)) ks

-- none stands twice
abbrev once : {K : Type 0} → (K → K → Bool) → List K → Bool
once same [] = true
once same (k ∷ ks) = not (list_any (same k) ks) && once same ks

one : (a b c d : Bool) → (not (a || (b || false)) && (c && not d)) ≡ ((not a && c) && not (b || d))
one true b c d = refl
one false true true d = refl
one false true false d = refl
one false false c d = refl

two : (a c d e : Bool) → (a && ((c && d) && e)) ≡ ((a && c) && (d && e))
two true true d e = refl
two true false d e = refl
two false c d e = refl

module _ {K : Type 0} (same : K → K → Bool) (symm : (a b : K) → same a b ≡ same b a) where
  -- one key more before them
  apart-more : (before : List K) (n : K) (ns : List K) → apart same (before ++ n ∷ []) ns ≡ (apart same before ns && not (list_any (same n) ns))
  apart-more before n [] = refl
  apart-more before n (m ∷ ns) =
      ap (λ b. not b && apart same (before ++ n ∷ []) ns) (list_any-append (same m) before (n ∷ []))
      ∙ ap (λ b. not (list_any (same m) before || (same m n || false)) && b) (apart-more before n ns)
      ∙ one (list_any (same m) before) (same m n) (apart same before ns) (list_any (same n) ns)
      ∙ ap (λ b. (not (list_any (same m) before) && apart same before ns) && not (b || list_any (same n) ns)) (symm m n)

  fresh-is : (before ns : List K) → are_fresh same before ns ≡ (apart same before ns && once same ns)
  fresh-is before [] = refl
  fresh-is before (n ∷ ns) =
      ap (λ b. not (list_any (same n) before) && b) (fresh-is (before ++ n ∷ []) ns)
      ∙ ap (λ b. not (list_any (same n) before) && (b && once same ns)) (apart-more before n ns)
      ∙ two (not (list_any (same n) before)) (apart same before ns) (not (list_any (same n) ns)) (once same ns)

  apart-first : (ns : List K) → apart same [] ns ≡ true
  apart-first [] = refl
  apart-first (n ∷ ns) = apart-first ns

  all_fresh : (ns : List K) → are_fresh same [] ns ≡ once same ns
  all_fresh ns = fresh-is [] ns ∙ ap (λ b. b && once same ns) (apart-first ns)

-- ---- names

abbrev same_name : Bor (List ℕ) → Bor (List ℕ) → Bool
same_name a b = bytes_eq a.now b.now

name-among : (n : Bor (List ℕ)) (ns : List (Bor (List ℕ))) → list_any (same_name n) ns ≡ list_any (bytes_eq n.now) (map (λ (m : Bor (List ℕ)). m.now) ns)
name-among n [] = refl
name-among n (m ∷ ns) = ap (λ b. same_name n m || b) (name-among n ns)

names-once : (ns : List (Bor (List ℕ))) → once same_name ns ≡ are_distinct (map (λ (n : Bor (List ℕ)). n.now) ns)
names-once [] = refl
names-once (n ∷ ns) =
    ap (λ b. not b && once same_name ns) (name-among n ns)
    ∙ ap (λ b. not (list_any (bytes_eq n.now) (map (λ (m : Bor (List ℕ)). m.now) ns)) && b) (names-once ns)

pub distinct_names : (ns : List (Bor (List ℕ))) → are_fresh same_name [] ns ≡ are_distinct (map (λ (n : Bor (List ℕ)). n.now) ns)
distinct_names ns = all_fresh same_name (λ a b. nat_list_eq_equiv.symm a.now b.now) ns ∙ names-once ns

-- ---- paths

abbrev same_key : Key → Key → Bool
same_key a b = bytes_eq a.0.now b.0.now && option_eq same_name a.1 b.1

key-is : (a b : Key) → same_key a b ≡ same_path (as_path a) (as_path b)
key-is a b = ap (λ c. bytes_eq a.0.now b.0.now && c) (by a.1 b.1)
  where
    by : (m n : Option (Bor (List ℕ))) → option_eq same_name m n ≡ same_member (option_map (λ (x : Bor (List ℕ)). x.now) m) (option_map (λ (x : Bor (List ℕ)). x.now) n)
    by None None = refl
    by None (Some n) = refl
    by (Some m) None = refl
    by (Some m) (Some n) = refl

key-symm : (a b : Key) → same_key a b ≡ same_key b a
key-symm a b = ap (λ c. c && option_eq same_name a.1 b.1) (nat_list_eq_equiv.symm a.0.now b.0.now) ∙ ap (λ c. bytes_eq b.0.now a.0.now && c) (by a.1 b.1)
  where
    by : (m n : Option (Bor (List ℕ))) → option_eq same_name m n ≡ option_eq same_name n m
    by None None = refl
    by None (Some n) = refl
    by (Some m) None = refl
    by (Some m) (Some n) = nat_list_eq_equiv.symm m.now n.now

path-among : (k : Key) (ks : List Key) → list_any (same_key k) ks ≡ list_any (same_path (as_path k)) (map as_path ks)
path-among k [] = refl
path-among k (l ∷ ks) = ap (λ b. b || list_any (same_key k) ks) (key-is k l) ∙ ap (λ b. same_path (as_path k) (as_path l) || b) (path-among k ks)

paths-once : (ks : List Key) → once same_key ks ≡ are_distinct_paths (map as_path ks)
paths-once [] = refl
paths-once (k ∷ ks) =
    ap (λ b. not b && once same_key ks) (path-among k ks)
    ∙ ap (λ b. not (list_any (same_path (as_path k)) (map as_path ks)) && b) (paths-once ks)

pub distinct_paths : (ks : List Key) → are_fresh same_key [] ks ≡ are_distinct_paths (map as_path ks)
distinct_paths ks = all_fresh same_key key-symm ks ∙ paths-once ks
