-- What is read is spelled so, and what is spelled so is read again: of readers that are made of others.
use Rattle.std.proofs.Common.{◌≡◌, ℕ, zero, suc, ◌+◌, ◌<◌, Bool, true, false, cond, List, [], ◌∷◌, ◌++◌, length, get_or, Option, Some, None, refl, sym, ap, subst, ◌∙◌, append_assoc}
use Rattle.std.specs.List.{flat_map, AllByRecursion}
use Rattle.std.proofs.lemmas.List.{append-nil, get_or-append-add}
use Rattle.ebr_encoding.specs.Reading.{◌>>=◌, Reader, at_end, both, counted, many, mapped, only}
use Rattle.ebr_encoding.specs.inside.Written.{IsReadAgain}

abbrev pub IsBytes : List ℕ → Type 0
IsBytes bytes = (i : ℕ) → get_or bytes i 0 < 256

pub behind : (front rest : List ℕ) → IsBytes (front ++ rest) → IsBytes rest
behind front rest h i = rw (← get_or-append-add front rest i 0) (h (length front + i))

-- the value of a step that found one
pub bind_some : {A B : Type 0} (r : Option A) (f : A → Option B) (y : B) → (r >>= f) ≡ Some y → (x : A) × (r ≡ Some x) × (f x ≡ Some y)
bind_some (Some x) f y e = (x, refl, e)
bind_some None f y e = absurd cc

abbrev found : {A : Type 0} → A → Option A
found x = Some x

pub some_is : {A : Type 0} (x y : A) → found x ≡ found y → x ≡ y
some_is x y e = cc

-- a test that was met
pub met : {A : Type 0} (b : Bool) (x y : A) → cond b (found x) None ≡ found y → (b ≡ true) × (x ≡ y)
met true x y e = (refl, cc)
met false x y e = absurd cc

pub not_met : {A : Type 0} (b : Bool) (x y : A) → cond b None (found x) ≡ found y → (b ≡ false) × (x ≡ y)
not_met true x y e = absurd cc
not_met false x y e = (refl, cc)

-- ---- what is read is spelled so

abbrev pub Takes : {X : Type 0} → Reader X → (X → List ℕ) → Type 0
Takes {X} read spelling = (bytes : List ℕ) (x : X) (rest : List ℕ) → IsBytes bytes → read bytes ≡ Some (x, rest) → bytes ≡ spelling x ++ rest

module _ {A B : Type 0} (p : Reader A) (q : Reader B) (f : A → List ℕ) (g : B → List ℕ) where
  pub both_takes : Takes p f → Takes q g → Takes (both p q) (λ x. f x.0 ++ g x.1)
  both_takes tp tq bytes x rest fits e =
      let a = bind_some (p bytes) (λ a. q a.1 >>= λ b. Some ((a.0, b.0), b.1)) (x, rest) e in
      let b = bind_some (q a.0.1) (λ b. Some ((a.0.0, b.0), b.1)) (x, rest) a.2 in
      let first : bytes ≡ f a.0.0 ++ a.0.1 = tp bytes a.0.0 a.0.1 fits a.1 in
      let second : a.0.1 ≡ g b.0.0 ++ b.0.1 = tq a.0.1 b.0.0 b.0.1 (behind (f a.0.0) a.0.1 (subst IsBytes first fits)) b.1 in
      let whole : bytes ≡ (f a.0.0 ++ g b.0.0) ++ b.0.1 = first ∙ ap (λ (t : List ℕ). f a.0.0 ++ t) second ∙ sym (append_assoc (f a.0.0) (g b.0.0) b.0.1) in
      let made : (A × B) × List ℕ = ((a.0.0, b.0.0), b.0.1) in
      subst (λ (y : (A × B) × List ℕ). bytes ≡ (f y.0.0 ++ g y.0.1) ++ y.1) (some_is made (x, rest) b.2) whole

-- what was mapped
pub mapped_is : {A B : Type 0} (p : Reader A) (to : A → B) (bytes : List ℕ) (x : B) (rest : List ℕ) → mapped to p bytes ≡ Some (x, rest) → (a : A) × (p bytes ≡ Some (a, rest)) × (to a ≡ x)
mapped_is {A} {B} p to bytes x rest e =
    let a = bind_some (p bytes) (λ a. Some (to a.0, a.1)) (x, rest) e in
    let made : B × List ℕ = (to a.0.0, a.0.1) in
    let same = some_is made (x, rest) a.2 in
    (a.0.0, a.1 ∙ ap (λ (y : B × List ℕ). Some (a.0.0, y.1)) same, ap (λ (y : B × List ℕ). y.0) same)

-- a value behind so many bytes
module _ {A B : Type 0} (p : Reader A) (f : A → List ℕ) (to : A → B) (g : B → List ℕ) (kind : List ℕ) where
  pub mapped_takes : ((a : A) → g (to a) ≡ kind ++ f a) → Takes p f → (bytes : List ℕ) (x : B) (rest : List ℕ) → IsBytes bytes → mapped to p bytes ≡ Some (x, rest) → kind ++ bytes ≡ g x ++ rest
  mapped_takes same tp bytes x rest fits e =
      let a = mapped_is p to bytes x rest e in
      let whole : kind ++ bytes ≡ g (to a.0) ++ rest = ap (λ (t : List ℕ). kind ++ t) (tp bytes a.0 rest fits a.1) ∙ sym (append_assoc kind (f a.0) rest) ∙ ap (λ (t : List ℕ). t ++ rest) (sym (same a.0)) in
      subst (λ (y : B). kind ++ bytes ≡ g y ++ rest) a.2 whole

module _ {X : Type 0} (p : Reader X) (f : X → List ℕ) where
  pub many_takes : Takes p f → (n : ℕ) (bytes : List ℕ) (xs : List X) (rest : List ℕ) → IsBytes bytes → many p n bytes ≡ Some (xs, rest) → (bytes ≡ flat_map f xs ++ rest) × (length xs ≡ n)
  unfolding many
  many_takes tp zero bytes xs rest fits e =
      let made : List X × List ℕ = ([], bytes) in
      subst (λ (y : List X × List ℕ). (bytes ≡ flat_map f y.0 ++ y.1) × (length y.0 ≡ 0)) (some_is made (xs, rest) e) (refl, refl)
  many_takes tp (suc n) bytes xs rest fits e =
      let a = bind_some (p bytes) (λ first. many p n first.1 >>= λ others. Some (first.0 ∷ others.0, others.1)) (xs, rest) e in
      let b = bind_some (many p n a.0.1) (λ others. Some (a.0.0 ∷ others.0, others.1)) (xs, rest) a.2 in
      let first : bytes ≡ f a.0.0 ++ a.0.1 = tp bytes a.0.0 a.0.1 fits a.1 in
      let second = many_takes tp n a.0.1 b.0.0 b.0.1 (behind (f a.0.0) a.0.1 (subst IsBytes first fits)) b.1 in
      let whole : bytes ≡ flat_map f (a.0.0 ∷ b.0.0) ++ b.0.1 = first ∙ ap (λ (t : List ℕ). f a.0.0 ++ t) second.0 ∙ sym (append_assoc (f a.0.0) (flat_map f b.0.0) b.0.1) in
      let made : List X × List ℕ = (a.0.0 ∷ b.0.0, b.0.1) in
      subst (λ (y : List X × List ℕ). (bytes ≡ flat_map f y.0 ++ y.1) × (length y.0 ≡ suc n)) (some_is made (xs, rest) b.2) (whole, ap suc second.1)

  pub counted_takes : (number : Reader ℕ) (spelled : ℕ → List ℕ) → Takes number spelled → Takes p f → Takes (counted number p) (λ xs. spelled (length xs) ++ flat_map f xs)
  unfolding counted
  counted_takes number spelled tn tp bytes xs rest fits e =
      let n = bind_some (number bytes) (λ n. many p n.0 n.1) (xs, rest) e in
      let first : bytes ≡ spelled n.0.0 ++ n.0.1 = tn bytes n.0.0 n.0.1 fits n.1 in
      let second = many_takes tp n.0.0 n.0.1 xs rest (behind (spelled n.0.0) n.0.1 (subst IsBytes first fits)) n.2 in
      let counts : bytes ≡ spelled (length xs) ++ n.0.1 = first ∙ ap (λ (k : ℕ). spelled k ++ n.0.1) (sym second.1) in
      counts ∙ ap (λ (t : List ℕ). spelled (length xs) ++ t) second.0 ∙ sym (append_assoc (spelled (length xs)) (flat_map f xs) rest)

-- ---- what is spelled so is read again

module _ {A B : Type 0} (p : Reader A) (q : Reader B) (s t : List ℕ) (a : A) (b : B) where
  pub both_again : IsReadAgain p s a → IsReadAgain q t b → IsReadAgain (both p q) (s ++ t) (a, b)
  both_again pa qb rest = ap (both p q) (append_assoc s t rest) ∙ rw (pa (t ++ rest), qb rest) refl

module _ {A B : Type 0} (p : Reader A) (s : List ℕ) (to : A → B) (a : A) where
  pub mapped_again : IsReadAgain p s a → IsReadAgain (mapped to p) s (to a)
  mapped_again pa rest = rw (pa rest) refl

module _ {X : Type 0} (p : Reader X) (f : X → List ℕ) where
  pub many_again : (xs : List X) → AllByRecursion (λ x. IsReadAgain p (f x) x) xs → IsReadAgain (many p (length xs)) (flat_map f xs) xs
  unfolding many
  many_again [] all rest = refl
  many_again (x ∷ xs) all rest =
      let regrouped : flat_map f (x ∷ xs) ++ rest ≡ f x ++ (flat_map f xs ++ rest) = append_assoc (f x) (flat_map f xs) rest in
      ap (many p (suc (length xs))) regrouped ∙ rw (all.0 (flat_map f xs ++ rest), many_again xs all.1 rest) refl

  pub counted_again : (number : Reader ℕ) (s : List ℕ) (xs : List X) → IsReadAgain number s (length xs) → IsReadAgain (many p (length xs)) (flat_map f xs) xs → IsReadAgain (counted number p) (s ++ flat_map f xs) xs
  unfolding counted
  counted_again number s xs numbered all rest = ap (counted number p) (append_assoc s (flat_map f xs) rest) ∙ rw (numbered (flat_map f xs ++ rest)) (all rest)

-- all of the bytes
pub only_again : {X : Type 0} (p : Reader X) (s : List ℕ) (x : X) → IsReadAgain p s x → only (p s) ≡ Some x
only_again p s x again =
    let whole : p s ≡ Some (x, []) = ap p (sym (append-nil s)) ∙ again [] in
    rw whole refl

pub only_is : {X : Type 0} (read : Option (X × List ℕ)) (x : X) → only read ≡ Some x → read ≡ Some (x, [])
only_is {X} read x e =
    let a = bind_some read (λ y. at_end y.0 y.1) x e in
    a.1 ∙ last a.0.0 a.0.1 a.2
  where
    last : (y : X) (rest : List ℕ) → at_end y rest ≡ Some x → found {A = X × List ℕ} (y, rest) ≡ Some (x, [])
    last y [] k = ap (λ (z : X). found {A = X × List ℕ} (z, [])) (some_is y x k)
    last y (b ∷ rest) k = absurd cc
