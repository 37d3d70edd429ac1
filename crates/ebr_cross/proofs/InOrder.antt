-- Keys in order, and copies of a list.
use Rattle.std.proofs.Common.{◌≡◌, ◌<◌, ◌≤◌, ◌+◌, ℕ, zero, suc, List, [], ◌∷◌, ◌++◌, map, fold, take, length, get_or, Some, None, refl, sym, ap, ◌∙◌, arith}
use Rattle.std.specs.List.{slice_get}
use Rattle.std.specs.Borrow.{Bor}
use Rattle.std.specs.Ordering.{match_ordering}
use Rattle.std.specs.declared.cmp.Ordering.{Ordering}
use Rattle.std.specs.declared.cmp.Ordering.TheVariants.{Less, Equal, Greater}
use Rattle.std.specs.BTreeSet.{insert_key}
use Rattle.std.proofs.lemmas.List.{take_all}
use Rattle.std.proofs.lemmas.Grind.{take_at_read}
use Rattle.std.proofs.lemmas.Option.{slice_get_within}
use Rattle.ebr_base.specs.declared.object.Class.{Class}
use Rattle.ebr_base.specs.declared.object.Class.TheVariants as class
use Rattle.ebr_base.specs.declared.object.ObjectKey.{ObjectKey}
use Rattle.ebr_base.specs.contracts.object.ObjectKeyOrd.TheImpl.{ghosts}
use Rattle.ebr_base.specs.Keys.{key_order}

key : Class → List ℕ → ObjectKey
key c n = record { class = c; name = n }

by_class : (c d : Class) (m n : List ℕ) → ghosts.cmp (key c m) (key d n) ≡ key_order (key c m) (key d n)
unfolding key
by_class class.Unit class.Unit m n = refl
by_class class.Unit class.Body m n = refl
by_class class.Unit class.Trigger m n = refl
by_class class.Body class.Unit m n = refl
by_class class.Body class.Body m n = refl
by_class class.Body class.Trigger m n = refl
by_class class.Trigger class.Unit m n = refl
by_class class.Trigger class.Body m n = refl
by_class class.Trigger class.Trigger m n = refl

-- the order that keys derive is that of the definitions
pub derived : ghosts.cmp ≡ key_order
unfolding key
derived = λ i a b. by_class a.class b.class a.name b.name i

by-order : {A B : Type 0} (f : A → B) (o : Ordering) (x y z : A) → f (match_ordering o x y z) ≡ match_ordering o (f x) (f y) (f z)
by-order f Less x y z = refl
by-order f Equal x y z = refl
by-order f Greater x y z = refl

-- references to keys are put in order as the keys are
insert-now : (ks : List (Bor ObjectKey)) (k : Bor ObjectKey) → map (λ (x : Bor ObjectKey). x.now) (insert_key (λ (x y : Bor ObjectKey). ghosts.cmp x.now y.now) ks k) ≡ insert_key ghosts.cmp (map (λ (x : Bor ObjectKey). x.now) ks) k.now
insert-now [] k = refl
insert-now (x ∷ ks) k =
    by-order (map (λ (y : Bor ObjectKey). y.now)) (ghosts.cmp k.now x.now) (k ∷ x ∷ ks) (x ∷ ks) (x ∷ insert_key (λ (a b : Bor ObjectKey). ghosts.cmp a.now b.now) ks k)
    ∙ ap (λ zs. match_ordering (ghosts.cmp k.now x.now) (k.now ∷ x.now ∷ map (λ (y : Bor ObjectKey). y.now) ks) (x.now ∷ map (λ (y : Bor ObjectKey). y.now) ks) (x.now ∷ zs)) (insert-now ks k)

pub fold-push : {A B : Type 0} (f : B → A → B) (b : B) (xs : List A) (x : A) → fold f b (xs ++ x ∷ []) ≡ f (fold f b xs) x
fold-push f b [] x = refl
fold-push f b (y ∷ xs) x = fold-push f (f b y) xs x

-- one key more
pub one-more : (keys : List ObjectKey) (i : ℕ) (set new : List (Bor ObjectKey)) (k : Bor ObjectKey) → i < length keys → k.now ≡ get_or keys i k.now → map (λ (x : Bor ObjectKey). x.now) set ≡ fold (insert_key key_order) [] (take i keys)
    → new ≡ insert_key (λ (x y : Bor ObjectKey). ghosts.cmp x.now y.now) set k → map (λ (x : Bor ObjectKey). x.now) new ≡ fold (insert_key key_order) [] (take (i + 1) keys)
one-more keys i set new k lt read so_far put =
    ap (map (λ (x : Bor ObjectKey). x.now)) put
    ∙ (insert-now set k
    ∙ (ap (λ cmp. insert_key cmp (map (λ (x : Bor ObjectKey). x.now) set) k.now) derived
    ∙ (ap (λ ks. insert_key key_order ks k.now) so_far
    ∙ (ap (insert_key key_order (fold (insert_key key_order) [] (take i keys))) read
    ∙ (sym (fold-push (insert_key key_order) [] (take i keys) (get_or keys i k.now))
    ∙ ap (fold (insert_key key_order) []) (sym (take_at_read keys i k.now lt).1))))))

get-read : {A : Type 0} (xs : List A) (i : ℕ) (x : A) → slice_get xs i ≡ Some x → get_or xs i x ≡ x
get-read [] i x h = absurd cc
get-read (y ∷ xs) zero x h = cc
get-read (y ∷ xs) (suc i) x h = get-read xs i x h

-- one copy more
pub one-copy : {A : Type 0} (xs copies new : List A) (i : ℕ) (x copy : A) → copies ≡ take i xs → Some x ≡ slice_get xs i → copy ≡ x → new ≡ copies ++ copy ∷ [] → (new ≡ take (i + 1) xs) × (i + 1 ≤ length xs)
one-copy xs copies new i x copy so_far at same push =
    let within : i < length xs = slice_get_within xs i x (sym at) in (
      push ∙ (ap (λ c. copies ++ c ∷ []) same ∙ (ap (λ cs. cs ++ x ∷ []) so_far ∙ (ap (λ y. take i xs ++ y ∷ []) (sym (get-read xs i x (sym at))) ∙ sym (take_at_read xs i x within).1))),
      omega arith,
    )

past : {A : Type 0} (xs : List A) (i : ℕ) → slice_get xs i ≡ None → length xs ≤ i
past [] i h = omega arith
past (y ∷ xs) zero h = absurd cc
past (y ∷ xs) (suc i) h = let rest = past xs i h in omega arith

pub all-copied : {A : Type 0} (xs copies : List A) (i : ℕ) → copies ≡ take i xs → None ≡ slice_get xs i → copies ≡ xs
all-copied xs copies i so_far at = so_far ∙ take_all i xs (past xs i (sym at))
