-- Tests and look-ups in lists.
use Rattle.std.proofs.Common.{◌≡◌, ◌≢◌, ℕ, zero, suc, Bool, true, false, cond, List, [], ◌∷◌, ◌++◌, Option, Some, None, option_map, find, map, count_by, ◌+◌, refl, sym, ap, subst, arith, ◌∙◌}
use Rattle.std.specs.List.{slice_get, AllByRecursion}
use Rattle.std.specs.Str.{bytes_eq}
use Rattle.std.specs.Cmp.Lexicographic.{bytes_decides}
use Rattle.std.proofs.lemmas.Bool.Decides.{Decides-eqb}
use Rattle.std.proofs.lemmas.List.Sums.{sum_by-cons}
use borrow.Author.Tests.{eqb-true}
use Rattle.ebr_base.specs.declared.numbers.EditionNo.{EditionNo}
use Rattle.ebr_editions.specs.Editions.{is_edition}

-- both cases of a test, each with what the test said
pub by_test : {P : Type 0} (b : Bool) → (b ≡ true → P) → (b ≡ false → P) → P
by_test true on_true on_false = on_true refl
by_test false on_true on_false = on_false refl

-- both cases of an option, each with the equation
pub by_option : {P X : Type 0} (o : Option X) → (o ≡ None → P) → ((x : X) → o ≡ Some x → P) → P
by_option None on_none on_some = on_none refl
by_option (Some x) on_none on_some = on_some x refl

pub cond-true : {X : Type 0} (b : Bool) (x y : X) → b ≡ true → cond b x y ≡ x
cond-true b x y h = ap (λ c. cond c x y) h

pub cond-false : {X : Type 0} (b : Bool) (x y : X) → b ≡ false → cond b x y ≡ y
cond-false b x y h = ap (λ c. cond c x y) h

pub some_same : {X : Type 0} {x y : X} → Some x ≡ Some y → x ≡ y
some_same h = cc

pub none_some : {P X : Type 0} {x : X} → None ≡ Some x → P
none_some h = absurd cc

pub false_true : {P : Type 0} → false ≡ true → P
false_true h = absurd cc

pub same_edition : (d e : EditionNo) → is_edition d e ≡ true → d ≡ e
same_edition d e h = let made : ℕ → EditionNo = λ n. record { 0 = n } in ap made (eqb-true d.0 e.0 h)

pub is_edition-same : (d e : EditionNo) → d.0 ≡ e.0 → is_edition d e ≡ true
is_edition-same d e h = (Decides-eqb d.0 e.0).1 h

pub is_edition-other : (d e : EditionNo) → d.0 ≢ e.0 → is_edition d e ≡ false
is_edition-other d e h = by_test (is_edition d e) (λ t. absurd (h (eqb-true d.0 e.0 t))) (λ f. f)

pub same_name : (a b : List ℕ) → bytes_eq a b ≡ true → a ≡ b
same_name a b h = (bytes_decides a b).0 h

pub name_itself : (a : List ℕ) → bytes_eq a a ≡ true
name_itself a = (bytes_decides a a).1 refl

module _ {X : Type 0} where
  pub find-true : (p : X → Bool) (xs : List X) (x : X) → find p xs ≡ Some x → p x ≡ true
  find-true p [] x h = none_some h
  find-true p (y ∷ xs) x h =
      by_test (p y)
      (λ t. subst (λ z. p z ≡ true) (some_same (sym (cond-true (p y) (Some y) (find p xs) t) ∙ h)) t)
      (λ f. find-true p xs x (sym (cond-false (p y) (Some y) (find p xs) f) ∙ h))

  pub each-find : (P : X → Type 0) (p : X → Bool) (xs : List X) (x : X) → AllByRecursion P xs → find p xs ≡ Some x → P x
  each-find P p [] x all h = none_some h
  each-find P p (y ∷ xs) x all h =
      by_test (p y)
      (λ t. subst P (some_same (sym (cond-true (p y) (Some y) (find p xs) t) ∙ h)) all.0)
      (λ f. each-find P p xs x all.1 (sym (cond-false (p y) (Some y) (find p xs) f) ∙ h))

  pub each-get : (P : X → Type 0) (xs : List X) (i : ℕ) (x : X) → AllByRecursion P xs → slice_get xs i ≡ Some x → P x
  each-get P [] i x all h = none_some h
  each-get P (y ∷ xs) zero x all h = subst P (some_same h) all.0
  each-get P (y ∷ xs) (suc i) x all h = each-get P xs i x all.1 h

  pub each-weaker : (P Q : X → Type 0) (f : (x : X) → P x → Q x) (xs : List X) → AllByRecursion P xs → AllByRecursion Q xs
  each-weaker P Q f [] all = tt
  each-weaker P Q f (x ∷ xs) all = (f x all.0, each-weaker P Q f xs all.1)

  pub find-append : (p : X → Bool) (xs ys : List X) (x : X) → find p xs ≡ Some x → find p (xs ++ ys) ≡ Some x
  find-append p [] ys x h = none_some h
  find-append p (y ∷ xs) ys x h =
      by_test (p y)
      (λ t. cond-true (p y) (Some y) (find p (xs ++ ys)) t ∙ (sym (cond-true (p y) (Some y) (find p xs) t) ∙ h))
      (λ f. cond-false (p y) (Some y) (find p (xs ++ ys)) f ∙ find-append p xs ys x (sym (cond-false (p y) (Some y) (find p xs) f) ∙ h))

pub slice_get-map : {X Y : Type 0} (f : X → Y) (xs : List X) (i : ℕ) → slice_get (map f xs) i ≡ option_map f (slice_get xs i)
slice_get-map f [] i = refl
slice_get-map f (x ∷ xs) zero = refl
slice_get-map f (x ∷ xs) (suc i) = slice_get-map f xs i

module _ {X : Type 0} (p : X → Bool) where
  pub count-true : (x : X) (xs : List X) → p x ≡ true → count_by p (x ∷ xs) ≡ suc (count_by p xs)
  count-true x xs t = sum_by-cons (λ y. cond (p y) 1 0) x xs ∙ (ap (λ n. n + count_by p xs) (cond-true (p x) 1 0 t) ∙ omega arith)

  pub count-false : (x : X) (xs : List X) → p x ≡ false → count_by p (x ∷ xs) ≡ count_by p xs
  count-false x xs f = sum_by-cons (λ y. cond (p y) 1 0) x xs ∙ (ap (λ n. n + count_by p xs) (cond-false (p x) 1 0 f) ∙ omega arith)

pub count-same : {X : Type 0} (p q : X → Bool) (xs : List X) → ((x : X) → p x ≡ q x) → count_by p xs ≡ count_by q xs
count-same p q [] h = refl
count-same p q (x ∷ xs) h =
    by_test (p x)
    (λ t. count-true p x xs t ∙ (ap suc (count-same p q xs h) ∙ sym (count-true q x xs (sym (h x) ∙ t))))
    (λ f. count-false p x xs f ∙ (count-same p q xs h ∙ sym (count-false q x xs (sym (h x) ∙ f))))
