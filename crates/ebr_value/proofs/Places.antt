-- The first suffix of a text that passes a test, and parts of texts.
use Rattle.std.proofs.Common.{ℕ, zero, suc, ◌≡◌, ◌<◌, ◌≤◌, ◌+◌, Bool, true, false, List, [], ◌∷◌, length, drop, refl, ap, ◌∙◌, arith, add-one, Some, None}
use Rattle.std.specs.Option.{option_map}
use Rattle.std.proofs.Common.{ℤ, pos, int_lt, int_le, min, unsigned_abs, ◌-◌, nat_eq, take, sym, inl, inr}
use Rattle.std.proofs.lemmas.Int.{ints}
use Rattle.std.proofs.lemmas.List.{drop_all, take_min}
use Rattle.std.proofs.lemmas.Bool.{cond-true, cond-false, cases_Bool, cases_lt, and_from}
use Rattle.std.specs.List.{starts_with}
use Rattle.ebr_base.specs.declared.value.Value.{Value}
use Rattle.ebr_base.specs.Values.{text_value}
use Rattle.ebr_value.specs.Places.{first_place, start, is_place, counted, place_of}
use Rattle.ebr_value.specs.inside.Skips.{skipped}
use Rattle.ebr_value.specs.Texts.{part}

-- no suffix before passes, and this one does
pub place_found : (test : List ℕ → Bool) (text : List ℕ) (i : ℕ) → i ≤ length text → ((k : ℕ) → k < i → test (drop k text) ≡ false) → test (drop i text) ≡ true → first_place test text ≡ Some i
place_found test [] zero l below h = cond-true _ _ _ h
place_found test [] (suc i) l below h = absurd (omega (arith, l))
place_found test (b ∷ bs) zero l below h = cond-true _ _ _ h
place_found test (b ∷ bs) (suc i) l below h =
    let before : test (b ∷ bs) ≡ false = below 0 (omega arith) in
    let more : first_place test bs ≡ Some i = place_found test bs i (omega (arith, l)) (λ k lt. below (suc k) (omega (arith, lt))) h in
    cond-false _ _ _ before ∙ ap (option_map (λ n. n + 1)) more ∙ ap Some (add-one i)

-- no suffix passes
pub place_none : (test : List ℕ → Bool) (text : List ℕ) → ((k : ℕ) → k ≤ length text → test (drop k text) ≡ false) → first_place test text ≡ None
place_none test [] none = cond-false _ _ _ (none 0 (omega arith))
place_none test (b ∷ bs) none =
    let before : test (b ∷ bs) ≡ false = none 0 (omega arith) in
    let more : first_place test bs ≡ None = place_none test bs (λ k l. none (suc k) (omega (arith, l))) in
    cond-false _ _ _ before ∙ ap (option_map (λ n. n + 1)) more

pub some-same : {A : Type 0} (x y : A) → Some x ≡ Some y → x ≡ y
some-same x y e = cc

pub none≢some : {A : Type 0} (x : A) → None ≡ Some x → ⊥
none≢some x e = cc

-- a part that begins within the text and has some bytes
pub part_there : (t : List ℕ) (p c : ℤ) (k : ℕ) → Some k ≡ skipped (length t) p → int_lt (pos 0) c ≡ true → part t (start (length t) p) c ≡ text_value (take (unsigned_abs c) (drop k t))
part_there t p c k h l =
    let s = start (length t) p in
    let some : int_le (pos 1) c ≡ true = grind (arith, ints) in
    elim (cases_Bool (is_place (length t) s)) [
      | inl inside ↦
          let e : k ≡ unsigned_abs s - 1 = some-same k _ (h ∙ cond-true _ _ _ inside) in
          cond-true _ _ _ (and_from (is_place (length t) s) (int_le (pos 1) c) inside some) ∙ ap (λ n. text_value (take (unsigned_abs c) (drop n t))) (sym e)
      | inr outside ↦ absurd (none≢some k (sym (h ∙ cond-false _ _ _ outside)))
    ]

-- the part that the code makes
pub part_made : (t rest bytes : List ℕ) (p c : ℤ) (k n a : ℕ) (v : Value) → v ≡ text_value bytes → bytes ≡ take n rest → rest ≡ drop k t → n ≡ min a (length rest) → a ≡ unsigned_abs c → Some k ≡ skipped (length t) p → int_lt (pos 0) c ≡ true → v ≡ part t (start (length t) p) c
part_made t rest bytes p c k n a v ev eb er en ea h l =
    ev ∙ ap text_value (eb ∙ ap (λ m. take m rest) en ∙ take_min a rest ∙ ap (λ m. take m rest) ea ∙ ap (take (unsigned_abs c)) er) ∙ sym (part_there t p c k h l)

-- nothing stands behind the end
nothing : (y : List ℕ) → (y ≡ [] → ⊥) → starts_with nat_eq [] y ≡ false
nothing [] some = absurd (some refl)
nothing (b ∷ bs) some = refl

pub nothing_behind : (y t : List ℕ) (k : ℕ) → (y ≡ [] → ⊥) → length t ≤ k → starts_with nat_eq (drop k t) y ≡ false
nothing_behind y t k some l = ap (λ xs. starts_with nat_eq xs y) (drop_all k t l) ∙ nothing y some

pub no_place : (y t : List ℕ) (i : ℕ) → (y ≡ [] → ⊥) → length t ≤ i → ((k : ℕ) → k < i → starts_with nat_eq (drop k t) y ≡ false) → place_of t y ≡ 0
no_place y t i some l below =
    ap counted
    (place_none (λ rest. starts_with nat_eq rest y) t
    (λ k h. elim (cases_lt k i) [ inl less ↦ below k less | inr more ↦ nothing_behind y t k some (omega (arith, more, l)) ]))

pub a_place : (y t : List ℕ) (i : ℕ) → i < length t → ((k : ℕ) → k < i → starts_with nat_eq (drop k t) y ≡ false) → starts_with nat_eq (drop i t) y ≡ true → place_of t y ≡ i + 1
a_place y t i l below h = ap counted (place_found (λ rest. starts_with nat_eq rest y) t i (omega (arith, l)) below h)
