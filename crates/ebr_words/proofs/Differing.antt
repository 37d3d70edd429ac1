-- Words that differ.
use Rattle.std.proofs.Common.{ℕ, ◌≡◌, ◌≢◌, ◌+◌, ◌<◌, Bool, true, false, not, ◌&&◌, ◌||◌, List, [], ◌∷◌, ◌++◌, length, drop, get_or, codes, refl, sym, ◌∙◌, ap}
use Rattle.std.specs.Prelude.{map}
use Rattle.std.specs.List.{list_any}
use Rattle.std.specs.Str.{bytes_eq}
use Rattle.std.proofs.lemmas.List.{append_cancel_right, at_drop_more}
use Rattle.std.proofs.lemmas.List.Folds.{list_any-append}
use Rattle.std.proofs.lemmas.Slice.Eq.{bytes_eq-Decides}
use Rattle.ebr_words.specs.Words.{are_apart, out_word}
use Rattle.ebr_words.specs.inside.Apart.{each_apart}

abbrev pub Words : Type 0
Words = List (List ℕ)

same_tests : (b c : Bool) → (b ≡ true → c ≡ true) → (c ≡ true → b ≡ true) → b ≡ c
same_tests true c to from = sym (to refl)
same_tests false true to from = from refl
same_tests false false to from = refl

not_true : (b : Bool) → (b ≡ true → ⊥) → b ≡ false
not_true true never = absurd (never refl)
not_true false never = refl

-- the words of two sinks are equal where those of the scripts are
out_same : (a b : List ℕ) → bytes_eq (out_word a) (out_word b) ≡ bytes_eq a b
out_same a b =
    same_tests (bytes_eq (out_word a) (out_word b)) (bytes_eq a b)
    (λ is. (bytes_eq-Decides a b).1 (append_cancel_right a b (codes ".out") ((bytes_eq-Decides (out_word a) (out_word b)).0 is)))
    (λ is. (bytes_eq-Decides (out_word a) (out_word b)).1 (ap out_word ((bytes_eq-Decides a b).0 is)))

any_out : (a : List ℕ) (scripts : Words) → list_any (bytes_eq (out_word a)) (map out_word scripts) ≡ list_any (bytes_eq a) scripts
any_out a [] = refl
any_out a (s ∷ scripts) = ap (λ b. b || list_any (bytes_eq (out_word a)) (map out_word scripts)) (out_same a s) ∙ ap (λ b. bytes_eq a s || b) (any_out a scripts)

-- a word that is that of a sink, and one that isn't
pub sink_of : (word script : List ℕ) (scripts : Words) → word ≡ out_word script → list_any (bytes_eq script) scripts ≡ list_any (bytes_eq word) (map out_word scripts)
sink_of word script scripts is = sym (ap (λ w. list_any (bytes_eq w) (map out_word scripts)) is ∙ any_out script scripts)

pub no_sink : (word : List ℕ) (scripts : Words) → ((front : List ℕ) → word ≢ front ++ codes ".out") → list_any (bytes_eq word) (map out_word scripts) ≡ false
no_sink word [] none = refl
no_sink word (s ∷ scripts) none =
    ap (λ b. b || list_any (bytes_eq word) (map out_word scripts)) (not_true (bytes_eq word (out_word s)) (λ is. none s ((bytes_eq-Decides word (out_word s)).0 is)))
    ∙ no_sink word scripts none

-- what a test of a word among others says
pub found : (b q : Bool) (w v : List ℕ) (xs ys : Words) → w ≡ v → xs ≡ ys → b ≡ list_any (bytes_eq w) xs → b ≡ q → list_any (bytes_eq v) ys ≡ q
found b q w v xs ys same rest is tells = sym (ap (λ u. list_any (bytes_eq u) ys) same) ∙ sym (ap (list_any (bytes_eq w)) rest) ∙ sym is ∙ tells

-- ---- words one after the other

and_twice : (a b c : Bool) → (a && b) && c ≡ a && (b && c)
and_twice true b c = refl
and_twice false b c = refl

-- words and others behind them
pub apart_both : (words others : Words) → are_apart (words ++ others) ≡ (each_apart words others && are_apart others)
apart_both [] others = refl
apart_both (w ∷ words) others =
    ap (λ b. not (list_any (bytes_eq w) (words ++ others)) && b) (apart_both words others)
    ∙ sym (and_twice (not (list_any (bytes_eq w) (words ++ others))) (each_apart words others) (are_apart others))

module _ (words others : Words) (at : ℕ) (w d : List ℕ) (whole : Bool) (within : at < length words) (is : w ≡ get_or words at d) (so_far : each_apart (drop at words) others ≡ whole) where
  abbrev rest : Words
  rest = drop (at + 1) words

  here : (b c : Bool) → list_any (bytes_eq w) rest ≡ b → list_any (bytes_eq w) others ≡ c → (not (b || c) && each_apart rest others) ≡ whole
  here b c in_rest in_others =
      sym (ap (λ x. not (x || c) && each_apart rest others) in_rest)
      ∙ sym (ap (λ x. not (list_any (bytes_eq w) rest || x) && each_apart rest others) in_others)
      ∙ sym (ap (λ x. not x && each_apart rest others) (list_any-append (bytes_eq w) rest others))
      ∙ ap (λ v. each_apart (v ∷ rest) others) is
      ∙ sym (at_drop_more (λ xs. each_apart xs others) words at d within)
      ∙ so_far

  pub goes_on : list_any (bytes_eq w) rest ≡ false → list_any (bytes_eq w) others ≡ false → each_apart rest others ≡ whole
  goes_on none none' = here false false none none'

  pub is_twice : (b : Bool) → list_any (bytes_eq w) rest ≡ true → list_any (bytes_eq w) others ≡ b → whole ≡ false
  is_twice b twice is_other = sym (here true b twice is_other)

  pub is_other : list_any (bytes_eq w) rest ≡ false → list_any (bytes_eq w) others ≡ true → whole ≡ false
  is_other none twice = sym (here false true none twice)

-- ---- scripts

module _ (scripts : Words) (at : ℕ) (s d : List ℕ) (whole : Bool) (within : at < length scripts) (is : s ≡ get_or scripts at d) (so_far : are_apart (map out_word (drop at scripts)) ≡ whole) where
  abbrev left : Words
  left = drop (at + 1) scripts

  script_here : (b : Bool) → list_any (bytes_eq s) left ≡ b → (not b && are_apart (map out_word left)) ≡ whole
  script_here b twice =
      sym (ap (λ x. not x && are_apart (map out_word left)) (any_out s left ∙ twice))
      ∙ ap (λ v. are_apart (map out_word (v ∷ left))) is
      ∙ sym (at_drop_more (λ xs. are_apart (map out_word xs)) scripts at d within)
      ∙ so_far

  pub script_goes_on : list_any (bytes_eq s) left ≡ false → are_apart (map out_word left) ≡ whole
  script_goes_on none = script_here false none

  pub script_twice : list_any (bytes_eq s) left ≡ true → whole ≡ false
  script_twice twice = sym (script_here true twice)
