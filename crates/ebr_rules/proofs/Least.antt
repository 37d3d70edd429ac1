-- Going from place to place with the least number gives the first rule that is broken.
use Rattle.std.proofs.Common.{◌≡◌, ◌↔◌, ℕ, ◌≤◌, Bool, true, false, ◌&&◌, if◌then◌else◌, List, [], ◌∷◌, Option, Some, None, refl, sym, ap, ◌∙◌, arith}
use Rattle.std.specs.Prelude.{nat_le, min}
use Rattle.std.specs.List.{list_all}
use Rattle.std.proofs.Math.Nat.{min_comm, min-eq_left}
use Rattle.std.proofs.lemmas.Bool.{leb-true}
use Rattle.ebr_validity.specs.Sites.{Site}
use Rattle.ebr_validity.specs.Rules.{Rule, rules, holds, first_broken}
use Rattle.ebr_rules.specs.Noted.{lower, judged, noted}

-- all places at once, rule by rule
abbrev at_all : List Rule → List Site → Option ℕ → Option ℕ
at_all [] ss l = l
at_all (r ∷ rs) ss l = at_all rs ss (lower r.0 (holds r ss) l)

min_swap : (i j k : ℕ) → min (min i j) k ≡ min (min i k) j
min_swap i j k = omega arith

min_again : (i k : ℕ) → min (min i k) k ≡ min i k
min_again i k = omega arith

min_self : (k : ℕ) → min k k ≡ k
min_self k = omega arith

lower_swap : (j k : ℕ) (a b : Bool) (l : Option ℕ) → lower k a (lower j b l) ≡ lower j b (lower k a l)
lower_swap j k true b l = refl
lower_swap j k false true l = refl
lower_swap j k false false None = ap Some (min_comm j k)
lower_swap j k false false (Some i) = ap Some (min_swap i j k)

lower_same : (k : ℕ) (a b : Bool) (l : Option ℕ) → lower k a (lower k b l) ≡ lower k (b && a) l
lower_same k a true l = refl
lower_same k true false l = refl
lower_same k false false None = ap Some (min_self k)
lower_same k false false (Some i) = ap Some (min_again i k)

judged_lower : (rs : List Rule) (s : Site) (k : ℕ) (b : Bool) (l : Option ℕ) → judged rs s (lower k b l) ≡ lower k b (judged rs s l)
judged_lower [] s k b l = refl
judged_lower (r ∷ rs) s k b l = ap (judged rs s) (lower_swap k r.0 (r.1 s) b l) ∙ judged_lower rs s k b (lower r.0 (r.1 s) l)

at_all_more : (rs : List Rule) (s : Site) (ss : List Site) (l : Option ℕ) → at_all rs ss (judged rs s l) ≡ at_all rs (s ∷ ss) l
at_all_more [] s ss l = refl
at_all_more (r ∷ rs) s ss l =
    ap (at_all rs ss) (sym (judged_lower rs s r.0 (holds r ss) (lower r.0 (r.1 s) l)) ∙ ap (judged rs s) (lower_same r.0 (holds r ss) (r.1 s) l))
    ∙ at_all_more rs s ss (lower r.0 (r.1 s && holds r ss) l)

noted_at_all : (ss : List Site) (l : Option ℕ) → noted ss l ≡ at_all rules ss l
noted_at_all [] l = refl
noted_at_all (s ∷ ss) l = noted_at_all ss (judged rules s l) ∙ at_all_more rules s ss l

-- the numbers are in ascending order
abbrev is_below : ℕ → List Rule → Bool
is_below k [] = true
is_below k (r ∷ rs) = if nat_le k r.0 then is_below k rs else false

abbrev is_ascending : List Rule → Bool
is_ascending [] = true
is_ascending (r ∷ rs) = if is_below r.0 rs then is_ascending rs else false

min_below : (j k : ℕ) → nat_le j k ≡ true → min j k ≡ j
min_below j k h =
    let q : j ≤ k = leb-true j k h in
    min-eq_left q

lower_kept : (j k : ℕ) (b : Bool) → nat_le j k ≡ true → lower k b (Some j) ≡ Some j
lower_kept j k true h = refl
lower_kept j k false h = ap Some (min_below j k h)

first_of : (p q : Bool) → (if p then q else false) ≡ true → p ≡ true
first_of true q h = refl
first_of false q h = h

second_of : (p q : Bool) → (if p then q else false) ≡ true → q ≡ true
second_of true q h = h
second_of false q h = cc

at_all_kept : (rs : List Rule) (ss : List Site) (j : ℕ) → is_below j rs ≡ true → at_all rs ss (Some j) ≡ Some j
at_all_kept [] ss j h = refl
at_all_kept (r ∷ rs) ss j h =
    ap (at_all rs ss) (lower_kept j r.0 (holds r ss) (first_of (nat_le j r.0) (is_below j rs) h))
    ∙ at_all_kept rs ss j (second_of (nat_le j r.0) (is_below j rs) h)

one_more : (rs : List Rule) (ss : List Site) (k : ℕ) (b : Bool) → at_all rs ss None ≡ first_broken rs ss → at_all rs ss (Some k) ≡ Some k
    → at_all rs ss (lower k b None) ≡ (if b then first_broken rs ss else Some k)
one_more rs ss k true h g = h
one_more rs ss k false h g = g

at_all_first : (rs : List Rule) (ss : List Site) → is_ascending rs ≡ true → at_all rs ss None ≡ first_broken rs ss
at_all_first [] ss h = refl
at_all_first (r ∷ rs) ss h =
    one_more rs ss r.0 (holds r ss) (at_all_first rs ss (second_of (is_below r.0 rs) (is_ascending rs) h))
    (at_all_kept rs ss r.0 (first_of (is_below r.0 rs) (is_ascending rs) h))

pub noted_first : (ss : List Site) → noted ss None ≡ first_broken rules ss
noted_first ss = noted_at_all ss None ∙ at_all_first rules ss refl

none_where : (b c : Bool) (k : ℕ) (o : Option ℕ) → ((o ≡ None) ↔ (c ≡ true)) → ((if b then o else Some k) ≡ None) ↔ ((b && c) ≡ true)
none_where true c k o h = h
none_where false c k o h = ((λ e. cc), (λ e. cc))

-- there is no number exactly where every rule holds
pub none_first : (rs : List Rule) (ss : List Site) → (first_broken rs ss ≡ None) ↔ (list_all (λ (r : Rule). holds r ss) rs ≡ true)
none_first [] ss = ((λ e. refl), (λ e. refl))
none_first (r ∷ rs) ss = none_where (holds r ss) (list_all (λ q. holds q ss) rs) r.0 (first_broken rs ss) (none_first rs ss)
