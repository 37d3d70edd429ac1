-- What is read is spelled so, and what is spelled so is read.
use Rattle.std.proofs.Common.{◌≡◌, ℕ, zero, suc, ◌≤◌, ◌<◌, Bool, true, false, List, [], ◌∷◌, ◌++◌, length, Option, Some, None, refl, sym, ap, subst, ◌∙◌, inl, inr, append_assoc, arith}
use Rattle.std.specs.Prelude.{not, ◌&&◌, if◌then◌else◌, ◌⊎◌}
use Rattle.std.proofs.lemmas.List.{append-nil, length-append}
use Rattle.ebr_grammar.specs.declared.kind.Kind.{Kind}
use Rattle.ebr_lexer.specs.declared.token.Token.{Token}
use Rattle.ebr_grammar.specs.Kinds.{kind_of, member}
use Rattle.ebr_grammar.specs.Forms.{Form, Found, Reader, sees}
use Rattle.ebr_grammar.specs.Grammar.{Production, token, word, nothing, both, or, many, made, tested, led, named, outer, SpellsEach, Spells}
use Rattle.ebr_grammar.specs.Reading.{and_then, before, next, read_token, read_word, Hints, nullable, first, repeat, reads}
use Rattle.ebr_grammar.specs.Choice.{apart, among, after, is_clear}
use Rattle.ebr_grammar.proofs.Right.{foreign, AreRight, halves}
use Rattle.ebr_grammar.proofs.Next.{and_true, not_true, not_both, sees-append, sees_left, sees_right, sees_neither, sees-apart, sees-among}

-- ---- steps

pub bind_some : {A B : Type 0} (r : Found A) (f : A → Reader B) (y : B × List Token) → and_then r f ≡ Some y → (x : A × List Token) × (r ≡ Some x) × (f x.0 x.1 ≡ Some y)
bind_some None f y e = absurd cc
bind_some (Some x) f y e = (x, refl, e)

pub some_is : {A : Type 0} (x y : A) → Some x ≡ Some y → x ≡ y
some_is x y e = cc

pub if_some : {A : Type 0} (b : Bool) (x : A) (y : A) → (if b then Some x else None) ≡ Some y → (b ≡ true) × (x ≡ y)
if_some true x y e = (refl, some_is x y e)
if_some false x y e = absurd cc

pub which : {A : Type 0} (b : Bool) (x y z : A) → (if b then x else y) ≡ z → ((b ≡ true) × (x ≡ z)) ⊎ ((b ≡ false) × (y ≡ z))
which true x y z e = inl (refl, e)
which false x y z e = inr (refl, e)

-- the first part is not empty, or the second begins
first_then : (b : Bool) (xs ys : List Kind) (ts : List Token) → sees xs ts ≡ true → sees (if b then xs ++ ys else xs) ts ≡ true
first_then true xs ys ts e = sees_left xs ys ts e
first_then false xs ys ts e = e

then_first : (b : Bool) (xs ys : List Kind) (ts : List Token) → b ≡ true → sees ys ts ≡ true → sees (if b then xs ++ ys else xs) ts ≡ true
then_first true xs ys ts b-is e = sees_right xs ys ts e
then_first false xs ys ts b-is e = absurd cc

if_both : (a b : Bool) → a ≡ true → b ≡ true → (if a then b else false) ≡ true
if_both true b p q = q
if_both false b p q = absurd cc

if_left : (a b : Bool) → a ≡ true → (if a then true else b) ≡ true
if_left true b p = refl
if_left false b p = absurd cc

if_right : (a b : Bool) → b ≡ true → (if a then true else b) ≡ true
if_right true b p = refl
if_right false b p = p

-- ---- how a spelling begins

abbrev BeginsAmong : List Kind → Bool → List Token → Type 0
BeginsAmong kinds b ts = (sees kinds ts ≡ true) ⊎ ((b ≡ true) × (ts ≡ []))

begun_token : (kinds : List Kind) (ts : List Token) (t : Token) → ts ≡ t ∷ [] → member (kind_of t) kinds ≡ true → sees kinds ts ≡ true
unfolding sees
begun_token kinds ts t e m = subst (λ (x : List Token). sees kinds x ≡ true) (sym e) m

begun_each : {A : Type 0} (F : Form A) (kinds : List Kind) (b : Bool) → ((ts : List Token) (a : A) → F ts a → BeginsAmong kinds b ts)
    → (all : List A) (ts : List Token) → SpellsEach F all ts → BeginsAmong kinds true ts
begun_each F kinds b h [] ts s = inr (refl, s)
begun_each F kinds b h (a ∷ all) ts s =
    elim (h s.0 a s.3) [
      | inl seen ↦ inl (subst (λ (z : List Token). sees kinds z ≡ true) (sym s.2) (sees-append kinds s.0 s.1 seen))
      | inr none ↦
          let e : ts ≡ s.1 = s.2 ∙ ap (λ (z : List Token). z ++ s.1) none.1 in
          subst (λ (z : List Token). BeginsAmong kinds true z) (sym e) (begun_each F kinds b h all s.1 s.4)
    ]

module _ {K : Type 0} {V : K → Type 0} (hints : Hints K) (given : (k : K) → Form (V k)) (starts : (k : K) (ts : List Token) (a : V k) → given k ts a → sees (hints.begins k) ts ≡ true) where
  pub begun : {C : Type 0} (g : Production K V C) → is_clear hints g ≡ true → AreRight (foreign g) → (ts : List Token) (c : C) → Spells given g ts c → (sees (first hints g) ts ≡ true) ⊎ ((nullable hints g ≡ true) × (ts ≡ []))
  begun (token kinds f) clear right ts c s = inl (begun_token kinds ts s.0 s.1 s.2)
  begun (word kind c') clear right ts c s = inl (begun_token (kind ∷ []) ts s.0 s.1 s.2)
  begun (nothing x) clear right ts c s = inr (refl, s.0)
  begun (both f g h) clear right ts c s =
      let rights = halves (foreign g) (foreign h) right in
      let p = and_true (is_clear hints g) (is_clear hints h && apart (after hints g) (first hints h)) clear in
      let q = and_true (is_clear hints h) (apart (after hints g) (first hints h)) p.1 in
      begun_both (nullable hints g) (nullable hints h) (first hints g) (first hints h) ts s.0 s.1 s.4 (begun g p.0 rights.0 s.0 s.2 s.5) (begun h q.0 rights.1 s.1 s.3 s.6)
    where
      begun_both : (m n : Bool) (xs ys : List Kind) (ts x y : List Token) → ts ≡ x ++ y → BeginsAmong xs m x → BeginsAmong ys n y → BeginsAmong (if m then xs ++ ys else xs) (if m then n else false) ts
      begun_both m n xs ys ts x y e (inl p) q = inl (first_then m xs ys ts (subst (λ (z : List Token). sees xs z ≡ true) (sym e) (sees-append xs x y p)))
      begun_both m n xs ys ts x y e (inr p) (inl q) = inl (then_first m xs ys ts p.0 (subst (λ (z : List Token). sees ys z ≡ true) (sym (e ∙ ap (λ (z : List Token). z ++ y) p.1)) q))
      begun_both m n xs ys ts x y e (inr p) (inr q) = inr (if_both m n p.0 q.0, e ∙ ap (λ (z : List Token). z ++ y) p.1 ∙ q.1)
  begun (or g h) clear right ts c (inl s) =
      let rights = halves (foreign g) (foreign h) right in
      let p = and_true (is_clear hints g) (is_clear hints h && (not (nullable hints g) && apart (first hints g) (first hints h))) clear in
      elim (begun g p.0 rights.0 ts c s) [ inl seen ↦ inl (sees_left _ _ ts seen) | inr none ↦ inr (if_left _ _ none.0, none.1) ]
  begun (or g h) clear right ts c (inr s) =
      let rights = halves (foreign g) (foreign h) right in
      let p = and_true (is_clear hints g) (is_clear hints h && (not (nullable hints g) && apart (first hints g) (first hints h))) clear in
      let q = and_true (is_clear hints h) (not (nullable hints g) && apart (first hints g) (first hints h)) p.1 in
      elim (begun h q.0 rights.1 ts c s) [ inl seen ↦ inl (sees_right _ _ ts seen) | inr none ↦ inr (if_right _ _ none.0, none.1) ]
  begun (many f g) clear right ts c s =
      let p = and_true (is_clear hints g) (not (nullable hints g) && apart (after hints g) (first hints g)) clear in
      begun_each (Spells given g) (first hints g) (nullable hints g) (begun g p.0 right) s.0 ts s.1
  begun (made f g) clear right ts c s = begun g clear right ts s.0 s.1
  begun (tested f g) clear right ts c s = begun g clear right ts s.0 s.1
  begun (led kinds g) clear right ts c s =
      let p = and_true (is_clear hints g) (not (nullable hints g) && among (first hints g) kinds) clear in
      let q = and_true (not (nullable hints g)) (among (first hints g) kinds) p.1 in
      elim (begun g p.0 right ts c s) [ inl seen ↦ inl (sees-among (first hints g) kinds ts q.1 seen) | inr none ↦ absurd (not_both (nullable hints g) none.0 (not_true _ q.0)) ]
  begun (named k f) clear right ts c s = inl (starts k ts s.0 s.1)
  begun (outer o f) clear right ts c s = inl (right.0.begun ts s.0 s.1)

-- ---- what is read is spelled so

-- the front of what was read, which the form says
abbrev Front : {A : Type 0} → Form A → List Token → A × List Token → Type 0
Front F ts x = (front : List Token) × (ts ≡ front ++ x.1) × F front x.0

before_some : {A : Type 0} (ts : List Token) (v : Option A) (x : A × List Token) → before ts v ≡ Some x → (v ≡ Some x.0) × (ts ≡ x.1)
before_some ts None x e = absurd cc
before_some ts (Some a) x e = (ap (λ (z : _ × List Token). Some z.0) (some_is (a, ts) x e), ap (λ (z : _ × List Token). z.1) (some_is (a, ts) x e))

if_before : {A : Type 0} (b : Bool) (ts : List Token) (v : Option A) (x : A × List Token) → (if b then before ts v else None) ≡ Some x → (b ≡ true) × (v ≡ Some x.0) × (ts ≡ x.1)
if_before true ts None x e = absurd cc
if_before true ts (Some a) x e = (refl, ap (λ (z : _ × List Token). Some z.0) (some_is (a, ts) x e), ap (λ (z : _ × List Token). z.1) (some_is (a, ts) x e))
if_before false ts v x e = absurd cc

sound_token : {C : Type 0} (kinds : List Kind) (f : Token → Option C) (ts : List Token) (x : C × List Token) → read_token kinds f ts ≡ Some x
    → Front (λ front c. (t : Token) × (front ≡ t ∷ []) × (member (kind_of t) kinds ≡ true) × (f t ≡ Some c)) ts x
unfolding read_token
sound_token kinds f [] x e = absurd cc
sound_token kinds f (t ∷ ts) x e =
    let p = if_before (member (kind_of t) kinds) ts (f t) x e in
    (t ∷ [], ap (λ z. t ∷ z) p.2, (t, refl, p.0, p.1))

sound_word : {C : Type 0} (kind : Kind) (c : C) (ts : List Token) (x : C × List Token) → read_word kind c ts ≡ Some x
    → Front (λ front d. (t : Token) × (front ≡ t ∷ []) × (member (kind_of t) (kind ∷ []) ≡ true) × (c ≡ d)) ts x
unfolding sees next
sound_word kind c [] x e = absurd cc
sound_word kind c (t ∷ ts) x e =
    let p = if_some (member (kind_of t) (kind ∷ [])) (c, ts) x e in
    (t ∷ [], ap (λ z. t ∷ z) (ap (λ (z : _ × List Token). z.1) p.1), (t, refl, p.0, ap (λ (z : _ × List Token). z.0) p.1))

-- the trees from the last on
sound_each : {A : Type 0} (F : Form A) (kinds : List Kind) (r : Reader A) → ((ts : List Token) (x : A × List Token) → r ts ≡ Some x → Front F ts x)
    → (n : ℕ) (found : List A) (ts : List Token) (x : List A × List Token) → repeat kinds r n found ts ≡ Some x
    → (more : List A) × (x.0 ≡ found ++ more) × Front (λ front all. SpellsEach F all front) ts (more, x.1)
unfolding repeat
sound_each F kinds r h zero found ts x e =
    let p = some_is (found, ts) x e in
    ([], ap (λ (z : List _ × List Token). z.0) (sym p) ∙ sym (append-nil found), ([], ap (λ (z : List _ × List Token). z.1) p, refl))
sound_each F kinds r h (suc n) found ts x e =
    elim (which (sees kinds ts) (and_then (r ts) (λ a. repeat kinds r n (found ++ a ∷ []))) (Some (found, ts)) (Some x) e) [
      | inl step ↦
          let p = bind_some (r ts) (λ a. repeat kinds r n (found ++ a ∷ [])) x step.1 in
          let one = h ts p.0 p.1 in
          let rest = sound_each F kinds r h n (found ++ p.0.0 ∷ []) p.0.1 x p.2 in (
            p.0.0 ∷ rest.0,
            rest.1 ∙ append_assoc found (p.0.0 ∷ []) rest.0,
            (one.0 ++ rest.2.0, one.1 ∙ ap (λ (z : List Token). one.0 ++ z) rest.2.1 ∙ sym (append_assoc one.0 rest.2.0 x.1), (one.0, rest.2.0, refl, one.2, rest.2.2)),
          )
      | inr step ↦
          let p = some_is (found, ts) x step.1 in
          ([], ap (λ (z : List _ × List Token). z.0) (sym p) ∙ sym (append-nil found), ([], ap (λ (z : List _ × List Token). z.1) p, refl))
    ]

module _ {K : Type 0} {V : K → Type 0} (hints : Hints K) (given : (k : K) → Form (V k)) (at : (k : K) → Reader (V k))
    (sounds : (k : K) (ts : List Token) (x : V k × List Token) → at k ts ≡ Some x → (front : List Token) × (ts ≡ front ++ x.1) × given k front x.0) where
  pub sound : {C : Type 0} (g : Production K V C) → AreRight (foreign g) → (ts : List Token) (x : C × List Token) → reads hints at g ts ≡ Some x → (front : List Token) × (ts ≡ front ++ x.1) × Spells given g front x.0
  unfolding reads
  sound (token kinds f) right ts x e = sound_token kinds f ts x e
  sound (word kind c) right ts x e = sound_word kind c ts x e
  sound (nothing c) right ts x e =
      let p = some_is (c, ts) x e in
      ([], ap (λ (z : _ × List Token). z.1) p, (refl, ap (λ (z : _ × List Token). z.0) p))
  sound (both f g h) right ts x e =
      let rights = halves (foreign g) (foreign h) right in
      let p = bind_some (reads hints at g ts) (λ a rest. and_then (reads hints at h rest) (λ b end. Some (f a b, end))) x e in
      let q = bind_some (reads hints at h p.0.1) (λ b end. Some (f p.0.0 b, end)) x p.2 in
      let one = sound g rights.0 ts p.0 p.1 in
      let two = sound h rights.1 p.0.1 q.0 q.1 in
      let is = some_is (f p.0.0 q.0.0, q.0.1) x q.2 in (
        one.0 ++ two.0,
        one.1 ∙ ap (λ (z : List Token). one.0 ++ z) two.1 ∙ sym (append_assoc one.0 two.0 q.0.1) ∙ ap (λ (z : _ × List Token). (one.0 ++ two.0) ++ z.1) is,
        (one.0, two.0, p.0.0, q.0.0, refl, one.2, two.2, ap (λ (z : _ × List Token). z.0) is),
      )
  sound (or g h) right ts x e =
      let rights = halves (foreign g) (foreign h) right in
      elim (which (sees (first hints g) ts) (reads hints at g ts) (reads hints at h ts) (Some x) e) [
        | inl p ↦ let one = sound g rights.0 ts x p.1 in (one.0, one.1, inl one.2)
        | inr p ↦ let one = sound h rights.1 ts x p.1 in (one.0, one.1, inr one.2)
      ]
  sound (many f g) right ts x e =
      let p = bind_some (repeat (first hints g) (reads hints at g) (length ts) [] ts) (λ found end. Some (f found, end)) x e in
      let all = sound_each (Spells given g) (first hints g) (reads hints at g) (sound g right) (length ts) [] ts p.0 p.1 in
      let is = some_is (f p.0.0, p.0.1) x p.2 in
      (all.2.0, all.2.1 ∙ ap (λ (z : _ × List Token). all.2.0 ++ z.1) is, (all.0, all.2.2, ap f (sym all.1) ∙ ap (λ (z : _ × List Token). z.0) is))
  sound (made f g) right ts x e =
      let p = bind_some (reads hints at g ts) (λ a end. Some (f a, end)) x e in
      let one = sound g right ts p.0 p.1 in
      let is = some_is (f p.0.0, p.0.1) x p.2 in
      (one.0, one.1 ∙ ap (λ (z : _ × List Token). one.0 ++ z.1) is, (p.0.0, one.2, ap (λ (z : _ × List Token). z.0) is))
  sound (tested f g) right ts x e =
      let p = bind_some (reads hints at g ts) (λ a end. before end (f a)) x e in
      let one = sound g right ts p.0 p.1 in
      let is = before_some p.0.1 (f p.0.0) x p.2 in
      (one.0, one.1 ∙ ap (λ (z : List Token). one.0 ++ z) is.1, (p.0.0, one.2, is.0))
  sound (led kinds g) right ts x e = sound g right ts x e
  sound (named k f) right ts x e =
      let p = bind_some (at k ts) (λ a end. Some (f a, end)) x e in
      let one = sounds k ts p.0 p.1 in
      let is = some_is (f p.0.0, p.0.1) x p.2 in
      (one.0, one.1 ∙ ap (λ (z : _ × List Token). one.0 ++ z.1) is, (p.0.0, one.2, ap (λ (z : _ × List Token). z.0) is))
  sound (outer o f) right ts x e =
      let p = bind_some (o.reader ts) (λ a end. Some (f a, end)) x e in
      let one = right.0.sound ts p.0 p.1 in
      let is = some_is (f p.0.0, p.0.1) x p.2 in
      (one.0, one.1 ∙ ap (λ (z : _ × List Token). one.0 ++ z.1) is, (p.0.0, one.2, ap (λ (z : _ × List Token). z.0) is))

-- ---- what is spelled so is read

complete_token : {C : Type 0} (kinds : List Kind) (f : Token → Option C) (front rest : List Token) (c : C) (t : Token) → front ≡ t ∷ [] → member (kind_of t) kinds ≡ true → f t ≡ Some c
    → read_token kinds f (front ++ rest) ≡ Some (c, rest)
unfolding read_token
complete_token kinds f front rest c t e m is = rw (e, m, is) refl

complete_word : {C : Type 0} (kind : Kind) (d : C) (front rest : List Token) (c : C) (t : Token) → front ≡ t ∷ [] → member (kind_of t) (kind ∷ []) ≡ true → d ≡ c
    → read_word kind d (front ++ rest) ≡ Some (c, rest)
unfolding sees next
complete_word kind d front rest c t e m is = rw (e, m, is) refl

then_both : {A B C : Type 0} (r : Found A) (k : Reader B) (f : A → B → C) (a : A) (mid : List Token) (b : B) (rest : List Token) (c : C) → r ≡ Some (a, mid) → k mid ≡ Some (b, rest) → f a b ≡ c
    → and_then r (λ a mid. and_then (k mid) (λ b end. Some (f a b, end))) ≡ Some (c, rest)
then_both r k f a mid b rest c p q is = rw (p, q, is) refl

then_made : {A C : Type 0} (r : Found A) (f : A → C) (a : A) (rest : List Token) (c : C) → r ≡ Some (a, rest) → f a ≡ c → and_then r (λ a end. Some (f a, end)) ≡ Some (c, rest)
then_made r f a rest c p is = rw (p, is) refl

then_tested : {A C : Type 0} (r : Found A) (f : A → Option C) (a : A) (rest : List Token) (c : C) → r ≡ Some (a, rest) → f a ≡ Some c → and_then r (λ a end. before end (f a)) ≡ Some (c, rest)
then_tested r f a rest c p is = rw (p, is) refl

pub take_first : {A : Type 0} (b : Bool) (x y z : A) → b ≡ true → x ≡ z → (if b then x else y) ≡ z
take_first true x y z b-is e = e
take_first false x y z b-is e = absurd cc

pub take_second : {A : Type 0} (b : Bool) (x y z : A) → b ≡ false → y ≡ z → (if b then x else y) ≡ z
take_second true x y z b-is e = absurd cc
take_second false x y z b-is e = e

follow_both : (n : Bool) (xs ys : List Kind) (rest : List Token) → sees (if n then xs ++ ys else xs) rest ≡ false → (sees xs rest ≡ false) × (n ≡ true → sees ys rest ≡ false)
follow_both true xs ys rest e = let p = sees_neither xs ys rest e in (p.0, λ _. p.1)
follow_both false xs ys rest e = (e, λ is. absurd cc)

follow_or : (n : Bool) (xs ys zs : List Kind) (rest : List Token) → sees (if n then xs ++ (ys ++ zs) else xs ++ ys) rest ≡ false
    → (sees xs rest ≡ false) × (sees ys rest ≡ false) × (n ≡ true → sees zs rest ≡ false)
follow_or true xs ys zs rest e = let p = sees_neither xs (ys ++ zs) rest e in let q = sees_neither ys zs rest p.1 in (p.0, q.0, λ _. q.1)
follow_or false xs ys zs rest e = let p = sees_neither xs ys rest e in (p.0, p.1, λ is. absurd cc)

-- what comes next is not what the first part goes on with
unseen_after : (b : Bool) (goes begins : List Kind) (y rest : List Token) → apart goes begins ≡ true → BeginsAmong begins b y → (b ≡ true → sees goes rest ≡ false) → sees goes (y ++ rest) ≡ false
unseen_after b goes begins y rest e (inl seen) h = sees-apart goes begins (y ++ rest) e (sees-append begins y rest seen)
unseen_after b goes begins y rest e (inr none) h = subst (λ (z : List Token). sees goes (z ++ rest) ≡ false) (sym none.1) (h none.0)

pub begun_first : (kinds : List Kind) (b : Bool) (ts : List Token) → b ≡ false → BeginsAmong kinds b ts → sees kinds ts ≡ true
begun_first kinds b ts e (inl seen) = seen
begun_first kinds b ts e (inr none) = absurd (not_both b none.0 e)

pub sees-length : (kinds : List Kind) (ts : List Token) → sees kinds ts ≡ true → 0 < length ts
unfolding sees
sees-length kinds [] e = absurd cc
sees-length kinds (t ∷ ts) e = omega arith

pub repeat-stops : {A : Type 0} (kinds : List Kind) (r : Reader A) (n : ℕ) (found : List A) (ts : List Token) → sees kinds ts ≡ false → repeat kinds r n found ts ≡ Some (found, ts)
unfolding repeat
repeat-stops kinds r zero found ts e = refl
repeat-stops kinds r (suc n) found ts e = take_second (sees kinds ts) (and_then (r ts) (λ a. repeat kinds r n (found ++ a ∷ []))) (Some (found, ts)) (Some (found, ts)) e refl

pub repeat-goes_on : {A : Type 0} (kinds : List Kind) (r : Reader A) (n : ℕ) (found : List A) (ts : List Token) (a : A) (mid : List Token) (z : Found (List A)) → sees kinds ts ≡ true → r ts ≡ Some (a, mid)
    → repeat kinds r n (found ++ a ∷ []) mid ≡ z → repeat kinds r (suc n) found ts ≡ z
unfolding repeat
repeat-goes_on kinds r n found ts a mid z e p q = take_first (sees kinds ts) (and_then (r ts) (λ a. repeat kinds r n (found ++ a ∷ []))) (Some (found, ts)) z e (rw p q)

module _ {A : Type 0} (F : Form A) (kinds goes : List Kind) (r : Reader A) (begins : (ts : List Token) (a : A) → F ts a → sees kinds ts ≡ true)
    (one : (front rest : List Token) (a : A) → F front a → sees goes rest ≡ false → r (front ++ rest) ≡ Some (a, rest)) (clear : apart goes kinds ≡ true) where
  complete_each : (n : ℕ) (found all : List A) (front rest : List Token) → length front ≤ n → SpellsEach F all front → sees goes rest ≡ false → sees kinds rest ≡ false
      → repeat kinds r n found (front ++ rest) ≡ Some (found ++ all, rest)
  complete_each n found [] front rest len s no_more no_next =
      ap (λ (z : List Token). repeat kinds r n found (z ++ rest)) s ∙ repeat-stops kinds r n found rest no_next ∙ ap (λ z. Some (z, rest)) (sym (append-nil found))
  complete_each zero found (a ∷ all) front rest len s no_more no_next =
      let some = sees-length kinds s.0 (begins s.0 a s.3) in
      absurd (omega (arith, some, ap length s.2, length-append s.0 s.1))
  complete_each (suc n) found (a ∷ all) front rest len s no_more no_next =
      let some = sees-length kinds s.0 (begins s.0 a s.3) in
      let shorter : length s.1 ≤ n = omega (arith, some, ap length s.2, length-append s.0 s.1) in
      let begun_rest = begun_each F kinds false (λ ts a s. inl (begins ts a s)) all s.1 s.4 in
      let first_one = one s.0 (s.1 ++ rest) a s.3 (unseen_after true goes kinds s.1 rest clear begun_rest (λ _. no_more)) in
      let seen = sees-append kinds s.0 (s.1 ++ rest) (begins s.0 a s.3) in
      let later = complete_each n (found ++ a ∷ []) all s.1 rest shorter s.4 no_more no_next in
      ap (λ (z : List Token). repeat kinds r (suc n) found (z ++ rest)) s.2
      ∙ ap (repeat kinds r (suc n) found) (append_assoc s.0 s.1 rest)
      ∙ repeat-goes_on kinds r n found (s.0 ++ (s.1 ++ rest)) a (s.1 ++ rest) (Some ((found ++ a ∷ []) ++ all, rest)) seen first_one later
      ∙ ap (λ z. Some (z, rest)) (append_assoc found (a ∷ []) all)

module _ {K : Type 0} {V : K → Type 0} (hints : Hints K) (given : (k : K) → Form (V k)) (at : (k : K) → Reader (V k))
    (starts : (k : K) (ts : List Token) (a : V k) → given k ts a → sees (hints.begins k) ts ≡ true)
    (completes : (k : K) (front rest : List Token) (a : V k) → given k front a → sees (hints.goes_on k) rest ≡ false → at k (front ++ rest) ≡ Some (a, rest)) where
  pub complete : {C : Type 0} (g : Production K V C) → is_clear hints g ≡ true → AreRight (foreign g) → (front rest : List Token) (c : C) → Spells given g front c → sees (after hints g) rest ≡ false
      → reads hints at g (front ++ rest) ≡ Some (c, rest)
  unfolding reads
  complete (token kinds f) clear right front rest c s stop = complete_token kinds f front rest c s.0 s.1 s.2 s.3
  complete (word kind d) clear right front rest c s stop = complete_word kind d front rest c s.0 s.1 s.2 s.3
  complete (nothing x) clear right front rest c s stop = ap (λ (z : List Token). Some (x, z ++ rest)) s.0 ∙ ap (λ z. Some (z, rest)) s.1
  complete (both f g h) clear right front rest c s stop =
      let rights = halves (foreign g) (foreign h) right in
      let p = and_true _ _ clear in
      let q = and_true _ _ p.1 in
      let follow = follow_both (nullable hints h) (after hints h) (after hints g) rest stop in
      let unseen = unseen_after (nullable hints h) (after hints g) (first hints h) s.1 rest q.1 (begun hints given starts h q.0 rights.1 s.1 s.3 s.6) follow.1 in
      let one = complete g p.0 rights.0 s.0 (s.1 ++ rest) s.2 s.5 unseen in
      let two = complete h q.0 rights.1 s.1 rest s.3 s.6 follow.0 in
      ap (λ (z : List Token). reads hints at (both f g h) z) (ap (λ (z : List Token). z ++ rest) s.4 ∙ append_assoc s.0 s.1 rest)
      ∙ then_both (reads hints at g (s.0 ++ (s.1 ++ rest))) (reads hints at h) f s.2 (s.1 ++ rest) s.3 rest c one two s.7
  complete (or g h) clear right front rest c (inl s) stop =
      let rights = halves (foreign g) (foreign h) right in
      let p = and_true _ _ clear in
      let q = and_true _ _ p.1 in
      let r = and_true _ _ q.1 in
      let follow = follow_or (nullable hints h) (after hints g) (after hints h) (first hints g) rest stop in
      let seen = sees-append (first hints g) front rest (begun_first (first hints g) (nullable hints g) front (not_true _ r.0) (begun hints given starts g p.0 rights.0 front c s)) in
      take_first (sees (first hints g) (front ++ rest)) (reads hints at g (front ++ rest)) (reads hints at h (front ++ rest)) (Some (c, rest)) seen (complete g p.0 rights.0 front rest c s follow.0)
  complete (or g h) clear right front rest c (inr s) stop =
      let rights = halves (foreign g) (foreign h) right in
      let p = and_true _ _ clear in
      let q = and_true _ _ p.1 in
      let r = and_true _ _ q.1 in
      let follow = follow_or (nullable hints h) (after hints g) (after hints h) (first hints g) rest stop in
      let unseen = unseen_after (nullable hints h) (first hints g) (first hints h) front rest r.1 (begun hints given starts h q.0 rights.1 front c s) follow.2 in
      take_second (sees (first hints g) (front ++ rest)) (reads hints at g (front ++ rest)) (reads hints at h (front ++ rest)) (Some (c, rest)) unseen (complete h q.0 rights.1 front rest c s follow.1)
  complete (many f g) clear right front rest c s stop =
      let p = and_true _ _ clear in
      let q = and_true _ _ p.1 in
      let follow = sees_neither (after hints g) (first hints g) rest stop in
      let begins = λ (ts : List Token) (a : _) (s : Spells given g ts a). begun_first (first hints g) (nullable hints g) ts (not_true _ q.0) (begun hints given starts g p.0 right ts a s) in
      let all = complete_each (Spells given g) (first hints g) (after hints g) (reads hints at g) begins (complete g p.0 right) q.1 (length (front ++ rest)) [] s.0 front rest (omega (arith, length-append front rest)) s.1 follow.0 follow.1 in
      then_made (repeat (first hints g) (reads hints at g) (length (front ++ rest)) [] (front ++ rest)) f s.0 rest c all s.2
  complete (made f g) clear right front rest c s stop = then_made (reads hints at g (front ++ rest)) f s.0 rest c (complete g clear right front rest s.0 s.1 stop) s.2
  complete (tested f g) clear right front rest c s stop = then_tested (reads hints at g (front ++ rest)) f s.0 rest c (complete g clear right front rest s.0 s.1 stop) s.2
  complete (led kinds g) clear right front rest c s stop = complete g (and_true _ _ clear).0 right front rest c s stop
  complete (named k f) clear right front rest c s stop = then_made (at k (front ++ rest)) f s.0 rest c (completes k front rest s.0 s.1 stop) s.2
  complete (outer o f) clear right front rest c s stop = then_made (o.reader (front ++ rest)) f s.0 rest c (right.0.complete front rest s.0 s.1 stop) s.2
