-- A derivation need be no higher than the tokens are many, and the laws of a grammar whose productions are sound.
use Rattle.std.proofs.Common.{◌≡◌, ℕ, zero, suc, ◌≤◌, Bool, true, false, List, [], ◌∷◌, ◌++◌, length, Some, refl, ap, inl, inr, arith}
use Rattle.std.specs.Prelude.{not, ◌&&◌, if◌then◌else◌, ◌⊎◌}
use Rattle.std.proofs.lemmas.List.{length-append}
use Rattle.ebr_lexer.specs.declared.token.Token.{Token}
use Rattle.ebr_grammar.specs.Forms.{Form, sees}
use Rattle.ebr_grammar.specs.Grammar.{Production, token, word, nothing, both, or, many, made, tested, led, named, outer, SpellsEach, Spells, SpellsWithin, SpellsAny}
use Rattle.ebr_grammar.specs.Reading.{Hints, nullable, first, reads_within}
use Rattle.ebr_grammar.specs.Choice.{apart, among, after, is_clear, is_guarded, is_sound}
use Rattle.ebr_grammar.proofs.Next.{and_true, not_true, sees-among, unseen-among}
use Rattle.ebr_grammar.proofs.Right.{IsReader, foreign, AreRight, halves}
use Rattle.ebr_grammar.proofs.Laws.{begun, begun_first, sees-length, sound, complete}

weaker_each : {A : Type 0} (n : ℕ) (F G : Form A) → ((ts : List Token) (a : A) → length ts ≤ n → F ts a → G ts a) → (all : List A) (ts : List Token) → length ts ≤ n → SpellsEach F all ts → SpellsEach G all ts
weaker_each n F G h [] ts len s = s
weaker_each n F G h (a ∷ all) ts len s =
    let first_len : length s.0 ≤ n = omega (arith, ap length s.2, length-append s.0 s.1) in
    let rest_len : length s.1 ≤ n = omega (arith, ap length s.2, length-append s.0 s.1) in
    (s.0, s.1, s.2, h s.0 a first_len s.3, weaker_each n F G h all s.1 rest_len s.4)

module _ {K : Type 0} {V : K → Type 0} (hints : Hints K) (n : ℕ) (P Q : (k : K) → Form (V k)) (h : (k : K) (ts : List Token) (a : V k) → length ts ≤ n → P k ts a → Q k ts a)
    (starts : (k : K) (ts : List Token) (a : V k) → P k ts a → sees (hints.begins k) ts ≡ true) where
  pub weaker : {C : Type 0} (g : Production K V C) (ts : List Token) (c : C) → length ts ≤ n → Spells P g ts c → Spells Q g ts c
  weaker (token kinds f) ts c len s = s
  weaker (word kind d) ts c len s = s
  weaker (nothing x) ts c len s = s
  weaker (both f g h) ts c len s =
      let first_len : length s.0 ≤ n = omega (arith, ap length s.4, length-append s.0 s.1) in
      let rest_len : length s.1 ≤ n = omega (arith, ap length s.4, length-append s.0 s.1) in
      (s.0, s.1, s.2, s.3, s.4, weaker g s.0 s.2 first_len s.5, weaker h s.1 s.3 rest_len s.6, s.7)
  weaker (or g h) ts c len (inl s) = inl (weaker g ts c len s)
  weaker (or g h) ts c len (inr s) = inr (weaker h ts c len s)
  weaker (many f g) ts c len s = (s.0, weaker_each n (Spells P g) (Spells Q g) (weaker g) s.0 ts len s.1, s.2)
  weaker (made f g) ts c len s = (s.0, weaker g ts s.0 len s.1, s.2)
  weaker (tested f g) ts c len s = (s.0, weaker g ts s.0 len s.1, s.2)
  weaker (led kinds g) ts c len s = weaker g ts c len s
  weaker (named k f) ts c len s = (s.0, h k ts s.0 len s.1, s.2)
  weaker (outer o f) ts c len s = s

  if_guarded : (b c : Bool) → (if b then c else true) ≡ true → (b ≡ false) ⊎ ((b ≡ true) × (c ≡ true))
  if_guarded true c e = inr (refl, e)
  if_guarded false c e = inl refl

  guarded_each : {A : Type 0} (g : Production K V A) → ((ts : List Token) (a : A) → length ts ≤ suc n → Spells P g ts a → Spells Q g ts a) → is_clear hints g ≡ true → AreRight (foreign g) → nullable hints g ≡ false
      → (all : List A) (ts : List Token) → length ts ≤ suc n → SpellsEach (Spells P g) all ts → SpellsEach (Spells Q g) all ts
  guarded_each g hyp clear right full [] ts len s = s
  guarded_each g hyp clear right full (a ∷ all) ts len s =
      let some = sees-length (first hints g) s.0 (begun_first (first hints g) (nullable hints g) s.0 full (begun hints P starts g clear right s.0 a s.3)) in
      let first_len : length s.0 ≤ suc n = omega (arith, ap length s.2, length-append s.0 s.1) in
      let rest_len : length s.1 ≤ n = omega (arith, some, ap length s.2, length-append s.0 s.1) in
      (s.0, s.1, s.2, hyp s.0 a first_len s.3, weaker_each n (Spells P g) (Spells Q g) (weaker g) all s.1 rest_len s.4)

  guarded : {C : Type 0} (g : Production K V C) → is_guarded hints g ≡ true → is_clear hints g ≡ true → AreRight (foreign g) → (ts : List Token) (c : C) → length ts ≤ suc n → Spells P g ts c → Spells Q g ts c
  guarded (token kinds f) ok clear right ts c len s = s
  guarded (word kind d) ok clear right ts c len s = s
  guarded (nothing x) ok clear right ts c len s = s
  guarded (both f g h) ok clear right ts c len s =
      let rights = halves (foreign g) (foreign h) right in
      let p = and_true (is_guarded hints g) (if nullable hints g then is_guarded hints h else true) ok in
      let q = and_true (is_clear hints g) (is_clear hints h && apart (after hints g) (first hints h)) clear in
      let r = and_true (is_clear hints h) (apart (after hints g) (first hints h)) q.1 in
      let first_len : length s.0 ≤ suc n = omega (arith, ap length s.4, length-append s.0 s.1) in
      let one = guarded g p.0 q.0 rights.0 s.0 s.2 first_len s.5 in
      elim (if_guarded (nullable hints g) (is_guarded hints h) p.1) [
        | inl full ↦
            let some = sees-length (first hints g) s.0 (begun_first (first hints g) (nullable hints g) s.0 full (begun hints P starts g q.0 rights.0 s.0 s.2 s.5)) in
            let rest_len : length s.1 ≤ n = omega (arith, some, ap length s.4, length-append s.0 s.1) in
            (s.0, s.1, s.2, s.3, s.4, one, weaker h s.1 s.3 rest_len s.6, s.7)
        | inr too ↦
            let rest_len : length s.1 ≤ suc n = omega (arith, ap length s.4, length-append s.0 s.1) in
            (s.0, s.1, s.2, s.3, s.4, one, guarded h too.1 r.0 rights.1 s.1 s.3 rest_len s.6, s.7)
      ]
  guarded (or g h) ok clear right ts c len (inl s) =
      let rights = halves (foreign g) (foreign h) right in
      inl (guarded g (and_true _ _ ok).0 (and_true _ _ clear).0 rights.0 ts c len s)
  guarded (or g h) ok clear right ts c len (inr s) =
      let rights = halves (foreign g) (foreign h) right in
      inr (guarded h (and_true _ _ ok).1 (and_true _ _ (and_true (is_clear hints g) (is_clear hints h && (not (nullable hints g) && apart (first hints g) (first hints h))) clear).1).0 rights.1 ts c len s)
  guarded (many f g) ok clear right ts c len s =
      let p = and_true _ _ ok in
      let q = and_true (is_clear hints g) (not (nullable hints g) && apart (after hints g) (first hints g)) clear in
      (s.0, guarded_each g (guarded g p.0 q.0 right) q.0 right (not_true _ p.1) s.0 ts len s.1, s.2)
  guarded (made f g) ok clear right ts c len s = (s.0, guarded g ok clear right ts s.0 len s.1, s.2)
  guarded (tested f g) ok clear right ts c len s = (s.0, guarded g ok clear right ts s.0 len s.1, s.2)
  guarded (led kinds g) ok clear right ts c len s = guarded g ok (and_true _ _ clear).0 right ts c len s
  guarded (named k f) ok clear right ts c len s = absurd cc
  guarded (outer o f) ok clear right ts c len s = s

-- ---- a whole grammar

-- The productions of the names are sound, and the readers of what stands in them are right.
pub record IsClear {K : Type 0} {V : K → Type 0} (hints : Hints K) (grammar : (k : K) → Production K V (V k)) : Type 0 where
  pub each : (k : K) → is_sound hints k (grammar k) ≡ true
  pub right : (k : K) → AreRight (foreign (grammar k))

all_true : (a b c d e : Bool) → (a && (b && (not c && (d && e)))) ≡ true → (a ≡ true) × (b ≡ true) × (c ≡ false) × (d ≡ true) × (e ≡ true)
all_true a b c d e h =
    let p = and_true a (b && (not c && (d && e))) h in
    let q = and_true b (not c && (d && e)) p.1 in
    let r = and_true (not c) (d && e) q.1 in
    let s = and_true d e r.1 in
    (p.0, q.0, not_true c r.0, s.0, s.1)

module _ {K : Type 0} {V : K → Type 0} (hints : Hints K) (grammar : (k : K) → Production K V (V k)) (ok : IsClear hints grammar) where
  parts : (k : K) → (is_clear hints (grammar k) ≡ true) × (is_guarded hints (grammar k) ≡ true) × (nullable hints (grammar k) ≡ false) × (among (first hints (grammar k)) (hints.begins k) ≡ true) × (among (after hints (grammar k)) (hints.goes_on k) ≡ true)
  parts k = all_true (is_clear hints (grammar k)) (is_guarded hints (grammar k)) (nullable hints (grammar k)) (among (first hints (grammar k)) (hints.begins k)) (among (after hints (grammar k)) (hints.goes_on k)) (ok.each k)

  pub starts_within : (n : ℕ) (k : K) (ts : List Token) (a : V k) → SpellsWithin grammar n k ts a → sees (hints.begins k) ts ≡ true
  starts_within zero k ts a s = absurd s
  starts_within (suc n) k ts a s =
      let p = parts k in
      sees-among (first hints (grammar k)) (hints.begins k) ts p.3 (begun_first (first hints (grammar k)) (nullable hints (grammar k)) ts p.2 (begun hints (SpellsWithin grammar n) (starts_within n) (grammar k) p.0 (ok.right k) ts a s))

  pub sound_within : (n : ℕ) (k : K) (ts : List Token) (x : V k × List Token) → reads_within hints grammar n k ts ≡ Some x → (front : List Token) × (ts ≡ front ++ x.1) × SpellsWithin grammar n k front x.0
  unfolding reads_within
  sound_within zero k ts x e = absurd cc
  sound_within (suc n) k ts x e = sound hints (SpellsWithin grammar n) (reads_within hints grammar n) (sound_within n) (grammar k) (ok.right k) ts x e

  pub complete_within : (n : ℕ) (k : K) (front rest : List Token) (a : V k) → SpellsWithin grammar n k front a → sees (hints.goes_on k) rest ≡ false → reads_within hints grammar n k (front ++ rest) ≡ Some (a, rest)
  unfolding reads_within
  complete_within zero k front rest a s stop = absurd s
  complete_within (suc n) k front rest a s stop =
      let p = parts k in
      complete hints (SpellsWithin grammar n) (reads_within hints grammar n) (starts_within n) (complete_within n) (grammar k) p.0 (ok.right k) front rest a s
      (unseen-among (after hints (grammar k)) (hints.goes_on k) rest p.4 stop)

  pub shrinks : (m n : ℕ) (k : K) (ts : List Token) (a : V k) → SpellsWithin grammar m k ts a → length ts ≤ n → SpellsWithin grammar n k ts a
  shrinks zero n k ts a s len = absurd s
  shrinks (suc m) zero k ts a s len = absurd (omega (arith, sees-length (hints.begins k) ts (starts_within (suc m) k ts a s)))
  shrinks (suc m) (suc n) k ts a s len =
      guarded hints n (SpellsWithin grammar m) (SpellsWithin grammar n) (λ j ys b short t. shrinks m n j ys b t short) (starts_within m) (grammar k) (parts k).1 (parts k).0 (ok.right k) ts a len s

  -- with as much depth as there are tokens, everything is read
  pub reader : (k : K) → IsReader (hints.begins k) (hints.goes_on k) (SpellsAny grammar k) (λ ts. reads_within hints grammar (length ts) k ts)
  reader k = record {
    begun = λ front a s. starts_within s.0 k front a s.1;
    sound = λ ts x e. let p = sound_within (length ts) k ts x e in (p.0, p.1, (length ts, p.2));
    complete = λ front rest a s stop. complete_within (length (front ++ rest)) k front rest a (shrinks s.0 (length (front ++ rest)) k front a s.1 (omega (arith, length-append front rest))) stop;
  }
