-- How productions become forms that other grammars use: over names that have forms, over those of a grammar, and one of two
-- by a test on more than one token.
use Rattle.std.proofs.Common.{◌≡◌, ℕ, zero, suc, ◌≤◌, Bool, true, false, List, ◌++◌, length, Some, inl, inr, arith}
use Rattle.std.proofs.lemmas.List.{length-append}
use Rattle.ebr_grammar.specs.declared.kind.Kind.{Kind}
use Rattle.ebr_lexer.specs.declared.token.Token.{Token}
use Rattle.ebr_grammar.specs.Forms.{Form, Reader, sees, either, by_test}
use Rattle.ebr_grammar.specs.Grammar.{Production, Spells, SpellsWithin, SpellsAny}
use Rattle.ebr_grammar.specs.Reading.{Hints, nullable, first, reads, reads_within}
use Rattle.ebr_grammar.specs.Choice.{after, is_clear}
use Rattle.ebr_grammar.proofs.Next.{sees_left, sees_right, sees_neither}
use Rattle.ebr_grammar.proofs.Right.{IsReader, foreign, AreRight}
use Rattle.ebr_grammar.proofs.Laws.{begun, begun_first, sound, complete, take_first, take_second, which}
use Rattle.ebr_grammar.proofs.Depth.{IsClear, starts_within, sound_within, complete_within, shrinks, weaker}

-- One token is enough to choose by in the production, it stands for one token at least, and the readers of the forms of other
-- grammars in it are right.
pub record IsReadable {K : Type 0} {V : K → Type 0} {C : Type 0} (hints : Hints K) (g : Production K V C) : Type 0 where
  pub clear : is_clear hints g ≡ true
  pub full : nullable hints g ≡ false
  pub right : AreRight (foreign g)

-- over names whose readers are right
module _ {K : Type 0} {V : K → Type 0} (hints : Hints K) (given : (k : K) → Form (V k)) (at : (k : K) → Reader (V k)) (names : (k : K) → IsReader (hints.begins k) (hints.goes_on k) (given k) (at k)) where
  pub reader_over : {C : Type 0} (g : Production K V C) → IsReadable hints g → IsReader (first hints g) (after hints g) (Spells given g) (reads hints at g)
  reader_over g is = record {
    begun = λ front c s. begun_first (first hints g) (nullable hints g) front is.full (begun hints given (λ k. (names k).begun) g is.clear is.right front c s);
    sound = λ ts x e. sound hints given at (λ k. (names k).sound) g is.right ts x e;
    complete = λ front rest c s stop. complete hints given at (λ k. (names k).begun) (λ k. (names k).complete) g is.clear is.right front rest c s stop;
  }

module _ {K : Type 0} {V : K → Type 0} (hints : Hints K) (grammar : (k : K) → Production K V (V k)) (ok : IsClear hints grammar) where
  pub starts_any : (k : K) (ts : List Token) (a : V k) → SpellsAny grammar k ts a → sees (hints.begins k) ts ≡ true
  starts_any k ts a s = starts_within hints grammar ok s.0 k ts a s.1

  opened_within : (n : ℕ) (k : K) (ts : List Token) (a : V k) → SpellsWithin grammar n k ts a → Spells (SpellsAny grammar) (grammar k) ts a
  opened_within zero k ts a s = absurd s
  opened_within (suc n) k ts a s = weaker hints (length ts) (SpellsWithin grammar n) (SpellsAny grammar) (λ j ys b le t. (n, t)) (starts_within hints grammar ok n) (grammar k) ts a (omega arith) s

  -- what a name spells its production spells, over names derived to any height
  pub opened : (k : K) (ts : List Token) (a : V k) → SpellsAny grammar k ts a → Spells (SpellsAny grammar) (grammar k) ts a
  opened k ts a s = opened_within s.0 k ts a s.1

  pub closed_up : (k : K) (ts : List Token) (a : V k) → Spells (SpellsAny grammar) (grammar k) ts a → SpellsAny grammar k ts a
  closed_up k ts a s = (suc (length ts), weaker hints (length ts) (SpellsAny grammar) (SpellsWithin grammar (length ts)) (λ j ys b le t. shrinks hints grammar ok t.0 (length ts) j ys b t.1 le) starts_any (grammar k) ts a (omega arith) s)

  sound_any : (n : ℕ) (k : K) (ts : List Token) (x : V k × List Token) → reads_within hints grammar n k ts ≡ Some x → (front : List Token) × (ts ≡ front ++ x.1) × SpellsAny grammar k front x.0
  sound_any n k ts x e = let p = sound_within hints grammar ok n k ts x e in (p.0, p.1, (n, p.2))

  -- a production over the names of a grammar, whose names are read to as much depth as there are tokens
  pub part_reader : {C : Type 0} (g : Production K V C) → IsReadable hints g → IsReader (first hints g) (after hints g) (Spells (SpellsAny grammar) g) (λ ts. reads hints (reads_within hints grammar (length ts)) g ts)
  part_reader g is = record {
    begun = λ front c s. begun_first (first hints g) (nullable hints g) front is.full (begun hints (SpellsAny grammar) starts_any g is.clear is.right front c s);
    sound = λ ts x e. sound hints (SpellsAny grammar) (reads_within hints grammar (length ts)) (sound_any (length ts)) g is.right ts x e;
    complete = λ front rest c s stop.
        let n : ℕ = length (front ++ rest) in
        let short : length front ≤ n = omega (arith, length-append front rest) in
        complete hints (SpellsWithin grammar n) (reads_within hints grammar n) (starts_within hints grammar ok n) (complete_within hints grammar ok n) g is.clear is.right front rest c
        (weaker hints n (SpellsAny grammar) (SpellsWithin grammar n) (λ k ts a le t. shrinks hints grammar ok t.0 n k ts a t.1 le) starts_any g front c short s) stop;
  }

-- One of two forms, where a test holds before what the first spells, and fails before what the second does.
module _ {A : Type 0} (begins goes_on more_begins more_goes_on : List Kind) (F G : Form A) (r s : Reader A) (is : IsReader begins goes_on F r) (also : IsReader more_begins more_goes_on G s) (p : List Token → Bool)
    (yes : (front rest : List Token) (a : A) → F front a → sees goes_on rest ≡ false → p (front ++ rest) ≡ true)
    (no : (front rest : List Token) (a : A) → G front a → sees more_goes_on rest ≡ false → p (front ++ rest) ≡ false) where
  either_begun : (front : List Token) (a : A) → either F G front a → sees (begins ++ more_begins) front ≡ true
  either_begun front a (inl f) = sees_left begins more_begins front (is.begun front a f)
  either_begun front a (inr g) = sees_right begins more_begins front (also.begun front a g)

  either_sound : (ts : List Token) (x : A × List Token) → by_test p r s ts ≡ Some x → (front : List Token) × (ts ≡ front ++ x.1) × either F G front x.0
  either_sound ts x e =
      elim (which (p ts) (r ts) (s ts) (Some x) e) [
        | inl it ↦ let one = is.sound ts x it.1 in (one.0, one.1, inl one.2)
        | inr it ↦ let one = also.sound ts x it.1 in (one.0, one.1, inr one.2)
      ]

  either_complete : (front rest : List Token) (a : A) → either F G front a → sees (goes_on ++ more_goes_on) rest ≡ false → by_test p r s (front ++ rest) ≡ Some (a, rest)
  either_complete front rest a (inl f) stop =
      let stops = sees_neither goes_on more_goes_on rest stop in
      take_first (p (front ++ rest)) (r (front ++ rest)) (s (front ++ rest)) (Some (a, rest)) (yes front rest a f stops.0) (is.complete front rest a f stops.0)
  either_complete front rest a (inr g) stop =
      let stops = sees_neither goes_on more_goes_on rest stop in
      take_second (p (front ++ rest)) (r (front ++ rest)) (s (front ++ rest)) (Some (a, rest)) (no front rest a g stops.1) (also.complete front rest a g stops.1)

  pub either_reader : IsReader (begins ++ more_begins) (goes_on ++ more_goes_on) (either F G) (by_test p r s)
  either_reader = record { begun = either_begun; sound = either_sound; complete = either_complete }
