-- What makes a reader right, and which productions hold forms of other grammars with such readers alone.
use Rattle.std.proofs.Common.{◌≡◌, true, false, List, [], ◌∷◌, ◌++◌, Some}
use Rattle.ebr_lexer.specs.declared.token.Token.{Token}
use Rattle.ebr_grammar.specs.declared.kind.Kind.{Kind}
use Rattle.ebr_grammar.specs.Forms.{Form, Reader, Outer, sees}
use Rattle.ebr_grammar.specs.Grammar.{Production, token, word, nothing, both, or, many, made, tested, led, named, outer}
use Rattle.ebr_grammar.specs.Choice.{among}
use Rattle.ebr_grammar.proofs.Next.{sees-among, unseen-among}

-- What a reader reads is what the form says, and all of it: a tree is spelled by the tokens in front, and what is
-- spelled in front of no token that it goes on with is read. What is spelled begins with one of the kinds `begins`.
pub record IsReader {A : Type 0} (begins goes_on : List Kind) (F : Form A) (r : Reader A) : Type 0 where
  pub begun : (front : List Token) (a : A) → F front a → sees begins front ≡ true
  pub sound : (ts : List Token) (x : A × List Token) → r ts ≡ Some x → (front : List Token) × (ts ≡ front ++ x.1) × F front x.0
  pub complete : (front rest : List Token) (a : A) → F front a → sees goes_on rest ≡ false → r (front ++ rest) ≡ Some (a, rest)

-- The reader of a form is right.
abbrev pub IsRight : {A : Type 0} → Outer A → Type 0
IsRight o = IsReader o.begins o.goes_on o.form o.reader

-- A form of another grammar.
abbrev pub Foreign : Type 1
Foreign = (A : Type 0) × Outer A

-- the forms of other grammars in a production, from the left
abbrev pub foreign : {K : Type 0} {V : K → Type 0} {C : Type 0} → Production K V C → List Foreign
foreign (token kinds f) = []
foreign (word kind c) = []
foreign (nothing x) = []
foreign (both f g h) = foreign g ++ foreign h
foreign (or g h) = foreign g ++ foreign h
foreign (many f g) = foreign g
foreign (made f g) = foreign g
foreign (tested f g) = foreign g
foreign (led kinds g) = foreign g
foreign (named k f) = []
foreign (outer o f) = (_, o) ∷ []

-- The reader of each of them is right.
abbrev pub AreRight : List Foreign → Type 0
AreRight [] = Unit {0}
AreRight (x ∷ xs) = IsRight x.1 × AreRight xs

pub halves : (xs ys : List Foreign) → AreRight (xs ++ ys) → AreRight xs × AreRight ys
halves [] ys r = (tt, r)
halves (x ∷ xs) ys r = let rest = halves xs ys r.1 in ((r.0, rest.0), rest.1)

-- with more kinds to begin with, and to go on with
pub widened : {A : Type 0} {begins more_begins goes more_goes : List Kind} {F : Form A} {r : Reader A} → IsReader begins goes F r → among begins more_begins ≡ true → among goes more_goes ≡ true
    → IsReader more_begins more_goes F r
widened {A} {begins} {more_begins} {goes} {more_goes} is b g = record {
  begun = λ front a s. sees-among begins more_begins front b (is.begun front a s);
  sound = is.sound;
  complete = λ front rest a s stop. is.complete front rest a s (unseen-among goes more_goes rest g stop);
}
