-- What `read` gives at each step.
use Rattle.std.proofs.Common.{ℕ, zero, suc, ◌≡◌, ◌<◌, ◌≤◌, ◌-◌, ◌+◌, List, [], ◌∷◌, ◌++◌, length, get_or, drop, refl, ap, ◌∙◌, sym, arith, add-one, append-nil, append_assoc, Result, Ok, Err}
use Rattle.std.proofs.lemmas.List.{nil_from_length, drop-drop}
use Rattle.ebr_base.specs.declared.code.Code.{Code}
use Rattle.ebr_lexer.specs.declared.token.Token.{Token}
use Rattle.ebr_lexer.specs.declared.token.Front.{Front}
use Rattle.ebr_lexer.specs.declared.token.LexStop.{LexStop}
use Rattle.ebr_lexer.specs.declared.token.LexStop.TheVariants as lex
use Rattle.ebr_lexer.specs.Lexis.{Fault, Tells}
use Rattle.ebr_lexer.specs.inside.Places.{Places}
use Rattle.ebr_lexer.specs.Reading.{front, read, read_then, after_front, with_front, token_there}

pub read-zero : (n at : ℕ) (rest : List ℕ) → n ≡ 0 → read n at rest ≡ Ok []
unfolding read
read-zero n at rest e = rw e refl

pub read-suc : (n m at : ℕ) (rest : List ℕ) → n ≡ m + 1 → read n at rest ≡ read_then (read m) at rest
unfolding read
read-suc n m at rest e = rw (e, add-one) refl

pub read-nil : (n at : ℕ) → read n at [] ≡ Ok []
unfolding read
read-nil zero at = refl
read-nil (suc n) at = refl

read_then-at : (k : ℕ → List ℕ → Result (List Token) Fault) (at : ℕ) (rest : List ℕ) → 0 < length rest
    → read_then k at rest ≡ after_front k at rest (front (get_or rest 0 0) rest)
read_then-at k at [] h = absurd (omega (arith, h))
read_then-at k at (b ∷ bs) h = refl

read_step : (n i at : ℕ) (rest : List ℕ) (f : Result Front Code) → i < n → 0 < length rest → front (get_or rest 0 0) rest ≡ f
    → read (n - i) at rest ≡ after_front (read (n - (i + 1))) at rest f
read_step n i at rest f l w e =
    read-suc (n - i) (n - (i + 1)) at rest (omega arith) ∙ read_then-at (read (n - (i + 1))) at rest w ∙ ap (after_front (read (n - (i + 1))) at rest) e

-- nothing is left
pub tells_end : (ts : List Token) (n at : ℕ) (rest : List ℕ) (r : Result (List Token) Fault) → with_front ts (read n at rest) ≡ r → length rest ≡ 0 → r ≡ Ok ts
tells_end ts n at rest r e z =
    sym e ∙ ap (λ (k : List ℕ). with_front ts (read n at k)) (nil_from_length rest z) ∙ ap (with_front ts) (read-nil n at) ∙ ap Ok (append-nil ts)

-- so many parts were read
pub tells_all : (ts : List Token) (n i at : ℕ) (rest : List ℕ) (r : Result (List Token) Fault) → with_front ts (read (n - i) at rest) ≡ r → n ≤ i → r ≡ Ok ts
tells_all ts n i at rest r e l = sym e ∙ ap (with_front ts) (read-zero (n - i) at rest (omega arith)) ∙ ap Ok (append-nil ts)

-- a fault is in front
pub tells_fault : (ts : List Token) (n i at : ℕ) (rest : List ℕ) (code : Code) (r : Result (List Token) Fault) → i < n → with_front ts (read (n - i) at rest) ≡ r
    → 0 < length rest → front (get_or rest 0 0) rest ≡ Err code → r ≡ Err (at, code)
tells_fault ts n i at rest code r l e w f = sym e ∙ ap (with_front ts) (read_step n i at rest (Err code) l w f)

pub with_front-twice : (ts us : List Token) (r : Result (List Token) Fault) → with_front (ts ++ us) r ≡ with_front ts (with_front us r)
with_front-twice ts us (Ok vs) = ap Ok (append_assoc ts us vs)
with_front-twice ts us (Err e) = refl

-- one more part
pub tells_more : (ts more : List Token) (n i at next : ℕ) (bytes rest : List ℕ) (f : Front) (r : Result (List Token) Fault) → i < n
    → with_front ts (read (n - i) at (drop at bytes)) ≡ r → rest ≡ drop at bytes → 0 < length rest → front (get_or rest 0 0) rest ≡ Ok f → next ≡ at + f.length
    → more ≡ ts ++ token_there f.what at next → with_front more (read (n - (i + 1)) next (drop next bytes)) ≡ r
tells_more ts more n i at next bytes rest f r l e d w g x m =
    let k = read (n - (i + 1)) in
    let old = ap (λ (q : List ℕ). with_front ts (read (n - i) at q)) d ∙ e in
    let step = ap (with_front ts) (read_step n i at rest (Ok f) l w g) in
    let place : drop next bytes ≡ drop f.length rest = rw (x, d, drop-drop) refl in
    rw (m, place, x) (with_front-twice ts (token_there f.what at (at + f.length)) (k (at + f.length) (drop f.length rest)) ∙ sym step ∙ old)

-- reading stops at what is in front
pub tells_stop : (e : LexStop) (ts : List Token) (n i at : ℕ) (bytes rest : List ℕ) (r : Result (List Token) Fault) → i < n
    → with_front ts (read (n - i) at (drop at bytes)) ≡ r → rest ≡ drop at bytes → 0 < length rest → Places at (Err e) (front (get_or rest 0 0) rest) → Tells (Err e) r
tells_stop lex.NoMemory ts n i at bytes rest r l e d w p = tt
tells_stop (lex.Fault there code) ts n i at bytes rest r l e d w p =
    tells_fault ts n i at rest code r l (ap (λ (q : List ℕ). with_front ts (read (n - i) at q)) d ∙ e) w p.1 ∙ ap (λ k. Err (k, code)) (sym p.0)
