-- What `read` gives is what the text has, and the other way round.
use Rattle.std.proofs.Common.{ℕ, zero, suc, ◌≡◌, ◌≤◌, ◌+◌, List, [], ◌∷◌, ◌++◌, length, drop, refl, ap, ◌∙◌, sym, arith, subst, Result, Ok, Err, append-nil}
use Rattle.std.proofs.lemmas.List.{drop_at, length-append, nil_from_length}
use Rattle.ebr_base.specs.declared.code.Code.{Code}
use Rattle.ebr_lexer.specs.declared.token.Token.{Token}
use Rattle.ebr_lexer.specs.declared.token.Front.{Front}
use Rattle.ebr_lexer.specs.declared.token.LexStop.{LexStop}
use Rattle.ebr_lexer.specs.declared.token.LexStop.TheVariants as lex
use Rattle.ebr_lexer.specs.Lexis.{Fault, Spelled, IsPart, Stand, token_of, tokens_at, Tokens, Wrong, IsWrong, code_of, FirstFault, Found, Tells, Has, TokensOrFault, OneReading, OneFault, NeverBoth}
use Rattle.ebr_lexer.specs.Reading.{front, read, after_front, with_front}
use Rattle.ebr_lexer.proofs.Scanning.{read-suc, read-nil, with_front-twice}
use Rattle.ebr_lexer.proofs.Fronts.{Sound, front_sound}
use Rattle.ebr_lexer.proofs.Complete.{part_front, part_same, Reads, part_reads, part_some, wrong_reads}

-- parts stand up to the place of a fault
pub record FaultAt (at : ℕ) (bytes : List ℕ) (fault : Fault) : Type 0 where
  pub parts : List Spelled
  pub rest : List ℕ
  pub wrong : Wrong
  pub stand : Stand parts bytes rest
  pub fits : IsWrong wrong rest
  pub place : fault.0 + length rest ≡ at + length bytes
  pub has_code : fault.1 ≡ code_of wrong

pub record TokensAt (at : ℕ) (bytes : List ℕ) (tokens : List Token) : Type 0 where
  pub parts : List Spelled
  pub stand : Stand parts bytes []
  pub listed : tokens ≡ tokens_at at parts

abbrev pub ReadIs : ℕ → List ℕ → Result (List Token) Fault → Type 0
ReadIs at bytes (Ok ts) = TokensAt at bytes ts
ReadIs at bytes (Err e) = FaultAt at bytes e

-- one more part in front
part_before : (at next : ℕ) (bytes more : List ℕ) (p : Spelled) (r : Result (List Token) Fault) → bytes ≡ p.text ++ more → IsPart p.part p.text more → next ≡ at + length p.text
    → ReadIs next more r → ReadIs at bytes (with_front (token_of p.part at next) r)
part_before at next bytes more p (Ok ts) split w e s = record {
  parts = p ∷ s.parts;
  stand = (more, split, w, s.stand);
  listed = ap (λ k. token_of p.part at next ++ k) s.listed ∙ ap (λ k. token_of p.part at k ++ tokens_at k s.parts) e;
}
part_before at next bytes more p (Err f) split w e s =
    let len : length bytes ≡ length p.text + length more = ap length split ∙ length-append p.text more in
    let place = s.place in
    record { parts = p ∷ s.parts; rest = s.rest; wrong = s.wrong; stand = (more, split, w, s.stand); fits = s.fits; place = omega (arith, place, len, e); has_code = s.has_code }

after_sound : (n at : ℕ) (bytes : List ℕ) (r : Result Front Code) → ((place : ℕ) (rest : List ℕ) → length rest ≤ n → ReadIs place rest (read n place rest)) → length bytes ≤ suc n
    → Sound bytes r → ReadIs at bytes (after_front (read n) at bytes r)
after_sound n at bytes (Err code) ih l s = record { parts = []; rest = bytes; wrong = s.wrong; stand = refl; fits = s.fits; place = refl; has_code = s.has_code }
after_sound n at bytes (Ok f) ih l s =
    let next = at + f.length in
    let len : length bytes ≡ length s.text + length s.more = ap length s.split ∙ length-append s.text s.more in
    let some = s.some in
    let left : length s.more ≤ n = omega (arith, len, some, l) in
    let rest : drop f.length bytes ≡ s.more = ap (drop f.length) s.split ∙ drop_at s.text s.more f.length (sym s.long) in
    let p : Spelled = record { part = s.part; text = s.text } in
    let whole = part_before at next bytes s.more p (read n next s.more) s.split s.fits (ap (λ k. at + k) s.long) (ih next s.more left) in
    rw (rest, s.same) whole

-- what is read is what the bytes have
pub read_sound : (n at : ℕ) (bytes : List ℕ) → length bytes ≤ n → ReadIs at bytes (read n at bytes)
unfolding read
read_sound zero at bytes l =
    record { parts = []; stand = nil_from_length bytes (omega (arith, l)); listed = refl }
read_sound (suc n) at [] l = record { parts = []; stand = refl; listed = refl }
read_sound (suc n) at (b ∷ bs) l = after_sound n at (b ∷ bs) (front b (b ∷ bs)) (read_sound n) l (front_sound b bs)

-- one step of reading
read_of : (n at : ℕ) (bytes : List ℕ) (r : Result Front Code) → length bytes ≤ n → Reads bytes r
    → (m : ℕ) × (n ≡ m + 1) × (read n at bytes ≡ after_front (read m) at bytes r)
read_of zero at bytes r l w = let some = w.some in absurd (omega (arith, l, some))
read_of (suc m) at [] r l w = let some = w.some in absurd (omega (arith, some))
read_of (suc m) at (b ∷ bs) r l w = let one : suc m ≡ m + 1 = omega arith in (m, one, read-suc (suc m) m at (b ∷ bs) one ∙ ap (after_front (read m) at (b ∷ bs)) w.same)

-- Reading goes over parts that stand in front.
pub record Passes (n at : ℕ) (bytes rest : List ℕ) (ps : List Spelled) : Type 0 where
  pub left : ℕ
  pub next : ℕ
  pub enough : length rest ≤ left
  pub place : next + length rest ≡ at + length bytes
  pub same : read n at bytes ≡ with_front (tokens_at at ps) (read left next rest)

with_none : (r : Result (List Token) Fault) → with_front [] r ≡ r
with_none (Ok ts) = refl
with_none (Err e) = refl

-- reading goes over a part in front
over_part : (m at : ℕ) (bytes more : List ℕ) (p : Spelled) → bytes ≡ p.text ++ more
    → after_front (read m) at bytes (Ok (part_front p.part p.text)) ≡ with_front (token_of p.part at (at + length p.text)) (read m (at + length p.text) more)
over_part m at bytes more p e =
    let next = at + length p.text in
    let after : drop (length p.text) bytes ≡ more = ap (drop (length p.text)) e ∙ drop_at p.text more (length p.text) refl in
    ap (λ k. with_front k (read m next (drop (length p.text) bytes))) (part_same p.part p.text at next)
    ∙ ap (λ (k : List ℕ). with_front (token_of p.part at next) (read m next k)) after

over_parts : (ts us : List Token) (r q : Result (List Token) Fault) → r ≡ with_front us q → with_front ts r ≡ with_front (ts ++ us) q
over_parts ts us r q e = ap (with_front ts) e ∙ sym (with_front-twice ts us q)

-- over one part more
passes_more : (n m at : ℕ) (bytes more rest : List ℕ) (p : Spelled) (ps : List Spelled) → bytes ≡ p.text ++ more → Passes m (at + length p.text) more rest ps
    → read n at bytes ≡ after_front (read m) at bytes (Ok (part_front p.part p.text)) → Passes n at bytes rest (p ∷ ps)
passes_more n m at bytes more rest p ps split t step =
    let next = at + length p.text in
    let len : length bytes ≡ length p.text + length more = ap length split ∙ length-append p.text more in
    let place = t.place in
    let over : read n at bytes ≡ with_front (token_of p.part at next) (read m next more) = step ∙ over_part m at bytes more p split in
    record {
      left = t.left;
      next = t.next;
      enough = t.enough;
      place = omega (arith, place, len);
      same = over ∙ over_parts (token_of p.part at next) (tokens_at next ps) (read m next more) (read t.left t.next rest) t.same;
    }

pub passes : (ps : List Spelled) (n at : ℕ) (bytes rest : List ℕ) → length bytes ≤ n → Stand ps bytes rest → Passes n at bytes rest ps
passes [] n at bytes rest l s =
    let len = ap length s in
    record { left = n; next = at; enough = omega (arith, len, l); place = omega (arith, len); same = ap (read n at) s ∙ sym (with_none (read n at rest)) }
passes (p ∷ ps) n at bytes rest l s =
    let w = subst (λ (k : List ℕ). Reads k (Ok (part_front p.part p.text))) (sym s.1) (part_reads p.part p.text s.0 s.2) in
    let some = part_some p.part p.text s.0 s.2 in
    let step = read_of n at bytes (Ok (part_front p.part p.text)) l w in
    let len : length bytes ≡ length p.text + length s.0 = ap length s.1 ∙ length-append p.text s.0 in
    let one = step.1 in
    let left : length s.0 ≤ step.0 = omega (arith, one, l, len, some) in
    passes_more n step.0 at bytes s.0 rest p ps s.1 (passes ps step.0 (at + length p.text) s.0 rest left s.3) step.2

-- the tokens that bytes have are read
pub read_tokens : (bytes : List ℕ) (ts : List Token) → Tokens bytes ts → read (length bytes) 0 bytes ≡ Ok ts
read_tokens bytes ts t =
    let p = passes t.parts (length bytes) 0 bytes [] (omega arith) t.stand in
    p.same ∙ ap (with_front (tokens_at 0 t.parts)) (read-nil p.left p.next) ∙ ap Ok (append-nil (tokens_at 0 t.parts) ∙ sym t.listed)

-- the first fault of bytes is told
pub read_fault : (bytes : List ℕ) (at : ℕ) (code : Code) → FirstFault bytes at code → read (length bytes) 0 bytes ≡ Err (at, code)
read_fault bytes at code f =
    let p = passes f.parts (length bytes) 0 bytes f.rest (omega arith) f.stand in
    let step = read_of p.left p.next f.rest (Err (code_of f.wrong)) p.enough (wrong_reads f.wrong f.rest f.fits) in
    let here : p.next ≡ at = (let a = p.place in let b = f.place in omega (arith, a, b)) in
    p.same ∙ ap (with_front (tokens_at 0 f.parts)) step.2 ∙ ap (λ k. Err (k, code_of f.wrong)) here ∙ ap (λ k. Err (at, k)) (sym f.has_code)

-- the answer is what the text has
pub found : (bytes : List ℕ) (answer : Result (List Token) LexStop) → Tells answer (read (length bytes) 0 bytes) → Found bytes answer
found bytes (Ok ts) t =
    let s = subst (ReadIs 0 bytes) t (read_sound (length bytes) 0 bytes (omega arith)) in
    record { parts = s.parts; stand = s.stand; listed = s.listed }
found bytes (Err lex.NoMemory) t = tt
found bytes (Err (lex.Fault at code)) t =
    let s = subst (ReadIs 0 bytes) t (read_sound (length bytes) 0 bytes (omega arith)) in
    record { parts = s.parts; rest = s.rest; wrong = s.wrong; stand = s.stand; fits = s.fits; place = (let p = s.place in omega (arith, p)); has_code = s.has_code }

abbrev SameOk : Result (List Token) Fault → List Token → Type 0
SameOk (Ok ts) us = us ≡ ts
SameOk (Err e) us = ⊥

abbrev SameErr : Result (List Token) Fault → Fault → Type 0
SameErr (Ok ts) f = ⊥
SameErr (Err e) f = f ≡ e

ok_inj : (ts us : List Token) (r : Result (List Token) Fault) → r ≡ Ok ts → r ≡ Ok us → ts ≡ us
ok_inj ts us r t u = subst (λ k. SameOk k ts) (sym t ∙ u) refl

err_inj : (e f : Fault) (r : Result (List Token) Fault) → r ≡ Err e → r ≡ Err f → e ≡ f
err_inj e f r t u = subst (λ k. SameErr k e) (sym t ∙ u) refl

ok_not_err : (ts : List Token) (e : Fault) (r : Result (List Token) Fault) → r ≡ Ok ts → r ≡ Err e → ⊥
ok_not_err ts e r t u = subst (λ k. SameOk k ts) (sym t ∙ u) refl

has_by : (bytes : List ℕ) (r : Result (List Token) Fault) → ReadIs 0 bytes r → Has bytes r
has_by bytes (Ok ts) s = record { parts = s.parts; stand = s.stand; listed = s.listed }
has_by bytes (Err e) s =
    let p = s.place in
    record { parts = s.parts; rest = s.rest; wrong = s.wrong; stand = s.stand; fits = s.fits; place = omega (arith, p); has_code = s.has_code }

-- each text has its tokens or a first fault
pub has_one : TokensOrFault
has_one bytes = (read (length bytes) 0 bytes, has_by bytes _ (read_sound (length bytes) 0 bytes (omega arith)))

-- a text has at most one list of tokens
pub one_reading : OneReading
one_reading bytes ts us t u = ok_inj ts us _ (read_tokens bytes ts t) (read_tokens bytes us u)

-- a text has at most one first fault
pub one_fault : OneFault
one_fault bytes at there code other f g =
    let e = err_inj (at, code) (there, other) _ (read_fault bytes at code f) (read_fault bytes there other g) in
    (ap (λ (k : Fault). k.0) e, ap (λ (k : Fault). k.1) e)

-- no text has both
pub never_both : NeverBoth
never_both bytes ts at code t f = ok_not_err ts (at, code) _ (read_tokens bytes ts t) (read_fault bytes at code f)

-- what is read is what the text has
pub has : (bytes : List ℕ) (r : Result (List Token) Fault) → read (length bytes) 0 bytes ≡ r → Has bytes r
has bytes r e = subst (Has bytes) e (has_by bytes _ (read_sound (length bytes) 0 bytes (omega arith)))
