-- Where the tokens of a text stand.
use Rattle.std.proofs.Common.{ℕ, ◌≡◌, ◌<◌, ◌≤◌, ◌+◌, List, [], ◌∷◌, ◌++◌, length, ap, ◌∙◌, arith, subst, sym, Result, Ok, Err, IfOk, All, AllPairs}
use Rattle.std.proofs.lemmas.List.{length-append}
use Rattle.std.proofs.lemmas.List.Elements.{All-nil, All-cons, All-weaker}
use Rattle.std.proofs.lemmas.List.Kept.{AllPairs-cons}
use Rattle.ebr_lexer.specs.declared.token.Token.{Token}
use Rattle.ebr_lexer.specs.declared.token.LexStop.{LexStop}
use Rattle.ebr_lexer.specs.Lexis.{Part, White, LineComment, BlockComment, Lexeme, Spelled, Stand, token_of, tokens_at, Found, LiesWithin, Precedes}
use Rattle.ebr_lexer.proofs.Complete.{part_some}

abbrev Between : ℕ → ℕ → Token → Type 0
Between at stop t = (at ≤ t.from) × (t.from < t.to) × (t.to ≤ stop)

between_later : (at next stop : ℕ) (ts : List Token) → at < next → All (Between next stop) ts → All (Between at stop) ts
between_later at next stop ts l a = All-weaker (Between next stop) (Between at stop) (λ t h. (omega (arith, h.0, l), h.1, h.2)) ts a

one_before : (part : Part) (at next stop : ℕ) (ts : List Token) → at < next → next ≤ stop → All (Between next stop) ts → All (Between at stop) (token_of part at next ++ ts)
one_before White at next stop ts l m a = between_later at next stop ts l a
one_before LineComment at next stop ts l m a = between_later at next stop ts l a
one_before BlockComment at next stop ts l m a = between_later at next stop ts l a
one_before (Lexeme k) at next stop ts l m a =
    let low : at ≤ at = omega arith in
    All-cons (Between at stop) (record { from = at; to = next; what = k }) ts (low, l, m) (between_later at next stop ts l a)

-- the tokens stand within the bytes of the parts
tokens_within : (ps : List Spelled) (at stop : ℕ) (bytes rest : List ℕ) → stop ≡ at + length bytes → Stand ps bytes rest → All (Between at stop) (tokens_at at ps)
tokens_within [] at stop bytes rest e s = All-nil (Between at stop)
tokens_within (p ∷ ps) at stop bytes rest e s =
    let some = part_some p.part p.text s.0 s.2 in
    let len : length bytes ≡ length p.text + length s.0 = ap length s.1 ∙ length-append p.text s.0 in
    let next = at + length p.text in
    let later : at < next = omega (arith, some) in
    let before : next ≤ stop = omega (arith, e, len) in
    let same : stop ≡ next + length s.0 = omega (arith, e, len) in
    one_before p.part at next stop (tokens_at next ps) later before (tokens_within ps next stop s.0 rest same s.3)

ordered_before : (part : Part) (at next stop : ℕ) (ts : List Token) → All (Between next stop) ts → AllPairs Precedes ts → AllPairs Precedes (token_of part at next ++ ts)
ordered_before White at next stop ts a o = o
ordered_before LineComment at next stop ts a o = o
ordered_before BlockComment at next stop ts a o = o
ordered_before (Lexeme k) at next stop ts a o =
    let t : Token = record { from = at; to = next; what = k } in
    AllPairs-cons Precedes t ts (All-weaker (Between next stop) (Precedes t) (λ u h. h.0) ts a) o

-- each token ends before the next begins
tokens_ordered : (ps : List Spelled) (at stop : ℕ) (bytes rest : List ℕ) → stop ≡ at + length bytes → Stand ps bytes rest → AllPairs Precedes (tokens_at at ps)
tokens_ordered [] at stop bytes rest e s = λ i j d l m. absurd (omega (arith, m))
tokens_ordered (p ∷ ps) at stop bytes rest e s =
    let len : length bytes ≡ length p.text + length s.0 = ap length s.1 ∙ length-append p.text s.0 in
    let next = at + length p.text in
    let same : stop ≡ next + length s.0 = omega (arith, e, len) in
    ordered_before p.part at next stop (tokens_at next ps) (tokens_within ps next stop s.0 rest same s.3) (tokens_ordered ps next stop s.0 rest same s.3)

-- what is read lies within the text
pub found_within : (bytes : List ℕ) (answer : Result (List Token) LexStop) → Found bytes answer → IfOk answer (All (LiesWithin bytes))
found_within bytes (Ok ts) t =
    let stop : length bytes ≡ 0 + length bytes = omega arith in
    let a = tokens_within t.parts 0 (length bytes) bytes [] stop t.stand in
    subst (All (LiesWithin bytes)) (sym t.listed) (All-weaker (Between 0 (length bytes)) (LiesWithin bytes) (λ u h. (h.1, h.2)) (tokens_at 0 t.parts) a)
found_within bytes (Err e) t = tt

-- what is read stands in order
pub found_ordered : (bytes : List ℕ) (answer : Result (List Token) LexStop) → Found bytes answer → IfOk answer (AllPairs Precedes)
found_ordered bytes (Ok ts) t =
    let stop : length bytes ≡ 0 + length bytes = omega arith in
    subst (AllPairs Precedes) (sym t.listed) (tokens_ordered t.parts 0 (length bytes) bytes [] stop t.stand)
found_ordered bytes (Err e) t = tt
