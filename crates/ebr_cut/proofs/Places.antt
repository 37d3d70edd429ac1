-- Where the pieces of a script stand.
use Rattle.std.proofs.Common.{ℕ, ◌≡◌, ◌≤◌, ◌+◌, Bool, true, List, [], ◌∷◌, ◌++◌, length, ap, ◌∙◌, arith, subst, sym, Result, Ok, Err, IfOk, All, AllPairs}
use Rattle.std.proofs.lemmas.List.{length-append}
use Rattle.std.proofs.lemmas.List.Elements.{All-nil, All-cons, All-weaker}
use Rattle.std.proofs.lemmas.List.Kept.{AllPairs-cons}
use Rattle.ebr_base.specs.declared.clone_in.NoMemory.{NoMemory}
use Rattle.ebr_cut.specs.declared.span.Span.{Span}
use Rattle.ebr_cut.specs.Lines.{fresh_after}
use Rattle.ebr_cut.specs.Sections.{Section, Skipped, SlashLine, Piece, bytes_of, Stand, span_of, spans_at, Cut, LiesWithin, Precedes}

abbrev Between : ℕ → ℕ → Span → Type 0
Between at stop s = (at ≤ s.from) × (s.from ≤ s.to) × (s.to ≤ stop)

between_later : (at next stop : ℕ) (ss : List Span) → at ≤ next → All (Between next stop) ss → All (Between at stop) ss
between_later at next stop ss l a = All-weaker (Between next stop) (Between at stop) (λ s h. (omega (arith, h.0, l), h.1, h.2)) ss a

one_before : (s : Section) (at next stop : ℕ) (ss : List Span) → next ≡ at + length (bytes_of s) → next ≤ stop → All (Between next stop) ss → All (Between at stop) (span_of at s ++ ss)
one_before (Skipped kind text) at next stop ss e l a = between_later at next stop ss (omega (arith, e)) a
one_before SlashLine at next stop ss e l a = between_later at next stop ss (omega (arith, e)) a
one_before (Piece lead text closing) at next stop ss e l a =
    let len = length-append text closing in
    let low : at ≤ at = omega arith in
    let wide : at ≤ at + length text = omega arith in
    let high : at + length text ≤ stop = omega (arith, e, l, len) in
    All-cons (Between at stop) (record { from = at; to = at + length text; lead = lead }) ss (low, wide, high) (between_later at next stop ss (omega (arith, e)) a)

-- the pieces stand within the bytes
spans_within : (ps : List Section) (at stop : ℕ) (fresh : Bool) (bytes : List ℕ) → stop ≡ at + length bytes → Stand fresh ps bytes → All (Between at stop) (spans_at at ps)
spans_within [] at stop fresh bytes e s = All-nil (Between at stop)
spans_within (p ∷ ps) at stop fresh bytes e s =
    let text = bytes_of p in
    let len : length bytes ≡ length text + length s.0 = ap length s.1 ∙ length-append text s.0 in
    let next = at + length text in
    let before : next ≤ stop = omega (arith, e, len) in
    let same : stop ≡ next + length s.0 = omega (arith, e, len) in
    one_before p at next stop (spans_at next ps) (omega arith) before (spans_within ps next stop (fresh_after fresh text) s.0 same s.3)

ordered_before : (s : Section) (at next stop : ℕ) (ss : List Span) → next ≡ at + length (bytes_of s) → All (Between next stop) ss → AllPairs Precedes ss → AllPairs Precedes (span_of at s ++ ss)
ordered_before (Skipped kind text) at next stop ss e a o = o
ordered_before SlashLine at next stop ss e a o = o
ordered_before (Piece lead text closing) at next stop ss e a o =
    let s : Span = record { from = at; to = at + length text; lead = lead } in
    let len = length-append text closing in
    AllPairs-cons Precedes s ss (All-weaker (Between next stop) (Precedes s) (λ u h. let low = h.0 in omega (arith, low, e, len)) ss a) o

-- each piece ends before the next begins
spans_ordered : (ps : List Section) (at stop : ℕ) (fresh : Bool) (bytes : List ℕ) → stop ≡ at + length bytes → Stand fresh ps bytes → AllPairs Precedes (spans_at at ps)
spans_ordered [] at stop fresh bytes e s = λ i j d l m. absurd (omega (arith, m))
spans_ordered (p ∷ ps) at stop fresh bytes e s =
    let text = bytes_of p in
    let len : length bytes ≡ length text + length s.0 = ap length s.1 ∙ length-append text s.0 in
    let next = at + length text in
    let same : stop ≡ next + length s.0 = omega (arith, e, len) in
    let line = fresh_after fresh text in
    ordered_before p at next stop (spans_at next ps) (omega arith) (spans_within ps next stop line s.0 same s.3) (spans_ordered ps next stop line s.0 same s.3)

pub cut_within : (script : List ℕ) (answer : Result (List Span) NoMemory) → IfOk answer (Cut script) → IfOk answer (All (LiesWithin script))
cut_within script (Ok ss) c =
    let stop : length script ≡ 0 + length script = omega arith in
    subst (All (LiesWithin script)) (sym c.listed)
    (All-weaker (Between 0 (length script)) (LiesWithin script) (λ s h. (h.1, h.2)) (spans_at 0 c.sections) (spans_within c.sections 0 (length script) true script stop c.stand))
cut_within script (Err e) c = tt

pub cut_ordered : (script : List ℕ) (answer : Result (List Span) NoMemory) → IfOk answer (Cut script) → IfOk answer (AllPairs Precedes)
cut_ordered script (Ok ss) c =
    let stop : length script ≡ 0 + length script = omega arith in
    subst (AllPairs Precedes) (sym c.listed) (spans_ordered c.sections 0 (length script) true script stop c.stand)
cut_ordered script (Err e) c = tt
