-- What `read` gives at each step.
use Rattle.std.proofs.Common.{ℕ, zero, suc, ◌≡◌, ◌<◌, ◌≤◌, ◌-◌, ◌+◌, Bool, List, [], ◌∷◌, ◌++◌, length, get_or, drop, refl, ap, ◌∙◌, sym, arith, add-one, append-nil, append_assoc}
use Rattle.std.proofs.lemmas.List.{nil_from_length, drop-drop}
use Rattle.ebr_cut.specs.declared.span.Span.{Span}
use Rattle.ebr_cut.specs.declared.span.Front.{Front}
use Rattle.ebr_cut.specs.Reading.{front, read, read_then, after_front, span_there}

pub read-zero : (n at : ℕ) (fresh : Bool) (rest : List ℕ) → n ≡ 0 → read n at fresh rest ≡ []
unfolding read
read-zero n at fresh rest e = rw e refl

pub read-suc : (n m at : ℕ) (fresh : Bool) (rest : List ℕ) → n ≡ m + 1 → read n at fresh rest ≡ read_then (read m) at fresh rest
unfolding read
read-suc n m at fresh rest e = rw (e, add-one) refl

pub read-nil : (n at : ℕ) (fresh : Bool) → read n at fresh [] ≡ []
unfolding read
read-nil zero at fresh = refl
read-nil (suc n) at fresh = refl

pub read_then-at : (k : ℕ → Bool → List ℕ → List Span) (at : ℕ) (fresh : Bool) (rest : List ℕ) → 0 < length rest
    → read_then k at fresh rest ≡ after_front k at rest (front fresh (get_or rest 0 0) rest)
read_then-at k at fresh [] h = absurd (omega (arith, h))
read_then-at k at fresh (b ∷ bs) h = refl

-- nothing is left
pub cut_end : (ss : List Span) (n at : ℕ) (fresh : Bool) (bytes rest : List ℕ) (r : List Span) → ss ++ read n at fresh (drop at bytes) ≡ r → rest ≡ drop at bytes → length rest ≡ 0 → ss ≡ r
cut_end ss n at fresh bytes rest r e d z =
    sym (append-nil ss) ∙ ap (λ k. ss ++ k) (sym (read-nil n at fresh)) ∙ ap (λ (k : List ℕ). ss ++ read n at fresh k) (sym (nil_from_length rest z) ∙ d) ∙ e

-- so many sections were read
pub cut_all : (ss : List Span) (n i at : ℕ) (fresh : Bool) (rest : List ℕ) (r : List Span) → ss ++ read (n - i) at fresh rest ≡ r → n ≤ i → ss ≡ r
cut_all ss n i at fresh rest r e l = sym (append-nil ss) ∙ ap (λ k. ss ++ k) (sym (read-zero (n - i) at fresh rest (omega (arith, l)))) ∙ e

-- one section more
pub cut_more : (ss more : List Span) (n i at next : ℕ) (fresh : Bool) (bytes rest : List ℕ) (f : Front) (r : List Span) → i < n
    → ss ++ read (n - i) at fresh (drop at bytes) ≡ r → rest ≡ drop at bytes → 0 < length rest → f ≡ front fresh (get_or rest 0 0) rest → next ≡ at + f.length
    → more ≡ ss ++ span_there at f.piece → more ++ read (n - (i + 1)) next f.fresh (drop next bytes) ≡ r
cut_more ss more n i at next fresh bytes rest f r l e d w g x m =
    let k = read (n - (i + 1)) in
    let old = ap (λ (q : List ℕ). ss ++ read (n - i) at fresh q) d ∙ e in
    let step = read-suc (n - i) (n - (i + 1)) at fresh rest (omega (arith, l)) ∙ read_then-at k at fresh rest w ∙ ap (after_front k at rest) (sym g) in
    let place : drop next bytes ≡ drop f.length rest = rw (x, d, drop-drop) refl in
    rw (m, place, x) (append_assoc ss (span_there at f.piece) (k (at + f.length) f.fresh (drop f.length rest)) ∙ ap (λ q. ss ++ q) (sym step) ∙ old)
