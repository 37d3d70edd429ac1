-- What `read` gives is how the script is cut, and the other way round.
use Rattle.std.proofs.Common.{ℕ, zero, suc, ◌≡◌, ◌≤◌, ◌-◌, ◌+◌, Bool, true, List, [], ◌∷◌, ◌++◌, length, drop, refl, ap, ◌∙◌, sym, arith, subst, inl, inr, ◌⊎◌, Result, Ok, Err, IfOk}
use Rattle.std.proofs.lemmas.List.{drop_at, length-append, nil_from_length}
use Rattle.ebr_base.specs.declared.clone_in.NoMemory.{NoMemory}
use Rattle.ebr_cut.specs.declared.span.Span.{Span}
use Rattle.ebr_cut.specs.declared.span.Front.{Front}
use Rattle.ebr_cut.specs.Lines.{fresh_after}
use Rattle.ebr_cut.specs.Sections.{Section, bytes_of, Stand, span_of, spans_at, Cut, EachIsCut, OneCut}
use Rattle.ebr_cut.specs.Reading.{front, span_there, after_front, read, cut}
use Rattle.ebr_cut.proofs.Scanning.{read-suc, read-nil, read_then-at}
use Rattle.ebr_cut.proofs.Fronts.{Fits, Sound, front_sound, front_of, section_is, section_some}

-- bytes that begin at a place are cut into these pieces
pub record CutAt (at : ℕ) (fresh : Bool) (bytes : List ℕ) (spans : List Span) : Type 0 where
  pub sections : List Section
  pub stand : Stand fresh sections bytes
  pub listed : spans ≡ spans_at at sections

-- At the script's end it doesn't matter how the line begins.
next_same : (n at : ℕ) (fresh other : Bool) (more : List ℕ) → (fresh ≡ other) ⊎ (more ≡ []) → read n at fresh more ≡ read n at other more
next_same n at fresh other more (inl e) = ap (λ k. read n at k more) e
next_same n at fresh other more (inr e) =
    ap (λ (k : List ℕ). read n at fresh k) e ∙ read-nil n at fresh ∙ sym (read-nil n at other) ∙ ap (λ (k : List ℕ). read n at other k) (sym e)

-- one section
over : (n at : ℕ) (fresh : Bool) (bytes more : List ℕ) (s : Section) (f : Front) → bytes ≡ bytes_of s ++ more → Fits f fresh s more
    → after_front (read n) at bytes f ≡ span_of at s ++ read n (at + length (bytes_of s)) (fresh_after fresh (bytes_of s)) more
over n at fresh bytes more s f e h =
    let after : drop f.length bytes ≡ more = ap (drop f.length) e ∙ drop_at (bytes_of s) more f.length (sym h.long) in
    ap (λ (k : List ℕ). span_there at f.piece ++ read n (at + f.length) f.fresh k) after
    ∙ ap (λ k. k ++ read n (at + f.length) f.fresh more) (h.spans at) ∙ ap (λ k. span_of at s ++ read n (at + k) f.fresh more) h.long
    ∙ ap (λ k. span_of at s ++ k) (next_same n (at + length (bytes_of s)) f.fresh (fresh_after fresh (bytes_of s)) more h.next)

cut_step : (n at : ℕ) (fresh : Bool) (bytes : List ℕ) (f : Front) → ((place : ℕ) (line : Bool) (rest : List ℕ) → length rest ≤ n → CutAt place line rest (read n place line rest)) → length bytes ≤ suc n
    → Sound fresh bytes f → CutAt at fresh bytes (after_front (read n) at bytes f)
cut_step n at fresh bytes f ih l s =
    let text = bytes_of s.section in
    let len = ap length s.split ∙ length-append text s.more in
    let some = s.some in
    let rest = ih (at + length text) (fresh_after fresh text) s.more (omega (arith, len, some, l)) in
    record {
      sections = s.section ∷ rest.sections;
      stand = (s.more, s.split, s.fits, rest.stand);
      listed = over n at fresh bytes s.more s.section f s.split s.same ∙ ap (λ k. span_of at s.section ++ k) rest.listed;
    }

-- what is read is how the bytes are cut
pub read_sound : (n at : ℕ) (fresh : Bool) (bytes : List ℕ) → length bytes ≤ n → CutAt at fresh bytes (read n at fresh bytes)
unfolding read
read_sound zero at fresh bytes l = record { sections = []; stand = nil_from_length bytes (omega (arith, l)); listed = refl }
read_sound (suc n) at fresh [] l = record { sections = []; stand = refl; listed = refl }
read_sound (suc n) at fresh (b ∷ bs) l = cut_step n at fresh (b ∷ bs) (front fresh b (b ∷ bs)) (read_sound n) l (front_sound fresh b bs)

-- how the bytes are cut is read
pub read_only : (ss : List Section) (n at : ℕ) (fresh : Bool) (bytes : List ℕ) → length bytes ≤ n → Stand fresh ss bytes → read n at fresh bytes ≡ spans_at at ss
read_only [] n at fresh bytes l h = ap (λ (k : List ℕ). read n at fresh k) h ∙ read-nil n at fresh
read_only (s ∷ ss) n at fresh bytes l h =
    let text = bytes_of s in
    let more = h.0 in
    let len = ap length h.1 ∙ length-append text more in
    let some = section_some fresh s more h.2 in
    let one : n ≡ n - 1 + 1 = omega (arith, l, len, some) in
    let fits = subst (λ (k : List ℕ). Fits (front_of fresh k) fresh s more) (sym h.1) (section_is fresh s more h.2) in
    let rest = read_only ss (n - 1) (at + length text) (fresh_after fresh text) more (omega (arith, l, len, some)) h.3 in
    read-suc n (n - 1) at fresh bytes one ∙ read_then-at (read (n - 1)) at fresh bytes (omega (arith, len, some))
    ∙ over (n - 1) at fresh bytes more s (front_of fresh bytes) h.1 fits ∙ ap (λ k. span_of at s ++ k) rest

-- what is read is how the script is cut
pub cut_is : (script : List ℕ) → Cut script (cut script)
cut_is script =
    let c = read_sound (length script) 0 true script (omega arith) in
    record { sections = c.sections; stand = c.stand; listed = c.listed }

-- how the script is cut is read
pub cut_only : (script : List ℕ) (spans : List Span) → Cut script spans → cut script ≡ spans
cut_only script spans c = read_only c.sections (length script) 0 true script (omega arith) c.stand ∙ sym c.listed

pub each_is_cut : EachIsCut
each_is_cut script = (cut script, cut_is script)

pub one_cut : OneCut
one_cut script spans others c d = sym (cut_only script spans c) ∙ cut_only script others d

-- the same of an answer
pub found : (script : List ℕ) (answer : Result (List Span) NoMemory) → IfOk answer (λ spans. spans ≡ cut script) → IfOk answer (Cut script)
found script (Ok spans) e = subst (Cut script) (sym e) (cut_is script)
found script (Err e) h = tt

pub only : (script : List ℕ) (answer : Result (List Span) NoMemory) (spans : List Span) → IfOk answer (λ r. r ≡ cut script) → Cut script spans → IfOk answer (λ r. r ≡ spans)
only script (Ok r) spans e c = e ∙ cut_only script spans c
only script (Err e) spans h c = tt
