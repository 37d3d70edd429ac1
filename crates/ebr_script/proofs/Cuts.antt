-- The pieces that a script is cut into.
use Rattle.std.proofs.Common.{◌≡◌, ℕ, ◌+◌, List, [], ◌∷◌, map, slice_range, Result, Ok, Err, refl, sym, ap, subst, ◌∙◌}
use Rattle.std.specs.Prelude.{IfOk}
use Rattle.ebr_cut.specs.declared.span.Span.{Span}
use Rattle.ebr_cut.specs.Reading.{cut}
use Rattle.ebr_cut.proofs.Agreement.{cut_is, cut_only}
use Rattle.ebr_script.specs.declared.piece.Piece.{Piece}
use Rattle.ebr_script.specs.Pieces.{IsPiece, Pieces, Cut, scanned_of, end_in, piece_at, pieces_of, EachIsCut, OneCut}
use Rattle.ebr_script.proofs.Scanned.{scans_so, scans_only}
use Rattle.ebr_script.proofs.Meanings.{means_so, means_only}

piece_is : (script : List ℕ) (s : Span) → IsPiece script s (piece_at script s)
piece_is script s =
    let text = slice_range script s.from s.to in
    record { from = refl; text_end = (scanned_of text, scans_so text, refl); to = refl; means = means_so s.lead text }

piece_only : (script : List ℕ) (s : Span) (p : Piece) → IsPiece script s p → piece_at script s ≡ p
piece_only script s p h =
    let text = slice_range script s.from s.to in
    let kind = means_only s.lead text p.what h.means in
    let end : s.from + end_in (scanned_of text) ≡ p.text_end = ap (λ k. s.from + end_in k) (scans_only text h.text_end.0 h.text_end.1) ∙ sym h.text_end.2 in
    λ i. record { from = sym h.from i; text_end = end i; to = sym h.to i; what = kind i }

each_is : (script : List ℕ) (spans : List Span) → Pieces script spans (map (piece_at script) spans)
each_is script [] = tt
each_is script (s ∷ spans) = (piece_is script s, each_is script spans)

pub each_only : (script : List ℕ) (spans : List Span) (pieces : List Piece) → Pieces script spans pieces → map (piece_at script) spans ≡ pieces
each_only script [] [] h = refl
each_only script [] (p ∷ pieces) h = absurd h
each_only script (s ∷ spans) [] h = absurd h
each_only script (s ∷ spans) (p ∷ pieces) h = λ i. piece_only script s p h.0 i ∷ each_only script spans pieces h.1 i

pub each_is_cut : EachIsCut
unfolding pieces_of
each_is_cut script = record { spans = cut script; cut = cut_is script; each = each_is script (cut script) }

pub one_cut : OneCut
unfolding pieces_of
one_cut script pieces c = sym (ap (map (piece_at script)) (cut_only script c.spans c.cut) ∙ each_only script c.spans pieces c.each)

pub found : {E : Type 0} (script : List ℕ) (r : Result (List Piece) E) → IfOk r (λ ps. ps ≡ pieces_of script) → IfOk r (Cut script)
found script (Err e) h = tt
found script (Ok ps) h = subst (Cut script) (sym h) (each_is_cut script)

pub only : {E : Type 0} (script : List ℕ) (r : Result (List Piece) E) → IfOk r (λ ps. ps ≡ pieces_of script) → (pieces : List Piece) → Cut script pieces → IfOk r (λ ps. ps ≡ pieces)
only script (Err e) h pieces c = tt
only script (Ok ps) h pieces c = h ∙ sym (one_cut script pieces c)
