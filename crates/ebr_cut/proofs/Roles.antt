-- Each byte of a script has a role.
use Rattle.std.proofs.Common.{ℕ, ◌≡◌, ◌<◌, ◌≤◌, ◌+◌, Bool, true, List, [], ◌∷◌, ◌++◌, length, refl, ap, ◌∙◌, sym, arith, subst, append_assoc, inl, inr, ◌⊎◌}
use Rattle.std.proofs.lemmas.Bool.{cases_lt}
use Rattle.std.proofs.lemmas.List.{length-append}
use Rattle.std.proofs.lemmas.List.Elements.{Contains-append_right}
use Rattle.ebr_cut.specs.declared.span.Span.{Span}
use Rattle.ebr_cut.specs.declared.span.Lead.{Lead}
use Rattle.ebr_cut.specs.declared.span.Lead.TheVariants as lead
use Rattle.ebr_cut.specs.Lines.{fresh_behind, fresh_after}
use Rattle.ebr_cut.specs.Sections.{Section, Skipped, SlashLine, Piece, Ends, EndsAsStatement, bytes_of, IsSection, Stand, span_of, spans_at, Role, OfPiece, Closing, OfBlank, OfSlashLine, HasRole, EachByteHasARole}
use Rattle.ebr_cut.proofs.Statements.{closed_by}

pub fresh_after-append : (xs ys : List ℕ) (fresh : Bool) → fresh_after fresh (xs ++ ys) ≡ fresh_after (fresh_after fresh xs) ys
fresh_after-append [] ys fresh = refl
fresh_after-append (x ∷ xs) ys fresh = fresh_after-append xs ys (fresh_behind fresh x)

abbrev Roled : List ℕ → List Span → ℕ → Type 0
Roled script spans place = (role : Role) × HasRole role script spans place

-- a role among some of the pieces is one among all of them
more_right : (script : List ℕ) (ss ts : List Span) (place : ℕ) → Roled script ts place → Roled script (ss ++ ts) place
more_right script ss ts place (OfPiece, h) = (OfPiece, (h.0, Contains-append_right ss ts h.0 h.1, h.2, h.3))
more_right script ss ts place (Closing, h) = (Closing, (h.0, Contains-append_right ss ts h.0 h.1, h.2, h.3, h.4, h.5, h.6))
more_right script ss ts place (OfBlank, h) = (OfBlank, h)
more_right script ss ts place (OfSlashLine, h) = (OfSlashLine, h)

-- what closes a piece
statement_closing : (text closing more : List ℕ) → EndsAsStatement text closing more → (closing ≡ 59 ∷ []) ⊎ (closing ≡ [])
statement_closing text closing more h = elim (closed_by h.how h.tail closing more h.ends) [ inl e ↦ inl e | inr e ↦ inr e.0 ]

closing_of : (l : Lead) (text closing more : List ℕ) → Ends l text closing more → (closing ≡ 59 ∷ []) ⊎ (closing ≡ [])
closing_of lead.Unit text closing more h = inr h.whole
closing_of lead.Block text closing more h = inr h.whole
closing_of lead.Call text closing more h = statement_closing text closing more h
closing_of lead.Other text closing more h = statement_closing text closing more h

-- the byte behind a piece
closing_role : (script before text closing more : List ℕ) (l : Lead) (at place : ℕ) (rest : List Span) → script ≡ before ++ (text ++ closing) ++ more → at ≡ length before
    → at + length text ≤ place → place < at + length (text ++ closing) → (closing ≡ 59 ∷ []) ⊎ (closing ≡ []) → Roled script (record { from = at; to = at + length text; lead = l } ∷ rest) place
closing_role script before text closing more l at place rest e a low high (inr c) =
    let len = length-append text closing in
    let none = ap length c in
    absurd (omega (arith, low, high, len, none))
closing_role script before text closing more l at place rest e a low high (inl c) =
    let len = length-append text closing in
    let one = ap length c in
    let joined = length-append before text in
    let split = e ∙ ap (λ k. before ++ (text ++ k) ++ more) c ∙ ap (λ k. k ++ more) (sym (append_assoc before text (59 ∷ []))) ∙ append_assoc (before ++ text) (59 ∷ []) more in
    let here : place ≡ at + length text = omega (arith, low, high, len, one) in
    let behind : place ≡ length (before ++ text) = omega (arith, here, joined, a) in
    (Closing, (record { from = at; to = at + length text; lead = l }, (0, omega arith, refl), here, before ++ text, more, split, behind))

section_role : (fresh : Bool) (s : Section) (script before more : List ℕ) (at place : ℕ) (rest : List Span) → script ≡ before ++ bytes_of s ++ more → at ≡ length before → fresh ≡ fresh_after true before
    → at ≤ place → place < at + length (bytes_of s) → IsSection fresh s more → Roled script (span_of at s ++ rest) place
section_role fresh (Skipped kind text) script before more at place rest e a f low high h = (OfBlank, (kind, before, text, more, e, h, omega (arith, a, low), omega (arith, a, high)))
section_role fresh SlashLine script before more at place rest e a f low high h =
    (OfSlashLine, (before, more, e ∙ append_assoc before (47 ∷ []) more, omega (arith, a, low, high), sym f ∙ h.0, h.1))
section_role fresh (Piece l text closing) script before more at place rest e a f low high h = piece_role (cases_lt place (at + length text)) where
  piece_role : (place < at + length text) ⊎ (at + length text ≤ place) → Roled script (record { from = at; to = at + length text; lead = l } ∷ rest) place
  piece_role (inl lt) = (OfPiece, (record { from = at; to = at + length text; lead = l }, (0, omega arith, refl), low, lt))
  piece_role (inr le) = closing_role script before text closing more l at place rest e a le high (closing_of l text closing more h.ends)

one_or_more : (s : Section) (ss : List Section) (script : List ℕ) (at place : ℕ) → (place < at + length (bytes_of s) → Roled script (span_of at s ++ spans_at (at + length (bytes_of s)) ss) place)
    → (at + length (bytes_of s) ≤ place → Roled script (spans_at (at + length (bytes_of s)) ss) place) → Roled script (span_of at s ++ spans_at (at + length (bytes_of s)) ss) place
one_or_more s ss script at place here later = elim (cases_lt place (at + length (bytes_of s))) [
  | inl lt ↦ here lt
  | inr le ↦ more_right script (span_of at s) (spans_at (at + length (bytes_of s)) ss) place (later le)
]

roles : (ss : List Section) (fresh : Bool) (script before bytes : List ℕ) (at place : ℕ) → script ≡ before ++ bytes → at ≡ length before → fresh ≡ fresh_after true before → Stand fresh ss bytes
    → at ≤ place → place < at + length bytes → Roled script (spans_at at ss) place
roles [] fresh script before bytes at place e a f h low high = let none = ap length h in absurd (omega (arith, low, high, none))
roles (s ∷ ss) fresh script before bytes at place e a f h low high =
    let text = bytes_of s in
    let more = h.0 in
    let line = fresh_after fresh text in
    let len = ap length h.1 ∙ length-append text more in
    let next = at + length text in
    let split : script ≡ before ++ text ++ more = e ∙ ap (λ k. before ++ k) h.1 ∙ sym (append_assoc before text more) in
    let place' : next ≡ length (before ++ text) = (let joined = length-append before text in omega (arith, joined, a)) in
    let fresh' : line ≡ fresh_after true (before ++ text) = ap (λ k. fresh_after k text) f ∙ sym (fresh_after-append before text true) in
    one_or_more s ss script at place
    (λ lt. section_role fresh s script before more at place (spans_at next ss) split a f low lt h.2)
    (λ le. roles ss line script (before ++ text) more next place split place' fresh' h.3 le (omega (arith, high, len)))

pub each_byte_has_a_role : EachByteHasARole
each_byte_has_a_role script spans c place l =
    subst (λ ss. Roled script ss place) (sym c.listed) (roles c.sections true script [] script 0 place refl refl refl c.stand (omega arith) (omega (arith, l)))
