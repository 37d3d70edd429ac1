-- What `front` tells is the section in front, and each section is told.
use Rattle.std.proofs.Common.{ℕ, ◌≡◌, ◌<◌, ◌+◌, Bool, true, false, ◌&&◌, ◌==◌, cond, nat_lt, List, [], ◌∷◌, ◌++◌, length, get_or, refl, ap, ◌∙◌, sym, arith, subst, append-nil, inl, inr, ◌⊎◌}
use Rattle.std.proofs.lemmas.Bool.{and_parts, and_from, and_left, or_from, eqb-true, both_ways, cond-true, cond-false, cond_both, ltb-true, lt-ltb, false_from_ne_true}
use Rattle.std.proofs.lemmas.List.{length-append}
use Rattle.ebr_base.specs.Word.{is_white}
use Rattle.ebr_lexer.specs.Lexis.{begins}
use Rattle.ebr_cut.specs.declared.span.Lead.{Lead}
use Rattle.ebr_cut.specs.declared.span.Lead.TheVariants as lead
use Rattle.ebr_cut.specs.declared.span.Front.{Front}
use Rattle.ebr_cut.specs.Lines.{rest_is_white, begins_slash, fresh_behind, fresh_after}
use Rattle.ebr_cut.specs.Heads.{Leads}
use Rattle.ebr_cut.specs.Sections.{Begins, begins_whole_comment, BeforeSlashLine, EndsAsUnit, EndsAsStatement, Ends, Section, Skipped, SlashLine, Piece, bytes_of, IsSection, span_of}
use Rattle.ebr_cut.specs.Reading.{blank_front, unit_length, statement_length, lead_of, skipped_front, unit_front, statement_front, piece_front, front, span_there}
use Rattle.ebr_cut.proofs.Blanks.{blank_sound, blank_is, blank_some, blank_fresh, none_white, none_comment, none_blank, stale_by, slash-black, fresh_after-push}
use Rattle.ebr_cut.proofs.Statements.{zero_from, statement_sound, statement_is, closed_by}
use Rattle.ebr_cut.proofs.Units.{unit_sound, unit_ends, unit_is}
use Rattle.ebr_cut.proofs.Leads.{lead_sound, lead_only}

-- this is told of a section
pub record Fits (f : Front) (fresh : Bool) (s : Section) (more : List ℕ) : Type 0 where
  pub long : f.length ≡ length (bytes_of s)
  pub spans : (at : ℕ) → span_there at f.piece ≡ span_of at s
  pub next : (f.fresh ≡ fresh_after fresh (bytes_of s)) ⊎ (more ≡ [])

-- what is told is a section in front
pub record Sound (fresh : Bool) (bytes : List ℕ) (f : Front) : Type 0 where
  pub section : Section
  pub more : List ℕ
  pub split : bytes ≡ bytes_of section ++ more
  pub fits : IsSection fresh section more
  pub some : 0 < length (bytes_of section)
  pub same : Fits f fresh section more

unit_next : (fresh : Bool) (text closing more : List ℕ) → closing ≡ [] → BeforeSlashLine text more ⊎ (more ≡ []) → (true ≡ fresh_after fresh (text ++ closing)) ⊎ (more ≡ [])
unit_next fresh text closing more c (inl h) =
    inl (sym (ap (λ k. fresh_after fresh (text ++ k)) c ∙ ap (fresh_after fresh) (append-nil text ∙ h.spelled) ∙ fresh_after-push h.before fresh 10))
unit_next fresh text closing more c (inr h) = inr h

unit_fits : (l : Lead) (n : ℕ) (fresh : Bool) (text closing more : List ℕ) → n ≡ length text → EndsAsUnit text closing more → Fits (unit_front l n) fresh (Piece l text closing) more
unit_fits l n fresh text closing more e h =
    let len = length-append text closing in
    let none = ap length h.whole in
    record {
      long = omega (arith, e, len, none);
      spans = λ at. ap (λ k. record { from = at; to = at + k; lead = l } ∷ []) e;
      next = unit_next fresh text closing more h.whole h.ends;
    }

semicolon-black : is_white 59 ≡ false
unfolding is_white
semicolon-black = refl

statement_next : (fresh : Bool) (text closing more : List ℕ) → (closing ≡ 59 ∷ []) ⊎ ((closing ≡ []) × (more ≡ [])) → (false ≡ fresh_after fresh (text ++ closing)) ⊎ (more ≡ [])
statement_next fresh text closing more (inl c) =
    inl (sym (ap (λ k. fresh_after fresh (text ++ k)) c ∙ fresh_after-push text fresh 59 ∙ stale_by (fresh_after fresh text) 59 semicolon-black))
statement_next fresh text closing more (inr c) = inr c.1

statement_long : (n all : ℕ) (text closing more : List ℕ) → n ≡ length text → all ≡ length (text ++ closing ++ more) → (closing ≡ 59 ∷ []) ⊎ ((closing ≡ []) × (more ≡ []))
    → cond (nat_lt n all) (n + 1) n ≡ length (text ++ closing)
statement_long n all text closing more e a (inl c) =
    let one = ap length c in
    let two = length-append text closing in
    let three = length-append (text ++ closing) more in
    let less : n < all = omega (arith, e, a, one, two, three) in
    cond-true (nat_lt n all) (n + 1) n (lt-ltb n all less) ∙ (omega (arith, e, one, two))
statement_long n all text closing more e a (inr c) =
    let one = ap length c.0 in
    let none = ap length c.1 in
    let two = length-append text closing in
    let three = length-append (text ++ closing) more in
    let same : all ≡ n = omega (arith, e, a, one, none, two, three) in
    cond-false (nat_lt n all) (n + 1) n (false_from_ne_true (nat_lt n all) (λ t. let l = ltb-true n all t in omega (arith, l, same))) ∙ (omega (arith, e, one, two))

statement_fits : (l : Lead) (n all : ℕ) (fresh : Bool) (text closing more : List ℕ) → n ≡ length text → all ≡ length (text ++ closing ++ more) → EndsAsStatement text closing more
    → Fits (statement_front l n all) fresh (Piece l text closing) more
statement_fits l n all fresh text closing more e a h =
    let c = closed_by h.how h.tail closing more h.ends in
    record {
      long = statement_long n all text closing more e a c;
      spans = λ at. ap (λ k. record { from = at; to = at + k; lead = l } ∷ []) e;
      next = statement_next fresh text closing more c;
    }

unit_piece : (l : Lead) (fresh : Bool) (b : ℕ) (bs : List ℕ) → Begins fresh (b ∷ bs) → Leads l (b ∷ bs) → ((text closing more : List ℕ) → EndsAsUnit text closing more → Ends l text closing more)
    → Sound fresh (b ∷ bs) (unit_front l (unit_length false (b ∷ bs)))
unit_piece l fresh b bs begins leads e =
    let bytes = b ∷ bs in
    let u = unit_sound bytes false in
    let ends = unit_ends bytes u in
    let split : bytes ≡ u.text ++ [] ++ u.more = u.split ∙ ap (λ k. k ++ u.more) (sym (append-nil u.text)) in
    let long = u.long in
    let nil = ap length (append-nil u.text) in
    let some : 0 < length (u.text ++ []) = omega (arith, long, nil) in
    record {
      section = Piece l u.text [];
      more = u.more;
      split = split;
      fits = record { some = some; begins = subst (Begins fresh) split begins; leads = subst (Leads l) split leads; ends = e u.text [] u.more ends };
      some = some;
      same = unit_fits l (unit_length false bytes) fresh u.text [] u.more u.long ends;
    }

some_by : (text closing more : List ℕ) → 0 < length (text ++ closing ++ more) → (closing ≡ 59 ∷ []) ⊎ ((closing ≡ []) × (more ≡ [])) → 0 < length (text ++ closing)
some_by text closing more l (inl c) = let one = ap length c in let len = length-append text closing in omega (arith, one, len)
some_by text closing more l (inr c) = let none = ap length c.1 in let len = length-append (text ++ closing) more in omega (arith, none, len, l)

statement_piece : (l : Lead) (fresh : Bool) (bytes : List ℕ) → 0 < length bytes → Begins fresh bytes → Leads l bytes → ((text closing more : List ℕ) → EndsAsStatement text closing more → Ends l text closing more)
    → Sound fresh bytes (statement_front l (statement_length bytes) (length bytes))
statement_piece l fresh bytes full begins leads e =
    let s = statement_sound (length bytes) bytes (omega arith) in
    let len = ap length s.split in
    let some = some_by s.text s.closing s.more (omega (arith, len, full)) (closed_by s.ends.how s.ends.tail s.closing s.more s.ends.ends) in
    record {
      section = Piece l s.text s.closing;
      more = s.more;
      split = s.split;
      fits = record { some = some; begins = subst (Begins fresh) s.split begins; leads = subst (Leads l) s.split leads; ends = e s.text s.closing s.more s.ends };
      some = some;
      same = statement_fits l (statement_length bytes) (length bytes) fresh s.text s.closing s.more s.long len s.ends;
    }

piece_by : (l : Lead) (fresh : Bool) (b : ℕ) (bs : List ℕ) → Begins fresh (b ∷ bs) → Leads l (b ∷ bs) → Sound fresh (b ∷ bs) (piece_front l (b ∷ bs))
piece_by lead.Unit fresh b bs begins leads = unit_piece lead.Unit fresh b bs begins leads (λ t c m h. h)
piece_by lead.Block fresh b bs begins leads = unit_piece lead.Block fresh b bs begins leads (λ t c m h. h)
piece_by lead.Call fresh b bs begins leads = statement_piece lead.Call fresh (b ∷ bs) (omega arith) begins leads (λ t c m h. h)
piece_by lead.Other fresh b bs begins leads = statement_piece lead.Other fresh (b ∷ bs) (omega arith) begins leads (λ t c m h. h)

slash_sound : (fresh : Bool) (b : ℕ) (bs : List ℕ) → (fresh && begins_slash (b ∷ bs)) ≡ true → Sound fresh (b ∷ bs) (skipped_front 1 false)
slash_sound fresh b bs e =
    let p = and_parts _ _ e in
    let q = and_parts _ _ p.1 in
    record {
      section = SlashLine;
      more = bs;
      split = ap (λ k. k ∷ bs) (eqb-true b 47 q.0);
      fits = (p.0, q.1);
      some = omega arith;
      same = record { long = refl; spans = λ at. refl; next = inl (sym (stale_by fresh 47 slash-black)) };
    }

-- what is told stands in front
pub front_sound : (fresh : Bool) (b : ℕ) (bs : List ℕ) → Sound fresh (b ∷ bs) (front fresh b (b ∷ bs))
unfolding front
front_sound fresh b bs =
    let bytes = b ∷ bs in
    cond_both (nat_lt 0 (blank_front bytes)) _ _ (Sound fresh bytes)
    (λ e. let w = blank_sound b bs (ltb-true 0 _ e) in record {
      section = Skipped w.kind w.text;
      more = w.more;
      split = w.split;
      fits = w.fits;
      some = blank_some w.kind w.text w.more w.fits;
      same = record { long = w.long; spans = λ at. refl; next = inl (w.fresh fresh) };
    })
    (λ e. cond_both (fresh && begins_slash bytes) _ _ (Sound fresh bytes) (slash_sound fresh b bs)
    (λ s. let z = zero_from (blank_front bytes) e in
    piece_by (lead_of bytes) fresh b bs (record { white = none_white bytes z; comment = none_comment bytes z; slash = s }) (lead_sound bytes)))

abbrev pub front_of : Bool → List ℕ → Front
front_of fresh bytes = front fresh (get_or bytes 0 0) bytes

front-skipped : (fresh : Bool) (b : ℕ) (bytes : List ℕ) → 0 < blank_front bytes → front fresh b bytes ≡ skipped_front (blank_front bytes) (fresh_behind fresh b)
unfolding front
front-skipped fresh b bytes l = cond-true _ _ _ (lt-ltb 0 _ l)

front-slash : (fresh : Bool) (b : ℕ) (bytes : List ℕ) → blank_front bytes ≡ 0 → (fresh && begins_slash bytes) ≡ true → front fresh b bytes ≡ skipped_front 1 false
unfolding front
front-slash fresh b bytes z s =
    cond-false (nat_lt 0 (blank_front bytes)) _ _ (ap (λ n. nat_lt 0 n) z) ∙ cond-true (fresh && begins_slash bytes) _ _ s

front-piece : (fresh : Bool) (b : ℕ) (bytes : List ℕ) → blank_front bytes ≡ 0 → (fresh && begins_slash bytes) ≡ false → front fresh b bytes ≡ piece_front (lead_of bytes) bytes
unfolding front
front-piece fresh b bytes z s =
    cond-false (nat_lt 0 (blank_front bytes)) _ _ (ap (λ n. nat_lt 0 n) z) ∙ cond-false (fresh && begins_slash bytes) _ _ s

star-black : is_white 42 ≡ false
unfolding is_white
star-black = refl

-- a `/` that stands alone begins no comment
slash_alone : (more : List ℕ) → rest_is_white more ≡ true → begins_whole_comment (47 ∷ more) ≡ false
slash_alone [] h = refl
slash_alone (c ∷ cs) h =
    let no : begins 47 42 (47 ∷ c ∷ cs) ≡ false = false_from_ne_true (c == 42) (λ e.
    both_ways (rest_is_white (42 ∷ cs)) (or_from _ _ refl (and_left _ _ star-black)) (subst (λ k. rest_is_white (k ∷ cs) ≡ true) (eqb-true c 42 e) h)) in
    or_from _ _ refl (and_left _ _ no)

pieces_fit : (l : Lead) (fresh : Bool) (text closing more : List ℕ) → Ends l text closing more → Fits (piece_front l (text ++ closing ++ more)) fresh (Piece l text closing) more
pieces_fit lead.Unit fresh text closing more h = unit_fits_there lead.Unit fresh text closing more h where
  unit_fits_there : (l : Lead) (fresh : Bool) (text closing more : List ℕ) → EndsAsUnit text closing more → Fits (unit_front l (unit_length false (text ++ closing ++ more))) fresh (Piece l text closing) more
  unit_fits_there l fresh text closing more h =
      let whole : text ++ closing ++ more ≡ text ++ more = ap (λ k. text ++ k ++ more) h.whole ∙ ap (λ k. k ++ more) (append-nil text) in
      unit_fits l _ fresh text closing more (ap (unit_length false) whole ∙ unit_is text closing more h) h
pieces_fit lead.Block fresh text closing more h =
    let whole : text ++ closing ++ more ≡ text ++ more = ap (λ k. text ++ k ++ more) h.whole ∙ ap (λ k. k ++ more) (append-nil text) in
    unit_fits lead.Block _ fresh text closing more (ap (unit_length false) whole ∙ unit_is text closing more h) h
pieces_fit lead.Call fresh text closing more h = statement_fits lead.Call _ _ fresh text closing more (statement_is text closing more h) refl h
pieces_fit lead.Other fresh text closing more h = statement_fits lead.Other _ _ fresh text closing more (statement_is text closing more h) refl h

-- what stands in front is told
pub section_is : (fresh : Bool) (s : Section) (more : List ℕ) → IsSection fresh s more → Fits (front_of fresh (bytes_of s ++ more)) fresh s more
section_is fresh (Skipped kind text) more h =
    let long = blank_is kind text more h in
    let some = blank_some kind text more h in
    subst (λ f. Fits f fresh (Skipped kind text) more) (sym (front-skipped fresh _ (text ++ more) (omega (arith, long, some))))
    (record { long = long; spans = λ at. refl; next = inl (blank_fresh kind text more fresh h) })
section_is fresh SlashLine more h =
    let none = none_blank (47 ∷ more) slash-black (slash_alone more h.1) in
    subst (λ f. Fits f fresh SlashLine more) (sym (front-slash fresh 47 (47 ∷ more) none (and_from _ _ h.0 h.1)))
    (record { long = refl; spans = λ at. refl; next = inl (sym (stale_by fresh 47 slash-black)) })
section_is fresh (Piece l text closing) more h =
    let bytes = text ++ closing ++ more in
    let none = none_blank bytes h.begins.white h.begins.comment in
    subst (λ f. Fits f fresh (Piece l text closing) more) (sym (front-piece fresh _ bytes none h.begins.slash ∙ ap (λ k. piece_front k bytes) (lead_only l bytes h.leads)))
    (pieces_fit l fresh text closing more h.ends)

pub section_some : (fresh : Bool) (s : Section) (more : List ℕ) → IsSection fresh s more → 0 < length (bytes_of s)
section_some fresh (Skipped kind text) more h = blank_some kind text more h
section_some fresh SlashLine more h = omega arith
section_some fresh (Piece l text closing) more h = h.some
