-- What is left of a file while a piece is written behind its closed gate, and while the gate is opened.
use Rattle.std.proofs.Common.{◌≡◌, inl, inr, ℕ, ◌+◌, ◌≤◌, List, [], ◌∷◌, ◌++◌, length, take, drop, get_or, sym, ◌∙◌, ap, arith, append_assoc, length-append, length-drop, length-take, take-append-drop}
use Rattle.std.proofs.lemmas.List.{take_at, drop_at, drop_more}
use Rattle.std.proofs.Math.Nat.{max-le}
use Rattle.std.proofs.lemmas.Bool.{cases_eq}
use Rattle.ebr_outside.specs.Disk.{Torn, written}
use Rattle.ebr_record.specs.Keeper.{max_journal}
use Rattle.ebr_journal.specs.Journal.{form_of, front, last_gate, AreSpelled, Ends, IsSafe, Layout}
use Rattle.ebr_journal.specs.Keeper.{HasFront}
use Rattle.ebr_journal.specs.Crash.{IsBeforeOrAfter}
use Rattle.ebr_journal.proofs.Bytes.{torn_front, torn_end}

-- a file that gets longer, but not too long
torn_short : (at n : ℕ) (bytes image : List ℕ) → length bytes ≤ max_journal → at + n ≤ max_journal → Torn at n bytes image → length image ≤ max_journal
torn_short at n bytes image short fits torn = let most = max-le short fits in omega (arith, torn.no_longer, most)

written_short : (at : ℕ) (piece bytes : List ℕ) → at ≤ length bytes → length bytes ≤ max_journal → at + length piece ≤ max_journal → length (written bytes at piece) ≤ max_journal
written_short at piece bytes reach short fits =
    omega (
      arith,
      reach,
      short,
      fits,
      length-append (take at bytes ++ piece) (drop (at + length piece) bytes),
      length-append (take at bytes) piece,
      length-take at bytes,
      length-drop (at + length piece) bytes,
    )

module _ (l : Layout) (gate : ℕ) (place : gate ≡ length (front l)) where
  -- bytes with this layout reach behind their closed gate
  pub within : (bytes : List ℕ) → Ends bytes l → gate + 1 ≤ length bytes
  within bytes ends = omega (arith, ap length ends.is, length-append (front l) (ends.gate ∷ ends.rest), place)

  pub front_of : (bytes : List ℕ) → Ends bytes l → take gate bytes ≡ front l
  front_of bytes ends = ap (λ (b : List ℕ). take gate b) ends.is ∙ take_at (front l) (ends.gate ∷ ends.rest) gate (sym place)

  pub has_front : (bytes : List ℕ) → Ends bytes l → HasFront bytes gate l
  has_front bytes ends = record { place = place; front = front_of bytes ends; spelled = ends.spelled }

  to_gate : (bytes : List ℕ) (ends : Ends bytes l) → take (gate + 1) bytes ≡ front l ++ ends.gate ∷ []
  to_gate bytes ends =
      ap (λ (b : List ℕ). take (gate + 1) b) (ends.is ∙ sym (append_assoc (front l) (ends.gate ∷ []) ends.rest))
      ∙ take_at (front l ++ ends.gate ∷ []) ends.rest (gate + 1) (omega (arith, length-append (front l) (ends.gate ∷ []), place))

  -- so do all that are the same up to the gate, with it
  pub same_ends : (bytes image : List ℕ) → Ends bytes l → take (gate + 1) image ≡ take (gate + 1) bytes → Ends image l
  same_ends bytes image ends same = record {
    gate = ends.gate;
    rest = drop (gate + 1) image;
    closed = ends.closed;
    is = sym (take-append-drop (gate + 1) image) ∙ ap (λ (b : List ℕ). b ++ drop (gate + 1) image) (same ∙ to_gate bytes ends) ∙ append_assoc (front l) (ends.gate ∷ []) (drop (gate + 1) image);
    spelled = ends.spelled;
  }

  pub torn_behind : (n : ℕ) (bytes image : List ℕ) → IsSafe bytes l → gate + 1 + n ≤ max_journal → Torn (gate + 1) n bytes image → IsSafe image l
  torn_behind n bytes image safe fits torn = record {
    ends = same_ends bytes image safe.ends (torn_front (gate + 1) n bytes image torn (gate + 1) (omega arith) (within bytes safe.ends));
    room = safe.room;
    short = torn_short (gate + 1) n bytes image safe.short fits torn;
  }

  pub written_behind : (piece bytes : List ℕ) → IsSafe bytes l → gate + 1 + length piece ≤ max_journal → IsSafe (written bytes (gate + 1) piece) l
  written_behind piece bytes safe fits =
      let reach = within bytes safe.ends in
      let long : length (take (gate + 1) bytes) ≡ gate + 1 = omega (arith, length-take (gate + 1) bytes, reach) in
      record {
        ends = same_ends bytes (written bytes (gate + 1) piece) safe.ends
            (ap (λ (b : List ℕ). take (gate + 1) b) (append_assoc (take (gate + 1) bytes) piece (drop (gate + 1 + length piece) bytes)) ∙ take_at (take (gate + 1) bytes) (piece ++ drop (gate + 1 + length piece) bytes) (gate + 1) long);
        room = safe.room;
        short = written_short (gate + 1) piece bytes reach safe.short fits;
      }

  -- what then stands behind the gate
  pub behind : (piece bytes : List ℕ) → Ends bytes l → drop (gate + 1) (written bytes (gate + 1) piece) ≡ piece ++ drop (gate + 1 + length piece) bytes
  behind piece bytes ends =
      let long : length (take (gate + 1) bytes) ≡ gate + 1 = omega (arith, length-take (gate + 1) bytes, within bytes ends) in
      ap (λ (b : List ℕ). drop (gate + 1) b) (append_assoc (take (gate + 1) bytes) piece (drop (gate + 1 + length piece) bytes)) ∙ drop_at (take (gate + 1) bytes) (piece ++ drop (gate + 1 + length piece) bytes) (gate + 1) long

  -- the layout with what comes next
  module _ (next : Layout) (body : List ℕ) (grows : front next ≡ front l ++ 1 ∷ body) (spelled : AreSpelled next) (room : length (front next) ≤ last_gate (form_of next.long)) (rest : List ℕ) where
    -- the gate is open, and behind it stand the body and a closed one
    pub opened : (image : List ℕ) → image ≡ front l ++ 1 ∷ ((body ++ 0 ∷ []) ++ rest) → Ends image next
    opened image is = record { gate = 0; rest = rest; closed = omega arith; is = is ∙ shape; spelled = spelled }
      where
        shape : front l ++ 1 ∷ ((body ++ 0 ∷ []) ++ rest) ≡ front next ++ 0 ∷ rest
        shape =
            ap (λ (b : List ℕ). front l ++ 1 ∷ b) (append_assoc body (0 ∷ []) rest)
            ∙ sym (append_assoc (front l) (1 ∷ body) (0 ∷ rest))
            ∙ ap (λ (b : List ℕ). b ++ 0 ∷ rest) (sym grows)

    -- the gate is torn, and the body stands whole behind it
    pub torn_gate : (bytes image : List ℕ) → IsSafe bytes l → drop (gate + 1) bytes ≡ (body ++ 0 ∷ []) ++ rest → Torn gate 1 bytes image → IsBeforeOrAfter l next image
    torn_gate bytes image safe stands torn =
        let reach = within bytes safe.ends in
        let short : length image ≤ max_journal = torn_short gate 1 bytes image safe.short (omega (arith, reach, safe.short)) torn in
        let first : take gate image ≡ front l = torn_front gate 1 bytes image torn gate (omega arith) (omega (arith, reach)) ∙ front_of bytes safe.ends in
        let last : drop (gate + 1) image ≡ (body ++ 0 ∷ []) ++ rest = torn_end gate 1 bytes image torn reach ∙ stands in
        let byte = get_or image gate 0 in
        let from : drop gate image ≡ byte ∷ drop (gate + 1) image = drop_more image gate 0 (omega (arith, torn.no_shorter, reach)) in
        let whole : image ≡ front l ++ byte ∷ ((body ++ 0 ∷ []) ++ rest) =
        sym (take-append-drop gate image) ∙ ap (λ (b : List ℕ). b ++ drop gate image) first ∙ ap (λ (b : List ℕ). front l ++ b) (from ∙ ap (λ (b : List ℕ). byte ∷ b) last) in
        elim (cases_eq byte 1) [
          | inl is_open ↦ inr (record { ends = opened image (whole ∙ ap (λ (k : ℕ). front l ++ k ∷ ((body ++ 0 ∷ []) ++ rest)) is_open); room = room; short = short })
          | inr shut ↦ inl (record { ends = record { gate = byte; rest = (body ++ 0 ∷ []) ++ rest; closed = shut; is = whole; spelled = safe.ends.spelled }; room = safe.room; short = short })
        ]

    pub written_gate : (bytes : List ℕ) → IsSafe bytes l → drop (gate + 1) bytes ≡ (body ++ 0 ∷ []) ++ rest → IsSafe (written bytes gate (1 ∷ [])) next
    written_gate bytes safe stands =
        let reach = within bytes safe.ends in
        record {
          ends = opened (written bytes gate (1 ∷ [])) (
              ap (λ (b : List ℕ). b ++ 1 ∷ [] ++ drop (gate + 1) bytes) (front_of bytes safe.ends)
              ∙ append_assoc (front l) (1 ∷ []) (drop (gate + 1) bytes)
              ∙ ap (λ (b : List ℕ). front l ++ 1 ∷ b) stands
              );
          room = room;
          short = written_short gate (1 ∷ []) bytes (omega (arith, reach)) safe.short (omega (arith, reach, safe.short));
        }

  -- where the gate's write failed the front is as it was
  pub torn_front_of : (at n : ℕ) (bytes image : List ℕ) → HasFront bytes gate l → gate ≤ at → gate ≤ length bytes → Torn at n bytes image → HasFront image gate l
  torn_front_of at n bytes image has le reach torn = record { place = has.place; front = torn_front at n bytes image torn gate le reach ∙ has.front; spelled = has.spelled }
