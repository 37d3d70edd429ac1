-- What was read of a source so far.
use Rattle.std.proofs.Common.{ℕ, ◌≡◌, ◌+◌, ◌≤◌, List, ◌++◌, length, take, drop, Option, Some, None, arith, refl, sym, ◌∙◌, ap, subst, length-append, length-drop}
use Rattle.std.specs.Prelude.{IfSome}
use Rattle.std.proofs.Math.Seq.{take-add}
use Rattle.std.proofs.lemmas.List.{take_all, length-take-le, drop-drop}
use Rattle.ebr_server.specs.inside.Reading.{Reads, ReadsNext}

pub record IsFirst (all bytes : List ℕ) (rest : Option (List ℕ)) : Type 0 where
  pub first : bytes ≡ take (length bytes) all
  pub others : rest ≡ Some (drop (length bytes) all)
  pub within : length bytes ≤ length all

-- The bytes are the first of all that the source had, and it has the others.
abbrev pub IsRead : Option (List ℕ) → List ℕ → Option (List ℕ) → Type 0
IsRead None bytes rest = rest ≡ None
IsRead (Some all) bytes rest = IsFirst all bytes rest

next_first : (all old new : List ℕ) (n : ℕ) (rest : Option (List ℕ)) → IsFirst all old (Some (drop (length old) all))
    → ReadsNext (drop (length old) all) n old new rest → IsFirst all new rest
next_first all old new n rest before reads =
    let grown : length new ≡ length old + n = ap length reads.added ∙ (length-append old (take n (drop (length old) all)) ∙ ap (λ k. length old + k) (length-take-le n (drop (length old) all) reads.within)) in
    record {
      first = reads.added ∙ (ap (λ xs. xs ++ take n (drop (length old) all)) before.first ∙ (sym (take-add (length old) n all) ∙ ap (λ k. take k all) (sym grown)));
      others = reads.others ∙ ap Some (drop-drop n (length old) all ∙ ap (λ k. drop k all) (sym grown));
      within = omega (arith, length-drop (length old) all, before.within, reads.within);
    }

at_place : (all old : List ℕ) (mid : Option (List ℕ)) → IsFirst all old mid → IsFirst all old (Some (drop (length old) all))
at_place all old mid before = record { first = before.first; others = refl; within = before.within }

reads_at : (all old new : List ℕ) (mid : Option (List ℕ)) (n : ℕ) (rest : Option (List ℕ)) → IsFirst all old mid → Reads mid n old new rest
    → ReadsNext (drop (length old) all) n old new rest
reads_at all old new mid n rest before reads =
    let P : Option (List ℕ) → Type 0 = λ m. Reads m n old new rest in
    subst P before.others reads

all_read : (all new : List ℕ) (rest : Option (List ℕ)) (most : ℕ) → IsFirst all new rest → length all ≤ length new → length all ≤ most → new ≡ take most all
all_read all new rest most first enough limit = first.first ∙ (take_all (length new) all enough ∙ sym (take_all most all limit))

-- one more read
pub read_on : (all : Option (List ℕ)) (old new : List ℕ) (mid : Option (List ℕ)) (n : ℕ) (rest : Option (List ℕ)) → IsRead all old mid → Reads mid n old new rest → IsRead all new rest
read_on None old new mid n rest none reads =
    let P : Option (List ℕ) → Type 0 = λ m. Reads m n old new rest in
    subst P none reads
read_on (Some all) old new mid n rest first reads = next_first all old new n rest (at_place all old mid first) (reads_at all old new mid n rest first reads)

-- the end of the source
pub read_to_end : (all : Option (List ℕ)) (old new : List ℕ) (mid : Option (List ℕ)) (n most : ℕ) (rest : Option (List ℕ)) → IsRead all old mid → Reads mid n old new rest
    → n ≡ 0 → length old ≤ most → IfSome all (λ bytes. new ≡ take most bytes)
read_to_end None old new mid n most rest none reads zero_read limit = tt
read_to_end (Some all) old new mid n most rest first reads zero_read limit =
    let next = reads_at all old new mid n rest first reads in
    let none_left : length (drop (length old) all) ≡ 0 = ap length (next.at_end zero_read) in
    let on = next_first all old new n rest (at_place all old mid first) next in
    let grown : length new ≡ length old + length (take n (drop (length old) all)) = ap length next.added ∙ length-append old (take n (drop (length old) all)) in
    let short : length all ≤ length old = omega (arith, length-drop (length old) all, none_left) in
    all_read all new rest most on (omega arith) (omega arith)

-- as many bytes as a script may have, and one more
pub read_enough : (all : Option (List ℕ)) (bytes : List ℕ) (rest : Option (List ℕ)) (most : ℕ) → IsRead all bytes rest → length bytes ≡ most → IfSome all (λ a. bytes ≡ take most a)
read_enough None bytes rest most none full = tt
read_enough (Some all) bytes rest most first full = first.first ∙ ap (λ k. take k all) full
