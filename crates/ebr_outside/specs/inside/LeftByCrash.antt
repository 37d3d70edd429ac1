-- What a read gives is left by a crash, since each call may be done or not; and what is left since a later moment is left since an
-- earlier one.
use Rattle.std.proofs.Common.{◌≡◌, ◌⊎◌, inl, inr, ℕ, ◌+◌, ◌-◌, ◌<◌, ◌≤◌, true, false, IsTrue, List, [], ◌∷◌, ◌++◌, length, take, drop, refl, sym, ◌∙◌, ap, subst, arith, get_or, length-append, length-take, length-drop}
use Rattle.std.proofs.Math.ListN.{get_or-append}
use Rattle.std.proofs.lemmas.List.{take_all, take_min, get_or-take, get_or-drop, get_or-append_right}
use Rattle.ebr_outside.specs.Disk.{LeavesLess, LeavesNow, Torn, Cut, written}
use Rattle.ebr_outside.specs.MemDisk.{Moment, begun, after, replayed, DiskState, reads, as_medium}
use Rattle.ebr_outside.specs.declared.memory.disk_call.DiskCall.{DiskCall}
use Rattle.ebr_outside.specs.declared.memory.disk_call.DiskCall.TheVariants.{Write, Cut as CutTo, Sync}

pub torn_same : (at n : ℕ) (bytes : List ℕ) → Torn at n bytes bytes
torn_same at n bytes = record { stays = λ k lt out. refl; no_shorter = omega arith; no_longer = omega arith }

pub torn_written : (at : ℕ) (piece bytes : List ℕ) → Torn at (length piece) bytes (written bytes at piece)
torn_written at piece bytes = record {
  stays = stays;
  no_shorter = omega (arith, long, length-take at bytes, length-drop (at + length piece) bytes);
  no_longer = omega (arith, long, length-take at bytes, length-drop (at + length piece) bytes);
}
  where
    long : length (written bytes at piece) ≡ length (take at bytes) + length piece + length (drop (at + length piece) bytes)
    long = omega (arith, length-append (take at bytes ++ piece) (drop (at + length piece) bytes), length-append (take at bytes) piece)

    stays : (k : ℕ) → k < length bytes → (k < at) ⊎ (at + length piece ≤ k) → get_or (written bytes at piece) k 0 ≡ get_or bytes k 0
    stays k lt (inl before) =
        get_or-append (take at bytes ++ piece) (drop (at + length piece) bytes) 0 k (omega (arith, length-append (take at bytes) piece, length-take at bytes))
        ∙ get_or-append (take at bytes) piece 0 k (omega (arith, length-take at bytes)) ∙ get_or-take at bytes k 0 before
    stays k lt (inr behind) =
        let n = at + length piece in
        let size : length (take at bytes ++ piece) ≡ n = omega (arith, length-append (take at bytes) piece, length-take at bytes) in
        let back : n + (k - n) ≡ k = omega arith in
        get_or-append_right (take at bytes ++ piece) (drop n bytes) n k 0 size behind ∙ get_or-drop n bytes (k - n) 0 ∙ ap (λ (i : ℕ). get_or bytes i 0) back

pub cut_same : (n : ℕ) (bytes : List ℕ) → Cut n bytes bytes
cut_same n bytes = record { front = sym (take_all (length bytes) bytes (omega arith)); no_shorter = omega arith }

pub cut_done : (n : ℕ) (bytes : List ℕ) → Cut n bytes (take n bytes)
cut_done n bytes = record { front = sym (ap (λ (k : ℕ). take k bytes) (length-take n bytes) ∙ take_min n bytes); no_shorter = omega (arith, length-take n bytes) }

after_left : (c : DiskCall) (m : Moment) → m.leaves m.reads → (after c m).leaves (after c m).reads
after_left (Write at piece true) m left = (m.reads, left, torn_written at piece m.reads)
after_left (Write at piece false) m left = (m.reads, left, torn_same at (length piece) m.reads)
after_left (CutTo len true) m left = (m.reads, left, cut_done len m.reads)
after_left (CutTo len false) m left = (m.reads, left, cut_same len m.reads)
after_left Sync m left = refl

replayed_left : (calls : List DiskCall) (m : Moment) → m.leaves m.reads → (replayed calls m).leaves (replayed calls m).reads
replayed_left [] m left = left
replayed_left (c ∷ calls) m left = replayed_left calls (after c m) (after_left c m left)

pub read_is_left : (s : DiskState) → IsTrue (as_medium s).tells → LeavesNow (as_medium s) (as_medium s).reads
read_is_left s told =
    let all : take (length s.past) s.past ≡ s.past = take_all (length s.past) s.past (omega arith) in
    (length s.past, omega arith, omega arith, subst (λ (calls : List DiskCall). (replayed calls (begun s.first)).leaves (reads s)) (sym all) (replayed_left s.past (begun s.first) refl))

pub leaves_less : (s : DiskState) → LeavesLess (as_medium s)
leaves_less s t u image le left = (left.0, omega (arith, le, left.1), left.2, left.3)
