-- One call more of a disk in memory.
use Rattle.std.proofs.Common.{◌≡◌, ◌≢◌, ◌⊎◌, inl, inr, ℕ, ◌+◌, ◌≤◌, true, false, List, [], ◌∷◌, ◌++◌, length, take, Result, Ok, Err, OnOk, IsErrOf, refl, sym, ◌∙◌, ap, subst, arith, length-append}
use Rattle.std.proofs.lemmas.List.{take_all, take-append-le}
use Rattle.std.proofs.lemmas.Bool.{cases_eq}
use Rattle.std.proofs.lemmas.Bool.Decides.{nat_tests}
use Rattle.ebr_faults.specs.Faults.{one_more, Rises}
use Rattle.ebr_outside.specs.Disk.{LeavesNow, Torn, Cut, Passes, Goes, Writes, Shortens, Syncs}
use Rattle.ebr_outside.specs.Calls.{after_call, after_fault}
use Rattle.ebr_outside.specs.MemDisk.{Moment, reads_after, begun, after, replayed, DiskState, now, reads, LeftSince, as_medium, IsAsBefore}
use Rattle.ebr_outside.specs.inside.LeftByCrash.{torn_same, cut_same}
use Rattle.ebr_outside.specs.declared.disk.DiskErr.{DiskErr}
use Rattle.ebr_outside.specs.declared.disk.DiskErr.TheVariants.{Failed, NoMemory}
use Rattle.ebr_outside.specs.declared.memory.disk_call.DiskCall.{DiskCall}
use Rattle.ebr_outside.specs.declared.memory.disk_call.DiskCall.TheVariants.{Write, Cut as CutTo, Sync}
use Rattle.ebr_outside.specs.declared.memory.fail.Calls.{Calls}

pub push_reads : (past : List DiskCall) (c : DiskCall) (m : Moment) → (replayed (past ++ c ∷ []) m).reads ≡ (after c (replayed past m)).reads
push_reads [] c m = refl
push_reads (x ∷ past) c m = push_reads past c (after x m)

pub push_leaves : (past : List DiskCall) (c : DiskCall) (m : Moment) (image : List ℕ) → (replayed (past ++ c ∷ []) m).leaves image → (after c (replayed past m)).leaves image
push_leaves [] c m image left = left
push_leaves (x ∷ past) c m image left = push_leaves past c (after x m) image left

pub same_reads : (c : DiskCall) (m : Moment) → (after c m).reads ≡ reads_after c m.reads
same_reads (Write at piece done) m = refl
same_reads (CutTo len done) m = refl
same_reads Sync m = refl

-- The bytes are kept up to date by a call that is done to them.
pub kept_by : (first bytes bytes' : List ℕ) (past past' : List DiskCall) (c : DiskCall) → past' ≡ past ++ c ∷ [] → bytes' ≡ reads_after c bytes
    → bytes ≡ (replayed past (begun first)).reads → bytes' ≡ (replayed past' (begun first)).reads
kept_by first bytes bytes' past past' c grown done is =
    done ∙ ap (reads_after c) is ∙ sym (same_reads c (replayed past (begun first))) ∙ sym (ap (λ (p : List DiskCall). (replayed p (begun first)).reads) grown ∙ push_reads past c (begun first))

pub rises : (n : ℕ) → Rises n (one_more n)
rises n = grind (arith, nat_tests)

grows : (n : ℕ) → n ≤ one_more n
grows n = grind (arith, nat_tests)

-- what is left now is left after all calls
pub left_now : (s : DiskState) (image : List ℕ) → (now s).leaves image → LeavesNow (as_medium s) image
left_now s image left =
    let all : take (length s.past) s.past ≡ s.past = take_all (length s.past) s.past (omega arith) in
    (length s.past, omega arith, omega arith, subst (λ (p : List DiskCall). (replayed p (begun s.first)).leaves image) (sym all) left)

-- and the other way round
pub now_left : (s : DiskState) (image : List ℕ) → LeavesNow (as_medium s) image → (now s).leaves image
now_left s image left = subst (λ (p : List DiskCall). (replayed p (begun s.first)).leaves image) (take_all left.0 s.past left.1) left.3

module _ (s : DiskState) (c : DiskCall) (calls : Calls) (counted : s.calls.faults ≤ calls.faults) where
  abbrev more : DiskState
  more = record { first = s.first; past = s.past ++ c ∷ []; calls = calls }

  size : length (s.past ++ c ∷ []) ≡ length s.past + 1
  size = omega (arith, length-append s.past (c ∷ []))

  pub more_goes : Goes (as_medium s) (as_medium more)
  more_goes = record { tells = refl; faults = counted; moment = omega (arith, size) }

  pub more_images : (image : List ℕ) → LeavesNow (as_medium more) image → (after c (now s)).leaves image
  more_images image left =
      push_leaves s.past c (begun s.first) image
      (subst (λ (p : List DiskCall). (replayed p (begun s.first)).leaves image) (take_all left.0 (s.past ++ c ∷ []) left.1) left.3)

  early : (k : ℕ) → k ≤ length s.past → take k (s.past ++ c ∷ []) ≡ take k s.past
  early k le = take-append-le k s.past (c ∷ []) le

  pub more_time : Passes (as_medium s) (as_medium more) (LeavesNow (as_medium more))
  more_time = record {
    later = omega (arith, size);
    only = λ t image le left. by t image left (cases_eq left.0 (length s.past + 1));
    keeps = λ t image le left. (left.0, left.1, omega (arith, size, left.2), subst (λ (p : List DiskCall). (replayed p (begun s.first)).leaves image) (sym (early left.0 left.2)) left.3);
  }
    where
      by : (t : ℕ) (image : List ℕ) (left : LeftSince more t image) → (left.0 ≡ length s.past + 1) ⊎ (left.0 ≢ length s.past + 1) → LeftSince s t image ⊎ LeavesNow (as_medium more) image
      by t image left (inl last) = inr (left.0, omega (arith, size, last), left.2, left.3)
      by t image left (inr other) =
          let le : left.0 ≤ length s.past = omega (arith, size, other, left.2) in
          inl (left.0, left.1, le, subst (λ (p : List DiskCall). (replayed p (begun s.first)).leaves image) (early left.0 le) left.3)

  pub more_reads : reads more ≡ (after c (now s)).reads
  more_reads = push_reads s.past c (begun s.first)

-- only calls were counted
module _ (s : DiskState) (calls : Calls) (counted : s.calls.faults ≤ calls.faults) where
  abbrev same : DiskState
  same = record { first = s.first; past = s.past; calls = calls }

  same_goes : Goes (as_medium s) (as_medium same)
  same_goes = record { tells = refl; faults = counted; moment = omega arith }

  same_time : Passes (as_medium s) (as_medium same) (LeavesNow (as_medium same))
  same_time = record { later = omega arith; only = λ t image le left. inl left; keeps = λ t image le left. left }

  pub idle_write : (at : ℕ) (piece : List ℕ) (e : DiskErr) → Writes (as_medium s) at piece (Err e) (as_medium same)
  idle_write at piece e = record {
    goes = same_goes;
    reads = λ told. torn_same at (length piece) (reads s);
    images = λ told image left. (image, left, torn_same at (length piece) image);
    time = λ told. same_time;
  }

  pub idle_cut : (len : ℕ) (e : DiskErr) → Shortens (as_medium s) len (Err e) (as_medium same)
  idle_cut len e = record {
    goes = same_goes;
    reads = λ told. cut_same len (reads s);
    images = λ told image left. (image, left, cut_same len image);
    time = λ told. same_time;
  }

  pub idle_sync : (e : DiskErr) → Syncs (as_medium s) (Err e) (as_medium same)
  idle_sync e = record { goes = same_goes; reads = λ told. refl; images = λ told image left. left; time = λ told. same_time }

before_is : (s s' : DiskState) → IsAsBefore s s' → s' ≡ record { first = s.first; past = s.past; calls = s'.calls }
before_is s s' b = λ i. record { first = b.first i; past = b.past i; calls = s'.calls }

pub writes : (s s' : DiskState) (at : ℕ) (piece : List ℕ) (answer : Result (Unit {0}) DiskErr)
    → OnOk answer (s' ≡ record { first = s.first; past = s.past ++ Write at piece true ∷ []; calls = after_call s.calls })
    → (IsErrOf answer Failed → s' ≡ record { first = s.first; past = s.past ++ Write at piece false ∷ []; calls = after_fault s.calls })
    → (IsErrOf answer NoMemory → IsAsBefore s s') → Writes (as_medium s) at piece answer (as_medium s')
writes s s' at piece (Ok x) ok failed idle = subst (λ (new : DiskState). Writes (as_medium s) at piece (Ok x) (as_medium new)) (sym ok) (record {
  goes = more_goes s (Write at piece true) (after_call s.calls) (omega arith);
  reads = λ told. more_reads s (Write at piece true) (after_call s.calls) (omega arith);
  images = λ told image left. let from = more_images s (Write at piece true) (after_call s.calls) (omega arith) image left in (from.0, left_now s from.0 from.1, from.2);
  time = λ told. more_time s (Write at piece true) (after_call s.calls) (omega arith);
})
writes s s' at piece (Err Failed) ok failed idle = subst (λ (new : DiskState). Writes (as_medium s) at piece (Err Failed) (as_medium new)) (sym (failed refl)) (record {
  goes = more_goes s (Write at piece false) (after_fault s.calls) (grows s.calls.faults);
  reads = λ told. subst (λ (r : List ℕ). Torn at (length piece) (reads s) r) (sym (more_reads s (Write at piece false) (after_fault s.calls) (grows s.calls.faults))) (torn_same at (length piece) (reads s));
  images = λ told image left. let from = more_images s (Write at piece false) (after_fault s.calls) (grows s.calls.faults) image left in (from.0, left_now s from.0 from.1, from.2);
  time = λ told. more_time s (Write at piece false) (after_fault s.calls) (grows s.calls.faults);
})
writes s s' at piece (Err NoMemory) ok failed idle =
    let b = idle refl in
    subst (λ (new : DiskState). Writes (as_medium s) at piece (Err NoMemory) (as_medium new)) (sym (before_is s s' b)) (idle_write s s'.calls b.faults at piece NoMemory)

pub shortens : (s s' : DiskState) (len : ℕ) (answer : Result (Unit {0}) DiskErr)
    → OnOk answer (s' ≡ record { first = s.first; past = s.past ++ CutTo len true ∷ []; calls = after_call s.calls })
    → (IsErrOf answer Failed → s' ≡ record { first = s.first; past = s.past ++ CutTo len false ∷ []; calls = after_fault s.calls })
    → (IsErrOf answer NoMemory → IsAsBefore s s') → Shortens (as_medium s) len answer (as_medium s')
shortens s s' len (Ok x) ok failed idle = subst (λ (new : DiskState). Shortens (as_medium s) len (Ok x) (as_medium new)) (sym ok) (record {
  goes = more_goes s (CutTo len true) (after_call s.calls) (omega arith);
  reads = λ told. more_reads s (CutTo len true) (after_call s.calls) (omega arith);
  images = λ told image left. let from = more_images s (CutTo len true) (after_call s.calls) (omega arith) image left in (from.0, left_now s from.0 from.1, from.2);
  time = λ told. more_time s (CutTo len true) (after_call s.calls) (omega arith);
})
shortens s s' len (Err Failed) ok failed idle = subst (λ (new : DiskState). Shortens (as_medium s) len (Err Failed) (as_medium new)) (sym (failed refl)) (record {
  goes = more_goes s (CutTo len false) (after_fault s.calls) (grows s.calls.faults);
  reads = λ told. subst (λ (r : List ℕ). Cut len (reads s) r) (sym (more_reads s (CutTo len false) (after_fault s.calls) (grows s.calls.faults))) (cut_same len (reads s));
  images = λ told image left. let from = more_images s (CutTo len false) (after_fault s.calls) (grows s.calls.faults) image left in (from.0, left_now s from.0 from.1, from.2);
  time = λ told. more_time s (CutTo len false) (after_fault s.calls) (grows s.calls.faults);
})
shortens s s' len (Err NoMemory) ok failed idle =
    let b = idle refl in
    subst (λ (new : DiskState). Shortens (as_medium s) len (Err NoMemory) (as_medium new)) (sym (before_is s s' b)) (idle_cut s s'.calls b.faults len NoMemory)

pub syncs : (s s' : DiskState) (answer : Result (Unit {0}) DiskErr)
    → OnOk answer (s' ≡ record { first = s.first; past = s.past ++ Sync ∷ []; calls = after_call s.calls })
    → (IsErrOf answer Failed → s' ≡ record { first = s.first; past = s.past; calls = after_fault s.calls })
    → (IsErrOf answer NoMemory → IsAsBefore s s') → Syncs (as_medium s) answer (as_medium s')
syncs s s' (Ok x) ok failed idle = subst (λ (new : DiskState). Syncs (as_medium s) (Ok x) (as_medium new)) (sym ok) (record {
  goes = more_goes s Sync (after_call s.calls) (omega arith);
  reads = λ told. more_reads s Sync (after_call s.calls) (omega arith);
  images = λ told. more_images s Sync (after_call s.calls) (omega arith);
  time = λ told. more_time s Sync (after_call s.calls) (omega arith);
})
syncs s s' (Err Failed) ok failed idle = subst (λ (new : DiskState). Syncs (as_medium s) (Err Failed) (as_medium new)) (sym (failed refl)) (idle_sync s (after_fault s.calls) (grows s.calls.faults) Failed)
syncs s s' (Err NoMemory) ok failed idle =
    let b = idle refl in
    subst (λ (new : DiskState). Syncs (as_medium s) (Err NoMemory) (as_medium new)) (sym (before_is s s' b)) (idle_sync s s'.calls b.faults NoMemory)
