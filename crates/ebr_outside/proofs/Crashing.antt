-- One call more before a crash.
use Rattle.std.proofs.Common.{◌≡◌, ℕ, ◌/◌, Bool, true, false, if◌then◌else◌, List, [], ◌∷◌, ◌++◌, length, take, refl, sym, ◌∙◌, ap, subst}
use Rattle.ebr_outside.specs.Disk.{Torn, Cut, written}
use Rattle.ebr_outside.specs.MemDisk.{Moment, reads_after, begun, after, replayed}
use Rattle.ebr_outside.specs.inside.LeftByCrash.{torn_same, torn_written, cut_same, cut_done}
use Rattle.ebr_outside.specs.inside.Crash.{PartlyWritten, PartlyCut, LeftBy, Chooses, rest_after}
use Rattle.ebr_outside.specs.declared.memory.disk_call.DiskCall.{DiskCall}
use Rattle.ebr_outside.specs.declared.memory.disk_call.DiskCall.TheVariants.{Write, Cut as CutTo, Sync}
use Rattle.ebr_outside.specs.declared.memory.crash.How.{How}
use Rattle.ebr_outside.specs.declared.memory.crash.How.TheVariants.{Left, Whole, First, Second}
use Rattle.ebr_outside.proofs.Replaying.{push_reads, same_reads}

-- the image and what a read gives, after these calls
pub record LeftSoFar (first : List ℕ) (past : List DiskCall) (pick : ℕ) (image reads : List ℕ) (rest : ℕ) : Type 0 where
  pub left : (replayed past (begun first)).leaves image
  pub reads_are : reads ≡ (replayed past (begun first)).reads
  pub least : pick ≡ 0 → (rest ≡ 0) × (image ≡ (replayed past (begun first)).synced)
  pub most : pick ≡ 1 → image ≡ (replayed past (begun first)).reads

torn_part : (how : How) (at : ℕ) (piece : List ℕ) (done : Bool) (old new : List ℕ) → PartlyWritten how at piece done old new → Torn at (length piece) old new
torn_part Left at piece done old new is = subst (λ (f : List ℕ). Torn at (length piece) old f) (sym is) (torn_same at (length piece) old)
torn_part Whole at piece true old new is = subst (λ (f : List ℕ). Torn at (length piece) old f) (sym is) (torn_written at piece old)
torn_part Whole at piece false old new is = subst (λ (f : List ℕ). Torn at (length piece) old f) (sym is) (torn_same at (length piece) old)
torn_part First at piece done old new torn = torn
torn_part Second at piece done old new torn = torn

cut_part : (how : How) (len : ℕ) (done : Bool) (old new : List ℕ) → PartlyCut how len done old new → Cut len old new
cut_part Left len done old new is = subst (λ (f : List ℕ). Cut len old f) (sym is) (cut_same len old)
cut_part Whole len true old new is = subst (λ (f : List ℕ). Cut len old f) (sym is) (cut_done len old)
cut_part Whole len false old new is = subst (λ (f : List ℕ). Cut len old f) (sym is) (cut_same len old)
cut_part First len done old new cut = cut
cut_part Second len done old new cut = cut

-- at one call
left_after : (c : DiskCall) (m : Moment) (how : How) (image new : List ℕ) → m.leaves image → LeftBy how m.reads image c new → (after c m).leaves new
left_after (Write at piece done) m how image new left by = (image, left, torn_part how at piece done image new by)
left_after (CutTo len done) m how image new left by = (image, left, cut_part how len done image new by)
left_after Sync m how image new left by = by

least_after : (c : DiskCall) (m : Moment) (image new : List ℕ) → image ≡ m.synced → LeftBy Left m.reads image c new → new ≡ (after c m).synced
least_after (Write at piece done) m image new is by = by ∙ is
least_after (CutTo len done) m image new is by = by ∙ is
least_after Sync m image new is by = by

most_after : (c : DiskCall) (m : Moment) (image new : List ℕ) → image ≡ m.reads → LeftBy Whole m.reads image c new → new ≡ (after c m).reads
most_after (Write at piece done) m image new is by = by ∙ ap (λ (f : List ℕ). if done then written f at piece else f) is
most_after (CutTo len done) m image new is by = by ∙ ap (λ (f : List ℕ). if done then take len f else f) is
most_after Sync m image new is by = by

no_rest : (c : DiskCall) (pick rest : ℕ) → pick ≡ 0 → rest ≡ 0 → rest_after pick rest c ≡ 0
no_rest (Write at piece done) pick rest none nothing = ap (λ (k : ℕ). k / 4) nothing
no_rest (CutTo len done) pick rest none nothing = ap (λ (k : ℕ). k / 4) nothing
no_rest Sync pick rest none nothing = none

back_leaves : (past : List DiskCall) (c : DiskCall) (m : Moment) (image : List ℕ) → (after c (replayed past m)).leaves image → (replayed (past ++ c ∷ []) m).leaves image
back_leaves [] c m image left = left
back_leaves (x ∷ past) c m image left = back_leaves past c (after x m) image left

push_synced : (past : List DiskCall) (c : DiskCall) (m : Moment) → (replayed (past ++ c ∷ []) m).synced ≡ (after c (replayed past m)).synced
push_synced [] c m = refl
push_synced (x ∷ past) c m = push_synced past c (after x m)

pub starts : (first image reads : List ℕ) (pick : ℕ) → image ≡ first → reads ≡ first → LeftSoFar first [] pick image reads pick
starts first image reads pick is are = record { left = is; reads_are = are; least = λ none. (none, is); most = λ one. is }

pub goes_on : (first : List ℕ) (past : List DiskCall) (pick : ℕ) (image reads : List ℕ) (rest : ℕ) (c : DiskCall) (how : How) (image' reads' : List ℕ)
    → LeftSoFar first past pick image reads rest → Chooses pick rest how → LeftBy how reads image c image' → reads' ≡ reads_after c reads
    → LeftSoFar first (past ++ c ∷ []) pick image' reads' (rest_after pick rest c)
goes_on first past pick image reads rest c how image' reads' so_far chooses by are =
    let m = replayed past (begun first) in
    let by' = subst (λ (r : List ℕ). LeftBy how r image c image') so_far.reads_are by in
    record {
      left = back_leaves past c (begun first) image' (left_after c m how image image' so_far.left by');
      reads_are = are ∙ ap (reads_after c) so_far.reads_are ∙ sym (same_reads c m) ∙ sym (push_reads past c (begun first));
      least = λ none.
          let was = so_far.least none in
          (no_rest c pick rest none was.0, least_after c m image image' was.1 (subst (λ (h : How). LeftBy h m.reads image c image') (chooses.least none was.0) by') ∙ sym (push_synced past c (begun first)));
      most = λ one. most_after c m image image' (so_far.most one) (subst (λ (h : How). LeftBy h m.reads image c image') (chooses.most one) by') ∙ sym (push_reads past c (begun first));
    }
