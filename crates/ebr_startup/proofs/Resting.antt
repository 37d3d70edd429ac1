-- What a crash leaves since the first sync of a journal.
use Rattle.std.proofs.Common.{◌⊎◌, inl, inr, ⊎_elim, ℕ, List, arith}
use Rattle.ebr_outside.specs.Disk.{Medium, Passes}
use Rattle.ebr_journal.specs.Start.{RestsSince}
use Rattle.ebr_startup.specs.Opened.{Rests}

pub rests_of : (m0 m1 : Medium) (P : List ℕ → Type 0) → RestsSince m0 m1 P → Rests m0 m1 P
rests_of m0 m1 P rests = record {
  synced = rests.synced;
  later = rests.later;
  within = rests.within;
  before = λ t image le left. ⊎_elim (λ was. inl was) (λ since. inr (rests.after image since)) (rests.before t image le left);
  after = rests.after;
}

pub rests_weaker : (m0 m1 : Medium) (P Q : List ℕ → Type 0) → Rests m0 m1 P → ((image : List ℕ) → P image → Q image) → Rests m0 m1 Q
rests_weaker m0 m1 P Q rests then = record {
  synced = rests.synced;
  later = rests.later;
  within = rests.within;
  before = λ t image le left. ⊎_elim (λ was. inl was) (λ p. inr (then image p)) (rests.before t image le left);
  after = λ image left. then image (rests.after image left);
}

-- moments go by, at each of which it is so
pub rests_on : (m0 m1 m2 : Medium) (P : List ℕ → Type 0) → Rests m0 m1 P → Passes m1 m2 P → Rests m0 m2 P
rests_on m0 m1 m2 P rests time = record {
  synced = rests.synced;
  later = rests.later;
  within = omega (arith, rests.within, time.later);
  before = λ t image le left. ⊎_elim (λ was. rests.before t image le was) (λ p. inr p) (time.only t image (omega (arith, le, rests.later, rests.within)) left);
  after = λ image left. ⊎_elim (λ was. rests.after image was) (λ p. p) (time.only rests.synced image rests.within left);
}
