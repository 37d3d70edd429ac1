-- How moments of a run of calls go by.
use Rattle.std.proofs.Common.{inl, inr, ⊎_elim, ℕ, List, IsTrue, refl, sym, ◌∙◌, subst, arith}
use Rattle.ebr_outside.specs.Disk.{Medium, LeavesNow, Passes, Goes, Stands}

-- before the first call
pub begins : (m : Medium) (P : List ℕ → Type 0) → Passes m m P
begins m P = record { later = omega arith; only = λ t image le left. inl left; keeps = λ t image le left. left }

-- one call more, after which a crash leaves what has P
pub goes_on : (old mid new : Medium) (P : List ℕ → Type 0) → Passes old mid P → Passes mid new (LeavesNow new) → ((image : List ℕ) → LeavesNow new image → P image) → Passes old new P
goes_on old mid new P so_far time here = record {
  later = omega (arith, so_far.later, time.later);
  only = λ t image le left. ⊎_elim (λ was. so_far.only t image le was) (λ now. inr (here image now)) (time.only t image (omega (arith, le, so_far.later)) left);
  keeps = λ t image le left. time.keeps t image (omega (arith, le, so_far.later)) (so_far.keeps t image le left);
}

pub goes_further : (a b c : Medium) → Goes a b → Goes b c → Goes a c
goes_further a b c first second = record {
  tells = second.tells ∙ first.tells;
  faults = omega (arith, first.faults, second.faults);
  moment = omega (arith, first.moment, second.moment);
}

-- a call that changes nothing, after others that changed nothing
pub stands_still : (a b c : Medium) → Stands a b → Stands b c → Stands a c
stands_still a b c first second = record {
  goes = goes_further a b c first.goes second.goes;
  reads = second.reads ∙ first.reads;
  moment = second.moment ∙ first.moment;
  same = λ t image. (λ x. (first.same t image).0 ((second.same t image).0 x), λ x. (second.same t image).1 ((first.same t image).1 x));
}

pub stands_here : (m : Medium) → Stands m m
stands_here m = record {
  goes = record { tells = refl; faults = omega arith; moment = omega arith };
  reads = refl;
  moment = refl;
  same = λ t image. (λ x. x, λ x. x);
}

pub told_after : (old new : Medium) → Goes old new → IsTrue old.tells → IsTrue new.tells
told_after old new goes tells = subst IsTrue (sym goes.tells) tells
