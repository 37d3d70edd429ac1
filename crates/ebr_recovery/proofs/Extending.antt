-- The records of a list, one after the other.
use Rattle.std.proofs.Common.{◌≡◌, ℕ, zero, suc, ◌+◌, ◌<◌, List, [], ◌∷◌, ◌++◌, length, get_or, take, sym, ap, subst, ◌∙◌, append-nil, append_assoc, arith}
use Rattle.std.specs.Prelude.{Result, Ok, Err}
use Rattle.std.proofs.lemmas.Grind.{take_at_read}
use Rattle.ebr_record.specs.declared.record.Record.{Record}
use Rattle.ebr_allowed.specs.Allowed.{Allowed, AllowedBehind}
use Rattle.ebr_allowed.proofs.RecordLemmas.{behind_append}
use Rattle.ebr_recovery.specs.declared.fault.ListFault.{ListFault}
use Rattle.ebr_recovery.specs.declared.fault.RecoveryFault.{RecoveryFault}
use Rattle.ebr_recovery.specs.declared.fault.RecoveryFault.TheVariants.{NotAllowed, NoMemory}
use Rattle.ebr_recovery.specs.declared.recovery.Recovery.{Recovery}
use Rattle.ebr_recovery.specs.Recovery.{Extends, IsFirstRefused, IsRefused, Recovers, RecoversAll, StandsAt}
use Rattle.ebr_recovery.specs.inside.Plans.{fault_at, if_done}

-- one more was carried out
pub one_more : (n : ℕ) (before rs : List Record) (i : ℕ) (r : Record) (new : Recovery) → i < length rs → r ≡ get_or rs i r → AllowedBehind before (take i rs) → Recovers n (before ++ take i rs) r new (Ok tt)
    → AllowedBehind before (take (i + 1) rs) × StandsAt n (before ++ take (i + 1) rs) new
one_more n before rs i r new within read h did =
    let more : take (i + 1) rs ≡ take i rs ++ r ∷ [] = (take_at_read rs i r within).1 ∙ ap (λ (x : Record). take i rs ++ x ∷ []) (sym read) in
    let same : before ++ take (i + 1) rs ≡ (before ++ take i rs) ++ r ∷ [] = ap (λ l. before ++ l) more ∙ sym (append_assoc before (take i rs) (r ∷ [])) in (
      subst (AllowedBehind before) (sym more) (behind_append before (take i rs) (r ∷ []) h (did.0, tt)),
      subst (λ l. StandsAt n l new) (sym same) did.1,
    )

-- the first one that isn't allowed
refused_at : (before rs : List Record) (i : ℕ) (r : Record) → i < length rs → r ≡ get_or rs i r → AllowedBehind before (take i rs) → (Allowed (before ++ take i rs) r → ⊥) → IsFirstRefused before rs i
refused_at before [] i r within read h denied = absurd (omega (arith, within))
refused_at before (x ∷ rs) zero r within read h denied = λ a. denied (subst (λ bs. Allowed bs r) (sym (append-nil before)) (subst (Allowed before) (sym read) a))
refused_at before (x ∷ rs) (suc i) r within read h denied =
    (h.0, refused_at (before ++ x ∷ []) rs i r (omega (arith, within)) read h.1 (λ a. denied (subst (λ bs. Allowed bs r) (append_assoc before (x ∷ []) (take i rs)) a)))

pub refused : (n : ℕ) (before rs : List Record) (i : ℕ) (r : Record) (new : Recovery) (fault : RecoveryFault) → i < length rs → r ≡ get_or rs i r → AllowedBehind before (take i rs)
    → Recovers n (before ++ take i rs) r new (Err fault) → IsRefused before rs (fault_at fault i)
refused n before rs i r new NotAllowed within read h did = refused_at before rs i r within read h did.0
refused n before rs i r new NoMemory within read h did = tt

-- a recovery of no record that was extended
pub all_done : (n : ℕ) (records : List Record) (new : Recovery) (done : Result (Unit {0}) ListFault) → Extends n [] records new done → RecoversAll n records (if_done new done)
all_done n records new (Ok u) h = h
all_done n records new (Err fault) h = h
