-- The sessions of an empty database live.
use Rattle.std.proofs.Common.{ℕ, zero, suc, ◌≡◌, ◌<◌, ◌≤◌, [], length, Some, arith, refl, sym, subst}
use Rattle.std.specs.Prelude.{IsSome, replicate, slice_get}
use Rattle.ebr_base.specs.declared.numbers.SessionId.{SessionId}
use Rattle.ebr_database.specs.Database.{Session, session_at}
use Rattle.ebr_core.specs.Engine.{EngineState, database_of}
use Rattle.ebr_core.specs.Machine.{Build}
use Rattle.ebr_core.specs.History.{After, IsLive, edition_of}
use Rattle.ebr_worker.specs.Paced.{IsSession}

nth : (x : Session) (n k : ℕ) → k < n → slice_get (replicate n x) k ≡ Some x
nth x zero k within = absurd (omega (arith, within))
nth x (suc n) zero within = refl
nth x (suc n) (suc k) within = nth x n k (omega (arith, within))

lives : (x : Session) (n m : ℕ) → IsSome x.edition → 1 ≤ m → m ≤ n → IsSome (edition_of (session_at (replicate n x) m))
lives x n zero edition first last = absurd (omega (arith, first))
lives x n (suc k) edition first last = subst (λ o. IsSome (edition_of o)) (sym (nth x n k (omega (arith, last)))) edition

pub first_live : {K : Type 0} (e : EngineState K) (s : SessionId) → e.history ≡ [] → IsSession (length e.books) s → IsLive (database_of e) s
first_live e s none is_session =
    subst (λ h. IsLive (After (Build e.recovered (length e.books)) h) s) (sym none) (lives _ (length e.books) s.0 refl is_session.first is_session.last)
