-- What stays of the sessions that a call isn't for.
use Rattle.std.specs.Prelude.{◌≡◌}
use Rattle.ebr_base.specs.declared.numbers.SessionId.{SessionId}
use Rattle.ebr_tx.specs.Data.{Data, names_of, stack_of, named_at, own}
use Rattle.ebr_tx.specs.Calls.{lock_count}

abbrev pub Differ : SessionId → SessionId → Type 0
Differ r s = r.0 ≡ s.0 → ⊥

-- Nothing is another of the sessions but one.
pub record Others (d d' : Data) (s : SessionId) : Type 0 where
  pub stacks : (r : SessionId) → Differ r s → stack_of (names_of d'.live) r ≡ stack_of (names_of d.live) r
  pub owns : (r : SessionId) → Differ r s → own d' (named_at r 0) ≡ own d (named_at r 0)
  pub locks : (r : SessionId) → Differ r s → lock_count d' (named_at r 0) ≡ lock_count d (named_at r 0)
