-- The chairs of any number of writers.
use Rattle.std.specs.Prelude.{◌≡◌, ◌⊎◌, ℕ, zero, suc, ◌+◌, ◌-◌, ◌*◌, ◌^◌, ◌<◌, ◌≤◌, List, [], ◌∷◌, length, slice_index_or}
use Rattle.ebr_turn.specs.Chairs.{TurnId, In, items, lists, opener, fresh}
use Rattle.ebr_turn.specs.declared.view.View.{View}
use Rattle.ebr_turn.specs.declared.view.Stage.TheVariants.{Idle}
use Rattle.ebr_turntests.specs.declared.writer.Writer.{Writer}
use Rattle.ebr_turntests.specs.Written.{upto}

-- the numbers from n down to 1
abbrev pub down : ℕ → List ℕ
down zero = []
down (suc n) = (n + 1) ∷ down n

-- the first chair, when it has split off the numbers from 1 to n
abbrev pub gave : ℕ → ℕ → View ℕ
gave n seats = record (opener [] seats) { share = seats - n; left = 2 ^ 63 - 2 ^ 31 * n; given = down n }

-- the chair of a number, as it was split off
abbrev pub newcomer : ℕ → View ℕ
newcomer n = fresh n (opener [] 0)

-- the writer at the place k hasn't entered, and its number is k + 1
abbrev pub IsNew : TurnId → ℕ → ℕ → Writer → Type 0
IsNew z count k w = (w.chair.turn ≡ z) × (w.chair.view ≡ newcomer (k + 1)) × (w.number ≡ k + 1) × (w.count ≡ count)

abbrev pub AllNew : TurnId → ℕ → List Writer → Type 0
AllNew z count ws = (k : ℕ) (d : Writer) → k < length ws → IsNew z count k (slice_index_or ws k d)

-- the writer's chair has its number and its list
abbrev pub HasWritten : TurnId → ℕ → ℕ → Writer → Type 0
HasWritten z count k w = (w.chair.turn ≡ z) × (w.chair.view.stage ≡ Idle) × (w.chair.view.share ≡ 1) × (lists w.chair.view ≡ (k + 1, upto count) ∷ [])

abbrev pub AllWritten : TurnId → ℕ → List Writer → Type 0
AllWritten z count ws = (k : ℕ) (d : Writer) → k < length ws → HasWritten z count k (slice_index_or ws k d)

-- the chair keeps just the lists of the numbers above m up to n
pub record Gathers (count m n : ℕ) (v : View ℕ) : Type 0 where
  pub all : (k : ℕ) (xs : List ℕ) → In (k, xs) (lists v) → (xs ≡ upto count) × (m < k) × (k ≤ n)
  pub has : (k : ℕ) → m < k → k ≤ n → In (k, upto count) (lists v)

-- the items of each number from 1 to n are the numbers from 1 to count, and there are no others
pub record HasAll (n count : ℕ) (l : List (ℕ × ℕ)) : Type 0 where
  pub each : (k : ℕ) → 0 < k → k ≤ n → items k l ≡ upto count
  pub others : (k : ℕ) → (k ≡ 0) ⊎ (n < k) → items k l ≡ []
