-- The first chair of a run while it gives numbers.
use Rattle.std.specs.Prelude.{◌≡◌, ℕ, ◌+◌, ◌*◌, ◌^◌, ◌<◌, [], None, true}
use Rattle.ebr_asks.specs.declared.entry.Exchange.{Exchange}
use Rattle.ebr_turn.specs.declared.view.View.{View}
use Rattle.ebr_turn.specs.declared.view.Stage.TheVariants.{Idle}
use Rattle.ebr_turn.specs.Chairs.{In}

-- It has given the numbers above m, up to n.
pub record Gives (n m : ℕ) (v : View Exchange) : Type 0 where
  pub stage : v.stage ≡ Idle
  pub number : v.number ≡ None
  pub kept : v.kept ≡ []
  pub base : v.base ≡ []
  pub gives : v.gives ≡ true
  pub share : v.share + n ≡ n + 1 + m
  pub left : v.left + 2 ^ 31 * n ≡ 2 ^ 63 + 2 ^ 31 * m
  pub given : (k : ℕ) → In k v.given → m < k
