-- What a writer leaves in its chair.
use Rattle.std.specs.Prelude.{ℕ, zero, suc, ◌-◌, List, [], ◌∷◌, ◌++◌}
use Rattle.ebr_turn.specs.declared.view.View.{View}

-- the numbers from 1 to n
abbrev pub upto : ℕ → List ℕ
upto zero = []
upto (suc n) = upto n ++ suc n ∷ []

-- the view, when its chair has written the numbers from 1 to n
abbrev pub wrote : ℕ → View ℕ → View ℕ
wrote n v = record v { mine = v.mine ++ upto n; left = v.left - n }
