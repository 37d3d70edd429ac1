-- Lists on top of each other.
use Rattle.std.specs.Prelude.{◌≡◌, ◌≤◌, ℕ, List, [], ◌∷◌, ◌++◌, length, take, drop, reverse}

pub record Levels (T : Type 0) : Type 0 where
  pub top : List T
  pub beneath : List (List T)

module _ {T : Type 0} where
  abbrev pub with_top : List T → Levels T → Levels T
  with_top xs l = record l { top = xs }

  abbrev pub opened : Levels T → Levels T
  opened l = record { top = []; beneath = l.top ∷ l.beneath }

  -- beneath the lowest list there is an empty one
  abbrev pub first : List (List T) → List T
  first [] = []
  first (l ∷ ls) = l

  abbrev pub others : List (List T) → List (List T)
  others [] = []
  others (l ∷ ls) = ls

  abbrev pub closed : Levels T → Levels T
  closed l = record { top = first l.beneath; beneath = others l.beneath }

  -- the topmost list of two as one stack, its top first
  abbrev pub joined : Levels T → Levels T
  joined l = record { top = l.top ++ first l.beneath; beneath = others l.beneath }

  -- lists that begin at these places of one list
  abbrev pub lower : List ℕ → List T → List (List T)
  lower [] items = []
  lower (b ∷ bs) items = drop b items ∷ lower bs (take b items)

  abbrev pub levels : ℕ → List ℕ → List T → Levels T
  levels base bases items = record { top = drop base items; beneath = lower bases (take base items) }

  -- the same, each as a stack
  abbrev pub lower_stacks : List ℕ → List T → List (List T)
  lower_stacks [] items = []
  lower_stacks (b ∷ bs) items = reverse (drop b items) ∷ lower_stacks bs (take b items)

  abbrev pub stacks : ℕ → List ℕ → List T → Levels T
  stacks base bases items = record { top = reverse (drop base items); beneath = lower_stacks bases (take base items) }

-- each place is at most the next one
abbrev pub Fall : ℕ → List ℕ → Type 0
Fall n [] = n ≡ 0
Fall n (b ∷ bs) = (b ≤ n) × Fall b bs

abbrev pub IsCut : {T : Type 0} → ℕ → List ℕ → List T → Type 0
IsCut base bases items = (base ≤ length items) × Fall base bases
