-- What chairs know, and what the calls of a turn do to it.
use Rattle.std.specs.Prelude.{◌≡◌, ◌⊎◌, ℕ, ◌+◌, ◌-◌, ◌^◌, ◌==◌, List, [], ◌∷◌, ◌++◌, Option, Some, None, Bool, true, false}
use Rattle.atomic_table.specs.Seated.{TableId}
use Rattle.ebr_turn.specs.declared.view.View.{View}
use Rattle.ebr_turn.specs.declared.view.Stage.TheVariants.{Idle, Holds}

-- which turn it is
abbrev pub TurnId : Type 0
TurnId = TableId

-- a turn: the list of the value that it was made with, and its seats
pub record TurnState (I : Type 0) : Type 0 where
  pub id : TurnId
  pub base : List (ℕ × I)
  pub seats : ℕ

-- a chair: its turn, and what it knows
pub record ChairState (I : Type 0) : Type 0 where
  pub turn : TurnId
  pub view : View I

module _ {A : Type 0} where
  abbrev pub In : A → List A → Type 0
  In x [] = ⊥
  In x (y ∷ ys) = (y ≡ x) ⊎ In x ys

  abbrev pub add_if : Bool → A → List A → List A
  add_if true x xs = x ∷ xs
  add_if false x xs = xs

  abbrev pub pick_if : Bool → A → A → A
  pick_if true x y = x
  pick_if false x y = y

module _ {I : Type 0} where
  -- the items of the number n, in their order
  abbrev pub items : ℕ → List (ℕ × I) → List I
  items n [] = []
  items n (x ∷ xs) = add_if (x.0 == n) x.1 (items n xs)

  -- the list that stands with the number n, or no item where there is none
  abbrev pub list_of : ℕ → List (ℕ × List I) → List I
  list_of n [] = []
  list_of n (x ∷ xs) = pick_if (x.0 == n) x.1 (list_of n xs)

  abbrev pub own_list : Option ℕ → List I → List (ℕ × List I)
  own_list None xs = []
  own_list (Some n) xs = (n, xs) ∷ []

  -- the chair's own number and list, and those that it keeps
  abbrev pub lists : View I → List (ℕ × List I)
  lists v = own_list v.number v.mine ++ v.kept

  -- the view of the first chair
  abbrev pub opener : List (ℕ × I) → ℕ → View I
  opener base seats = record { base = base; number = None; mine = []; kept = []; share = seats; left = 2 ^ 63; gives = true; given = []; stage = Idle }

  -- the parent, when it has split off a chair with the number n
  abbrev pub parted : ℕ → View I → View I
  parted n v = record v { share = v.share - 1; left = v.left - 2 ^ 31; given = n ∷ v.given }

  -- that chair
  abbrev pub fresh : ℕ → View I → View I
  fresh n v = record { base = v.base; number = Some n; mine = []; kept = []; share = 1; left = 2 ^ 31; gives = false; given = []; stage = Idle }

  -- the chair v, when it has taken in w
  abbrev pub joined : View I → View I → View I
  joined v w = record v { kept = v.kept ++ lists w; share = v.share + w.share; left = v.left + w.left; gives = pick_if v.gives true w.gives; given = pick_if v.gives v.given w.given }

  -- the chair has entered, and met a value with this list
  abbrev pub entered : View I → List (ℕ × I) → View I
  entered v met = record v { left = v.left - 1; stage = Holds met }

  -- the chair has left, with one more item
  abbrev pub done : View I → I → View I
  done v x = record v { mine = v.mine ++ x ∷ []; stage = Idle }

module _ {T I : Type 0} (booked : T → List (ℕ × I)) where
  -- past the first list, the items of the chair's number are the chair's list
  abbrev pub Met : View I → T → Type 0
  Met v y = (log : List (ℕ × I)) × (booked y ≡ v.base ++ log) × ((n : ℕ) → v.number ≡ Some n → items n log ≡ v.mine)

  -- the chair holds the turn, and the list of y is the one that it met and then one entry of its number
  abbrev pub Leaves : View I → T → Type 0
  Leaves v y = (k : ℕ) × (x : I) × (met : List (ℕ × I)) × (v.stage ≡ Holds met) × (v.number ≡ Some k) × (booked y ≡ met ++ (k, x) ∷ [])

  -- the chair's list has grown by the item of that entry
  abbrev pub Left : View I → T → View I → Type 0
  Left v y w = (k : ℕ) (x : I) (met : List (ℕ × I)) → v.stage ≡ Holds met → v.number ≡ Some k → booked y ≡ met ++ (k, x) ∷ [] → w ≡ done v x

  -- the list of y is the first one, and then one in which the items of each number are that number's list among those of v
  abbrev pub Closes : List (ℕ × I) → View I → T → Type 0
  Closes base v y = (log : List (ℕ × I)) × (booked y ≡ base ++ log) × ((n : ℕ) → items n log ≡ list_of n (lists v))
