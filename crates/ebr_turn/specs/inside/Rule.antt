-- The rule of the turn's table, and what each move tells the chair that makes it.
use Rattle.std.specs.Prelude.{◌≡◌, ◌≢◌, ◌⊎◌, ℕ, ◌+◌, ◌-◌, ◌^◌, ◌<◌, ◌≤◌, List, [], ◌∷◌, ◌++◌, length, Option, Some, None, true, false}
use mathlib.Core.Option.{some}
use mathlib.Core.Option as maybe
use lib.ListN.{get_elem?}
use Rattle.atomic_table.specs.Table.{State, Me, Step}
use Rattle.ebr_turn.specs.Chairs.{In, items, done, Met}
use Rattle.ebr_turn.specs.declared.view.View.{View}
use Rattle.ebr_turn.specs.declared.view.Stage.{Stage}
use Rattle.ebr_turn.specs.declared.view.Stage.TheVariants.{Idle, Waits, Holds}

module _ {A : Type 0} where
  abbrev pub total : (A → ℕ) → List A → ℕ
  total f [] = 0
  total f (x ∷ xs) = f x + total f xs

-- where the list of a number is: nowhere yet, with the chair j, which has that number, or with the chair j, which keeps it
pub data Where : Type 0 where
  nowhere : Where
  sits : ℕ → Where
  kept_by : ℕ → Where

-- who holds the slot
pub data Hold : Type 0 where
  free : Hold
  by : ℕ → Hold

-- what no word carries, and the two words: the entries past the first list, whose each ticket is, who holds the slot, where each number's list is, who gives numbers, and which were given
pub record Now (I : Type 0) : Type 0 where
  pub log : List (ℕ × I)
  pub ticket : ℕ
  pub serving : ℕ
  pub owner : ℕ → ℕ
  pub hold : Hold
  pub places : ℕ → Where
  pub giver : ℕ
  pub given : List ℕ

module _ {I : Type 0} where
  -- the view of a chair that was joined into another one
  abbrev pub gone : View I
  gone = record { base = []; number = None; mine = []; kept = []; share = 0; left = 0; gives = false; given = []; stage = Idle }

  abbrev pub waiting : View I → ℕ → View I
  waiting v t = record v { left = v.left - 1; stage = Waits t }

  abbrev pub holding : View I → List (ℕ × I) → View I
  holding v met = record v { stage = Holds met }

  module _ (base : List (ℕ × I)) (now : Now I) where
    abbrev pub StageOk : ℕ → Stage I → Type 0
    StageOk j Idle = Unit {0}
    StageOk j (Waits t) = (now.serving ≤ t) × (t < now.ticket) × (now.owner t ≡ j)
    StageOk j (Holds met) = (now.hold ≡ by j) × (now.owner now.serving ≡ j) × (now.serving < now.ticket) × (met ≡ base ++ now.log)

    -- what the rule says of the view of the chair j, and of that view alone
    pub record Fits (j : ℕ) (v : View I) : Type 0 where
      pub based : 0 < v.share → v.base ≡ base
      pub stage : StageOk j v.stage
      pub own : (n : ℕ) → v.number ≡ Some n → (now.places n ≡ sits j) × (v.mine ≡ items n now.log)
      pub kept : (n : ℕ) (xs : List I) → In (n, xs) v.kept → (now.places n ≡ kept_by j) × (xs ≡ items n now.log)
      pub gives : v.gives ≡ true → (now.giver ≡ j) × (v.given ≡ now.given)
      pub live : v.share ≡ 0 → v ≡ gone

    -- where the list of the number n is, it stands; where it is nowhere, there is no item
    abbrev pub Found : List (View I) → ℕ → Where → Type 0
    Found views n nowhere = items n now.log ≡ []
    Found views n (sits j) = (v : View I) × (get_elem? views j ≡ some v) × (v.number ≡ Some n)
    Found views n (kept_by j) = (v : View I) × (xs : List I) × (get_elem? views j ≡ some v) × In (n, xs) v.kept

module _ {T I : Type 0} (booked : T → List (ℕ × I)) where
  -- a slot that no chair holds has a value with the first list and the entries past it
  abbrev pub Slot : List (ℕ × I) → List (ℕ × I) → List (maybe.Option (Option T)) → List (View I) → Hold → Type 0
  Slot base log homes views free = (y : T) × (get_elem? homes 0 ≡ some (some (Some y))) × (booked y ≡ base ++ log)
  Slot base log homes views (by j) = (v : View I) × (met : List (ℕ × I)) × (get_elem? views j ≡ some v) × (v.stage ≡ Holds met)

  -- the rule, for the first list and the number of seats
  pub record Sits (base : List (ℕ × I)) (seats : ℕ) (s : State (Option T) (View I)) : Type 0 where
    pub now : Now I
    pub words_are : s.words ≡ now.ticket ∷ now.serving ∷ []
    pub one : length s.homes ≡ 1
    pub counts : now.serving ≡ length now.log
    pub order : now.serving ≤ now.ticket
    pub slot : Slot base now.log s.homes s.views now.hold
    pub each : (j : ℕ) (v : View I) → get_elem? s.views j ≡ some v → Fits base now j v
    pub found : (n : ℕ) → Found base now s.views n (now.places n)
    pub listed : (n : ℕ) → (now.places n ≡ nowhere) ⊎ In n now.given
    pub shares : total (λ (v : View I). v.share) s.views ≡ seats
    pub room : now.ticket + total (λ (v : View I). v.left) s.views ≤ 2 ^ 63

  abbrev pub Sat : Type 0
  Sat = Me (Option T) (View I)

  -- the ticket n was drawn
  abbrev pub drew : Step (Option T) → Sat → ℕ → Sat → Type 0
  drew st m n m' = m' ≡ (waiting m.0 n, m.1)

  -- the ticket n is served: where it is the chair's own, the chair has the slot with a value, and else nothing has changed
  abbrev pub looked : Step (Option T) → Sat → ℕ → Sat → Type 0
  looked st m n m' = (t : ℕ) → m.0.stage ≡ Waits t → (n ≡ t → (y : T) × (m' ≡ (holding m.0 (booked y), (0, Some y) ∷ m.1)) × Met booked m.0 y) × (n ≢ t → m' ≡ m)

  -- the slot was given back with one more entry
  abbrev pub advanced : Step (Option T) → Sat → ℕ → Sat → Type 0
  advanced st m n m' = (k : ℕ) × (x : I) × (met : List (ℕ × I)) × (y : T) × (m.0.stage ≡ Holds met) × (m.0.number ≡ Some k) × (m.1 ≡ (0, Some y) ∷ []) × (booked y ≡ met ++ (k, x) ∷ []) × (m' ≡ (done m.0 x, []))

-- the slots that a chair has between two calls
abbrev pub carried : {T I : Type 0} → Stage I → List (ℕ × Option T)
carried Idle = []
carried (Waits t) = []
carried (Holds met) = (0, None) ∷ []
