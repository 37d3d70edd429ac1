-- Whose turn it is in a rehearsal (own).
use Rattle.std.specs.Prelude.{ℕ, ◌≡◌, ◌<◌, ◌≤◌, Bool, true, false, List, [], ◌∷◌, ◌++◌}
use Rattle.std.specs.List.{list_any}
use Rattle.ebr_base.specs.declared.numbers.SessionId.{SessionId}
use Rattle.ebr_asks.specs.declared.entry.Entry.{Entry}
use Rattle.ebr_asks.specs.declared.entry.Exchange.{Exchange}
use Rattle.ebr_session.specs.Transcripts.{ends}
use Rattle.ebr_core.specs.History.{Mine}

-- One of a session's exchanges has ended it: Leave, or an answer after which it goes on with nothing.
abbrev pub has_ended : List Exchange → Bool
has_ended mine = list_any (λ (x : Exchange). ends x.ask x.answer) mine

abbrev pub is_over : List Entry → SessionId → Bool
is_over history s = has_ended (Mine history s)

-- the sessions are numbered from 1
pub record IsSession (n : ℕ) (s : SessionId) : Type 0 where
  pub first : 1 ≤ s.0
  pub last : s.0 ≤ n

-- It is the first of n sessions that hasn't ended.
pub record IsFirst (n : ℕ) (history : List Entry) (s : SessionId) : Type 0 where
  pub is_session : IsSession n s
  pub works : is_over history s ≡ false
  pub before : (r : SessionId) → IsSession n r → r.0 < s.0 → is_over history r ≡ true

abbrev pub AllOver : ℕ → List Entry → Type 0
AllOver n history = (s : SessionId) → IsSession n s → is_over history s ≡ true

-- Behind the order session 1 runs to its end, then session 2, and so on: each entry is of the first session that hadn't ended.
abbrev pub ToEnds : ℕ → List Entry → List Entry → Type 0
ToEnds n before [] = AllOver n before
ToEnds n before (x ∷ rest) = IsFirst n before x.session × ToEnds n (before ++ x ∷ []) rest

-- the next entry is of this session, and then it goes on so
abbrev pub Next : SessionId → List Entry → (Entry → List Entry → Type 0) → Type 0
Next s [] on = ⊥
Next s (x ∷ rest) on = (x.session ≡ s) × on x rest

-- a turn by whether its session has ended: it is skipped, or makes an entry
abbrev pub Turn : Bool → Type 0 → Type 0 → Type 0
Turn true skipped made = skipped
Turn false skipped made = made

-- The entries behind those before are made by these turns, and then by those that run the sessions to their ends.
abbrev pub Turns : ℕ → List SessionId → List Entry → List Entry → Type 0
Turns n [] before rest = ToEnds n before rest
Turns n (s ∷ turns) before rest = Turn (is_over before s) (Turns n turns before rest) (Next s rest (λ x more. Turns n turns (before ++ x ∷ []) more))

-- The history of n sessions goes by the order.
abbrev pub Paced : ℕ → List SessionId → List Entry → Type 0
Paced n order history = Turns n order [] history
