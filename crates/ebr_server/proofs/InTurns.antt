-- Orders, and what is read behind them.
use Rattle.std.proofs.Common.{ℕ, zero, suc, ◌≡◌, ◌≢◌, ◌==◌, ap, ◌+◌, ◌-◌, ◌<◌, ◌≤◌, ◌⊎◌, inl, inr, Bool, true, false, ◌||◌, ◌&&◌, nat_le, if◌then◌else◌, List, [], ◌∷◌, length, Option, Some, None, arith, refl, sym, subst}
use Rattle.std.specs.Prelude.{All, IfSome, map}
use Rattle.std.specs.Option.{option_map, is_none}
use Rattle.std.proofs.lemmas.Bool.{leb-true}
use Rattle.std.proofs.lemmas.Bool.Decides.{nat_tests}
use Rattle.std.proofs.lemmas.List.{length-map}
use Rattle.std.proofs.lemmas.List.Elements.{All-cons, All-nil}
use Rattle.ebr_base.specs.declared.numbers.SessionId.{SessionId}
use Rattle.ebr_base.specs.Word.{is_digit}
use Rattle.ebr_words.specs.declared.words.Command.TheVariants.{Rehearse}
use Rattle.ebr_faults.specs.Faults.{Rises}
use Rattle.ebr_order.specs.Order.{Order, begins_number, is_unreadable, is_wrong, number_in_front, session_of, turns_from, wrong_at, wrong_from}
use Rattle.ebr_asks.specs.declared.entry.Entry.{Entry}
use Rattle.ebr_report.specs.declared.ends.SessionEnd.{SessionEnd}
use Rattle.ebr_worker.specs.Ends.{Job}
use Rattle.ebr_worker.specs.Paced.{IsSession, Paced}
use Rattle.ebr_worker.specs.Runs.{AreEnds}
use Rattle.ebr_server.specs.declared.exit.ExitCode.{ExitCode}
use Rattle.ebr_server.specs.declared.exit.ExitCode.TheVariants as code
use Rattle.ebr_record.specs.declared.record.Record.{Record}
use Rattle.ebr_server.specs.Disks.{RanOver}
use Rattle.ebr_server.specs.Program.{AllRead, AreJobs, IsLegal, IsOrder, IsShort, OrderWrong, Outside, RightBefore, SessionsPaced, ShortBetween, Stops, journal_bytes, told_at, turn_of}
use Rattle.ebr_server.specs.inside.Opened.{AreTurns, Fails, FailsFrom, IsPrepared, OrderStops, WasRead}
use Rattle.ebr_server.proofs.InWords.{Told, fails_since, short_between, short_told}

-- ---- the turns of a right order are of its sessions

in_both : (a b : Bool) (x : SessionId) → is_none (if a && b then Some x else None) ≡ false → (a ≡ true) × (b ≡ true)
in_both true true x some = (refl, refl)
in_both true false x some = absurd cc
in_both false b x some = absurd cc

is_session : (n k : ℕ) → is_none (session_of n k) ≡ false → IsSession n (record { 0 = k })
is_session n k some =
    let both = in_both (nat_le 1 k) (nat_le k n) (record { 0 = k }) some in
    record { first = leb-true 1 k both.0; last = leb-true k n both.1 }

right_here : (q : Bool) (o : Option ℕ) → (if q then Some 0 else option_map suc o) ≡ None → (q ≡ false) × (o ≡ None)
right_here true o none = absurd cc
right_here false None none = (refl, refl)
right_here false (Some k) none = absurd cc

some_there : (a b c : Bool) → a || (b && c) ≡ false → b ≡ true → c ≡ false
some_there true b c right begins = absurd cc
some_there false true c right begins = right
some_there false false c right begins = absurd cc

with_turn : (n : ℕ) (q : Bool) (x : SessionId) (turns : List SessionId) → (q ≡ true → IsSession n x) → All (IsSession n) turns → All (IsSession n) (if q then x ∷ turns else turns)
with_turn n true x turns here rest = All-cons (IsSession n) x turns (here refl) rest
with_turn n false x turns here rest = rest

turns_right : (n : ℕ) (inside : Bool) (bytes : List ℕ) → wrong_from n inside bytes ≡ None → All (IsSession n) (turns_from inside bytes)
turns_right n inside [] right = All-nil _
turns_right n inside (b ∷ bytes) right =
    let here = right_here (is_wrong n inside b bytes) (wrong_from n (is_digit b) bytes) right in
    with_turn n (begins_number inside b) (record { 0 = number_in_front (b ∷ bytes) }) (turns_from (is_digit b) bytes)
    (λ begins. is_session n (number_in_front (b ∷ bytes)) (some_there (is_unreadable b) (begins_number inside b) (is_none (session_of n (number_in_front (b ∷ bytes)))) here.0 begins))
    (turns_right n (is_digit b) bytes here.1)

-- ---- reading an order

order_stops : (bytes : Told) (words : List (List ℕ)) (fails : Type 0) (c : ExitCode) → 2 < length words → Fails bytes words 2 fails c → Stops (Some Rehearse) bytes words fails c
order_stops bytes words fails (code.HostFault w) within f =
    let here : Stops (Some Rehearse) bytes words fails (code.HostFault 2) = ((omega arith, within), record { short = λ v from below. absurd (omega (arith, from, below)); order = λ less. absurd (omega (arith, less)) }, f.1) in
    subst (λ v. Stops (Some Rehearse) bytes words fails (code.HostFault v)) (sym f.0) here
order_stops bytes words fails (code.TooLong w) within f =
    let here : Stops (Some Rehearse) bytes words fails (code.TooLong 2) = ((omega arith, within), record { short = λ v from below. absurd (omega (arith, from, below)); order = λ less. absurd (omega (arith, less)) }, f.1) in
    subst (λ v. Stops (Some Rehearse) bytes words fails (code.TooLong v)) (sym f.0) here
order_stops bytes words fails code.NoMemory within f = tt
order_stops bytes words fails code.Done within f = absurd f
order_stops bytes words fails code.Usage within f = absurd f
order_stops bytes words fails code.DiskFault within f = absurd f
order_stops bytes words fails code.SinkFault within f = absurd f
order_stops bytes words fails (code.Damaged at) within f = absurd f
order_stops bytes words fails (code.BadOrder at) within f = absurd f

pub word_stops : (bytes : Told) (words : List (List ℕ)) (fails : Type 0) (c : ExitCode) → 3 ≤ length words → Fails bytes words 2 fails c → Stops (Some Rehearse) bytes words fails c
word_stops bytes words fails c some f = order_stops bytes words fails c (omega (arith, some)) f

told_wrong : (told : Option (List ℕ)) (n : ℕ) (order : List ℕ) (place : Option ℕ) → IfSome told (λ b. order ≡ b) → wrong_at n order ≡ place → IfSome told (λ b. wrong_at n b ≡ place)
told_wrong None n order place is wrong = tt
told_wrong (Some b) n order place is wrong = subst (λ x. wrong_at n x ≡ place) is wrong

pub bad_stops : (bytes : Told) (words : List (List ℕ)) (fails : Type 0) (n : ℕ) (order : List ℕ) (c d : ExitCode) → n ≡ length words - 3 → WasRead bytes words 2 order → OrderStops n order d → c ≡ d → Stops (Some Rehearse) bytes words fails c
bad_stops bytes words fails n order c d is_n read stops is = subst (Stops (Some Rehearse) bytes words fails) (sym is) (by d stops)
  where
    by : (d : ExitCode) → OrderStops n order d → Stops (Some Rehearse) bytes words fails d
    by (code.BadOrder at) wrong = (short_told (told_at bytes words 2) order read.is read.short, subst (λ k. IfSome (told_at bytes words 2) (λ b. wrong_at k b ≡ Some at)) is_n (told_wrong (told_at bytes words 2) n order (Some at) read.is wrong))
    by code.NoMemory wrong = tt
    by code.Done wrong = absurd wrong
    by code.Usage wrong = absurd wrong
    by code.DiskFault wrong = absurd wrong
    by code.SinkFault wrong = absurd wrong
    by (code.Damaged at) wrong = absurd wrong
    by (code.HostFault w) wrong = absurd wrong
    by (code.TooLong w) wrong = absurd wrong

pub are_turns : (bytes : Told) (words : List (List ℕ)) (n m : ℕ) (order : List ℕ) (turns : List SessionId) → n ≡ m → WasRead bytes words 2 order → Order n order turns → AreTurns bytes words m turns
are_turns bytes words n m order turns is_n read is = subst (λ k. AreTurns bytes words k turns) is_n (record { order = order; is_order = record { is = read.is; short = read.short; right = is.right }; turns_are = is.turns_are })

-- the words behind the journal's have their turns in their order
pub other_place : (w : ℕ) → w ≢ 1 → (w == 1) ≡ false
other_place w other = grind (arith, nat_tests)

turn_behind : (words : List (List ℕ)) (w : ℕ) → 2 ≤ w → turn_of Rehearse words w ≡ w
turn_behind words w from = ap (λ b. if b then length words else w) (other_place w (λ e. omega (arith, e, from)))

-- ---- behind an order

module _ (bytes : Told) (words : List (List ℕ)) (turns : List SessionId) (read : AreTurns bytes words (length words - 3) turns) where
  order_right : OrderWrong bytes words None
  order_right = told_wrong (told_at bytes words 2) (length words - 3) read.order None read.is_order.is read.is_order.right

  short_at : (v w : ℕ) → ShortBetween bytes words 3 w → 2 ≤ v → v < w → (v ≡ 2) ⊎ (3 ≤ v) → IsShort bytes words v
  short_at v w short from below at_order =
      elim at_order [
        | inl is ↦ subst (IsShort bytes words) (sym is) (short_told (told_at bytes words 2) read.order read.is_order.is read.is_order.short)
        | inr behind ↦ short v behind below
      ]

  which : (v : ℕ) → 2 ≤ v → (v ≡ 2) ⊎ (3 ≤ v)
  which v from = at_least v (v - 2) (omega (arith, from))
    where
      at_least : (v k : ℕ) → v ≡ 2 + k → (v ≡ 2) ⊎ (3 ≤ v)
      at_least v zero is = inl is
      at_least v (suc k) is = inr (omega (arith, is))

  right_before : (w : ℕ) → ShortBetween bytes words 3 w → RightBefore Rehearse bytes words w
  right_before w short = record { short = λ v from below. short_at v w short from below (which v from); order = λ less. order_right }

  -- .. at the turn of a word behind the order
  before_turn : (w : ℕ) → 3 ≤ w → RightBefore Rehearse bytes words w → RightBefore Rehearse bytes words (turn_of Rehearse words w)
  before_turn w from right = subst (RightBefore Rehearse bytes words) (sym (turn_behind words w (omega (arith, from)))) right

  script_stops : (P : Type 0) (old mid new : ℕ) (c : ExitCode) → old ≤ mid → FailsFrom bytes words 3 (Rises mid new ⊎ P) c → Stops (Some Rehearse) bytes words (Rises old new ⊎ P) c
  script_stops P old mid new (code.HostFault w) grown f = ((omega (arith, f.0), f.1), before_turn w f.0 (right_before w f.2), fails_since P old mid new grown f.3)
  script_stops P old mid new (code.TooLong w) grown f = ((omega (arith, f.0), f.1), right_before w f.2, f.3)
  script_stops P old mid new code.NoMemory grown f = tt
  script_stops P old mid new code.Done grown f = absurd f
  script_stops P old mid new code.Usage grown f = absurd f
  script_stops P old mid new code.DiskFault grown f = absurd f
  script_stops P old mid new code.SinkFault grown f = absurd f
  script_stops P old mid new (code.Damaged at) grown f = absurd f
  script_stops P old mid new (code.BadOrder at) grown f = absurd f

  -- .. by what the host tells at a later moment
  pub scripts_stop : (mid_bytes : Told) → ((w : List ℕ) → mid_bytes w ≡ bytes w) → (P : Type 0) (old mid new : ℕ) (c : ExitCode) → old ≤ mid → FailsFrom mid_bytes words 3 (Rises mid new ⊎ P) c → Stops (Some Rehearse) bytes words (Rises old new ⊎ P) c
  scripts_stop mid_bytes same P old mid new c grown f =
      let is : mid_bytes ≡ bytes = λ i w. same w i in
      script_stops P old mid new c grown (subst (λ b. FailsFrom b words 3 (Rises mid new ⊎ P) c) is f)

  -- the sessions are as many as the order speaks of
  count : (jobs : List Job) → AreJobs bytes words 3 jobs → length words - 3 ≡ length jobs
  count jobs are = omega (arith, are.scripts.count, length-map jobs (λ (j : Job). j.script))

  pub prepared : (jobs : List Job) → AreJobs bytes words 3 jobs → IsPrepared bytes words jobs turns
  prepared jobs are = record {
    are_jobs = are;
    order = read.order;
    is_order = subst (λ n. IsOrder bytes words n read.order) (count jobs are) read.is_order;
    turns_are = read.turns_are;
  }

-- ---- a rehearsal that is prepared

module _ (bytes : Told) (words : List (List ℕ)) (jobs : List Job) (turns : List SessionId) (p : IsPrepared bytes words jobs turns) where
  -- the turns are of its sessions
  pub turns_fit : All (IsSession (length jobs)) turns
  turns_fit = subst (All (IsSession (length jobs))) (sym p.turns_are) (turns_right (length jobs) false p.order p.is_order.right)

  many : 3 + length jobs ≡ length words
  many = omega (arith, p.are_jobs.scripts.count, length-map jobs (λ (j : Job). j.script))

  pub few_sessions : length words ≤ 35 → length jobs ≤ 32
  few_sessions few = omega (arith, few, many)

  wrong_nowhere : OrderWrong bytes words None
  wrong_nowhere = told_wrong (told_at bytes words 2) (length words - 3) p.order None p.is_order.is (subst (λ n. wrong_at n p.order ≡ None) (sym same) p.is_order.right)
    where
      same : length words - 3 ≡ length jobs
      same = omega (arith, many)

  short_word : (v : ℕ) → 2 ≤ v → v < length words → IsShort bytes words v
  short_word v from below = at (v - 2) (omega (arith, from))
    where
      at : (k : ℕ) → v ≡ 2 + k → IsShort bytes words v
      at zero is = subst (IsShort bytes words) (sym is) (short_told (told_at bytes words 2) p.order p.is_order.is p.is_order.short)
      at (suc k) is = short_between bytes words 3 (length words) (map (λ (j : Job). j.script) jobs) p.are_jobs.scripts v (omega (arith, is)) below

  -- all that is read is right
  pub all_read : AllRead Rehearse bytes words
  all_read = record { short = short_word; order = λ less. wrong_nowhere }

pub sessions_ran : {S D : Type 0} (o : Outside S D) (words : List (List ℕ)) (jobs : List Job) (turns : List SessionId) → IsPrepared o.bytes words jobs turns → (recovered : List Record) (history : List Entry) (ends : List (SessionEnd S)) (now : D)
    → IsLegal recovered (length jobs) history → AreEnds o.sink_held o.sink_faults o.sink_word jobs history ends → Paced (length jobs) turns history → RanOver o.as_medium (journal_bytes o words) (length jobs) recovered history now
    → SessionsPaced o words recovered history ends now
sessions_ran o words jobs turns p recovered history ends now legal are_ends paced over = record {
  ran = record { jobs = jobs; are_jobs = p.are_jobs; legal = legal; are_ends = are_ends; disk = over };
  order = p.order;
  is_order = p.is_order;
  paced = subst (λ t. Paced (length jobs) t history) p.turns_are paced;
}
