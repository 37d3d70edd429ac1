-- What a session does with its asks and their answers, and what it prints of a block (own).
--
-- What a block does between Begin and EndCall is `Run`: the session asks what the run asks, prints its lines, and keeps the
-- states of its packages.
use Rattle.std.specs.Prelude.{ℕ, zero, suc, pos, ◌-◌, Bool, true, false, if◌then◌else◌, List, [], ◌∷◌, ◌++◌, codes, drop, length, map, Option, Some, None}
use Rattle.std.specs.List.{concat}
use Rattle.ebr_base.specs.declared.code.Code.TheVariants.{Ora}
use Rattle.ebr_base.specs.declared.value.Value.{Value}
use Rattle.ebr_base.specs.declared.value.Value.TheVariants as value
use Rattle.ebr_base.specs.Code.{code_text}
use Rattle.ebr_value.specs.Texts.{printed}
use Rattle.ebr_ast.specs.declared.statement.Block.{Block}
use Rattle.ebr_ast.specs.declared.unit.UnitTree.TheVariants as unit
use Rattle.ebr_ast.specs.declared.view.EditionView.{EditionView}
use Rattle.ebr_validity.specs.Verdict.{is_valid}
use Rattle.ebr_asks.specs.declared.ask.Ask.{Ask}
use Rattle.ebr_asks.specs.declared.ask.Ask.TheVariants as ask
use Rattle.ebr_asks.specs.declared.answer.Answer.{Answer}
use Rattle.ebr_asks.specs.declared.answer.Answer.TheVariants as answer
use Rattle.ebr_run.specs.Packages.{PackageState}
use Rattle.ebr_run.specs.Run.{Run, Seen, RunStatus, Waiting, Returned, Raised}

-- ---- states

-- Where a session stands: the asks it made, what it printed, the states of its packages, the bytes of lines for which there
-- is room, the answers still to come, and after how many of them it quits, if it does.
pub record State : Type 0 where
  pub asks : List Ask
  pub printed : List ℕ
  pub packages : List PackageState
  pub room : ℕ
  pub coming : List Answer
  pub quit : Option ℕ

-- Out: an ask is out that was given no answer.
pub data Flow : Type 0 where
  Normal : Flow
  Ended : Flow
  Out : Flow

pub record Outcome : Type 0 where
  pub state : State
  pub flow : Flow

abbrev pub Step : Type 0
Step = State → Outcome

abbrev pub ended : State → Flow → Outcome
ended σ f = record { state = σ; flow = f }

abbrev pub go_on : Flow → Outcome → Step → Outcome
go_on Normal o k = k o.state
go_on f o k = o

-- the second where the first ends normally
abbrev pub then_run : Outcome → Step → Outcome
then_run o k = go_on o.flow o k

-- ---- asks

-- one answer less, and that many
abbrev pub one_less : Option ℕ → Option ℕ
one_less None = None
one_less (Some zero) = Some zero
one_less (Some (suc n)) = Some n

abbrev pub less : ℕ → Option ℕ → Option ℕ
less zero q = q
less (suc n) q = less n (one_less q)

abbrev pub with_ask : Ask → State → State
with_ask a σ = record σ { asks = σ.asks ++ a ∷ [] }

abbrev pub next_answer : List Answer → State → (Answer → Step) → Outcome
next_answer [] σ k = ended σ Out
next_answer (x ∷ coming) σ k = k x (record σ { coming = coming; quit = one_less σ.quit })

-- The answer to Leave ends the session.
abbrev pub leaving : Step
leaving σ = next_answer σ.coming (with_ask ask.Leave σ) (λ x σ'. ended σ' Ended)

-- A fault of the disk, and what comes after the engine gave up, end the session; behind want of memory it leaves. Nothing more is
-- printed.
abbrev pub on_answer : Answer → (Answer → Step) → Step
on_answer answer.DiskFault k σ = ended σ Ended
on_answer answer.NoMemory k σ = leaving σ
on_answer answer.Stopped k σ = ended σ Ended
on_answer x k σ = k x σ

abbrev pub asked_unless : Option ℕ → Ask → (Answer → Step) → Step
asked_unless (Some zero) a k σ = leaving σ
asked_unless q a k σ = next_answer σ.coming (with_ask a σ) (λ x. on_answer x k)

-- An ask, and what is done with its answer; a session that quits asks Leave in its place.
abbrev pub asked : Ask → (Answer → Step) → Step
asked a k σ = asked_unless σ.quit a k σ

-- ---- replies

abbrev pub line_of : List ℕ → List ℕ
line_of text = text ++ 10 ∷ []

abbrev pub lines_of : List (List ℕ) → List ℕ
lines_of ls = concat (map line_of ls)

abbrev pub printing : List ℕ → Step
printing text σ = ended (record σ { printed = σ.printed ++ text }) Normal

abbrev pub behind_bar : Value → List ℕ
behind_bar v = 124 ∷ printed v

-- the values of a row, with `|` between them; NULL is empty
abbrev pub row_text : List Value → List ℕ
row_text [] = []
row_text (v ∷ vs) = printed v ++ concat (map behind_bar vs)

-- how many rows a statement gave or changed
abbrev pub count_line : ℕ → List ℕ
count_line n = line_of (printed (value.Num (pos n)) ++ codes " rows")

-- the lines that tell how a request ended, behind those that its triggers printed
abbrev pub result_lines : List ℕ → Answer → List ℕ
result_lines text answer.Done = line_of text
result_lines text answer.Invalid = line_of (codes "INVALID")
result_lines text (answer.Rows rows) = lines_of (map row_text rows) ++ count_line (length rows)
result_lines text (answer.Count n steps ls) = lines_of ls ++ count_line n
result_lines text (answer.Refused c steps ls) = lines_of ls ++ line_of (code_text c)
result_lines text x = []

abbrev pub printing_result : List ℕ → Answer → Step
printing_result text x = printing (result_lines text x)

-- ---- blocks

-- the answers that the run of a block takes: those before one that ends the session or has it leave, and before the session quits
abbrev pub usable : Option ℕ → List Answer → List Answer
usable (Some zero) xs = []
usable q [] = []
usable q (answer.DiskFault ∷ xs) = []
usable q (answer.NoMemory ∷ xs) = []
usable q (answer.Stopped ∷ xs) = []
usable q (x ∷ xs) = x ∷ usable (one_less q) xs

-- behind a run that made these asks, and has taken an answer to each
abbrev pub behind : List Ask → Seen → State → State
behind asks r σ = record {
  asks = σ.asks ++ asks;
  printed = σ.printed ++ lines_of r.lines;
  packages = r.packages;
  room = r.room;
  coming = drop (length asks) σ.coming;
  quit = less (length asks) σ.quit;
}

-- how many transactions of their own are open behind an ask with its answer; a close that is refused closes too
abbrev pub open_after : Ask → Answer → ℕ → ℕ
open_after ask.PushAuto answer.Done n = suc n
open_after (ask.PopAuto failed) x n = n - 1
open_after q x n = n

-- behind these asks, with their answers
abbrev pub open_behind : ℕ → List Ask → List Answer → ℕ
open_behind n [] xs = n
open_behind n (q ∷ asks) [] = n
open_behind n (q ∷ asks) (x ∷ xs) = open_behind (open_after q x n) asks xs

-- so many transactions are closed that have failed
abbrev pub closing : ℕ → Step → Step
closing zero k σ = k σ
closing (suc n) k σ = asked (ask.PopAuto true) (λ x. closing n k) σ

abbrev pub ending : Bool → List ℕ → Step
ending failed text = asked (ask.EndCall failed) (printing_result text)

-- the last ask, and those before it
abbrev pub asking : List Ask → (List Ask → Ask → Step) → Step
asking [] k σ = ended σ Out
asking (q ∷ []) k σ = k [] q σ
asking (q ∷ r ∷ asks) k σ = asking (r ∷ asks) (λ earlier. k (q ∷ earlier)) σ

-- what is done where a run has ended, or waits for an answer: it waits only where the session quits, ends or has none
abbrev pub run_stands : RunStatus → Seen → Step
run_stands Waiting r σ = asking r.asks (λ earlier q τ. asked q (λ x. printing []) (behind earlier r τ)) σ
run_stands Returned r σ = ending false (codes "OK") (behind r.asks r σ)
run_stands (Raised c) r σ = closing (open_behind 0 r.asks σ.coming) (ending true (code_text c)) (behind r.asks r σ)

abbrev pub most_steps : ℕ
most_steps = 1000000

-- what a session does with a run
abbrev pub run_on : (List Answer → Seen) → Step
run_on run σ = run_stands (run (usable σ.quit σ.coming)).standing (run (usable σ.quit σ.coming)) σ

-- what a block does that a session runs with these states of packages and this room
abbrev pub run_of : EditionView → Block → List PackageState → ℕ → List Answer → Seen
run_of v b packages room answers = Run v (unit.Block b) [] packages (record { row = None; room = room }) most_steps answers

abbrev pub run_valid : EditionView → Block → Step
run_valid v b σ = run_on (run_of v b σ.packages σ.room) σ

-- A block that fails the checks runs nothing.
abbrev pub run_seen : EditionView → Block → Step
run_seen v b σ = if is_valid v (unit.Block b) then run_valid v b σ else ending true (code_text (Ora 6550)) σ

abbrev pub block_behind : Block → Answer → Step
block_behind b (answer.View v) = run_seen v b
block_behind b x = printing (result_lines [] x)

abbrev pub run_block : Block → Step
run_block b = asked ask.Begin (block_behind b)
