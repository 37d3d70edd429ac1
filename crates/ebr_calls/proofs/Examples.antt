-- Sessions whose replies are computed.
use Rattle.std.proofs.Common.{◌≡◌, ℕ, Bool, true, false, List, [], ◌∷◌, Option, Some, None, refl, ap, ◌∙◌}
use Rattle.std.specs.Prelude.{codes, pos, if◌then◌else◌}
use Rattle.std.specs.Fmt.{digits}
use Rattle.ebr_base.specs.declared.code.Code.TheVariants.{Ebr}
use Rattle.ebr_base.specs.declared.value.Value.TheVariants as value
use Rattle.ebr_ast.specs.declared.statement.Block.{Block}
use Rattle.ebr_ast.specs.declared.unit.UnitTree.TheVariants as unit
use Rattle.ebr_ast.specs.declared.view.EditionView.{EditionView}
use Rattle.ebr_validity.specs.Verdict.{is_valid}
use Rattle.ebr_asks.specs.declared.ask.Ask.TheVariants as ask
use Rattle.ebr_asks.specs.declared.answer.Answer.{Answer}
use Rattle.ebr_asks.specs.declared.answer.Answer.TheVariants as answer
use Rattle.ebr_run.specs.Run.{Seen, Waiting, Returned, Raised}
use Rattle.ebr_calls.specs.Steps.{State, Outcome, Normal, Ended, ended, then_run, leaving, result_lines, run_block, run_stands, run_of, run_valid, ending}

abbrev most_room : ℕ
most_room = 16777216

abbrev begins : List Answer → Option ℕ → State
begins coming quit = record { asks = []; printed = []; packages = []; room = most_room; coming = coming; quit = quit }

-- a session whose script is one block
abbrev session : Block → List Answer → Option ℕ → Outcome
session b coming quit = then_run (run_block b (begins coming quit)) leaving

-- what is seen of FOR i IN 1 .. 3 LOOP DBMS_OUTPUT.PUT_LINE(i * i); END LOOP;
abbrev squares : Seen
squares = record { asks = []; lines = codes "1" ∷ codes "4" ∷ codes "9" ∷ []; steps = 7; packages = []; new = None; room = 16777210; standing = Returned }

abbrev checked : EditionView → Block → State → Bool → Outcome
checked v b σ valid = if valid then run_stands (run_of v b [] most_room σ.coming).standing (run_of v b [] most_room σ.coming) σ else ending true (codes "ORA-06550") σ

abbrev behind_begin : List Answer → State
behind_begin coming = record { asks = ask.Begin ∷ []; printed = []; packages = []; room = most_room; coming = coming; quit = None }

lines_and_ok : (v : EditionView) (b : Block) → is_valid v (unit.Block b) ≡ true → run_of v b [] most_room (answer.Done ∷ answer.Done ∷ []) ≡ squares
    → session b (answer.View v ∷ answer.Done ∷ answer.Done ∷ []) None
    ≡ ended (record {
      asks = ask.Begin ∷ ask.EndCall false ∷ ask.Leave ∷ [];
      printed = codes "1\n4\n9\nOK\n";
      packages = [];
      room = 16777210;
      coming = [];
      quit = None;
    }) Ended
lines_and_ok v b valid run =
    ap (λ c. then_run (checked v b (behind_begin (answer.Done ∷ answer.Done ∷ [])) c) leaving) valid
    ∙ ap (λ (r : Seen). then_run (run_stands r.standing r (behind_begin (answer.Done ∷ answer.Done ∷ []))) leaving) run

-- what is seen of a block that ended by EBR-0007 in a transaction of its own
abbrev stopped : Seen
stopped = record { asks = ask.PushAuto ∷ []; lines = codes "a" ∷ []; steps = 1000001; packages = []; new = None; room = 16777214; standing = Raised (Ebr 7) }

-- what is still open is closed before the call ends
open_levels_are_closed : run_stands stopped.standing stopped (behind_begin (answer.Done ∷ answer.Done ∷ answer.Done ∷ []))
    ≡ record {
      state = record {
        asks = ask.Begin ∷ ask.PushAuto ∷ ask.PopAuto true ∷ ask.EndCall true ∷ [];
        printed = codes "a\nEBR-0007\n";
        packages = [];
        room = 16777214;
        coming = [];
        quit = None;
      };
      flow = Normal;
    }
open_levels_are_closed = refl

-- a refused Begin prints its code, and no EndCall follows
begin_is_refused : (b : Block) → session b (answer.Refused (Ebr 10) 0 [] ∷ answer.Done ∷ []) None
    ≡ ended (record { asks = ask.Begin ∷ ask.Leave ∷ []; printed = codes "EBR-0010\n"; packages = []; room = most_room; coming = []; quit = None }) Ended
begin_is_refused b = refl

abbrev quitting : State
quitting = record { asks = ask.Begin ∷ []; printed = []; packages = []; room = most_room; coming = answer.Done ∷ []; quit = Some 0 }

-- a session that quits leaves in place of its next ask
quits_before_the_end : (v : EditionView) (b : Block) → is_valid v (unit.Block b) ≡ false → session b (answer.View v ∷ answer.Done ∷ []) (Some 1)
    ≡ ended (record { asks = ask.Begin ∷ ask.Leave ∷ []; printed = []; packages = []; room = most_room; coming = []; quit = Some 0 }) Ended
quits_before_the_end v b invalid = ap (λ c. then_run (if c then run_valid v b quitting else ending true (codes "ORA-06550") quitting) leaving) invalid

-- behind want of memory it leaves, ..
wanting_memory_leaves : (b : Block) → session b (answer.NoMemory ∷ answer.Done ∷ []) None
    ≡ ended (record { asks = ask.Begin ∷ ask.Leave ∷ []; printed = []; packages = []; room = most_room; coming = []; quit = None }) Ended
wanting_memory_leaves b = refl

-- what is seen of a block that waits for the answer to PushAuto
abbrev waits : Seen
waits = record { asks = ask.PushAuto ∷ []; lines = codes "a" ∷ []; steps = 2; packages = []; new = None; room = 16777214; standing = Waiting }

-- .. in the midst of a block too, and what it had printed is all
wanting_memory_ends_a_block : run_stands waits.standing waits (behind_begin (answer.NoMemory ∷ answer.Done ∷ []))
    ≡ ended (record { asks = ask.Begin ∷ ask.PushAuto ∷ ask.Leave ∷ []; printed = codes "a\n"; packages = []; room = 16777214; coming = []; quit = None }) Ended
wanting_memory_ends_a_block = refl

-- nothing more is printed after a fault of the disk
fault_ends_it : (b : Block) → session b (answer.DiskFault ∷ []) None ≡ ended (record { asks = ask.Begin ∷ []; printed = []; packages = []; room = most_room; coming = []; quit = None }) Ended
fault_ends_it b = refl

lines_of_triggers_come_first : result_lines [] (answer.Count 2 3 (codes "t" ∷ codes "t" ∷ [])) ≡ codes "t\nt\n2 rows\n"
unfolding digits
lines_of_triggers_come_first = refl

rows_are_joined : result_lines [] (answer.Rows ((value.Num (pos 7) ∷ value.Null ∷ value.Text (codes "x") ∷ []) ∷ [])) ≡ codes "7||x\n1 rows\n"
unfolding digits
rows_are_joined = refl
