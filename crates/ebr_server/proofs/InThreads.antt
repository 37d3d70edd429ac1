-- Why the sessions of a run didn't begin.
use Rattle.std.proofs.Common.{ℕ, ◌≡◌, ◌≤◌, if◌then◌else◌, List, length, Some, arith, ap, sym, subst}
use Rattle.std.specs.Prelude.{map}
use Rattle.std.proofs.lemmas.List.{length-map}
use Rattle.ebr_words.specs.declared.words.Command.TheVariants.{Run}
use Rattle.ebr_worker.specs.Ends.{Job}
use Rattle.ebr_server.specs.declared.exit.ExitCode.{ExitCode}
use Rattle.ebr_server.specs.declared.exit.ExitCode.TheVariants as code
use Rattle.ebr_server.specs.Program.{AllRead, AreJobs, RightBefore, ShortBetween, Stops, turn_of}
use Rattle.ebr_server.specs.inside.Opened.{FailsFrom}
use Rattle.ebr_server.proofs.InTurns.{other_place}
use Rattle.ebr_server.proofs.InWords.{Told, short_between}

-- the scripts have their turns in their order
turn_behind : (words : List (List ℕ)) (w : ℕ) → 2 ≤ w → turn_of Run words w ≡ w
turn_behind words w from = ap (λ b. if b then length words else w) (other_place w (λ e. omega (arith, e, from)))

before_turn : (bytes : Told) (words : List (List ℕ)) (w : ℕ) → 2 ≤ w → ShortBetween bytes words 2 w → RightBefore Run bytes words (turn_of Run words w)
before_turn bytes words w from short = subst (RightBefore Run bytes words) (sym (turn_behind words w from)) short

pub scripts_stop : (bytes : Told) (words : List (List ℕ)) (F : Type 0) (c : ExitCode) → FailsFrom bytes words 2 F c → Stops (Some Run) bytes words F c
scripts_stop bytes words F (code.HostFault w) f = ((omega (arith, f.0), f.1), before_turn bytes words w f.0 f.2, f.3)
scripts_stop bytes words F (code.TooLong w) f = ((f.0, f.1), f.2, f.3)
scripts_stop bytes words F code.NoMemory f = tt
scripts_stop bytes words F code.Done f = absurd f
scripts_stop bytes words F code.Usage f = absurd f
scripts_stop bytes words F code.DiskFault f = absurd f
scripts_stop bytes words F code.SinkFault f = absurd f
scripts_stop bytes words F (code.Damaged at) f = absurd f
scripts_stop bytes words F (code.BadOrder at) f = absurd f

-- all that is read is right
pub all_short : (bytes : Told) (words : List (List ℕ)) (jobs : List Job) → AreJobs bytes words 2 jobs → AllRead Run bytes words
all_short bytes words jobs are = short_between bytes words 2 (length words) (map (λ (j : Job). j.script) jobs) are.scripts

pub few_jobs : (bytes : Told) (words : List (List ℕ)) (jobs : List Job) → AreJobs bytes words 2 jobs → length words ≤ 34 → length jobs ≤ 32
few_jobs bytes words jobs are few = omega (arith, few, are.scripts.count, length-map jobs (λ (j : Job). j.script))
