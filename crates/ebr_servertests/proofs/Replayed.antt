-- The replies of worked scripts, by the definitions alone.
use Rattle.std.proofs.Common.{◌≡◌, ℕ, true, false, codes, List, [], ◌∷◌, ◌++◌, refl, ap, sym, ◌∙◌}
use Rattle.std.specs.Prelude.{None, map}
use Rattle.ebr_validity.specs.Verdict.{is_valid}
use Rattle.ebr_expr.specs.Operators.{builtin_named}
use Rattle.ebr_ast.specs.declared.unit.UnitTree.TheVariants as unit
use Rattle.ebr_base.specs.declared.numbers.EditionNo.{EditionNo}
use Rattle.ebr_script.specs.Pieces.{pieces_of, text_of}
use Rattle.ebr_asks.specs.declared.ask.Ask.{Ask}
use Rattle.ebr_asks.specs.declared.ask.Ask.TheVariants.{Leave}
use Rattle.ebr_asks.specs.declared.answer.Answer.{Answer}
use Rattle.ebr_asks.specs.declared.answer.Answer.TheVariants.{Done, Stopped}
use Rattle.ebr_asks.specs.declared.entry.Exchange.{Exchange}
use Rattle.ebr_calls.specs.Steps.{Ended, ended, line_of}
use Rattle.ebr_calls.specs.Continuation.{AllContinue, Continues}
use Rattle.ebr_session.specs.Transcripts.{answers, asks}
use Rattle.ebr_session.specs.Sessions.{SessionRun}
use Rattle.ebr_core.specs.History.{Mine}
use Rattle.ebr_worker.specs.Ends.{RanToEnd}
use Rattle.ebr_worker.specs.Matches.{ask_recorded, as_recorded}
use Rattle.ebr_servertests.specs.WorkedScripts.{Gives, CallsGive, UpgradeGives, call_of, the_session}
use Rattle.ebr_servertests.proofs.Histories.{exchanged, history_of, name_a, first_edition, second_edition, nothing_legal, calls, calls_legal, upgrade, upgrade_legal}
use Rattle.ebr_servertests.proofs.Prints.{a_prints, b_prints, a_prints_next}
use Rattle.ebr_servertests.proofs.Valid.{made_in, seeing, call_checks}

-- where no answer stopped the session, its exchanges are those of the history
kept_ask : (q : Ask) (x : Answer) → Continues x → ask_recorded q x ≡ q
kept_ask q Stopped on = absurd on
kept_ask q x on = refl

all_kept : (before : List Exchange) → AllContinue (answers before) → map as_recorded (before ++ exchanged Leave Done ∷ []) ≡ before ++ exchanged Leave Done ∷ []
all_kept [] on = refl
all_kept (x ∷ before) on = λ i. record { ask = kept_ask x.ask x.answer on.0 i; answer = x.answer } ∷ all_kept before on.1 i

-- a whole script that was run to its end, and what it printed
ran_so : (script : List ℕ) (before : List Exchange) (printed : List ℕ) (room : ℕ) → Mine (history_of before) the_session ≡ before ++ exchanged Leave Done ∷ [] → AllContinue (answers before)
    → SessionRun script (answers (Mine (history_of before) the_session)) None
    ≡ ended (record { asks = asks (Mine (history_of before) the_session); printed = printed; packages = []; room = room; coming = []; quit = None }) Ended
    → RanToEnd script (Mine (history_of before) the_session) printed
ran_so script before printed room last on run = record {
  before = before;
  last = last;
  went_on = on;
  ran = record { transcript = Mine (history_of before) the_session; matches = last ∙ sym (all_kept before on) ∙ sym (ap (map as_recorded) last); asked = ap (λ o. o.state.asks) run; printed_is = ap (λ o. o.state.printed) run; ended = ap (λ o. o.flow) run };
}

abbrev a : List ℕ
a = codes "a"

abbrev b : List ℕ
b = codes "b"

abbrev ok : List ℕ
ok = line_of (codes "OK")

pub nothing_gives : (script : List ℕ) → pieces_of script ≡ [] → Gives script []
nothing_gives script pieces = record {
  history = history_of [];
  legal = nothing_legal;
  ran = ran_so script [] [] 16777216 refl tt (simp pieces);
}

-- A procedure that an edition sees can be called, and no other.
a_is_called : (e : EditionNo) (text line : List ℕ) → is_valid (seeing e (made_in e text line)) (unit.Block (call_of name_a)) ≡ true
unfolding builtin_named
a_is_called e text line = call_checks (seeing e (made_in e text line)) name_a refl

b_is_missing : (e : EditionNo) (text line : List ℕ) → is_valid (seeing e (made_in e text line)) (unit.Block (call_of (codes "B"))) ≡ false
unfolding builtin_named
b_is_missing e text line = call_checks (seeing e (made_in e text line)) (codes "B") refl

pub calls_give : CallsGive (ok ++ line_of a ++ ok ++ line_of (codes "ORA-06550"))
calls_give script p q r pieces made first second =
    let text : List ℕ = text_of script p in
    let before : List Exchange = calls text a in
    record {
      history = history_of before;
      legal = calls_legal text a made.again made.small;
      ran = ran_so script before (ok ++ line_of a ++ ok ++ line_of (codes "ORA-06550")) 16777214 refl (tt, (tt, (tt, (tt, (tt, tt)))))
          (simp (pieces, made.spells, first, second, a_is_called first_edition text a, b_is_missing first_edition text a, a_prints first_edition text));
    }

pub upgrade_gives : UpgradeGives (ok ++ ok ++ ok ++ ok ++ line_of b ++ ok ++ ok ++ line_of a ++ ok)
upgrade_gives script p q r s t u v pieces first child_made child_set second there_called base_set here_called =
    let text : List ℕ = text_of script p in
    let text' : List ℕ = text_of script s in
    let before : List Exchange = upgrade text a text' b in
    record {
      history = history_of before;
      legal = upgrade_legal text a text' b first.again first.small second.again second.small;
      ran = ran_so script before (ok ++ ok ++ ok ++ ok ++ line_of b ++ ok ++ ok ++ line_of a ++ ok) 16777212 refl (tt, (tt, (tt, (tt, (tt, (tt, (tt, (tt, (tt, tt)))))))))
          (simp (pieces, first.spells, child_made, child_set, second.spells, there_called, base_set, here_called, a_is_called first_edition text a, a_is_called second_edition text' b, b_prints second_edition text', a_prints_next first_edition text));
    }
