-- What a turn makes of what the worker keeps: the session goes on to its next ask, and takes the answer.
use Rattle.std.proofs.Common.{ℕ, ◌≡◌, ◌+◌, ◌<◌, Bool, true, false, List, [], ◌∷◌, ◌++◌, length, take, Option, Some, None, Ok, Err, inl, inr, arith, refl, sym, ◌∙◌, ap, subst, append-nil}
use Rattle.std.specs.Prelude.{map, is_some, ◌||◌}
use Rattle.std.proofs.Math.Seq.{take-append_seam}
use Rattle.std.proofs.lemmas.List.{map-append, length-append, length-map}
use Rattle.ebr_base.specs.declared.clone_in.NoMemory.{NoMemory}
use Rattle.ebr_base.specs.declared.numbers.SessionId.{SessionId}
use Rattle.ebr_worker.specs.declared.limits.TheConstants.{MAX_ASKS}
use Rattle.ebr_asks.specs.declared.ask.Ask.{Ask}
use Rattle.ebr_asks.specs.declared.ask.Ask.TheVariants as ask
use Rattle.ebr_asks.specs.declared.answer.Answer.{Answer}
use Rattle.ebr_asks.specs.declared.answer.Answer.TheVariants as answer
use Rattle.ebr_asks.specs.declared.entry.Exchange.{Exchange}
use Rattle.ebr_faults.specs.Faults.{one_more}
use Rattle.ebr_report.specs.declared.ends.EndKind.{EndKind}
use Rattle.ebr_report.specs.declared.ends.EndKind.TheVariants as ending
use Rattle.ebr_calls.specs.Steps.{Ended}
use Rattle.ebr_calls.specs.Continuation.{AllContinue, Continues}
use Rattle.ebr_session.specs.declared.next.NextAsk.TheVariants as next
use Rattle.ebr_session.specs.Has.{Follows, GoesBehind, HasAsked, HasPrinted, IsFit, IsShort, Made, Progress, WentOn, answered, is_leaving, is_short, run_of, wants}
use Rattle.ebr_session.specs.Transcripts.{IsPrefix, answers, asks, ends, exchange, printed_before, stops}
use Rattle.ebr_session.specs.Sessions.{SessionRun, Printed}
use Rattle.ebr_worker.specs.Matches.{ask_recorded, as_recorded}
use Rattle.ebr_worker.specs.Paced.{has_ended}
use Rattle.ebr_worker.specs.Ends.{AnswersLeave, Came, Job, Quit, Ran, RanOut, RanToEnd, StopsIt, failed_writes, printed_before_last}
use Rattle.ebr_worker.specs.Work.{HasCome, Runs, Work, job_of, why_short}
use Rattle.ebr_worker.specs.Turn.{Happens, MayTurn, MayTurnBy, TakesTurn}
use Rattle.ebr_worker.specs.inside.Worker.{Advanced, Asks, AsksBy, Flushed, HasGoneOn, HasQuit, LeavesNow, Quits, Settles, end_by, end_of, having_quit, if_ended, why_by, with_leave}
use Rattle.ebr_worker.proofs.Histories.{any_more}

-- ---- what is kept of exchanges

answers_kept : (mine : List Exchange) → answers (map as_recorded mine) ≡ answers mine
answers_kept [] = refl
answers_kept (x ∷ mine) = ap (λ xs. x.answer ∷ xs) (answers_kept mine)

answers_of : (mine transcript : List Exchange) → mine ≡ map as_recorded transcript → answers mine ≡ answers transcript
answers_of mine transcript matches = ap answers matches ∙ answers_kept transcript

length_of : (mine transcript : List Exchange) → mine ≡ map as_recorded transcript → length mine ≡ length transcript
length_of mine transcript matches = ap length matches ∙ length-map transcript as_recorded

-- the answers before the last exchange
before_last : (mine : List Exchange) (x : Exchange) → take (length mine) (answers (mine ++ x ∷ [])) ≡ answers mine
before_last mine x =
    ap (take (length mine)) (map-append (λ (y : Exchange). y.answer) mine (x ∷ []))
    ∙ ap (λ n. take n (answers mine ++ x.answer ∷ [])) (sym (length-map mine (λ (y : Exchange). y.answer)))
    ∙ take-append_seam (answers mine) (x.answer ∷ [])

pub stopped_ends : (q : Ask) → ends q answer.Stopped ≡ true
stopped_ends ask.Leave = refl
stopped_ends q = refl

leave_kept : (x : Answer) → ask_recorded ask.Leave x ≡ ask.Leave
leave_kept answer.Stopped = refl
leave_kept x = refl

-- ---- what follows of a session

-- a session that has ended has run so
ran_so : (s : Progress) (mine : List Exchange) → Follows s → s.ended ≡ true → mine ≡ map as_recorded s.transcript → Ran s.script mine s.quit (run_of s).state.printed
ran_so s mine f over matches =
    let made : Made Ended (asks s.transcript) s = subst (λ b. HasAsked b s.out s) over f.asked in
    let same : answers mine ≡ answers s.transcript = answers_of mine s.transcript matches in
    record {
      transcript = s.transcript;
      matches = matches;
      asked = ap (λ given. (SessionRun s.script given s.quit).state.asks) same ∙ made.asks_are;
      printed_is = ap (λ given. (SessionRun s.script given s.quit).state.printed) same;
      ended = ap (λ given. (SessionRun s.script given s.quit).flow) same ∙ made.flow_is;
    }

Ran-same : (script script' : List ℕ) (mine : List Exchange) (quit quit' : Option ℕ) (p p' : List ℕ) → script ≡ script' → quit ≡ quit' → p ≡ p' → Ran script mine quit p → Ran script' mine quit' p'
Ran-same script script' mine quit quit' p p' a c d ran =
    subst (λ s. Ran s mine quit' p') a (subst (λ q. Ran script mine q p') c (subst (Ran script mine quit) d ran))

pub is_true : (b : Bool) → b ≡ false → b ≡ true → ⊥
is_true b runs is = cc

-- only Leave is ended by an answer after which sessions go on
left_by : (q : Ask) (x : Answer) → stops x ≡ false → ends q x ≡ true → q ≡ ask.Leave
left_by ask.Leave x on over = refl
left_by q x on over = absurd (is_true (stops x) on over)

-- the answer to Leave after which sessions go on
done_by : (x : Answer) → stops x ≡ false → AnswersLeave x → x ≡ answer.Done
done_by answer.Done on leaves = refl
done_by answer.Stopped on leaves = cc
done_by x on leaves = absurd leaves

-- the last exchange of a session, and how it has run
record Last (script : List ℕ) (before mine : List Exchange) (q : Ask) (x : Answer) (replies : List ℕ) : Type 0 where
  pub is : mine ≡ before ++ as_recorded (exchange q x) ∷ []
  pub went_on : AllContinue (answers before)
  pub ran : Ran script mine None replies
  pub leaves : q ≡ ask.Leave → AnswersLeave x

ran_out : (By : Answer → Type 0) (script : List ℕ) (before mine : List Exchange) (q : Ask) (x : Answer) (replies : List ℕ) → By x → Last script before mine q x replies → RanOut By script mine replies
ran_out By script before mine q x replies by_it l = record {
  before = before;
  ask = ask_recorded q x;
  answer = x;
  last = l.is;
  went_on = l.went_on;
  by = by_it;
  ran = l.ran;
}

ran_to_end : (script : List ℕ) (before mine : List Exchange) (q : Ask) (x : Answer) (replies : List ℕ) → stops x ≡ false → ends q x ≡ true → Last script before mine q x replies → RanToEnd script mine replies
ran_to_end script before mine q x replies on over l =
    let left : q ≡ ask.Leave = left_by q x on over in
    let done : x ≡ answer.Done = done_by x on (l.leaves left) in
    record {
      before = before;
      last = l.is ∙ ap (λ a. before ++ as_recorded (exchange a x) ∷ []) left ∙ ap (λ y. before ++ as_recorded (exchange ask.Leave y) ∷ []) done;
      went_on = l.went_on;
      ran = l.ran;
    }

ended_by : (script : List ℕ) (before mine : List Exchange) (q : Ask) (x : Answer) (replies : List ℕ) → ends q x ≡ true → Last script before mine q x replies → Came (end_of x) script mine replies
ended_by script before mine q answer.DiskFault replies over l = ran_out StopsIt script before mine q answer.DiskFault replies tt l
ended_by script before mine q answer.NoMemory replies over l = absurd (l.leaves (left_by q answer.NoMemory refl over))
ended_by script before mine q answer.Stopped replies over l = ran_out StopsIt script before mine q answer.Stopped replies tt l
ended_by script before mine q x replies over l = ran_to_end script before mine q x replies refl over l

-- no answer says that the sink failed
none_failed : (x : Answer) → failed_writes (end_of x) ≡ 0
none_failed answer.DiskFault = refl
none_failed answer.NoMemory = refl
none_failed answer.Stopped = refl
none_failed x = refl

-- ---- without memory

-- none of the answers behind which it went on is that there is no memory
pub none_short : (mine : List Exchange) → AllContinue (answers mine) → is_short mine ≡ false
none_short [] all = refl
none_short (x ∷ mine) all = ap (λ b. b || is_short mine) (goes x.answer all.0) ∙ none_short mine all.1
  where
    goes : (a : Answer) → Continues a → wants a ≡ false
    goes answer.DiskFault c = absurd c
    goes answer.NoMemory c = absurd c
    goes answer.Stopped c = absurd c
    goes a c = refl

last_short : (mine : List Exchange) (q : Ask) → AllContinue (answers mine) → is_short (mine ++ exchange q answer.NoMemory ∷ []) ≡ true
last_short mine q all = any_more (λ (x : Exchange). wants x.answer) mine (exchange q answer.NoMemory) (none_short mine all)

-- behind which answers a session goes on that runs
goes_behind : (s : Progress) → Follows s → s.ended ≡ false → GoesBehind s.transcript
goes_behind s f runs = (subst (λ b. WentOn b s) runs f.went_on).0

goes_all : (s : Progress) → Follows s → s.ended ≡ false → is_short s.transcript ≡ false → AllContinue (answers s.transcript)
goes_all s f runs long = by (goes_behind s f runs)
  where
    by : GoesBehind s.transcript → AllContinue (answers s.transcript)
    by (inl all) = all
    by (inr h) = absurd (is_true (is_short s.transcript) long (ap is_short h.is ∙ last_short h.before h.ask h.went_on))

goes_short : (s : Progress) → Follows s → s.ended ≡ false → is_short s.transcript ≡ true → IsShort s.transcript
goes_short s f runs short = by (goes_behind s f runs)
  where
    by : GoesBehind s.transcript → IsShort s.transcript
    by (inl all) = absurd (is_true (is_short s.transcript) (none_short s.transcript all) short)
    by (inr h) = h

some_why : (b : Bool) → is_some (why_short b) ≡ b
some_why true = refl
some_why false = refl

-- whether it has a cause to leave, by its exchanges
pub why_is : (w : Work) (b : Bool) → Runs w → is_some w.why ≡ b → is_short w.session.transcript ≡ b
why_is w b runs is = sym (some_why (is_short w.session.transcript)) ∙ ap (λ (o : Option EndKind). is_some o) (sym runs.why) ∙ is

no_why : (o : Option EndKind) → is_some o ≡ false → o ≡ None
no_why None is = refl
no_why (Some k) is = cc

-- what a running session without an ask has printed
printed_so : (w : Work) → Runs w → HasPrinted None false None w.session
printed_so w runs =
    let s : Progress = w.session in
    subst (λ o. HasPrinted None false o s) runs.no_ask (subst (λ b. HasPrinted None b s.out s) runs.goes_on (subst (λ n. HasPrinted n s.ended s.out s) runs.no_quit runs.follows.printed))

-- .. of which all is written
written_so : (w : Work) → Runs w → w.written ≡ printed_before_last w.session.script (answers w.session.transcript)
written_so w runs =
    let s : Progress = w.session in
    runs.written ∙ (printed_so w runs).0 ∙ ap (printed_before s.script (answers s.transcript)) (sym (length-map s.transcript (λ (x : Exchange). x.answer)))

most_so : (w : Work) → Runs w → IsPrefix w.written (Printed w.session.script (answers w.session.transcript))
most_so w runs =
    let s : Progress = w.session in
    let p : IsPrefix s.printed (SessionRun s.script (answers s.transcript) None).state.printed = subst (λ n. IsPrefix s.printed (SessionRun s.script (answers s.transcript) n).state.printed) runs.no_quit (printed_so w runs).1 in
    subst (λ l. IsPrefix l (Printed s.script (answers s.transcript))) (sym runs.written) p

prefix_same : (xs ys : List ℕ) → xs ≡ ys → IsPrefix ys xs
prefix_same xs ys is = record { rest = []; whole = is ∙ sym (append-nil ys) }

-- ---- it goes on

pub job_so : (w : Work) (script word : List ℕ) → w.session.script ≡ script → w.word ≡ word → job_of w ≡ record { script = script; word = word }
job_so w script word same_script same_word = λ i. record { script = same_script i; word = same_word i }

-- It was answered that there is no memory: Leave is out.
pub gone_leaving : (q : Ask) (w new : Work) → Runs w → w.end ≡ None → is_some w.why ≡ true → LeavesNow q w new → HasGoneOn q w new
gone_leaving q w new runs no_end some n =
    let short : is_short w.session.transcript ≡ true = why_is w true runs some in
    let why : w.why ≡ Some ending.NoMemory = runs.why ∙ ap why_short short in
    let session : new.session ≡ with_leave w.session = ap (λ (v : Work). v.session) n.is in
    let mine : new.session.transcript ≡ w.session.transcript = ap (λ (t : Progress). t.transcript) session in
    record {
      asks = record {
        goes_on = ap (λ (t : Progress). t.ended) session ∙ runs.goes_on;
        out = ap (λ (t : Progress). t.out) session ∙ ap Some (sym n.leave);
        follows = n.follows;
        not_over = ap has_ended mine ∙ runs.not_over;
        few = subst (λ l. length l < MAX_ASKS) (sym mine) runs.few;
        fit = subst IsFit (sym n.leave) tt;
        short = λ is. n.leave;
        by = subst (λ o. AsksBy o q new) (sym (ap (λ (v : Work). v.why) n.is ∙ why)) (
          n.leave,
          ap (λ (v : Work). v.faults) n.is ∙ runs.unfailed,
          inr (record {
            no_quit = ap (λ (t : Progress). t.quit) session ∙ runs.no_quit;
            short = subst IsShort (sym mine) (goes_short w.session runs.follows runs.goes_on short);
            written = ap (λ (v : Work). v.written) n.is ∙ runs.written ∙ sym (ap (λ (t : Progress). t.printed) session);
          }),
        );
        no_end = ap (λ (v : Work). v.end) n.is ∙ no_end;
      };
      session = ap (λ (t : Progress). t.session) session;
      job = ap job_of n.is;
      transcript = mine;
    }

-- It has quit: Leave is out.
module _ (why : EndKind) (q : Ask) (w mid new : Work) (runs : Runs w) (no_end : w.end ≡ None) (long : is_some w.why ≡ false)
    (number : mid.session.session ≡ w.session.session) (job : job_of mid ≡ job_of w) (mine : mid.session.transcript ≡ w.session.transcript) (goes : mid.session.ended ≡ false) (end : mid.end ≡ None) (n : Quits why q mid new) where
  quit_session : new.session ≡ (having_quit why mid).session
  quit_session = ap (λ (v : Work). v.session) n.is

  quit_mine : new.session.transcript ≡ w.session.transcript
  quit_mine = ap (λ (t : Progress). t.transcript) quit_session ∙ mine

  quit_job : job_of new ≡ job_of w
  quit_job = ap job_of n.is ∙ job

  quit_script : new.session.script ≡ w.session.script
  quit_script = ap (λ (j : Job). j.script) quit_job

  gone_quit : AsksBy (Some why) q new → HasGoneOn q w new
  gone_quit by = record {
    asks = record {
      goes_on = ap (λ (t : Progress). t.ended) quit_session ∙ goes;
      out = ap (λ (t : Progress). t.out) quit_session ∙ ap Some (sym n.leave);
      follows = n.follows;
      not_over = ap has_ended quit_mine ∙ runs.not_over;
      few = subst (λ l. length l < MAX_ASKS) (sym quit_mine) runs.few;
      fit = subst IsFit (sym n.leave) tt;
      short = λ is. n.leave;
      by = subst (λ o. AsksBy o q new) (sym (ap (λ (v : Work). v.why) n.is)) by;
      no_end = ap (λ (v : Work). v.end) n.is ∙ end;
    };
    session = ap (λ (t : Progress). t.session) quit_session ∙ number;
    job = quit_job;
    transcript = quit_mine;
  }

  quit_all : AllContinue (answers w.session.transcript)
  quit_all = goes_all w.session runs.follows runs.goes_on (why_is w false runs long)

  -- of what its script prints so much is written
  quit_so : (written : List ℕ) → new.written ≡ written → IsPrefix written (Printed w.session.script (answers w.session.transcript)) → IsPrefix (printed_before_last w.session.script (answers w.session.transcript)) written → HasQuit new
  quit_so written is most least = record {
    quit = ap (λ (t : Progress). t.quit) quit_session ∙ ap (λ (l : List Exchange). Some (length l)) (mine ∙ sym quit_mine);
    went_on = subst (λ (l : List Exchange). AllContinue (answers l)) (sym quit_mine) quit_all;
    most = subst (λ l. IsPrefix l (Printed new.session.script (answers new.session.transcript))) (sym is)
        (subst (λ (l : List Exchange). IsPrefix written (Printed new.session.script (answers l))) (sym quit_mine) (subst (λ t. IsPrefix written (Printed t (answers w.session.transcript))) (sym quit_script) most));
    least = subst (λ l. IsPrefix (printed_before_last new.session.script (answers new.session.transcript)) l) (sym is)
        (subst (λ (l : List Exchange). IsPrefix (printed_before_last new.session.script (answers l)) written) (sym quit_mine) (subst (λ t. IsPrefix (printed_before_last t (answers w.session.transcript)) written) (sym quit_script) least));
  }

-- It found no memory, or has made too many asks: it quits with all written that it printed.
pub gone_short : (why : EndKind) (q : Ask) (w mid new : Work) → why ≡ ending.NoMemory → Runs w → w.end ≡ None → is_some w.why ≡ false → mid ≡ w → Quits why q mid new → HasGoneOn q w new
gone_short why q w mid new is runs no_end long same n =
    let d : Quits ending.NoMemory q w new = subst (λ v. Quits ending.NoMemory q v new) same (subst (λ k. Quits k q mid new) is n) in
    let written : new.written ≡ w.written = ap (λ (v : Work). v.written) d.is in
    let script : new.session.script ≡ w.session.script = quit_script ending.NoMemory q w w new runs no_end long refl refl refl runs.goes_on no_end d in
    let mine : new.session.transcript ≡ w.session.transcript = quit_mine ending.NoMemory q w w new runs no_end long refl refl refl runs.goes_on no_end d in
    gone_quit ending.NoMemory q w w new runs no_end long refl refl refl runs.goes_on no_end d (
      d.leave,
      ap (λ (v : Work). v.faults) d.is ∙ runs.unfailed,
      inl (record {
        quit = quit_so ending.NoMemory q w w new runs no_end long refl refl refl runs.goes_on no_end d w.written written (most_so w runs) (prefix_same _ _ (written_so w runs));
        whole = written ∙ written_so w runs ∙ ap (λ t. printed_before_last t (answers w.session.transcript)) (sym script) ∙ ap (λ (l : List Exchange). printed_before_last new.session.script (answers l)) (sym mine);
      }),
    )

pub why_seen : (seen w : Work) (b : Bool) → seen ≡ w → is_some seen.why ≡ b → is_some w.why ≡ b
why_seen seen w b same is = ap (λ (v : Work). is_some v.why) (sym same) ∙ is

-- a session that was answered that there is no memory is to leave
pub is_to_leave : (w : Work) → Runs w → is_some w.why ≡ true → is_leaving w.session ≡ true
is_to_leave w runs some = ap (λ (o : Option ℕ). is_some o || is_short w.session.transcript) runs.no_quit ∙ why_is w true runs some

-- one that runs isn't done, and has not ended behind what it does
pub never_done : {P : Type 0} (w mid : Work) → Runs w → Advanced (Ok next.Done) w mid → P
never_done w mid runs on = absurd (is_true w.session.ended runs.goes_on on.advances.0)

pub goes_wrote : (all : Bool) (p : Ask) (w mid wrote : Work) → Runs w → Advanced (Ok (next.Ask p)) w mid → Flushed all mid wrote → wrote.session.ended ≡ false
goes_wrote all p w mid wrote runs on flushed = ap (λ (t : Progress). t.ended) (flushed.session ∙ on.advances.is) ∙ runs.goes_on

pub goes_failed : (e : NoMemory) (w mid : Work) → Runs w → Advanced (Err e) w mid → mid.session.ended ≡ false
goes_failed e w mid runs on = ap (λ (t : Progress). t.ended) on.advances.2 ∙ runs.goes_on

-- where it stands as it did
pub stands_still : (w mid : Work) → mid ≡ record w { session = mid.session } → mid.session ≡ w.session → mid ≡ w
stands_still w mid is same = is ∙ ap (λ (s : Progress). record w { session = s }) same

-- The next ask is out, and all that it printed is written.
pub gone_on : (q : Ask) (w mid new : Work) → Runs w → w.end ≡ None → is_some w.why ≡ false → length w.session.transcript + 1 < MAX_ASKS → Advanced (Ok (next.Ask q)) w mid → Flushed true mid new → HasGoneOn q w new
gone_on q w mid new runs no_end long few on flushed =
    let s : Progress = w.session in
    let is : mid.session ≡ record s { printed = mid.session.printed; out = Some q } = on.advances.is in
    let session : new.session ≡ record s { printed = mid.session.printed; out = Some q } = flushed.session ∙ is in
    let mine : new.session.transcript ≡ s.transcript = ap (λ (t : Progress). t.transcript) session in
    let not_short : is_short s.transcript ≡ false = why_is w false runs long in
    record {
      asks = record {
        goes_on = ap (λ (t : Progress). t.ended) session ∙ runs.goes_on;
        out = ap (λ (t : Progress). t.out) session;
        follows = subst Follows (sym flushed.session) on.follows;
        not_over = ap has_ended mine ∙ runs.not_over;
        few = subst (λ l. length l < MAX_ASKS) (sym mine) runs.few;
        fit = on.advances.fit;
        short = λ e. absurd (is_true (is_short s.transcript) not_short (ap is_short (sym mine) ∙ e));
        by = subst (λ o. AsksBy o q new) (sym (flushed.why ∙ ap (λ (v : Work). v.why) on.same ∙ no_why w.why long)) (record {
          no_quit = ap (λ (t : Progress). t.quit) session ∙ runs.no_quit;
          went_on = subst (λ (l : List Exchange). AllContinue (answers l)) (sym mine) (goes_all s runs.follows runs.goes_on not_short);
          written = flushed.whole;
          unfailed = flushed.counted ∙ ap (λ (v : Work). v.faults) on.same ∙ runs.unfailed;
          few = subst (λ l. length l + 1 < MAX_ASKS) (sym mine) few;
        });
        no_end = flushed.end ∙ ap (λ (v : Work). v.end) on.same ∙ no_end;
      };
      session = ap (λ (t : Progress). t.session) session;
      job = job_so new w.session.script w.word (ap (λ (t : Progress). t.script) session) (flushed.word ∙ ap (λ (v : Work). v.word) on.same);
      transcript = mine;
    }

-- A write failed: it quits, and that was the one write that failed.
pub gone_unwritten : (why : EndKind) (q p : Ask) (w mid wrote new : Work) → why ≡ ending.SinkFault → Runs w → w.end ≡ None → is_some w.why ≡ false → Advanced (Ok (next.Ask p)) w mid → Flushed false mid wrote → Quits why q wrote new → HasGoneOn q w new
gone_unwritten why q p w mid wrote new k runs no_end long on flushed n =
    let s : Progress = w.session in
    let d : Quits ending.SinkFault q wrote new = subst (λ j. Quits j q wrote new) k n in
    let is : mid.session ≡ record s { printed = mid.session.printed; out = Some p } = on.advances.is in
    let session : wrote.session ≡ record s { printed = mid.session.printed; out = Some p } = flushed.session ∙ is in
    let number : wrote.session.session ≡ s.session = ap (λ (t : Progress). t.session) session in
    let job : job_of wrote ≡ job_of w = job_so wrote w.session.script w.word (ap (λ (t : Progress). t.script) session) (flushed.word ∙ ap (λ (v : Work). v.word) on.same) in
    let mine : wrote.session.transcript ≡ s.transcript = ap (λ (t : Progress). t.transcript) session in
    let goes : wrote.session.ended ≡ false = ap (λ (t : Progress). t.ended) session ∙ runs.goes_on in
    let end : wrote.end ≡ None = flushed.end ∙ ap (λ (v : Work). v.end) on.same ∙ no_end in
    let one : new.faults ≡ 1 = ap (λ (v : Work). v.faults) d.is ∙ flushed.counted ∙ ap one_more (ap (λ (v : Work). v.faults) on.same ∙ runs.unfailed) in
    gone_quit ending.SinkFault q w wrote new runs no_end long number job mine goes end d (
      d.leave,
      one,
      quit_so ending.SinkFault q w wrote new runs no_end long number job mine goes end d wrote.written (ap (λ (v : Work). v.written) d.is)
          (subst (λ l. IsPrefix wrote.written l) printed_out flushed_part)
          (subst (λ l. IsPrefix l wrote.written) (ap (λ (v : Work). v.written) on.same ∙ written_so w runs) flushed.grown),
    )
  where
    flushed_part : IsPrefix wrote.written mid.session.printed
    flushed_part = subst (λ (t : Progress). IsPrefix wrote.written t.printed) flushed.session flushed.part

    at_ask : mid.session ≡ record w.session { printed = mid.session.printed; out = Some p }
    at_ask = on.advances.is

    -- what it had printed at its ask is what its run prints
    printed_out : mid.session.printed ≡ Printed w.session.script (answers w.session.transcript)
    printed_out =
        let q0 : HasPrinted mid.session.quit mid.session.ended mid.session.out mid.session = on.follows.printed in
        let q1 : mid.session.printed ≡ (run_of mid.session).state.printed = subst (λ o. HasPrinted None false o mid.session) (ap (λ (t : Progress). t.out) at_ask)
        (subst (λ b. HasPrinted None b mid.session.out mid.session) (ap (λ (t : Progress). t.ended) at_ask ∙ runs.goes_on)
        (subst (λ n. HasPrinted n mid.session.ended mid.session.out mid.session) (ap (λ (t : Progress). t.quit) at_ask ∙ runs.no_quit) q0)) in
        q1
        ∙ ap (λ n. (SessionRun mid.session.script (answers mid.session.transcript) n).state.printed) (ap (λ (t : Progress). t.quit) at_ask ∙ runs.no_quit)
        ∙ ap (λ t. Printed t (answers mid.session.transcript)) (ap (λ (t : Progress). t.script) at_ask)
        ∙ ap (λ (l : List Exchange). Printed w.session.script (answers l)) (ap (λ (t : Progress). t.transcript) at_ask)

-- ---- it takes the answer

module _ (q : Ask) (x : Answer) (w new : Work) (was : Asks q w) (did : Settles x w new) (leaves : q ≡ ask.Leave → AnswersLeave x) where
  abbrev s : Progress
  s = w.session

  session_is : new.session ≡ answered (Some q) x s
  session_is = ap (λ (v : Work). v.session) did.is ∙ ap (λ o. answered o x s) was.out

  pub transcript_is : new.session.transcript ≡ s.transcript ++ exchange q x ∷ []
  transcript_is = ap (λ (t : Progress). t.transcript) session_is

  pub number_same : new.session.session ≡ s.session
  number_same = ap (λ (t : Progress). t.session) session_is

  pub script_same : new.session.script ≡ s.script
  script_same = ap (λ (t : Progress). t.script) session_is

  printed_same : new.session.printed ≡ s.printed
  printed_same = ap (λ (t : Progress). t.printed) session_is

  quit_same : new.session.quit ≡ s.quit
  quit_same = ap (λ (t : Progress). t.quit) session_is

  ended_is : new.session.ended ≡ ends q x
  ended_is = ap (λ (t : Progress). t.ended) session_is

  written_same : new.written ≡ w.written
  written_same = ap (λ (v : Work). v.written) did.is

  faults_same : new.faults ≡ w.faults
  faults_same = ap (λ (v : Work). v.faults) did.is

  pub end_is : new.end ≡ if_ended (ends q x) (end_by w.why x)
  end_is = ap (λ (v : Work). v.end) did.is ∙ ap (λ o. if_ended (answered o x s).ended (end_by w.why x)) was.out

  long : length new.session.transcript ≡ length s.transcript + 1
  long = ap length transcript_is ∙ length-append s.transcript (exchange q x ∷ [])

  over_now : has_ended new.session.transcript ≡ ends q x
  over_now = ap has_ended transcript_is ∙ any_more (λ (y : Exchange). ends y.ask y.answer) s.transcript (exchange q x) was.not_over

  not_leave : ends q x ≡ false → q ≡ ask.Leave → ⊥
  not_leave on is = is_true (ends q x) on (ap (λ a. ends a x) is)

  -- It runs, or is to leave for want of memory.
  pub runs_on : ends q x ≡ false → Runs new
  runs_on on = by w.why refl was.by
    where
      why_so : (a : Answer) → why_by None a ≡ why_short (wants a)
      why_so answer.NoMemory = refl
      why_so a = refl

      by : (o : Option EndKind) → w.why ≡ o → AsksBy o q w → Runs new
      by None is g = record {
        goes_on = ended_is ∙ on;
        no_quit = quit_same ∙ g.no_quit;
        no_ask = ap (λ (t : Progress). t.out) session_is;
        follows = did.follows;
        not_over = over_now ∙ on;
        few = omega (arith, long, g.few);
        written = written_same ∙ g.written ∙ sym printed_same;
        unfailed = faults_same ∙ g.unfailed;
        why = ap (λ (v : Work). v.why) did.is ∙ ap (λ o. why_by o x) is ∙ why_so x
            ∙ ap why_short (sym (ap is_short transcript_is ∙ any_more (λ (y : Exchange). wants y.answer) s.transcript (exchange q x) (none_short s.transcript g.went_on)));
      }
      by (Some ending.NoMemory) is a = absurd (not_leave on a.0)
      by (Some ending.SinkFault) is a = absurd (not_leave on a.0)
      by (Some ending.Ended) is a = absurd a
      by (Some ending.Stopped) is a = absurd a

  abbrev before : List Exchange
  before = map as_recorded s.transcript

  abbrev mine : List Exchange
  mine = map as_recorded new.session.transcript

  mine_is : mine ≡ before ++ as_recorded (exchange q x) ∷ []
  mine_is = ap (map as_recorded) transcript_is ∙ map-append as_recorded s.transcript (exchange q x ∷ [])

  leave_is : q ≡ ask.Leave → as_recorded (exchange q x) ≡ record { ask = ask.Leave; answer = x }
  leave_is is = ap (λ a. as_recorded (exchange a x)) is ∙ ap (λ a. record { ask = a; answer = x }) (leave_kept x)

  left_is : q ≡ ask.Leave → mine ≡ before ++ record { ask = ask.Leave; answer = x } ∷ []
  left_is is = mine_is ∙ ap (λ y. before ++ y ∷ []) (leave_is is)

  -- where it hasn't quit, all that its run prints is written
  ran_whole : ends q x ≡ true → s.quit ≡ None → w.written ≡ s.printed → Ran new.session.script mine None new.written
  ran_whole over none written =
      let quit : new.session.quit ≡ None = quit_same ∙ none in
      let printed : new.session.printed ≡ (run_of new.session).state.printed =
      subst (λ n. HasPrinted n true new.session.out new.session) quit (subst (λ b. HasPrinted new.session.quit b new.session.out new.session) (ended_is ∙ over) did.follows.printed) in
      Ran-same _ _ _ _ _ _ _ refl quit (sym printed ∙ printed_same ∙ sym written ∙ sym written_same) (ran_so new.session mine did.follows (ended_is ∙ over) refl)

  -- it had quit
  quit_left : ends q x ≡ true → q ≡ ask.Leave → HasQuit w → Quit new.session.script mine new.written
  quit_left over is h =
      let same : answers before ≡ answers s.transcript = answers_kept s.transcript in
      let quit : new.session.quit ≡ Some (length s.transcript) = quit_same ∙ h.quit in
      let printed : (run_of new.session).state.printed ≡ Printed new.session.script (answers before) =
      (subst (λ n. HasPrinted n new.session.ended new.session.out new.session) quit did.follows.printed).2
      ∙ ap (λ l. Printed new.session.script (take (length s.transcript) (answers l))) transcript_is
      ∙ ap (Printed new.session.script) (before_last s.transcript (exchange q x) ∙ sym same) in
      record {
        before = before;
        answer = x;
        last = left_is is;
        answers_leave = leaves is;
        went_on = subst AllContinue (sym same) h.went_on;
        ran = Ran-same _ _ _ _ _ _ _ refl (quit ∙ ap Some (sym (length-map s.transcript as_recorded))) printed (ran_so new.session mine did.follows (ended_is ∙ over) refl);
        most = subst (λ l. IsPrefix l (Printed new.session.script (answers before))) (sym written_same)
            (subst (λ t. IsPrefix w.written (Printed t (answers before))) (sym script_same) (subst (λ given. IsPrefix w.written (Printed s.script given)) (sym same) h.most));
        least = subst (λ l. IsPrefix (printed_before_last new.session.script (answers before)) l) (sym written_same)
            (subst (λ t. IsPrefix (printed_before_last t (answers before)) w.written) (sym script_same) (subst (λ given. IsPrefix (printed_before_last s.script given) w.written) (sym same) h.least));
      }

  -- It has ended.
  pub has_come : ends q x ≡ true → HasCome (end_by w.why x) new
  unfolding quit_left
  has_come over = record {
    ended = ended_is ∙ over;
    over = over_now ∙ over;
    few = omega (arith, long, was.few);
    came = came w.why was.by;
    failed = faults_same ∙ failed w.why was.by;
  }
    where
      came : (o : Option EndKind) → AsksBy o q w → Came (end_by o x) new.session.script mine new.written
      came None g = ended_by new.session.script before mine q x new.written over (record {
        is = mine_is;
        went_on = subst AllContinue (sym (answers_kept s.transcript)) g.went_on;
        ran = ran_whole over g.no_quit g.written;
        leaves = leaves;
      })
      came (Some ending.NoMemory) (is, none, inl h) = inl (record {
        quit = quit_left over is h.quit;
        whole = written_same ∙ h.whole ∙ ap (λ t. printed_before_last t (answers s.transcript)) (sym script_same) ∙ ap (printed_before_last new.session.script) (sym (answers_kept s.transcript));
      })
      came (Some ending.NoMemory) (is, none, inr h) = inr (record {
        before = map as_recorded h.short.before;
        ask = h.short.ask;
        answer = x;
        last = left_is is ∙ ap (λ l. map as_recorded l ++ record { ask = ask.Leave; answer = x } ∷ []) h.short.is
            ∙ ap (λ l. l ++ record { ask = ask.Leave; answer = x } ∷ []) (map-append as_recorded h.short.before (exchange h.short.ask answer.NoMemory ∷ []));
        answers_leave = leaves is;
        went_on = subst AllContinue (sym (answers_kept h.short.before)) h.short.went_on;
        ran = ran_whole over h.no_quit h.written;
      })
      came (Some ending.SinkFault) a = quit_left over a.0 a.2
      came (Some ending.Ended) a = absurd a
      came (Some ending.Stopped) a = absurd a

      failed : (o : Option EndKind) → AsksBy o q w → w.faults ≡ failed_writes (end_by o x)
      failed None g = g.unfailed ∙ sym (none_failed x)
      failed (Some ending.NoMemory) a = a.1
      failed (Some ending.SinkFault) a = a.1
      failed (Some ending.Ended) a = absurd a
      failed (Some ending.Stopped) a = absurd a

-- ---- a turn

-- one that hasn't ended works
pub not_ended : (o : Option EndKind) (w : Work) → o ≡ w.end → is_some o ≡ false → w.end ≡ None
not_ended o w same is = sym same ∙ no_why o is

pub out_mid : (q : Ask) (w : Work) → Asks q w → is_some w.session.out ≡ true
out_mid q w a = ap (λ (o : Option Ask). is_some o) a.out

module _ {A : Type 0} (may_ask : A → SessionId → List Exchange → Type 0) (replied : A → A → SessionId → Ask → Answer → Type 0) where
  -- the turn of one that has ended does nothing
  pub rests : (o : Option EndKind) (w : Work) (x : A) → MayTurn may_ask w x → o ≡ w.end → is_some o ≡ true → TakesTurn may_ask replied w w x x
  rests o w x may same is = record { session = refl; job = refl; stands = may; happens = nothing w.end (ap (λ (k : Option EndKind). is_some k) (sym same) ∙ is) }
    where
      nothing : (k : Option EndKind) → is_some k ≡ true → Happens replied k w w x x
      nothing None is = cc
      nothing (Some k) is = (refl, refl)

  pub runs_of : (w : Work) (x : A) → MayTurn may_ask w x → w.end ≡ None → Runs w × may_ask x w.session.session w.session.transcript
  runs_of w x may is = subst (λ o. MayTurnBy may_ask o w x) is may

  -- The session has come to its next ask.
  module _ (q : Ask) (w mid : Work) (x : A) (works : Runs w × may_ask x w.session.session w.session.transcript) (on : HasGoneOn q w mid) (id : SessionId) (before : List Exchange) (number : id ≡ mid.session.session) (had : before ≡ mid.session.transcript) where
    pub may_mid : may_ask x id before
    may_mid = subst (λ (p : SessionId × List Exchange). may_ask x p.0 p.1) (λ i. (sym (number ∙ on.session) i, sym (had ∙ on.transcript) i)) works.1

    pub few_mid : length before < MAX_ASKS
    few_mid = subst (λ l. length l < MAX_ASKS) (sym had) on.asks.few

    pub short_mid : is_short before ≡ true → q ≡ ask.Leave
    short_mid is = on.asks.short (ap is_short (sym had) ∙ is)

  -- .. which was answered.
  module _ (q : Ask) (a : Answer) (w mid new : Work) (x y : A) (no_end : w.end ≡ None) (on : HasGoneOn q w mid) (id : SessionId) (before : List Exchange) (number : id ≡ mid.session.session) (had : before ≡ mid.session.transcript)
      (leave : q ≡ ask.Leave → AnswersLeave a) (again : ends q a ≡ false → may_ask y id (before ++ exchange q a ∷ [])) (reply : replied x y id q a) (did : Settles a mid new) where
    number_new : new.session.session ≡ mid.session.session
    number_new = number_same q a mid new on.asks did leave

    had_new : new.session.transcript ≡ mid.session.transcript ++ exchange q a ∷ []
    had_new = transcript_is q a mid new on.asks did leave

    may_new : MayTurn may_ask new y
    may_new = subst (λ o. MayTurnBy may_ask o new y) (sym (end_is q a mid new on.asks did leave)) (by (ends q a) refl)
      where
        by : (b : Bool) → ends q a ≡ b → MayTurnBy may_ask (if_ended b (end_by mid.why a)) new y
        by true over = has_come q a mid new on.asks did leave over
        by false going = (
          runs_on q a mid new on.asks did leave going,
          subst (λ (p : SessionId × List Exchange). may_ask y p.0 p.1) (λ i. ((number ∙ sym number_new) i, (ap (λ l. l ++ exchange q a ∷ []) had ∙ sym had_new) i)) (again going),
        )

    pub takes_turn : TakesTurn may_ask replied w new x y
    takes_turn = record {
      session = number_new ∙ on.session;
      job = job_so new mid.session.script mid.word (script_same q a mid new on.asks did leave) (ap (λ (v : Work). v.word) did.is) ∙ on.job;
      stands = may_new;
      happens = subst (λ o. Happens replied o w new x y) (sym no_end) (record {
        ask = q;
        answer = a;
        is = had_new ∙ ap (λ l. l ++ exchange q a ∷ []) on.transcript;
        replied_is = subst (λ r. replied x y r q a) (number ∙ on.session) reply;
      });
    }
