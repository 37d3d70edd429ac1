-- What turns make of the one session.
use Rattle.std.proofs.Common.{ℕ, ◌≡◌, ◌≤◌, ◌⊎◌, Bool, true, false, ◌||◌, ◌&&◌, List, [], ◌∷◌, ◌++◌, length, Option, Some, None, inl, inr, refl, sym, ◌∙◌, ap, subst, arith}
use Rattle.std.specs.Prelude.{IsSome, is_some, map, not}
use Rattle.std.specs.List.{list_any}
use Rattle.ebr_base.specs.declared.numbers.SessionId.{SessionId}
use Rattle.ebr_worker.specs.declared.limits.TheConstants.{MAX_ASKS}
use Rattle.ebr_report.specs.declared.ends.EndKind.{EndKind}
use Rattle.ebr_report.specs.declared.ends.EndKind.TheVariants as ending
use Rattle.ebr_report.specs.declared.ends.SessionEnd.{SessionEnd}
use Rattle.ebr_asks.specs.declared.ask.Ask.{Ask}
use Rattle.ebr_asks.specs.declared.ask.Ask.TheVariants as ask
use Rattle.ebr_asks.specs.declared.answer.Answer.{Answer}
use Rattle.ebr_asks.specs.declared.answer.Answer.TheVariants as answer
use Rattle.ebr_asks.specs.declared.entry.Entry.{Entry}
use Rattle.ebr_asks.specs.declared.entry.Exchange.{Exchange}
use Rattle.ebr_record.specs.Keeper.{Keeper}
use Rattle.ebr_calls.specs.Continuation.{AllContinue}
use Rattle.ebr_session.specs.Has as session
use Rattle.ebr_session.specs.Has.{Follows, Progress, begun}
use Rattle.ebr_session.specs.Transcripts.{answers, ends}
use Rattle.ebr_core.specs.Engine.{EngineState, HasLegalHistory, database_of, entry_of, gives_up, has_given_up, is_last, no_books}
use Rattle.ebr_core.specs.History.{Legal, Mine, exchange, is_light, is_short, wants}
use Rattle.ebr_core.specs.Machine.{Build, Reply}
use Rattle.ebr_worker.specs.Matches.{as_recorded, has_fault, has_stop, is_stop}
use Rattle.ebr_worker.specs.Paced.{is_over}
use Rattle.ebr_worker.specs.Ends.{AnswersLeave, Came, IsEnd, Job, StopsIt}
use Rattle.ebr_worker.specs.Runs.{IsHistory, RanAlone, nth_session}
use Rattle.ebr_worker.specs.Work.{Adds, IsEndOf, Makes, StandsBy, Turned, Work, Works, job_of}
use Rattle.ebr_worker.specs.inside.Rehearsal.{EndsAt, IsEndAt, RunsAlone}
use Rattle.ebr_worker.proofs.Histories.{any_last, any_more, any_on, kept_short, mine_more, over_more, short_is}
use Rattle.ebr_worker.proofs.Keeping.{kept_adds, kept_none}
use Rattle.ebr_worker.proofs.Rehearsing.{still_runs}
use Rattle.ebr_worker.proofs.Replying.{stopped_by}
use Rattle.ebr_worker.proofs.Running.{begun_so, books_count, end_at, first_history, no_fault, works_first}
use Rattle.ebr_worker.proofs.Turns.{none_short}

-- ---- the history

not_true : (b : Bool) → (b ≡ true → ⊥) → b ≡ false
not_true true never = absurd (never refl)
not_true false never = refl

both : (b : Bool) → b ≡ false → b ≡ true → ⊥
both b off on = cc

last_or : (b : Bool) → b || false ≡ true → b ≡ true
last_or true is = refl
last_or false is = is

either_more : (a b c : Bool) (P : Type 0) → a || c ≡ true → (c ≡ true → (b ≡ true) ⊎ P) → (a || b ≡ true) ⊎ P
either_more true b c P is rest = inl refl
either_more false b c P is rest = rest is

stop_more : (h : List Entry) (x : Entry) → has_stop (h ++ x ∷ []) ≡ true → (has_stop h ≡ true) ⊎ (is_stop x.answer ≡ true)
stop_more [] x is = inr (last_or (is_stop x.answer) is)
stop_more (y ∷ h) x is = either_more (is_stop y.answer) (has_stop h) (has_stop (h ++ x ∷ [])) (is_stop x.answer ≡ true) is (stop_more h x)

given_up_more : (h : List Entry) (x : Entry) → has_given_up (h ++ x ∷ []) ≡ true → (has_given_up h ≡ true) ⊎ (gives_up x ≡ true)
given_up_more [] x is = inr (last_or (gives_up x) is)
given_up_more (y ∷ h) x is = either_more (gives_up y) (has_given_up h) (has_given_up (h ++ x ∷ [])) (gives_up x ≡ true) is (given_up_more h x)

stop_is : (x : Answer) → is_stop x ≡ true → x ≡ answer.Stopped
stop_is answer.Stopped is = refl
stop_is x is = cc

fault_ends : (q : Ask) → ends q answer.DiskFault ≡ true
fault_ends ask.Leave = refl
fault_ends q = refl

-- where the engine gives up with an answer that doesn't end the session, it is that there is no memory
gave_up_short : (x : Entry) → gives_up x ≡ true → ends x.ask x.answer ≡ false → wants x.answer ≡ true
gave_up_short x = by x.ask x.answer
  where
    by : (q : Ask) (a : Answer) → (is_last a && not (wants a && is_light q)) ≡ true → ends q a ≡ false → wants a ≡ true
    by q answer.DiskFault is on = absurd (both (ends q answer.DiskFault) on (fault_ends q))
    by q answer.NoMemory is on = refl
    by q a is on = cc

-- ---- a turn

module _ {K : Type 0} (as_keeper : K → Keeper) (w0 w w' : Work) (first e e' : EngineState K) (so_far : RunsAlone as_keeper w0 w first e) (runs : w.end ≡ None) (did : Turned as_keeper w w' e e') where
  makes : (x : Entry) × Adds as_keeper w.session.session x e e'
  makes = subst (λ o. Makes as_keeper o w w' e e') runs did.makes

  works : Works w e
  works = subst (λ o. StandsBy o w e) runs so_far.stands

  module _ (x : Entry) (adds : Adds as_keeper w.session.session x e e') where
    abbrev s : SessionId
    s = w.session.session

    mine_is : Mine e'.history w'.session.session ≡ Mine e.history s ++ exchange x ∷ []
    mine_is = ap (Mine e'.history) did.session ∙ ap (λ h. Mine h s) adds.is ∙ mine_more e.history x s adds.of

    still_short : is_short e.history s ≡ true → is_short e'.history w'.session.session ≡ true
    still_short is = ap (λ mine. list_any (λ (y : Exchange). wants y.answer) mine) mine_is ∙ any_on (λ (y : Exchange). wants y.answer) (Mine e.history s) (exchange x ∷ []) is

    short_now : wants x.answer ≡ true → is_short e'.history w'.session.session ≡ true
    short_now is = ap (λ mine. list_any (λ (y : Exchange). wants y.answer) mine) mine_is ∙ any_last (λ (y : Exchange). wants y.answer) (Mine e.history s) (exchange x) is

    -- Stopped is answered where the engine has given up alone
    stopped_so : is_stop x.answer ≡ true → has_given_up e.history ≡ true
    stopped_so is = stopped_by as_keeper (has_given_up e.history) e.keeper e'.keeper adds.ask adds.answer (Reply (database_of e) s adds.ask) adds.gives
        (sym (entry_answer s adds.ask adds.answer) ∙ sym (ap (λ (y : Entry). y.answer) adds.entry) ∙ stop_is x.answer is)
      where
        entry_answer : (s : SessionId) (q : Ask) (a : Answer) → (entry_of s q a).answer ≡ a
        entry_answer s q answer.Stopped = refl
        entry_answer s q a = refl

    stop_so : has_stop e'.history ≡ true → is_short e'.history w'.session.session ≡ true
    stop_so is = by (stop_more e.history x (ap has_stop (sym adds.is) ∙ is))
      where
        by : (has_stop e.history ≡ true) ⊎ (is_stop x.answer ≡ true) → is_short e'.history w'.session.session ≡ true
        by (inl before) = still_short (so_far.stop before)
        by (inr now) = still_short (so_far.goes runs (stopped_so now))

    goes_so : w'.end ≡ None → has_given_up e'.history ≡ true → is_short e'.history w'.session.session ≡ true
    goes_so still is = by (given_up_more e.history x (ap has_given_up (sym adds.is) ∙ is))
      where
        after : Works w' e'
        after = subst (λ o. StandsBy o w' e') still did.stands

        on : ends x.ask x.answer ≡ false
        on = sym (over_more e.history x s adds.of (still_runs w e works)) ∙ ap (λ h. is_over h s) (sym adds.is) ∙ ap (is_over e'.history) (sym did.session) ∙ still_runs w' e' after

        by : (has_given_up e.history ≡ true) ⊎ (gives_up x ≡ true) → is_short e'.history w'.session.session ≡ true
        by (inl before) = still_short (so_far.goes runs before)
        by (inr now) = short_now (gave_up_short x now on)

    after_entry : RunsAlone as_keeper w0 w' first e'
    after_entry = record {
      stands = did.stands;
      session = did.session ∙ so_far.session;
      job = did.job ∙ so_far.job;
      recovered = adds.recovered ∙ so_far.recovered;
      books = adds.books ∙ so_far.books;
      kept = kept_adds as_keeper (as_keeper first.keeper) s x e e' adds so_far.kept;
      stop = stop_so;
      goes = goes_so;
    }

  pub alone_turned : RunsAlone as_keeper w0 w' first e'
  alone_turned = after_entry makes.0 makes.1

-- ---- the beginning and the end

pub alone_first : {K : Type 0} (as_keeper : K → Keeper) (w : Work) (e : EngineState K) → Works w e → w.end ≡ None → e.history ≡ [] → RunsAlone as_keeper w w e e
alone_first as_keeper w e works runs none = record {
  stands = subst (λ o. StandsBy o w e) (sym runs) works;
  session = refl;
  job = refl;
  recovered = refl;
  books = refl;
  kept = kept_none as_keeper e none;
  stop = λ is. absurd (both (has_stop e.history) (ap has_stop none) is);
  goes = λ still is. absurd (both (has_given_up e.history) (ap has_given_up none) is);
}

-- The one worker works over the engine of one session.
pub works_alone : {K : Type 0} (e : EngineState K) (k : K) (w : Work) (s : Progress) (script : List ℕ) → e ≡ record { history = []; recovered = []; books = no_books 1; keeper = k } → s ≡ begun (record { 0 = 1 }) script → Follows s
    → w.session ≡ s → w.written ≡ [] → w.faults ≡ 0 → w.why ≡ None → w.end ≡ None → Works w e
works_alone {K} e k w s script is begins f session written unfailed no_why no_end =
    let count : length e.books ≡ 1 = ap (λ (g : EngineState K). length g.books) is ∙ books_count 1 in
    works_first e (ap (λ (g : EngineState K). g.history) is) 1 w (record { first = omega arith; last = omega (arith, count) })
    (begun_so 1 script w (session ∙ begins) (subst Follows (sym session) f) written unfailed no_why no_end)

no_end : false ≡ true → ⊥
no_end is = cc

pub alone_few : {K : Type 0} (as_keeper : K → Keeper) (w0 w : Work) (first e : EngineState K) → RunsAlone as_keeper w0 w first e → IsSome w.end → length w.session.transcript ≤ MAX_ASKS
alone_few as_keeper w0 w first e ran ended = by w.end ended ran.stands
  where
    by : (o : Option EndKind) → IsSome o → StandsBy o w e → length w.session.transcript ≤ MAX_ASKS
    by None some stands = absurd (no_end some)
    by (Some k) some over = over.come.few

pub runs_on : (o p : Option EndKind) (r : Bool) → p ≡ o → is_some p ≡ not r → r ≡ true → o ≡ None
runs_on o p r same is on = by o (ap is_some (sym same) ∙ is ∙ ap not on)
  where
    by : (o : Option EndKind) → is_some o ≡ false → o ≡ None
    by None is = refl
    by (Some k) is = cc

same_some : {X : Type 0} (a b : X) → Some a ≡ Some b → a ≡ b
same_some a b e = cc

module _ {S K : Type 0} (held : S → Option (List ℕ)) (faults : S → ℕ) (word : S → List ℕ) (as_keeper : K → Keeper) (w0 w : Work) (first e : EngineState K) (job : Job) (ran : RunsAlone as_keeper w0 w first e) (number : w0.session.session ≡ nth_session 0) (job_is : job_of w0 ≡ job) where
  ends_at : (o : Option EndKind) → w.end ≡ o → IsSome o → StandsBy o w e → EndsAt (job ∷ []) e 0 w
  ends_at None is some stands = absurd (no_end some)
  ends_at (Some k) is some over = record {
    number = ran.session ∙ number;
    end = k;
    ended = is;
    over = over;
    job = λ j there. ran.job ∙ job_is ∙ same_some job j there;
  }

  -- a session that came to another end was never answered that there is no memory
  no_short : (before : List Exchange) (y : Exchange) → AllContinue (answers before) → session.wants y.answer ≡ false → session.is_short (before ++ y ∷ []) ≡ false
  no_short before y all is = any_more (λ (z : Exchange). session.wants z.answer) before y (none_short before all) ∙ is

  leave_wants : (a : Answer) → AnswersLeave a → session.wants a ≡ false
  leave_wants answer.Done h = refl
  leave_wants answer.Stopped h = refl
  leave_wants answer.NoMemory h = absurd h
  leave_wants a h = refl

  stop_wants : (a : Answer) → StopsIt a → session.wants a ≡ false
  stop_wants answer.NoMemory h = absurd h
  stop_wants a h = refl

  short_end : (k : EndKind) (script : List ℕ) (mine : List Exchange) (replies : List ℕ) → Came k script mine replies → session.is_short mine ≡ true → k ≡ ending.NoMemory
  short_end ending.NoMemory script mine replies came is = refl
  short_end ending.Ended script mine replies came is = absurd (both (session.is_short mine) (ap session.is_short came.last ∙ no_short came.before (record { ask = ask.Leave; answer = answer.Done }) came.went_on refl) is)
  short_end ending.SinkFault script mine replies came is = absurd (both (session.is_short mine) (ap session.is_short came.last ∙ no_short came.before (record { ask = ask.Leave; answer = came.answer }) came.went_on (leave_wants came.answer came.answers_leave)) is)
  short_end ending.Stopped script mine replies came is = absurd (both (session.is_short mine) (ap session.is_short came.last ∙ no_short came.before (record { ask = came.ask; answer = came.answer }) came.went_on (stop_wants came.answer came.by)) is)

  -- where its Leave was answered that the engine has stopped, it found no memory
  stop_end : (o : Option EndKind) → w.end ≡ o → IsSome o → StandsBy o w e → (x : SessionEnd S) → IsEndOf held faults word w x → has_stop e.history ≡ true → x.end ≡ ending.NoMemory
  stop_end None same some stands x is_end is = absurd (no_end some)
  stop_end (Some k) same some over x is_end is =
      let short : session.is_short w.session.transcript ≡ true = sym (short_is e.history w.session.session w.session.transcript over.seated.matches) ∙ ran.stop is in
      same_some x.end k (sym is_end.end ∙ same) ∙ short_end k w.session.script (map as_recorded w.session.transcript) w.written over.come.came (kept_short w.session.transcript ∙ short)

  pub ran_alone : (x : SessionEnd S) (h : List Entry) → IsSome w.end → h ≡ e.history → IsHistory 1 h → IsEndOf held faults word w x → IsSome x.sink → RanAlone held faults word job h x
  ran_alone x h ended same is_history is_end sink =
      let at : IsEndAt held faults word (job ∷ []) e.history 0 x = end_at held faults word (job ∷ []) e 0 w x (ends_at w.end refl ended ran.stands) is_end sink in
      record {
        is_history = is_history;
        is_end = subst (λ t. IsEnd held faults word t job (nth_session 0) x) (sym same) (at.is_end job refl);
        sink = sink;
        stop = λ is. stop_end w.end refl ended ran.stands x is_end (ap has_stop (sym same) ∙ is);
      }

pub history_alone : {K : Type 0} (as_keeper : K → Keeper) (w0 w : Work) (first e : EngineState K) (h : List Entry) → ((k : K) → (as_keeper k).faults ≡ 0) → RunsAlone as_keeper w0 w first e → (k : K)
    → first ≡ record { history = []; recovered = []; books = no_books 1; keeper = k } → h ≡ e.history → HasLegalHistory e → IsHistory 1 h
history_alone as_keeper w0 w first e h none ran k is same legal = record {
  legal = subst (λ t. Legal (Build [] 1) t) (sym same) (first_history first e 1 1 k is refl ran.recovered ran.books legal);
  no_fault = ap has_fault same ∙ no_fault as_keeper first e none ran.kept legal;
}
