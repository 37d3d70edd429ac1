-- Turns over an engine that one thread asks.
use Rattle.std.proofs.Common.{◌≡◌, ◌+◌, true, false, List, [], ◌∷◌, ◌++◌, length, Option, Some, None, refl, sym, ◌∙◌, ap, subst}
use Rattle.std.specs.Prelude.{map}
use Rattle.std.proofs.lemmas.List.{map-append}
use Rattle.ebr_base.specs.declared.numbers.SessionId.{SessionId}
use Rattle.ebr_ast.specs.declared.view.EditionView.{EditionView}
use Rattle.ebr_asks.specs.declared.ask.Ask.{Ask}
use Rattle.ebr_asks.specs.declared.ask.Ask.TheVariants as ask
use Rattle.ebr_asks.specs.declared.answer.Answer.{Answer}
use Rattle.ebr_asks.specs.declared.answer.Answer.TheVariants as answer
use Rattle.ebr_asks.specs.declared.entry.Exchange.{Exchange}
use Rattle.ebr_record.specs.Keeper.{Keeper}
use Rattle.ebr_report.specs.declared.ends.EndKind.{EndKind}
use Rattle.ebr_session.specs.Has.{is_short}
use Rattle.ebr_session.specs.Transcripts.{ends, exchange}
use Rattle.ebr_core.specs.Engine.{EngineState, entry_of}
use Rattle.ebr_core.specs.History as core
use Rattle.ebr_core.specs.History.{Mine}
use Rattle.ebr_core.specs.History.{exchange as exchange_of}
use Rattle.ebr_worker.specs.Matches.{Matches, as_recorded}
use Rattle.ebr_worker.specs.Paced.{IsSession}
use Rattle.ebr_worker.specs.Replies.{Replies}
use Rattle.ebr_worker.specs.Turn.{Happens, MayTurn, MayTurnBy, TakesTurn}
use Rattle.ebr_worker.specs.Work.{Adds, Makes, MayAsk, Seated, Stands, StandsBy, Turned, Work}
use Rattle.ebr_worker.proofs.Histories.{mine_more, short_is}
use Rattle.ebr_worker.proofs.Turns.{is_true, stopped_ends}

-- the entry of an ask has what is kept of its exchange
pub entry_kept : (s : SessionId) (q : Ask) (x : Answer) → exchange_of (entry_of s q x) ≡ as_recorded (exchange q x)
entry_kept s q answer.Stopped = refl
entry_kept s q x = refl

-- ---- an ask

-- an answer that there is no memory is told by the exchanges
pub short_before : {K : Type 0} (e : EngineState K) (s : SessionId) (q : Ask) (before : List Exchange) → MayAsk e s before → (is_short before ≡ true → q ≡ ask.Leave) → core.is_short e.history s ≡ true → q ≡ ask.Leave
short_before e s q before may short is = short (sym (short_is e.history s before may.matches) ∙ is)

module _ {K : Type 0} (as_keeper : K → Keeper) (e e' : EngineState K) (s : SessionId) (q : Ask) (a : Answer) where
  -- the exchanges with one more
  matches_more : (before : List Exchange) → Matches before e.history s → Adds as_keeper s (entry_of s q a) e e' → Matches (before ++ exchange q a ∷ []) e'.history s
  matches_more before matches adds =
      ap (λ h. Mine h s) adds.is
      ∙ mine_more e.history (entry_of s q a) s adds.of
      ∙ ap (λ y. Mine e.history s ++ y ∷ []) (entry_kept s q a)
      ∙ ap (λ m. m ++ as_recorded (exchange q a) ∷ []) matches
      ∙ sym (map-append as_recorded before (exchange q a ∷ []))

  is_session_more : IsSession (length e.books) s → Adds as_keeper s (entry_of s q a) e e' → IsSession (length e'.books) s
  is_session_more is adds = subst (λ n. IsSession n s) (sym adds.books) is

  -- behind an answer that doesn't end it the session may ask again
  pub may_again : (before : List Exchange) (book : Option EditionView) → MayAsk e s before → Replies as_keeper e e' s q a book → ends q a ≡ false → MayAsk e' s (before ++ exchange q a ∷ [])
  may_again before book may r going = record {
    is_session = is_session_more may.is_session r.adds;
    matches = matches_more before may.matches r.adds;
    live = r.stays (λ is. is_true (ends q a) going (ap (ends q) is ∙ stopped_ends q)) (λ is. is_true (ends q a) going (ap (λ p. ends p a) is));
  }

-- ---- a turn

pub may_turn : {K : Type 0} (w : Work) (e : EngineState K) → Stands w e → MayTurn (λ f s before. MayAsk f s before) w e
may_turn {K} w e stands = by w.end stands
  where
    by : (o : Option EndKind) → StandsBy o w e → MayTurnBy (λ (f : EngineState K) s before. MayAsk f s before) o w e
    by None works = (works.runs, record { is_session = works.seated.is_session; matches = works.seated.matches; live = works.live })
    by (Some k) over = over.come

module _ {K : Type 0} (as_keeper : K → Keeper) (w new : Work) (e e' : EngineState K) (was : Stands w e)
    (turn : TakesTurn (λ f s before. MayAsk f s before) (λ f g s q a. Adds as_keeper s (entry_of s q a) f g) w new e e') where
  seated_by : (o : Option EndKind) → StandsBy o w e → Happens (λ f g s q a. Adds as_keeper s (entry_of s q a) f g) o w new e e' → Seated new.session e'
  seated_by None works had = record {
    is_session = subst (IsSession (length e'.books)) (sym turn.session) (is_session_more as_keeper e e' w.session.session had.ask had.answer works.seated.is_session had.replied_is);
    matches = ap (Mine e'.history) turn.session ∙ matches_more as_keeper e e' w.session.session had.ask had.answer w.session.transcript works.seated.matches had.replied_is ∙ ap (map as_recorded) (sym had.is);
  }
  seated_by (Some k) over same = subst (λ (v : Work). Seated v.session e') (sym same.0) (subst (Seated w.session) (sym same.1) over.seated)

  stands_by : (o : Option EndKind) → Seated new.session e' → MayTurnBy (λ f s before. MayAsk f s before) o new e' → StandsBy o new e'
  stands_by None seated may = record { runs = may.0; seated = seated; live = may.1.live }
  stands_by (Some k) seated come = record { come = come; seated = seated }

  makes_by : (o : Option EndKind) → Happens (λ f g s q a. Adds as_keeper s (entry_of s q a) f g) o w new e e' → Makes as_keeper o w new e e'
  makes_by None had = (entry_of w.session.session had.ask had.answer, had.replied_is)
  makes_by (Some k) same = same

  pub turned : Turned as_keeper w new e e'
  turned = record {
    session = turn.session;
    job = turn.job;
    stands = stands_by new.end (seated_by w.end was turn.happens) turn.stands;
    makes = makes_by w.end turn.happens;
  }
