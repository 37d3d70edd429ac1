-- What a run tells of its sessions.
use Rattle.std.proofs.Common.{◌≡◌, ℕ, ◌+◌, List, [], ◌∷◌, ◌++◌, length, map, refl, sym, ap, subst, ◌∙◌, arith, None, Some}
use Rattle.std.specs.Prelude.{All, IfOk, Result, Ok, Err, slice_get}
use Rattle.std.specs.List.{AllZip}
use Rattle.ebr_base.specs.declared.numbers.SessionId.{SessionId}
use Rattle.ebr_asks.specs.declared.entry.Entry.{Entry}
use Rattle.ebr_asks.specs.declared.entry.Exchange.{Exchange}
use Rattle.ebr_report.specs.declared.ends.EndKind.{EndKind}
use Rattle.ebr_record.specs.Keeper.{Keeper}
use Rattle.ebr_core.specs.Engine.{EngineState}
use Rattle.ebr_worker.specs.Matches.{Matches}
use Rattle.ebr_worker.specs.Paced.{IsSession}
use Rattle.ebr_worker.specs.Rehearsal.{jobs_of}
use Rattle.ebr_worker.specs.Work.{Over, Work}
use Rattle.ebr_turn.specs.declared.view.View.{View}
use Rattle.ebr_turn.specs.Chairs.{list_of, lists, own_list}
use Rattle.ebr_threads.specs.Booking.{IsOfRun, IsTold}
use Rattle.ebr_threads.specs.Run.{AllTold, HasRun}
use Rattle.ebr_threads.specs.Seating.{AllReady, AllWent, HasEnded, WentOn, list_by, workers_of}
use Rattle.ebr_threads.proofs.Placing.{all_at, list_at, went_of, within, zip_at, zip_len}

-- the numbers of the workers behind a run
number_at : (n : ℕ) (olds news : List Work) → AllReady n olds → AllZip WentOn olds news → (i : ℕ) (w : Work) → slice_get news i ≡ Some w → w.session.session ≡ record { 0 = i + 1 }
number_at n olds news ready went i w is =
    let old = zip_at WentOn olds news i w went is in
    old.2.session ∙ (ready.each i old.0 old.1).number

-- the chair tells what the history has of each session
pub told_all : (history : List Entry) (n : ℕ) (olds news : List Work) (v : View Exchange) → AllReady n olds → AllZip WentOn olds news → All HasEnded news → v.number ≡ None → v.kept ≡ map list_by news → IsTold history v → AllTold history olds news
told_all history n olds news v ready went ended number kept told = record { went = went; ended = ended; matches = matches }
  where
    numbered : (k : ℕ) (u : Work) → slice_get news k ≡ Some u → u.session.session.0 ≡ 1 + k
    numbered k u is = let same : u.session.session.0 ≡ k + 1 = ap (λ (s : SessionId). s.0) (number_at n olds news ready went k u is) in omega (arith, same)

    all : lists v ≡ map list_by news
    all = λ i. own_list (number i) v.mine ++ kept i

    matches : (i : ℕ) (w : Work) → slice_get news i ≡ Some w → Matches w.session.transcript history w.session.session
    matches i w is =
        told w.session.session ∙ ap (list_of w.session.session.0) all ∙ ap (λ m. list_of m (map list_by news)) (numbered i w is)
        ∙ list_at news 1 i w numbered is

-- the workers that stood at the chairs
pub went_seats : {A : Type 0} (worker : A → Work) (xs ys : List A) (olds news : List Work) → length ys ≡ length xs → AllWent worker xs ys → workers_of worker xs ≡ olds → news ≡ workers_of worker ys → AllZip WentOn olds news
went_seats worker xs ys olds news len went first last =
    subst (λ (p : List Work × List Work). AllZip WentOn p.0 p.1) (λ i. (first i, sym last i)) (went_of worker xs ys len went)

same_jobs : (olds news : List Work) → AllZip WentOn olds news → jobs_of news ≡ jobs_of olds
same_jobs [] [] z = refl
same_jobs [] (y ∷ ys) z = absurd z
same_jobs (x ∷ xs) [] z = absurd z
same_jobs (x ∷ xs) (y ∷ ys) z = λ i. z.0.job i ∷ same_jobs xs ys z.1 i

module _ {K : Type 0} (as_keeper : K → Keeper) (engine e : EngineState K) (olds news : List Work) (ready : AllReady (length engine.books) olds)
    (run : IsOfRun as_keeper engine.recovered (length engine.books) (as_keeper engine.keeper) e) (told : AllTold e.history olds news) where
  count : length news ≡ length e.books
  count = zip_len WentOn olds news told.went ∙ ready.count ∙ sym run.sessions_are

  number : (i : ℕ) (w : Work) → slice_get news i ≡ Some w → w.session.session ≡ record { 0 = i + 1 }
  number i w is = number_at (length engine.books) olds news ready told.went i w is

  place : (i : ℕ) (w : Work) → slice_get news i ≡ Some w → IsSession (length e.books) w.session.session
  place i w is =
      let same : w.session.session.0 ≡ i + 1 = ap (λ (s : SessionId). s.0) (number i w is) in
      let inside = within news i w is in
      let all = count in
      record { first = omega (arith, same); last = omega (arith, same, inside, all) }

  ended : (i : ℕ) (w : Work) → slice_get news i ≡ Some w → (k : EndKind) × (w.end ≡ Some k) × Over k w e
  ended i w is =
      let h = all_at HasEnded news i w told.ended is in
      (h.end, h.ended, record { come = h.come; seated = record { is_session = place i w is; matches = told.matches i w is } })

  pub has_run_so : HasRun as_keeper engine e olds news
  has_run_so = record {
    recovered = run.recovered_are;
    sessions = run.sessions_are;
    legal = run.legal;
    kept = run.kept;
    jobs = same_jobs olds news told.went;
    ended = record { count = count; number = number; ended = ended };
  }

pub has_run : {K E : Type 0} (as_keeper : K → Keeper) (engine : EngineState K) (r : Result (EngineState K) E) (olds news : List Work) → AllReady (length engine.books) olds
    → IfOk r (λ e. IsOfRun as_keeper engine.recovered (length engine.books) (as_keeper engine.keeper) e) → IfOk r (λ e. AllTold e.history olds news) → IfOk r (λ e. HasRun as_keeper engine e olds news)
has_run as_keeper engine (Ok e) olds news ready run told = has_run_so as_keeper engine e olds news ready run told
has_run as_keeper engine (Err u) olds news ready run told = tt
