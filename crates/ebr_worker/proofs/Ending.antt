-- What a session came to, by its worker.
use Rattle.std.proofs.Common.{ℕ, ◌≡◌, List, [], ◌∷◌, length, Option, Some, None, refl, sym, ◌∙◌, ap, subst}
use Rattle.std.specs.Prelude.{IfSome, map, cond, ◌+◌}
use Rattle.std.specs.List.{count_by, fold}
use Rattle.std.proofs.lemmas.List.{length-map}
use Rattle.ebr_base.specs.declared.numbers.SessionId.{SessionId}
use Rattle.ebr_report.specs.declared.ends.EndKind.{EndKind}
use Rattle.ebr_report.specs.declared.ends.SessionEnd.{SessionEnd}
use Rattle.ebr_asks.specs.declared.entry.Exchange.{Exchange}
use Rattle.ebr_core.specs.Engine.{EngineState}
use Rattle.ebr_core.specs.History.{Mine}
use Rattle.ebr_worker.specs.Matches.{as_recorded}
use Rattle.ebr_worker.specs.Ends.{Came, IsEnd, Job, failed_writes, is_refused}
use Rattle.ebr_worker.specs.Work.{IsEndOf, Over, Work, job_of}

-- one more, where the ask was refused
abbrev more : ℕ → Exchange → ℕ
more n x = n + cond (is_refused x) 1 0

counted_kept : (n : ℕ) (mine : List Exchange) → fold more n (map as_recorded mine) ≡ fold more n mine
counted_kept n [] = refl
counted_kept n (x ∷ mine) = counted_kept (more n x) mine

refused_kept : (mine : List Exchange) → count_by is_refused (map as_recorded mine) ≡ count_by is_refused mine
refused_kept mine = counted_kept 0 mine

same_some : {X : Type 0} (a b : X) → Some a ≡ Some b → a ≡ b
same_some a b e = cc

module _ {S K : Type 0} (held : S → Option (List ℕ)) (faults : S → ℕ) (word : S → List ℕ) (w : Work) (e : EngineState K) (k : EndKind) (s : SessionId) (job : Job) (x : SessionEnd S)
    (ended : w.end ≡ Some k) (over : Over k w e) (number : w.session.session ≡ s) (job_is : job_of w ≡ job) (came_to : IsEndOf held faults word w x) where
  end_is : x.end ≡ k
  end_is = same_some x.end k (sym came_to.end ∙ ended)

  mine_is : Mine e.history s ≡ map as_recorded w.session.transcript
  mine_is = ap (Mine e.history) (sym number) ∙ over.seated.matches

  in_sink : (sink : Option S) → IfSome sink (λ t. faults t ≡ w.faults) → IfSome sink (λ t. faults t ≡ failed_writes x.end)
  in_sink None counted = tt
  in_sink (Some t) counted = counted ∙ over.come.failed ∙ ap failed_writes (sym end_is)

  pub is_end : IsEnd held faults word e.history job s x
  is_end = record {
    replies = w.written;
    came_to = record {
      session_is = came_to.session ∙ number;
      requests = came_to.requests ∙ sym (ap length mine_is ∙ length-map w.session.transcript as_recorded);
      refused = came_to.refused ∙ sym (ap (count_by is_refused) mine_is ∙ refused_kept w.session.transcript);
      came = subst (λ f. Came f job.script (Mine e.history s) w.written) (sym end_is)
          (subst (λ (j : Job). Came k j.script (Mine e.history s) w.written) job_is (subst (λ mine. Came k w.session.script mine w.written) (sym mine_is) over.come.came));
    };
    asked = subst (λ (j : Job). IfSome x.sink (λ sink. word sink ≡ j.word)) job_is came_to.asked;
    holds = came_to.holds;
    failed = in_sink x.sink came_to.counted;
  }
