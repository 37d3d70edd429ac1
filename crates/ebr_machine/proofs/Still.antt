-- Where a machine has stopped, the run has ended or waits there.
use Rattle.std.proofs.Common.{◌≡◌, ◌⊎◌, ⊎_elim, ℕ, true, false, List, [], ◌∷◌, ◌++◌, Option, None, refl, sym, ap, ◌∙◌, subst, append-nil}
use Rattle.ebr_asks.specs.declared.ask.Ask.{Ask}
use Rattle.ebr_asks.specs.declared.answer.Answer.{Answer}
use Rattle.ebr_run.specs.declared.fault.Fault.{Fault}
use Rattle.ebr_run.specs.Packages.{PackageState}
use Rattle.ebr_run.specs.State as run
use Rattle.ebr_run.specs.State.{State, Outcome, ended, next_answer}
use Rattle.ebr_run.specs.Run.{Seen, seen}
use Rattle.ebr_code.specs.declared.instruction.Lookup.{Lookup}
use Rattle.ebr_code.specs.Books.{Book}
use Rattle.ebr_running.specs.declared.running.Flow.{Flow}
use Rattle.ebr_running.specs.declared.running.Flow.TheVariants as flow
use Rattle.ebr_running.specs.declared.running.Pending.{Pending}
use Rattle.ebr_running.specs.declared.running.Task.{Task}
use Rattle.ebr_running.specs.declared.running.Task.TheVariants as task
use Rattle.ebr_running.specs.declared.running.Running.{Running}
use Rattle.ebr_machine.specs.declared.next.Next.{Next}
use Rattle.ebr_machine.specs.declared.machine.Machine.{Machine}
use Rattle.ebr_running.specs.Rest.{Saved, outer, resume, awake, after, state_of, saved_of, rest_of, IsStill, stands}
use Rattle.ebr_machine.specs.Has.{within, Has, Shows, shown, asks_of, IsDone, standing_of, SaysAsk, Prints}
use Rattle.ebr_machine.specs.inside.Says.{says}
use Rattle.ebr_running.specs.Lines.{Extends}
use Rattle.ebr_running.proofs.Growing.{stands_grow}

-- no task keeps a run that waits
waits : (book : Book) (m n : ℕ) (ts : List Task) (s : Saved) (σ : State) → resume book m n ts s (ended run.Waiting σ) ≡ ended run.Waiting σ
waits book m n [] s σ = refl
waits book m n (task.Rest code place ∷ ts) s σ = waits book m n ts s σ
waits book m n (task.Head head body ∷ ts) s σ = waits book m n ts s σ
waits book m n (task.Loop head body ∷ ts) s σ = waits book m n ts s σ
waits book m n (task.Numbers k r low high body ∷ ts) s σ = waits book m n ts s σ
waits book m n (task.Guard k hs ∷ ts) s σ = waits book m n ts s σ
waits book m n (task.Closing l ∷ ts) s σ = waits book m n ts s σ
waits book m n (task.Function ∷ ts) s σ = waits book m n ts s σ
waits book m n (task.Autonomous f code ∷ ts) s σ = waits book m n ts s σ
waits book m n (task.Close ∷ ts) s σ = waits book m n ts s σ
waits book m n (task.Making name m' ∷ ts) s σ = waits book m' n ts (outer s) σ
waits book m n (task.Call c ∷ ts) s σ = waits book m c.frames_left ts (outer s) σ

-- what is seen of a state
abbrev seen_at : State → List Ask → Next → Seen
seen_at σ asks n = record (seen (ended run.Normal σ)) { asks = asks; standing = standing_of n }

over : (book : Book) (m n : ℕ) (ts : List Task) (s : Saved) (o : Outcome) → (true ≡ false) ⊎ (ts ≡ []) → resume book m n ts s o ≡ o
over book m n ts s o h = ⊎_elim (λ e. cc) (λ e. ap (λ l. resume book m n l s o) e) h

done : (book : Book) (m n : ℕ) (ts : List Task) (s : Saved) (σ : State) (e : Flow) (f : Fault) (q : Ask) (p : Pending) (l : Lookup) → IsDone (says e f q) → IsStill e ts → seen (resume book m n ts s (awake e f q p l σ)) ≡ seen_at σ σ.asks (says e f q)
done book m n ts s σ flow.Waiting f q p l d h = absurd d
done book m n ts s σ flow.Normal f q p l d h = ap seen (over book m n ts s _ h)
done book m n ts s σ flow.Exit f q p l d h = ap seen (over book m n ts s _ h)
done book m n ts s σ flow.Continue f q p l d h = ap seen (over book m n ts s _ h)
done book m n ts s σ flow.Returned f q p l d h = ap seen (over book m n ts s _ h)
done book m n ts s σ flow.Raised f q p l d h = ap seen (over book m n ts s _ h)
done book m n ts s σ (flow.Stopped c) f q p l d h = ap seen (over book m n ts s _ h)

ended_still : (book : Book) (m n : ℕ) (ts : List Task) (s : Saved) (σ : State) (e : Flow) (f : Fault) (q : Ask) (p : Pending) (l : Lookup) → seen (resume book m n ts s (awake e f q p l σ)) ≡ seen_at σ σ.asks (says e f q) → seen (resume book m n ts s (awake e f q p l σ)) ≡ seen_at σ (σ.asks ++ []) (says e f q)
ended_still book m n ts s σ e f q p l r = r ∙ ap (λ asks. seen_at σ asks (says e f q)) (sym (append-nil σ.asks))

still : (book : Book) (m n : ℕ) (ts : List Task) (s : Saved) (σ : State) (e : Flow) (f : Fault) (q : Ask) (p : Pending) (l : Lookup) → σ.answers ≡ [] → IsStill e ts → seen (resume book m n ts s (awake e f q p l σ)) ≡ seen_at σ (σ.asks ++ asks_of (says e f q)) (says e f q)
still book m n ts s σ flow.Waiting f q p l g h =
    let out = record σ { asks = σ.asks ++ q ∷ [] } in
    ap seen (ap (λ x. resume book m n ts s (next_answer x out (after p l f))) g ∙ waits book m n ts s out)
still book m n ts s σ flow.Normal f q p l g h = ended_still book m n ts s σ flow.Normal f q p l (done book m n ts s σ flow.Normal f q p l tt h)
still book m n ts s σ flow.Exit f q p l g h = ended_still book m n ts s σ flow.Exit f q p l (done book m n ts s σ flow.Exit f q p l tt h)
still book m n ts s σ flow.Continue f q p l g h = ended_still book m n ts s σ flow.Continue f q p l (done book m n ts s σ flow.Continue f q p l tt h)
still book m n ts s σ flow.Returned f q p l g h = ended_still book m n ts s σ flow.Returned f q p l (done book m n ts s σ flow.Returned f q p l tt h)
still book m n ts s σ flow.Raised f q p l g h = ended_still book m n ts s σ flow.Raised f q p l (done book m n ts s σ flow.Raised f q p l tt h)
still book m n ts s σ (flow.Stopped c) f q p l g h = ended_still book m n ts s σ (flow.Stopped c) f q p l (done book m n ts s σ (flow.Stopped c) f q p l tt h)

stands_at : (book : Book) (r : Running) (a : Option Answer) (asks : List Ask) (given : List Answer) → a ≡ None → stands book r a asks given ≡ rest_of book r asks given
stands_at book r a asks given e = ap (λ x. stands book r x asks given) e

pub shows : (book : Book) (m : Machine) (packages : List PackageState) (left : ℕ) (run : List Answer → Seen) (asks : List Ask) (answers : List Answer) (n : Next) → m.arrived ≡ None → IsStill m.inner.flow m.inner.tasks → n ≡ says m.inner.flow m.inner.fault m.inner.ask → Has book m packages left run asks answers → Shows (run answers) m packages (asks ++ asks_of n) n
shows book m packages left run asks answers n a h e has =
    let r = within book m packages left in
    record {
      is = sym (ap run (append-nil answers)) ∙ sym (has.by []) ∙ ap seen (stands_at book r m.arrived asks [] a)
          ∙ still book r.makings_left r.frames_left r.tasks (saved_of r) (state_of r asks []) r.flow r.fault r.ask r.pending r.lookup refl h
          ∙ ap (λ x. shown m packages (asks ++ asks_of x) x) (sym e);
    }

pub shows_over : (book : Book) (m : Machine) (packages : List PackageState) (left : ℕ) (run : List Answer → Seen) (asks : List Ask) (answers more : List Answer) (n : Next) → m.arrived ≡ None → IsStill m.inner.flow m.inner.tasks → n ≡ says m.inner.flow m.inner.fault m.inner.ask → IsDone n → Has book m packages left run asks answers → Shows (run (answers ++ more)) m packages asks n
shows_over book m packages left run asks answers more n a h e d has =
    let r = within book m packages left in
    record {
      is = sym (has.by more) ∙ ap seen (stands_at book r m.arrived asks more a)
          ∙ done book r.makings_left r.frames_left r.tasks (saved_of r) (state_of r asks more) r.flow r.fault r.ask r.pending r.lookup (subst IsDone e d) h
          ∙ ap (λ x. shown m packages asks x) (sym e);
    }

pub prints : (book : Book) (old new : Machine) (packages packages' : List PackageState) (left : ℕ) (run : List Answer → Seen) (asks : List Ask) (answers : List Answer)
    → Has book old packages left run asks answers → new.arrived ≡ None → IsStill new.inner.flow new.inner.tasks → Has book new packages' left run asks answers → Prints old new
prints book old new packages packages' left run asks answers was a h has =
    let s = shows book new packages' left run asks answers (says new.inner.flow new.inner.fault new.inner.ask) a h refl has in
    record {
      more = subst (Extends old.inner.lines) (ap (λ (s : Seen). s.lines) (was.by [] ∙ ap run (append-nil answers) ∙ s.is)) (stands_grow book (within book old packages left) old.arrived asks []);
    }

asks_out : (e : Flow) (f : Fault) (q : Ask) → SaysAsk (says e f q) q
asks_out flow.Waiting f q = refl
asks_out flow.Normal f q = tt
asks_out flow.Exit f q = tt
asks_out flow.Continue f q = tt
asks_out flow.Returned f q = tt
asks_out flow.Raised f q = tt
asks_out (flow.Stopped c) f q = tt

pub says_ask : (m : Machine) (n : Next) → n ≡ says m.inner.flow m.inner.fault m.inner.ask → SaysAsk n m.inner.ask
says_ask m n e = subst (λ x. SaysAsk x m.inner.ask) (sym e) (asks_out m.inner.flow m.inner.fault m.inner.ask)
