-- The sinks of sessions that don't run, and those that sessions have ended with.
use Rattle.std.proofs.Common.{ℕ, zero, suc, ◌≡◌, ◌+◌, ◌-◌, ◌≤◌, Bool, List, [], ◌∷◌, ◌++◌, length, Option, Some, None, arith, refl, sym, ◌∙◌, ap, subst, slice_get}
use Rattle.std.specs.Prelude.{All, IfSome, IsSome, is_some, map}
use Rattle.std.proofs.lemmas.List.Elements.{All-nil, All-push}
use Rattle.std.proofs.lemmas.List.{length-map, map-append}
use Rattle.ebr_outside.specs.declared.host_call.HostCall.{HostCall}
use Rattle.ebr_asks.specs.declared.entry.Entry.{Entry}
use Rattle.ebr_report.specs.declared.ends.SessionEnd.{SessionEnd}
use Rattle.ebr_words.specs.Words.{out_word}
use Rattle.ebr_worker.specs.Ends.{Job}
use Rattle.ebr_worker.specs.Runs.{AreEnds, IsUnwritten}
use Rattle.ebr_server.specs.declared.exit.ExitCode.{ExitCode}
use Rattle.ebr_server.specs.declared.opened.Halt.{Halt}
use Rattle.ebr_server.specs.declared.opened.Stop.{Stop}
use Rattle.ebr_server.specs.Program.{AreJobs, AreScripts, CallsInOrder, Step, fault_at, out_words, own_fault, sinks_back, with_sink, word_at}
use Rattle.ebr_server.specs.inside.Opened.{AreBack}
use Rattle.ebr_server.proofs.Calls.{called_same, out_more, without_own}

module _ {S : Type 0} (word : S → List ℕ) (held : S → Option (List ℕ)) (faults : S → ℕ) where
  -- ---- sinks that are made one by one

  pub back_none : (words : List (List ℕ)) (first n : ℕ) → n ≡ 0 → (sinks : List S) → sinks ≡ [] → AreBack word held faults (out_words words first n) sinks
  back_none words first n none sinks is = record {
    words_are = ap (map word) is ∙ ap (out_words words first) (sym none);
    unwritten = subst (All (IsUnwritten held faults)) (sym is) (All-nil _);
  }

  pub back_more : (words : List (List ℕ)) (first w : ℕ) (old new : List S) (s : S) → first ≤ w → AreBack word held faults (out_words words first (w - first)) old → new ≡ old ++ s ∷ [] → IsUnwritten held faults s → word s ≡ out_word (word_at words w)
      → AreBack word held faults (out_words words first (w + 1 - first)) new
  back_more words first w old new s from so_far added empty asked = record {
    words_are = ap (map word) added ∙ map-append word old (s ∷ []) ∙ (λ i. so_far.words_are i ++ asked i ∷ []) ∙ sym (out_more words first w from);
    unwritten = subst (All (IsUnwritten held faults)) (sym added) (All-push (IsUnwritten held faults) old s so_far.unwritten empty);
  }

  pub back_as : (ws vs : List (List ℕ)) (sinks others : List S) → ws ≡ vs → others ≡ sinks → AreBack word held faults ws sinks → AreBack word held faults vs others
  back_as ws vs sinks others same is back = subst (λ l. AreBack word held faults l others) same (subst (AreBack word held faults ws) (sym is) back)

  -- ---- sinks and scripts

  out_count : (words : List (List ℕ)) (at n : ℕ) → length (out_words words at n) ≡ n
  out_count words at zero = refl
  out_count words at (suc n) = ap suc (out_count words (at + 1) n)

  pub as_many : (bytes : List ℕ → Option (List ℕ)) (words : List (List ℕ)) (first : ℕ) (scripts : List (List ℕ)) (sinks : List S) → AreScripts bytes words first (length words) scripts → AreBack word held faults (out_words words first (length words - first)) sinks
      → length sinks ≡ length scripts
  as_many bytes words first scripts sinks are back =
      let n : length sinks ≡ length words - first = sym (length-map sinks word) ∙ ap length back.words_are ∙ out_count words first (length words - first) in
      omega (arith, n, are.count)

  pub are_jobs : (bytes : List ℕ → Option (List ℕ)) (words : List (List ℕ)) (first : ℕ) (scripts : List (List ℕ)) (sinks : List S) (jobs : List Job) → AreScripts bytes words first (length words) scripts
      → AreBack word held faults (out_words words first (length words - first)) sinks → map (λ (j : Job). j.script) jobs ≡ scripts → map (λ (j : Job). j.word) jobs ≡ map word sinks → AreJobs bytes words first jobs
  are_jobs bytes words first scripts sinks jobs are back same asked = record {
    scripts = subst (AreScripts bytes words first (length words)) (sym same) are;
    sinks = asked ∙ back.words_are;
  }

  -- ---- sinks that sessions have ended with

  one_back : (o : Option S) (w : List ℕ) (rest others : List (List ℕ)) → IsSome o → IfSome o (λ s. word s ≡ w) → rest ≡ others → with_sink word o rest ≡ w ∷ others
  one_back None w rest others some asked same = absurd cc
  one_back (Some s) w rest others some asked same = λ i. asked i ∷ same i

  all_back : (jobs : List Job) (ends : List (SessionEnd S)) → length ends ≡ length jobs → ((i : ℕ) (j : Job) (e : SessionEnd S) → slice_get jobs i ≡ Some j → slice_get ends i ≡ Some e → IfSome e.sink (λ s. word s ≡ j.word))
      → ((i : ℕ) (e : SessionEnd S) → slice_get ends i ≡ Some e → IsSome e.sink) → sinks_back word ends [] ≡ map (λ (j : Job). j.word) jobs
  all_back [] [] count asked some = refl
  all_back [] (e ∷ ends) count asked some = absurd (omega (arith, count))
  all_back (j ∷ jobs) [] count asked some = absurd (omega (arith, count))
  all_back (j ∷ jobs) (e ∷ ends) count asked some =
      one_back e.sink j.word (sinks_back word ends []) (map (λ (k : Job). k.word) jobs) (some 0 e refl) (asked 0 j e refl refl)
      (all_back jobs ends (omega (arith, count)) (λ i k x there is. asked (suc i) k x there is) (λ i x is. some (suc i) x is))

  pub ends_back : (bytes : List ℕ → Option (List ℕ)) (words : List (List ℕ)) (first : ℕ) (jobs : List Job) (history : List Entry) (ends : List (SessionEnd S)) (sinks : List S) → sinks ≡ [] → AreJobs bytes words first jobs → AreEnds held faults word jobs history ends
      → sinks_back word ends sinks ≡ out_words words first (length words - first)
  ends_back bytes words first jobs history ends sinks none are are_ends =
      ap (sinks_back word ends) none ∙ all_back jobs ends are_ends.count (λ i j e there is. (are_ends.each i j e there is).asked) are_ends.sinks ∙ are.sinks

-- what the host tells at two moments
pub jobs_told : (bytes mid : List ℕ → Option (List ℕ)) (words : List (List ℕ)) (first : ℕ) (jobs : List Job) → ((w : List ℕ) → mid w ≡ bytes w) → AreJobs mid words first jobs → AreJobs bytes words first jobs
jobs_told bytes mid words first jobs same are =
    let is : mid ≡ bytes = λ i w. same w i in
    subst (λ b. AreJobs b words first jobs) is are

-- ---- a run that ends before its sessions begin

module _ {C S D : Type 0} (word : S → List ℕ) (old new : Option (List HostCall)) (work : List Step) (disk : Bool) (stop : Stop C S D) where
  -- before a sink was made
  pub halt_called : (halt : Halt C) → stop.halt ≡ halt → stop.sinks ≡ [] → CallsInOrder old new work (own_fault halt.code halt.source) [] disk → CallsInOrder old new work (own_fault stop.halt.code stop.halt.source) (map word stop.sinks) disk
  halt_called halt there none called =
      subst (λ h. CallsInOrder old new work (own_fault h.code h.source) (map word stop.sinks) disk) (sym there)
      (called_same old new work (own_fault halt.code halt.source) [] (map word stop.sinks) disk disk (sym (ap (map word) none)) refl called)

  -- with sinks
  pub unused_called : (c : ExitCode) (sinks : List S) (made : List (List ℕ)) → stop.halt.code ≡ c → stop.halt.source ≡ None → stop.sinks ≡ sinks → map word sinks ≡ made → CallsInOrder old new work (fault_at c) made disk
      → CallsInOrder old new work (own_fault stop.halt.code stop.halt.source) (map word stop.sinks) disk
  unused_called c sinks made is none there are called =
      without_own old new work stop.halt.code c stop.halt.source (map word stop.sinks) disk none is
      (called_same old new work (fault_at c) made (map word stop.sinks) disk disk (sym (ap (map word) there ∙ are)) refl called)

-- what the outcome of such a run says
module _ {C S D : Type 0} (word : S → List ℕ) (old new : Option (List HostCall)) (work : List Step) (stop : Stop C S D) (c : ExitCode) (source : Option C) (ends : List (SessionEnd S)) (sinks : List S) (disk : Option D) where
  pub stopped_called : c ≡ stop.halt.code → source ≡ stop.halt.source → ends ≡ [] → sinks ≡ stop.sinks → disk ≡ stop.disk → CallsInOrder old new work (own_fault stop.halt.code stop.halt.source) (map word stop.sinks) (is_some stop.disk)
      → CallsInOrder old new work (own_fault c source) (sinks_back word ends sinks) (is_some disk)
  stopped_called is from none back there called =
      subst (λ f. CallsInOrder old new work f (sinks_back word ends sinks) (is_some disk)) (λ i. own_fault (sym is i) (sym from i))
      (called_same old new work (own_fault stop.halt.code stop.halt.source) (map word stop.sinks) (sinks_back word ends sinks) (is_some stop.disk) (is_some disk) (λ i. sinks_back word (sym none i) (sym back i)) (ap (λ (d : Option D). is_some d) (sym there)) called)

pub stopped_source : {C S D : Type 0} (P : C → ExitCode → Type 0) (stop : Stop C S D) (c : ExitCode) (source : Option C) → c ≡ stop.halt.code → source ≡ stop.halt.source → IfSome stop.halt.source (λ s. P s stop.halt.code) → IfSome source (λ s. P s c)
stopped_source {C} P stop c source is from p = subst (λ (x : Option C). IfSome x (λ s. P s c)) (sym from) (subst (λ d. IfSome stop.halt.source (λ s. P s d)) (sym is) p)

-- what is said of a code and of the disk that was opened
pub over_stopped : {D : Type 0} (P : ExitCode → Option D → Type 0) (c d : ExitCode) (disk now : Option D) → c ≡ d → disk ≡ now → P d now → P c disk
over_stopped P c d disk now is there p = subst (P c) (sym there) (subst (λ x. P x now) (sym is) p)
