-- The calls of the host, by the steps of the order of work.
use Rattle.std.proofs.Common.{ℕ, zero, suc, ◌≡◌, ◌+◌, ◌-◌, ◌<◌, ◌≤◌, Bool, true, false, ◌||◌, List, [], ◌∷◌, ◌++◌, length, Option, Some, None, arith, refl, sym, ◌∙◌, ap, subst, append_assoc, append-nil}
use Rattle.std.specs.Prelude.{map}
use Rattle.std.proofs.lemmas.List.{map-append}
use Rattle.ebr_outside.specs.HostCalls.{with_call}
use Rattle.ebr_outside.specs.declared.host_call.HostCall.{HostCall}
use Rattle.ebr_server.specs.declared.exit.ExitCode.{ExitCode}
use Rattle.ebr_server.specs.declared.exit.ExitCode.TheVariants as code
use Rattle.ebr_outside.specs.declared.host_call.HostMethod.{HostMethod}
use Rattle.ebr_outside.specs.declared.host_call.HostMethod.TheVariants as method
use Rattle.ebr_server.specs.Program.{CallsInOrder, InOrder, LastFails, Step, before_rehearsal, call_of, disk_at, fault_at, is_disk, opens_disk, out_words, own_fault, scripts_and_sinks, sink_at, sinks_by, sinks_of, source_at, steps_from, word_at}
use Rattle.ebr_words.specs.Words.{out_word}
use Rattle.ebr_startup.specs.declared.why.OpenWhy.{OpenWhy}
use Rattle.ebr_startup.specs.declared.why.OpenWhy.TheVariants as why
use Rattle.ebr_server.specs.inside.Opened.{OrderStops, code_of_open, with_steps}

abbrev Calls : Type 0
Calls = Option (List HostCall)

abbrev done_calls : List Step → List HostCall
done_calls steps = map (call_of false) steps

-- ---- steps that came through

pub no_steps : (o : Calls) → o ≡ with_steps o []
no_steps None = refl
no_steps (Some calls) = ap Some (sym (append-nil calls))

pub one_step : (o : Calls) (s : Step) → with_call o (call_of false s) ≡ with_steps o (s ∷ [])
one_step None s = refl
one_step (Some calls) s = refl

steps_twice : (o : Calls) (a b : List Step) → with_steps (with_steps o a) b ≡ with_steps o (a ++ b)
steps_twice None a b = refl
steps_twice (Some calls) a b = ap Some (append_assoc calls (done_calls a) (done_calls b) ∙ ap (λ xs. calls ++ xs) (sym (map-append (call_of false) a b)))

pub with_more : (old mid new : Calls) (a b : List Step) → mid ≡ with_steps old a → new ≡ with_steps mid b → new ≡ with_steps old (a ++ b)
with_more old mid new a b first second = second ∙ ap (λ o. with_steps o b) first ∙ steps_twice old a b

-- ---- what steps make

sinks_append : (a b : List Step) → sinks_of (a ++ b) ≡ sinks_of a ++ sinks_of b
sinks_append [] b = refl
sinks_append (s ∷ a) b = by s.method (sinks_append a b)
  where
    by : (m : HostMethod) → sinks_of (a ++ b) ≡ sinks_of a ++ sinks_of b → sinks_by m s.word (sinks_of (a ++ b)) ≡ sinks_by m s.word (sinks_of a) ++ sinks_of b
    by method.Source more = more
    by method.Sink more = ap (λ l. s.word ∷ l) more
    by method.Disk more = more

disk_append : (a b : List Step) → opens_disk (a ++ b) ≡ opens_disk a || opens_disk b
disk_append [] b = refl
disk_append (s ∷ a) b = by s.method (disk_append a b)
  where
    by : (m : HostMethod) → opens_disk (a ++ b) ≡ opens_disk a || opens_disk b → is_disk m || opens_disk (a ++ b) ≡ (is_disk m || opens_disk a) || opens_disk b
    by method.Source more = more
    by method.Sink more = more
    by method.Disk more = refl

-- sources make no sink, and neither they nor sinks open a disk
sources_make : (words : List (List ℕ)) (at n : ℕ) → sinks_of (steps_from (source_at words) at n) ≡ []
sources_make words at zero = refl
sources_make words at (suc n) = sources_make words (at + 1) n

sources_open : (words : List (List ℕ)) (at n : ℕ) → opens_disk (steps_from (source_at words) at n) ≡ false
sources_open words at zero = refl
sources_open words at (suc n) = sources_open words (at + 1) n

sinks_open : (words : List (List ℕ)) (at n : ℕ) → opens_disk (steps_from (sink_at words) at n) ≡ false
sinks_open words at zero = refl
sinks_open words at (suc n) = sinks_open words (at + 1) n

pub both_make : (words : List (List ℕ)) (first : ℕ) → sinks_of (scripts_and_sinks words first) ≡ out_words words first (length words - first)
both_make words first =
    sinks_append (steps_from (source_at words) first (length words - first)) (steps_from (sink_at words) first (length words - first))
    ∙ ap (λ l. l ++ out_words words first (length words - first)) (sources_make words first (length words - first))

pub both_open : (words : List (List ℕ)) (first : ℕ) → opens_disk (scripts_and_sinks words first) ≡ false
both_open words first =
    disk_append (steps_from (source_at words) first (length words - first)) (steps_from (sink_at words) first (length words - first))
    ∙ ap (λ b. b || opens_disk (steps_from (sink_at words) first (length words - first))) (sources_open words first (length words - first))
    ∙ sinks_open words first (length words - first)

-- behind a disk no sink is made
pub disk_makes : (work : List Step) (words : List (List ℕ)) (at : ℕ) → sinks_of (work ++ disk_at words at ∷ []) ≡ sinks_of work
disk_makes work words at = sinks_append work (disk_at words at ∷ []) ∙ append-nil (sinks_of work)

pub disk_opens : (work : List Step) (words : List (List ℕ)) (at : ℕ) → opens_disk work ≡ false → opens_disk (work ++ disk_at words at ∷ []) ≡ true
disk_opens work words at none = disk_append work (disk_at words at ∷ []) ∙ ap (λ b. b || true) none

-- ---- the calls of a run

pub called_same : (old new : Calls) (work : List Step) (fault : Option ℕ) (s t : List (List ℕ)) (a b : Bool) → s ≡ t → a ≡ b → CallsInOrder old new work fault s a → CallsInOrder old new work fault t b
called_same old new work fault s t a b same opened called = subst (CallsInOrder old new work fault t) opened (subst (λ l. CallsInOrder old new work fault l a) same called)

all_done : (old new : Calls) (work : List Step) (fault : Option ℕ) → new ≡ with_steps old work → fault ≡ None → CallsInOrder old new work fault (sinks_of work) (opens_disk work)
all_done None new work fault is none = is
all_done (Some calls) new work fault is none =
    let whole : InOrder work None (sinks_of work) (opens_disk work) (done_calls work) =
    record { done = work; left = []; work_is = sym (append-nil work); last = []; calls_are = sym (append-nil (done_calls work)); last_fails = refl; sinks_are = refl; disk_is = refl } in
    (done_calls work, is, subst (λ f. InOrder work f (sinks_of work) (opens_disk work) (done_calls work)) (sym none) whole)

pub all_called : (old new : Calls) (work : List Step) (fault : Option ℕ) (sinks : List (List ℕ)) (disk : Bool) → new ≡ with_steps old work → fault ≡ None → sinks ≡ sinks_of work → disk ≡ opens_disk work → CallsInOrder old new work fault sinks disk
all_called old new work fault sinks disk is none made opened = called_same old new work fault (sinks_of work) sinks (opens_disk work) disk (sym made) (sym opened) (all_done old new work fault is none)

pub none_called : (o new : Calls) (work : List Step) (fault : Option ℕ) → new ≡ o → fault ≡ None → CallsInOrder o new work fault [] false
none_called None new work fault same none = same
none_called (Some calls) new work fault same none =
    let nothing : InOrder work None [] false [] = record { done = []; left = work; work_is = refl; last = []; calls_are = refl; last_fails = refl; sinks_are = refl; disk_is = refl } in
    ([], same ∙ ap Some (sym (append-nil calls)), subst (λ f. InOrder work f [] false []) (sym none) nothing)

-- the one step of a run failed
pub one_failed : (o new : Calls) (s : Step) → new ≡ with_call o (call_of true s) → CallsInOrder o new (s ∷ []) (Some s.place) [] false
one_failed None new s called = called
one_failed (Some calls) new s called =
    (call_of true s ∷ [], called, record { done = []; left = s ∷ []; work_is = refl; last = call_of true s ∷ []; calls_are = refl; last_fails = (refl, refl); sinks_are = refl; disk_is = refl })

-- more steps are left
fails_more : (fault : Option ℕ) (left rest : List Step) (calls : List HostCall) → LastFails fault left calls → LastFails fault (left ++ rest) calls
fails_more None left rest calls fails = fails
fails_more (Some at) [] rest calls fails = absurd fails
fails_more (Some at) (s ∷ left) rest calls fails = fails

order_more : (front part rest work : List Step) (fault : Option ℕ) (sinks : List (List ℕ)) (disk : Bool) (calls : List HostCall) → work ≡ front ++ (part ++ rest) → InOrder part fault sinks disk calls
    → InOrder work fault (sinks_of front ++ sinks) (opens_disk front || disk) (done_calls front ++ calls)
order_more front part rest work fault sinks disk calls split in_part = record {
  done = front ++ in_part.done;
  left = in_part.left ++ rest;
  work_is = split
      ∙ ap (λ p. front ++ (p ++ rest)) in_part.work_is
      ∙ ap (λ p. front ++ p) (append_assoc in_part.done in_part.left rest)
      ∙ sym (append_assoc front in_part.done (in_part.left ++ rest));
  last = in_part.last;
  calls_are = ap (λ c. done_calls front ++ c) in_part.calls_are
      ∙ sym (append_assoc (done_calls front) (done_calls in_part.done) in_part.last)
      ∙ ap (λ c. c ++ in_part.last) (sym (map-append (call_of false) front in_part.done));
  last_fails = fails_more fault in_part.left rest in_part.last in_part.last_fails;
  sinks_are = ap (λ l. sinks_of front ++ l) in_part.sinks_are ∙ sym (sinks_append front in_part.done);
  disk_is = ap (λ b. opens_disk front || b) in_part.disk_is ∙ sym (disk_append front in_part.done);
}

-- a part of the work, behind steps that came through
called_behind : (old mid new : Calls) (front part rest work : List Step) (fault : Option ℕ) (sinks : List (List ℕ)) (disk : Bool) → mid ≡ with_steps old front → CallsInOrder mid new part fault sinks disk → work ≡ front ++ (part ++ rest)
    → CallsInOrder old new work fault (sinks_of front ++ sinks) (opens_disk front || disk)
called_behind None mid new front part rest work fault sinks disk is called split = subst (λ m. CallsInOrder m new part fault sinks disk) is called
called_behind (Some calls) mid new front part rest work fault sinks disk is called split = behind (subst (λ m. CallsInOrder m new part fault sinks disk) is called)
  where
    behind : CallsInOrder (Some (calls ++ done_calls front)) new part fault sinks disk → CallsInOrder (Some calls) new work fault (sinks_of front ++ sinks) (opens_disk front || disk)
    behind on = (done_calls front ++ on.0, on.1 ∙ ap Some (append_assoc calls (done_calls front) on.0), order_more front part rest work fault sinks disk on.0 split on.2)

called_first : (old new : Calls) (part rest work : List Step) (fault : Option ℕ) (sinks : List (List ℕ)) (disk : Bool) → CallsInOrder old new part fault sinks disk → work ≡ part ++ rest → CallsInOrder old new work fault sinks disk
called_first old new part rest work fault sinks disk called split = called_behind old old new [] part rest work fault sinks disk (no_steps old) called split

pub fault_of : {C : Type 0} (c : ExitCode) (s : Option C) (fault : Option ℕ) → s ≡ None → fault_at c ≡ fault → own_fault c s ≡ fault
fault_of c s fault none is = ap (own_fault c) none ∙ is

pub without_own : {C : Type 0} (old new : Calls) (work : List Step) (c d : ExitCode) (s : Option C) (sinks : List (List ℕ)) (disk : Bool) → s ≡ None → c ≡ d → CallsInOrder old new work (fault_at d) sinks disk
    → CallsInOrder old new work (own_fault c s) sinks disk
without_own old new work c d s sinks disk none is called = subst (λ f. CallsInOrder old new work f sinks disk) (sym (fault_of c s (fault_at d) none (ap fault_at is))) called

-- a wrong order is no fault of the host
pub order_faultless : (n : ℕ) (order : List ℕ) (c : ExitCode) → OrderStops n order c → fault_at c ≡ None
order_faultless n order code.Done stops = absurd stops
order_faultless n order code.Usage stops = absurd stops
order_faultless n order (code.HostFault w) stops = absurd stops
order_faultless n order code.DiskFault stops = absurd stops
order_faultless n order code.SinkFault stops = absurd stops
order_faultless n order (code.Damaged at) stops = absurd stops
order_faultless n order code.NoMemory stops = refl
order_faultless n order (code.BadOrder at) stops = refl
order_faultless n order (code.TooLong w) stops = absurd stops

-- ---- a step at each of many places

steps_split : (f : ℕ → Step) (at a b : ℕ) → steps_from f at (a + b) ≡ steps_from f at a ++ steps_from f (at + a) b
steps_split f at zero b =
    let none : zero + b ≡ b = omega arith in
    let here : at ≡ at + zero = omega arith in
    ap (steps_from f at) none ∙ ap (λ k. steps_from f k b) here
steps_split f at (suc a) b =
    let more : suc a + b ≡ suc (a + b) = omega arith in
    let here : at + 1 + a ≡ at + suc a = omega arith in
    ap (steps_from f at) more ∙ ap (λ xs. f at ∷ xs) (steps_split f (at + 1) a b ∙ ap (λ k. steps_from f (at + 1) a ++ steps_from f k b) here)

-- one step among them
step_between : (f : ℕ → Step) (first w n : ℕ) → first ≤ w → w < n → steps_from f first (n - first) ≡ steps_from f first (w - first) ++ (f w ∷ steps_from f (w + 1) (n - w - 1))
step_between f first w n from below =
    let parts : n - first ≡ (w - first) + suc (n - w - 1) = omega (arith, from, below) in
    let here : first + (w - first) ≡ w = omega (arith, from) in
    ap (steps_from f first) parts ∙ steps_split f first (w - first) (suc (n - w - 1)) ∙ ap (λ k. steps_from f first (w - first) ++ (f k ∷ steps_from f (k + 1) (n - w - 1))) here

called_at : (f : ℕ → Step) (old mid new : Calls) (first w n : ℕ) (fault : Option ℕ) → first ≤ w → w < n → mid ≡ with_steps old (steps_from f first (w - first)) → CallsInOrder mid new (f w ∷ []) fault [] false
    → CallsInOrder old new (steps_from f first (n - first)) fault (sinks_of (steps_from f first (w - first)) ++ []) (opens_disk (steps_from f first (w - first)) || false)
called_at f old mid new first w n fault from below so_far called =
    called_behind old mid new (steps_from f first (w - first)) (f w ∷ []) (steps_from f (w + 1) (n - w - 1)) (steps_from f first (n - first)) fault [] false so_far called (step_between f first w n from below)

pub sources_at : (words : List (List ℕ)) (old mid new : Calls) (first w n : ℕ) (fault : Option ℕ) → first ≤ w → w < n → mid ≡ with_steps old (steps_from (source_at words) first (w - first)) → CallsInOrder mid new (source_at words w ∷ []) fault [] false
    → CallsInOrder old new (steps_from (source_at words) first (n - first)) fault [] false
sources_at words old mid new first w n fault from below so_far called =
    called_same old new (steps_from (source_at words) first (n - first)) fault _ [] _ false (ap (λ l. l ++ []) (sources_make words first (w - first))) (ap (λ b. b || false) (sources_open words first (w - first)))
    (called_at (source_at words) old mid new first w n fault from below so_far called)

pub sinks_at : (words : List (List ℕ)) (old mid new : Calls) (first w n : ℕ) (fault : Option ℕ) (made : List (List ℕ)) → first ≤ w → w < n → mid ≡ with_steps old (steps_from (sink_at words) first (w - first)) → made ≡ out_words words first (w - first)
    → CallsInOrder mid new (sink_at words w ∷ []) fault [] false → CallsInOrder old new (steps_from (sink_at words) first (n - first)) fault made false
sinks_at words old mid new first w n fault made from below so_far is called =
    called_same old new (steps_from (sink_at words) first (n - first)) fault _ made _ false (append-nil (out_words words first (w - first)) ∙ sym is) (ap (λ b. b || false) (sinks_open words first (w - first)))
    (called_at (sink_at words) old mid new first w n fault from below so_far called)

pub step_more : (f : ℕ → Step) (old mid new : Calls) (first w : ℕ) → first ≤ w → mid ≡ with_steps old (steps_from f first (w - first)) → new ≡ with_steps mid (f w ∷ []) → new ≡ with_steps old (steps_from f first (w + 1 - first))
step_more f old mid new first w from so_far more =
    let parts : w + 1 - first ≡ (w - first) + 1 = omega (arith, from) in
    let here : first + (w - first) ≡ w = omega (arith, from) in
    let steps : steps_from f first (w - first) ++ (f w ∷ []) ≡ steps_from f first (w + 1 - first) =
    sym (ap (steps_from f first) parts ∙ steps_split f first (w - first) 1 ∙ ap (λ k. steps_from f first (w - first) ++ (f k ∷ [])) here) in
    with_more old mid new (steps_from f first (w - first)) (f w ∷ []) so_far more ∙ ap (with_steps old) steps

-- the word of one sink more
pub out_more : (words : List (List ℕ)) (first w : ℕ) → first ≤ w → out_words words first (w + 1 - first) ≡ out_words words first (w - first) ++ out_word (word_at words w) ∷ []
out_more words first w from =
    let parts : w + 1 - first ≡ (w - first) + 1 = omega (arith, from) in
    let here : first + (w - first) ≡ w = omega (arith, from) in
    ap (out_words words first) parts ∙ ap sinks_of (steps_split (sink_at words) first (w - first) 1) ∙ sinks_append (steps_from (sink_at words) first (w - first)) (steps_from (sink_at words) (first + (w - first)) 1)
    ∙ ap (λ k. out_words words first (w - first) ++ out_word (word_at words k) ∷ []) here

-- ---- the scripts from a place on, and their sinks

module _ (words : List (List ℕ)) (first : ℕ) (old : Calls) where
  abbrev scripts : List Step
  scripts = steps_from (source_at words) first (length words - first)

  abbrev sinks : List Step
  sinks = steps_from (sink_at words) first (length words - first)

  abbrev both : List Step
  both = scripts_and_sinks words first

  pub scripts_called : (new : Calls) (fault : Option ℕ) → CallsInOrder old new scripts fault [] false → CallsInOrder old new both fault [] false
  scripts_called new fault called = called_first old new scripts sinks both fault [] false called refl

  pub sinks_called : (mid new : Calls) (fault : Option ℕ) (made : List (List ℕ)) → mid ≡ with_steps old scripts → CallsInOrder mid new sinks fault made false → CallsInOrder old new both fault made false
  sinks_called mid new fault made so_far called =
      called_same old new both fault _ made _ false (ap (λ l. l ++ made) (sources_make words first (length words - first))) (ap (λ b. b || false) (sources_open words first (length words - first)))
      (called_behind old mid new scripts sinks [] both fault made false so_far called (ap (λ xs. scripts ++ xs) (sym (append-nil sinks))))

  pub all_opened : (mid new : Calls) → mid ≡ with_steps old scripts → new ≡ with_steps mid sinks → new ≡ with_steps old both
  all_opened mid new so_far more = with_more old mid new scripts sinks so_far more

-- ---- behind an order

module _ (words : List (List ℕ)) (old : Calls) where
  abbrev order : List Step
  order = source_at words 2 ∷ []

  pub order_called : (new : Calls) (fault : Option ℕ) → CallsInOrder old new order fault [] false → CallsInOrder old new (before_rehearsal words) fault [] false
  order_called new fault called = called_first old new order (scripts_and_sinks words 3) (before_rehearsal words) fault [] false called refl

  pub behind_called : (mid new : Calls) (fault : Option ℕ) (made : List (List ℕ)) → mid ≡ with_steps old order → CallsInOrder mid new (scripts_and_sinks words 3) fault made false → CallsInOrder old new (before_rehearsal words) fault made false
  behind_called mid new fault made so_far called =
      called_behind old mid new order (scripts_and_sinks words 3) [] (before_rehearsal words) fault made false so_far called (ap (λ xs. order ++ xs) (sym (append-nil (scripts_and_sinks words 3))))

  pub behind_opened : (mid new : Calls) → mid ≡ with_steps old order → new ≡ with_steps mid (scripts_and_sinks words 3) → new ≡ with_steps old (before_rehearsal words)
  behind_opened mid new so_far more = with_more old mid new order (scripts_and_sinks words 3) so_far more

-- ---- and then the disk

module _ (work : List Step) (disk : Step) (old : Calls) where
  pub before_called : (new : Calls) (fault : Option ℕ) (made : List (List ℕ)) → CallsInOrder old new work fault made false → CallsInOrder old new (work ++ disk ∷ []) fault made false
  before_called new fault made called = called_first old new work (disk ∷ []) (work ++ disk ∷ []) fault made false called refl

  pub disk_called : (mid new : Calls) (fault : Option ℕ) (made : List (List ℕ)) → mid ≡ with_steps old work → made ≡ sinks_of work → opens_disk work ≡ false → CallsInOrder mid new (disk ∷ []) fault [] false
      → CallsInOrder old new (work ++ disk ∷ []) fault made false
  disk_called mid new fault made so_far is none called =
      called_same old new (work ++ disk ∷ []) fault _ made _ false (append-nil (sinks_of work) ∙ sym is) (ap (λ b. b || false) none)
      (called_behind old mid new work (disk ∷ []) [] (work ++ disk ∷ []) fault [] false so_far called (ap (λ xs. work ++ xs) (sym (append-nil (disk ∷ [])))))

  pub disk_opened : (mid new : Calls) → mid ≡ with_steps old work → new ≡ with_steps mid (disk ∷ []) → new ≡ with_steps old (work ++ disk ∷ [])
  disk_opened mid new so_far more = with_more old mid new work (disk ∷ []) so_far more

-- why no engine is opened is no fault of the host
pub open_faultless : (cause : OpenWhy) (c : ExitCode) → c ≡ code_of_open cause → fault_at c ≡ None
open_faultless cause c is = ap fault_at is ∙ by cause
  where
    by : (w : OpenWhy) → fault_at (code_of_open w) ≡ None
    by why.DiskFault = refl
    by (why.Damaged at) = refl
    by why.NoMemory = refl
