-- What comes of scripts, by their workers.
use Rattle.std.proofs.Common.{ℕ, zero, suc, ◌≡◌, ◌+◌, ◌<◌, ◌≤◌, Bool, true, false, List, [], ◌∷◌, ◌++◌, length, take, get_or, Option, Some, None, inl, inr, append-nil, append_assoc, arith, refl, sym, ◌∙◌, ap, subst}
use Rattle.std.specs.Prelude.{All, ◌⊎◌, ◌||◌, ◌&&◌, IfSome, IsSome, map, slice_get}
use Rattle.std.proofs.lemmas.List.{length-append, length-map, length-take-le, map-append, take_more}
use Rattle.ebr_base.specs.declared.numbers.SessionId.{SessionId}
use Rattle.ebr_worker.specs.declared.limits.TheConstants.{MAX_ASKS}
use Rattle.ebr_faults.specs.Faults.{Rises}
use Rattle.ebr_report.specs.declared.ends.SessionEnd.{SessionEnd}
use Rattle.ebr_asks.specs.declared.ask.Ask.{Ask}
use Rattle.ebr_asks.specs.declared.answer.Answer.{Answer}
use Rattle.ebr_asks.specs.declared.answer.Answer.TheVariants as answer
use Rattle.ebr_asks.specs.declared.entry.Entry.{Entry}
use Rattle.ebr_record.specs.Keeper.{Keeper}
use Rattle.ebr_database.specs.declared.failure.Halt.TheVariants as why
use Rattle.ebr_database.specs.Database.{Database}
use Rattle.ebr_session.specs.Has.{Follows, Progress, begun, is_short}
use Rattle.ebr_core.specs.Machine.{Build, Reply}
use Rattle.ebr_core.specs.Engine.{EngineState, HasLegalHistory, database_of, first_of, no_books}
use Rattle.ebr_core.specs.History.{AllStopped, Answered, IsLive, Legal, Mine, is_light, next, wants}
use Rattle.ebr_core.specs.Kept.{Kept, KeptBy, cause_by, given_up_by, or_else}
use Rattle.ebr_worker.specs.Matches.{has_fault, is_fault}
use Rattle.ebr_worker.specs.Paced.{IsSession, has_ended}
use Rattle.ebr_worker.specs.Ends.{Job}
use Rattle.ebr_worker.specs.Runs.{AreEnds, IsUnwritten, nth_session}
use Rattle.ebr_worker.specs.Work.{IsEndOf, StandsBy, Work, Works, job_of, why_short}
use Rattle.ebr_worker.specs.Rehearsal.{AllEnded, AllStand, jobs_of}
use Rattle.ebr_worker.specs.inside.Rehearsal.{AllFrom, AreBegun, AreNew, AreReady, EndsAt, IsBegun, IsEndAt, IsNew, script_of}
use Rattle.ebr_worker.proofs.Ending.{is_end}
use Rattle.ebr_worker.proofs.First.{first_live}

same_some : {X : Type 0} (a b : X) → Some a ≡ Some b → a ≡ b
same_some a b e = cc

-- ---- one element more

module _ {X : Type 0} where
  last_or : (xs : List X) (x y : X) (i : ℕ) → slice_get (xs ++ x ∷ []) i ≡ Some y → (slice_get xs i ≡ Some y) ⊎ ((i ≡ length xs) × (x ≡ y))
  last_or [] x y zero is = inr (refl, same_some x y is)
  last_or [] x y (suc i) is = cc
  last_or (z ∷ xs) x y zero is = inl is
  last_or (z ∷ xs) x y (suc i) is = elim (last_or xs x y i is) [ inl before ↦ inl before | inr (at, same) ↦ inr (ap suc at, same) ]

  pub from_more : (P : ℕ → X → Type 0) (xs : List X) (x : X) → AllFrom P 0 xs → P (length xs) x → AllFrom P 0 (xs ++ x ∷ [])
  from_more P xs x all here i y is =
      elim (last_or xs x y i is) [ inl before ↦ all i y before | inr (at, same) ↦ subst (P (0 + i)) same (subst (λ k. P k x) (omega (arith, at)) here) ]

  pub from_head : (P : ℕ → X → Type 0) (n : ℕ) (x : X) (xs : List X) → AllFrom P n (x ∷ xs) → P n x
  from_head P n x xs all = subst (λ k. P k x) (omega arith) (all zero x refl)

  pub from_tail : (P : ℕ → X → Type 0) (n : ℕ) (x : X) (xs : List X) → AllFrom P n (x ∷ xs) → AllFrom P (n + 1) xs
  from_tail P n x xs all i y is = subst (λ k. P k y) (omega arith) (all (suc i) y is)

-- ---- sessions that have just begun

-- One session more was begun, for the script at a place.
pub new_at : (scripts : List (List ℕ)) (ss ss' : List Progress) (at : ℕ) (script d : List ℕ) (s : Progress) → at < length scripts → script ≡ get_or scripts at d → (bytes : List ℕ) → bytes ≡ script → s ≡ begun (record { 0 = at + 1 }) bytes → Follows s → ss' ≡ ss ++ s ∷ []
    → AreNew (take at scripts) ss → AreNew (take (at + 1) scripts) ss'
new_at scripts ss ss' at script d s within is bytes same begins f more all =
    let own : s.script ≡ script = ap (λ (t : Progress). t.script) begins ∙ same in
    let count : length ss ≡ at = sym (length-map ss script_of) ∙ ap length all.scripts_are ∙ length-take-le at scripts (omega (arith, within)) in
    let here : IsNew (length ss + 1) s = record { is = begins ∙ ap (begun (record { 0 = at + 1 })) (same ∙ sym own) ∙ ap (λ n. begun (record { 0 = n + 1 }) s.script) (sym count); follows = f } in
    subst (AreNew (take (at + 1) scripts)) (sym more)
    (subst (λ xs. AreNew xs (ss ++ s ∷ [])) (sym (take_more scripts at d within ∙ ap (λ x. take at scripts ++ x ∷ []) (sym is))) (record {
      scripts_are = map-append script_of ss (s ∷ []) ∙ ap (λ xs. xs ++ s.script ∷ []) all.scripts_are ∙ ap (λ x. take at scripts ++ x ∷ []) own;
      each = λ i t there. subst (λ n. IsNew n t) (omega arith) (from_more (λ i t. IsNew (i + 1) t) ss s (λ i t there. subst (λ n. IsNew n t) (omega arith) (all.each i t there)) here i t there);
    }))

-- ---- workers that have just begun

pub begun_more : (ws : List Work) (w : Work) → AreBegun (jobs_of ws) ws → IsBegun (length ws + 1) w → AreBegun (jobs_of (ws ++ w ∷ [])) (ws ++ w ∷ [])
begun_more ws w all here = record {
  jobs_are = refl;
  each = λ i v is. subst (λ n. IsBegun n v) (omega arith) (from_more (λ i v. IsBegun (i + 1) v) ws w (λ i v is. subst (λ n. IsBegun n v) (omega arith) (all.each i v is)) here i v is);
}

pub begun_so : (n : ℕ) (script : List ℕ) (w : Work) → w.session ≡ begun (record { 0 = n }) script → Follows w.session → w.written ≡ [] → w.faults ≡ 0 → w.why ≡ None → w.end ≡ None → IsBegun n w
begun_so n script w is f written unfailed no_why no_end = record {
  session = is ∙ ap (begun (record { 0 = n })) (sym (ap (λ (s : Progress). s.script) is));
  follows = f;
  written = written;
  unfailed = unfailed;
  no_why = no_why;
  no_end = no_end;
}

module _ {K : Type 0} (e : EngineState K) (none : e.history ≡ []) where
  pub works_first : (n : ℕ) (w : Work) → IsSession (length e.books) (record { 0 = n }) → IsBegun n w → Works w e
  works_first n w is_session begun_yet =
      let s : Progress = w.session in
      let number : s.session ≡ record { 0 = n } = ap (λ (t : Progress). t.session) begun_yet.session in
      let mine : s.transcript ≡ [] = ap (λ (t : Progress). t.transcript) begun_yet.session in
      record {
        runs = record {
          goes_on = ap (λ (t : Progress). t.ended) begun_yet.session;
          no_quit = ap (λ (t : Progress). t.quit) begun_yet.session;
          no_ask = ap (λ (t : Progress). t.out) begun_yet.session;
          follows = begun_yet.follows;
          not_over = ap has_ended mine;
          few = omega (arith, ap length mine);
          written = begun_yet.written ∙ sym (ap (λ (t : Progress). t.printed) begun_yet.session);
          unfailed = begun_yet.unfailed;
          why = begun_yet.no_why ∙ sym (ap (λ l. why_short (is_short l)) mine);
        };
        seated = record {
          is_session = subst (IsSession (length e.books)) (sym number) is_session;
          matches = ap (λ h. Mine h s.session) none ∙ ap (map _) (sym mine);
        };
        live = subst (IsLive (database_of e)) (sym number) (first_live e (record { 0 = n }) none is_session);
      }

  pub all_first : (jobs : List Job) (ws : List Work) → length e.books ≡ length jobs → AreBegun jobs ws → AllStand ws e
  all_first jobs ws books begun_yet =
      let count : length ws ≡ length jobs = sym (length-map ws job_of) ∙ ap length begun_yet.jobs_are in
      record {
        count = count ∙ sym books;
        number = λ i w is. ap (λ (t : Progress). t.session) (begun_yet.each i w is).session;
        stand = λ i w is. subst (λ o. StandsBy o w e) (sym (begun_yet.each i w is).no_end)
            (works_first (i + 1) w (record { first = omega arith; last = omega (arith, within ws i w is, count, books) }) (begun_yet.each i w is));
      }
    where
      within : (ws : List Work) (i : ℕ) (w : Work) → slice_get ws i ≡ Some w → i < length ws
      within [] i w is = cc
      within (v ∷ ws) zero w is = omega arith
      within (v ∷ ws) (suc i) w is = omega (arith, within ws i w is)

-- ---- workers that have ended

job_at : (ws : List Work) (jobs : List Job) (i : ℕ) (w : Work) (job : Job) → jobs_of ws ≡ jobs → slice_get ws i ≡ Some w → slice_get jobs i ≡ Some job → job_of w ≡ job
job_at ws jobs i w job same is there = same_some (job_of w) job (sym (mapped ws i w is) ∙ ap (λ xs. slice_get xs i) same ∙ there)
  where
    mapped : (ws : List Work) (i : ℕ) (w : Work) → slice_get ws i ≡ Some w → slice_get (jobs_of ws) i ≡ Some (job_of w)
    mapped [] i w is = cc
    mapped (v ∷ ws) zero w is = ap Some (ap job_of (same_some v w is))
    mapped (v ∷ ws) (suc i) w is = mapped ws i w is

pub ends_first : {K : Type 0} (jobs : List Job) (ws : List Work) (e : EngineState K) → jobs_of ws ≡ jobs → AllEnded ws e → AllFrom (EndsAt jobs e) 0 ws
ends_first jobs ws e same all i w is =
    let how = all.ended i w is in
    subst (λ k. EndsAt jobs e k w) (omega arith) (record {
      number = all.number i w is;
      end = how.0;
      ended = how.1;
      over = how.2;
      job = λ job there. job_at ws jobs i w job same is there;
    })

pub end_at : {S K : Type 0} (held : S → Option (List ℕ)) (faults : S → ℕ) (word : S → List ℕ) (jobs : List Job) (e : EngineState K) (i : ℕ) (w : Work) (x : SessionEnd S) → EndsAt jobs e i w → IsEndOf held faults word w x → IsSome x.sink → IsEndAt held faults word jobs e.history i x
end_at held faults word jobs e i w x at came_to sink = record {
  sink = sink;
  is_end = λ job there. is_end held faults word w e at.end (nth_session i) job x at.ended at.over at.number (at.job job there) came_to;
}

-- ---- the disk

no_rise : (a b : ℕ) → Rises a b → b ≡ 0 → ⊥
no_rise a b rises none = omega (arith, rises, none)

none_behind : (db : Database) (h : List Entry) → AllStopped db h → has_fault h ≡ false
none_behind db [] stopped = refl
none_behind db (x ∷ h) stopped = ap (λ a. is_fault a || has_fault h) stopped.2 ∙ none_behind (next db x) h stopped.3

-- With an entry that the disk failed the engine gives up.
gave_up_by : (db : Database) (h : List Entry) → Legal db h → has_fault h ≡ true → given_up_by h ≡ Some why.DiskFault
gave_up_by db [] legal is = cc
gave_up_by db (x ∷ h) legal is = by x.ask x.answer legal.1 is (gave_up_by (next db x) h)
  where
    wanting : (b : Bool) → Answered b answer.NoMemory (Reply db x.session x.ask).answer (Legal (next db x) h) (AllStopped (next db x) h) → has_fault h ≡ true
        → (Legal (next db x) h → has_fault h ≡ true → given_up_by h ≡ Some why.DiskFault) → or_else (cause_by b answer.NoMemory) (given_up_by h) ≡ Some why.DiskFault
    wanting true legal is rest = rest legal is
    wanting false stopped is rest = absurd (not_both (has_fault h) (none_behind (next db x) h stopped) is)
      where
        not_both : (b : Bool) → b ≡ false → b ≡ true → ⊥
        not_both b off on = cc

    by : (q : Ask) (a : Answer) → Answered (wants a && is_light q) a (Reply db x.session x.ask).answer (Legal (next db x) h) (AllStopped (next db x) h)
        → (is_fault a || has_fault h) ≡ true → (Legal (next db x) h → has_fault h ≡ true → given_up_by h ≡ Some why.DiskFault) → or_else (cause_by (wants a && is_light q) a) (given_up_by h) ≡ Some why.DiskFault
    by q answer.DiskFault legal is rest = refl
    by q answer.NoMemory legal is rest = wanting (is_light q) legal is rest
    by q a legal is rest = rest legal.1 is

pub no_fault : {K : Type 0} (as_keeper : K → Keeper) (first e : EngineState K) → ((k : K) → (as_keeper k).faults ≡ 0) → Kept (as_keeper first.keeper) (as_keeper e.keeper) (first_of e) e.history → HasLegalHistory e → has_fault e.history ≡ false
no_fault as_keeper first e none kept legal = by (has_fault e.history) refl
  where
    rises : KeptBy (Some why.DiskFault) (as_keeper first.keeper) (as_keeper e.keeper) (first_of e) e.history → ⊥
    rises until = no_rise (as_keeper first.keeper).faults (as_keeper e.keeper).faults until.gave_up.cause (none e.keeper)

    by : (b : Bool) → has_fault e.history ≡ b → has_fault e.history ≡ false
    by true is = absurd (rises (subst (λ o. KeptBy o (as_keeper first.keeper) (as_keeper e.keeper) (first_of e) e.history) (gave_up_by (first_of e) e.history legal is) kept))
    by false is = is

-- ---- the loops over workers and sinks

pub end_some : {K : Type 0} (jobs : List Job) (e : EngineState K) (i : ℕ) (w : Work) → EndsAt jobs e i w → IsSome w.end
end_some jobs e i w at = subst (λ o. IsSome o) (sym at.ended) refl

pub end_few : {K : Type 0} (jobs : List Job) (e : EngineState K) (i : ℕ) (w : Work) → EndsAt jobs e i w → length w.session.transcript ≤ MAX_ASKS
end_few jobs e i w at = at.over.come.few

module _ {X : Type 0} (P : ℕ → X → Type 0) where
  pub next_first : (n : ℕ) (xs rest : List X) (x : X) → xs ≡ x ∷ rest → AllFrom P n xs → P n x
  next_first n xs rest x cut all = from_head P n x rest (subst (AllFrom P n) cut all)

  pub next_rest : {Y : Type 0} (ys ys' : List Y) (y : Y) (xs rest : List X) (x : X) → xs ≡ x ∷ rest → ys' ≡ ys ++ y ∷ [] → AllFrom P (length ys) xs → AllFrom P (length ys') rest
  next_rest ys ys' y xs rest x cut more all =
      subst (λ n. AllFrom P n rest) (sym (ap length more ∙ length-append ys (y ∷ []))) (from_tail P (length ys) x rest (subst (AllFrom P (length ys)) cut all))

  pub next_told : (ys ys' : List X) (y : X) → ys' ≡ ys ++ y ∷ [] → AllFrom P 0 ys → P (length ys) y → AllFrom P 0 ys'
  next_told ys ys' y more all here = subst (AllFrom P 0) (sym more) (from_more P ys y all here)

pub tail_all : {X : Type 0} (P : X → Type 0) (xs rest : List X) (x : X) → xs ≡ x ∷ rest → All P xs → All P rest
tail_all P xs rest x cut all = λ k d within. (subst (All P) cut all) (suc k) d (omega (arith, within))

pub head_all : {X : Type 0} (P : X → Type 0) (xs rest : List X) (x : X) → xs ≡ x ∷ rest → All P xs → P x
head_all P xs rest x cut all = (subst (All P) cut all) zero x (omega arith)

pub none_told : {Y : Type 0} (Q : ℕ → Y → Type 0) (ys : List Y) → ys ≡ [] → AllFrom Q 0 ys
none_told Q ys none = subst (AllFrom Q 0) (sym none) (λ i y is. absurd (nothing i y is))
  where
    nothing : {Y : Type 0} (i : ℕ) (y : Y) → slice_get [] i ≡ Some y → ⊥
    nothing i y is = cc

pub are_ends : {S : Type 0} (held : S → Option (List ℕ)) (faults : S → ℕ) (word : S → List ℕ) (jobs : List Job) (history history' : List Entry) (ends : List (SessionEnd S)) → history' ≡ history → AllFrom (IsEndAt held faults word jobs history) 0 ends → length ends ≡ length jobs
    → AreEnds held faults word jobs history' ends
are_ends held faults word jobs history history' ends same all count =
    subst (λ h. AreEnds held faults word jobs h ends) (sym same) (record {
      count = count;
      each = λ i job x there is. (subst (λ k. IsEndAt held faults word jobs history k x) (omega arith) (all i x is)).is_end job there;
      sinks = λ i x is. (all i x is).sink;
    })

-- One worker more was made, of the session and the sink that come next.
pub begun_at : (ws ws' : List Work) (w : Work) (s : Progress) → IsNew (length ws + 1) s → w.session ≡ s → w.written ≡ [] → w.faults ≡ 0 → w.why ≡ None → w.end ≡ None → ws' ≡ ws ++ w ∷ [] → AreBegun (jobs_of ws) ws → AreBegun (jobs_of ws') ws'
begun_at ws ws' w s new session written unfailed no_why no_end more all =
    subst (λ vs. AreBegun (jobs_of vs) vs) (sym more) (begun_more ws w all (begun_so (length ws + 1) s.script w (session ∙ new.is) (subst Follows (sym session) new.follows) written unfailed no_why no_end))

-- One more is moved from what is left to what is made.
pub moved : {X Y Z : Type 0} (f : Z → Y) (h : X → Y) (zs zs' : List Z) (z : Z) (xs rest : List X) (x : X) (whole : List Y) → zs' ≡ zs ++ z ∷ [] → xs ≡ x ∷ rest → f z ≡ h x → map f zs ++ map h xs ≡ whole → map f zs' ++ map h rest ≡ whole
moved f h zs zs' z xs rest x whole more cut same is =
    ap (λ l. map f l ++ map h rest) more ∙ ap (λ l. l ++ map h rest) (map-append f zs (z ∷ [])) ∙ append_assoc (map f zs) (f z ∷ []) (map h rest) ∙ ap (λ y. map f zs ++ y ∷ map h rest) same ∙ ap (λ l. map f zs ++ map h l) (sym cut) ∙ is

-- all are moved
pub moved_all : {X Y Z : Type 0} (f : Z → Y) (h : X → Y) (zs : List Z) (xs : List X) (whole : List Y) → length xs ≡ 0 → map f zs ++ map h xs ≡ whole → map f zs ≡ whole
moved_all f h zs [] whole none is = sym (append-nil (map f zs)) ∙ is
moved_all f h zs (x ∷ xs) whole none is = absurd (omega (arith, none))

pub some_left : {X : Type 0} {P : Type 0} (xs ys rest : List X) (y : X) (n : ℕ) → ys ≡ y ∷ rest → length xs ≡ length ys → 0 ≡ n → n ≡ length xs → P
some_left xs ys rest y n cut same none left = absurd (omega (arith, ap length cut, same, none, left))

pub new_first : (scripts : List (List ℕ)) (ss ss' : List Progress) (n : ℕ) → AreNew scripts ss → ss' ≡ ss → n ≡ 0 → AllFrom (λ i s. IsNew (i + 1) s) n ss'
new_first scripts ss ss' n all same none =
    subst (λ m. AllFrom (λ i s. IsNew (i + 1) s) m ss') (sym none) (subst (AllFrom (λ i s. IsNew (i + 1) s) 0) (sym same) (λ i s is. subst (λ m. IsNew m s) (omega arith) (all.each i s is)))

pub new_own : (scripts : List (List ℕ)) (ss : List Progress) → AreNew scripts ss → AreNew (map script_of ss) ss
new_own scripts ss all = subst (λ xs. AreNew xs ss) (sym all.scripts_are) all

pub new_count : (scripts : List (List ℕ)) (ss : List Progress) → AreNew scripts ss → length ss ≡ length scripts
new_count scripts ss all = sym (length-map ss script_of) ∙ ap length all.scripts_are

-- as many workers as scripts
pub count_by_scripts : (scripts : List (List ℕ)) (ws : List Work) → map (λ (j : Job). j.script) (jobs_of ws) ≡ scripts → length ws ≡ length scripts
count_by_scripts scripts ws is = sym (length-map ws job_of) ∙ sym (length-map (jobs_of ws) (λ (j : Job). j.script)) ∙ ap length is

pub begun_first : (jobs : List Job) (ws ws' : List Work) (n : ℕ) → AreBegun jobs ws → ws' ≡ ws → n ≡ 0 → AllFrom (λ i w. IsBegun (i + 1) w) n ws'
begun_first jobs ws ws' n all same none =
    subst (λ m. AllFrom (λ i w. IsBegun (i + 1) w) m ws') (sym none) (subst (AllFrom (λ i w. IsBegun (i + 1) w) 0) (sym same) (λ i w is. subst (λ m. IsBegun m w) (omega arith) (all.each i w is)))

pub begun_none : (ws : List Work) → ws ≡ [] → AreBegun (jobs_of ws) ws
begun_none ws none = subst (λ vs. AreBegun (jobs_of vs) vs) (sym none) (record { jobs_are = refl; each = λ i w is. absurd (nothing i w is) })
  where
    nothing : (i : ℕ) (w : Work) → slice_get [] i ≡ Some w → ⊥
    nothing i w is = cc

pub all_none : {X : Type 0} (P : X → Type 0) (xs : List X) → xs ≡ [] → All P xs
all_none P xs none = subst (All P) (sym none) (λ k d within. absurd (omega (arith, within)))

-- at first all is left
pub moved_none : {X Y Z : Type 0} (f : Z → Y) (h : X → Y) (zs : List Z) (xs ys : List X) → zs ≡ [] → xs ≡ ys → map f zs ++ map h xs ≡ map h ys
moved_none f h zs xs ys none same = ap (λ l. map f l ++ map h xs) none ∙ ap (map h) same

-- ---- sinks that nothing was written to

pub unwritten_sink : {S : Type 0} (held : S → Option (List ℕ)) (faults : S → ℕ) (n : ℕ) (w : Work) (s : S) → IsBegun n w → IfSome (held s) (λ bytes. bytes ≡ w.written) → faults s ≡ w.faults → IsUnwritten held faults s
unwritten_sink held faults n w s begun_yet holds counted = (subst (λ t. IfSome (held s) (λ bytes. bytes ≡ t)) begun_yet.written holds, counted ∙ begun_yet.unfailed)

-- ---- the beginning

pub books_count : (n : ℕ) → length (no_books n) ≡ n
books_count zero = refl
books_count (suc n) = ap suc (books_count n)

pub begun_count : (jobs : List Job) (ws : List Work) → AreBegun jobs ws → length ws ≡ length jobs
begun_count jobs ws all = sym (length-map ws job_of) ∙ ap length all.jobs_are

pub begun_as : (jobs : List Job) (ws : List Work) → jobs_of ws ≡ jobs → AreBegun (jobs_of ws) ws → AreBegun jobs ws
begun_as jobs ws is begun_yet = subst (λ js. AreBegun js ws) is begun_yet

-- by their own jobs, where nothing was done to them
pub begun_left : (jobs : List Job) (ws ws' : List Work) → AreBegun jobs ws → ws' ≡ ws → AreBegun (jobs_of ws') ws'
begun_left jobs ws ws' all same = subst (λ vs. AreBegun (jobs_of vs) vs) (sym same) (subst (λ js. AreBegun js ws) (sym all.jobs_are) all)

pub stand_first : {K : Type 0} (e : EngineState K) (jobs : List Job) (ws ws' : List Work) → e.history ≡ [] → length e.books ≡ length jobs → ws' ≡ ws → AreBegun jobs ws → AllStand ws' e
stand_first e jobs ws ws' none books same all = subst (λ xs. AllStand xs e) (sym same) (all_first e none jobs ws books all)

-- the database with which a history began, of so many sessions
began : {K : Type 0} (first e : EngineState K) (n : ℕ) → e.recovered ≡ first.recovered → length e.books ≡ length first.books → length first.books ≡ n → first_of e ≡ Build first.recovered n
began first e n recovered books count = λ i. Build (recovered i) ((books ∙ count) i)

pub legal_since : {K : Type 0} (first e : EngineState K) (n : ℕ) (h : List Entry) → e.recovered ≡ first.recovered → length e.books ≡ length first.books → length first.books ≡ n → h ≡ e.history → HasLegalHistory e → Legal (Build first.recovered n) h
legal_since first e n h recovered books count same legal =
    subst (λ t. Legal (Build first.recovered n) t) (sym same) (subst (λ d. Legal d e.history) (began first e n recovered books count) legal)

pub kept_since : {K : Type 0} (as_keeper : K → Keeper) (first e : EngineState K) (n : ℕ) (k : K) (h : List Entry) → e.recovered ≡ first.recovered → length e.books ≡ length first.books → length first.books ≡ n → k ≡ e.keeper → h ≡ e.history
    → Kept (as_keeper first.keeper) (as_keeper e.keeper) (first_of e) e.history → Kept (as_keeper first.keeper) (as_keeper k) (Build first.recovered n) h
kept_since as_keeper first e n k h recovered books count same_k same kept =
    subst (λ t. Kept (as_keeper first.keeper) (as_keeper k) (Build first.recovered n) t) (sym same)
    (subst (λ l. Kept (as_keeper first.keeper) (as_keeper l) (Build first.recovered n) e.history) (sym same_k)
    (subst (λ d. Kept (as_keeper first.keeper) (as_keeper e.keeper) d e.history) (began first e n recovered books count) kept))

-- a history that began with no records
pub first_history : {K : Type 0} (first e : EngineState K) (n m : ℕ) (k : K) → first ≡ record { history = []; recovered = []; books = no_books n; keeper = k } → n ≡ m
    → e.recovered ≡ first.recovered → length e.books ≡ length first.books → HasLegalHistory e → Legal (Build [] m) e.history
first_history {K} first e n m k is count recovered books legal =
    subst (λ c. Legal (Build [] c) e.history) (books ∙ ap (λ (f : EngineState K). length f.books) is ∙ books_count n ∙ count)
    (subst (λ rs. Legal (Build rs (length e.books)) e.history) (recovered ∙ ap (λ (f : EngineState K). f.recovered) is) legal)

pub order_first : (jobs : List Job) (ws ws' : List Work) (order : List SessionId) → ws' ≡ ws → AreBegun jobs ws → All (IsSession (length jobs)) order → All (IsSession (length ws')) order
order_first jobs ws ws' order same all sessions = subst (λ n. All (IsSession n) order) (sym (ap length same ∙ begun_count jobs ws all)) sessions

-- the jobs of the workers that have ended, and how many they are
pub ended_jobs : (jobs : List Job) (ws ws' ended : List Work) → ws' ≡ ws → AreBegun jobs ws → jobs_of ended ≡ jobs_of ws' → (jobs_of ended ≡ jobs) × (length ended ≡ length jobs)
ended_jobs jobs ws ws' ended same all kept_so =
    let is : jobs_of ended ≡ jobs = kept_so ∙ ap jobs_of same ∙ all.jobs_are in
    (is, sym (length-map ended job_of) ∙ ap length is)

-- ---- scripts and words by themselves

map_twice : {X Y Z : Type 0} (f : Y → Z) (h : X → Y) (xs : List X) → map f (map h xs) ≡ map (λ x. f (h x)) xs
map_twice f h [] = refl
map_twice f h (x ∷ xs) = ap (λ l. f (h x) ∷ l) (map_twice f h xs)

pub scripts_by : (ws : List Work) (scripts : List (List ℕ)) → map (λ (w : Work). w.session.script) ws ≡ scripts → map (λ (j : Job). j.script) (jobs_of ws) ≡ scripts
scripts_by ws scripts is = map_twice (λ (j : Job). j.script) job_of ws ∙ is

pub words_by : (ws : List Work) (words : List (List ℕ)) → map (λ (w : Work). w.word) ws ≡ words → map (λ (j : Job). j.word) (jobs_of ws) ≡ words
words_by ws words is = map_twice (λ (j : Job). j.word) job_of ws ∙ is

pub words_back : (ws : List Work) (words : List (List ℕ)) → words ≡ map (λ (w : Work). w.word) ws → words ≡ map (λ (j : Job). j.word) (jobs_of ws)
words_back ws words is = is ∙ sym (map_twice (λ (j : Job). j.word) job_of ws)
