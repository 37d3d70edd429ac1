-- What a worker's fields say of its work.
use Rattle.std.proofs.Common.{ℕ, ◌≡◌, ◌+◌, ◌-◌, ◌≤◌, ◌<◌, ◌==◌, Bool, true, false, List, ◌++◌, length, take, drop, Option, Some, None, arith, refl, sym, ◌∙◌, ap, subst, true≢false}
use Rattle.std.specs.Prelude.{IfSome, IsSome, Ok, Err}
use Rattle.ebr_base.specs.declared.clone_in.NoMemory.{NoMemory}
use Rattle.std.specs.Bool.{OnTrue}
use Rattle.std.proofs.Math.Seq.{take-add}
use Rattle.std.proofs.lemmas.List.{take-append-drop, take_all}
use Rattle.ebr_outside.specs.Sink.{appended, faults_after}
use Rattle.ebr_asks.specs.declared.ask.Ask.{Ask}
use Rattle.ebr_asks.specs.declared.answer.Answer.{Answer}
use Rattle.ebr_session.specs.declared.next.NextAsk.TheVariants as next
use Rattle.ebr_session.specs.Has.{Follows, Progress, answered, is_leaving, quitting}
use Rattle.ebr_report.specs.declared.ends.EndKind.{EndKind}
use Rattle.ebr_worker.specs.Work.{Work}
use Rattle.ebr_worker.specs.inside.Worker.{Advanced, Flushed, LeavesNow, Quits, Settles, end_by, if_ended, settled, why_by, with_leave}

-- a session of whose printed bytes so many are written
abbrev pub work : Progress → ℕ → List ℕ → Option (List ℕ) → ℕ → Option EndKind → Option EndKind → Work
work s n word held faults why end = record { session = s; written = take n s.printed; word = word; held = held; faults = faults; why = why; end = end }

-- What the sink holds is what was written.
pub held_written : (p q : List ℕ) (n m : ℕ) (held held' : Option (List ℕ)) → q ≡ p → n ≤ m → IfSome held (λ bytes. bytes ≡ take n p) → held' ≡ appended held (take (m - n) (drop n q)) → IfSome held' (λ bytes. bytes ≡ take m p)
held_written p q n m None held' same onward was now = subst (λ h. IfSome h (λ bytes. bytes ≡ take m p)) (sym now) tt
held_written p q n m (Some bytes) held' same onward was now =
    let at : n + (m - n) ≡ m = omega (arith, onward) in
    let whole : bytes ++ take (m - n) (drop n q) ≡ take m p =
    ap (λ xs. xs ++ take (m - n) (drop n q)) was ∙ ap (λ xs. take n p ++ take (m - n) (drop n xs)) same ∙ sym (take-add n (m - n) p) ∙ ap (λ k. take k p) at in
    subst (λ h. IfSome h (λ bytes. bytes ≡ take m p)) (sym now) whole

-- the count of faults by whether all was taken
pub counted_short : (p q : List ℕ) (m faults faults' : ℕ) → q ≡ p → m < length q → faults' ≡ faults_after (m == length q) faults → faults' ≡ faults_after false faults
counted_short p q m faults faults' same less is =
    let short : (m == length q) ≡ false = search (arith, less) in
    is ∙ ap (λ b. faults_after b faults) short

pub counted_whole : (p q : List ℕ) (m faults faults' : ℕ) → q ≡ p → m ≤ length q → length p ≤ m → faults' ≡ faults_after (m == length q) faults → faults' ≡ faults_after true faults
counted_whole p q m faults faults' same within whole is =
    let place : m ≡ length q = omega (arith, within, whole, ap length same) in
    let all : (m == length q) ≡ true = search (arith, place) in
    is ∙ ap (λ b. faults_after b faults) all

-- More bytes were written.
pub flushed : (all : Bool) (o : Work) (s : Progress) (n m : ℕ) (word word' : List ℕ) (held held' : Option (List ℕ)) (faults faults' : ℕ) (why end : Option EndKind) → work s n word held faults why end ≡ o → n ≤ m
    → OnTrue all (length s.printed ≤ m) → faults' ≡ faults_after all faults → word' ≡ word → Flushed all o (work s m word' held' faults' why end)
flushed all o s n m word word' held held' faults faults' why end view onward whole counted same =
    let at : n + (m - n) ≡ m = omega (arith, onward) in
    let did : Flushed all (work s n word held faults why end) (work s m word' held' faults' why end) = record {
      session = refl;
      grown = record { rest = take (m - n) (drop n s.printed); whole = ap (λ k. take k s.printed) (sym at) ∙ take-add n (m - n) s.printed };
      part = record { rest = drop m s.printed; whole = sym (take-append-drop m s.printed) };
      whole = all_of all whole;
      counted = counted;
      word = same;
      why = refl;
      end = refl;
    } in
    subst (λ x. Flushed all x (work s m word' held' faults' why end)) view did
  where
    all_of : (all : Bool) → OnTrue all (length s.printed ≤ m) → OnTrue all (take m s.printed ≡ s.printed)
    all_of true within = take_all m s.printed within
    all_of false within = tt

-- The session took an answer.
pub settles : (x : Answer) (o : Work) (s t : Progress) (n : ℕ) (word : List ℕ) (held : Option (List ℕ)) (faults : ℕ) (why end why' end' : Option EndKind) (k : EndKind) (b : Bool) → work s n word held faults why end ≡ o → IsSome o.session.out → t ≡ answered s.out x s → Follows t
    → k ≡ end_by why x → why' ≡ why_by why x → end' ≡ if_ended b k → b ≡ t.ended → Settles x o (work t n word held faults why' end')
settles x o s t n word held faults why end why' end' k b view some took f is_end is_why ends ended =
    subst (λ w. Settles x w (work t n word held faults why' end')) view (record { is = by s.out refl (subst (λ (w : Work). IsSome w.session.out) (sym view) some); follows = f })
  where
    by : (out : Option Ask) → s.out ≡ out → IsSome out → work t n word held faults why' end' ≡ settled x (work s n word held faults why end)
    by None is there = cc
    by (Some q) is there =
        let now : t ≡ answered (Some q) x s = took ∙ ap (λ out. answered out x s) is in
        let over : end' ≡ if_ended (answered (Some q) x s).ended (end_by why x) = ends ∙ (λ i. if_ended ((ended ∙ ap (λ (u : Progress). u.ended) now) i) (is_end i)) in
        (λ i. work (now i) n word held faults (is_why i) (over i)) ∙ ap (λ out. settled x (work (record s { out = out }) n word held faults why end)) (sym is)

-- The session dropped its ask.
pub quits : (o : Work) (s t : Progress) (n : ℕ) (word : List ℕ) (held : Option (List ℕ)) (faults : ℕ) (why end : Option EndKind) (k : EndKind) → work s n word held faults why end ≡ o → t ≡ quitting s.ended s
    → work t n word held faults (Some k) end ≡ record o { session = quitting o.session.ended o.session; why = Some k }
quits o s t n word held faults why end k view is =
    subst (λ (w : Work). work t n word held faults (Some k) end ≡ record w { session = quitting w.session.ended w.session; why = Some k }) view (by s.ended is)
  where
    by : (b : Bool) → t ≡ quitting b s → work t n word held faults (Some k) end ≡ record (work s n word held faults why end) { session = quitting b s; why = Some k }
    by true is = ap (λ u. work u n word held faults (Some k) end) is
    by false is = ap (λ u. work u n word held faults (Some k) end) is

-- ---- it leaves

-- It is to leave, and has gone on: Leave is out.
pub leaves_now : (q : Ask) (old new : Work) → is_leaving old.session ≡ true → Advanced (Ok (next.Ask q)) old new → LeavesNow q old new
leaves_now q old new leaving on =
    let l = on.advances.leaves leaving in
    record {
      leave = l.0;
      is = on.same ∙ ap (λ s. record old { session = s }) (on.advances.is ∙ (λ i. record old.session { printed = l.1 i; out = Some (l.0 i) }));
      follows = on.follows;
    }

-- nothing else comes of its going on
pub leaves_done : {P : Type 0} (old new : Work) → old.session.ended ≡ false → Advanced (Ok next.Done) old new → P
leaves_done old new goes on = absurd (true≢false (sym on.advances.0 ∙ goes))

pub leaves_failed : {P : Type 0} (e : NoMemory) (old new : Work) → is_leaving old.session ≡ true → Advanced (Err e) old new → P
leaves_failed e old new leaving on = absurd (true≢false (sym leaving ∙ on.advances.1))

-- It has quit, and Leave is out.
pub quits_now : (k : EndKind) (q : Ask) (old mid new : Work) → old.session.ended ≡ false → mid ≡ record old { session = quitting old.session.ended old.session; why = Some k } → LeavesNow q mid new → Quits k q old new
quits_now k q old mid new goes is n =
    let at : mid ≡ record old { session = quitting false old.session; why = Some k } = is ∙ ap (λ b. record old { session = quitting b old.session; why = Some k }) goes in
    record { leave = n.leave; is = n.is ∙ ap (λ (w : Work). record w { session = with_leave w.session }) at; follows = n.follows }

-- a session that quit is to leave, and hasn't ended
pub quit_leaves : (k : EndKind) (old mid : Work) → old.session.ended ≡ false → mid ≡ record old { session = quitting old.session.ended old.session; why = Some k } → (mid.session.ended ≡ false) × (is_leaving mid.session ≡ true)
quit_leaves k old mid goes is =
    let at : mid.session ≡ quitting false old.session = ap (λ (w : Work). w.session) is ∙ ap (λ b. quitting b old.session) goes in
    (ap (λ (s : Progress). s.ended) at ∙ goes, ap is_leaving at)
