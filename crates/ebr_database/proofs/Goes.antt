-- A whole that has come so far: what a loop and a chain of calls keep.
use Rattle.std.proofs.Common.{◌≡◌, List, [], ◌++◌, Result, Ok, Err, refl, sym, ap, subst, ◌∙◌, append_assoc}
use Rattle.std.specs.Prelude.{IsErrAnd}
use Rattle.std.proofs.lemmas.Result.{err_from_is_err_and}
use Rattle.ebr_base.specs.declared.code.Code.{Code}
use Rattle.ebr_record.specs.declared.record.Record.{Record}
use Rattle.ebr_record.specs.Keeper.{Keeper}
use Rattle.ebr_database.specs.declared.failure.Failure.{Failure}
use Rattle.ebr_database.specs.declared.failure.Failure.TheVariants.{Refused, Halted}
use Rattle.ebr_database.specs.declared.failure.Halt.{Halt}
use Rattle.ebr_database.specs.declared.failure.Halt.TheVariants.{NoMemory}
use Rattle.ebr_database.specs.Outcome.{Question, Outcome, gives, after, and_then, go_on, then_run}
use Rattle.ebr_database.specs.Shows.{Grew, GaveUp, Said, Shows, Tells}
use Rattle.ebr_database.proofs.Keeping.{grew_same, grew_grew, grew_gave_up, gave_up_more, stays}

-- The whole is what came so far and then the rest, and the records kept have grown by those that came.
pub record Goes {S A : Type 0} (whole rest : Outcome S A) (old now : Keeper) : Type 0 where
  pub made : List Record
  pub asked : List Question
  pub is : whole ≡ after made asked rest
  pub grew : Grew old now made

module _ {S A : Type 0} where
  pub begins : (o : Outcome S A) (old : Keeper) → Goes o o old old
  begins o old = record { made = []; asked = []; is = refl; grew = grew_same old }

  pub says : (s : S) (v : A) (old : Keeper) → Said (gives s v) s old old v
  says s v old = record { state = refl; grew = grew_same old; value = refl }

  pub ends : (whole rest : Outcome S A) (old mid now : Keeper) (s : S) (v : A) → Goes whole rest old mid → Said rest s mid now v → Said whole s old now v
  ends whole rest old mid now s v g e = record {
    state = ap (λ (o : Outcome S A). o.state) g.is ∙ e.state;
    grew = subst (Grew old now) (sym (ap (λ (o : Outcome S A). o.made) g.is)) (grew_grew old mid now g.made rest.made g.grew e.grew);
    value = ap (λ (o : Outcome S A). o.value) g.is ∙ e.value;
  }

  after_after : (m m' : List Record) (q q' : List Question) (o : Outcome S A) → after m q (after m' q' o) ≡ after (m ++ m') (q ++ q') o
  after_after m m' q q' o =
      let outcome : List Record → List Question → Outcome S A = λ l r. record { state = o.state; made = l; asked = r; value = o.value } in
      ap (λ l. outcome l (q ++ (q' ++ o.asked))) (sym (append_assoc m m' o.made)) ∙ ap (λ r. outcome ((m ++ m') ++ o.made) r) (sym (append_assoc q q' o.asked))

-- the exit of a `?` where there was no memory, before anything was kept
module _ {S A : Type 0} (s : S) (k : Keeper) where
  pub wants_memory : (o : Outcome S (Result A Code)) (r : Result A Failure) → IsErrAnd r (λ e. e ≡ Halted NoMemory) → Shows o s k k r
  wants_memory o r h = let p = err_from_is_err_and r h in subst (Shows o s k k) (sym (p.1 ∙ ap (λ e. Err e) p.2)) (stays k o.made)

  pub told_wanting : (o : Outcome S A) (r : Result A Halt) → IsErrAnd r (λ why. why ≡ NoMemory) → Tells o s k k r
  told_wanting o r h = let p = err_from_is_err_and r h in subst (Tells o s k k) (sym (p.1 ∙ ap (λ why. Err why) p.2)) (stays k o.made)

module _ {S T A B : Type 0} where
  pub steps : (whole : Outcome T B) (o : Outcome S A) (k : A → S → Outcome T B) (old mid now : Keeper) (s : S) (v : A) → Goes whole (and_then o k) old mid → Said o s mid now v → Goes whole (k v s) old now
  steps whole o k old mid now s v g e = record {
    made = g.made ++ o.made;
    asked = g.asked ++ o.asked;
    is = g.is ∙ after_after g.made o.made g.asked o.asked (k o.value o.state) ∙ ap (λ x. after (g.made ++ o.made) (g.asked ++ o.asked) (k x o.state)) e.value ∙ ap (λ t. after (g.made ++ o.made) (g.asked ++ o.asked) (k v t)) e.state;
    grew = grew_grew old mid now g.made o.made g.grew e.grew;
  }

  -- one, and then what makes no record
  pub then_gives : (o : Outcome S A) (k : A → S → Outcome T B) (old now : Keeper) (s : S) (v : A) (s' : T) (w : B) → Said o s old now v → k v s ≡ gives s' w → Said (and_then o k) s' old now w
  then_gives o k old now s v s' w h e =
      ends (and_then o k) (k v s) old now now s' w (steps (and_then o k) o k old old now s v (begins (and_then o k) old) h) (subst (λ r. Said r s' now now w) (sym e) (says s' w now))

  -- one that gave up is a whole that gave up
  pub then_gave_up : (o : Outcome S A) (k : A → S → Outcome T B) (old now : Keeper) (why : Halt) → GaveUp old now o.made why → GaveUp old now (and_then o k).made why
  then_gave_up o k old now why h = gave_up_more old now o.made (k o.value o.state).made why h

module _ {S A B : Type 0} where
  -- where the first is refused or gives up, so is the whole
  pub fails : (whole : Outcome S (Result B Code)) (o : Outcome S (Result A Code)) (k : A → S → Outcome S (Result B Code)) (old mid now : Keeper) (s : S) (e : Failure) → Goes whole (then_run o k) old mid → Shows o s mid now (Err e) → Shows whole s old now (Err e)
  fails whole o k old mid now s (Refused code) g h = ends whole (gives s (Err code)) old now now s (Err code) (steps whole o (go_on k) old mid now s (Err code) g h) (says s (Err code) now)
  fails whole o k old mid now s (Halted why) g h = subst (λ l. GaveUp old now l why) (sym (ap (λ (r : Outcome S (Result B Code)). r.made) g.is)) (grew_gave_up old mid now g.made _ why g.grew (gave_up_more mid now o.made _ why h))

  -- the first has ended, and the second is the rest
  pub goes_on : (whole : Outcome S (Result B Code)) (o : Outcome S (Result A Code)) (k : A → S → Outcome S (Result B Code)) (old mid now : Keeper) (s : S) (a : A) → Goes whole (then_run o k) old mid → Said o s mid now (Ok a) → Goes whole (k a s) old now
  goes_on whole o k old mid now s a g h = steps whole o (go_on k) old mid now s (Ok a) g h

module _ {S A : Type 0} where
  pub shown : (whole rest : Outcome S (Result A Code)) (old mid now : Keeper) (s : S) (r : Result A Failure) → Goes whole rest old mid → Shows rest s mid now r → Shows whole s old now r
  shown whole rest old mid now s (Ok a) g h = ends whole rest old mid now s (Ok a) g h
  shown whole rest old mid now s (Err (Refused code)) g h = ends whole rest old mid now s (Err code) g h
  shown whole rest old mid now s (Err (Halted why)) g h = subst (λ l. GaveUp old now l why) (sym (ap (λ (r : Outcome S (Result A Code)). r.made) g.is)) (grew_gave_up old mid now g.made rest.made why g.grew h)

  pub gave_up : (whole rest : Outcome S A) (old mid now : Keeper) (why : Halt) → Goes whole rest old mid → GaveUp mid now rest.made why → GaveUp old now whole.made why
  gave_up whole rest old mid now why g h = subst (λ l. GaveUp old now l why) (sym (ap (λ (r : Outcome S A). r.made) g.is)) (grew_gave_up old mid now g.made rest.made why g.grew h)

  pub tells_whole : (whole rest : Outcome S A) (old mid now : Keeper) (s : S) (r : Result A Halt) → Goes whole rest old mid → Tells rest s mid now r → Tells whole s old now r
  tells_whole whole rest old mid now s (Ok a) g h = ends whole rest old mid now s a g h
  tells_whole whole rest old mid now s (Err why) g h = gave_up whole rest old mid now why g h

  -- want of memory on the way
  pub gives_up : (whole rest : Outcome S A) (old now : Keeper) → Goes whole rest old now → GaveUp old now whole.made NoMemory
  gives_up whole rest old now g = gave_up whole rest old now now NoMemory g (stays now rest.made)
