-- Histories with one more entry.
use Rattle.std.specs.Prelude.{not}
use Rattle.std.proofs.Common.{◌≡◌, Bool, true, false, ◌||◌, ◌&&◌, List, [], ◌∷◌, ◌++◌, refl, sym, ap, ◌∙◌, subst, append_assoc}
use Rattle.ebr_asks.specs.declared.ask.Ask.TheVariants.{Leave}
use Rattle.ebr_asks.specs.declared.answer.Answer.{Answer}
use Rattle.ebr_asks.specs.declared.answer.Answer.TheVariants.{DiskFault, NoMemory, Stopped}
use Rattle.ebr_asks.specs.declared.entry.Entry.{Entry}
use Rattle.ebr_database.specs.Database.{Database}
use Rattle.ebr_core.specs.Machine.{Reply}
use Rattle.ebr_core.specs.History.{After, AllStopped, Legal, Answered, IsLive, is_idle, is_light, left_by, next, wants}
use Rattle.ebr_core.specs.Engine.{gives_up, has_given_up, is_last}

pub After-append : (db : Database) (h : List Entry) (x : Entry) → After db (h ++ x ∷ []) ≡ next (After db h) x
After-append db [] x = refl
After-append db (y ∷ h) x = After-append (next db y) h x

-- an answer that is the reply makes no idle entry
pub not_idle : (x : Entry) → is_last x.answer ≡ false → is_idle x ≡ false
not_idle x = by x.answer
  where
    by : (a : Answer) → is_last a ≡ false → (wants a && is_light x.ask) ≡ false
    by DiskFault last = refl
    by NoMemory last = cc
    by a last = refl

-- nor one with which the engine gives up
gave_up_not_idle : (x : Entry) → gives_up x ≡ true → is_idle x ≡ false
gave_up_not_idle x is = by (is_last x.answer) (is_idle x) is
  where
    by : (a b : Bool) → (a && not b) ≡ true → b ≡ false
    by true true is = cc
    by true false is = refl
    by false b is = cc

pub no_last : (x : Entry) → is_last x.answer ≡ false → gives_up x ≡ false
no_last x last = ap (λ b. b && not (is_idle x)) last

pub idle_goes : (x : Entry) → is_idle x ≡ true → gives_up x ≡ false
idle_goes x idle = ap (λ b. is_last x.answer && not b) idle ∙ and_false (is_last x.answer)
  where
    and_false : (b : Bool) → (b && false) ≡ false
    and_false true = refl
    and_false false = refl

-- what an entry leaves that is not idle, ..
pub next_made : (db : Database) (x : Entry) → is_idle x ≡ false → next db x ≡ (Reply db x.session x.ask).database
next_made db x is = ap (λ b. left_by b db (Reply db x.session x.ask).database) is

-- .. and one that is
pub next_idle : (db : Database) (x : Entry) → is_idle x ≡ true → next db x ≡ db
next_idle db x is = ap (λ b. left_by b db (Reply db x.session x.ask).database) is

answered : (a reply : Answer) (on stopped : Type 0) → is_last a ≡ false → a ≡ reply → on → Answered false a reply on stopped
answered DiskFault reply on stopped last same goes = cc
answered NoMemory reply on stopped last same goes = cc
answered a reply on stopped last same goes = (same, goes)

ended : (a reply : Answer) (on stopped : Type 0) → is_last a ≡ true → stopped → Answered false a reply on stopped
ended DiskFault reply on stopped last goes = goes
ended NoMemory reply on stopped last goes = goes
ended a reply on stopped last goes = cc

is_last_of : (x : Entry) → gives_up x ≡ true → is_last x.answer ≡ true
is_last_of x is = by (is_last x.answer) (is_idle x) is
  where
    by : (a b : Bool) → (a && not b) ≡ true → a ≡ true
    by true b is = refl
    by false b is = cc

module _ (db : Database) (h : List Entry) (x : Entry) (live : IsLive (After db h) x.session) where
  -- an entry with the machine's reply
  pub goes_on : ((more : List Entry) → Legal (After db h) more → Legal db (h ++ more)) → is_last x.answer ≡ false → x.answer ≡ (Reply (After db h) x.session x.ask).answer
      → (more : List Entry) → Legal (next (After db h) x) more → Legal db ((h ++ x ∷ []) ++ more)
  goes_on legal last same more goes =
      let legal_so : Legal (After db h) (x ∷ more) = (live, subst (λ b. Answered b x.answer (Reply (After db h) x.session x.ask).answer (Legal (next (After db h) x) more) (AllStopped (next (After db h) x) more)) (sym (not_idle x last)) (answered x.answer _ _ _ last same goes)) in
      subst (Legal db) (sym (append_assoc h (x ∷ []) more)) (legal (x ∷ more) legal_so)

  -- one for which there was no memory, and that leaves all as it was
  pub passes_by : ((more : List Entry) → Legal (After db h) more → Legal db (h ++ more)) → is_idle x ≡ true
      → (more : List Entry) → Legal (next (After db h) x) more → Legal db ((h ++ x ∷ []) ++ more)
  passes_by legal idle more goes =
      let legal_so : Legal (After db h) (x ∷ more) = (live, subst (λ b. Answered b x.answer (Reply (After db h) x.session x.ask).answer (Legal (next (After db h) x) more) (AllStopped (next (After db h) x) more)) (sym idle) goes) in
      subst (Legal db) (sym (append_assoc h (x ∷ []) more)) (legal (x ∷ more) legal_so)

  -- one with which the engine gives up
  pub gave_up : ((more : List Entry) → Legal (After db h) more → Legal db (h ++ more)) → gives_up x ≡ true
      → (more : List Entry) → AllStopped (next (After db h) x) more → Legal db ((h ++ x ∷ []) ++ more)
  gave_up legal last more goes =
      let legal_so : Legal (After db h) (x ∷ more) = (live, subst (λ b. Answered b x.answer (Reply (After db h) x.session x.ask).answer (Legal (next (After db h) x) more) (AllStopped (next (After db h) x) more)) (sym (gave_up_not_idle x last)) (ended x.answer _ _ _ (is_last_of x last) goes)) in
      subst (Legal db) (sym (append_assoc h (x ∷ []) more)) (legal (x ∷ more) legal_so)

  -- and one behind it
  pub is_stopped : ((more : List Entry) → AllStopped (After db h) more → Legal db (h ++ more)) → x.ask ≡ Leave → x.answer ≡ Stopped
      → (more : List Entry) → AllStopped (next (After db h) x) more → Legal db ((h ++ x ∷ []) ++ more)
  is_stopped legal ask answer more goes =
      subst (Legal db) (sym (append_assoc h (x ∷ []) more)) (legal (x ∷ more) (live, ask, answer, goes))

or_false : (b : Bool) → (b || false) ≡ b
or_false true = refl
or_false false = refl

or_more : (a b c d : Bool) → d ≡ (b || c) → (a || d) ≡ ((a || b) || c)
or_more true b c d is = refl
or_more false b c d is = is

given_up-append : (h : List Entry) (x : Entry) → has_given_up (h ++ x ∷ []) ≡ (has_given_up h || gives_up x)
given_up-append [] x = or_false (gives_up x)
given_up-append (y ∷ h) x = or_more (gives_up y) (has_given_up h) (gives_up x) _ (given_up-append h x)

or_right_true : (b : Bool) → (b || true) ≡ true
or_right_true true = refl
or_right_true false = refl

pub never_given_up : (h : List Entry) (x : Entry) → has_given_up h ≡ false → gives_up x ≡ false → has_given_up (h ++ x ∷ []) ≡ false
never_given_up h x before now = given_up-append h x ∙ ap (λ b. b || gives_up x) before ∙ now

pub given_up_now : (h : List Entry) (x : Entry) → gives_up x ≡ true → has_given_up (h ++ x ∷ []) ≡ true
given_up_now h x now = given_up-append h x ∙ ap (λ b. has_given_up h || b) now ∙ or_right_true (has_given_up h)

pub given_up_before : (h : List Entry) (x : Entry) → has_given_up h ≡ true → has_given_up (h ++ x ∷ []) ≡ true
given_up_before h x before = given_up-append h x ∙ ap (λ b. b || gives_up x) before
