-- Two outcomes in two worlds that are the same but for how much is kept, where the catalogues agree on what the first one asks and
-- EBR-0042 arises in neither.
use Rattle.std.proofs.Common.{◌≡◌, ℕ, Bool, true, false, List, [], ◌++◌, Result, Ok, Err, refl, sym, ap, subst, ◌∙◌}
use Rattle.std.specs.Prelude.{if◌then◌else◌}
use Rattle.ebr_base.specs.declared.code.Code.{Code}
use Rattle.ebr_database.specs.Outcome.{Question, Outcome, gives, after, and_then, go_on, then_run}
use Rattle.ebr_exec.specs.Places.{Names}
use Rattle.ebr_bodies.specs.Agree.{AnswerAlike, NeverFull}
use Rattle.ebr_bodies.proofs.Questions.{alike_front, alike_back, never_front, never_back}

-- the same but for the bytes that the records take: `W` puts another count of them into a state
pub record Same {S A : Type 0} (W : ℕ → S → S) (o p : Outcome S A) : Type 0 where
  pub used : ℕ
  pub state : p.state ≡ W used o.state
  pub made : o.made ≡ p.made
  pub value : o.value ≡ p.value

pub record Apart {S A : Type 0} (m n : Names) (W : ℕ → S → S) (o p : Outcome S A) : Type 0 where
  pub by : AnswerAlike m n o.asked → NeverFull o.asked → NeverFull p.asked → Same W o p

module _ (m n : Names) where
  module _ {S A : Type 0} (W : ℕ → S → S) where
    -- nothing is asked
    pub still : (s : S) (u : ℕ) (v : A) → Apart m n W (gives s v) (gives (W u s) v)
    still s u v = record { by = λ h f g. record { used = u; state = refl; made = refl; value = refl } }

    pub if_either : (x : Bool) (o p q r : Outcome S A) → Apart m n W o q → Apart m n W p r → Apart m n W (if x then o else p) (if x then q else r)
    if_either true o p q r a b = a
    if_either false o p q r a b = b

    -- behind questions, which may tell something of the catalogues
    pub behind : (asked : List Question) (o p : Outcome S A) → (AnswerAlike m n asked → Apart m n W o p) → Apart m n W (after [] asked o) (after [] asked p)
    behind asked o p x = record {
      by = λ h f g.
          let e : Same W o p = (x (alike_front m n asked o.asked h)).by (alike_back m n asked o.asked h) (never_back asked o.asked f) (never_back asked p.asked g) in
          record { used = e.used; state = e.state; made = e.made; value = e.value };
    }

  module _ {S T A B : Type 0} (W : ℕ → S → S) (V : ℕ → T → T) where
    -- one behind the other
    pub both : (o p : Outcome S A) (k l : A → S → Outcome T B) → Apart m n W o p → ((v : A) (s : S) (u : ℕ) → Apart m n V (k v s) (l v (W u s))) → Apart m n V (and_then o k) (and_then p l)
    both o p k l x y = record {
      by = λ h f g.
          let e : Same W o p = x.by (alike_front m n o.asked (k o.value o.state).asked h) (never_front o.asked (k o.value o.state).asked f) (never_front p.asked (l p.value p.state).asked g) in
          let same : l p.value p.state ≡ l o.value (W e.used o.state) = ap (λ a. l a p.state) (sym e.value) ∙ ap (l o.value) e.state in
          let never : NeverFull (l o.value (W e.used o.state)).asked = subst (λ (r : Outcome T B). NeverFull r.asked) same (never_back p.asked (l p.value p.state).asked g) in
          let d : Same V (k o.value o.state) (l o.value (W e.used o.state)) = (y o.value o.state e.used).by (alike_back m n o.asked (k o.value o.state).asked h) (never_back o.asked (k o.value o.state).asked f) never in
          let d' : Same V (k o.value o.state) (l p.value p.state) = subst (λ r. Same V (k o.value o.state) r) (sym same) d in
          record { used = d'.used; state = d'.state; made = ap (λ c. c ++ (k o.value o.state).made) e.made ∙ ap (λ c. p.made ++ c) d'.made; value = d'.value };
    }

  module _ {S A B : Type 0} (W : ℕ → S → S) where
    pub goes : (k l : A → S → Outcome S (Result B Code)) → ((v : A) (s : S) (u : ℕ) → Apart m n W (k v s) (l v (W u s))) → (r : Result A Code) (s : S) (u : ℕ) → Apart m n W (go_on k r s) (go_on l r (W u s))
    goes k l y (Ok a) s u = y a s u
    goes k l y (Err code) s u = still W s u (Err code)

    pub runs : (o p : Outcome S (Result A Code)) (k l : A → S → Outcome S (Result B Code)) → Apart m n W o p → ((v : A) (s : S) (u : ℕ) → Apart m n W (k v s) (l v (W u s))) → Apart m n W (then_run o k) (then_run p l)
    runs o p k l x y = both W W o p (go_on k) (go_on l) x (goes k l y)
