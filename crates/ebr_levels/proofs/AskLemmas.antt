-- Inside a body: the asks for transactions, by what their calls say.
use Rattle.std.proofs.Common.{◌≡◌, ℕ, ◌+◌, ◌-◌, ◌<◌, Bool, true, List, Option, Some, None, Ok, Err, refl, sym, ap, ◌∙◌}
use Rattle.std.specs.Prelude.{Result, OnErr}
use Rattle.std.proofs.lemmas.Bool.{both_ways}
use Rattle.ebr_base.specs.declared.code.Code.{Code}
use Rattle.ebr_base.specs.declared.numbers.SessionId.{SessionId}
use Rattle.ebr_base.specs.declared.row.TxId.{TxId}
use Rattle.ebr_tx.specs.Data.{Data}
use Rattle.ebr_tx.specs.Calls.{after_pop, after_push, push_refusal}
use Rattle.ebr_record.specs.Keeper.{Keeper}
use Rattle.ebr_database.specs.declared.failure.Failure.{Failure}
use Rattle.ebr_database.specs.declared.failure.Failure.TheVariants.{Refused, Halted}
use Rattle.ebr_database.specs.Base.{Base}
use Rattle.ebr_database.specs.Database.{is_done}
use Rattle.ebr_database.specs.Outcome.{Outcome, gives}
use Rattle.ebr_database.specs.Transact.{Done, back_to, commit, pop, push, pushed, roll_back, savepoint}
use Rattle.ebr_database.specs.Shows.{Leaves as Left, Shows, base_of}
use Rattle.ebr_seats.proofs.Replies.{commit_settles}
use Rattle.ebr_levels.specs.Keeps.{UnderChange}
use Rattle.ebr_levels.specs.Levels.{Inside, above}
use Rattle.ebr_levels.proofs.EndLemmas.{after_closed}
use Rattle.ebr_levels.proofs.InsideLemmas.{inside_equal, after_opened, after_rolled_back, after_saved, after_settled, after_went_back, few_above}

data_left : (o p : Outcome Base Done) → o ≡ p → p.state.data_now ≡ o.state.data_now
data_left o p is = ap (λ (x : Outcome Base Done). x.state.data_now) (sym is)

pub popped_data : (d d' : Data) (s : SessionId) (failed : Bool) (r : Done) → Left (pop s failed) d d' r → d' ≡ after_pop d s
popped_data d d' s failed r left = data_left _ _ (left.is 0)

module _ (a d d' : Data) (t : TxId) (under : UnderChange) (n : ℕ) (some : 0 < n) (i : Inside a t under n d) where
  abbrev u : TxId
  u = above t n

  pub inside_rolled_back : (r : Done) → Left (roll_back u) d d' r → Inside a t under n d'
  inside_rolled_back r left = after_rolled_back a d d' t under n some i (data_left _ _ (left.is 0))

  pub inside_saved : (name : List ℕ) (r : Done) → Left (savepoint u name) d d' r → Inside a t under n d'
  inside_saved name r left = after_saved a d d' t under n some i name (data_left _ _ (left.is 0))

  pub inside_went_back : (name : List ℕ) (r : Done) → Left (back_to u name) d d' r → Inside a t under n d'
  inside_went_back name r left = after_went_back a d d' t under n some i name (data_left _ _ (left.is 0))

  pub inside_popped : (failed : Bool) (r : Done) → Left (pop t.session failed) d d' r → Inside a t under (n - 1) d'
  inside_popped failed r left = after_closed a d d' t under n some i (data_left _ _ (left.is 0))

  -- whatever a commit answers
  pub inside_committed : (k k' : Keeper) (r : Result (Unit {0}) Failure) → Shows (commit u (base_of d k)) (base_of d' k') k k' r → OnErr r (d' ≡ d) → Inside a t under n d'
  inside_committed k k' (Ok x) said same = after_settled a d d' t under n some i (sym (ap (λ (b : Base). b.data_now) said.state) ∙ commit_settles u (base_of d k) x said.value)
  inside_committed k k' (Err (Refused code)) said same = inside_equal a d d' t under n same i
  inside_committed k k' (Err (Halted why)) said same = inside_equal a d d' t under n same i

-- ---- one more

abbrev base : Data → Base
base d = record { data_now = d; used = 0 }

when_pushed : (o : Option Code) (d d' : Data) (s : SessionId) → pushed o s (base d) ≡ gives (base d') (Ok (tt {0})) → (o ≡ None) × (d' ≡ after_push d s)
when_pushed None d d' s is = (refl, data_left _ _ is)
when_pushed (Some code) d d' s is = absurd (both_ways true (ap (λ (x : Outcome Base Done). is_done x.value) (sym is)) refl)

module _ (a d d' : Data) (t : TxId) (under : UnderChange) (n : ℕ) (i : Inside a t under n d) (left : Left (push t.session) d d' (Ok tt)) where
  pub inside_few : t.depth + n < 50
  inside_few = few_above a d t under n i (when_pushed (push_refusal d t.session) d d' t.session (left.is 0)).0

  pub inside_pushed : Inside a t under (n + 1) d'
  inside_pushed = after_opened a d t under n i d' (when_pushed (push_refusal d t.session) d d' t.session (left.is 0)).1
