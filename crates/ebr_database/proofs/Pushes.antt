-- An autonomous transaction is opened, or refused.
use Rattle.std.proofs.Common.{◌≡◌, ℕ, Option, Some, None, Ok, Err, sym, ap, ◌∙◌}
use Rattle.std.specs.Prelude.{Result, OnOk, OnErr}
use Rattle.ebr_base.specs.Answers.{Answers}
use Rattle.ebr_base.specs.declared.code.Code.{Code}
use Rattle.ebr_base.specs.declared.code.Stop.{Stop}
use Rattle.ebr_base.specs.declared.code.Stop.TheVariants.{Raised, NoMemory}
use Rattle.ebr_base.specs.declared.numbers.SessionId.{SessionId}
use Rattle.ebr_tx.specs.Data.{Data}
use Rattle.ebr_tx.specs.Calls.{unless_refused, push_refusal, after_push}
use Rattle.ebr_database.specs.Base.{Base}
use Rattle.ebr_database.specs.Outcome.{Outcome, gives}
use Rattle.ebr_database.specs.Transact.{Done, done, pushed, push}
use Rattle.ebr_database.specs.Shows.{LeavesOr}

none_refused : (refusal : Option Code) → unless_refused refusal (tt {0}) ≡ Ok tt → refusal ≡ None
none_refused None e = cc
none_refused (Some code) e = cc

refused_by : (refusal : Option Code) (code : Code) → unless_refused refusal (tt {0}) ≡ Err code → refusal ≡ Some code
refused_by None code e = cc
refused_by (Some other) code e = cc

module _ (s : SessionId) (d d' : Data) where
  abbrev base : ℕ → Base
  base used = record { data_now = d; used = used }

  abbrev given : Done → Data → ℕ → Outcome Base Done
  given a x used = gives (record { data_now = x; used = used }) a

  pub push_leaves : (r : Result (Unit {0}) Stop) → Answers r (unless_refused (push_refusal d s) tt) → OnOk r (d' ≡ after_push d s) → OnErr r (d' ≡ d) → LeavesOr (push s) d d' r
  push_leaves (Ok u) answer ok err = record { is = λ used. ap (λ refusal. pushed refusal s (base used)) (none_refused (push_refusal d s) answer) ∙ ap (λ x. given done x used) (sym ok) }
  push_leaves (Err (Raised code)) answer ok err = record { is = λ used. ap (λ refusal. pushed refusal s (base used)) (refused_by (push_refusal d s) code answer) ∙ ap (λ x. given (Err code) x used) (sym err) }
  push_leaves (Err NoMemory) answer ok err = tt
