-- A change starts, or is refused.
use Rattle.std.proofs.Common.{◌≡◌, Bool, true, false, List, map, Result, Ok, Err, refl, sym, ap, ◌∙◌}
use Rattle.std.proofs.lemmas.Result.{IfOk-at_ok}
use Rattle.ebr_base.specs.declared.code.Code.{Code}
use Rattle.ebr_base.specs.declared.code.Code.TheVariants.{Ora}
use Rattle.ebr_base.specs.declared.code.Stop.{Stop}
use Rattle.ebr_base.specs.declared.code.Stop.TheVariants.{Raised, NoMemory}
use Rattle.ebr_base.specs.declared.numbers.EditionNo.{EditionNo}
use Rattle.ebr_base.specs.declared.row.TxId.{TxId}
use Rattle.ebr_base.specs.declared.value.Value.{Value}
use Rattle.ebr_base.specs.Answers.{Answers}
use Rattle.ebr_exprtree.specs.declared.op.Op.{Op}
use Rattle.ebr_ast.specs.declared.kinds.Timing.TheVariants as timing
use Rattle.ebr_ast.specs.declared.sql.SqlTree.{SqlTree}
use Rattle.ebr_ast.specs.declared.view.EditionView.{EditionView}
use Rattle.ebr_sqlcheck.specs.Checked.{must, on}
use Rattle.ebr_tx.specs.Data.{Data}
use Rattle.ebr_dml.specs.Steps.{DmlState, started}
use Rattle.ebr_exec.specs.Places.{Names, Place}
use Rattle.ebr_statements.specs.declared.ready.Ready.{Ready as Held}
use Rattle.ebr_statements.specs.declared.start.Work.{Work as Triggers}
use Rattle.ebr_bodies.specs.Ready.{Ready, ready_at}
use Rattle.ebr_bodies.specs.Statements.{Start, is_appliable, start_of}
use Rattle.ebr_statements.specs.inside.Held.{GiveReady, ServesAt, Starts, ready_of, started_with}
use Rattle.ebr_statements.proofs.Targets.{Begins, start_in}

-- ---- the triggers of both timings

module _ (view : EditionNo → EditionView) (o : Op) (before after : Result (List Ready) Code) where
  pub fails_before : (stop : Stop) → GiveReady view (Err stop) before → ServesAt view o (Err stop) before after
  fails_before (Raised code) h = ap (on (λ b. after)) h
  fails_before NoMemory h = tt

  pub fails_after : (hs : List Held) (stop : Stop) → GiveReady view (Ok hs) before → GiveReady view (Err stop) after → ServesAt view o (Err stop) before after
  fails_after hs (Raised code) b h = ap (on (λ x. after)) b.0 ∙ h
  fails_after hs NoMemory b h = tt

  pub serves_both : (did : Op) (hs hs' : List Held) → did ≡ o → GiveReady view (Ok hs) before → GiveReady view (Ok hs') after → ServesAt view o (Ok (record { operation = did; before = hs; after = hs' })) before after
  serves_both did hs hs' is b a =
      (map ready_of hs, map ready_of hs', b.0, a.0, record { operation = is; before_is = refl; after_is = refl; before_served = b.1; after_served = a.1 })

-- ---- the start

abbrev code_or : {A : Type 0} → Code → Result A Code → Code
code_or c (Ok a) = c
code_or c (Err code) = code

module _ (names : Names) (p : Place) (s : SqlTree) (binds : List Value) (d : Data) (v : EditionView) (seen : v ≡ names.view p.edition) where
  abbrev before : Result (List Ready) Code
  before = ready_at names p timing.Before s

  abbrev after : Result (List Ready) Code
  after = ready_at names p timing.After s

  -- behind ORA-04043
  abbrev behind : Result DmlState Code → Result Start Code
  behind r = on (λ st. on (λ b. on (start_of st b) after) before) r

  abbrev tested : Bool → Result Start Code
  tested b = behind (on (λ u. started d p.tx (names.view p.edition) s binds) (must (Ora 4043) b))

  pub not_appliable : is_appliable v s ≡ false → started_with names p s binds d ≡ Err (Ora 4043)
  not_appliable e = ap tested (ap (λ x. is_appliable x s) (sym seen) ∙ e)

  module _ (can : is_appliable v s ≡ true) where
    behind_test : started_with names p s binds d ≡ behind (started d p.tx v s binds)
    behind_test = ap tested (ap (λ x. is_appliable x s) (sym seen) ∙ can) ∙ ap (λ x. behind (started d p.tx x s binds)) (sym seen)

    pub no_start : (view : EditionNo → EditionView) (o : Op) (stop : Stop) → Answers (Err stop) (started d p.tx v s binds) → Starts view o (Err stop) (started_with names p s binds d)
    no_start view o (Raised code) h = behind_test ∙ ap behind h
    no_start view o NoMemory h = tt

    module _ (st : DmlState) (started_is : started d p.tx v s binds ≡ Ok st) where
      with_rows : started_with names p s binds d ≡ behind (Ok st)
      with_rows = behind_test ∙ ap behind started_is

      pub no_triggers : (view : EditionNo → EditionView) (o : Op) (stop : Stop) → ServesAt view o (Err stop) before after → Starts view o (Err stop) (started_with names p s binds d)
      no_triggers view o NoMemory h = tt
      no_triggers view o (Raised code) h = with_rows ∙ fails before h
        where
          fails : (b : Result (List Ready) Code) → on (λ x. after) b ≡ Err code → on (λ x. on (start_of st x) after) b ≡ Err code
          fails (Ok x) e = ap (on (start_of st x)) e
          fails (Err c) e = ap (λ y. Err y) (ap (code_or c) e)

      pub starts : (view : EditionNo → EditionView) (o : Op) (w : Triggers) → ServesAt view o (Ok w) before after → Starts view o (Ok (record { rows = st; work = w })) (started_with names p s binds d)
      starts view o w h = (
        record { standing = st; before = h.0; after = h.1 },
        with_rows ∙ ap (λ b. on (λ x. on (start_of st x) after) b) h.2 ∙ ap (λ a. on (start_of st h.0) a) h.3,
        refl,
        h.4,
      )

-- ---- what it starts with

pub begun_with : (v : EditionView) (d : Data) (t : TxId) (s : SqlTree) (binds : List Value) (st : DmlState) → started d t v s binds ≡ Ok st → Begins v t s st
begun_with v d t s binds st e = IfOk-at_ok (Begins v t s) e (start_in v d t s binds)
