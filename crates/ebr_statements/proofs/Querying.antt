-- A query's rows, and its refusals.
use Rattle.std.proofs.Common.{◌≡◌, ℕ, Bool, true, false, List, Ok, Err, sym, subst, ap, ◌∙◌}
use Rattle.std.specs.Prelude.{Result}
use Rattle.ebr_base.specs.declared.code.Code.{Code}
use Rattle.ebr_base.specs.declared.code.Code.TheVariants.{Ebr}
use Rattle.ebr_base.specs.declared.code.Stop.{Stop}
use Rattle.ebr_base.specs.declared.code.Stop.TheVariants.{Raised, NoMemory}
use Rattle.ebr_base.specs.declared.row.TxId.{TxId}
use Rattle.ebr_base.specs.declared.value.Value.{Value}
use Rattle.ebr_asks.specs.declared.answer.Answer.TheVariants.{Rows}
use Rattle.ebr_ast.specs.declared.query.Query.{Query as Select}
use Rattle.ebr_ast.specs.declared.view.EditionView.{EditionView}
use Rattle.ebr_sqlcheck.specs.Checked.{must, on}
use Rattle.ebr_tx.specs.Data.{Data}
use Rattle.ebr_tx.specs.Calls.{after_begin}
use Rattle.ebr_query.specs.Queries.{AddsLocks, Answered, Query}
use Rattle.ebr_database.specs.Storable.{AllStorable}
use Rattle.ebr_database.proofs.AllStays.{begun}
use Rattle.ebr_exec.specs.Places.{Place, Under}
use Rattle.ebr_exec.specs.Shows.{Runs}
use Rattle.ebr_exec.specs.Statements.{Ran, carries, query_ran}
use Rattle.ebr_exec.specs.Over.{Over}
use Rattle.ebr_exec.proofs.Undone.{over_over, over_begun, over_locks}
use Rattle.ebr_statements.specs.inside.Given.{rows_within, GivesRows}

abbrev ran : List (List Value) → Data → Ran
ran rows d = record { answer = Rows rows; data_after = d }

abbrev of_rows : List Under → ℕ → Data → Result (List (List Value)) Code → Result Ran Code
of_rows changing room d r = on (λ rows. on (λ u. Ok (ran rows d)) (must (Ebr 11) (carries changing room rows))) r

abbrev rows_or : List (List Value) → Result (List (List Value)) Code → List (List Value)
rows_or rows (Ok x) = x
rows_or rows (Err code) = rows

abbrev code_or : Code → Result (List (List Value)) Code → Code
code_or c (Ok x) = c
code_or c (Err x) = x

module _ (changing : List Under) (room : ℕ) (d : Data) where
  gives_rows : (r : Result (List (List Value)) Code) (rows : List (List Value)) → on (rows_within changing room) r ≡ Ok rows → of_rows changing room d r ≡ Ok (ran rows d)
  gives_rows (Err code) rows e = absurd cc
  gives_rows (Ok x) rows e = by (carries changing room x) e
    where
      by : (b : Bool) → on (λ u. Ok x) (must (Ebr 11) b) ≡ Ok rows → on (λ u. Ok (ran x d)) (must (Ebr 11) b) ≡ Ok (ran rows d)
      by true e = ap (λ y. Ok (ran y d)) (ap (rows_or rows) e)
      by false e = absurd cc

  gives_code : (r : Result (List (List Value)) Code) (code : Code) → on (rows_within changing room) r ≡ Err code → of_rows changing room d r ≡ Err code
  gives_code (Err other) code e = ap (λ x. Err x) (ap (code_or code) e)
  gives_code (Ok x) code e = by (carries changing room x) e
    where
      by : (b : Bool) → on (λ u. Ok x) (must (Ebr 11) b) ≡ Err code → on (λ u. Ok (ran x d)) (must (Ebr 11) b) ≡ Err code
      by true e = absurd cc
      by false e = ap (λ y. Err y) (ap (code_or code) e)

module _ (changing : List Under) (room : ℕ) (p : Place) (own : p.changing ≡ changing) (a : Answered) (d : Data) where
  answers_rows : (rows : List (List Value)) → GivesRows changing room a d (Ok rows) → query_ran p room a ≡ Ok (record { answer = Rows rows; data_after = d })
  answers_rows rows h = ap (λ c. of_rows c room a.after a.answer) own ∙ gives_rows changing room a.after a.answer rows h.0 ∙ ap (λ x. Ok (ran rows x)) h.1

  answers_code : (code : Code) → GivesRows changing room a d (Err (Raised code)) → query_ran p room a ≡ Err code
  answers_code code h = ap (λ c. of_rows c room a.after a.answer) own ∙ gives_code changing room a.after a.answer code h

module _ (q : Select) (t : TxId) (v : EditionView) (binds : List Value) (changing : List Under) (room : ℕ) (old d1 d2 : Data) (is : d1 ≡ after_begin old t) where
  pub query_done : (rows : List (List Value)) → GivesRows changing room (Query q d1 t v binds) d2 (Ok rows)
      → (p : Place) → p.changing ≡ changing → Runs (Ok (Rows rows)) old d2 (query_ran p room (Query q (after_begin old t) t v binds))
  query_done rows h p own = answers_rows changing room p own (Query q (after_begin old t) t v binds) d2 rows (subst (λ d. GivesRows changing room (Query q d t v binds) d2 (Ok rows)) is h)

  pub query_refused : (stop : Stop) (new : Data) → GivesRows changing room (Query q d1 t v binds) d2 (Err stop) → new ≡ old
      → (p : Place) → p.changing ≡ changing → Runs (Err stop) old new (query_ran p room (Query q (after_begin old t) t v binds))
  query_refused (Raised code) new h e p own =
      (answers_code changing room p own (Query q (after_begin old t) t v binds) d2 code (subst (λ d. GivesRows changing room (Query q d t v binds) d2 (Err (Raised code))) is h), e)
  query_refused NoMemory new h e p own = e

pub over_query : (old d1 d2 : Data) (t : TxId) → d1 ≡ after_begin old t → AddsLocks d1 t d2 → Over old t d2
over_query old d1 d2 t is l = over_over old d1 d2 t (subst (Over old t) (sym is) (over_begun old t)) (over_locks d1 d2 t l)

pub query_storable : (old d1 d2 : Data) (t : TxId) → d1 ≡ after_begin old t → AddsLocks d1 t d2 → AllStorable old → AllStorable d2
query_storable old d1 d2 t is l all = subst AllStorable (sym l.is) (subst AllStorable (sym is) (begun old t all))
