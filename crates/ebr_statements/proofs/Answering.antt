-- What the asks of a body are answered.
use Rattle.std.proofs.Common.{◌≡◌, ℕ, true, false, Result, Ok, Err, refl, sym, ap, subst, ◌∙◌}
use Rattle.std.specs.Prelude.{Bool, if◌then◌else◌}
use Rattle.ebr_base.specs.declared.code.Code.{Code}
use Rattle.ebr_base.specs.declared.row.TxId.{TxId}
use Rattle.ebr_asks.specs.declared.ask.Ask.{Ask}
use Rattle.ebr_asks.specs.declared.ask.Ask.TheVariants as ask
use Rattle.ebr_asks.specs.declared.answer.Answer.{Answer}
use Rattle.ebr_tx.specs.Data.{Data}
use Rattle.ebr_record.specs.Keeper.{Keeper}
use Rattle.ebr_database.specs.declared.failure.Failure.{Failure}
use Rattle.ebr_database.specs.declared.failure.Failure.TheVariants.{Refused, Halted}
use Rattle.ebr_database.specs.Base.{Base}
use Rattle.ebr_database.specs.Database.{as_answer}
use Rattle.ebr_database.specs.Outcome.{Outcome, gives}
use Rattle.ebr_database.specs.Shows.{Grew, Leaves, Shows, Tells, base_of}
use Rattle.ebr_database.specs.Transact.{Done, pop}
use Rattle.ebr_database.proofs.Goes.{says}
use Rattle.ebr_database.proofs.Keeping.{grew_same}
use Rattle.ebr_exec.specs.Statements.{refused}
use Rattle.ebr_bodies.specs.Ready.{Ready}
use Rattle.ebr_bodies.specs.Bodies.{Site, answered, at_own, on_top, serve}
use Rattle.ebr_statements.specs.inside.Asks.{IsNoPush, IsNoStatement, as_told, own_refusal, within}

-- an ask that keeps no record
pub left_tells : (step : Base → Outcome Base Done) (old new : Data) (r : Done) (k : Keeper) → Leaves step old new r → Tells (answered (step (base_of old k))) (base_of new k) k k (Ok (as_answer r))
left_tells step old new r k l =
    let is : step (base_of old k) ≡ gives (base_of new k) r = l.is k.used in
    record {
      state = ap (λ (o : Outcome Base Done). o.state) is;
      grew = subst (Grew k k) (sym (ap (λ (o : Outcome Base Done). o.made) is)) (grew_same k);
      value = ap (λ (o : Outcome Base Done). as_answer o.value) is;
    }

pub refused_tells : (b : Base) (code : Code) (k : Keeper) → Tells (gives b (refused code)) b k k (Ok (refused code))
refused_tells b code k = says b (refused code) k

pub commit_tells : (o : Outcome Base Done) (s : Base) (k k' : Keeper) (r : Result (Unit {0}) Failure) → Shows o s k k' r → Tells (answered o) s k k' (as_told r)
commit_tells o s k k' (Ok u) h = record { state = h.state; grew = h.grew; value = ap as_answer h.value }
commit_tells o s k k' (Err (Refused code)) h = record { state = h.state; grew = h.grew; value = ap as_answer h.value }
commit_tells o s k k' (Err (Halted why)) h = h

module _ (w : Site) (r : Ready) (room : ℕ) (b : Base) where
  abbrev chosen : Outcome Base Answer → Outcome Base Answer → Bool → Outcome Base Answer
  chosen x y own = if own then x else y

  pub serve_own : (q : Ask) → IsNoStatement q → IsNoPush q → at_own w b ≡ true → serve w r room q b ≡ gives b (refused (own_refusal q))
  serve_own ask.Begin n p e = refl
  serve_own ask.Commit n p e = ap (chosen _ _) e
  serve_own ask.Rollback n p e = ap (chosen _ _) e
  serve_own (ask.Savepoint name) n p e = ap (chosen _ _) e
  serve_own (ask.BackTo name) n p e = ap (chosen _ _) e
  serve_own (ask.PopAuto failed) n p e = ap (chosen _ _) e
  serve_own (ask.Ddl what text) n p e = refl
  serve_own (ask.SetEdition name) n p e = refl
  serve_own (ask.EndCall failed) n p e = refl
  serve_own ask.Leave n p e = refl
  serve_own (ask.Sql s binds left) n p e = absurd n
  serve_own ask.PushAuto n p e = absurd p

  pub serve_within : (q : Ask) (t : TxId) → IsNoStatement q → IsNoPush q → at_own w b ≡ false → on_top w b ≡ t → w.tx.session ≡ t.session → serve w r room q b ≡ within t q b
  serve_within ask.Begin t n p e on same = refl
  serve_within ask.Commit t n p e on same = ap (chosen _ _) e ∙ ap (λ x. within x ask.Commit b) on
  serve_within ask.Rollback t n p e on same = ap (chosen _ _) e ∙ ap (λ x. within x ask.Rollback b) on
  serve_within (ask.Savepoint name) t n p e on same = ap (chosen _ _) e ∙ ap (λ x. within x (ask.Savepoint name) b) on
  serve_within (ask.BackTo name) t n p e on same = ap (chosen _ _) e ∙ ap (λ x. within x (ask.BackTo name) b) on
  serve_within (ask.PopAuto failed) t n p e on same = ap (chosen _ _) e ∙ ap (λ s. answered (pop s failed b)) same
  serve_within (ask.Ddl what text) t n p e on same = refl
  serve_within (ask.SetEdition name) t n p e on same = refl
  serve_within (ask.EndCall failed) t n p e on same = refl
  serve_within ask.Leave t n p e on same = refl
  serve_within (ask.Sql s binds left) t n p e on same = absurd n
  serve_within ask.PushAuto t n p e on same = absurd p
