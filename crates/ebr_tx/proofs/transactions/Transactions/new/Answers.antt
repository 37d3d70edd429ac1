use Rattle.std.proofs.Common.{◌≡◌, List, None, sym, subst}
use Rattle.std.specs.Prelude.{All}
use Rattle.ebr_tx.specs.Data.{Transaction, IsIn, names_of, named_at}
use Rattle.ebr_tx.proofs.Kept.{sound_new}
use Rattle.ebr_tx.proofs.Stays.{first-begun, first-sessions}
use Rattle.ebr_tx.specs.inside.Filed.{transactions_of}
use Rattle.ebr_tx.proofs.transactions.Transactions.new.Goals as goal

pub invariant_of-result : goal.invariant_of-result
invariant_of-result c = record {
  sound = sound_new c.in_ok-new.field-0.commits c.in_ok-new.field-0.tables (transactions_of c.in_ok-first.field-0.items) c.args.sessions c.in_ok-new.ensures.commits c.in_ok-new.ensures.tables c.in_ok-first.ensures.first;
  filed = c.in_ok-first.ensures.filed c.in_ok-new.field-0.tables;
}

pub returns-clause-begun : goal.returns-clause-begun
returns-clause-begun c = subst (All (λ (x : Transaction). x.begun ≡ None)) (sym c.in_ok-first.ensures.first) (first-begun c.args.sessions)

pub returns-clause-sessions : goal.returns-clause-sessions
returns-clause-sessions c =
    λ s low high. subst (λ (live : List Transaction). IsIn (names_of live) (named_at s 0)) (sym c.in_ok-first.ensures.first) (first-sessions c.args.sessions s low high)
