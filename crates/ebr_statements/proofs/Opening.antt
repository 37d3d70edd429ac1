-- Autonomous transactions are closed from the top down.
use Rattle.std.proofs.Common.{◌≡◌, ℕ, ◌+◌, ◌-◌, ◌<◌, ◌≤◌, sym, ap, subst, ◌∙◌, arith}
use Rattle.ebr_base.specs.declared.row.TxId.{TxId}
use Rattle.ebr_tx.specs.Data.{Data}
use Rattle.ebr_tx.specs.Calls.{after_pop}
use Rattle.ebr_database.specs.Storable.{AllStorable}
use Rattle.ebr_seats.specs.Ends.{closed_from_top}
use Rattle.ebr_levels.specs.Levels.{IsTop, above}
use Rattle.ebr_levels.proofs.EndLemmas.{closes_turn, turn_top}

-- so many turns are done
pub record Closing (first now : Data) (t : TxId) (all turn : ℕ) : Type 0 where
  pub goes_on : closed_from_top (all - turn) t.session now ≡ closed_from_top all t.session first
  pub top : IsTop now (above t (all - turn))
  pub storable : AllStorable now

pub closing_begins : (d : Data) (t : TxId) (all : ℕ) → IsTop d (above t all) → AllStorable d → Closing d d t all 0
closing_begins d t all top storable =
    let whole : all - 0 ≡ all = omega arith in
    record {
      goes_on = ap (λ n. closed_from_top n t.session d) whole;
      top = subst (λ n. IsTop d (above t n)) (sym whole) top;
      storable = storable;
    }

pub closing_more : (first now next : Data) (t : TxId) (all turn : ℕ) → turn < all → Closing first now t all turn → next ≡ after_pop now t.session → AllStorable next → Closing first next t all (turn + 1)
closing_more first now next t all turn less c is storable = record {
  goes_on = closes_turn first now next t.session all turn less is c.goes_on;
  top = turn_top now t all turn less c.top next is;
  storable = storable;
}

pub closing_ends : (first now : Data) (t : TxId) (all turn : ℕ) → all ≤ turn → Closing first now t all turn → now ≡ closed_from_top all t.session first
closing_ends first now t all turn over c =
    let none : all - turn ≡ 0 = omega (arith, over) in
    sym (ap (λ n. closed_from_top n t.session now) none) ∙ c.goes_on
