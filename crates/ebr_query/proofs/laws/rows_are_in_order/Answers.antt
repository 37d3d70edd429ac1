use Rattle.ebr_query.specs.Order.{in_order, is_before}
use Rattle.ebr_query.proofs.Ranks.{ranked}
use Rattle.ebr_query.proofs.Sorting.{filter-ordered, ordered, pairs, permutes}
use Rattle.ebr_query.proofs.laws.rows_are_in_order.Goals as goal

pub returns : goal.returns
returns c = λ descending rows.
    let before = is_before descending in
    record {
      sorted = pairs before (ranked descending) (in_order before rows) (ordered before (ranked descending) rows);
      same_rows = permutes before (ranked descending) rows;
      stable = λ a. filter-ordered before (ranked descending) a rows;
    }
