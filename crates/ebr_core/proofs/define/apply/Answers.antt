use Rattle.std.proofs.Common.{◌∙◌}
use Rattle.std.proofs.lemmas.Result.{on_ok_weaker}
use Rattle.ebr_core.proofs.define.apply.Goals as goal

pub returns-clause-applied : goal.returns-clause-applied
returns-clause-applied g c = λ lists own views books is.
    on_ok_weaker c.notice.result (λ n. record {
      catalogue = c.notice.ensures.catalogue ∙ c.in_ok-carry_out.ensures.carries lists is;
      own_keys = c.in_ok-carry_out.ensures.own_keys lists own;
      noticed = record { views = n.views; books = n.books; tables = n.tables; seats = n.seats };
    }) (c.notice.ensures.noticed lists own views books (c.in_ok-carry_out.ensures.carries lists is))
