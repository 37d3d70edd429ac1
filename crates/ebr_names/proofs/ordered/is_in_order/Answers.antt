use Rattle.std.proofs.Common.{sym, ◌∙◌, arith}
use Rattle.ebr_names.proofs.Rising.{sorted-from_rising, rising-from_sorted}
use Rattle.ebr_names.proofs.ordered.is_in_order.Goals as goal

pub returns-then-len-lt-MAX_COUNT : goal.returns-then-len-lt-MAX_COUNT
returns-then-len-lt-MAX_COUNT c =
    let is = c.rises.ensures in (
      λ yes. record { objects = sorted-from_rising c.args.v.now.objects (sym is ∙ yes); few = omega (arith, c.len.ensures, c.if-len-lt-MAX_COUNT.true) },
      λ ordered. is ∙ rising-from_sorted c.args.v.now.objects ordered.objects,
    )
