use Rattle.std.proofs.Common.{length, sym, ap, ◌∙◌}
use Rattle.std.specs.Prelude.{nat_lt}
use Rattle.std.specs.Option.{option_copied}
use Rattle.ebr_changes.specs.Filed.{Filed}
use Rattle.ebr_tx.specs.Data.{Transaction}
use Rattle.ebr_tx.proofs.LiveLemmas.{own-is, own-none}
use Rattle.ebr_tx.proofs.live.has_changes.Goals as goal

pub returns-in-Some : goal.returns-in-Some
returns-in-Some c =
    ap (nat_lt 0)
    (c.len.ensures.changes ∙ ap (λ (f : Filed). length f.changes) c.changes.ensures
    ∙ ap (λ (x : Transaction). length x.changes) (own-is c.args.t c.args.live.now c.in-Some.x.now (sym c.find.ensures ∙ ap option_copied c.in-Some.is)))

pub returns-in-None : goal.returns-in-None
returns-in-None c = ap (λ (x : Transaction). nat_lt 0 (length x.changes)) (own-none c.args.t c.args.live.now (sym c.find.ensures ∙ ap option_copied c.in-None.is))
