use Rattle.std.proofs.Common.{sym, ap, ◌∙◌}
use Rattle.std.specs.Prelude.{is_some}
use Rattle.std.specs.Option.{option_copied}
use Rattle.std.proofs.lemmas.Bool.{true≢false}
use Rattle.ebr_tx.specs.inside.Filed.{is_live, IsFiledBy}
use Rattle.ebr_tx.proofs.LiveLemmas.{live-found, own-is, found-all}
use Rattle.ebr_tx.proofs.live.own.Goals as goal

pub unreachable-requires : goal.unreachable-requires
unreachable-requires c =
    true≢false (sym (live-found c.args.t c.args.live.now c.requires) ∙ ap is_some (sym c.find.ensures ∙ ap option_copied c.in-None.is))

pub returns-clause-transaction : goal.returns-clause-transaction
returns-clause-transaction c = own-is c.args.t c.args.live.now c.in-Some.x.now (sym c.find.ensures ∙ ap option_copied c.in-Some.is)

pub returns-clause-filed : goal.returns-clause-filed
returns-clause-filed c = λ tables all. found-all (IsFiledBy tables) (is_live c.args.t) c.args.live.now c.in-Some.x.now (sym c.find.ensures ∙ ap option_copied c.in-Some.is) all
