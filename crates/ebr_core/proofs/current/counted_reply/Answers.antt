use Rattle.std.proofs.Common.{refl, ap, ◌∙◌}
use Rattle.std.proofs.lemmas.Result.{err_from_is_err_and}
use Rattle.std.specs.Prelude.{Err}
use Rattle.ebr_core.specs.History.{is_light}
use Rattle.ebr_core.proofs.Counted.{counted_on, fails_on, seat_there}
use Rattle.ebr_core.proofs.current.counted_reply.Goals as goal

pub returns-in_err-told-clause-reply : goal.returns-in_err-told-clause-reply
returns-in_err-told-clause-reply g c = λ db e x h has.
    let p = err_from_is_err_and c.from_residual.result c.from_residual.ensures.1 in
    fails_on g.K.Keep.as_keeper c.args.current.now c.tested_reply.new.current c.args.s c.args.ask.now (is_light c.args.ask.now) db e x has c.in_err-told.field-0.0 c.from_residual.result (p.1 ∙ ap (λ why. Err why) p.2)
    (c.in_err-told.ensures.reply db e x h has)

pub count_ask-requires : goal.count_ask-requires
count_ask-requires g c =
    let h = c.requires.held in
    seat_there g.K.Keep.as_keeper c.args.current.now c.tested_reply.new.current c.args.s c.args.ask.now c.in_ok-told.told.0.0 h (c.in_ok-told.ensures.reply h.database h.edition h.session h.holds h.has).0

pub returns-clause-reply : goal.returns-clause-reply
returns-clause-reply g c = λ db e x h has.
    let m = c.in_ok-told.ensures.reply db e x h has in (
      counted_on g.K.Keep.as_keeper c.args.current.now c.tested_reply.new.current c.args.s c.args.ask.now _ refl refl c.in_ok-told.told.0.0 db e x has m.0
          (λ y there. c.count_ask.ensures c.tested_reply.new.current.world.tx.contents (g.K.Keep.as_keeper c.tested_reply.new.current.world.keeper).used _ y m.0.holds.seated there),
      m.1,
    )
