use Rattle.std.proofs.Common.{◌≡◌, subst, sym, ◌∙◌, Some, None}
use Rattle.ebr_core.specs.History.{is_light}
use Rattle.ebr_core.specs.Machine.{reply_in, refused, unless_refused}
use Rattle.ebr_core.specs.inside.Held.{Tries}
use Rattle.ebr_seats.specs.Seats.{seat_at}
use Rattle.ebr_core.proofs.LightAsks.{comes_refused, comes_told, fails_nothing, tried}
use Rattle.ebr_core.proofs.Placed.{tests_are, in_place, refused_here}
use Rattle.ebr_core.proofs.current.tested_reply.Goals as goal

pub reply-requires-clause-placed : goal.reply-requires-clause-placed
reply-requires-clause-placed g c = λ db e x h has.
    in_place db c.args.s x c.args.ask.now
    (sym (tests_are g.K.Keep.as_keeper c.args.current.now c.args.s c.args.ask.now c.seat_of.result.now c.first_tests.result
    (subst (λ ss. Some c.seat_of.result.now ≡ seat_at ss c.args.s.0) c.as_slice.ensures.value c.seat_of.ensures) c.first_tests.ensures db e x h has) ∙ c.in-None.is)

pub returns-in-Some-clause-reply : goal.returns-in-Some-clause-reply
returns-in-Some-clause-reply g c = λ db e x h has.
    subst (λ o. Tries g.K.Keep.as_keeper (is_light c.args.ask.now) c.args.current.now c.args.current.now db c.with_copy.result (unless_refused o db (reply_in e db c.args.s x c.args.ask.now)))
    (sym c.in-Some.is ∙ tests_are g.K.Keep.as_keeper c.args.current.now c.args.s c.args.ask.now c.seat_of.result.now c.first_tests.result
    (subst (λ ss. Some c.seat_of.result.now ≡ seat_at ss c.args.s.0) c.as_slice.ensures.value c.seat_of.ensures) c.first_tests.ensures db e x h has)
    (tried g.K.Keep.as_keeper (is_light c.args.ask.now) c.args.current.now c.args.current.now db (c.refusal.result, None) c.with_copy.result (refused db c.in-Some.code)
    (refused_here g.K.Keep.as_keeper c.args.current.now c.args.s db h c.in-Some.code c.refusal.result c.refusal.ensures) c.with_copy.ensures
    (fails_nothing g.K.Keep.as_keeper (is_light c.args.ask.now) c.args.current.now db (refused db c.in-Some.code).records h))

pub returns-in-Some-clause-book : goal.returns-in-Some-clause-book
returns-in-Some-clause-book g c = comes_told c.args.ask.now (c.refusal.result, None) c.with_copy.result (comes_refused c.args.ask.now c.in-Some.code c.refusal.result c.refusal.ensures) c.with_copy.ensures

pub returns-in-None-clause-reply : goal.returns-in-None-clause-reply
returns-in-None-clause-reply g c = λ db e x h has.
    subst (λ o. Tries g.K.Keep.as_keeper (is_light c.args.ask.now) c.args.current.now c.reply.new.current db c.reply.result (unless_refused o db (reply_in e db c.args.s x c.args.ask.now)))
    (sym c.in-None.is ∙ tests_are g.K.Keep.as_keeper c.args.current.now c.args.s c.args.ask.now c.seat_of.result.now c.first_tests.result
    (subst (λ ss. Some c.seat_of.result.now ≡ seat_at ss c.args.s.0) c.as_slice.ensures.value c.seat_of.ensures) c.first_tests.ensures db e x h has)
    (c.reply.ensures.reply db e x h has)
