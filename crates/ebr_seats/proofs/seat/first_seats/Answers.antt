use Rattle.std.proofs.Common.{◌≡◌, subst, sym, ap, ◌∙◌, arith}
use Rattle.std.specs.Prelude.{replicate}
use Rattle.ebr_seats.specs.Seats.{Begin, first_seat}
use Rattle.ebr_seats.proofs.First.{first_begin}
use Rattle.ebr_seats.proofs.seat.first_seats.Goals as goal

pub returns-clause-begin : goal.returns-clause-begin
returns-clause-begin c =
    let all : c.loop-turn._turn ≡ c.args.sessions = omega (arith, c.loop-turn-test.false, c.loop-turn.auto._turn-end) in
    subst (Begin c.args.sessions c.args.e) (sym (c.loop-turn.invariant ∙ ap (λ n. replicate n (first_seat c.args.e)) all)) (first_begin c.args.sessions c.args.e)
