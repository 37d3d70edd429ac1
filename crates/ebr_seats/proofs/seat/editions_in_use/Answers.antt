use Rattle.std.proofs.Common.{◌≡◌, ◌+◌, ◌∷◌, [], ◌++◌, List, take, sym, ap, ◌∙◌, rules}
use Rattle.std.specs.List.{filter_map}
use Rattle.std.proofs.lemmas.Grind.{take_at_read}
use Rattle.std.proofs.lemmas.List.Elements.{filter_map-append}
use Rattle.ebr_base.specs.declared.numbers.EditionNo.{EditionNo}
use Rattle.ebr_seats.specs.declared.seat.Seat.{Seat}
use Rattle.ebr_seats.proofs.seat.editions_in_use.Goals as goal

pub loop-seat-preserved : goal.loop-seat-preserved
loop-seat-preserved c =
    let before : List Seat = take c.loop-seat.seat-index c.args.seats.now in
    let more : take (c.loop-seat.seat-index + 1) c.args.seats.now ≡ before ++ c.seat-item.result ∷ [] = search (rules, take_at_read) in
    c.in_ok-add_edition.ensures
    ∙ ap (λ (es : List EditionNo). es ++ filter_map (λ (x : Seat). x.edition) (c.seat-item.result ∷ [])) c.loop-seat.invariant
    ∙ sym (filter_map-append (λ (x : Seat). x.edition) before (c.seat-item.result ∷ []))
    ∙ ap (filter_map (λ (x : Seat). x.edition)) (sym more)
