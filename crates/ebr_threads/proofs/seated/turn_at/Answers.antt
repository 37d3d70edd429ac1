use Rattle.std.proofs.Common.{sym, ap, ◌∙◌}
use Rattle.ebr_threads.proofs.Sitting.{at_chair, had_one, may_turn, one_longer, sits_more, stands_of}
use Rattle.ebr_threads.proofs.seated.turn_at.Goals as goal

pub turn-requires : goal.turn-requires
turn-requires g c = may_turn _ _ _ _ _ _ c.requires.sits c.requires.runs (c.requires.sits.turn, at_chair _ _ _ _ c.requires.sits c.requires.runs)

pub returns-clause-sits : goal.returns-clause-sits
returns-clause-sits g c =
    let had = had_one c.turn.ensures c.requires.runs in
    let last = c.chair-1.given.1 (sym had.replied_is.1) in
    sits_more _ _ _ _ _ _ c.requires.sits c.requires.runs had.ask had.answer c.turn.ensures.session had.is (stands_of _ _ _ c.turn.ensures.stands)
    (ap (λ k. k.turn) last ∙ had.replied_is.2) (ap (λ k. k.view) last ∙ had.replied_is.3)

pub returns-clause-went : goal.returns-clause-went
returns-clause-went g c = record { session = c.turn.ensures.session; job = c.turn.ensures.job }

pub returns-clause-more : goal.returns-clause-more
returns-clause-more g c = let had = had_one c.turn.ensures c.requires.runs in one_longer _ _ _ had.is
