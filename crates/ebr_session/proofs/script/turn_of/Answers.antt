use Rattle.std.proofs.Common.{ℕ, ◌≤◌, List, length, sym, subst}
use Rattle.ebr_session.specs.Has.{most_bytes}
use Rattle.ebr_session.proofs.Doing.{text_small}
use Rattle.ebr_session.proofs.script.turn_of.Goals as goal

pub request-requires-clause-small : goal.request-requires-clause-small
request-requires-clause-small c = subst (λ (l : List ℕ). length l ≤ most_bytes) (sym c.text_of-text.ensures) (text_small c.args.script.now c.args.piece c.requires.small)
