use Rattle.std.proofs.Common.{◌≡◌}
use Rattle.ebr_core.specs.Engine.{no_books}
use Rattle.ebr_core.proofs.parts.empty_books.Given as goal

-- the sessions so far
abbrev pub invariant-loop-turn : goal.invariant-loop-turn
invariant-loop-turn l = l.books.items ≡ no_books l._turn
