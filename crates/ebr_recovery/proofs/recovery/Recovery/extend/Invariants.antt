use Rattle.std.proofs.Common.{◌++◌, take}
use Rattle.ebr_allowed.specs.Allowed.{AllowedBehind}
use Rattle.ebr_recovery.specs.Recovery.{ForRecords, StandsAt}
use Rattle.ebr_recovery.proofs.recovery.Recovery.extend.Given as goal

-- the records so far are allowed, and were carried out
abbrev pub invariant-loop-at : goal.invariant-loop-at
invariant-loop-at l = ForRecords l.initial.self (λ sessions before. AllowedBehind before (take l.at l.records) × StandsAt sessions (before ++ take l.at l.records) l.self)
