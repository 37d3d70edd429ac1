use Rattle.std.proofs.Common.{◌≡◌, ◌<◌, drop, false}
use Rattle.ebr_cut.specs.Scans.{is_too_deep}
use Rattle.ebr_cut.proofs.scanned.is_too_deep.Given as goal

-- the count so far decides over the rest
abbrev pub invariant-loop-token : goal.invariant-loop-token
invariant-loop-token l = record {
  same : is_too_deep l.ended l.count (drop l.token-index l.tokens) ≡ is_too_deep false 0 l.tokens;
  small : l.count < 65;
}
