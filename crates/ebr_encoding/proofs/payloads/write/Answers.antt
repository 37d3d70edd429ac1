use Rattle.std.proofs.Common.{subst}
use Rattle.ebr_record.specs.Payload.{HasPayload}
use Rattle.ebr_encoding.proofs.Fitting.{commit_fits}
use Rattle.ebr_encoding.proofs.payloads.write.Goals as goal

pub write_commit-requires : goal.write_commit-requires
write_commit-requires c = commit_fits _ (subst HasPayload c.in-Commit.is c.requires)
