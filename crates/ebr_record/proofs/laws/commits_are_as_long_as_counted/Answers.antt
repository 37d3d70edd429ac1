use Rattle.ebr_record.proofs.Counted.{commit_counted}
use Rattle.ebr_record.proofs.laws.commits_are_as_long_as_counted.Goals as goal

pub returns : goal.returns
returns c = commit_counted
