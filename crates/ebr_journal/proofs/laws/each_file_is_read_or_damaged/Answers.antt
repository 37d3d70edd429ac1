use Rattle.ebr_journal.proofs.Deciding.{read_or_not}
use Rattle.ebr_journal.proofs.laws.each_file_is_read_or_damaged.Goals as goal

pub returns : goal.returns
returns c = read_or_not
