use Rattle.std.proofs.Common.{subst, sym}
use Rattle.std.proofs.lemmas.List.Elements.{All-get_or}
use Rattle.ebr_record.specs.Payload.{HasPayload}
use Rattle.ebr_startup.proofs.gate.share.Goals as goal

pub length-requires : goal.length-requires
length-requires c = subst HasPayload (sym c.r-item.is) (All-get_or HasPayload c.args.records.now c.loop-r.r-index _ c.loop-r-test.true c.requires.payloads)
