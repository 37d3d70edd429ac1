use Rattle.ebr_machinetests.proofs.Kept.{kept-carried}
use Rattle.ebr_machinetests.proofs.editions.carry_out.Goals as goal

pub returns : goal.returns
returns c =
    kept-carried c.args.c.now c.carry_out.new.self c.args.made.now c.carry_out.result c.carry_out.ensures.carries c.carry_out.ensures.own_keys c.requires.kept
