use Rattle.std.proofs.Common.{◌<◌, arith}
use Rattle.ebr_machine.proofs.Referred.{makes_one}
use Rattle.ebr_machine.proofs.packages.make.Goals as goal

pub returns : goal.returns
returns g c =
    let m = c.args.run.now in
    let h : 0 < m.makings_left = omega arith in
    makes_one (g.B.CodeBook.answers c.args.book.now c.args.edition) m c.make_inside.new.run c.args.name.now h c.in_ok-make_inside.ensures
