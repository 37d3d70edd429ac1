use Rattle.std.proofs.Common.{◌≡◌, None, rules}
use Rattle.ebr_machine.proofs.Referred.{refer_in_row, refer_outside}
use Rattle.ebr_machine.proofs.packages.refer.Goals as goal

pub returns-in_ok-refer_to-in-None : goal.returns-in_ok-refer_to-in-None
returns-in_ok-refer_to-in-None g c =
    let m = c.args.run.now in
    let e : m.row ≡ None = search rules in
    refer_outside (g.B.CodeBook.answers c.args.book.now c.args.edition) m c.refer_to.new.run c.args.reference c.args.name.now e c.in_ok-refer_to-in-None.ensures

pub returns-in-Some : goal.returns-in-Some
returns-in-Some g c = refer_in_row (g.B.CodeBook.answers c.args.book.now c.args.edition) c.args.run.now c.refer_under.new.run c.args.reference c.args.name.now _ c.in-Some.is c.refer_under.ensures
