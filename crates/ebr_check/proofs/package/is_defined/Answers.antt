use Rattle.std.proofs.Common.{◌≡◌, true, Some, None, sym, rules}
use Rattle.std.specs.Prelude.{find}
use Rattle.ebr_ast.specs.Members.{is_named}
use Rattle.ebr_validity.specs.Rules.{same_head}
use Rattle.ebr_check.proofs.Defined.{first_defines, none_defines}
use Rattle.ebr_check.proofs.package.is_defined.Goals as goal

pub returns-then-same_head : goal.returns-then-same_head
returns-then-same_head c =
    let f : find (is_named c.args.head.now.name) c.args.subprograms.now ≡ Some c.in-Some.first.now = search rules in
    let h : same_head c.args.head.now c.in-Some.first.now.head ≡ true = search rules in
    sym (first_defines c.args.head.now c.in-Some.first.now c.args.subprograms.now f h)

pub returns-in-None : goal.returns-in-None
returns-in-None c =
    let f : find (is_named c.args.head.now.name) c.args.subprograms.now ≡ None = search rules in
    sym (none_defines c.args.head.now c.args.subprograms.now f)
