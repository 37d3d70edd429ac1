use Rattle.std.proofs.Common.{◌≡◌, Some, ap, rules}
use Rattle.ebr_grammar.proofs.Steps.{steps}
use Rattle.ebr_ddlparse.specs.Base.{reading}
use Rattle.ebr_ddlparse.specs.Tables.{key}
use Rattle.ebr_ddlparse.specs.inside.Closing.{closing, closed_key}
use Rattle.ebr_ddlparse.proofs.tables.with_key.Goals as goal

pub returns-in_err-expect : goal.returns-in_err-expect
returns-in_err-expect c =
    let read : reading key c.args.tokens.now ≡ Some (c.in_ok-key.key, c.key.new.tokens) = search rules in
    let z : closed_key c.args.columns (reading key c.args.tokens.now) ≡ closing (c.args.columns, c.in_ok-key.key) c.key.new.tokens = ap (closed_key c.args.columns) read in
    rw z (simp steps (search rules))

pub returns : goal.returns
returns c =
    let read : reading key c.args.tokens.now ≡ Some (c.in_ok-key.key, c.key.new.tokens) = search rules in
    let z : closed_key c.args.columns (reading key c.args.tokens.now) ≡ closing (c.args.columns, c.in_ok-key.key) c.key.new.tokens = ap (closed_key c.args.columns) read in
    rw z (simp steps (search rules))
