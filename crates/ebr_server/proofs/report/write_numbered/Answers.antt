use Rattle.std.proofs.Common.{◌≡◌, ◌++◌, ◌∙◌, List, ℕ, subst}
use Rattle.std.specs.Bool.{OnTrue}
use Rattle.ebr_outside.specs.Sink.{appended}
use Rattle.ebr_report.specs.Lines.{line_of}
use Rattle.ebr_server.proofs.report.write_numbered.Goals as goal

pub returns-clause-whole : goal.returns-clause-whole
returns-clause-whole g c =
    let P : List ℕ → Type 0 = λ xs. OnTrue c.write_line.result (g.S.Sink.held c.write_line.new.sink ≡ appended (g.S.Sink.held c.args.sink.now) (line_of (c.args.what.now ++ xs))) in
    subst P (c.as_bytes.ensures.value ∙ c.format-text.ensures.text) c.write_line.ensures.whole
