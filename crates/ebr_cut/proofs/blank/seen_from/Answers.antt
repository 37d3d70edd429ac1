use Rattle.std.proofs.Common.{ap, ◌∙◌, drop, arith}
use Rattle.std.proofs.lemmas.List.{length-drop}
use Rattle.ebr_base.specs.declared.numbers.TheConstants.{MAX_COUNT}
use Rattle.ebr_cut.specs.inside.Ahead.{end_behind}
use Rattle.ebr_cut.proofs.Lengths.{line_within, line_more, end_small, end_more}
use Rattle.ebr_cut.proofs.blank.seen_from.Goals as goal

pub line_behind-requires : goal.line_behind-requires
line_behind-requires c = omega (arith, c.requires.small, line_within c.args.rest.now c.args.seen.line c.requires.some c.requires.seen.line)

pub end_behind-requires : goal.end_behind-requires
end_behind-requires c =
    let len = length-drop 1 c.args.rest.now in
    end_small MAX_COUNT (drop 1 c.args.rest.now) c.args.seen.end c.requires.seen.end (omega (arith, len, c.requires.small))

pub returns : goal.returns
returns c = record {
  line = c.line_behind.ensures ∙ line_more c.args.rest.now c.args.seen.line c.requires.some c.requires.seen.line;
  end = c.end_behind.ensures ∙ ap (end_behind c.args.rest.now) c.requires.seen.end ∙ end_more c.args.rest.now;
  later = c.requires.seen.end;
}
