use Rattle.std.proofs.Common.{◌≡◌, ◌-◌, [], length}
use Rattle.ebr_grammar.specs.Grammar.{led}
use Rattle.ebr_grammar.specs.Reading.{repeat}
use Rattle.ebr_plparse.specs.Productions.{reads_by}
use Rattle.ebr_plparse.specs.Packages.{item_begins, package_item}
use Rattle.ebr_plparse.proofs.packages.package_items.Given as goal

abbrev pub invariant-loop-turn : goal.invariant-loop-turn
invariant-loop-turn l = repeat item_begins (reads_by (led item_begins package_item)) (l._turn-end - l._turn) l.found l.tokens ≡ repeat item_begins (reads_by (led item_begins package_item)) (length l.fn.tokens) [] l.fn.tokens
