use Rattle.std.proofs.Common.{◌≡◌, drop}
use Rattle.std.specs.Prelude.{map}
use Rattle.ebr_words.specs.Words.{out_word}
use Rattle.ebr_words.specs.inside.Apart.{each_apart}
use Rattle.ebr_words.proofs.apart.are_apart_from.Given as goal

-- the words so far differ from all behind them
abbrev pub invariant-loop-at : goal.invariant-loop-at
invariant-loop-at l = each_apart (drop l.at l.names) (map out_word l.scripts) ≡ each_apart l.names (map out_word l.scripts)
