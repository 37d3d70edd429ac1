use Rattle.std.proofs.Common.{◌≡◌, drop}
use Rattle.std.specs.Prelude.{map}
use Rattle.ebr_words.specs.Words.{are_apart, out_word}
use Rattle.ebr_words.proofs.apart.are_scripts_apart.Given as goal

-- the scripts so far differ from all behind them
abbrev pub invariant-loop-at : goal.invariant-loop-at
invariant-loop-at l = are_apart (map out_word (drop l.at l.scripts)) ≡ are_apart (map out_word l.scripts)
