-- The summary of a run: a line for each session (own).
use Rattle.std.specs.Prelude.{ℕ, List, ◌++◌, codes}
use Rattle.std.specs.List.{flat_map}
use Rattle.std.specs.Fmt.{decimal}
use Rattle.ebr_report.specs.declared.ends.EndKind.{EndKind}
use Rattle.ebr_report.specs.declared.ends.EndKind.TheVariants.{Ended, SinkFault, Stopped, NoMemory}
use Rattle.ebr_report.specs.declared.ends.SessionEnd.{SessionEnd}
use Rattle.ebr_report.specs.Lines.{line_of}

abbrev pub end_words : EndKind → List ℕ
end_words Ended = codes "ended"
end_words SinkFault = codes "sink fault"
end_words Stopped = codes "stopped"
end_words NoMemory = codes "out of memory"

-- a text and a number behind it
abbrev pub counted : List ℕ → ℕ → List ℕ
counted text n = text ++ decimal n

-- `session 1: 5 asks, 1 refused, ended`
unfoldable pub summary_line : {S : Type 0} → SessionEnd S → List ℕ
summary_line e =
    counted (codes "session ") e.session.0 ++ (counted (codes ": ") e.requests ++ (counted (codes " asks, ") e.refused ++ line_of (codes " refused, " ++ end_words e.end)))

abbrev pub Summary : {S : Type 0} → List (SessionEnd S) → List ℕ
Summary ends = flat_map summary_line ends
