-- The words of the command line, and what they ask for (own).
use Rattle.std.specs.Prelude.{ℕ, Bool, true, false, not, ◌&&◌, if◌then◌else◌, nat_le, codes, List, [], ◌∷◌, ◌++◌, map, drop, length, Option, Some, None}
use Rattle.std.specs.List.{list_all, list_any}
use Rattle.std.specs.Str.{bytes_eq}
use Rattle.ebr_words.specs.declared.words.Command.{Command}
use Rattle.ebr_words.specs.declared.words.Command.TheVariants.{Try, Run, Rehearse, Dump}

abbrev pub is_empty : List ℕ → Bool
is_empty [] = true
is_empty (b ∷ bytes) = false

-- one word that isn't empty
abbrev pub is_one_name : List (List ℕ) → Bool
is_one_name [] = false
is_one_name (s ∷ []) = not (is_empty s)
is_one_name (s ∷ x ∷ words) = false

-- the word of the sink of a script's session
abbrev pub out_word : List ℕ → List ℕ
out_word s = s ++ codes ".out"

-- no word is equal to one behind it
abbrev pub are_apart : List (List ℕ) → Bool
are_apart [] = true
are_apart (w ∷ words) = not (list_any (bytes_eq w) words) && are_apart words

abbrev pub are_named : List (List ℕ) → Bool
are_named words = list_all (λ w. not (is_empty w)) words

-- 1 to 32 scripts stand behind the first words. None of the words is empty, and no two are equal of them and of the words of the
-- scripts' sinks.
abbrev pub have_scripts : ℕ → List (List ℕ) → Bool
have_scripts first names =
    let scripts = drop first names in
    nat_le 1 (length scripts) && nat_le (length scripts) 32 && (are_named names && are_apart (names ++ map out_word scripts))

-- a journal, an order and the scripts
abbrev pub is_rehearsal : List (List ℕ) → Bool
is_rehearsal names = have_scripts 2 names

-- a journal and the scripts
abbrev pub is_run : List (List ℕ) → Bool
is_run names = have_scripts 1 names

-- the command of the words, where they are one
abbrev pub command_of : List (List ℕ) → Option Command
command_of [] = None
command_of (w ∷ names) =
    if bytes_eq w (codes "try") && is_one_name names then Some Try
    else (if bytes_eq w (codes "dump") && is_one_name names then Some Dump
    else (if bytes_eq w (codes "rehearse") && is_rehearsal names then Some Rehearse
    else (if bytes_eq w (codes "run") && is_run names then Some Run else None)))
