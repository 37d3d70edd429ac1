-- The definitions, computed on scripts.
use Rattle.std.proofs.Common.{ℕ, ◌≡◌, refl, subst, List, [], ◌∷◌, ◌++◌, codes}
use Rattle.ebr_base.specs.Word.{is_letter, is_white, is_word_byte}
use Rattle.ebr_cut.specs.declared.span.Span.{Span}
use Rattle.ebr_cut.specs.declared.span.Lead.TheVariants as lead
use Rattle.ebr_cut.specs.Reading.{passed, word_front, without_or_replace, begins_object, names_object, lead_of, front, read, cut}
use Rattle.ebr_cut.specs.Sections.{Cut}
use Rattle.ebr_cut.proofs.Agreement.{cut_is}

abbrev script : List ℕ
script = codes "-- c" ++ 10 ∷ codes "Create /* ; */ TRIGGER;" ++ 10 ∷ codes " / " ++ 10 ∷ codes "CALL a(';'); / b"

abbrev spans : List Span
spans =
    record { from = 5; to = 29; lead = lead.Unit } ∷ record { from = 33; to = 44; lead = lead.Call } ∷ record { from = 46; to = 49; lead = lead.Other } ∷ []

read_row : cut script ≡ spans
unfolding is_letter is_word_byte is_white passed word_front without_or_replace begins_object names_object lead_of front read
read_row = refl

pub row : Cut script spans
row = subst (Cut script) read_row (cut_is script)
