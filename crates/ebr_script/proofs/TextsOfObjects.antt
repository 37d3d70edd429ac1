-- What a stored text stores.
use Rattle.std.proofs.Common.{◌≡◌, ℕ, List, Some, sym, ap, ◌∙◌}
use Rattle.std.proofs.lemmas.Option.{same_Some}
use Rattle.ebr_ast.specs.declared.definition.Definition.{Definition}
use Rattle.ebr_cut.specs.declared.scanned.Scanned.{Scanned}
use Rattle.ebr_cut.specs.declared.scanned.Scanned.TheVariants as scanned
use Rattle.ebr_cut.specs.Scans.{Scans}
use Rattle.ebr_script.specs.Pieces.{scanned_of, creation_in, stored_definition, Stores, StoresComputed, OneDefinition}
use Rattle.ebr_script.proofs.Scanned.{scans_so, scans_only}
use Rattle.ebr_script.proofs.Spelled.{creation_sound, creation_complete}

sound_of : (text : List ℕ) (s : Scanned) (d : Definition) → Scans text s → creation_in s ≡ Some d → Stores text d
sound_of text (scanned.Fault code) d scans e = absurd cc
sound_of text (scanned.Tokens tokens) d scans e = record { tokens = tokens; scans = scans; spells = creation_sound tokens d e }

pub stored_sound : (text : List ℕ) (d : Definition) → stored_definition text ≡ Some d → Stores text d
unfolding stored_definition
stored_sound text d e = sound_of text (scanned_of text) d (scans_so text) e

pub stored_complete : (text : List ℕ) (d : Definition) → Stores text d → stored_definition text ≡ Some d
unfolding stored_definition
stored_complete text d s = ap creation_in (scans_only text (scanned.Tokens s.tokens) s.scans) ∙ creation_complete s.tokens d s.spells

pub stored_as : (text : List ℕ) (s : Scanned) → scanned_of text ≡ s → stored_definition text ≡ creation_in s
unfolding stored_definition
stored_as text s e = ap creation_in e

pub stores_computed : StoresComputed
stores_computed text d = (stored_complete text d, stored_sound text d)

pub one_definition : OneDefinition
one_definition text d e first second = same_Some _ _ (sym (stored_complete text d first) ∙ stored_complete text e second)
