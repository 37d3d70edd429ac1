-- What a text is scanned as.
use Rattle.std.proofs.Common.{◌≡◌, ℕ, List, length, Result, Ok, Err, refl}
use Rattle.ebr_lexer.specs.declared.token.Token.{Token}
use Rattle.ebr_lexer.specs.Lexis.{Fault, Has}
use Rattle.ebr_lexer.specs.Reading.{read}
use Rattle.ebr_lexer.proofs.Agreement.{has}
use Rattle.ebr_cut.specs.declared.scanned.Scanned.{Scanned}
use Rattle.ebr_cut.specs.Scans.{Scans, Lexical}
use Rattle.ebr_cut.proofs.Faults.{scan_found, scan_only, fault_only}
use Rattle.ebr_script.specs.Pieces.{scanned_as, scanned_of}

so_of : (text : List ℕ) (r : Result (List Token) Fault) → Has text r → Scans text (scanned_as r)
so_of text (Ok tokens) h = scan_found text tokens h
so_of text (Err fault) h = (Lexical, (fault.0, h))

only_of : (text : List ℕ) (r : Result (List Token) Fault) (s : Scanned) → Has text r → Scans text s → scanned_as r ≡ s
only_of text (Ok tokens) s h scans = scan_only text tokens s h scans
only_of text (Err fault) s h scans = fault_only text fault.0 fault.1 s h scans

pub scans_so : (text : List ℕ) → Scans text (scanned_of text)
unfolding scanned_of
scans_so text = so_of text (read (length text) 0 text) (has text (read (length text) 0 text) refl)

pub scans_only : (text : List ℕ) (s : Scanned) → Scans text s → scanned_of text ≡ s
unfolding scanned_of
scans_only text s scans = only_of text (read (length text) 0 text) s (has text (read (length text) 0 text) refl) scans
