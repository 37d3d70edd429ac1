-- What the text of a piece is.
use Rattle.std.proofs.Common.{◌≡◌, ℕ, List, Option, Some, None, refl, sym, ap, ◌∙◌}
use Rattle.ebr_lexer.specs.declared.token.Token.{Token}
use Rattle.ebr_ast.specs.declared.definition.Statement.{Statement}
use Rattle.ebr_cut.specs.declared.span.Lead.{Lead}
use Rattle.ebr_cut.specs.declared.scanned.Scanned.{Scanned}
use Rattle.ebr_cut.specs.declared.scanned.Scanned.TheVariants as scanned
use Rattle.ebr_cut.specs.Scans.{Scans}
use Rattle.ebr_script.specs.declared.piece.PieceKind.{PieceKind}
use Rattle.ebr_script.specs.declared.piece.PieceKind.TheVariants as piece
use Rattle.ebr_script.specs.Statements.{statement_of}
use Rattle.ebr_script.specs.Pieces.{SpellsNothing, Scanning, Unspelled, Means, scanned_of, spelled_or, kind_of_scan, kind_of_text}
use Rattle.ebr_script.proofs.Spelled.{statement_sound, statement_complete}
use Rattle.ebr_script.proofs.Scanned.{scans_so, scans_only}

so_spelled : (l : Lead) (text : List ℕ) (tokens : List Token) (o : Option Statement) → statement_of tokens ≡ o → Scans text (scanned.Tokens tokens) → Means l text (spelled_or l o)
so_spelled l text tokens None e scans = (Unspelled, (tokens, scans, (λ s spells. clash (sym e ∙ statement_complete tokens s spells)), refl))
  where
    clash : {s : Statement} → ◌≡◌ {A = Option Statement} None (Some s) → ⊥
    clash e = absurd cc
so_spelled l text tokens (Some s) e scans = (tokens, scans, statement_sound tokens s e)

so_scanned : (l : Lead) (text : List ℕ) (s : Scanned) → Scans text s → Means l text (kind_of_scan l s)
so_scanned l text (scanned.Fault code) scans = (Scanning, scans)
so_scanned l text (scanned.Tokens tokens) scans = so_spelled l text tokens (statement_of tokens) refl scans

pub means_so : (l : Lead) (text : List ℕ) → Means l text (kind_of_text l text)
unfolding kind_of_text
means_so l text = so_scanned l text (scanned_of text) (scans_so text)

-- what spells nothing is read as nothing
unread : (tokens : List Token) (o : Option Statement) → statement_of tokens ≡ o → SpellsNothing tokens → o ≡ None
unread tokens None e none = refl
unread tokens (Some s) e none = absurd (none s (statement_sound tokens s e))

pub means_only : (l : Lead) (text : List ℕ) (kind : PieceKind) → Means l text kind → kind_of_text l text ≡ kind
unfolding kind_of_text
means_only l text (piece.Tree s) m = ap (kind_of_scan l) (scans_only text (scanned.Tokens m.0) m.1) ∙ ap (spelled_or l) (statement_complete m.0 s m.2)
means_only l text (piece.Refused code) (Scanning, scans) = ap (kind_of_scan l) (scans_only text (scanned.Fault code) scans)
means_only l text (piece.Refused code) (Unspelled, m) =
    ap (kind_of_scan l) (scans_only text (scanned.Tokens m.0) m.1) ∙ ap (spelled_or l) (unread m.0 (statement_of m.0) refl m.2) ∙ ap (λ c. piece.Refused c) (sym m.3)
