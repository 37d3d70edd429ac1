-- What a text is scanned as, and that it is one thing.
use Rattle.std.proofs.Common.{ℕ, ◌≡◌, false, List, refl, ap, ◌∙◌, sym}
use Rattle.std.proofs.lemmas.Bool.{cond-true, cond-false, cond_both}
use Rattle.ebr_base.specs.declared.code.Code.{Code}
use Rattle.ebr_lexer.specs.declared.token.Token.{Token}
use Rattle.ebr_lexer.specs.Lexis.{Tokens, FirstFault}
use Rattle.ebr_lexer.proofs.Agreement.{one_reading, one_fault, never_both}
use Rattle.ebr_cut.specs.declared.scanned.Scanned.{Scanned}
use Rattle.ebr_cut.specs.declared.scanned.Scanned.TheVariants as scanned
use Rattle.ebr_cut.specs.Scans.{is_too_deep, with_depth, Scans, Lexical, TooDeep}

pub scan_found : (text : List ℕ) (ts : List Token) → Tokens text ts → Scans text (with_depth ts)
scan_found text ts t = cond_both (is_too_deep false 0 ts) _ _ (Scans text) (λ e. (TooDeep, (ts, t, e, refl))) (λ e. (t, e))

pub scan_only : (text : List ℕ) (ts : List Token) (s : Scanned) → Tokens text ts → Scans text s → with_depth ts ≡ s
scan_only text ts (scanned.Tokens us) t h = ap with_depth (one_reading text ts us t h.0) ∙ cond-false _ _ _ h.1
scan_only text ts (scanned.Fault code) t (Lexical, h) = absurd (never_both text ts h.0 code t h.1)
scan_only text ts (scanned.Fault code) t (TooDeep, h) =
    ap with_depth (one_reading text ts h.0 t h.1) ∙ cond-true _ _ _ h.2 ∙ ap (λ k. scanned.Fault k) (sym h.3)

pub fault_only : (text : List ℕ) (at : ℕ) (code : Code) (s : Scanned) → FirstFault text at code → Scans text s → scanned.Fault code ≡ s
fault_only text at code (scanned.Tokens us) f h = absurd (never_both text us at code h.0 f)
fault_only text at code (scanned.Fault other) f (Lexical, h) = ap (λ k. scanned.Fault k) (one_fault text at h.0 code other f h.1).1
fault_only text at code (scanned.Fault other) f (TooDeep, h) = absurd (never_both text h.0 at code h.1 f)
