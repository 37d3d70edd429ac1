use Rattle.std.proofs.Common.{Err, subst, sym, ◌∙◌}
use Rattle.ebr_lexer.specs.Lexis.{Found}
use Rattle.ebr_cut.specs.Scans.{Scans}
use Rattle.ebr_cut.proofs.Faults.{scan_found, scan_only, fault_only}
use Rattle.ebr_cut.proofs.scanned.scan.Goals as goal

pub returns-in-Ok-clause-found : goal.returns-in-Ok-clause-found
returns-in-Ok-clause-found c = subst (Scans c.args.text.now) (sym c.with_depth.ensures) (scan_found c.args.text.now c.in-Ok.tokens c.in-Ok.ensures.found)

pub returns-in-Ok-clause-only : goal.returns-in-Ok-clause-only
returns-in-Ok-clause-only c s h = c.with_depth.ensures ∙ scan_only c.args.text.now c.in-Ok.tokens s c.in-Ok.ensures.found h

pub returns-in-Err-Fault-clause-only : goal.returns-in-Err-Fault-clause-only
returns-in-Err-Fault-clause-only c s h =
    fault_only c.args.text.now c.in-Err-Fault.field-0-0 c.in-Err-Fault.code s (subst (λ e. Found c.args.text.now (Err e)) c.in-Err-Fault.field-0-is c.in-Err-Fault.ensures.found) h
