use Rattle.std.proofs.Common.{append-nil, refl}
use Rattle.tools_cli_decide.proofs.refusal.refusal_pieces.Goals as goal

pub returns-in-Malformed : goal.returns-in-Malformed
returns-in-Malformed c = rw c.in-Malformed.is c.at.ensures

pub returns-in-MalformedBody : goal.returns-in-MalformedBody
returns-in-MalformedBody c = rw c.in-MalformedBody.is c.at-in-MalformedBody.ensures

pub returns-in-Limit : goal.returns-in-Limit
returns-in-Limit c = rw (c.in-Limit.is, c.which_name.ensures) (simp append-nil)

pub returns-in-ImportMismatch : goal.returns-in-ImportMismatch
returns-in-ImportMismatch c = rw c.in-ImportMismatch.is c.at_import.ensures

pub returns-in-ImportCycle : goal.returns-in-ImportCycle
returns-in-ImportCycle c = rw c.in-ImportCycle.is c.at_import-in-ImportCycle.ensures

pub returns-in-LimitsClash : goal.returns-in-LimitsClash
returns-in-LimitsClash c = rw c.in-LimitsClash.is c.at_import-in-LimitsClash.ensures

pub returns-in-GlobalCycle : goal.returns-in-GlobalCycle
returns-in-GlobalCycle c = rw (c.in-GlobalCycle.is, c.as_str.ensures) refl

pub returns-in-ExportConflict : goal.returns-in-ExportConflict
returns-in-ExportConflict c = rw (c.in-ExportConflict.is, c.as_str-in-ExportConflict.ensures.text) refl
