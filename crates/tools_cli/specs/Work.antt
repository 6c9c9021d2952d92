-- What holds if the work of a command stops, for each reason (`Stop`).
use Rattle.std.specs.Prelude.{◌≡◌, List, None, Result, Err, IfSome, string_bytes}
use Rattle.tools_cli_spec.specs.CommandLine.{Text, task_of, usage_line}
use Rattle.tools_cli_spec.specs.Job.{InputsHoldBytes, Usage, Refused, HasJob}
use Rattle.tools_cli_decide.specs.Refusals.{refusal_text}
use Rattle.tools_cli_decide.specs.declared.stop.Stop.{Stop}
use Rattle.tools_cli_decide.specs.declared.stop.Stop.TheVariants as stop
use Rattle.tools_cli_spec.specs.Run.{IsSame, FailsToRead, FailsToWrite, FailsToPrint, HostState}

-- The work stops with a usage line or because memory ran out.
abbrev pub IsUsage : Result (Unit {0}) Stop → Type 0
IsUsage (Err (stop.Usage line)) = Unit {0}
IsUsage (Err stop.NoMemory) = Unit {0}
IsUsage _ = ⊥

-- What holds if the work stops, for each reason.
abbrev pub StopsWork : List Text → HostState → HostState → Stop → Type 0
StopsWork words old new (stop.Usage line) = (task_of words ≡ None) × (line.now ≡ usage_line words) × IsSame old.files new.files × IsSame old.out new.out
StopsWork words old new (stop.Refused refusal) =
    IfSome old.files (λ files. HasJob words files (Refused (refusal_text refusal)) × InputsHoldBytes words files) × IsSame old.files new.files × IsSame old.out new.out
StopsWork words old new (stop.CannotRead name) = FailsToRead words old.files old.reads new.reads name.now × IsSame old.files new.files × IsSame old.out new.out
StopsWork words old new (stop.CannotWrite name) = FailsToWrite words old.files old.writes new.writes (string_bytes name) × IsSame old.out new.out
StopsWork words old new stop.CannotPrint = FailsToPrint words old.files new.files old.out_faults new.out_faults
StopsWork words old new stop.NoMemory = Unit {0}
