-- The status of a stop, and what is printed of it.
use Rattle.std.specs.Prelude.{◌≡◌, ◌⊎◌, ℕ, ◌++◌, Option, string_bytes}
use Rattle.tool_io.specs.FilesAndSinks.{Becomes, Rose}
use Rattle.tools_cli_spec.specs.CommandLine.{Text}
use Rattle.tools_cli_spec.specs.declared.status.Status.{Status}
use Rattle.tools_cli_decide.specs.declared.stop.Stop.{Stop}
use Rattle.tools_cli_decide.specs.declared.stop.Stop.TheVariants.{Usage, Refused, CannotRead, CannotWrite, CannotPrint, NoMemory}
use Rattle.tools_cli_spec.specs.declared.status.Status.TheVariants as status
use Rattle.tools_cli_decide.specs.Refusals.{refusal_text}
use Rattle.tools_cli_spec.specs.ErrorLines.{stop_line, cannot_read, cannot_write, cannot_print, no_memory}

abbrev pub status_of : Stop → Status
status_of (Usage line) = status.Usage
status_of (Refused refusal) = status.Refused
status_of (CannotRead file) = status.Outside
status_of (CannotWrite file) = status.Outside
status_of CannotPrint = status.Outside
status_of NoMemory = status.NoMemory

-- The line on standard error for a stop.
abbrev pub line_of : Stop → Text
line_of (Usage line) = line.now
line_of (Refused refusal) = stop_line (refusal_text refusal)
line_of (CannotRead file) = stop_line (cannot_read file.now)
line_of (CannotWrite file) = stop_line (cannot_write (string_bytes file))
line_of CannotPrint = stop_line cannot_print
line_of NoMemory = stop_line no_memory

-- The result is the status of the stop, and its whole line was printed; or the result is `Outside`,
-- because printing failed; or it is `NoMemory`.
abbrev pub Reports : Stop → Option Text → Option Text → ℕ → ℕ → Status → Type 0
Reports stop old new before now result =
    ((result ≡ status_of stop) × Becomes old new (λ a b. b ≡ a ++ line_of stop))
    ⊎ (((result ≡ status.Outside) × Rose before now) ⊎ (result ≡ status.NoMemory))
