-- What is known of a stop.
use Rattle.tools_cli_spec.specs.Prelude.{Text}
use Rattle.tools_cli_decide.specs.Prelude.{StopsWith, refusal_text}
use Rattle.wasm_read_spec.specs.declared.fault.ReadFault.TheVariants.{NoMemory}
use Rattle.tools_cli_decide.specs.declared.stop.Stop.{Stop}
use Rattle.tools_cli_decide.specs.declared.stop.Stop.TheVariants as stop

-- A property of the text of a stop implies a weaker one.
pub stops_weaker : (P Q : Text → Type 0) → ((text : Text) → P text → Q text) → (s : Stop) → StopsWith P s → StopsWith Q s
stops_weaker P Q f (stop.Refused refusal) h = f (refusal_text refusal) h
stops_weaker P Q f stop.NoMemory h = tt
stops_weaker P Q f (stop.Usage line) h = absurd h
stops_weaker P Q f (stop.CannotRead r) h = absurd h
stops_weaker P Q f (stop.CannotWrite r) h = absurd h
stops_weaker P Q f stop.CannotPrint h = absurd h
