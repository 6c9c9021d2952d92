-- What holds if a command stops, for each reason (`Stop`).
use Rattle.std.specs.Prelude.{◌≡◌, ◌⊎◌, ℕ, false, List, [], Contains, Option, None, IfSome, string_bytes}
use Rattle.tool_io.specs.FilesAndSinks.{FileContents, Rose, Becomes, AppendsPrefix}
use Rattle.tools_cli_spec.specs.Job.{InputsAreBytes}
use Rattle.tools_cli_spec.specs.CommandLine.{Text, Task, inputs_of, may_print}
use Rattle.tools_cli_spec.specs.Job.{TooLong, gathered, TaskJob, refused_before, most_input}
use Rattle.tools_cli_spec.specs.Texts.{over_limit, invalid_text}
use Rattle.wasm_valid.specs.declared.kinds.Invalid.{Invalid}
use Rattle.wasm_valid.specs.Prelude.{IsFirstInvalid}
use Rattle.wasm_tree_spec.specs.Prelude.{Module, InputBytes}
use Rattle.tools_cli_spec.specs.Effects.{NamedFile, made, written_names}
use Rattle.tools_cli_decide.specs.Refusals.{refusal_text}
use Rattle.tools_cli_decide.specs.declared.stop.Stop.{Stop}
use Rattle.tools_cli_decide.specs.declared.stop.Stop.TheVariants.{Refused, CannotRead, CannotWrite, CannotPrint, NoMemory}
use Rattle.tools_cli_spec.specs.Job as job
use Rattle.tools_cli_spec.specs.Turns.{FailsAtItsTurn, MayWrite}

-- What holds if reading the files `names` in order, at most `most` bytes together, stops.
abbrev pub StopsGathering : Option FileContents → (Text → ℕ) → (Text → ℕ) → List Text → ℕ → Stop → Type 0
StopsGathering held before now names most (Refused refusal) =
    IfSome held (λ files. (name : Text) × (gathered names files most ≡ TooLong name) × (refusal_text refusal ≡ over_limit name InputBytes))
StopsGathering held before now names most (CannotRead file) = FailsAtItsTurn held before now names most file.now
StopsGathering held before now names most NoMemory = Unit {0}
StopsGathering held before now names most _ = ⊥

-- The text reports the first invalid item of the module in this file.
abbrev pub InvalidText : Text → Module → Text → Type 0
InvalidText file tree text = (item : Invalid) × IsFirstInvalid tree false item × (text ≡ invalid_text file item)

-- What holds if reading the inputs of a task, or deciding over them, stops.
abbrev pub StopsPreparing : Option FileContents → (Text → ℕ) → (Text → ℕ) → Task → Stop → Type 0
StopsPreparing held before now task (Refused refusal) = IfSome held (λ files. TaskJob task files (job.Refused (refusal_text refusal)) × InputsAreBytes task files)
StopsPreparing held before now task (CannotRead file) = (refused_before task ≡ None) × FailsAtItsTurn held before now (inputs_of task) most_input file.now
StopsPreparing held before now task NoMemory = Unit {0}
StopsPreparing held before now task _ = ⊥

-- The task may write each of the files `names`.
abbrev pub AreOutputs : Task → Option FileContents → List Text → Type 0
AreOutputs task held names = (name : Text) → Contains names name → MayWrite task held name

-- A task that may not print has no lines.
abbrev pub PrintsAsAllowed : Task → Text → Type 0
PrintsAsAllowed task lines = may_print task ≡ false → lines ≡ []

-- All these writes were made, if the contents are known.
abbrev pub AllWritten : List NamedFile → Option FileContents → Option FileContents → Type 0
AllWritten writes old new = Becomes old new (λ a b. b ≡ made writes a)

-- The output is unchanged, or `this` holds and a prefix of `lines` was appended to the output.
abbrev pub PrintsAfter : Text → Type 0 → Text → Text → Type 0
PrintsAfter lines this before after = (after ≡ before) ⊎ (AppendsPrefix lines before after × this)

-- `name` is one of the names written, and its count of write faults has risen.
abbrev pub FailsAtOne : (Text → ℕ) → (Text → ℕ) → List NamedFile → Text → Type 0
FailsAtOne before now writes name = Contains (written_names writes) name × Rose (before name) (now name)

-- What holds if making these writes in order stops.
abbrev pub StopsWriting : (Text → ℕ) → (Text → ℕ) → List NamedFile → Stop → Type 0
StopsWriting before now writes (CannotWrite name) = FailsAtOne before now writes (string_bytes name)
StopsWriting before now writes NoMemory = Unit {0}
StopsWriting before now writes _ = ⊥

-- What holds if printing lines stops.
abbrev pub StopsPrinting : ℕ → ℕ → Stop → Type 0
StopsPrinting before now CannotPrint = Rose before now
StopsPrinting before now NoMemory = Unit {0}
StopsPrinting before now _ = ⊥

-- What holds if making the writes, and after all of them printing the lines, stops.
abbrev pub StopsFinishing : (Text → ℕ) → (Text → ℕ) → ℕ → ℕ → Option FileContents → Option FileContents → Option Text → Option Text → List NamedFile → Stop → Type 0
StopsFinishing before now put_before put_now old new out out' writes (CannotWrite name) = FailsAtOne before now writes (string_bytes name) × Becomes out out' (λ a b. b ≡ a)
StopsFinishing before now put_before put_now old new out out' writes CannotPrint = Rose put_before put_now × AllWritten writes old new
StopsFinishing before now put_before put_now old new out out' writes NoMemory = Unit {0}
StopsFinishing before now put_before put_now old new out out' writes _ = ⊥
