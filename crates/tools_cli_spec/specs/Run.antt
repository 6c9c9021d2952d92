-- What a run of the program does to the files and the two sinks.
use Rattle.std.specs.Prelude.{◌≡◌, ◌⊎◌, ℕ, false, List, ◌++◌, Option, Some, None, IfSome, Contains}
use Rattle.tool_io.specs.FilesAndSinks.{FileContents, Rose, Becomes, AppendsPrefix}
use Rattle.tools_cli_spec.specs.CommandLine.{Text, Task, task_of, inputs_of, may_print}
use Rattle.tools_cli_spec.specs.Effects.{NamedFile, made, AreWrittenInPart, written_names}
use Rattle.tools_cli_spec.specs.Job.{Job, Usage, Missing, Refused, Done, HasJob, refused_before, most_input}
use Rattle.tools_cli_spec.specs.ErrorLines.{stop_line, cannot_read, cannot_write, cannot_print}
use Rattle.tools_cli_spec.specs.Turns.{FailsAtItsTurn, MayWrite}
use Rattle.tools_cli_spec.specs.declared.status.Status.{Status}
use Rattle.tools_cli_spec.specs.declared.status.Status.TheVariants as status

-- The job of these arguments over these files is done, and `P` holds of its writes and its lines.
abbrev pub JobIsDone : List Text → FileContents → (List NamedFile → Text → Type 0) → Type 0
JobIsDone words files P = (writes : List NamedFile) × (lines : Text) × HasJob words files (Done writes lines) × P writes lines

-- The value is known before and after and is unchanged, or it is not known at either time.
abbrev pub IsSame : {A : Type 0} → Option A → Option A → Type 0
IsSame old new = Becomes old new (λ a b. b ≡ a)

-- The sink gained this text, if its bytes are known.
abbrev pub Gains : Text → Option Text → Option Text → Type 0
Gains text old new = Becomes old new (λ a b. b ≡ a ++ text)

-- The files are unchanged; or the job is done and some first writes are made, of which the next may
-- be cut short (`AreWrittenInPart`).
abbrev pub ChangesByTheJob : List Text → FileContents → FileContents → Type 0
ChangesByTheJob words old new =
    (new ≡ old) ⊎ JobIsDone words old (λ writes lines. AreWrittenInPart writes old new)

-- The output is unchanged; or the job is done, all its writes are made, and a prefix of its lines
-- was appended to the output.
abbrev pub PrintsForTheJob : List Text → FileContents → Option FileContents → Text → Text → Type 0
PrintsForTheJob words old new before after =
    (after ≡ before) ⊎ JobIsDone words old (λ writes lines. (new ≡ Some (made writes old)) × AppendsPrefix lines before after)

-- The job is done: all its writes are made, and its lines were printed.
abbrev pub EndsDone : List Text → FileContents → Option FileContents → Option Text → Option Text → Type 0
EndsDone words old new before after =
    JobIsDone words old (λ writes lines. (new ≡ Some (made writes old)) × Gains lines before after)

-- The job is refused, and the line of the refusal was printed.
abbrev pub EndsRefused : List Text → FileContents → Option Text → Option Text → Type 0
EndsRefused words old before after = (text : Text) × HasJob words old (Refused text) × Gains (stop_line text) before after

-- A file that the command reads could not be read at its turn (`FailsAtItsTurn`), and the task was
-- not refused before any file was read.
abbrev pub FailsToRead : List Text → Option FileContents → (Text → ℕ) → (Text → ℕ) → Text → Type 0
FailsToRead words held before now name =
    (task : Task) × (task_of words ≡ Some task) × (refused_before task ≡ None) × FailsAtItsTurn held before now (inputs_of task) most_input name

-- A file that the command may write could not be written. If the contents of the files are known,
-- the job is done and writes this file.
abbrev pub FailsToWrite : List Text → Option FileContents → (Text → ℕ) → (Text → ℕ) → Text → Type 0
FailsToWrite words held before now name =
    (task : Task) × (task_of words ≡ Some task) × MayWrite task held name × Rose (before name) (now name)
    × IfSome held (λ files. JobIsDone words files (λ writes lines. Contains (written_names writes) name))

-- Standard output could not be written. If the contents of the files are known, the job is done and
-- all its writes are made.
abbrev pub FailsToPrint : List Text → Option FileContents → Option FileContents → ℕ → ℕ → Type 0
FailsToPrint words held new before now =
    Rose before now × IfSome held (λ files. JobIsDone words files (λ writes lines. new ≡ Some (made writes files)))

-- The arguments ask for no task that may print lines.
abbrev pub PrintsNothing : List Text → Type 0
PrintsNothing words = (task : Task) → task_of words ≡ Some task → may_print task ≡ false

-- The status of a job if no file and no stream fails. A job whose file is missing has none.
abbrev pub StatusOfJob : Job → Status → Type 0
StatusOfJob Usage s = s ≡ status.Usage
StatusOfJob Missing s = ⊥
StatusOfJob (Refused text) s = s ≡ status.Refused
StatusOfJob (Done writes lines) s = s ≡ status.Done

-- The arguments have a job over these files, and this is the status of each such job.
pub record HasStatus (words : List Text) (files : FileContents) (s : Status) : Type 0 where
  pub some : (job : Job) × HasJob words files job
  pub each : (job : Job) → HasJob words files job → StatusOfJob job s

-- The files and standard output, with their counts of faults, before or after a run.
pub record HostState : Type 0 where
  pub files : Option FileContents
  pub reads : Text → ℕ
  pub writes : Text → ℕ
  pub out : Option Text
  pub out_faults : ℕ

-- A file or stream failed. Unless it was standard error, a line there says which.
abbrev pub HasOutsideCause : List Text → HostState → HostState → Option Text → Option Text → ℕ → ℕ → Type 0
HasOutsideCause words old new err err' before now =
    Rose before now
    ⊎ (((name : Text) × FailsToRead words old.files old.reads new.reads name × IsSame old.files new.files × IsSame old.out new.out × Gains (stop_line (cannot_read name)) err err')
    ⊎ (((name : Text) × FailsToWrite words old.files old.writes new.writes name × IsSame old.out new.out × Gains (stop_line (cannot_write name)) err err')
    ⊎ (FailsToPrint words old.files new.files old.out_faults new.out_faults × Gains (stop_line cannot_print) err err')))

-- A count of faults has risen.
abbrev pub SomeRose : HostState → HostState → ℕ → ℕ → Type 0
SomeRose old new before now =
    ((name : Text) × Rose (old.reads name) (new.reads name))
    ⊎ (((name : Text) × Rose (old.writes name) (new.writes name)) ⊎ (Rose old.out_faults new.out_faults ⊎ Rose before now))
