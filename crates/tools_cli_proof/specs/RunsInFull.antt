-- What the clauses of `run` say of a task, written out.
use Rattle.std.specs.Prelude.{◌≡◌, ◌⊎◌, ℕ, ◌+◌, ◌-◌, ◌^◌, ◌≤◌, min, List, ◌∷◌, ◌++◌, length, map, take, Option, Some, None, Contains, slice_get, codes}
use Rattle.std.specs.FinMap.{get, insert}
use Rattle.tool_io.specs.FilesAndSinks.{FileContents}
use Rattle.tools_cli_spec.specs.CommandLine.{Text, Task, task_of, inputs_of, outputs_of, texts_of}
use Rattle.tools_cli_spec.specs.Effects.{NamedFile, made, written_names}
use Rattle.tools_cli_spec.specs.Job.{Refused, Done, TaskJob, refused_before, most_input}
use Rattle.tools_cli_spec.specs.Turns.{turns}
use Rattle.tools_cli_spec.specs.Run.{HostState}
use Rattle.tools_cli_spec.specs.declared.status.Status.{Status}
use Rattle.tools_cli_spec.specs.declared.status.Status.TheVariants as status

-- The task of the command line is done over these files, with these writes and lines.
pub record TaskIsDone (words : List Text) (files : FileContents) (writes : List NamedFile) (lines : Text) : Type 0 where
  pub task : Task
  pub asked : task_of words ≡ Some task
  pub job : TaskJob task files (Done writes lines)

-- A sink that tells its bytes gained the text, and one that does not tells none afterwards.
pub record Gained (text : Text) (before after : Option Text) : Type 0 where
  pub told : (bytes : Text) → before ≡ Some bytes → after ≡ Some (bytes ++ text)
  pub untold : before ≡ None → after ≡ None

-- Each name that is written holds the bytes of its last write, and all other names are unchanged.
pub record AllMade (writes : List NamedFile) (old new : FileContents) : Type 0 where
  pub last : (earlier later : List NamedFile) (write : NamedFile) → writes ≡ earlier ++ write ∷ later → (Contains (written_names later) write.0 → ⊥) → get new write.0 ≡ Some write.1
  pub others : (name : Text) → (Contains (written_names writes) name → ⊥) → get new name ≡ get old name

-- `EndsDone`: the task of the command line is done, all its writes are made, and its lines were
-- printed.
pub record DoneInFull (words : List Text) (old : FileContents) (new : Option FileContents) (before after : Option Text) : Type 0 where
  pub writes : List NamedFile
  pub lines : Text
  pub files : FileContents
  pub done : TaskIsDone words old writes lines
  pub told : new ≡ Some files
  pub made : AllMade writes old files
  pub printed : Gained lines before after

-- `EndsRefused`: the task of the command line is refused with a text, and the line that has this
-- text was printed.
pub record RefusedInFull (words : List Text) (old : FileContents) (before after : Option Text) : Type 0 where
  pub task : Task
  pub text : Text
  pub asked : task_of words ≡ Some task
  pub job : TaskJob task old (Refused text)
  pub printed : Gained (codes "binkit: " ++ (text ++ codes "\n")) before after

-- The first `count` writes are made, and the next, if there is one, may be cut short.
pub record FirstWrites (writes : List NamedFile) (old new : FileContents) (count : ℕ) : Type 0 where
  pub few : count ≤ length writes
  pub next : (new ≡ made (take count writes) old)
      ⊎ ((write : NamedFile) × (size : ℕ) × (slice_get writes count ≡ Some write) × (new ≡ insert (made (take count writes) old) write.0 (take size write.1)))

-- `ChangesByTheJob`: the files are unchanged; or the task is done, some first writes are made, and
-- the next may be cut short.
abbrev pub ChangesInFull : List Text → FileContents → FileContents → Type 0
ChangesInFull words old new = (new ≡ old) ⊎ ((writes : List NamedFile) × (lines : Text) × (count : ℕ) × TaskIsDone words old writes lines × FirstWrites writes old new count)

-- `PrintsForTheJob`: the output is unchanged; or the task is done, all its writes are made, and the
-- output gained a prefix of its lines.
abbrev pub PrintsInFull : List Text → FileContents → Option FileContents → Text → Text → Type 0
PrintsInFull words old new before after =
    (after ≡ before)
    ⊎ ((writes : List NamedFile) × (lines : Text) × (files : FileContents) × (count : ℕ) × TaskIsDone words old writes lines
    × (new ≡ Some files) × AllMade writes old files × (after ≡ before ++ take count lines))

-- A count of faults is greater, or the greatest that it can be.
abbrev pub HasRisen : ℕ → ℕ → Type 0
HasRisen before now = min (before + 1) (2 ^ 64 - 1) ≤ now

-- A file could not be read: the task reads it, it was not refused before, and if the contents of
-- the files are known, then the turn of this file had come. Files and output are unchanged.
pub record ReadFails (words : List Text) (old new : HostState) (err err' : Option Text) : Type 0 where
  pub task : Task
  pub name : Text
  pub asked : task_of words ≡ Some task
  pub begun : refused_before task ≡ None
  pub input : Contains (inputs_of task) name
  pub risen : HasRisen (old.reads name) (new.reads name)
  pub turn : (files : FileContents) → old.files ≡ Some files → Contains (turns (inputs_of task) files most_input) name
  pub files : (files : FileContents) → old.files ≡ Some files → new.files ≡ Some files
  pub out : (bytes : Text) → old.out ≡ Some bytes → new.out ≡ Some bytes
  pub printed : Gained (codes "binkit: " ++ (codes "cannot read " ++ name ++ codes "\n")) err err'

-- A file could not be written: the task may write it, and if the contents of the files are known,
-- then the task is done and writes it. Standard output is unchanged.
pub record WriteFails (words : List Text) (old new : HostState) (err err' : Option Text) : Type 0 where
  pub task : Task
  pub name : Text
  pub texts : List Text
  pub asked : task_of words ≡ Some task
  pub held : (files : FileContents) → old.files ≡ Some files → map (get files) (texts_of task) ≡ map Some texts
  pub output : Contains (outputs_of task texts) name
  pub risen : HasRisen (old.writes name) (new.writes name)
  pub out : (bytes : Text) → old.out ≡ Some bytes → new.out ≡ Some bytes
  pub job : (files : FileContents) → old.files ≡ Some files → (writes : List NamedFile) × (lines : Text) × TaskIsDone words files writes lines × Contains (written_names writes) name
  pub printed : Gained (codes "binkit: " ++ (codes "cannot write " ++ name ++ codes "\n")) err err'

-- Standard output could not be written: if the contents of the files are known, then the task is
-- done and all its writes are made.
pub record PrintFails (words : List Text) (old new : HostState) (err err' : Option Text) : Type 0 where
  pub risen : HasRisen old.out_faults new.out_faults
  pub job : (files : FileContents) → old.files ≡ Some files → (writes : List NamedFile) × (lines : Text) × (after : FileContents) ×
      TaskIsDone words files writes lines × (new.files ≡ Some after) × AllMade writes files after
  pub printed : Gained (codes "binkit: cannot write standard output\n") err err'

-- `HasOutsideCause`: standard error could not be written, or a line there says what else could not
-- be read or written.
abbrev pub OutsideInFull : List Text → HostState → HostState → Option Text → Option Text → ℕ → ℕ → Type 0
OutsideInFull words old new err err' before now = HasRisen before now ⊎ (ReadFails words old new err err' ⊎ (WriteFails words old new err err' ⊎ PrintFails words old new err err'))

-- `HasStatus`: the command line asks for no task, or its task is refused, or its task is done; and
-- whatever job it has over these files, the status is that of this job.
pub record StatusInFull (words : List Text) (files : FileContents) (s : Status) : Type 0 where
  pub some : (task_of words ≡ None) ⊎ ((task : Task) × (task_of words ≡ Some task) ×
      (((text : Text) × TaskJob task files (Refused text)) ⊎ ((writes : List NamedFile) × (lines : Text) × TaskJob task files (Done writes lines))))
  pub usage : task_of words ≡ None → s ≡ status.Usage
  pub refused : (task : Task) (text : Text) → task_of words ≡ Some task → TaskJob task files (Refused text) → s ≡ status.Refused
  pub done : (task : Task) (writes : List NamedFile) (lines : Text) → task_of words ≡ Some task → TaskJob task files (Done writes lines) → s ≡ status.Done
