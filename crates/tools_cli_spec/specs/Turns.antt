-- The files whose turn to be read comes, and those that a task may write.
use Rattle.std.specs.Prelude.{◌≡◌, ℕ, ◌-◌, ltb, if◌then◌else◌, List, [], ◌∷◌, length, map, Contains, Option, Some, None, IfSome}
use Rattle.std.specs.FinMap.{get}
use Rattle.tool_io.specs.FilesAndSinks.{FileContents, Rose}
use Rattle.tools_cli_spec.specs.CommandLine.{Text, Task, texts_of, outputs_of}

-- The names whose turn comes after a first file: none if that file is missing or longer than
-- `left`.
abbrev pub turns_after : ℕ → Option Text → (ℕ → List Text) → List Text
turns_after left None rest = []
turns_after left (Some bytes) rest = if ltb left (length bytes) then [] else rest (left - length bytes)

-- The names whose turn comes if `left` bytes may be read: all up to and including the first file
-- that is missing or too long.
abbrev pub turns : List Text → FileContents → ℕ → List Text
turns [] files left = []
turns (name ∷ names) files left = name ∷ turns_after left (get files name) (turns names files)

-- The file is one of `names`, its count of faults has risen, and, if the contents are known, its
-- turn had come (`turns`).
abbrev pub FailsAtItsTurn : Option FileContents → (Text → ℕ) → (Text → ℕ) → List Text → ℕ → Text → Type 0
FailsAtItsTurn held before now names most file =
    Contains names file × Rose (before file) (now file) × IfSome held (λ files. Contains (turns names files most) file)

-- The files `names` hold `texts`, if the contents are known.
abbrev pub MayHold : Option FileContents → List Text → List Text → Type 0
MayHold held names texts = IfSome held (λ files. map (get files) names ≡ map Some texts)

-- The task may write a file of this name, given the contents of the files that it reads besides its
-- modules (some contents, if they are not known).
abbrev pub MayWrite : Task → Option FileContents → Text → Type 0
MayWrite task held name = (texts : List Text) × MayHold held (texts_of task) texts × Contains (outputs_of task texts) name
