-- Writes to files, complete or cut short.
use Rattle.std.specs.Prelude.{◌≡◌, ◌⊎◌, List, [], ◌∷◌, map}
use Rattle.std.specs.FinMap.{insert}
use Rattle.tool_io.specs.FilesAndSinks.{FileContents, IsUnchangedOrCut}
use Rattle.tools_cli_spec.specs.CommandLine.{Text}

-- The name and the bytes of a file that was read or is to be written.
abbrev pub NamedFile : Type 0
NamedFile = Text × Text

-- The files after all these writes, in order.
abbrev pub made : List NamedFile → FileContents → FileContents
made [] files = files
made (w ∷ writes) files = made writes (insert files w.0 w.1)

-- The files after some first writes; the next may be cut short: its name holds its old contents or
-- a prefix of the new ones.
abbrev pub AreWrittenInPart : List NamedFile → FileContents → FileContents → Type 0
AreWrittenInPart [] old new = new ≡ old
AreWrittenInPart (w ∷ writes) old new = IsUnchangedOrCut w.0 w.1 old new ⊎ AreWrittenInPart writes (insert old w.0 w.1) new

-- The names that are written.
abbrev pub written_names : List NamedFile → List Text
written_names writes = map (λ w. w.0) writes
