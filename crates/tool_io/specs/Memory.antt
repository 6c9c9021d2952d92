-- What contracts say of files and sinks in memory.
use Rattle.std.specs.Prelude.{◌+◌, ◌-◌, ◌^◌, ◌/◌, ◌++◌, min, ℕ, Bool, ◌==◌, is_none, List, length, take, refl, map, String, Vec, string_bytes}
use Rattle.std.specs.Coded.{Coded, code_by, coded×, coded_ℕ, coded_list}
use Rattle.std.specs.List.{list_any}
use Rattle.std.specs.Ordering.{nat_cmp}
use Rattle.std.specs.Cmp.Lexicographic.{slice_cmp}
use Rattle.std.specs.declared.alloc.Global.{Global}
use Rattle.std.specs.FinMap as finmap
use Rattle.tool_io.specs.FilesAndSinks.{FileContents}

-- Files in memory: the contents, the number of calls and of faults so far, and the numbers of the
-- calls that fail.
pub record Disk : Type 0 where
  pub contents : FileContents
  pub calls : ℕ
  pub faults : ℕ
  pub failing : List ℕ

abbrev pub disk_code : Coded Disk
disk_code =
    code_by (FileContents × (ℕ × (ℕ × List ℕ)))
    (coded× (finmap.code {R = slice_cmp nat_cmp} (coded_list coded_ℕ) (coded_list coded_ℕ)) (coded× coded_ℕ (coded× coded_ℕ (coded_list coded_ℕ))))
    (λ d. (d.contents, (d.calls, (d.faults, d.failing))))
    (λ p. record { contents = p.0; calls = p.1.0; faults = p.1.1.0; failing = p.1.1.1 }) (λ _. refl)

-- A sink in memory, with the same counts.
pub record Tape : Type 0 where
  pub bytes : List ℕ
  pub calls : ℕ
  pub faults : ℕ
  pub failing : List ℕ

-- A `u64` count after one more; it stays at the greatest `u64`.
abbrev pub one_more : ℕ → ℕ
one_more n = min (n + 1) (2 ^ 64 - 1)

-- The number is in the list.
abbrev pub is_listed : List ℕ → ℕ → Bool
is_listed numbers n = list_any (λ x. x == n) numbers

-- The name and the bytes of an entry of a log.
abbrev pub entry_of : String Global × Vec ℕ Global → List ℕ × List ℕ
entry_of e = (string_bytes e.0, e.1.items)

-- The files after a log of writes, the newest first.
abbrev pub files_of : List (String Global × Vec ℕ Global) → FileContents
files_of log = finmap.from_entries (map entry_of log)

-- The next call is one of those that fail.
abbrev pub next_fails : Disk → Bool
next_fails d = is_listed d.failing (one_more d.calls)

-- No file has this name.
abbrev pub is_missing : Disk → List ℕ → Bool
is_missing d name = is_none (finmap.get d.contents name)

-- The files after one more call, and then after one more that failed.
abbrev pub called : Disk → Disk
called d = record d { calls = one_more d.calls }

abbrev pub faulted : Disk → Disk
faulted d = record d { calls = one_more d.calls; faults = one_more d.faults }

-- The files with these bytes under the name.
abbrev pub holding : Disk → List ℕ → List ℕ → Disk
holding d name bytes = record d { contents = finmap.insert d.contents name bytes }

-- The first half of the bytes, which a call that fails writes.
abbrev pub first_half : List ℕ → List ℕ
first_half bytes = take (length bytes / 2) bytes

-- The next `put` is one of those that fail.
abbrev pub next_put_fails : Tape → Bool
next_put_fails t = is_listed t.failing (one_more t.calls)

-- The sink after one more `put` of this text, and then after one that failed and left this text.
abbrev pub gained : Tape → List ℕ → Tape
gained t text = record t { bytes = t.bytes ++ text; calls = one_more t.calls }

abbrev pub gained_at_fault : Tape → List ℕ → Tape
gained_at_fault t text = record t { bytes = t.bytes ++ text; calls = one_more t.calls; faults = one_more t.faults }
