-- What a fault says about repeated names.
use Rattle.std.specs.Prelude.{◌≡◌, Option, Some}
use Rattle.wasm_meaning.specs.State.{Text}
use Rattle.merge_spec.specs.declared.faults.JoinFault.{JoinFault}
use Rattle.merge_spec.specs.declared.faults.JoinFault.TheVariants.{ExportConflict, TooMany, NoMemory}

-- the fault reports `repeated` as the repeated name, or says that memory ran out
abbrev pub IsRepeatOf : JoinFault → Option Text → Type 0
IsRepeatOf (ExportConflict name) repeated = repeated ≡ Some name
IsRepeatOf (TooMany which) repeated = ⊥
IsRepeatOf NoMemory repeated = Unit {0}
