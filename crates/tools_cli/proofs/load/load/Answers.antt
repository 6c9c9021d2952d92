use Rattle.base_lists.proofs.Common.{◌≡◌, false, Ok, Err, IfOk-weaker, IfErr-weaker}
use Rattle.tools_cli_spec.specs.Prelude.{Text, LoadsFile, IsReadAs, IsAccepted}
use Rattle.tools_cli_decide.specs.Prelude.{StopsWith}
use Rattle.tools_cli.specs.Causes.{InvalidText}
use Rattle.tools_cli.proofs.Loading.{stops_weaker, faulty_from, loaded_from, invalid_from}
use Rattle.tools_cli.proofs.load.load.Goals as goal

pub returns-in-Ok-clause-loaded : goal.returns-in-Ok-clause-loaded
returns-in-Ok-clause-loaded c =
    let input = c.args.input.now in
    let reads : IsReadAs false input.bytes.items c.in-Ok.tree = record { spelled = rw c.as_slice.ensures.value at c.in-Ok.ensures.found.0; within = rw c.as_slice.ensures.value at c.in-Ok.ensures.found.1 } in
    IfOk-weaker c.accept.result (λ valid. (valid ≡ c.in-Ok.tree) × IsAccepted false c.in-Ok.tree) (λ valid. LoadsFile false input.name.now input.bytes.items (Ok valid))
    (λ valid h. loaded_from input.name.now input.bytes.items c.in-Ok.tree valid reads h) c.accept.ensures.accepted

pub returns-in-Ok-clause-stops : goal.returns-in-Ok-clause-stops
returns-in-Ok-clause-stops c =
    let input = c.args.input.now in
    let reads : IsReadAs false input.bytes.items c.in-Ok.tree = record { spelled = rw c.as_slice.ensures.value at c.in-Ok.ensures.found.0; within = rw c.as_slice.ensures.value at c.in-Ok.ensures.found.1 } in
    let P : Text → Type 0 = InvalidText input.name.now c.in-Ok.tree in
    let Q : Text → Type 0 = λ text. LoadsFile false input.name.now input.bytes.items (Err text) in
    IfErr-weaker c.accept.result (StopsWith P) (StopsWith Q)
    (λ s h. stops_weaker P Q (invalid_from input.name.now input.bytes.items c.in-Ok.tree reads) s h) c.accept.ensures.stops

pub returns-in_ok-refuse_fault-in-Err-clause-stops : goal.returns-in_ok-refuse_fault-in-Err-clause-stops
returns-in_ok-refuse_fault-in-Err-clause-stops c =
    let input = c.args.input.now in
    faulty_from input.name.now input.bytes.items c.as_slice.result.now _ c.in-Err.fault c.as_slice.ensures.value c.in-Err.ensures.fault c.in_ok-refuse_fault-in-Err.ensures
