use Rattle.base_lists.proofs.Common.{false, Some, None}
use Rattle.wasm_read_spec.specs.declared.fault.ReadFault.TheVariants as fault
use Rattle.wasm_read.proofs.Calls.{call_found, call_only, call_fault, call_first, found_bounded, found_zero, told_by}
use Rattle.wasm_read.proofs.file.read.Goals as goal

pub returns-clause-found : goal.returns-clause-found
returns-clause-found c = call_found c.reading_is_exact.ensures.files false _ c.read_file.ensures.bytes _ c.read_file.ensures.gives

pub returns-clause-only : goal.returns-clause-only
returns-clause-only c = call_only c.reading_is_exact.ensures.files false _ c.read_file.ensures.bytes _ c.read_file.ensures.gives

pub returns-clause-fault : goal.returns-clause-fault
returns-clause-fault c = call_fault false _ _ c.read_file.ensures.gives

pub returns-clause-first : goal.returns-clause-first
returns-clause-first c = call_first false _ _ c.read_file.ensures.gives

pub returns-clause-not_module : goal.returns-clause-not_module
returns-clause-not_module c = told_by _ _ (c.read_file.ensures.bytes) c.faults_have_causes.ensures.causes c.read_file.ensures.gives fault.NotModule (λ h. cc)

pub returns-clause-malformed : goal.returns-clause-malformed
returns-clause-malformed c = λ n. told_by _ _ (c.read_file.ensures.bytes) c.faults_have_causes.ensures.causes c.read_file.ensures.gives (fault.Malformed n) (λ h. cc)

pub returns-clause-malformed_body : goal.returns-clause-malformed_body
returns-clause-malformed_body c = λ f. told_by _ _ (c.read_file.ensures.bytes) c.faults_have_causes.ensures.causes c.read_file.ensures.gives (fault.MalformedBody f) (λ h. cc)

pub returns-clause-unsupported : goal.returns-clause-unsupported
returns-clause-unsupported c = λ n. told_by _ _ (c.read_file.ensures.bytes) c.faults_have_causes.ensures.causes c.read_file.ensures.gives (fault.Unsupported n None) (λ h. cc)

pub returns-clause-unsupported_body : goal.returns-clause-unsupported_body
returns-clause-unsupported_body c = λ n f. told_by _ _ (c.read_file.ensures.bytes) c.faults_have_causes.ensures.causes c.read_file.ensures.gives (fault.Unsupported n (Some f)) (λ h. cc)

pub returns-clause-limit : goal.returns-clause-limit
returns-clause-limit c = λ which. told_by _ _ (c.read_file.ensures.bytes) c.faults_have_causes.ensures.causes c.read_file.ensures.gives (fault.Limit which) (λ h. cc)

pub returns-clause-within : goal.returns-clause-within
returns-clause-within c = λ m. c.encoded_files_are_within_limits_where_none_is_exceeded.ensures _ _ m c.read_file.ensures.bytes

pub returns-clause-bounded : goal.returns-clause-bounded
returns-clause-bounded c = found_bounded c.encoded_trees_are_bounded.ensures _ _ (call_found c.reading_is_exact.ensures.files false _ c.read_file.ensures.bytes _ c.read_file.ensures.gives)

pub returns-clause-memory : goal.returns-clause-memory
returns-clause-memory c = found_zero c.encoded_bodies_name_memory_zero.ensures _ _ (call_found c.reading_is_exact.ensures.files false _ c.read_file.ensures.bytes _ c.read_file.ensures.gives)
