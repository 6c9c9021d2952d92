-- A file that encodes a tree is within the limits if no quantity in it is over its limit.
use Rattle.base_lists.proofs.Common.{◌≡◌, List, ℕ, Bool, Option, Some, None, inl, inr, sym, ap, ◌∙◌, ◌↔◌}
use Rattle.wasm_bytes.specs.Prelude.{IsBytes, FramesAreRead}
use Rattle.wasm_tree_spec.specs.Prelude.{Which, Module}
use Rattle.wasm_read_spec.specs.declared.fault.ReadFault.{ReadFault}
use Rattle.wasm_read_spec.specs.declared.fault.ReadFault.TheVariants.{Limit}
use Rattle.wasm_read_spec.specs.Prelude.{Spells, Within, read_at, Cause}
use Rattle.wasm_read_spec.specs.Contents.{fault_of as told_fault}
use Rattle.wasm_read_spec.proofs.FileLaws.{tree_found, tree_read}
use Rattle.wasm_read_spec.proofs.LimitLaws.{Got}
use Rattle.wasm_read_spec.proofs.SpelledLaws.{read_got}
use Rattle.wasm_read_spec.proofs.CauseLaws.{cause_met, cause_found}

pub within_where_nothing_is_over : FramesAreRead → (bytes : List ℕ) (many : Bool) (m : Module) → IsBytes bytes → Spells bytes m many → Within bytes many ↔ ((w : Which) → Cause bytes many (Limit w) → ⊥)
within_where_nothing_is_over reads bytes many m small h = (
  λ within w cause. none_some (sym (ap told_fault (tree_read reads many bytes m h within)) ∙ cause_met reads bytes many small (Limit w) cause),
  λ none. within_of none (read_got reads many bytes m h),
)
  where
    none_some : {w : ReadFault} → ◌≡◌ {A = Option ReadFault} None (Some w) → ⊥
    none_some k = cc

    within_of : ((w : Which) → Cause bytes many (Limit w) → ⊥) → Got Limit (read_at many bytes) m → Within bytes many
    within_of none (inl e) = (tree_found reads many bytes small m e).1
    within_of none (inr e) = absurd (none e.0 (cause_found reads bytes many small (Limit e.0) (ap told_fault e.1)))
