-- A module is accepted, or has a first invalid item.
use Rattle.std.proofs.Common.{Bool, true, false, List, [], ◌∷◌, ◌++◌, length, ◌⊎◌, inl, inr}
use Rattle.wasm_tree.specs.declared.module.Module.{Module}
use Rattle.wasm_valid.specs.Validity.{HoldsAt, Item, item, items, span, EachHolds}
use Rattle.wasm_valid.specs.declared.kinds.Invalid.{Invalid}
use Rattle.wasm_valid.specs.First.{IsFirstInvalid, ValidOrFirstInvalid}
use Rattle.tools_cli_spec.specs.Job.{IsAccepted}
use Rattle.tools_cli_proof.proofs.Existing.{IsDecided}
use Rattle.wasm_valid.specs.declared.kinds.ItemKind.TheVariants as kind

without : (m : Module) (xs ys : List Item) (x : Item) → EachHolds m (xs ++ x ∷ ys) → EachHolds m (xs ++ ys) × HoldsAt m x.kind x.place
without m [] ys x h = (h.1, h.0)
without m (z ∷ xs) ys x h = let rest = without m xs ys x h.1 in ((h.0, rest.0), rest.1)

accepted_where : (many : Bool) (m : Module) → EachHolds m (items m many) → IsAccepted many m
accepted_where true m h = record { valid = h; single = λ e. absurd (cc) }
accepted_where false m h = let both = without m (span kind.Import 0 (length m.imports)) _ (item kind.Memories 0) h in record { valid = both.0; single = λ e. both.1 }

pub tree_decided : ValidOrFirstInvalid → (many : Bool) (m : Module) → IsDecided many m
tree_decided decided many m = by (decided m many)
  where
    by : EachHolds m (items m many) ⊎ ((e : Invalid) × IsFirstInvalid m many e) → IsDecided many m
    by (inl all) = inl (accepted_where many m all)
    by (inr first) = inr first
