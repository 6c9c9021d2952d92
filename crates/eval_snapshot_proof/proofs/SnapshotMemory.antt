-- The data segments of a snapshot, copied over zeros, give the contents of the memory: the old ones
-- are passive, so that they are not copied.
use Rattle.base_lists.proofs.Common.{◌≡◌, ◌∙◌, ap, refl, ℕ, suc, ◌≤◌, ◌^◌, List, [], ◌∷◌, ◌++◌, length, Bool, true, false, cond, not, ◌&&◌, Option, Some, option_and_then, slice_get, ℤ, and_parts}
use Rattle.base_lists.specs.Every.{Every}
use Rattle.wasm_tree_spec.specs.Prelude.{any_uses_data, ConstExpr, DataMode, DataSeg, Module}
use Rattle.wasm_tree.specs.declared.module.ConstExpr.TheVariants as const
use Rattle.wasm_tree.specs.declared.module.DataMode.TheVariants as data'
use Rattle.wasm_num.specs.Operations.{W32, wrapped}
use Rattle.wasm_meaning.specs.Prelude.{copies, Val, Num, Inst}
use Rattle.world_simulation.specs.InstantiatedStores.{all_over, data_copies, data_copy, over}
use Rattle.eval_spec.specs.Prelude.{State, is_dropped}
use Rattle.eval_snapshot_spec.specs.Contents.{contents}
use Rattle.eval_snapshot_spec.specs.Snapshot.{emptied, is_passive, old_segments, segment_left, segments_left}
use Rattle.eval_snapshot_proof.proofs.MemoryContents.{contents_stand}

abbrev IsPassive : DataSeg → Type 0
IsPassive d = d.mode ≡ data'.Passive

passive_is : (mode : DataMode) → is_passive mode ≡ true → mode ≡ data'.Passive
passive_is data'.Passive e = refl
passive_is (data'.Active memory offset) e = absurd (let f = e in cc)

left_passive : (s : State) (n : ℕ) (d : DataSeg) → IsPassive (segment_left s n d)
left_passive s n d = by (is_passive d.mode && not (is_dropped s n)) refl
  where
    by : (b : Bool) → is_passive d.mode && not (is_dropped s n) ≡ b → IsPassive (cond b d emptied)
    by true e = passive_is d.mode (and_parts (is_passive d.mode) (not (is_dropped s n)) e).0
    by false e = refl

all_left_passive : (s : State) (n : ℕ) (ds : List DataSeg) → Every IsPassive (segments_left s n ds)
all_left_passive s n [] = tt
all_left_passive s n (d ∷ ds) = (left_passive s n d, all_left_passive s (suc n) ds)

pub old_passive : (m : Module) (s : State) → Every IsPassive (old_segments m s)
old_passive m s = by (any_uses_data m.funcs)
  where
    by : (b : Bool) → Every IsPassive (cond b (segments_left s 0 m.datas) [])
    by true = all_left_passive s 0 m.datas
    by false = tt

module _ (value : ConstExpr → Option Val) (i : Inst) where
  -- Passive segments are not copied.
  not_copied : (a : ℕ) (ds es : List DataSeg) → Every IsPassive ds → (xs : List ℕ) → all_over a (data_copies value i (ds ++ es)) xs ≡ all_over a (data_copies value i es) xs
  not_copied a [] es h xs = refl
  not_copied a (d ∷ ds) es h xs = ap (λ mode. option_and_then (all_over a (data_copies value i (ds ++ es))) (over a (data_copy value i d mode) xs)) h.0 ∙ not_copied a ds es h.1 xs

  pub snapshot_memory : (memory a : ℕ) → slice_get i.mems memory ≡ Some a → ((v : ℤ) → value (const.I32 v) ≡ Some (Num W32 (wrapped 32 v))) → (m : Module) (s : State) (bytes : List ℕ) → length bytes ≤ 2 ^ 32 →
      all_over a (data_copies value i (old_segments m s ++ contents memory bytes)) (copies {A = ℕ} (length bytes) 0) ≡ Some bytes
  snapshot_memory memory a there numbers m s bytes small = not_copied a (old_segments m s) (contents memory bytes) (old_passive m s) (copies {A = ℕ} (length bytes) 0) ∙ contents_stand value i memory a there numbers bytes small
