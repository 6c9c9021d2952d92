-- Small runs of parts that are instantiated sequentially, computed.
use Rattle.base_lists.proofs.Common.{◌≡◌, refl, [], ◌∷◌, Some}
use Rattle.wasm_tree.specs.declared.instr.Instr.{out-Instr}
use Rattle.wasm_tree.specs.declared.instr.Instr.TheVariants as i
use Rattle.wasm_tree.specs.declared.module.ImportDesc.TheVariants as im
use Rattle.wasm_tree.specs.declared.module.ExportDesc.TheVariants as ex
use Rattle.wasm_num.specs.Operations.{wrapped, un_from, un_to, un_value, bin_from, bin_to, bin_value}
use Rattle.wasm_meaning.specs.Access.{load_to, load_width, loaded, store_from, stored}
use Rattle.wasm_meaning.specs.Prelude.{Number, World, Linked, LinkFault, InstanceTrapped, Asked, BadMove, Call, Answer, Refuse, events_sequential}
use Rattle.wasm_meaning.proofs.SmallRuns.{f, g, a, b, e, to_nothing, empty, code, giver, taker, two, returns}
use Rattle.wasm_meaning.proofs.MoreRuns.{starting, two_starts, hearing}

-- A world in which the part that exports comes before the part that imports from it.
abbrev taken_first : World
taken_first = record { parts = record { name = Some a; «module» = giver } ∷ (record { name = Some b; «module» = taker } ∷ []); view = (f, record { part = 1; what = ex.Func 1 }) ∷ [] }

-- A world of a part with a start, and then a part that imports what neither a part nor the
-- environment offers.
abbrev with_a_fault : World
with_a_fault = record { parts = record { name = Some a; «module» = starting 1 } ∷ (record { name = Some b; «module» = record empty { imports = record { «module» = f; field = g; desc = im.Func 0 } ∷ [] } } ∷ []); view = [] }

-- A world of a part whose start traps, and then another part.
abbrev with_a_trap : World
with_a_trap = record { parts = record { name = Some a; «module» = record empty { funcs = code 2 (i.Unreachable ∷ []) ∷ []; start = Some 0 } } ∷ (record { name = Some b; «module» = starting 2 } ∷ []); view = [] }

starts_come_in_turn : events_sequential two_starts hearing (Answer [] ∷ (Answer [] ∷ [])) 30 ≡ Asked (e, g) to_nothing (Number 1 ∷ []) ∷ (Asked (e, g) to_nothing (Number 2 ∷ []) ∷ (Linked ∷ []))
unfolding out-Instr denote.Hole.Carrier.out wrapped un_from un_to un_value bin_from bin_to bin_value load_to load_width loaded store_from stored
starts_come_in_turn = refl

the_next_part_waits_for_the_start : events_sequential two_starts hearing [] 30 ≡ Asked (e, g) to_nothing (Number 1 ∷ []) ∷ []
unfolding out-Instr denote.Hole.Carrier.out wrapped un_from un_to un_value bin_from bin_to bin_value load_to load_width loaded store_from stored
the_next_part_waits_for_the_start = refl

a_fault_comes_after_an_earlier_start : events_sequential with_a_fault hearing (Answer [] ∷ (Call f [] ∷ [])) 30 ≡ Asked (e, g) to_nothing (Number 1 ∷ []) ∷ (LinkFault ∷ (BadMove ∷ []))
unfolding out-Instr denote.Hole.Carrier.out wrapped un_from un_to un_value bin_from bin_to bin_value load_to load_width loaded store_from stored
a_fault_comes_after_an_earlier_start = refl

a_start_that_traps_ends_all_turns : events_sequential with_a_trap hearing (Answer [] ∷ []) 30 ≡ InstanceTrapped ∷ (BadMove ∷ [])
unfolding out-Instr denote.Hole.Carrier.out wrapped un_from un_to un_value bin_from bin_to bin_value load_to load_width loaded store_from stored
a_start_that_traps_ends_all_turns = refl

a_refused_start_ends_all_turns : events_sequential two_starts hearing (Refuse ∷ []) 30 ≡ Asked (e, g) to_nothing (Number 1 ∷ []) ∷ (InstanceTrapped ∷ [])
unfolding out-Instr denote.Hole.Carrier.out wrapped un_from un_to un_value bin_from bin_to bin_value load_to load_width loaded store_from stored
a_refused_start_ends_all_turns = refl

a_part_may_take_from_an_earlier_one : events_sequential taken_first [] (Call f [] ∷ []) 30 ≡ returns (Number 43 ∷ [])
unfolding out-Instr denote.Hole.Carrier.out wrapped un_from un_to un_value bin_from bin_to bin_value load_to load_width loaded store_from stored
a_part_may_take_from_an_earlier_one = refl

a_later_part_is_not_there : events_sequential (two giver) [] (Call f [] ∷ []) 30 ≡ LinkFault ∷ (BadMove ∷ [])
unfolding out-Instr denote.Hole.Carrier.out wrapped un_from un_to un_value bin_from bin_to bin_value load_to load_width loaded store_from stored
a_later_part_is_not_there = refl
