-- Instructions on tables and element segments (WebAssembly Core 2.0, section 4.4.6).
use Rattle.std.proofs.Common.{ℕ, ◌+◌, ◌^◌, List, [], ◌∷◌, length, Option, Bool, cond, ◌&&◌, slice_get}
use Rattle.std.specs.Prelude.{nat_lt}
use Rattle.wasm_meaning.specs.Outcomes.{Outcome, Gives, IllTyped, bind, slice, overwrite, copies, or_trap, with_entry}
use Rattle.wasm_num.specs.Operations.{W32}
use Rattle.wasm_meaning.specs.State.{Val, Num, Ref, RefVal, Table, Env, Body, GrowTable, SetTable, DropElem, Act, Goes, AsksGrow}
use Rattle.wasm_meaning.specs.Values.{pop_num, pop_ref, type_of_ref, with_values, pushes}
use Rattle.wasm_tree.specs.SameTypes.{same_ref}
use Rattle.wasm_meaning.specs.Memory.{below_most, pop_three}

abbrev pub with_table : {B : Type 0} → Env → ℕ → (ℕ → Table → Outcome B) → Outcome B
with_table env i f = with_entry env.inst.tables i (λ a. with_entry env.store.tables a (f a))

-- The reference, if the table holds references of its type.
abbrev pub fits : Table → RefVal → Outcome RefVal
fits t r = cond (same_ref t.ty (type_of_ref r)) (Gives r) IllTyped

abbrev pub writes_table : Body → ℕ → Table → Option (List RefVal) → List Val → Outcome Act
writes_table h a t slots vs = bind (or_trap slots) (λ slots. Gives (Goes (SetTable a (record t { slots = slots })) (with_values h vs)))

abbrev pub get_slot : Body → ℕ → Table → Outcome Act
get_slot h a t = bind (pop_num W32 h.values) (λ i. bind (or_trap (slice_get t.slots i.0)) (λ r. pushes (with_values h i.1) (Ref r)))

abbrev pub table_get : Env → Body → ℕ → Outcome Act
table_get env h i = with_table env i (get_slot h)

abbrev pub set_slot : Body → ℕ → Table → Outcome Act
set_slot h a t = bind (pop_ref h.values) (λ r. bind (fits t r.0) (λ v. bind (pop_num W32 r.1) (λ i. writes_table h a t (overwrite t.slots i.0 (v ∷ [])) i.1)))

abbrev pub table_set : Env → Body → ℕ → Outcome Act
table_set env h i = with_table env i (set_slot h)

abbrev pub table_size : Env → Body → ℕ → Outcome Act
table_size env h i = with_table env i (λ a t. pushes h (Num W32 (length t.slots)))

abbrev pub table_may_grow : Table → ℕ → Bool
table_may_grow t count = (nat_lt (length t.slots + count) (2 ^ 32)) && (below_most t.most (length t.slots + count))

abbrev pub grow_table : Body → ℕ → Table → Outcome Act
grow_table h a t =
    bind (pop_num W32 h.values) (λ n. bind (pop_ref n.1) (λ r. bind (fits t r.0)
    (λ v. cond (table_may_grow t n.0) (Gives (AsksGrow (GrowTable a n.0 v) (length t.slots) n.0 (with_values h r.1))) (pushes (with_values h r.1) (Num W32 4294967295)))))

abbrev pub table_grow : Env → Body → ℕ → Outcome Act
table_grow env h i = with_table env i (grow_table h)

abbrev pub fill_table : Body → ℕ → Table → Outcome Act
fill_table h a t =
    bind (pop_num W32 h.values) (λ n. bind (pop_ref n.1) (λ r. bind (fits t r.0) (λ v. bind (pop_num W32 r.1) (λ d. writes_table h a t (overwrite t.slots d.0 (copies n.0 v)) d.1))))

abbrev pub table_fill : Env → Body → ℕ → Outcome Act
table_fill env h i = with_table env i (fill_table h)

-- Writes a range of `items`.
abbrev pub init_table : Body → List RefVal → ℕ → Table → Outcome Act
init_table h items a t = bind (pop_three h.values) (λ p. bind (or_trap (slice items p.0.1 p.0.2)) (λ b. writes_table h a t (overwrite t.slots p.0.0 b) p.1))

abbrev pub table_copy : Env → Body → (to source : ℕ) → Outcome Act
table_copy env h i j = with_table env j (λ b source. with_table env i (init_table h source.slots))

abbrev pub table_init : Env → Body → (segment table : ℕ) → Outcome Act
table_init env h s i = with_entry env.inst.elems s (λ e. with_entry env.store.elems e (λ e. with_table env i (init_table h e.items)))

abbrev pub elem_drop : Env → Body → ℕ → Outcome Act
elem_drop env h s = with_entry env.inst.elems s (λ a. Gives (Goes (DropElem a) h))
