-- The replaced calls and the divided functions are those of the definitions of a split, where the
-- list of slots is that of the moved functions.
use Rattle.base_lists.proofs.Common.{◌≡◌, ℕ, suc, ◌+◌, ◌-◌, ◌<◌, arith, Bool, true, false, ◌&&◌, cond, List, [], ◌∷◌, ◌++◌, map, length, nat_eq, Option, Some, None, refl, sym, ap, ap₂, ◌∙◌, slice_get, slice_index, nat_le, nat_lt, pos, option_and_then, option_map_or, and-false, fun_ext, le-leb}
use Rattle.base_lists.proofs.Common.{le-ltb, lt-ltb, slice_index_is}
use Rattle.base_lists.specs.Every.{Every}
use Rattle.base_lists.specs.Places.{first_place, numbers}
use Rattle.wasm_tree_spec.specs.Prelude.{Func, Module, Instr, Call, funcs_of, type_of_func}
use Rattle.run_simulation.specs.Prelude.{gets, slot_call}
use Rattle.split_spec.specs.Prelude.{with_calls, call_by_slot, call_through_slot, place_among, slot_table, type_index, primary_func, primary_funcs, secondary_call, secondary_call_by_place, secondary_func}
use Rattle.split_slots.specs.declared.call_replacement.Calls.{Calls}
use Rattle.split_slots.specs.declared.call_replacement.Target.TheVariants as target
use Rattle.split_slots.specs.SlotLookup.{slot_at}
use Rattle.split_slots.specs.InstructionReplacements.{code_of_call, target_code, target_of}
use Rattle.split_slots.specs.DividedDefinitions.{parted_func, parted_funcs}
use Rattle.split_slots.proofs.SlotTables.{table_tells}

-- The calls in the primary module: all functions with slots are called through these.
pub record PrimaryCalls (m : Module) (moved : List ℕ) (c : Calls) : Type 0 where
  pub types : c.types.now ≡ funcs_of m
  pub slots : c.slots.now ≡ map (place_among moved) (numbers 0 (length (funcs_of m)))
  pub table : c.table ≡ slot_table m
  pub none : c.end ≡ 0

module _ (m : Module) (moved : List ℕ) (there : Every (λ f. f < length (funcs_of m)) moved) (c : Calls) (is : PrimaryCalls m moved c) where
  pub slot_is : (f : ℕ) → slot_at c.slots.now f ≡ place_among moved f
  slot_is f = ap (λ slots. slot_at slots f) is.slots ∙ table_tells moved (length (funcs_of m)) there f

  by_slot : (f : ℕ) (o : Option ℕ) → target_code c.table (target_of c f o) ≡ call_by_slot m o f
  by_slot f None = refl
  by_slot f (Some slot) =
      let past : nat_lt slot c.end ≡ false = ap (nat_lt slot) is.none ∙ le-ltb slot 0 (omega arith) in
      let other : nat_le c.first slot && nat_lt slot c.end ≡ false = ap (λ b. nat_le c.first slot && b) past ∙ and-false (nat_le c.first slot) in
      ap (λ b. target_code c.table (cond b (target.Func (c.base + (slot - c.first))) (target.Slot (slice_index c.types.now f) slot))) other ∙ ap₂ (λ t k. slot_call (slice_index t f) k (pos slot)) is.types is.table

  code_is : (f : ℕ) → code_of_call c f ≡ call_through_slot m moved f
  code_is f = ap (λ o. target_code c.table (target_of c f o)) (slot_is f) ∙ by_slot f (place_among moved f)

  pub body_is : (body : List Instr) → with_calls (code_of_call c) body ≡ with_calls (call_through_slot m moved) body
  body_is body = ap (λ code. with_calls code body) (fun_ext code_is)

  -- Each function on the list has the type that the index space of functions gives for its index.
  abbrev Typed : (first : ℕ) → List Func → Type 0
  Typed first fs = (i : ℕ) (f : Func) → slice_get fs i ≡ Some f → slice_get (funcs_of m) (first + i) ≡ Some f.ty

  one_is : (func : ℕ) (f : Func) (o : Option ℕ) → slice_get (funcs_of m) func ≡ Some f.ty → parted_func m.types c o f ≡ primary_func m moved o func f
  one_is func f None at = ap (λ body. record f { body = body }) (body_is f.body)
  one_is func f (Some slot) at =
      let ty = slice_index_is (funcs_of m) func f.ty at in
      let params = ap (λ o. option_map_or (λ t. t.params) (option_and_then (slice_get m.types) o) []) at in
      ap (λ body. record f { locals = []; body = body })
      (ap₂ (λ ps t. gets 0 ps ++ slot_call t c.table (pos slot)) (sym params) (sym ty) ∙ ap (λ k. gets 0 (option_map_or (λ t. t.params) (type_of_func m func) []) ++ slot_call (type_index m func) k (pos slot)) is.table)

  pub funcs_are : (first : ℕ) (fs : List Func) → Typed first fs → parted_funcs m.types c first fs ≡ primary_funcs m moved first fs
  funcs_are first [] typed = refl
  funcs_are first (f ∷ fs) typed =
      let zero_first : first ≡ first + 0 = omega arith in
      let at = ap (slice_get (funcs_of m)) zero_first ∙ typed 0 f refl in
      ap₂ (λ x xs. x ∷ xs) (ap (λ o. parted_func m.types c o f) (slot_is first) ∙ one_is first f (place_among moved first) at)
      (funcs_are (suc first) fs (λ i g e. let next : suc first + i ≡ first + suc i = omega arith in ap (slice_get (funcs_of m)) next ∙ typed (suc i) g e))

-- ---- calls of a secondary module with all functions that move ----

pub record SecondaryCalls (m : Module) (moved : List ℕ) (c : Calls) : Type 0 where
  pub types : c.types.now ≡ funcs_of m
  pub slots : c.slots.now ≡ map (place_among moved) (numbers 0 (length (funcs_of m)))
  pub base : c.base ≡ length (funcs_of m)
  pub from : c.first ≡ 0
  pub end : c.end ≡ length moved

pub place_less : (f : ℕ) (xs : List ℕ) (n s : ℕ) → first_place (nat_eq f) xs n ≡ Some s → s < n + length xs
place_less f [] n s e = cc
place_less f (x ∷ xs) n s e = split (nat_eq f x) e (place_less f xs (suc n) s)
  where
    split : (b : Bool) → cond b (Some n) (first_place (nat_eq f) xs (suc n)) ≡ Some s → (first_place (nat_eq f) xs (suc n) ≡ Some s → s < suc n + length xs) → s < n + suc (length xs)
    split true e later = let same : n ≡ s = cc in omega (arith, same)
    split false e later = let less = later e in omega (arith, less)

module _ (m : Module) (moved : List ℕ) (there : Every (λ f. f < length (funcs_of m)) moved) (c : Calls) (is : SecondaryCalls m moved c) where
  by_place : (f : ℕ) (o : Option ℕ) → place_among moved f ≡ o → target_code c.table (target_of c f o) ≡ secondary_call_by_place m moved o f
  by_place f None e = sym (ap (λ o. call_by_slot m o f) e)
  by_place f (Some place) e =
      let less : place < 0 + length moved = place_less f moved 0 place e in
      let below : nat_le c.first place ≡ true = ap (λ n. nat_le n place) is.from ∙ le-leb 0 place (omega arith) in
      let before : nat_lt place c.end ≡ true = ap (nat_lt place) is.end ∙ lt-ltb place (length moved) (omega (arith, less)) in
      let own : nat_le c.first place && nat_lt place c.end ≡ true = ap₂ (λ a b. a && b) below before in
      let index : place - 0 ≡ place = omega arith in
      ap (λ b. target_code c.table (cond b (target.Func (c.base + (place - c.first))) (target.Slot (slice_index c.types.now f) place))) own
      ∙ ap₂ (λ b n. Call (b + (place - n)) ∷ []) is.base is.from ∙ ap (λ n. Call (length (funcs_of m) + n) ∷ []) index

  pub own_code_is : (f : ℕ) → code_of_call c f ≡ secondary_call m moved moved f
  own_code_is f =
      ap (λ o. target_code c.table (target_of c f o)) (ap (λ slots. slot_at slots f) is.slots ∙ table_tells moved (length (funcs_of m)) there f) ∙ by_place f (place_among moved f) refl

  pub own_func_is : (f : Func) → record f { body = with_calls (code_of_call c) f.body } ≡ secondary_func m moved moved f
  own_func_is f = ap (λ code. record f { body = with_calls code f.body }) (fun_ext own_code_is)
