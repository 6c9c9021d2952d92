-- The loop that replaces the calls in code, one instruction at a time.
use Rattle.base_lists.proofs.Common.{◌≡◌, ℕ, zero, suc, ◌+◌, ◌-◌, ◌<◌, ◌≤◌, arith, length, Bool, true, false, ◌&&◌, cond, List, [], ◌∷◌, ◌++◌, map, take, drop, Option, Some, None, ◌⊎◌, inl, inr, refl, sym, ap, ap₂, ◌∙◌, slice_get, slice_index, append_assoc, add-one, nat_le, nat_lt, flat_map, part}
use Rattle.base_lists.proofs.Common.{part_at, cases_lt}
use Rattle.wasm_tree_spec.specs.Prelude.{BlockType, Instr, fold_out-Instr, map-Instr, Block, Block', Loop, Loop', If, If', Call, outs-Block, outs-Loop, outs-If}
use Rattle.wasm_tree.specs.declared.instr.Instr.{out-Instr}
use Rattle.wasm_tree.specs.declared.instr.Instr.TheOpen.{Instr-F}
use Rattle.wasm_tree.specs.declared.instr.Instr.TheViews.{outs-Block', outs-Loop', outs-If'}
use Rattle.std.proofs.lemmas.List.{append-nil}
use Rattle.split_spec.specs.Prelude.{calls_in, calls_step, with_calls}
use Rattle.split_slots.specs.SlotLookup.{slot_at}
use Rattle.split_slots.specs.declared.call_replacement.Calls.{Calls}
use Rattle.split_slots.specs.declared.call_replacement.Target.{Target}
use Rattle.split_slots.specs.declared.call_replacement.Target.TheVariants as target
use Rattle.split_slots.specs.InstructionReplacements.{FewSlots, code_here, code_of_call, is_slot, is_spread, layer_code, layer_settled, settled, settled_by, target_code, target_of}

-- ---- calls ----

-- An index of a function in its own secondary module has no slot.
no_slot : (c : Calls) → FewSlots c → (k : ℕ) → slot_at c.slots.now (c.base + k) ≡ None
no_slot c few k = of (slot_at c.slots.now (c.base + k)) refl
  where
    of : (o : Option ℕ) → slot_at c.slots.now (c.base + k) ≡ o → o ≡ None
    of None e = refl
    of (Some slot) e = absurd (omega (arith, (few (c.base + k) slot e).3))

-- The code that replaces a call is the same after the call is settled, that is, after its operand
-- is the function of the secondary module itself.
settled_code : (c : Calls) → FewSlots c → (f : ℕ) (o : Option ℕ) → slot_at c.slots.now f ≡ o → code_of_call c (settled_by f (target_of c f o)) ≡ target_code c.table (target_of c f o)
settled_code c few f None at = ap (λ o. target_code c.table (target_of c f o)) at
settled_code c few f (Some slot) at = of (nat_le c.first slot && nat_lt slot c.end) refl
  where
    target_if : Bool → Target
    target_if b = cond b (target.Func (c.base + (slot - c.first))) (target.Slot (slice_index c.types.now f) slot)

    of : (b : Bool) → (nat_le c.first slot && nat_lt slot c.end) ≡ b → code_of_call c (settled_by f (target_if b)) ≡ target_code c.table (target_if b)
    of true e = ap (λ o. target_code c.table (target_of c (c.base + (slot - c.first)) o)) (no_slot c few (slot - c.first))
    of false e = ap (λ o. target_code c.table (target_of c f o)) at ∙ ap (λ b. target_code c.table (target_if b)) e

-- A call that does not go through a slot remains one instruction.
one_call : (table f : ℕ) (t : Target) → is_slot t ≡ false → target_code table t ≡ Call (settled_by f t) ∷ []
one_call table f (target.Func own) e = refl
one_call table f (target.Slot ty slot) e = cc

-- ---- blocks ----

joined_map : (f : Instr → List Instr) (is : List Instr) → flat_map (λ code. code) (map f is) ≡ flat_map f is
joined_map f [] = refl
joined_map f (i ∷ is) = ap (λ code. f i ++ code) (joined_map f is)

-- ---- one instruction ----

module _ (c : Calls) (few : FewSlots c) where
  abbrev code : ℕ → List Instr
  code = code_of_call c

  abbrev step : Instr-F Instr → List Instr
  step l = calls_step code (map-Instr Instr (List Instr) (calls_in code) l)

  -- A settled block, loop or if is replaced by itself.
  one_block : (i : Instr) (ty : BlockType) (body : List Instr) → out-Instr i ≡ Instr-F.Block ty body → (code_here code (settled c i) ≡ settled c i ∷ []) × (code_here code (settled c i) ≡ calls_in code i)
  one_block i ty body e =
      let held = with_calls code body in
      let same : settled c i ≡ Block ty held = ap (λ l. layer_settled c l i) e in
      let is : code_here code (settled c i) ≡ Block ty held ∷ [] = ap (code_here code) same ∙ ap (λ l. layer_code code l (Block ty held)) (outs-Block ty held) in
      (is ∙ ap (λ i. i ∷ []) (sym same), is ∙ sym (fold_out-Instr (List Instr) (calls_step code) i ∙ ap step e ∙ ap (λ is. Block ty is ∷ []) (joined_map (calls_in code) body)))

  one_loop : (i : Instr) (ty : BlockType) (body : List Instr) → out-Instr i ≡ Instr-F.Loop ty body → (code_here code (settled c i) ≡ settled c i ∷ []) × (code_here code (settled c i) ≡ calls_in code i)
  one_loop i ty body e =
      let held = with_calls code body in
      let same : settled c i ≡ Loop ty held = ap (λ l. layer_settled c l i) e in
      let is : code_here code (settled c i) ≡ Loop ty held ∷ [] = ap (code_here code) same ∙ ap (λ l. layer_code code l (Loop ty held)) (outs-Loop ty held) in
      (is ∙ ap (λ i. i ∷ []) (sym same), is ∙ sym (fold_out-Instr (List Instr) (calls_step code) i ∙ ap step e ∙ ap (λ is. Loop ty is ∷ []) (joined_map (calls_in code) body)))

  one_if : (i : Instr) (ty : BlockType) (body other : List Instr) → out-Instr i ≡ Instr-F.If ty body other → (code_here code (settled c i) ≡ settled c i ∷ []) × (code_here code (settled c i) ≡ calls_in code i)
  one_if i ty body other e =
      let held = with_calls code body in
      let rest = with_calls code other in
      let same : settled c i ≡ If ty held rest = ap (λ l. layer_settled c l i) e in
      let is : code_here code (settled c i) ≡ If ty held rest ∷ [] = ap (code_here code) same ∙ ap (λ l. layer_code code l (If ty held rest)) (outs-If ty held rest) in (
        is ∙ ap (λ i. i ∷ []) (sym same),
        is ∙ sym (fold_out-Instr (List Instr) (calls_step code) i ∙ ap step e ∙ ap₂ (λ is os. If ty is os ∷ []) (joined_map (calls_in code) body) (joined_map (calls_in code) other)),
      )

  -- The code that replaces a settled instruction is the code that replaces the instruction.
  here : (i : Instr) → code_here code (settled c i) ≡ calls_in code i
  unfolding out-Instr denote.Hole.Carrier.out
  here (Block' ty n body) = (one_block (Block' ty n body) ty _ (outs-Block' ty n body)).1
  here (Loop' ty n body) = (one_loop (Loop' ty n body) ty _ (outs-Loop' ty n body)).1
  here (If' ty n body k other) = (one_if (If' ty n body k other) ty _ _ (outs-If' ty n body k other)).1
  here (Call f) = settled_code c few f (slot_at c.slots.now f) refl ∙ sym (fold_out-Instr (List Instr) (calls_step code) (Call f))
  here i = sym (fold_out-Instr (List Instr) (calls_step code) i)

  -- A settled instruction is replaced by itself, unless it is a call through a slot.
  one_stays : (i : Instr) → is_spread c i ≡ false → code_here code (settled c i) ≡ settled c i ∷ []
  unfolding out-Instr denote.Hole.Carrier.out
  one_stays (Block' ty n body) e = (one_block (Block' ty n body) ty _ (outs-Block' ty n body)).0
  one_stays (Loop' ty n body) e = (one_loop (Loop' ty n body) ty _ (outs-Loop' ty n body)).0
  one_stays (If' ty n body k other) e = (one_if (If' ty n body k other) ty _ _ (outs-If' ty n body k other)).0
  one_stays (Call f) e = settled_code c few f (slot_at c.slots.now f) refl ∙ one_call c.table f (target_of c f (slot_at c.slots.now f)) e
  one_stays i e = refl

  -- ---- a body ----

  spread_all : (is : List Instr) → flat_map (code_here code) (map (settled c) is) ≡ with_calls code is
  spread_all [] = refl
  spread_all (i ∷ is) = ap₂ (λ x y. x ++ y) (here i) (spread_all is)

  -- No instruction before the place is replaced by several instructions.
  abbrev pub NoneBefore : List Instr → ℕ → Type 0
  NoneBefore is n = (k : ℕ) (i : Instr) → k < n → slice_get is k ≡ Some i → is_spread c i ≡ false

  -- The replaced code is the settled code up to such a place, followed by the replacements from the
  -- place on.
  pub spread_behind : (is : List Instr) (n : ℕ) → NoneBefore is n → take n (map (settled c) is) ++ flat_map (code_here code) (drop n (map (settled c) is)) ≡ with_calls code is
  spread_behind is zero none = spread_all is
  spread_behind [] (suc n) none = refl
  spread_behind (i ∷ is) (suc n) none = ap₂ (λ x y. x ++ y) (sym (one_stays i (none 0 i (omega arith) refl)) ∙ here i) (spread_behind is n (λ k j lt at. none (suc k) j (omega (arith, lt)) at))

  pub all_settled : (is : List Instr) → NoneBefore is (length is) → map (settled c) is ≡ with_calls code is
  all_settled [] none = refl
  all_settled (i ∷ is) none = ap₂ (λ x y. x ++ y) (sym (one_stays i (none 0 i (omega arith) refl)) ∙ here i) (all_settled is (λ k j lt at. none (suc k) j (omega (arith, lt)) at))

-- ---- the walk over a body ----

pub part_all : {A : Type 0} (f : A → A) (xs : List A) (n : ℕ) → length xs ≤ n → part f xs n ≡ map f xs
part_all f [] zero le = refl
part_all f [] (suc n) le = refl
part_all f (x ∷ xs) zero le = absurd (omega (arith, le))
part_all f (x ∷ xs) (suc n) le = let less : length xs ≤ n = omega (arith, le) in ap (λ ys. f x ∷ ys) (part_all f xs n less)

-- A step of the search for the first item that passes a test: no item before the next place passes
-- it, where each item that passes moves the first place no later.
pub none_more : {A : Type 0} (f : A → Bool) (xs : List A) (at first next : ℕ) (x : A) → Some x ≡ slice_get xs at → next ≤ first → (f x ≡ true → next ≤ at) →
    ((k : ℕ) (y : A) → k < first → k < at → slice_get xs k ≡ Some y → f y ≡ false) → (k : ℕ) (y : A) → k < next → k < at + 1 → slice_get xs k ≡ Some y → f y ≡ false
none_more {A = A} f xs at first next x is le reached none k y lt less e = by (cases_lt k at)
  where
    held : Some x ≡ slice_get xs k → k ≡ at → (b : Bool) → f y ≡ b → b ≡ false
    held same i false holds = refl
    held same i true holds = let x_is : x ≡ y = cc in absurd (omega (arith, reached (ap f x_is ∙ holds), i, lt))

    by : (k < at) ⊎ (at ≤ k) → f y ≡ false
    by (inl before) = none k y (omega (arith, lt, le)) before e
    by (inr behind) = let i : k ≡ at = omega (arith, behind, less) in held (is ∙ ap (slice_get xs) (sym i)) i (f y) refl

pub part_item : {A : Type 0} (f : A → A) (xs : List A) (n : ℕ) (x : A) (old : List A) → old ≡ part f xs n → Some x ≡ slice_get old n → Some x ≡ slice_get xs n
part_item f xs n x old is at = at ∙ ap (λ ys. slice_get ys n) is ∙ part_at f xs n

-- A step of a loop over a list: the results for one more item follow those for the items before it.
pub given_more : {A B : Type 0} (f : A → List B) (xs : List A) (n : ℕ) (x : A) (ys : List B) → Some x ≡ slice_get xs n → (ys ++ flat_map f (take n xs)) ++ f x ≡ ys ++ flat_map f (take (n + 1) xs)
given_more f xs n x ys is = append_assoc ys (flat_map f (take n xs)) (f x) ∙ ap (λ zs. ys ++ zs) (rw add-one (given f xs n x is))
  where
    given : {A B : Type 0} (f : A → List B) (xs : List A) (n : ℕ) (x : A) → Some x ≡ slice_get xs n → flat_map f (take n xs) ++ f x ≡ flat_map f (take (suc n) xs)
    given f [] n x is = cc
    given f (y ∷ ys) zero x is = let same : x ≡ y = cc in ap f same ∙ sym (append-nil (f y))
    given f (y ∷ ys) (suc n) x is = append_assoc (f y) (flat_map f (take n ys)) (f x) ∙ ap (λ zs. f y ++ zs) (given f ys n x is)
