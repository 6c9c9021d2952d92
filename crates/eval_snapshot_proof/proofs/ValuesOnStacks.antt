-- Values that are expressible (numbers in range, null references and functions): a value that is
-- taken from a stack of them is one, and so is the result of an instruction on them.
use Rattle.base_lists.proofs.Common.{◌≡◌, ℕ, zero, suc, ◌+◌, ◌*◌, ◌^◌, ◌<◌, ◌/◌, arith, Bool, true, false, cond, List, [], ◌∷◌, length, Option, Some, None, subst, sym, nat_eq, mod-lt}
use Rattle.std.specs.Option.{IfSome}
use Rattle.std.proofs.Math.Nat.{pow-succ'}
use Rattle.base_lists.specs.Every.{Every}
use Rattle.wasm_tree_spec.specs.Prelude.{RefType, ValType, LoadOp, StoreOp, same_type}
use Rattle.wasm_tree.specs.declared.types.RefType.TheVariants as reft
use Rattle.wasm_tree.specs.declared.types.ValType.TheVariants as valt
use Rattle.wasm_tree.specs.declared.instr.LoadOp.TheVariants as load
use Rattle.wasm_tree.specs.declared.instr.StoreOp.TheVariants as store
use Rattle.wasm_num.specs.declared.UnOp.{UnOp}
use Rattle.wasm_num.specs.declared.BinOp.{BinOp}
use Rattle.wasm_num.specs.Operations.{Width, W32, W64, bits_of, un_from, bin_from, bin_to, bin_value}
use Rattle.wasm_meaning.specs.Prelude.{Outcome, Gives, Traps, IllTyped, bind, or_trap, or_ill_typed, RefVal, FuncRef, ExternRef, Val, Num, Ref, typed, type_of, null_of, zero_of, zeros, pop, num_of, ref_of, pop_num, pop_ref, pop_typed, unary, binary, ref_is_null, select_of, select_any, select_typed}
use Rattle.wasm_meaning.specs.Prelude.{pop_three}
use Rattle.wasm_meaning.specs.Access.{little, little_bytes, load_to, load_width, loaded, stored}
use Rattle.wasm_meaning.specs.Values.{is_null, second_type}
use Rattle.wasm_meaning.proofs.Outcomes.{AllOf, ill_typed, stopped, just, cond_all, with_is}
use Rattle.eval_snapshot_proof.specs.Ranges.{IsByte, IsNullOrFunction, IsExpressible}
use Rattle.eval_snapshot_proof.proofs.IntegerOperations.{unary_in, binary_in, extended_in}

-- ---- what a part of a step comes to ----

pub then_all : {A B : Type 0} {P : A → Type 0} {Q : B → Type 0} (o : Outcome A) (f : A → Outcome B) → AllOf P o → ((a : A) → P a → AllOf Q (f a)) → AllOf Q (bind o f)
then_all Traps f h k = stopped
then_all IllTyped f h k = ill_typed
then_all (Gives a) f (just h) k = k a h

pub found_all : {A B : Type 0} (P : A → Type 0) {Q : B → Type 0} (o : Option A) (f : A → Outcome B) → IfSome o P → ((a : A) → P a → AllOf Q (f a)) → AllOf Q (bind (or_ill_typed o) f)
found_all P None f h k = ill_typed
found_all P (Some a) f h k = k a h

pub within_all : {A B : Type 0} (P : A → Type 0) {Q : B → Type 0} (o : Option A) (f : A → Outcome B) → IfSome o P → ((a : A) → P a → AllOf Q (f a)) → AllOf Q (bind (or_trap o) f)
within_all P None f h k = stopped
within_all P (Some a) f h k = k a h

-- ---- what is on top of the stack ----

abbrev pub Vals : List Val → Type 0
Vals = Every IsExpressible

pub null_own : (t : RefType) → IsNullOrFunction (null_of t)
null_own reft.Func = tt
null_own reft.Extern = tt

pub zero_in : (t : ValType) → IsExpressible (zero_of t)
zero_in valt.I32 = omega arith
zero_in valt.I64 = omega arith
zero_in (valt.Ref r) = null_own r

pub zeros_in : (ts : List ValType) → Vals (zeros ts)
zeros_in [] = tt
zeros_in (t ∷ ts) = (zero_in t, zeros_in ts)

pub number_in : (w : Width) (v : Val) → IsExpressible v → IfSome (num_of w v) (λ n. n < 2 ^ bits_of w)
number_in W32 (Num W32 n) h = h
number_in W64 (Num W64 n) h = h
number_in W32 (Num W64 n) h = tt
number_in W64 (Num W32 n) h = tt
number_in W32 (Ref r) h = tt
number_in W64 (Ref r) h = tt

pub pop_in : (vs : List Val) → Vals vs → AllOf (λ p. IsExpressible p.0 × Vals p.1) (pop vs)
pop_in [] h = ill_typed
pop_in (v ∷ vs) h = just h

pub pop_num_in : (w : Width) (vs : List Val) → Vals vs → AllOf (λ p. (p.0 < 2 ^ bits_of w) × Vals p.1) (pop_num w vs)
pop_num_in w vs h = then_all (pop vs) _ (pop_in vs h) (λ p k. found_all (λ n. n < 2 ^ bits_of w) (num_of w p.0) _ (number_in w p.0 k.0) (λ n lt. just (lt, k.1)))

pub reference_in : (v : Val) → IsExpressible v → IfSome (ref_of v) IsNullOrFunction
reference_in (Num w n) h = tt
reference_in (Ref r) h = h

pub pop_ref_in : (vs : List Val) → Vals vs → AllOf (λ p. IsNullOrFunction p.0 × Vals p.1) (pop_ref vs)
pop_ref_in vs h = then_all (pop vs) _ (pop_in vs h) (λ p k. found_all IsNullOrFunction (ref_of p.0) _ (reference_in p.0 k.0) (λ r u. just (u, k.1)))

pub typed_in : (t : ValType) (v : Val) → IsExpressible v → AllOf IsExpressible (typed t v)
typed_in t v h = cond_all (same_type t (type_of v)) (just h) ill_typed

pub pop_typed_in : (ts : List ValType) (vs : List Val) → Vals vs → AllOf (λ p. Vals p.0 × Vals p.1) (pop_typed ts vs)
pop_typed_in [] vs h = just (tt, h)
pop_typed_in (t ∷ ts) vs h =
    then_all (pop_typed ts vs) _ (pop_typed_in ts vs h) (λ p k. then_all (pop p.1) _ (pop_in p.1 k.1) (λ q l. then_all (typed t q.0) _ (typed_in t q.0 l.0) (λ v i. just ((i, k.0), l.1))))

pub pop_three_in : (vs : List Val) → Vals vs → AllOf (λ p. Vals p.1) (pop_three vs)
pop_three_in vs h =
    then_all (pop_num W32 vs) _ (pop_num_in W32 vs h) (λ n k.
    then_all (pop_num W32 n.1) _ (pop_num_in W32 n.1 k.1) (λ s l. then_all (pop_num W32 s.1) _ (pop_num_in W32 s.1 l.1) (λ d i. just i.1)))

-- ---- instructions on values ----

pub unary_gives : (o : UnOp) (vs : List Val) → Vals vs → AllOf Vals (unary o vs)
unary_gives o vs h = then_all (pop_num (un_from o) vs) _ (pop_num_in (un_from o) vs h) (λ a k. just (unary_in o a.0 k.0, k.1))

pub binary_gives : (o : BinOp) (vs : List Val) → Vals vs → AllOf Vals (binary o vs)
binary_gives o vs h =
    then_all (pop_num (bin_from o) vs) _ (pop_num_in (bin_from o) vs h) (λ b k.
    then_all (pop_num (bin_from o) b.1) _ (pop_num_in (bin_from o) b.1 k.1) (λ a l.
    within_all (λ n. n < 2 ^ bits_of (bin_to o)) (bin_value o a.0 b.0) _ (binary_in o a.0 b.0 l.0 k.0) (λ n lt. just (lt, l.1))))

null_in : (r : RefVal) → is_null r < 2 ^ 32
null_in (FuncRef None) = omega arith
null_in (FuncRef (Some a)) = omega arith
null_in (ExternRef None) = omega arith
null_in (ExternRef (Some n)) = omega arith

pub is_null_gives : (vs : List Val) → Vals vs → AllOf Vals (ref_is_null vs)
is_null_gives vs h = then_all (pop_ref vs) _ (pop_ref_in vs h) (λ r k. just (null_in r.0, k.1))

either_in : (b : Bool) (x y : Val) → IsExpressible x → IsExpressible y → IsExpressible (cond b x y)
either_in true x y h k = h
either_in false x y h k = k

select_of_gives : (t : ValType) (vs : List Val) → Vals vs → AllOf Vals (select_of t vs)
select_of_gives t vs h =
    then_all (pop_num W32 vs) _ (pop_num_in W32 vs h) (λ c k.
    then_all (pop c.1) _ (pop_in c.1 k.1) (λ b l.
    then_all (typed t b.0) _ (typed_in t b.0 l.0) (λ u i.
    then_all (pop b.1) _ (pop_in b.1 l.1) (λ a j. then_all (typed t a.0) _ (typed_in t a.0 j.0) (λ v o. just (either_in (nat_eq c.0 0) u v i o, j.1))))))

pub select_any_gives : (vs : List Val) → Vals vs → AllOf Vals (select_any vs)
select_any_gives vs h = with_is (second_type vs) (λ t. select_of t vs) (λ t e. select_of_gives t vs h)

pub select_typed_gives : (ts : List ValType) (vs : List Val) → Vals vs → AllOf Vals (select_typed ts vs)
select_typed_gives [] vs h = ill_typed
select_typed_gives (t ∷ []) vs h = select_of_gives t vs h
select_typed_gives (t ∷ u ∷ ts) vs h = ill_typed

-- ---- bytes ----

under_one_more : (b n most : ℕ) → b < 256 → n < most → b + 256 * n < 256 * most
under_one_more b n most h k = omega (arith, h, k)

little_under : (bytes : List ℕ) → Every IsByte bytes → little bytes < 256 ^ length bytes
unfolding little
little_under [] h = omega arith
little_under (b ∷ bs) h =
    let next : 256 * 256 ^ length bs ≡ 256 ^ suc (length bs) = sym (pow-succ' 256 (length bs)) in
    subst (λ w. b + 256 * little bs < w) next (under_one_more b (little bs) (256 ^ length bs) h.0 (little_under bs h.1))

little_in : (count : ℕ) (bytes : List ℕ) → Every IsByte bytes → length bytes ≡ count → little bytes < 256 ^ count
little_in count bytes h e = subst (λ n. little bytes < 256 ^ n) e (little_under bytes h)

pub loaded_in : (o : LoadOp) (bytes : List ℕ) → Every IsByte bytes → length bytes ≡ load_width o → loaded o bytes < 2 ^ bits_of (load_to o)
unfolding load_to load_width loaded
loaded_in load.I32Load bytes h e = omega (arith, little_in 4 bytes h e)
loaded_in load.I64Load bytes h e = omega (arith, little_in 8 bytes h e)
loaded_in load.I32Load8S bytes h e = extended_in 8 32 (little bytes)
loaded_in load.I32Load8U bytes h e = omega (arith, little_in 1 bytes h e)
loaded_in load.I32Load16S bytes h e = extended_in 16 32 (little bytes)
loaded_in load.I32Load16U bytes h e = omega (arith, little_in 2 bytes h e)
loaded_in load.I64Load8S bytes h e = extended_in 8 64 (little bytes)
loaded_in load.I64Load8U bytes h e = omega (arith, little_in 1 bytes h e)
loaded_in load.I64Load16S bytes h e = extended_in 16 64 (little bytes)
loaded_in load.I64Load16U bytes h e = omega (arith, little_in 2 bytes h e)
loaded_in load.I64Load32S bytes h e = extended_in 32 64 (little bytes)
loaded_in load.I64Load32U bytes h e = omega (arith, little_in 4 bytes h e)

bytes_in : (count n : ℕ) → Every IsByte (little_bytes count n)
unfolding little_bytes
bytes_in zero n = tt
bytes_in (suc count) n = (mod-lt n (omega arith), bytes_in count (n / 256))

pub stored_in : (o : StoreOp) (n : ℕ) → Every IsByte (stored o n)
unfolding stored
stored_in store.I32Store n = bytes_in 4 n
stored_in store.I64Store n = bytes_in 8 n
stored_in store.I32Store8 n = bytes_in 1 n
stored_in store.I32Store16 n = bytes_in 2 n
stored_in store.I64Store8 n = bytes_in 1 n
stored_in store.I64Store16 n = bytes_in 2 n
stored_in store.I64Store32 n = bytes_in 4 n
