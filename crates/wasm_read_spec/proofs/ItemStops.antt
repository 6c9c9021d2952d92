-- The readers of types, constant expressions and the items of sections report the stops of their
-- bytes, and no others.
use Rattle.base_lists.proofs.Common.{◌≡◌, ℕ, ◌+◌, ◌-◌, ◌<◌, ◌≤◌, List, [], ◌∷◌, ◌++◌, Result, Ok, Err, Bool, true, false, cond, ◌⊎◌, inl, inr, ⊎_elim, refl, sym, ap, ◌∙◌, subst, arith, cases_lt, lt-ltb, le-ltb, IsTrue, nat_lt, nat_le, ◌==◌, ◌&&◌, ◌||◌}
use Rattle.wasm_bytes.specs.Prelude.{U32, ◌>>=◌}
use Rattle.wasm_tree_spec.specs.Prelude.{Parameters, Results, Locals, I32, I64, Ref, LocalGroup, limit, declared_count}
use Rattle.wasm_tree.specs.declared.types.RefType.TheVariants as ref
use Rattle.wasm_tree.specs.declared.module.ConstExpr.TheVariants as const
use Rattle.wasm_tree.specs.declared.module.ImportDesc.TheVariants as import
use Rattle.wasm_tree.specs.declared.module.ExportDesc.TheVariants as export
use Rattle.wasm_read_spec.specs.declared.fault.Fault.{Fault}
use Rattle.wasm_read_spec.specs.declared.fault.Fault.TheVariants.{Malformed, Unsupported, Limit}
use Rattle.wasm_read_spec.specs.Prelude.{Any, Byte, elem0, elem1, elem2, elem3, elem5, elem6, elem7, data0, data1, data2, SpellsGroup, Stop, NotSupported, Over, NoStop, Reader, each_from, byte_at, pair_at, when_at, chosen_at, tagged_at, name_at, sized_at, fault_at, func_type_of, with_group}
use Rattle.wasm_read_spec.specs.Values.{val_of_code, ref_of_code, mut_of_code}
use Rattle.wasm_read_spec.specs.Stops.{ByteStops, BothStops, is_unsupported_val, ValStops, FuncTypeStops, is_unsupported_const, ConstStops, ChosenStops, BehindStops, import_stops, ImportStops, GlobalDefStops, ItemsStop, elem_stops, ElemStops, data_stops, DataStops, GroupStops, GroupsStop}
use Rattle.wasm_read_spec.specs.Stops.{LocalsStop}
use Rattle.wasm_read_spec.specs.Reading.{s32_at, s64_at, const_from, import_of, export_of, global_def_of, coded_at, const_fault, val_at, ref_at, func_type_at, limits_at, table_of, table_at, mut_at, global_of, global_at, const_at, import_desc_at, import_at, global_def_at, export_desc_at, export_at}
use Rattle.wasm_read_spec.specs.Reading.{func_items_at, const_items_at, elem_at, data_at, local_at, locals_at}
use Rattle.wasm_read_spec.specs.Exact.{Exact}
use Rattle.wasm_read_spec.proofs.Exact.{byte_exact, u32_exact, name_exact, made_exact, vector_exact}
use Rattle.wasm_read_spec.proofs.ItemLaws.{val_exact, ref_exact, const_exact, global_exact, group_exact, small_group, along_sum, sum_along, declared_more}
use Rattle.wasm_read_spec.proofs.Stopping.{same_err, Known, known_as, Tells, other_stops, or_tells, malformed_tells, unsupported_tells, pair_tells, mapped_tells, chosen_tells, when_tells, tagged_tells, closed_tells, state_behind, each_tells, u32_tells, list_tells, vector_tells}

-- ---- one byte

-- The code of a byte gives a value, reports it as not supported, which it does exactly if the test
-- is true, or reports it as malformed.
data Coding {A : Type 0} : Bool → Result A Fault → Type 0 where
  value : (x : A) → Coding false (Ok x)
  not_supported : Coding true (Err Unsupported)
  misspelled : Coding false (Err Malformed)

coding_found : {A : Type 0} (test : Bool) (r : Result A Fault) (bs : List ℕ) (e : Fault) → Coding test r → ◌>>=◌ {B = A × List ℕ} r (λ x. Ok (x, bs)) ≡ Err e → (e ≡ Malformed) ⊎ ((test ≡ true) × (e ≡ Unsupported))
coding_found _ _ bs e (value x) h = cc
coding_found _ _ bs e not_supported h = inr (refl, let same : Unsupported ≡ e = cc in sym same)
coding_found _ _ bs e misspelled h = inl (let same : Malformed ≡ e = cc in sym same)

coding_met : {A : Type 0} (test : Bool) (r : Result A Fault) → Coding test r → IsTrue test → r ≡ Err Unsupported
coding_met _ _ (value x) h = cc
coding_met _ _ not_supported h = refl
coding_met _ _ misspelled h = cc

byte_found : {A : Type 0} (test : ℕ → Bool) (code : ℕ → Result A Fault) → ((b : ℕ) → Coding (test b) (code b)) → (bytes : List ℕ) (e : Fault) → coded_at code bytes ≡ Err e → Known (λ s. ByteStops test s bytes) e
byte_found test code known [] e h = inl (let same : Malformed ≡ e = cc in sym same)
byte_found test code known (b ∷ bs) e h = ⊎_elim inl (λ k. inr (NotSupported, k.1, (b, bs, refl, k.0, refl))) (coding_found (test b) (code b) bs e (known b) h)

coded_tells : {A : Type 0} (test : ℕ → Bool) (code : ℕ → Result A Fault) → ((b : ℕ) → Coding (test b) (code b)) → Tells (ByteStops test) (coded_at code)
coded_tells test code known = record {
  found = λ bytes e small h. byte_found test code known bytes e h;
  met = λ bytes s h. rw (h.2, h.4, coding_met (test h.0) (code h.0) (known h.0) h.3);
}

-- A reader of one byte has no stop if no byte is unsupported.
never_true : {A : Type 0} (code : ℕ → Result A Fault) → ((b : ℕ) → Coding false (code b)) → Tells NoStop (coded_at code)
never_true code known = other_stops (λ s b h. (let bad = h.3 in cc)) (λ s b h. absurd h) (coded_tells (λ b. false) code known)

code_if : {A : Type 0} (test c : Bool) (r q : Result A Fault) → (c ≡ true → Coding test r) → (c ≡ false → Coding test q) → Coding test (cond c r q)
code_if test true r q a b = a refl
code_if test false r q a b = b refl

val_coding : (b : ℕ) → Coding (is_unsupported_val b) (val_of_code b)
unfolding val_of_code is_unsupported_val
val_coding b =
    code_if _ (b == 0x7F) _ _ (λ t. let e : b ≡ 0x7F = grind (arith, t) in rw e (value I32))
    (λ n. code_if _ (b == 0x7E) _ _ (λ t. let e : b ≡ 0x7E = grind (arith, t) in rw e (value I64))
    (λ n. code_if _ (b == 0x70) _ _ (λ t. let e : b ≡ 0x70 = grind (arith, t) in rw e (value (Ref ref.Func)))
    (λ n. code_if _ (b == 0x6F) _ _ (λ t. let e : b ≡ 0x6F = grind (arith, t) in rw e (value (Ref ref.Extern)))
    (λ n. code_if _ (nat_le 0x7B b && nat_le b 0x7D) _ _ (λ t. rw t not_supported) (λ t. rw t misspelled)))))

ref_coding : (b : ℕ) → Coding false (ref_of_code b)
unfolding ref_of_code
ref_coding b = code_if _ (b == 0x70) _ _ (λ t. value ref.Func) (λ n. code_if _ (b == 0x6F) _ _ (λ t. value ref.Extern) (λ n. misspelled))

mut_coding : (b : ℕ) → Coding false (mut_of_code b)
unfolding mut_of_code
mut_coding b = code_if _ (b == 0x00) _ _ (λ t. value false) (λ n. code_if _ (b == 0x01) _ _ (λ t. value true) (λ n. misspelled))

-- ---- readers of which a part never stops

only_first : {A B : Type 0} {P : List ℕ → A → Type 0} {S : A → Type 0} {T : Stop → List ℕ → Type 0} {r : Reader B} → Tells (BothStops P S T NoStop) r → Tells T r
only_first = other_stops (λ s b h. ⊎_elim (λ k. k) (λ k. absurd k.2.3) h) (λ s b h. inl h)

pub nothing_then : {A B : Type 0} {P : List ℕ → A → Type 0} {S : A → Type 0} {r : Reader A} {q : Reader B} → Exact P S r → Tells NoStop r → Tells NoStop q → Tells NoStop (pair_at r q)
nothing_then exact a b = only_first (pair_tells exact a b)

pub nothing_when : {A : Type 0} {r q : Reader A} (test : Bool) → Tells NoStop r → Tells NoStop q → Tells NoStop (when_at test r q)
nothing_when true a b = record { found = a.found; met = a.met }
nothing_when false a b = record { found = b.found; met = b.met }

pub nothing_chosen : {K A : Type 0} {P : List ℕ → K → Type 0} {first : Reader K} {next : K → Reader A} → Exact P Any first → Tells NoStop first → ((k : K) → Tells NoStop (next k)) → Tells NoStop (chosen_at first next)
nothing_chosen exact a b = other_stops (λ s b h. h.1.3) (λ s b h. absurd h) (chosen_tells exact a b)

pub byte_tells : Tells NoStop byte_at
byte_tells = or_tells _

pub name_tells : Tells NoStop name_at
name_tells = or_tells _

pub s32_tells : Tells NoStop s32_at
s32_tells = or_tells _

pub s64_tells : Tells NoStop s64_at
s64_tells = or_tells _

-- A reader after a first value without stops has the stops that are after this value.
behind : {K A : Type 0} {P : List ℕ → K → Type 0} {T : Stop → List ℕ → Type 0} {first : Reader K} {next : Reader A} → Exact P Any first → Tells NoStop first → Tells T next → Tells (BehindStops P T) (pair_at first next)
behind exact a b = other_stops (λ s b h. ⊎_elim (λ k. absurd k) (λ k. (k.0, k.2)) h) (λ s b h. inr (h.0, tt, h.1)) (pair_tells exact a b)

pub nothing_tagged : {A : Type 0} {r : Reader A} (tag : ℕ) → Tells NoStop r → Tells NoStop (tagged_at tag r)
nothing_tagged tag a = other_stops (λ s b h. h.2) (λ s b h. absurd h) (tagged_tells tag a)

pub sized_tells : Tells NoStop sized_at
sized_tells = or_tells _

-- ---- types

pub val_tells : Tells ValStops val_at
unfolding val_at
val_tells = coded_tells is_unsupported_val val_of_code val_coding

pub ref_tells : Tells NoStop ref_at
unfolding ref_at
ref_tells = never_true ref_of_code ref_coding

pub func_type_tells : Tells FuncTypeStops func_type_at
unfolding func_type_at
func_type_tells = tagged_tells 0x60 (mapped_tells func_type_of (pair_tells (vector_exact Parameters val_exact) (vector_tells Parameters val_exact val_tells) (vector_tells Results val_exact val_tells)))

pub limits_tells : Tells NoStop limits_at
unfolding limits_at
limits_tells = nothing_chosen byte_exact byte_tells (λ b. nothing_when (b == 0x00) (mapped_tells _ u32_tells) (nothing_when (b == 0x01) (mapped_tells _ (nothing_then u32_exact u32_tells u32_tells)) malformed_tells))

pub table_tells : Tells NoStop table_at
unfolding table_at
table_tells = mapped_tells table_of (nothing_then ref_exact ref_tells limits_tells)

mut_tells : Tells NoStop mut_at
unfolding mut_at
mut_tells = never_true mut_of_code mut_coding

-- The type of a global has the stops of its value type.
global_tells : Tells ValStops global_at
unfolding global_at
global_tells = mapped_tells global_of (only_first (pair_tells val_exact val_tells mut_tells))

-- ---- constant expressions

-- A fault is reported as not supported exactly if the test is true.
data Told : Bool → Fault → Type 0 where
  not_told : Told false Malformed
  is_told : Told true Unsupported

or_told : (c test : Bool) (e : Fault) → Told test e → Told (c || test) (cond c Unsupported e)
or_told true test e h = is_told
or_told false test e h = h

told_tells : {A : Type 0} (test : Bool) (e : Fault) → Told test e → Tells (λ s b. IsTrue test × (s ≡ NotSupported)) (fault_at {A = A} e)
told_tells {A} _ _ not_told = other_stops (λ s b h. absurd h) (λ s b h. (let bad = h.0 in cc)) (malformed_tells {A = A})
told_tells {A} _ _ is_told = other_stops (λ s b h. (refl, h)) (λ s b h. h.1) (unsupported_tells {A = A})

const_told : (b : ℕ) → Told (is_unsupported_const b) (const_fault b)
unfolding is_unsupported_const
const_told b = or_told (b == 0x43) _ _ (or_told (b == 0x44) _ _ (last (b == 0xFD)))
  where
    last : (c : Bool) → Told c (cond c Unsupported Malformed)
    last true = is_told
    last false = not_told

-- A form that begins with a supported byte adds no stop.
when_supported : {A : Type 0} {r q : Reader A} (test : Bool) (unsupported : Bool) → (test ≡ true → unsupported ≡ false) → Tells NoStop r → Tells (λ s b. IsTrue unsupported × (s ≡ NotSupported)) q →
    Tells (λ s b. IsTrue unsupported × (s ≡ NotSupported)) (when_at test r q)
when_supported true unsupported is a b = other_stops (λ s c h. absurd h) (λ s c h. (let t = sym (is refl) ∙ h.0 in cc)) (nothing_when true a a)
when_supported false unsupported is a b = record { found = b.found; met = b.met }

supported : (b k : ℕ) → is_unsupported_const k ≡ false → (b == k) ≡ true → is_unsupported_const b ≡ false
supported b k is same = let e : b ≡ k = grind (arith, same) in rw e is

const_from_tells : (b : ℕ) → Tells (λ s r. IsTrue (is_unsupported_const b) × (s ≡ NotSupported)) (const_from b)
unfolding is_unsupported_const
const_from_tells b =
    when_supported (b == 0x41) _ (supported b 0x41 refl) (mapped_tells const.I32 s32_tells)
    (when_supported (b == 0x42) _ (supported b 0x42 refl) (mapped_tells const.I64 s64_tells)
    (when_supported (b == 0xD0) _ (supported b 0xD0 refl) (mapped_tells const.Null ref_tells)
    (when_supported (b == 0xD2) _ (supported b 0xD2 refl) (mapped_tells const.Func u32_tells)
    (when_supported (b == 0x23) _ (supported b 0x23 refl) (mapped_tells const.Global u32_tells)
    (told_tells (is_unsupported_const b) (const_fault b) (const_told b))))))

pub const_tells : Tells ConstStops const_at
unfolding const_at
const_tells = other_stops
    (λ s bytes h. let t = h.1 in (h.0, t.1, t.4 ∙ ap (λ z. z ++ t.1) t.2, t.3.0, t.3.1))
    (λ s bytes h. (h.0, (h.0 ∷ [], h.1, refl, (h.3, h.4), h.2)))
    (closed_tells 0x0B (chosen_tells byte_exact byte_tells const_from_tells))

-- ---- what the sections hold

desc_tells : Tells (ChosenStops Byte import_stops) import_desc_at
unfolding import_desc_at import_stops
desc_tells = chosen_tells byte_exact byte_tells (λ k.
    when_tells (k == 0x00) (mapped_tells import.Func u32_tells)
    (when_tells (k == 0x01) (mapped_tells import.Table table_tells)
    (when_tells (k == 0x02) (mapped_tells import.Memory limits_tells)
    (when_tells (k == 0x03) (mapped_tells import.Global global_tells)
    malformed_tells))))

pub import_tells : Tells ImportStops import_at
unfolding import_at
import_tells = mapped_tells import_of (behind name_exact name_tells (behind name_exact name_tells desc_tells))

pub global_def_tells : Tells GlobalDefStops global_def_at
unfolding global_def_at
global_def_tells = mapped_tells global_def_of (pair_tells global_exact global_tells const_tells)

pub export_tells : Tells NoStop export_at
unfolding export_at export_desc_at
export_tells = mapped_tells export_of (nothing_then name_exact name_tells (nothing_chosen byte_exact byte_tells (λ k.
    nothing_when (k == 0x00) (mapped_tells export.Func u32_tells)
    (nothing_when (k == 0x01) (mapped_tells export.Table u32_tells)
    (nothing_when (k == 0x02) (mapped_tells export.Memory u32_tells)
    (nothing_when (k == 0x03) (mapped_tells export.Global u32_tells)
    malformed_tells))))))

func_items_tells : Tells NoStop func_items_at
unfolding func_items_at
func_items_tells = other_stops (λ s b h. h.1.3.3.3) (λ s b h. absurd h) (list_tells (made_exact const.Func u32_exact) (mapped_tells const.Func u32_tells))

items_tell : Tells ItemsStop const_items_at
items_tell = list_tells const_exact const_tells

pub elem_tells : Tells ElemStops elem_at
unfolding elem_at elem_stops
elem_tells = chosen_tells u32_exact u32_tells (λ n.
    when_tells (n == 0) (mapped_tells elem0 (only_first (pair_tells const_exact const_tells func_items_tells)))
    (when_tells (n == 1) (mapped_tells elem1 (nothing_tagged 0x00 func_items_tells))
    (when_tells (n == 2) (mapped_tells elem2 (behind u32_exact u32_tells (only_first (pair_tells const_exact const_tells (nothing_tagged 0x00 func_items_tells)))))
    (when_tells (n == 3) (mapped_tells elem3 (nothing_tagged 0x00 func_items_tells))
    (when_tells (n == 4) (mapped_tells elem0 (pair_tells const_exact const_tells items_tell))
    (when_tells (n == 5) (mapped_tells elem5 (behind ref_exact ref_tells items_tell))
    (when_tells (n == 6) (mapped_tells elem6 (behind u32_exact u32_tells (pair_tells const_exact const_tells (behind ref_exact ref_tells items_tell))))
    (when_tells (n == 7) (mapped_tells elem7 (behind ref_exact ref_tells items_tell))
    malformed_tells))))))))

pub data_tells : Tells DataStops data_at
unfolding data_at data_stops
data_tells = chosen_tells u32_exact u32_tells (λ n.
    when_tells (n == 0) (mapped_tells data0 (only_first (pair_tells const_exact const_tells sized_tells)))
    (when_tells (n == 1) (mapped_tells data1 sized_tells)
    (when_tells (n == 2) (mapped_tells data2 (behind u32_exact u32_tells (only_first (pair_tells const_exact const_tells sized_tells))))
    malformed_tells)))

-- ---- locals

-- The stops of a group of locals, by how many locals the limit still allows after `sum` locals.
abbrev LeftStops : ℕ → Stop → List ℕ → Type 0
LeftStops sum = ChosenStops U32 (λ n s b. ((limit Locals - sum < n) × (s ≡ Over Locals)) ⊎ ((n ≤ limit Locals - sum) × ValStops s b))

count_tells : (sum n : ℕ) →
    Tells {A = LocalGroup × List ℕ} (λ s b. ((limit Locals - sum < n) × (s ≡ Over Locals)) ⊎ ((n ≤ limit Locals - sum) × ValStops s b)) (λ bs. cond (nat_lt (limit Locals - sum) n) (Err (Limit Locals)) (val_at bs >>= (λ t. Ok (record { count = n; ty = t.0 }, t.1))))
count_tells sum n = record {
  found = λ bytes e small h. ⊎_elim
      (λ lt. let k = rw (lt-ltb (limit Locals - sum) n lt) at h in inr (Over Locals, sym (same_err {A = LocalGroup × List ℕ} (Limit Locals) e k), inl (lt, refl)))
      (λ le. let k = rw (le-ltb (limit Locals - sum) n le) at h in
      known_as (λ s. ValStops s bytes) (λ s. ((limit Locals - sum < n) × (s ≡ Over Locals)) ⊎ ((n ≤ limit Locals - sum) × ValStops s bytes)) e (λ s t. inr (le, t)) ((mapped_tells {B = LocalGroup} (λ t. record { count = n; ty = t }) val_tells).found bytes e small k))
      (cases_lt (limit Locals - sum) n);
  met = λ bytes s h. ⊎_elim
      (λ k. rw (lt-ltb (limit Locals - sum) n k.0, k.1))
      (λ k. rw (le-ltb (limit Locals - sum) n k.0, val_tells.met bytes s k.1))
      h;
}

group_tells : (sum : ℕ) → Tells (LeftStops sum) (local_at sum)
unfolding local_at
group_tells sum = chosen_tells u32_exact u32_tells (λ n. count_tells sum n)

sum_behind : (sum : ℕ) (gs : List LocalGroup) → state_behind with_group sum gs ≡ sum + declared_count gs
sum_behind sum [] = omega arith
sum_behind sum (g ∷ gs) = let e = sum_behind (sum + g.count) gs in let d = declared_more g gs in omega (arith, e, d)

-- The stops by what the limit still allows are those by the sum of the locals.
left_to_sum : (sum : ℕ) (s : Stop) (bytes : List ℕ) → sum ≤ limit Locals → LeftStops sum s bytes → GroupStops sum s bytes
left_to_sum sum s bytes low h = (h.0, (h.1.0, h.1.1, h.1.2, ⊎_elim (λ k. inl (omega (arith, k.0, low), k.1)) (λ k. inr (omega (arith, k.0, low), k.1)) h.1.3, h.1.4))

sum_to_left : (sum : ℕ) (s : Stop) (bytes : List ℕ) → sum ≤ limit Locals → GroupStops sum s bytes → LeftStops sum s bytes
sum_to_left sum s bytes low h = (h.0, (h.1.0, h.1.1, h.1.2, ⊎_elim (λ k. inl (omega (arith, k.0, low), k.1)) (λ k. inr (omega (arith, k.0, low), k.1)) h.1.3, h.1.4))

groups_tell : (n : ℕ) → Tells (GroupsStop n) (each_from local_at with_group n 0)
groups_tell n = other_stops
    (λ s b h.
    let gs = h.0 in
    let few = along_sum 0 gs (omega arith) h.2 in
    let low : declared_count gs ≤ limit Locals = omega (arith, few) in
    let t = h.3 in
    (gs, h.1, low, (t.0, t.1, t.2, left_to_sum (declared_count gs) s t.1 low (subst (λ z. LeftStops z s t.1) (sum_behind 0 gs ∙ omega arith) t.3), t.4)))
    (λ s b h.
    let gs = h.0 in
    let t = h.3 in
    (gs, h.1, sum_along 0 gs (omega (arith, h.2)), (t.0, t.1, t.2, subst (λ z. LeftStops z s t.1) (omega arith ∙ sym (sum_behind 0 gs)) (sum_to_left (declared_count gs) s t.1 h.2 t.3), t.4)))
    (each_tells SpellsGroup small_group LeftStops local_at with_group group_exact group_tells n 0)

pub locals_tell : Tells LocalsStop locals_at
unfolding locals_at
locals_tell = chosen_tells u32_exact u32_tells groups_tell
