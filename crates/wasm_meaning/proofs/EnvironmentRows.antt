-- What is and what is not an environment, and which environments link with which worlds, computed.
use Rattle.base_lists.proofs.Common.{◌≡◌, refl, ap, ◌∙◌, ℕ, zero, suc, ◌*◌, ◌^◌, List, [], ◌∷◌, length, Some, None, Bool, true, false, ◌&&◌, pos, nat_le, nat_eq, nat_lt, eq-eqb, copies_length}
use Rattle.wasm_tree.specs.declared.types.RefType.TheVariants as reft
use Rattle.wasm_tree_spec.specs.Prelude.{ValType, Limits, Module}
use Rattle.wasm_tree.specs.declared.types.ValType.TheVariants as valt
use Rattle.wasm_tree.specs.declared.instr.Instr.TheVariants as i
use Rattle.wasm_tree.specs.declared.module.ImportDesc.TheVariants as im
use Rattle.wasm_tree.specs.declared.module.ConstExpr.TheVariants as const
use Rattle.wasm_tree.specs.declared.module.DataMode.TheVariants as data'
use Rattle.wasm_tree.specs.declared.module.ElemMode.TheVariants as elem
use Rattle.wasm_meaning.specs.Prelude.{copies, Environment, Text, Offer, Shown, Number, Null, OwnFunc, ExternNumber, Function, all_of, is_environment, links}
use Rattle.wasm_meaning.specs.Environment.{OwnTable, OwnMemory, where_there, is_value, is_within, is_table, is_memory}
use Rattle.wasm_meaning.proofs.SmallRuns.{f, g, a, e, m, i32, to_i32, nothing, empty, code, num, gives, three, plain}

-- ---- what is offered ----

abbrev within : ℕ → ℕ → Limits
within min max = record { min = min; max = Some max }

abbrev offers_nothing : Text → Offer
offers_nothing field = record { pair = (e, field); funcs = []; table = None; memory = None; global = None }

abbrev offers_func : Offer
offers_func = record (offers_nothing g) { funcs = to_i32 ∷ [] }

abbrev offers_table : OwnTable → Offer
offers_table t = record (offers_nothing a) { table = Some t }

abbrev offers_memory : OwnMemory → Offer
offers_memory x = record (offers_nothing m) { memory = Some x }

abbrev offers_global : (mutable : Bool) → ValType → Shown → Offer
offers_global mutable ty value = record (offers_nothing f) { global = Some (record { ty = record { ty = ty; mutable = mutable }; value = value }) }

abbrev funcs_in : Limits → List Shown → OwnTable
funcs_in limits entries = record { ty = reft.Func; limits = limits; entries = entries }

abbrev externs_in : Limits → List Shown → OwnTable
externs_in limits entries = record { ty = reft.Extern; limits = limits; entries = entries }

abbrev pages_of_zeros : Limits → ℕ → OwnMemory
pages_of_zeros limits n = record { limits = limits; pages = n; bytes = copies (65536 * n) 0 }

-- The function that the environment offers, as a value.
abbrev its_func : Shown
its_func = OwnFunc (e, g) to_i32

-- ---- environments ----

nothing_is_an_environment : is_environment [] ≡ true
nothing_is_an_environment = refl

a_table_may_hold_its_functions : is_environment (offers_func ∷ (offers_table (funcs_in (within 2 4) (its_func ∷ (Null ∷ (its_func ∷ [])))) ∷ [])) ≡ true
a_table_may_hold_its_functions = refl

a_table_may_hold_extern_numbers : is_environment (offers_table (externs_in (within 0 1) (ExternNumber 7 ∷ [])) ∷ []) ≡ true
a_table_may_hold_extern_numbers = refl

-- A place for external references may hold null.
a_table_may_hold_an_extern_null : is_environment (offers_table (externs_in (within 2 2) (ExternNumber 7 ∷ (Null ∷ []))) ∷ []) ≡ true
a_table_may_hold_an_extern_null = refl

a_global_may_be_an_extern_null : is_environment (offers_global true (valt.Ref reft.Extern) Null ∷ []) ≡ true
a_global_may_be_an_extern_null = refl

an_immutable_global_of_a_function : is_environment (offers_func ∷ (offers_global false (valt.Ref reft.Func) its_func ∷ [])) ≡ true
an_immutable_global_of_a_function = refl

a_mutable_global_of_a_number : is_environment (offers_global true valt.I64 (Number 18446744073709551615) ∷ []) ≡ true
a_mutable_global_of_a_number = refl

-- One pair of names may offer entities of all kinds.
all_kinds_under_one_pair : is_environment (record (offers_nothing g) { funcs = to_i32 ∷ (nothing ∷ []); table = Some (funcs_in (within 1 1) (Null ∷ [])); memory = Some (pages_of_zeros (within 0 0) 0); global = Some (record { ty = record { ty = i32; mutable = true }; value = Number 4294967295 }) } ∷
    []) ≡ true
all_kinds_under_one_pair = refl

-- ---- memories of several pages ----

zeros_are_bytes : (n : ℕ) → all_of (λ b. nat_lt b 256) (copies n 0) ≡ true
zeros_are_bytes zero = refl
zeros_are_bytes (suc n) = zeros_are_bytes n

both : {x y : Bool} → x ≡ true → y ≡ true → (x && y) ≡ true
both e f = rw e f

-- A number of pages of zeros is a memory if its limits allow this number of pages.
zeros_are_a_memory : (limits : Limits) (n : ℕ) → is_within n limits ≡ true → where_there (λ most. nat_le most 65536) limits.max ≡ true → nat_le n 65536 ≡ true → is_memory (pages_of_zeros limits n) ≡ true
zeros_are_a_memory limits n size most few =
    both size (both most (both few (both (ap (λ k. nat_eq k (65536 * n)) (copies_length (65536 * n) 0) ∙ eq-eqb (65536 * n) (65536 * n) refl) (zeros_are_bytes (65536 * n)))))

-- A memory has as many bytes as its pages have, and each of them is less than 256.
no : (x : Bool) {y : Bool} → y ≡ false → (x && y) ≡ false
no true e = e
no false e = refl

other_sizes_are_none : (limits : Limits) (n k : ℕ) → nat_eq k (65536 * n) ≡ false → is_memory (record { limits = limits; pages = n; bytes = copies k 0 }) ≡ false
other_sizes_are_none limits n k e =
    no (is_within n limits) (no (where_there (λ most. nat_le most 65536) limits.max) (no (nat_le n 65536) (ap (λ x. x && all_of (λ b. nat_lt b 256) (copies k 0)) (ap (λ j. nat_eq j (65536 * n)) (copies_length k 0) ∙ e))))

a_great_byte_is_none : (limits : Limits) (n k : ℕ) → is_memory (record { limits = limits; pages = n; bytes = 256 ∷ copies k 0 }) ≡ false
a_great_byte_is_none limits n k = no (is_within n limits) (no (where_there (λ most. nat_le most 65536) limits.max) (no (nat_le n 65536) (no (nat_eq (length (256 ∷ copies k 0)) (65536 * n)) refl)))

three_pages : is_memory (pages_of_zeros (within 2 65536) 3) ≡ true
three_pages = zeros_are_a_memory (within 2 65536) 3 refl refl refl

an_environment_of_three_pages : is_environment (offers_memory (pages_of_zeros (within 2 65536) 3) ∷ []) ≡ true
an_environment_of_three_pages = ap (λ x. x && true) (ap (λ x. true && (true && (x && true))) three_pages)

-- The bytes of two pages are not those of three pages.
bytes_are_as_many_as_pages : is_memory (record (pages_of_zeros (within 2 65536) 3) { bytes = copies (65536 * 2) 0 }) ≡ false
bytes_are_as_many_as_pages = other_sizes_are_none (within 2 65536) 3 (65536 * 2) refl

-- A memory without a maximum has at most 65,536 pages, and no memory has a greater maximum.
a_memory_may_have_65536_pages : is_memory (pages_of_zeros (record { min = 0; max = None }) 65536) ≡ true
a_memory_may_have_65536_pages = zeros_are_a_memory (record { min = 0; max = None }) 65536 refl refl refl

a_memory_has_not_65537_pages : is_memory (pages_of_zeros (record { min = 0; max = None }) 65537) ≡ false
a_memory_has_not_65537_pages = refl

no_maximum_is_65537_pages : is_memory (pages_of_zeros (within 0 65537) 0) ≡ false
no_maximum_is_65537_pages = refl

-- ---- tables of many entries ----

nulls_are_references : (env : Environment) (n : ℕ) → all_of (is_value env (valt.Ref reft.Func)) (copies n Null) ≡ true
nulls_are_references env zero = refl
nulls_are_references env (suc n) = nulls_are_references env n

-- A number of nulls is a table if its limits allow this number and it is below 2 ^ 32.
nulls_are_a_table : (env : Environment) (limits : Limits) (n : ℕ) → is_within n limits ≡ true → nat_lt n (2 ^ 32) ≡ true → is_table env (funcs_in limits (copies n Null)) ≡ true
nulls_are_a_table env limits n size few =
    both (ap (λ k. is_within k limits) (copies_length n Null) ∙ size) (both (ap (λ k. nat_lt k (2 ^ 32)) (copies_length n Null) ∙ few) (nulls_are_references env n))

-- More entries are no table, whatever the limits.
many_entries_are_none : (env : Environment) (t : OwnTable) (n : ℕ) → length t.entries ≡ n → nat_lt n (2 ^ 32) ≡ false → is_table env t ≡ false
many_entries_are_none env t n size many = no (is_within (length t.entries) t.limits) (ap (λ x. x && all_of (is_value env (valt.Ref t.ty)) t.entries) (ap (λ k. nat_lt k (2 ^ 32)) size ∙ many))

-- A table alone is an environment's exactly if it is a table.
as_its_table : (t : OwnTable) (b : Bool) → is_table (offers_table t ∷ []) t ≡ b → is_environment (offers_table t ∷ []) ≡ b
as_its_table t true e = ap (λ x. (x && true) && true) e
as_its_table t false e = ap (λ x. (x && true) && true) e

-- A table without a maximum that has so many nulls.
abbrev has_nulls : ℕ → OwnTable
has_nulls n = funcs_in (record { min = 0; max = None }) (copies n Null)

a_table_may_have_4294967295_entries : is_table [] (has_nulls 4294967295) ≡ true
a_table_may_have_4294967295_entries = nulls_are_a_table [] (record { min = 0; max = None }) 4294967295 refl refl

an_environment_of_4294967295_entries : is_environment (offers_table (has_nulls 4294967295) ∷ []) ≡ true
an_environment_of_4294967295_entries = as_its_table (has_nulls 4294967295) true (nulls_are_a_table (offers_table (has_nulls 4294967295) ∷ []) (record { min = 0; max = None }) 4294967295 refl refl)

a_table_has_not_4294967296_entries : is_table [] (has_nulls 4294967296) ≡ false
a_table_has_not_4294967296_entries = many_entries_are_none [] (has_nulls 4294967296) 4294967296 (copies_length 4294967296 Null) refl

no_environment_of_4294967296_entries : is_environment (offers_table (has_nulls 4294967296) ∷ []) ≡ false
no_environment_of_4294967296_entries =
    as_its_table (has_nulls 4294967296) false (many_entries_are_none (offers_table (has_nulls 4294967296) ∷ []) (has_nulls 4294967296) 4294967296 (copies_length 4294967296 Null) refl)

-- ---- what is none ----

two_offers_of_one_pair : is_environment (offers_nothing g ∷ (offers_func ∷ [])) ≡ false
two_offers_of_one_pair = refl

one_type_twice : is_environment (record (offers_nothing g) { funcs = to_i32 ∷ (nothing ∷ (to_i32 ∷ [])) } ∷ []) ≡ false
one_type_twice = refl

-- The sizes of tables and memories are within their limits.
a_table_below_its_minimum : is_environment (offers_table (funcs_in (within 2 4) (Null ∷ [])) ∷ []) ≡ false
a_table_below_its_minimum = refl

a_table_above_its_maximum : is_environment (offers_table (funcs_in (within 0 1) (Null ∷ (Null ∷ []))) ∷ []) ≡ false
a_table_above_its_maximum = refl

a_minimum_above_its_maximum : is_environment (offers_memory (pages_of_zeros (within 1 0) 0) ∷ []) ≡ false
a_minimum_above_its_maximum = refl

a_memory_below_its_minimum : is_environment (offers_memory (pages_of_zeros (within 1 2) 0) ∷ []) ≡ false
a_memory_below_its_minimum = refl

a_memory_above_its_maximum : is_memory (pages_of_zeros (within 0 1) 2) ≡ false
a_memory_above_its_maximum = refl

-- The values of tables and globals are of the type of the table or global.
a_number_is_no_reference : is_environment (offers_global true (valt.Ref reft.Extern) (Number 1) ∷ []) ≡ false
a_number_is_no_reference = refl

null_is_no_number : is_environment (offers_global true i32 Null ∷ []) ≡ false
null_is_no_number = refl

an_i32_is_below_2_to_32 : is_environment (offers_global false i32 (Number 4294967296) ∷ []) ≡ false
an_i32_is_below_2_to_32 = refl

a_function_is_no_extern_number : is_environment (offers_func ∷ (offers_table (funcs_in (within 1 1) (ExternNumber 0 ∷ [])) ∷ [])) ≡ false
a_function_is_no_extern_number = refl

a_function_that_is_not_offered : is_environment (offers_table (funcs_in (within 1 1) (its_func ∷ [])) ∷ []) ≡ false
a_function_that_is_not_offered = refl

a_function_of_another_type_than_offered : is_environment (offers_func ∷ (offers_global false (valt.Ref reft.Func) (OwnFunc (e, g) nothing) ∷ [])) ≡ false
a_function_of_another_type_than_offered = refl

-- No function has a number, because none was shown yet.
no_function_has_a_number : is_environment (offers_func ∷ (offers_global false (valt.Ref reft.Func) (Function 0) ∷ [])) ≡ false
no_function_has_a_number = refl

a_byte_is_below_256 : is_memory (record { limits = within 1 1; pages = 1; bytes = 256 ∷ copies 65535 0 }) ≡ false
a_byte_is_below_256 = a_great_byte_is_none (within 1 1) 1 65535

-- ---- links ----

-- A module that imports the function g of e.
abbrev wants : Module → Module
wants x = record x { imports = record { «module» = e; field = g; desc = im.Func 0 } ∷ [] }

it_links_what_it_offers : links (offers_func ∷ []) (plain (wants (gives (num 5 ∷ [])))) ≡ true
it_links_what_it_offers = refl

it_does_not_link_what_it_lacks : links [] (plain (wants (gives (num 5 ∷ [])))) ≡ false
it_does_not_link_what_it_lacks = refl

it_does_not_link_another_type : links (record offers_func { funcs = nothing ∷ [] } ∷ []) (plain (wants (gives (num 5 ∷ [])))) ≡ false
it_does_not_link_another_type = refl

-- A world links although its one active segment is past the end of its memory, which has no page.
it_links_though_a_segment_traps : links [] (plain (record (gives (num 5 ∷ [])) { mems = within 0 1 ∷ []; datas = record { mode = data'.Active 0 (const.I32 (pos 0)); bytes = 1 ∷ [] } ∷ [] })) ≡ true
it_links_though_a_segment_traps = refl

it_links_though_an_element_segment_traps : links [] (plain (three (record (gives (num 5 ∷ [])) { elems = record { mode = elem.Active 0 (const.I32 (pos 3)); ty = reft.Func; items = const.Func 0 ∷ [] } ∷ [] }))) ≡ true
it_links_though_an_element_segment_traps = refl

it_links_though_a_start_traps : links [] (plain (record empty { funcs = code 2 (i.Unreachable ∷ []) ∷ []; start = Some 0 })) ≡ true
it_links_though_a_start_traps = refl

-- A view with a name that denotes nothing does not link.
it_does_not_link_a_view_of_nothing : links [] (plain empty) ≡ false
it_does_not_link_a_view_of_nothing = refl
