-- The numbers of a snapshot are in range, because they are those of its module and of the state.
use Rattle.base_lists.proofs.Common.{◌≡◌, ℕ, suc, ◌+◌, ◌-◌, ◌^◌, ◌<◌, ◌≤◌, arith, sym, subst, refl, List, [], ◌∷◌, length, Bool, true, false, not, ◌&&◌, cond, Option, Some, None, slice_get, unwrap_or, inl, inr, IsUtf8, list_any, cons_option, cases_lt, lt-ltb, le-ltb, ints, slice_get_within}
use Rattle.base_lists.proofs.Common.{place_back}
use Rattle.base_lists.proofs.Every.{every_of, every_placed, every_map, every_append}
use Rattle.std.proofs.Common.{filter_map}
use Rattle.std.specs.Option.{IfSome}
use Rattle.base_lists.specs.Every.{Every}
use Rattle.base_lists.specs.Options.{◌>>=◌}
use Rattle.wasm_bytes.specs.Prelude.{IsWithin}
use Rattle.wasm_tree_spec.specs.Prelude.{ConstExpr, DataSeg, Export, GlobalDef, Module, any_uses_data, funcs_of, imported_globals, imported_memories, IsBounded}
use Rattle.wasm_tree.specs.declared.module.ExportDesc.TheVariants as ex
use Rattle.wasm_num.specs.Operations.{W32, W64, signed}
use Rattle.wasm_valid.specs.Prelude.{IsSingle, IsValid}
use Rattle.wasm_write_proof.specs.Ranges.{InRange}
use Rattle.wasm_meaning.specs.Prelude.{Text, RefVal, FuncRef, ExternRef, Val, Num, Ref, Memory, Global}
use Rattle.wasm_valid_proof.specs.Numbers.{ConstNumberInRange, DataOffsetInRange, FuncNumbersInRange, NumbersInRange, OwnNumbersAreInRange, DeclaredNumbersAreInRange}
use Rattle.eval_spec.specs.declared.limits.TheConstants.{MOST_TURNS}
use Rattle.eval_spec.specs.Prelude.{State, constant, is_dropped, is_unknown_global, memory_bytes, value_of_global}
use Rattle.eval_spec.specs.StateContents.{constant_ref, defined_memory}
use Rattle.eval_snapshot_proof.specs.Ranges.{BeginsInRange, EvaluatedGlobalsAreInRange, EvaluatedMemoriesAreInRange, GlobalsAreInRange, MemoriesAreInRange, ValInRange}
use Rattle.eval_snapshot_spec.specs.After.{IsAfter}
use Rattle.eval_snapshot_spec.specs.Contents.{Stretch, contents, is_joined, is_nonzero, nonzero_places, stretch_segment, stretches, stretches_from, stretches_over}
use Rattle.eval_snapshot_spec.specs.Evaluated.{funcs_named}
use Rattle.eval_snapshot_spec.specs.Snapshot.{added_funcs, declared_snapshot, emptied, empty_func, export_left, global_left, indexed, is_among_names, is_kept, is_passive, memory_segments, old_segments, segment_left, segments_left, snapshot, snapshot_tree}

-- The items that differ in a snapshot: their numbers that are not indices are in range, and their
-- names are in UTF-8.
abbrev GlobalIn : GlobalDef → Type 0
GlobalIn g = ConstNumberInRange g.init

abbrev DataIn : DataSeg → Type 0
DataIn d = DataOffsetInRange d.mode

abbrev Named : Export → Type 0
Named e = IsUtf8 e.name

-- ---- constants ----

-- The signed reading of a number below 2 ^ bits is in the range of signed numbers of that many
-- bits.
signed_within : (bits n half : ℕ) → 2 ^ (bits - 1) ≡ half → 2 ^ bits ≡ half + half → n < 2 ^ bits → IsWithin bits (signed bits n)
unfolding signed
signed_within bits n half e f lt = elim (cases_lt n (2 ^ (bits - 1))) [
  | inl below ↦ rw (lt-ltb n (2 ^ (bits - 1)) below) (omega (arith, ints), omega (arith, ints, below))
  | inr above ↦ rw (le-ltb n (2 ^ (bits - 1)) above) (omega (arith, ints, above, lt, e, f), omega (arith, ints, above, lt, e, f))
]

reference_in : (r : RefVal) → IfSome (constant_ref r) ConstNumberInRange
reference_in (FuncRef (Some f)) = tt
reference_in (FuncRef None) = tt
reference_in (ExternRef None) = tt
reference_in (ExternRef (Some n)) = tt

constant_in : (v : Val) → ValInRange v → IfSome (constant v) ConstNumberInRange
constant_in (Num W32 n) h = signed_within 32 n (2 ^ 31) refl refl h
constant_in (Num W64 n) h = signed_within 64 n (2 ^ 63) refl refl h
constant_in (Ref r) h = reference_in r

told_in : (m : Module) (s : State) → GlobalsAreInRange s.store → (n : ℕ) → IfSome (value_of_global m s n) ConstNumberInRange
told_in m s h n = by (is_unknown_global m s n)
  where
    found : (o : Option Global) → slice_get s.store.globals n ≡ o → IfSome (o >>= λ g. constant g.value) ConstNumberInRange
    found None e = tt
    found (Some g) e = constant_in g.value (h n g e)

    by : (b : Bool) → IfSome (cond b None (slice_get s.store.globals n >>= λ g. constant g.value)) ConstNumberInRange
    by true = tt
    by false = found (slice_get s.store.globals n) refl

-- ---- what the memory holds ----

module _ (most : ℕ) where
  abbrev Below : ℕ → Type 0
  Below n = n < most

  abbrev Begins : Stretch → Type 0
  Begins s = s.first < most

  from_below : (first last : ℕ) (rest : List ℕ) → first < most → Every Below rest → Every Begins (stretches_from first last rest)
  from_below first last [] lt h = (lt, tt)
  from_below first last (next ∷ rest) lt h = by (is_joined last next) (from_below first next rest lt h.1) (from_below next next rest h.0 h.1)
    where
      by : (b : Bool) → Every Begins (stretches_from first next rest) → Every Begins (stretches_from next next rest) →
          Every Begins (cond b (stretches_from first next rest) (record { first = first; last = last } ∷ stretches_from next next rest))
      by true one two = one
      by false one two = (lt, two)

  over_below : (ns : List ℕ) → Every Below ns → Every Begins (stretches_over ns)
  over_below [] h = tt
  over_below (n ∷ ns) h = from_below n n ns h.0 h.1

nonzero_below : (bytes : List ℕ) → Every (Below (length bytes)) (nonzero_places bytes)
nonzero_below bytes = every_placed (λ n. Unit {0}) (Below (length bytes)) (nonzero_places bytes) (every_of (λ n. Unit {0}) (nonzero_places bytes) (λ n. tt)) (λ i n at u.
    let p = place_back is_nonzero bytes 0 i n at in
    let is : n ≡ 0 + p.0 = p.2 in
    let within = slice_get_within bytes p.0 p.1 p.3 in omega (arith, is, within))

contents_in : (memory : ℕ) (bytes : List ℕ) → length bytes ≤ 2 ^ 32 → Every DataIn (contents memory bytes)
contents_in memory bytes few =
    every_map (Begins (length bytes)) DataIn (stretch_segment memory bytes) (λ x lt. signed_within 32 x.first (2 ^ 31) refl refl (omega (arith, few, lt))) (stretches bytes)
    (over_below (length bytes) (nonzero_places bytes) (nonzero_below bytes))

memory_few : (m : Module) (s : State) → MemoriesAreInRange s.store → length (memory_bytes m s) ≤ 2 ^ 32
memory_few m s h = by (defined_memory m s) refl
  where
    by : (o : Option Memory) → defined_memory m s ≡ o → length (unwrap_or (o >>= λ x. Some x.bytes) []) ≤ 2 ^ 32
    by None e = omega arith
    by (Some x) e = (h (length (imported_memories m.imports)) x e).1

-- ---- the module ----

each_indexed : {A : Type 0} (P : A → Type 0) (f : ℕ → A → A) → ((n : ℕ) (x : A) → P x → P (f n x)) → (n : ℕ) (xs : List A) → Every P xs → Every P (indexed f n xs)
each_indexed P f h n [] e = tt
each_indexed P f h n (x ∷ xs) e = (h n x e.0, each_indexed P f h (suc n) xs e.1)

module _ (m : Module) (s : State) (evaluated kept : List Text) (numbers : NumbersInRange m) (told : (n : ℕ) → IfSome (value_of_global m s n) ConstNumberInRange) (few : length (memory_bytes m s) ≤ 2 ^ 32) where
  left_in : (n : ℕ) (g : GlobalDef) → GlobalIn g → GlobalIn (global_left m s n g)
  left_in n g k = by (value_of_global m s n) (told n)
    where
      by : (o : Option ConstExpr) → IfSome o ConstNumberInRange → ConstNumberInRange (unwrap_or o g.init)
      by None i = k
      by (Some e) i = i

  segment_in : (n : ℕ) (d : DataSeg) → DataIn d → DataIn (segment_left s n d)
  segment_in n d k = by (is_passive d.mode && not (is_dropped s n))
    where
      by : (b : Bool) → DataIn (cond b d emptied)
      by true = k
      by false = tt

  old_in : Every DataIn m.datas → Every DataIn (old_segments m s)
  old_in k = by (any_uses_data m.funcs) (each_indexed DataIn (segment_left s) segment_in 0 m.datas k)
    where
      by : (b : Bool) → Every DataIn (segments_left s 0 m.datas) → Every DataIn (cond b (segments_left s 0 m.datas) [])
      by true i = i
      by false i = tt

  added_in : Every FuncNumbersInRange (added_funcs m evaluated kept)
  added_in = by (list_any (λ (e : Export). is_kept evaluated kept e.name) m.exports)
    where
      by : (b : Bool) → Every FuncNumbersInRange (cond b (empty_func m ∷ []) [])
      by true = ((tt, refl), tt)
      by false = tt

  export_in : (empty : ℕ) (e : Export) → Named e → IfSome (export_left evaluated kept empty e) Named
  export_in empty e k = by (is_among_names evaluated e.name) (is_among_names kept e.name)
    where
      by : (a b : Bool) → IfSome (cond a (cond b (Some (record e { desc = ex.Func empty })) None) (Some e)) Named
      by true true = k
      by true false = tt
      by false b = k

  exports_in : (empty : ℕ) (es : List Export) → Every Named es → Every Named (filter_map (export_left evaluated kept empty) es)
  exports_in empty [] k = tt
  exports_in empty (e ∷ es) k = by (export_left evaluated kept empty e) (export_in empty e k.0) (exports_in empty es k.1)
    where
      by : (o : Option Export) → IfSome o Named → Every Named (filter_map (export_left evaluated kept empty) es) → Every Named (cons_option o (filter_map (export_left evaluated kept empty) es))
      by None i rest = rest
      by (Some x) i rest = (i, rest)

  tree_numbers : NumbersInRange (snapshot_tree m s evaluated kept)
  tree_numbers = record {
    imports = numbers.imports;
    funcs = every_append FuncNumbersInRange m.funcs (added_funcs m evaluated kept) numbers.funcs added_in;
    tables = numbers.tables;
    mems = numbers.mems;
    globals = each_indexed GlobalIn (global_left m s) left_in (length (imported_globals m.imports)) m.globals numbers.globals;
    exports = exports_in (length (funcs_of m)) m.exports numbers.exports;
    elems = numbers.elems;
    datas = every_append DataIn (old_segments m s) (memory_segments m s) (old_in numbers.datas) (contents_in (length (imported_memories m.imports)) (memory_bytes m s) few);
  }

pub snapshot_numbers : OwnNumbersAreInRange → DeclaredNumbersAreInRange → EvaluatedGlobalsAreInRange → EvaluatedMemoriesAreInRange → (m : Module) (s : State) (evaluated kept : List Text) →
    IsValid m → InRange m → BeginsInRange m → IsAfter m evaluated s → NumbersInRange (declared_snapshot m s evaluated kept)
unfolding declared_snapshot
snapshot_numbers own declared globals memories m s evaluated kept v h begins after =
    let t = snapshot_tree m s evaluated kept in
    let funcs = funcs_named m evaluated in
    let told : (n : ℕ) → IfSome (value_of_global m s n) ConstNumberInRange =
    λ n. subst (λ o. IfSome o ConstNumberInRange) (sym (after.told.globals n)) (told_in m after.end (globals m v begins MOST_TURNS funcs after.end after.quiet) n) in
    let held : length (memory_bytes m after.end) ≤ 2 ^ 32 = memory_few m after.end (memories m v begins MOST_TURNS funcs after.end after.quiet) in
    let few : length (memory_bytes m s) ≤ 2 ^ 32 = subst (λ bytes. length bytes ≤ 2 ^ 32) (sym after.told.bytes) held in
    declared t (tree_numbers m s evaluated kept (own m h) told few)

-- ---- where no constructor is evaluated, and where some are ----

-- The statement of the law for one module: it is in range if it is valid, has at most one memory
-- and is bounded.
abbrev pub IsInRangeIfValid : Module → Type 0
IsInRangeIfValid t = IsValid t → IsSingle t → IsBounded t → InRange t

pub by_names : (m : Module) (s : State) (kept : List Text) → InRange m →
    ((name : Text) (names : List Text) → IsAfter m (name ∷ names) s → IsInRangeIfValid (declared_snapshot m s (name ∷ names) kept)) →
    (evaluated : List Text) → IsAfter m evaluated s → IsInRangeIfValid (snapshot m s evaluated kept)
by_names m s kept h k [] after valid single bounded = h
by_names m s kept h k (name ∷ names) after valid single bounded = k name names after valid single bounded
