-- The instructions table.get and table.size.
use Rattle.base_lists.proofs.Common.{◌≡◌, ℕ, ◌+◌, ◌-◌, ◌<◌, ◌≤◌, arith, List, ◌∷◌, length, slice_get, true, false, Option, Some, None, refl, sym, ap, ◌∙◌, nat_lt, lt-ltb, le-ltb, length-append, same_Some, slice_get_past, slice_get_within, length-numbers, none_past}
use Rattle.base_lists.specs.Options.{◌>>=◌}
use Rattle.wasm_tree_spec.specs.Prelude.{Tables, TableType, Instr, Module, imported_tables, tables_of}
use Rattle.wasm_tree.specs.declared.instr.Instr.TheVariants as i
use Rattle.wasm_tree.specs.declared.instr.Instr.TheOpen.{Instr-F}
use Rattle.wasm_num.specs.Operations.{W32}
use Rattle.wasm_meaning.specs.Prelude.{Gives, IllTyped, RefVal, Val, Num, Ref, Table, Entry, pop_num}
use Rattle.eval_spec.specs.declared.stop.Stop.TheVariants as why
use Rattle.eval_spec.specs.Prelude.{is_imported, own_inst}
use Rattle.eval_machine.specs.declared.kept.Kept.{Kept}
use Rattle.eval_machine.specs.declared.value.Value.{Value}
use Rattle.eval_machine.specs.declared.slots.Slot.TheVariants as slot
use Rattle.eval_machine.specs.Prelude.{val_of, IsSlot, is_unknown_in, ref_in, slot_count, MachineFits, base_of, LevelPlace, BeginsWith}
use Rattle.eval_machine.proofs.IndexSpaces.{address_of, tables_many}
use Rattle.eval_machine.proofs.InstructionSteps.{IsStill, ends_on, ends_trap, ends_unknown}

-- ---- a table as an instruction finds it ----

pub record IsTable (m : Module) (n count : ℕ) : Type 0 where
  pub table : Table
  pub address : slice_get (own_inst m).tables n ≡ Some n
  pub there : slice_get (base_of m).store.tables n ≡ Some table
  pub size : length table.slots ≡ count

module _ (m : Module) (k : Kept) (f : MachineFits m k) (n : ℕ) where
  counted : k.imports.tables ≡ length (imported_tables m.imports)
  counted = ap (λ i. i.tables) f.imports

  pub imported_table : n < k.imports.tables → is_imported m Tables n ≡ true
  imported_table lt = lt-ltb n _ (omega (arith, lt, counted, tables_many m))

  pub own_table : k.imports.tables ≤ n → is_imported m Tables n ≡ false
  own_table le = le-ltb n _ (omega (arith, le, counted, tables_many m))

  counts : length (tables_of m) ≡ length (imported_tables m.imports) + length m.tables
  counts = length-append (imported_tables m.imports) m.tables

  module _ (le : k.imports.tables ≤ n) where
    past : nat_lt n (length (imported_tables m.imports)) ≡ false
    past = le-ltb n _ (omega (arith, le, counted))

    within_at : (o : Option TableType) → slice_get m.tables (n - length (imported_tables m.imports)) ≡ o → (count : ℕ) → (o >>= λ t. Some t.limits.min) ≡ Some count → n < length (tables_of m)
    within_at None e count h = absurd (let q = h in cc)
    within_at (Some t) e count h = omega (arith, slice_get_within m.tables (n - length (imported_tables m.imports)) t e, le, counted, counts)

    -- A table that has slots is one of the module.
    within : (count : ℕ) → slot_count (base_of m) n ≡ Some count → n < length (tables_of m)
    within count h = within_at (slice_get m.tables (n - length (imported_tables m.imports))) refl count (rw past at (sym (f.sizes n) ∙ h))

    table_at : (count : ℕ) → n < length (tables_of m) → (o : Option Table) → slice_get (base_of m).store.tables n ≡ o → (o >>= λ t. Some (length t.slots)) ≡ Some count → IsTable m n count
    table_at count lt None e h = absurd (let q = h in cc)
    table_at count lt (Some t) e h = record { table = t; address = address_of (length (tables_of m)) n lt; there = e; size = same_Some (length t.slots) count h }

    pub table_found : (count : ℕ) → slot_count (base_of m) n ≡ Some count → IsTable m n count
    table_found count h = table_at count (within count h) (slice_get (base_of m).store.tables n) refl h

    none_at : (o : Option TableType) → slice_get m.tables (n - length (imported_tables m.imports)) ≡ o → (o >>= λ t. Some t.limits.min) ≡ None → length (tables_of m) ≤ n
    none_at None e h = omega (arith, none_past m.tables (n - length (imported_tables m.imports)) (sym e), le, counted, counts)
    none_at (Some t) e h = absurd (let q = h in cc)

    pub no_table : slot_count (base_of m) n ≡ None → slice_get (own_inst m).tables n ≡ None
    no_table h = slice_get_past (own_inst m).tables n (omega (arith, none_at (slice_get m.tables (n - length (imported_tables m.imports))) refl (rw past at (sym (f.sizes n) ∙ h)), length-numbers 0 (length (tables_of m))))

-- ---- table.get ----

module _ (m : Module) (k : Kept) (f : MachineFits m k) (n : ℕ) (vs us : List Val) where
  pub get_imported : n < k.imports.tables → BeginsWith m (i.TableGet n) k vs (Some why.Unknown) k us
  get_imported lt = λ ls rest p es. ends_unknown m (record { kept = k; operands = vs; locals = ls }) (i.TableGet n) (Instr-F.TableGet n) rest p es (i.outs-TableGet n) refl refl (rw (imported_table m k f n lt))

  module _ (le : k.imports.tables ≤ n) where
    pub get_nowhere : slot_count (base_of m) n ≡ None → BeginsWith m (i.TableGet n) k vs (Some why.Trap) k us
    get_nowhere h = λ ls rest p es.
        let none = no_table m k f n le h in
        ends_trap m (record { kept = k; operands = vs; locals = ls }) (i.TableGet n) (Instr-F.TableGet n) rest p es (i.outs-TableGet n)
        (record { grow = refl; table = refl; unknown = rw (own_table m k f n le, none); import = refl; further = refl; opens = refl; few = refl; written = refl }) (rw none)

    module _ (count : ℕ) (t : IsTable m n count) where
      pub get_untyped : pop_num W32 vs ≡ IllTyped → BeginsWith m (i.TableGet n) k vs (Some why.Trap) k us
      get_untyped e = λ ls rest p es.
          ends_trap m (record { kept = k; operands = vs; locals = ls }) (i.TableGet n) (Instr-F.TableGet n) rest p es (i.outs-TableGet n)
          (record { grow = refl; table = refl; unknown = rw (own_table m k f n le, t.address, e); import = refl; further = refl; opens = refl; few = refl; written = refl }) (rw (t.address, t.there, e))

      module _ (place : ℕ) (below : List Val) (pop : pop_num W32 vs ≡ Gives (place, below)) where
        pub get_unknown : is_unknown_in (base_of m) n place ≡ true → BeginsWith m (i.TableGet n) k vs (Some why.Unknown) k us
        get_unknown u = λ ls rest p es. ends_unknown m (record { kept = k; operands = vs; locals = ls }) (i.TableGet n) (Instr-F.TableGet n) rest p es (i.outs-TableGet n) refl refl (rw (own_table m k f n le, t.address, pop, u))

        get_still : is_unknown_in (base_of m) n place ≡ false → (ls : List Val) (rest : List Instr) (p : LevelPlace) (es : List Entry) → IsStill m (record { kept = k; operands = vs; locals = ls }) (i.TableGet n) (Instr-F.TableGet n) rest p es
        get_still u ls rest p es = record { grow = refl; table = refl; unknown = rw (own_table m k f n le, t.address, pop, u); import = refl; further = refl; opens = refl; few = refl; written = refl }

        slot_is : (o : Option RefVal) → ref_in (base_of m) n place ≡ o → slice_get t.table.slots place ≡ o
        slot_is o e = rw t.there at e

        pub get_outside : is_unknown_in (base_of m) n place ≡ false → ref_in (base_of m) n place ≡ None → BeginsWith m (i.TableGet n) k vs (Some why.Trap) k us
        get_outside u e = λ ls rest p es.
            ends_trap m (record { kept = k; operands = vs; locals = ls }) (i.TableGet n) (Instr-F.TableGet n) rest p es (i.outs-TableGet n) (get_still u ls rest p es) (rw (t.address, t.there, pop, slot_is None e))

        get_known_at : is_unknown_in (base_of m) n place ≡ false → (v : Val) (o : Option RefVal) → ref_in (base_of m) n place ≡ o → (o >>= λ x. Some (Ref x)) ≡ Some v → BeginsWith m (i.TableGet n) k vs None k (v ∷ below)
        get_known_at u v None e h = absurd (let q = h in cc)
        get_known_at u v (Some r) e h = λ ls rest p es.
            let same : Ref r ≡ v = same_Some (Ref r) v h in
            ends_on m (record { kept = k; operands = vs; locals = ls }) (i.TableGet n) (Instr-F.TableGet n) rest p es (i.outs-TableGet n) (get_still u ls rest p es) (record { kept = k; operands = v ∷ below; locals = ls })
            (rw (t.address, t.there, pop, slot_is (Some r) e, same)) refl

        pub get_known : (v : Value) → IsSlot (base_of m) n place (slot.Known v) → BeginsWith m (i.TableGet n) k vs None k (val_of v ∷ below)
        get_known v h = get_known_at h.0 (val_of v) (ref_in (base_of m) n place) refl h.1

-- ---- table.size ----

module _ (m : Module) (k : Kept) (f : MachineFits m k) (n : ℕ) (vs us : List Val) where
  pub size_imported : n < k.imports.tables → BeginsWith m (i.TableSize n) k vs (Some why.Unknown) k us
  size_imported lt = λ ls rest p es. ends_unknown m (record { kept = k; operands = vs; locals = ls }) (i.TableSize n) (Instr-F.TableSize n) rest p es (i.outs-TableSize n) refl refl (rw (imported_table m k f n lt))

  module _ (le : k.imports.tables ≤ n) where
    size_still : (ls : List Val) (rest : List Instr) (p : LevelPlace) (es : List Entry) → IsStill m (record { kept = k; operands = vs; locals = ls }) (i.TableSize n) (Instr-F.TableSize n) rest p es
    size_still ls rest p es = record { grow = refl; table = refl; unknown = rw (own_table m k f n le); import = refl; further = refl; opens = refl; few = refl; written = refl }

    pub size_nowhere : slot_count (base_of m) n ≡ None → BeginsWith m (i.TableSize n) k vs (Some why.Trap) k us
    size_nowhere h = λ ls rest p es. ends_trap m (record { kept = k; operands = vs; locals = ls }) (i.TableSize n) (Instr-F.TableSize n) rest p es (i.outs-TableSize n) (size_still ls rest p es) (let none = no_table m k f n le h in rw none)

    pub size_known : (count : ℕ) → slot_count (base_of m) n ≡ Some count → BeginsWith m (i.TableSize n) k vs None k (Num W32 count ∷ vs)
    size_known count h = λ ls rest p es.
        let t = table_found m k f n le count h in
        ends_on m (record { kept = k; operands = vs; locals = ls }) (i.TableSize n) (Instr-F.TableSize n) rest p es (i.outs-TableSize n) (size_still ls rest p es) (record { kept = k; operands = Num W32 count ∷ vs; locals = ls }) (rw (t.address, t.there, t.size)) refl
