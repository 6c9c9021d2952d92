-- The values of globals, the bytes and the dropped segments of a machine are those of its state.
use Rattle.base_lists.proofs.Common.{◌≡◌, ℕ, zero, suc, ◌+◌, ◌*◌, ◌<◌, List, [], ◌∷◌, map, length, Bool, true, false, cond, ◌||◌, Option, Some, None, refl, sym, ap, ◌∙◌, arith, slice_get, same_Some, length-map, map_at, push_last}
use Rattle.base_lists.specs.Members.{is_among}
use Rattle.std.specs.Prelude.{unwrap_or}
use Rattle.base_lists.specs.Options.{◌>>=◌}
use Rattle.base_lists.specs.Places.{places}
use Rattle.wasm_tree_spec.specs.Prelude.{Globals, Limits, DataSeg, Module, imported_memories}
use Rattle.block_pool.specs.Pages.{Pages, little, part}
use Rattle.eval_spec.specs.Prelude.{is_imported, constant, value_of_global, is_dropped, memory_bytes, imported_store}
use Rattle.eval_machine.specs.declared.globals.GlobalSlot.{GlobalSlot}
use Rattle.eval_machine.specs.declared.globals.Standing.{Standing}
use Rattle.eval_machine.specs.declared.globals.Standing.TheVariants as standing
use Rattle.eval_machine.specs.declared.kept.Kept.{Kept}
use Rattle.eval_machine.specs.Prelude.{global_of, is_of_import, is_unset, val_of, MachineFits, datas_in, state_in}
use Rattle.eval_machine.specs.DenotedValues.{constant_of, is_known}
use Rattle.eval_machine.proofs.SelectAndSet.{none_mapped}
use Rattle.eval_machine.proofs.GlobalSteps.{among_places}
use Rattle.eval_machine.proofs.DataInOrder.{one_limit}

-- ---- globals ----

cond_same : {A : Type 0} (b : Bool) (x : A) → cond b x x ≡ x
cond_same true x = refl
cond_same false x = refl

pub global_told : (m : Module) (k : Kept) (n : ℕ) → MachineFits m k → constant_of (slice_get k.globals n) ≡ value_of_global m (state_in m k) n
global_told m k n f = by (slice_get k.globals n) refl
  where
    z : 0 + n ≡ n
    z = omega arith

    of_slot : (g : GlobalSlot) → slice_get k.globals n ≡ Some g → (s : Standing) → g.standing ≡ s → cond (is_known s) (constant (val_of g.value)) None ≡ cond (is_of_import s || is_unset s) None (constant (val_of g.value))
    of_slot g e standing.Imported is = refl
    of_slot g e standing.Unset is = refl
    of_slot g e standing.Known is = refl

    by : (o : Option GlobalSlot) → slice_get k.globals n ≡ o → constant_of o ≡ value_of_global m (state_in m k) n
    by None e = let gone : slice_get (map global_of k.globals) n ≡ None = none_mapped global_of k.globals n e in rw gone (sym (cond_same _ None))
    by (Some g) e =
        let unset : is_among (places (λ g. is_unset g.standing) k.globals 0) n ≡ is_unset g.standing = ap (is_among (places (λ g. is_unset g.standing) k.globals 0)) (sym z) ∙ among_places (λ g. is_unset g.standing) k.globals 0 n g e in
        let imported : is_imported m Globals n ≡ is_of_import g.standing = sym (f.imported n g e) in
        let there : slice_get (map global_of k.globals) n ≡ Some (global_of g) = map_at global_of k.globals n g e in
        rw (unset, imported, there) (of_slot g e g.standing refl)

-- ---- segments ----

dropped_at : (ds : List DataSeg) (bs : List Bool) (n : ℕ) (b : Bool) → length bs ≡ length ds → slice_get bs n ≡ Some b → unwrap_or (slice_get (datas_in ds bs) n >>= λ d. Some d.dropped) false ≡ b
dropped_at [] [] n b e f = absurd (let k = f in cc)
dropped_at [] (c ∷ bs) n b e f = absurd (omega (arith, e))
dropped_at (d ∷ ds) [] n b e f = absurd (omega (arith, e))
dropped_at (d ∷ ds) (c ∷ bs) zero b e f = by c (same_Some c b f)
  where
    by : (c : Bool) → c ≡ b → unwrap_or (slice_get (datas_in (d ∷ ds) (c ∷ bs)) 0 >>= λ d. Some d.dropped) false ≡ b
    by true e = e
    by false e = e
dropped_at (d ∷ ds) (c ∷ bs) (suc n) b e f = dropped_at ds bs n b (omega (arith, e)) f

not_dropped : (ds : List DataSeg) (bs : List Bool) (n : ℕ) → length bs ≡ length ds → slice_get bs n ≡ None → unwrap_or (slice_get (datas_in ds bs) n >>= λ d. Some d.dropped) false ≡ false
not_dropped [] bs n e f = refl
not_dropped (d ∷ ds) [] n e f = absurd (omega (arith, e))
not_dropped (d ∷ ds) (c ∷ bs) zero e f = absurd (let k = f in cc)
not_dropped (d ∷ ds) (c ∷ bs) (suc n) e f = not_dropped ds bs n (omega (arith, e)) f

pub dropped_told : (m : Module) (k : Kept) (n : ℕ) (o : Option Bool) → MachineFits m k → slice_get k.dropped n ≡ o → unwrap_or o false ≡ is_dropped (state_in m k) n
dropped_told m k n None f e = sym (not_dropped m.datas k.dropped n f.dropped e)
dropped_told m k n (Some b) f e = sym (dropped_at m.datas k.dropped n b f.dropped e)

-- ---- bytes ----

pub one_byte : (xs : List ℕ) (at : ℕ) → at < length xs → Some (little (part xs at 1)) ≡ slice_get xs at
one_byte [] at lt = absurd (omega (arith, lt))
one_byte (x ∷ xs) zero lt = let n : x + 256 * 0 ≡ x = omega arith in ap Some n
one_byte (x ∷ xs) (suc at) lt = one_byte xs at (omega (arith, lt))

pub bytes_are : (m : Module) (k : Kept) (p : Pages) → MachineFits m k → k.memory ≡ Some p → memory_bytes m (state_in m k) ≡ p.now.bytes
bytes_are m k p f e = let l = one_limit m.mems p (rw e at f.memory) in by l.0 l.1
  where
    z : length (imported_memories m.imports) ≡ length (imported_store m).mems
    z = sym (length-map (imported_memories m.imports) _)

    by : (l : Limits) → m.mems ≡ l ∷ [] → memory_bytes m (state_in m k) ≡ p.now.bytes
    by l one = rw (e, one, z, push_last (imported_store m).mems (record { most = l.max; pages = l.min; bytes = p.now.bytes })) refl
