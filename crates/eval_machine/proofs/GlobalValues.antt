-- The values of globals of a machine that fits its module, after its instantiation with the start
-- and after a call.
use Rattle.base_lists.proofs.Common.{◌≡◌, ◌∙◌, ℕ, ◌≤◌, arith, List, [], ◌∷◌, length, Bool, true, Option, Some, None, refl, sym, ap, length-append, length-map}
use Rattle.std.specs.Prelude.{unwrap_or}
use Rattle.block_pool.specs.Pages.{Pages}
use Rattle.wasm_tree_spec.specs.Prelude.{Limits, DataSeg, Module, imported_memories}
use Rattle.wasm_valid.specs.Prelude.{IsValid}
use Rattle.wasm_meaning.specs.Prelude.{Memory}
use Rattle.eval_spec.specs.declared.limits.TheConstants.{MOST_TURNS}
use Rattle.eval_spec.specs.Prelude.{Stage, Going, Stopped, Finished, is_finished, state_of, booted, imported_store, instantiated, called_in_order}
use Rattle.eval_proof.specs.GlobalValues.{CallsKeepRefs, CallsKeepTypes, EvaluatedGlobalsAreTyped, EvaluatedRefsAreThere, HasPartsOf}
use Rattle.eval_machine.specs.declared.kept.Kept.{Kept}
use Rattle.eval_machine.specs.Prelude.{CallEnds, IsReady, global_of, MachineFits, IsUnmarked, MemoryFits, Rests, datas_in, memory_in, state_in, store_in}
use Rattle.eval_machine.specs.Kept.{base_of, no_state}

memories_many : (ls : List Limits) (p : Option Pages) → MemoryFits ls p → length ls ≤ length (memory_in ls p)
memories_many [] p h = omega arith
memories_many (l ∷ []) (Some p) h = omega arith
memories_many (l ∷ []) None h = elim h [ ]
memories_many (l ∷ k ∷ ls) p h = elim h [ ]

datas_many : (ds : List DataSeg) (bs : List Bool) → length bs ≡ length ds → length ds ≤ length (datas_in ds bs)
datas_many [] bs e = omega arith
datas_many (d ∷ ds) [] e = absurd (omega (arith, e))
datas_many (d ∷ ds) (b ∷ bs) e = let le = datas_many ds bs (omega (arith, e)) in omega (arith, le)

finished_is : (t : Stage) → is_finished t ≡ true → t ≡ Finished (unwrap_or (state_of t) no_state)
finished_is (Finished s) e = refl
finished_is (Stopped x left) e = absurd (let k = e in cc)
finished_is (Going s es) e = absurd (let k = e in cc)

module _ (m : Module) where
  base_is : is_finished (instantiated m MOST_TURNS) ≡ true → instantiated m MOST_TURNS ≡ Finished (base_of m)
  unfolding base_of
  base_is e = finished_is (instantiated m MOST_TURNS) e

  parts : (k : Kept) → MachineFits m k → HasPartsOf m (base_of m).store (store_in m k)
  parts k f = record {
    funcs = refl;
    tables = refl;
    elems = refl;
    mems = omega (
      arith,
      memories_many m.mems k.memory f.memory,
      length-append (imported_memories m.imports) m.mems,
      length-append (imported_store m).mems (memory_in m.mems k.memory),
      length-map {B = Memory} (imported_memories m.imports) (λ (l : Limits). record { most = l.max; pages = 0; bytes = [] }),
    );
    globals = let same = sym (length-map k.globals (λ g. g.ty)) ∙ ap length f.types in omega (arith, same, length-map k.globals global_of);
    datas = datas_many m.datas k.dropped f.dropped;
  }

  module _ (valid : IsValid m) where
    -- The machine after the instantiation with the start.
    pub is_ready : EvaluatedRefsAreThere → EvaluatedGlobalsAreTyped → (k : Kept) → MachineFits m k → IsUnmarked k.memory → booted m MOST_TURNS ≡ Finished (state_in m k) → IsReady m k
    is_ready there typed k fits unmarked e =
        let none = ap (λ t. called_in_order m t []) e in
        record {
          rests = record { fits = fits; unmarked = unmarked; typed = typed m valid MOST_TURNS [] (state_in m k) none; references = there m valid MOST_TURNS [] (state_in m k) none };
          ends = e;
        }

    -- The machine after a call that comes to its end.
    pub still_rests : CallsKeepRefs → CallsKeepTypes → (old new : Kept) (func : ℕ) → Rests m old → MachineFits m new → IsUnmarked new.memory → CallEnds m func old None new → Rests m new
    still_rests refs types old new func r fits unmarked e = record {
      fits = fits;
      unmarked = unmarked;
      typed = types m (state_in m old) (state_in m new) func r.typed e;
      references = refs m valid MOST_TURNS (base_of m) (state_in m old) (state_in m new) func (base_is r.fits.ready) (parts old r.fits) r.typed r.references e;
    }
