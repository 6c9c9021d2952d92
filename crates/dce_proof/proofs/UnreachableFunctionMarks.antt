-- The removal of one function that nothing else names: the marks on everything else are closed, and
-- all exports stay in view.
use Rattle.base_lists.proofs.Common.{◌≡◌, ◌∙◌, ap, sym, refl, ℕ, suc, ◌-◌, ◌<◌, ◌∷◌, map, length, replicate, Some, true, false, arith, slice_get, length-append, length-map, slice_get_within, places_many}
use Rattle.base_lists.proofs.Filtered.{place_back}
use Rattle.std.proofs.lemmas.List.{length-replicate, get_or_append_left}
use Rattle.wasm_tree_spec.specs.Prelude.{Space, Types, Functions, Tables, Memories, Globals, ElementSegments, DataSegments, Module, imported_funcs, imported_globals, funcs_of, globals_of}
use Rattle.wasm_meaning.specs.Prelude.{imports_of, has_kind, alone, Text, Entity}
use Rattle.base_kept.specs.Kept.{is_marked}
use Rattle.base_kept.proofs.Laws.{kept_all}
use Rattle.dce_spec.specs.Marks.{Marks, stays}
use Rattle.dce_spec.specs.Closed.{AreClosed}
use Rattle.dce_spec.specs.Unswept.{unswept}
use Rattle.dce_proof.specs.UnreachableFunction.{function_index, all_but, IsUnreachable}
use Rattle.dce_proof.proofs.MarkCounts.{all_marked}

module _ (t : Module) (n : ℕ) where
  abbrev k : Marks
  k = all_but n t

  -- An imported entry of an index space is kept.
  stays_there : (space : Space) (i : ℕ) → i < length (imports_of space t) → stays k space i ≡ true
  stays_there Functions i l =
      let counted : length (imports_of Functions t) ≡ length (imported_funcs t.imports) = places_many _ _ t.imports (grind arith) 0 in
      let many = length-replicate (function_index n t) true in
      get_or_append_left (replicate (function_index n t) true) _ false i (omega (arith, l, counted, many)) ∙ all_marked (function_index n t) i (omega (arith, l, counted))
  stays_there Globals i l =
      let counted : length (imports_of Globals t) ≡ length (imported_globals t.imports) = places_many _ _ t.imports (grind arith) 0 in
      let many = length-append (imported_globals t.imports) (map (λ g. g.ty) t.globals) in
      all_marked (length (globals_of t)) i (omega (arith, l, counted, many))
  stays_there Types i l = refl
  stays_there Tables i l = refl
  stays_there Memories i l = refl
  stays_there ElementSegments i l = refl
  stays_there DataSegments i l = refl

  -- An import is kept exactly if the entry that it adds to its index space is kept.
  imported : (space : Space) (i m : ℕ) → slice_get (imports_of space t) i ≡ Some m → is_marked k.imports m ≡ stays k space i
  imported space i m h =
      let back = place_back (has_kind space) t.imports 0 i m h in
      let within = slice_get_within t.imports back.0 back.1 back.3 in
      let at = back.2 in
      all_marked (length t.imports) m (omega (arith, within, at)) ∙ sym (stays_there space i (slice_get_within (imports_of space t) i m h))

  pub closed : n < length t.funcs → IsUnreachable n t → AreClosed k t
  closed there unreachable = record {
    exports_many = length-replicate (length t.exports) true;
    imports_many = length-replicate (length t.imports) true;
    funcs_many = funcs_many;
    globals_many = length-replicate (length (globals_of t)) true;
    imported = imported;
    names = unreachable.not_named;
  }
    where
      funcs_many : length k.funcs ≡ length (funcs_of t)
      funcs_many =
          let both = length-append (replicate (function_index n t) true) (false ∷ replicate (length t.funcs - suc n) true) in
          let before = length-replicate (function_index n t) true in
          let behind = length-replicate (length t.funcs - suc n) true in
          let all = length-append (imported_funcs t.imports) (map (λ f. f.ty) t.funcs) in
          let own = length-map t.funcs (λ f. f.ty) in
          omega (arith, both, before, behind, all, own, there)

  pub all_in_view : unswept k t ≡ alone t
  all_in_view = ap (λ view. record (alone t) { view = view }) (kept_all (length t.exports) (alone t).view (let many = length-map {B = Text × Entity} t.exports (λ e. (e.name, record { part = 0; what = e.desc })) in omega (arith, many)))
