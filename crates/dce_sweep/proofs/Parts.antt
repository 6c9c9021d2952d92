-- What is kept of a module, list by list.
use Rattle.base_lists.proofs.Common.{◌≡◌, ◌∙◌, ap, ◌-◌, List, length, map, drop, arith, refl, length-append, length-map}
use Rattle.wasm_tree_spec.specs.Prelude.{ElemSeg, Export, Func, GlobalDef, Import, Module, funcs_of, globals_of, imported_funcs, imported_globals}
use Rattle.base_kept.specs.Kept.{kept}
use Rattle.dce_spec.specs.Marks.{Marks}
use Rattle.index_remap.specs.Prelude.{declared}
use Rattle.dce_spec.specs.Swept.{defined_funcs, defined_globals, kept_elem, kept_tree, renumbered_kept, swept}

module _ (k : Marks) (m : Module) where
  pub funcs_behind : length k.funcs ≡ length (funcs_of m) → drop (length k.funcs - length m.funcs) k.funcs ≡ defined_funcs k m
  funcs_behind many =
      let all = length-append (imported_funcs m.imports) (map (λ f. f.ty) m.funcs) in
      let own = length-map m.funcs (λ f. f.ty) in
      ap (λ n. drop n k.funcs) (let e : length k.funcs - length m.funcs ≡ length (imported_funcs m.imports) = omega (arith, many, all, own) in e)

  pub globals_behind : length k.globals ≡ length (globals_of m) → drop (length k.globals - length m.globals) k.globals ≡ defined_globals k m
  globals_behind many =
      let all = length-append (imported_globals m.imports) (map (λ g. g.ty) m.globals) in
      let own = length-map m.globals (λ g. g.ty) in
      ap (λ n. drop n k.globals) (let e : length k.globals - length m.globals ≡ length (imported_globals m.imports) = omega (arith, many, all, own) in e)

  pub tree_is : (is : List Import) (fs : List Func) (gs : List GlobalDef) (es : List Export) (ss : List ElemSeg) → is ≡ kept k.imports m.imports → fs ≡ kept (defined_funcs k m) m.funcs → gs ≡ kept (defined_globals k m) m.globals → es ≡ kept k.exports m.exports → ss ≡ map (kept_elem k) m.elems →
      record m { imports = is; funcs = fs; globals = gs; exports = es; elems = ss } ≡ kept_tree k m
  tree_is is fs gs es ss a b c d e = rw (a, b, c, d, e) refl

pub left_is : (k : Marks) (m from tree new : Module) → new ≡ declared tree → tree ≡ renumbered_kept k from → from ≡ m → new ≡ swept k m
unfolding swept
left_is k m from tree new a b c = a ∙ ap declared (b ∙ ap (renumbered_kept k) c)
