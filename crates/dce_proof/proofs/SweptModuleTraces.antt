-- What closed marks leave of a module has the same trace as the module.
use Rattle.base_lists.proofs.Common.{◌≡◌, ◌∙◌, ap, sym, ℕ, List, [], ◌∷◌, Some, true, option_and_then, is_some_there, arith}
use Rattle.wasm_tree_spec.specs.Prelude.{Functions, Tables, Memories, Globals, Module}
use Rattle.wasm_meaning.specs.Prelude.{Inst, Environment, insts_from, inst_of, starts_of, instantiate, links, alone, Move, events}
use Rattle.run_simulation.specs.Prelude.{ListRel}
use Rattle.index_remap.specs.Prelude.{RenumberedCodeIsRelated}
use Rattle.index_remap_proof.specs.Indices.{TreeNamesOnly}
use Rattle.world_simulation.specs.Prelude.{one, AreSimilar, StartsCorrespond, WorldsCorrespond, IsInst}
use Rattle.base_kept.specs.Kept.{kept}
use Rattle.dce_spec.specs.Marks.{Marks}
use Rattle.dce_spec.specs.Closed.{AreClosed}
use Rattle.dce_spec.specs.Swept.{kept_tree, swept}
use Rattle.dce_spec.specs.Unswept.{unswept}
use Rattle.dce_proof.proofs.CorrespondingWorlds.{kept_indices, R, of, one_to_one, space_there, worlds, starts}
use Rattle.dce_proof.proofs.SweptModuleLinking.{Laws, linked_with}

module _ (laws : Laws) (k : Marks) (t : Module) (c : AreClosed k t) (imports : (swept k t).imports ≡ kept k.imports t.imports) (named : TreeNamesOnly (kept_indices k t) (kept_tree k t)) (code : RenumberedCodeIsRelated) where
  abbrev u : Module
  u = swept k t

  module _ (env : Environment) where
    -- A property of the single instances of both modules holds of their lists of instances.
    for_instances : (P : List Inst → List Inst → Type 0) → ((i j : Inst) → IsInst env (one t) 0 t i → IsInst env (one u) 0 u j → P (i ∷ []) (j ∷ [])) → (is js : List Inst) → insts_from env (one t) 0 (one t) ≡ Some is → insts_from env (one u) 0 (one u) ≡ Some js → P is js
    for_instances P h is js f g =
        let i : (i : Inst) × (is ≡ i ∷ []) × IsInst env (one t) 0 t i = search (arith, f) in
        let j : (i : Inst) × (js ≡ i ∷ []) × IsInst env (one u) 0 u i = search (arith, g) in
        rw (i.1, j.1) (h i.0 j.0 i.2 j.2)

    similar : AreSimilar (R k t c env) env (unswept k t) (alone u)
    similar = for_instances (WorldsCorrespond (R k t c env) env (unswept k t) (alone u)) (λ i j a b. worlds k t c env imports laws.constants i j a b named code)

    start_alike : StartsCorrespond (R k t c env) env (unswept k t) (alone u)
    start_alike = for_instances (λ is js. ListRel ((R k t c env).of Functions) (starts_of (one t) is) (starts_of (one u) js)) (λ i j a b. starts k t c env imports laws.constants i j a b named)

    linked : links env (unswept k t) ≡ true → links env (alone u) ≡ true
    linked h =
        let o = is_some_there (instantiate env (unswept k t)) h in
        let x = laws.made env (unswept k t) o.0 o.1 in
        let i : (i : Inst) × (x.insts ≡ i ∷ []) × IsInst env (one t) 0 t i = search (arith, x.are_insts) in
        let a = i.2 in
        let f = space_there k t c env imports laws.spaces Functions i.0.funcs a.funcs in
        let ts = space_there k t c env imports laws.spaces Tables i.0.tables a.tables in
        let ms = space_there k t c env imports laws.spaces Memories i.0.mems a.mems in
        let gs = space_there k t c env imports laws.spaces Globals i.0.globals a.globals in
        let j = is_some_there (inst_of env (one u) 0 u) (rw (f.1, ts.1, ms.1, gs.1)) in
        let made : (v : Module) (j : Inst) → inst_of env (one v) 0 v ≡ Some j → IsInst env (one v) 0 v j = λ v j e. search arith in
        let b = made u j.0 j.1 in
        linked_with laws k t c env imports i.0 j.0 a b named code o.0 x i.1 (ap (option_and_then (λ i. option_and_then (λ is. Some (i ∷ is)) (Some []))) j.1)

    pub shows_the_same : links env (unswept k t) ≡ true → (moves : List Move) (n : ℕ) → events (unswept k t) env moves n ≡ events (alone u) env moves n
    shows_the_same h = laws.equal_traces (of k t c env) (one_to_one k t c env) env (unswept k t) (alone u) (h ∙ sym (linked h)) similar start_alike
