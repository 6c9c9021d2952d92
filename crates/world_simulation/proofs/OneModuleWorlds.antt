-- Worlds of one module each: their instances, what their imports denote, and whether these match.
use Rattle.base_lists.proofs.Common.{◌≡◌, ℕ, zero, suc, List, [], ◌++◌, length, Option, Some, false, refl, sym, ap, ◌∙◌, slice_get, unwrap_or, and_then_is, all_there_length, fun_ext, length_rel, same_there, there, then_rel, then_same_is, then_eq, opt_self, self_rel, all_rel}
use Rattle.wasm_tree_spec.specs.Prelude.{Space, FuncType, Import, ImportDesc, Module}
use Rattle.wasm_tree.specs.declared.module.ImportDesc.TheVariants as im
use Rattle.wasm_meaning.specs.Prelude.{Store, Site, has_kind, places, sites, Environment, ExternalValue, all_of, space, sites_in, is_match, is_matched}
use Rattle.run_simulation.specs.Prelude.{Pairing, OptRel, StoreRel, ExternalValueRel, a_func, a_table, a_memory, a_global}
use Rattle.world_simulation.specs.Prelude.{one, external_value_in, addresses, SharesOwn, SpaceAt}
use Rattle.world_simulation.proofs.ModulesAlone.{space_is, thing_is, on_some}
use Rattle.world_simulation.proofs.EnvironmentEntities.{owned_rel, look_rel, address_rel}

module _ (R : Pairing) (env : Environment) (own : SharesOwn R env) where
  pub thing_rel : (types : List FuncType) (o : Option Import) → OptRel (ExternalValueRel R) (external_value_in env types o) (external_value_in env types o)
  thing_rel types o = search (then_same_is, look_rel, owned_rel)

  pub space_at : (t : Module) (k : Space) (xs : List ℕ) → space env (one t) k 0 t ≡ Some xs → SpaceAt R env t k xs
  space_at t k xs h =
      let x = and_then_is (addresses env t.types t.imports k) _ xs (sym (space_is env t k) ∙ h) in
      record {
        imported = x.0;
        are = x.1;
        many = all_there_length _ _ _ x.1;
        all = cc;
        shared = opt_self (all_rel (self_rel (places (has_kind k) t.imports 0) (λ n. then_rel (thing_rel t.types (slice_get t.imports n)) (λ _ _. address_rel R k)))) x.1;
      }

  -- ---- matching ----

  module _ (s z : Store) (like : StoreRel R s z) (t u : Module) (types : u.types ≡ t.types) (imports : u.imports ≡ t.imports) where
    pub match_same : (d : ImportDesc) {x y : ExternalValue} → ExternalValueRel R x y → is_match s t d x ≡ is_match z u d y
    match_same (im.Func ty) (a_func p) = rw (types, same_there (like.types p))
    match_same (im.Table l) (a_table p) = then_eq (there (like.tables p)) (λ _ _ r. rw (r.type, length_rel r.slots, r.most))
    match_same (im.Memory l) (a_memory p) = then_eq (there (like.mems p)) (λ _ _ r. rw r)
    match_same (im.Global l) (a_global p) = then_eq (there (like.globals p)) (λ _ _ r. rw r.type)
    match_same _ _ = refl

    matched_same : (p n : ℕ) → is_matched env (one t) s (record { part = p; import = n }) ≡ is_matched env (one u) z (record { part = p; import = n })
    matched_same zero n =
        let same : external_value_in env u.types (slice_get u.imports n) ≡ external_value_in env t.types (slice_get t.imports n) = rw (types, imports) in
        rw (thing_is env t n, thing_is env u n, same, imports) (ap (λ o. unwrap_or o false) (on_some (slice_get t.imports n) (λ i. then_eq (thing_rel t.types (slice_get t.imports n)) (λ _ _. match_same i.desc))))
    matched_same (suc p) n = refl

    -- The same imports match in both worlds or in neither.
    pub all_matched : all_of (is_matched env (one t) s) (sites (one t)) ≡ all_of (is_matched env (one u) z) (sites (one u))
    all_matched = rw (fun_ext (λ (x : Site). matched_same x.part x.import)) (ap (λ (is : List Import). all_of (is_matched env (one u) z) (sites_in 0 (length is) 0 ++ [])) (sym imports))
