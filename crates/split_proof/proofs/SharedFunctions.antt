-- A function that a secondary module imports is left in the primary module: a moved one is imported
-- only where a body names it by `ref.func`.
use Rattle.base_lists.proofs.Common.{◌≡◌, ◌∙◌, ap, sym, refl, ℕ, ◌-◌, ◌<◌, Some, arith, length, List, [], ◌∷◌, ◌++◌, map, Bool, true, false, ◌&&◌, ◌||◌, not, nat_eq, ⊎_elim, slice_get, cons_option, flat_map, list_any, list_any_there, chosen_from, place_back}
use Rattle.base_lists.proofs.Common.{numbers_is, map_from, cases_Bool, either_true, left_either, right_either, same_number, among_left, among_right, among_joined, ap₂, cond, None, filter_map}
use Rattle.base_lists.specs.Members.{is_among}
use Rattle.std.proofs.Common.{eq-eqb}
use Rattle.base_lists.specs.Every.{Every}
use Rattle.base_lists.specs.Places.{numbers}
use Rattle.wasm_tree_spec.specs.Prelude.{Operand, Space, Functions, Instr, fold_out-Instr, map-Instr, out-Instr, Module, any_operand_passes, held, operand_passes, imported_funcs, same_space, operands}
use Rattle.wasm_tree.specs.declared.instr.Instr.TheOpen.{Instr-F}
use Rattle.wasm_tree.specs.Operands.{any_pass_step}
use Rattle.wasm_tree.proofs.OperandLaws.{by_held, operands_map, held_map}
use Rattle.wasm_valid.specs.Prelude.{refs_of}
use Rattle.index_remap.specs.Prelude.{body_refs, refs, refs_all, refs_step, referred}
use Rattle.split_spec.specs.Prelude.{defined_at, is_needed, entities, from_primary, is_from_primary, is_named_from_primary, marks_from_primary, is_left}

module _ (moved : List ℕ) (x : ℕ) (moves : is_among moved x ≡ true) where
  abbrev test : Operand → Bool
  test = is_named_from_primary moved Functions x

  abbrev Named : Instr → Type 0
  Named i = operand_passes test i ≡ true → is_among (refs i) x ≡ true

  -- The case of a list of instructions.
  all_named : (is : List Instr) → Every Named is → list_any (λ b. b) (map (operand_passes test) is) ≡ true → is_among (refs_all is) x ≡ true
  all_named [] p h = cc
  all_named (i ∷ is) p h =
      ⊎_elim (λ e. among_left (refs i) (refs_all is) x (p.0 e)) (λ e. among_right (refs i) (refs_all is) x (all_named is p.1 e)) (either_true (operand_passes test i) (list_any (λ b. b) (map (operand_passes test) is)) h)

  -- An operand for which a moved function is shared is that of a `ref.func`, since calls do not
  -- share moved functions.
  own_named : (os : List Operand) → list_any test os ≡ true → is_among (filter_map referred os) x ≡ true
  own_named [] h = cc
  own_named (o ∷ os) h = by (same_space o.space Functions) (nat_eq o.index x) refl o.called (own_named os) h
    where
      by : (s e : Bool) → nat_eq o.index x ≡ e → (c : Bool) → (list_any test os ≡ true → is_among (filter_map referred os) x ≡ true) → ((s && (e && not (c && is_among moved x))) || list_any test os) ≡ true →
          is_among (cons_option (cond (s && not c) (Some o.index) None) (filter_map referred os)) x ≡ true
      by false e q c later h = later h
      by true true q true later h = later (rw moves at h)
      by true false q true later h = later h
      by true true q false later h = left_either (nat_eq x o.index) (is_among (filter_map referred os) x) (eq-eqb x o.index (sym (same_number o.index x q)))
      by true false q false later h = right_either (nat_eq x o.index) (is_among (filter_map referred os) x) (later h)

  layer_named : (l : Instr-F Instr) → any_pass_step test (map-Instr Instr Bool (operand_passes test) l) ≡ true → Every Named (held l) → is_among (refs_step (map-Instr Instr (List ℕ) refs l)) x ≡ true
  layer_named l h p =
      let same : refs_step (map-Instr Instr (List ℕ) refs l) ≡ filter_map referred (operands l) ++ refs_all (held l) = ap₂ (λ os xs. filter_map referred os ++ flat_map (λ xs. xs) xs) (operands_map refs l) (held_map refs l) in
      let inside : list_any (λ b. b) (held (map-Instr Instr Bool (operand_passes test) l)) ≡ list_any (λ b. b) (map (operand_passes test) (held l)) = ap (list_any (λ b. b)) (held_map (operand_passes test) l) in
      let own : list_any test (operands (map-Instr Instr Bool (operand_passes test) l)) ≡ list_any test (operands l) = ap (list_any test) (operands_map (operand_passes test) l) in
      ap (λ xs. is_among xs x) same
      ∙ ⊎_elim (λ e. among_left (filter_map referred (operands l)) (refs_all (held l)) x (own_named (operands l) e)) (λ e. among_right (filter_map referred (operands l)) (refs_all (held l)) x (all_named (held l) p e))
      (either_true (list_any test (operands l)) (list_any (λ b. b) (map (operand_passes test) (held l))) (sym (ap₂ (λ a b. a || b) own inside) ∙ h))

  instr_named : (i : Instr) → Named i
  instr_named = by_held Named (λ i p h. ap (λ xs. is_among xs x) (fold_out-Instr (List ℕ) refs_step i) ∙ layer_named (out-Instr i) (sym (fold_out-Instr Bool (any_pass_step test) i) ∙ h) p)

  pub ref_named : (is : List Instr) → any_operand_passes test is ≡ true → is_among (refs_all is) x ≡ true
  ref_named [] h = cc
  ref_named (i ∷ is) h =
      ⊎_elim (λ e. among_left (refs i) (refs_all is) x (instr_named i e)) (λ e. among_right (refs i) (refs_all is) x (ref_named is e)) (either_true (operand_passes test i) (any_operand_passes test is) h)

pub shared_left : (m : Module) (moved : List ℕ) (x : ℕ) → is_from_primary moved (defined_at m moved) Functions x ≡ true → is_left m moved x ≡ true
shared_left m moved x h =
    ⊎_elim
    (λ e.
    let f = list_any_there (λ f. any_operand_passes (is_named_from_primary moved Functions x) f.body) (defined_at m moved) h in
    let g = chosen_from (λ func. slice_get m.funcs (func - length (imported_funcs m.imports))) moved f.1.0 f.0 f.1.1 in
    let among = among_joined (λ f. refs_all f.body) m.funcs (g.0 - length (imported_funcs m.imports)) f.0 x g.2 (ref_named moved x e f.0.body f.2) in
    right_either (not (is_among moved x)) (is_needed m x) (among_right (refs_of m) (cons_option m.start [] ++ body_refs m.funcs) x (among_right (cons_option m.start []) (body_refs m.funcs) x among)))
    (λ e. left_either (not (is_among moved x)) (is_needed m x) (ap not e))
    (cases_Bool (is_among moved x))

-- An imported index is one of the index space.
pub shared_within : (m : Module) (moved own : List ℕ) (space : Space) (n i : ℕ) → slice_get (from_primary m moved own space) n ≡ Some i → (i < length (entities m space)) × (is_from_primary moved (defined_at m own) space i ≡ true)
shared_within m moved own space n i at =
    let p = place_back (λ b. b) (marks_from_primary m moved own space) 0 n i at in
    let x = map_from (is_from_primary moved (defined_at m own) space) (numbers 0 (length (entities m space))) p.0 p.1 p.3 in
    let v = numbers_is (length (entities m space)) p.0 x.0 x.1 in
    let e = p.2 in
    let w = v.1 in
    let same : x.0 ≡ i = omega (arith, e, w) in
    let lt = v.0 in
    (omega (arith, e, lt), sym (ap (is_from_primary moved (defined_at m own) space) same) ∙ x.2 ∙ p.4)
