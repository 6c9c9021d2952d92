-- In an environment that links a module whose evaluation is quiet, the instantiations of the quiet
-- run and of the machine leave related stores, and the functions to be called correspond.
use Rattle.base_lists.proofs.Common.{◌≡◌, ◌∙◌, ap, subst, refl, ℕ, suc, ◌<◌, List, [], ◌∷◌, ◌++◌, map, length, Bool, true, false, cond, Option, Some, None, is_some, inl, inr, arith, slice_get, IsTrue, same_Some, chosen_from, and_then_is, is_some_there, append_from, map_from, slice_get_there}
use Rattle.base_lists.proofs.Common.{append_rel}
use Rattle.wasm_tree_spec.specs.Prelude.{Functions, Export, ExportDesc, ImportDesc, Module, func_of, funcs_of, imported_funcs}
use Rattle.wasm_tree.specs.declared.module.ExportDesc.TheVariants as ex
use Rattle.wasm_tree.specs.declared.module.ImportDesc.TheVariants as im
use Rattle.wasm_tree.specs.declared.module.Func as tree
use Rattle.wasm_valid.specs.Prelude.{IsValid}
use Rattle.wasm_meaning.specs.Prelude.{Text, Inst, export_named, same_text, Environment, Filled, all_there, alone, begun, joined_stores, links, own_store, segments, start_in}
use Rattle.run_simulation.specs.Prelude.{ListRel, cons, nil}
use Rattle.index_remap_proof.specs.Indices.{ExportNamesOnly, ImportNamesOnly, TreeNamesOnly, with_entry}
use Rattle.world_simulation.specs.Prelude.{one, WhatIsInstantiated, IsInst}
use Rattle.eval_spec.specs.declared.limits.TheConstants.{MOST_TURNS}
use Rattle.eval_spec.specs.Prelude.{State, Stage, Going, Stopped, Finished, called_in_order, evaluated, after_start, instantiated}
use Rattle.eval_snapshot_spec.specs.Evaluated.{first_missing, func_exported, func_named, funcs_named}
use Rattle.eval_snapshot_spec.specs.Snapshot.{empty_func}
use Rattle.eval_snapshot_proof.specs.EvaluatedWorlds.{evaluated_world, with_empty_func}
use Rattle.eval_snapshot_proof.proofs.FilledStores.{both_filled}
use Rattle.eval_snapshot_proof.proofs.NamedIndices.{NamingLaws, below, each_index, names_there}
use Rattle.eval_snapshot_proof.proofs.AddedFunctionLinks.{MoreMade, more_made}
use Rattle.eval_snapshot_proof.proofs.AddedFunctions.{with_funcs}
use Rattle.eval_snapshot_proof.proofs.QuietRuns.{BothInstantiated, start_of}
use Rattle.eval_snapshot_proof.proofs.IndexRelation.{apart}
use Rattle.eval_snapshot_proof.proofs.RowsOfAddresses.{rows}
use Rattle.eval_snapshot_proof.proofs.Counterparts.{R, func_stands, func_there}

-- ---- a quiet evaluation begins with a quiet instantiation ----

pub instantiated_first : (m : Module) (c : Stage) (o : Option ℕ) (ns : List ℕ) (t : State) → called_in_order m (after_start m c o) ns ≡ Finished t → (s : State) × (c ≡ Finished s)
instantiated_first m (Finished s) o ns t e = (s, refl)
instantiated_first m (Stopped x left) o [] t e = absurd (let k = e in cc)
instantiated_first m (Stopped x left) o (n ∷ ns) t e = absurd (let k = e in cc)
instantiated_first m (Going s es) o [] t e = absurd (let k = e in cc)
instantiated_first m (Going s es) o (n ∷ ns) t e = absurd (let k = e in cc)

-- ---- the functions that are called ----

module _ (m : Module) (names : TreeNamesOnly (with_entry (each_index m)) m) where
  exported_func : (d : ExportDesc) (f : ℕ) → ExportNamesOnly (with_entry (each_index m)) d → func_exported d ≡ Some f → f < length (funcs_of m)
  exported_func (ex.Func g) f h e = subst (λ f. f < length (funcs_of m)) (same_Some g f e) (below (length (funcs_of m)) g h)
  exported_func (ex.Table n) f h e = absurd (let k = e in cc)
  exported_func (ex.Memory n) f h e = absurd (let k = e in cc)
  exported_func (ex.Global n) f h e = absurd (let k = e in cc)

  -- The export found under a name names an index in range if all exports do.
  found_named : (es : List Export) (name : Text) (d : ExportDesc) → ((n : ℕ) (e : Export) → slice_get es n ≡ Some e → ExportNamesOnly (with_entry (each_index m)) e.desc) → export_named es name ≡ Some d →
      ExportNamesOnly (with_entry (each_index m)) d
  found_named [] name d each h = absurd (let k = h in cc)
  found_named (e ∷ es) name d each h = by (found_named es name d (λ n. each (suc n))) (same_text e.name name) h
    where
      by : (export_named es name ≡ Some d → ExportNamesOnly (with_entry (each_index m)) d) → (b : Bool) → cond b (Some e.desc) (export_named es name) ≡ Some d → ExportNamesOnly (with_entry (each_index m)) d
      by later true q = subst (ExportNamesOnly (with_entry (each_index m))) (same_Some e.desc d q) (each 0 e refl)
      by later false q = later q

  pub named_func : (name : Text) (f : ℕ) → func_named m name ≡ Some f → f < length (funcs_of m)
  named_func name f h =
      let d = and_then_is (export_named m.exports name) func_exported f h in
      exported_func d.0 f (found_named m.exports name d.0 names.exports d.1) d.2

  named_funcs : (constructors : List Text) (k f : ℕ) → slice_get (funcs_named m constructors) k ≡ Some f → f < length (funcs_of m)
  named_funcs constructors k f h = let x = chosen_from (func_named m) constructors k f h in named_func x.0 f x.2

  pub started_func : (f : ℕ) → m.start ≡ Some f → f < length (funcs_of m)
  started_func f h = below (length (funcs_of m)) f (names.start f h)

  -- A module that imports a function has a type.
  imported_type : (d : ImportDesc) (ty : ℕ) → ImportNamesOnly (with_entry (each_index m)) d → func_of d ≡ Some ty → ty < length m.types
  imported_type (im.Func u) ty h e = subst (λ n. n < length m.types) (same_Some u ty e) (below (length m.types) u h)
  imported_type (im.Table t) ty h e = absurd (let k = e in cc)
  imported_type (im.Memory l) ty h e = absurd (let k = e in cc)
  imported_type (im.Global t) ty h e = absurd (let k = e in cc)

  pub typed : (f : ℕ) → f < length (funcs_of m) → 0 < length m.types
  typed f lt =
      let ty = slice_get_there (funcs_of m) f lt in
      let low : ty.0 < length m.types = elim (append_from (imported_funcs m.imports) (map (λ f. f.ty) m.funcs) f ty.0 ty.1) [
        | inl e ↦ let x = chosen_from (λ i. func_of i.desc) m.imports f ty.0 e in imported_type x.0.desc ty.0 (names.imports x.1.0 x.0 x.1.1) x.2
        | inr j ↦ let x = map_from (λ f. f.ty) m.funcs j.0 ty.0 j.2 in subst (λ n. n < length m.types) x.2 (below (length m.types) x.0.ty ((names.funcs j.0 x.0 x.1).0))
      ] in
      omega (arith, low)

  first_there : (name : Text) (constructors : List Text) → first_missing m (name ∷ constructors) ≡ None → 0 < length m.types
  first_there name constructors h = by (is_some (func_named m name)) refl h
    where
      by : (b : Bool) → is_some (func_named m name) ≡ b → cond b (first_missing m constructors) (Some name) ≡ None → 0 < length m.types
      by true e k = let f = is_some_there (func_named m name) e in typed f.0 (named_func name f.0 f.1)
      by false e k = absurd (let q = k in cc)

  module _ (env : Environment) (fs : List tree.Func) (i : Inst) (is : IsInst env (one (with_funcs m fs)) 0 (with_funcs m fs) i) where
    -- The addresses of functions of the module, which are related to their indices.
    pub record HaveAddresses (ns : List ℕ) : Type 0 where
      pub addresses : List ℕ
      pub are : all_there (slice_get i.funcs) ns ≡ Some addresses
      pub related : ListRel ((R env m fs i is).of Functions) ns addresses

    have_addresses : (ns : List ℕ) → ((k f : ℕ) → slice_get ns k ≡ Some f → f < length (funcs_of m)) → HaveAddresses ns
    have_addresses [] low = record { addresses = []; are = refl; related = nil }
    have_addresses (f ∷ ns) low =
        let x = func_there env m fs i is f (low 0 f refl) in
        let r = have_addresses ns (λ k. low (suc k)) in
        record { addresses = x.address ∷ r.addresses; are = rw (x.is_there, r.are) refl; related = cons (func_stands env m fs i is f x.address x.named) r.related }

    pub started : (o : Option ℕ) → ((f : ℕ) → o ≡ Some f → f < length (funcs_of m)) → ListRel ((R env m fs i is).of Functions) (start_of o) (start_in i o ++ [])
    started None low = nil
    started (Some f) low = let x = func_there env m fs i is f (low f refl) in rw x.is_there (cons (func_stands env m fs i is f x.address x.named) nil)

-- ---- both ----

module _ (env : Environment) (m : Module) (constructors kept : List Text) (t : State) where
  made_both : NamingLaws → (names : TreeNamesOnly (with_entry (each_index m)) m) → MoreMade env m constructors kept → (s : State) → instantiated m MOST_TURNS ≡ Finished s → BothInstantiated env m constructors kept
  made_both laws names made s h =
      let more = empty_func m ∷ [] in
      let i = made.inst in
      let both = both_filled env m more i made.shape (apart m i (rows env m more i made.shape)) laws names made.defined made.is_defined MOST_TURNS s h in
      let called = have_addresses m names env more i made.shape (funcs_named m constructors) (named_funcs m names constructors) in
      let filled = segments env (one (with_empty_func m)) (i ∷ []) (joined_stores (own_store env) made.defined) in
      let left = both.left in
      record {
        begun = begun env (evaluated_world m constructors kept) (i ∷ []) made.view (record { store = both.store; trapped = false });
        is_begun = made.is_begun ∙ ap (λ (f : Filled). Some (begun env (evaluated_world m constructors kept) (i ∷ []) made.view f)) both.filled;
        untrapped = refl;
        inst = i;
        is_inst = made.is_inst;
        shape = made.shape;
        addresses = called.addresses;
        are_addresses = rw made.shape.funcs called.are;
        quiet = s;
        is_quiet = h;
        turns = omega (arith, left);
        stays = both.stays;
        funcs = both.funcs;
        related = both.related;
        called = append_rel (started m names env more i made.shape m.start (started_func m names)) called.related;
      }

pub both_instantiated : NamingLaws → WhatIsInstantiated → (env : Environment) (m : Module) (name : Text) (names kept : List Text) (t : State) → IsValid m → first_missing m (name ∷ names) ≡ None →
    evaluated m (funcs_named m (name ∷ names)) ≡ Finished t →
    IsTrue (links env (alone m)) → BothInstantiated env m (name ∷ names) kept
both_instantiated laws is_made env m name names kept t valid none e linked =
    let there = names_there laws m valid in
    let s = instantiated_first m (instantiated m MOST_TURNS) m.start (funcs_named m (name ∷ names)) t e in
    made_both env m (name ∷ names) kept t laws there (more_made env m there (first_there m there name names none) is_made (name ∷ names) kept linked) s.0 s.1
