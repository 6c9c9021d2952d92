-- A call by the embedder, as the machine makes it.
use Rattle.base_lists.proofs.Common.{◌≡◌, ℕ, zero, suc, ◌+◌, ◌-◌, ◌/◌, ◌<◌, ◌≤◌, List, [], ◌∷◌, map, length, Bool, true, false, Option, Some, None, refl, sym, ap, ◌∙◌, inl, inr, arith, slice_get, nat_lt, IsSome, filter_map, option_and_then, option_map, cases_lt, same_Some, slice_get_within}
use Rattle.base_lists.proofs.Common.{slice_get-map, length-map, and_then_is, chosen_from, append_at_left, append_left, append_right, map_at, slice_get_none, slice_get_there}
use Rattle.std.proofs.Common.{length-append}
use Rattle.wasm_tree_spec.specs.Prelude.{FuncType, ValType, Instr, Import, Module, func_of, funcs_of, imported_funcs, type_of_func}
use Rattle.wasm_tree.specs.declared.module.Func.{Func as FuncDef}
use Rattle.wasm_valid.specs.declared.kinds.ItemKind.TheVariants as kind
use Rattle.wasm_valid.specs.Prelude.{IsValid, ItemsHold}
use Rattle.wasm_meaning.specs.Prelude.{pair_of, Pair, Func, Code, Own, Mark, declared}
use Rattle.wasm_meaning.specs.Control.{type_of_func as type_of}
use Rattle.eval_spec.specs.declared.limits.TheConstants.{MOST_TURNS}
use Rattle.eval_spec.specs.declared.stop.Stop.{Stop}
use Rattle.eval_spec.specs.declared.stop.Stop.TheVariants as why
use Rattle.eval_spec.specs.Prelude.{State, Stage, Going, Stopped, Finished, is_going, stop_of, takes_and_gives_nothing, ComesTo, here, call_end, host_call, host_opened, after_start, booted, imported_func, own_inst}
use Rattle.eval_proof.specs.EndsAndCounts.{QuietEndsAreUnique}
use Rattle.eval_machine.specs.declared.kept.Kept.{Kept}
use Rattle.eval_machine.specs.declared.registers.Registers.{Registers}
use Rattle.eval_machine.specs.Prelude.{IsInitialMachine, CallEnds, IsReady, MemoryStays, Stays, MachineFits, IsUnmarked, base_of, state_in}
use Rattle.eval_machine.specs.Flows.{RunsFrame, entered}
use Rattle.block_pool.specs.Pages.{Pages}
use Rattle.eval_machine.proofs.PreservedParts.{fits_still}
use Rattle.eval_machine.proofs.GlobalValues.{is_ready}
use Rattle.eval_proof.specs.GlobalValues.{EvaluatedGlobalsAreTyped, EvaluatedRefsAreThere}
use Rattle.eval_proof.specs.ImportedFunctions.{ImportsAreTyped, ImportsTyped}
use Rattle.eval_machine.proofs.ModuleFunctions.{FuncsAre, FuncsBegin, funcs_are, funcs_begin}

-- ---- the function at an index ----

own_typed : (m : Module) (is : List Import) → ImportsTyped m is → (n ty : ℕ) (t : FuncType) → slice_get (imported_funcs is) n ≡ Some ty → slice_get m.types ty ≡ Some t → (p : Pair) × (slice_get (filter_map (imported_func m) is) n ≡ Some (Own p t))
own_typed m [] h n ty t e f = absurd (let k = e in cc)
own_typed m (i ∷ is) h n ty t e f = by (λ n e. own_typed m is (λ n j e. h (suc n) j e) n ty t e f) (func_of i.desc) refl n e
  where
    by_type : ((n : ℕ) → slice_get (imported_funcs is) n ≡ Some ty → (p : Pair) × (slice_get (filter_map (imported_func m) is) n ≡ Some (Own p t))) →
        (u : ℕ) → func_of i.desc ≡ Some u → (o : Option FuncType) → slice_get m.types u ≡ o → (n : ℕ) → slice_get (u ∷ imported_funcs is) n ≡ Some ty → (p : Pair) × (slice_get (filter_map (imported_func m) (i ∷ is)) n ≡ Some (Own p t))
    by_type on u g None k n e = absurd (omega (arith, h 0 i refl u g, slice_get_none m.types u k))
    by_type on u g (Some v) k zero e =
        let same : u ≡ ty = same_Some u ty e in
        let types : v ≡ t = same_Some v t (sym k ∙ (ap (slice_get m.types) same ∙ f)) in
        (pair_of i, rw (g, k, types) refl)
    by_type on u g (Some v) k (suc n) e = let r = on n e in (r.0, rw (g, k) r.1)

    by : ((n : ℕ) → slice_get (imported_funcs is) n ≡ Some ty → (p : Pair) × (slice_get (filter_map (imported_func m) is) n ≡ Some (Own p t))) →
        (o : Option ℕ) → func_of i.desc ≡ o → (n : ℕ) → slice_get (imported_funcs (i ∷ is)) n ≡ Some ty → (p : Pair) × (slice_get (filter_map (imported_func m) (i ∷ is)) n ≡ Some (Own p t))
    by on None g n e = let r = on n (rw g at e) in (r.0, rw g r.1)
    by on (Some u) g n e = by_type on u g (slice_get m.types u) refl n (rw g at e)

-- The type of a function that the module defines.
own_index : (m : Module) (func : ℕ) → length (imported_funcs m.imports) ≤ func → slice_get (funcs_of m) func ≡ option_map (λ f. f.ty) (slice_get m.funcs (func - length (imported_funcs m.imports)))
own_index m func le =
    let z : length (imported_funcs m.imports) + (func - length (imported_funcs m.imports)) ≡ func = omega (arith, le) in
    ap (slice_get (funcs_of m)) (sym z)
    ∙ (append_right (imported_funcs m.imports) (map (λ f. f.ty) m.funcs) (func - length (imported_funcs m.imports)) ∙ slice_get-map (λ f. f.ty) m.funcs (func - length (imported_funcs m.imports)))

pub own_type : (m : Module) (func : ℕ) → length (imported_funcs m.imports) ≤ func → (o : Option FuncDef) → slice_get m.funcs (func - length (imported_funcs m.imports)) ≡ o → type_of_func m func ≡ option_and_then (λ f. slice_get m.types f.ty) o
own_type m func le None at = ap (option_and_then (slice_get m.types)) (own_index m func le ∙ ap (option_map (λ f. f.ty)) at)
own_type m func le (Some f) at = ap (option_and_then (slice_get m.types)) (own_index m func le ∙ ap (option_map (λ f. f.ty)) at)

module _ (m : Module) (imports : ImportsAreTyped m) (k : Kept) (fits : MachineFits m k) (func : ℕ) (t : FuncType) (typed : type_of_func m func ≡ Some t) where
  begin : FuncsBegin m (base_of m).store.funcs
  begin = funcs_begin m fits.ready

  are : FuncsAre m (base_of m).store.funcs
  are = funcs_are m (base_of m).store.funcs imports begin

  pub own_func : func < length (imported_funcs m.imports) → (p : Pair) × (slice_get (state_in m k).store.funcs func ≡ Some (Own p t))
  own_func lt =
      let ty = and_then_is (slice_get (funcs_of m) func) (slice_get m.types) t typed in
      let at : slice_get (imported_funcs m.imports) func ≡ Some ty.0 = sym (append_left (imported_funcs m.imports) _ func lt) ∙ ty.1 in
      let r = own_typed m m.imports imports.typed func ty.0 t at ty.2 in
      (r.0, ap (λ fs. slice_get fs func) begin.is ∙ append_at_left (filter_map (imported_func m) m.imports) begin.defined func (Own r.0 t) r.1)

  pub code_func : (f : FuncDef) → length (imported_funcs m.imports) ≤ func → slice_get m.funcs (func - length (imported_funcs m.imports)) ≡ Some f → slice_get (state_in m k).store.funcs func ≡ Some (Code t (own_inst m) (declared f.locals) f.body)
  code_func f le at =
      let c = are.code (func - length (imported_funcs m.imports)) f at in
      let z : length (imported_funcs m.imports) + (func - length (imported_funcs m.imports)) ≡ func = omega (arith, le) in
      let ty = and_then_is (slice_get (funcs_of m) func) (slice_get m.types) t typed in
      let index : slice_get (funcs_of m) func ≡ Some f.ty =
      ap (slice_get (funcs_of m)) (sym z) ∙ (append_right (imported_funcs m.imports) (map (λ f. f.ty) m.funcs) (func - length (imported_funcs m.imports)) ∙ map_at (λ f. f.ty) m.funcs (func - length (imported_funcs m.imports)) f at) in
      let same : ty.0 ≡ f.ty = same_Some ty.0 f.ty (sym ty.1 ∙ index) in
      let types : c.0 ≡ t = same_Some c.0 t (sym c.1 ∙ (ap (slice_get m.types) (sym same) ∙ ty.2)) in
      ap (slice_get (base_of m).store.funcs) (sym z) ∙ (c.2 ∙ ap (λ t. Some (Code t (own_inst m) (declared f.locals) f.body)) types)

-- ---- the call ----

module _ (unique : QuietEndsAreUnique) (m : Module) (func : ℕ) where
  ends_at : (s : State) (t u : Stage) → host_call s func ≡ t → ComesTo m t u → is_going u ≡ false → call_end m s func ≡ u
  ends_at s t u e c g = unique m (host_call s func) u (rw e c) g

  pub wrong_signature : (k new : Kept) (f : Func) → slice_get (state_in m k).store.funcs func ≡ Some f → takes_and_gives_nothing (type_of f) ≡ false → new.turns ≡ k.turns → CallEnds m func k (Some why.Signature) new
  wrong_signature k new f at e turns = ends_at (state_in m k) (Stopped why.Signature k.turns) (Stopped why.Signature new.turns) (rw (at, e) refl) (rw turns here) refl

  pub is_own : (k new : Kept) (p : Pair) (t : FuncType) → slice_get (state_in m k).store.funcs func ≡ Some (Own p t) → takes_and_gives_nothing t ≡ true → new.turns ≡ k.turns → CallEnds m func k (Some why.Import) new
  is_own k new p t at e turns = ends_at (state_in m k) (Stopped why.Import k.turns) (Stopped why.Import new.turns) (rw (at, e) refl) (rw turns here) refl

  -- The embedder opens the frame of a function without parameters and results as a call instruction
  -- does.
  opened_is : (r : Registers) (t : FuncType) (locals : List ValType) (body : List Instr) → takes_and_gives_nothing t ≡ true → host_opened (state_in m r.kept) (Code t (own_inst m) locals body) ≡ entered m r t [] locals body (Mark ∷ [])
  opened_is r t locals body e = by (nat_lt r.kept.turns (length locals / 64)) refl
    where
      by : (b : Bool) → nat_lt r.kept.turns (length locals / 64) ≡ b → host_opened (state_in m r.kept) (Code t (own_inst m) locals body) ≡ entered m r t [] locals body (Mark ∷ [])
      by true h = rw (e, h) refl
      by false h = rw (e, h) refl

  pub frame_ends : (old new : Registers) (t : FuncType) (locals : List ValType) (body : List Instr) (stop : Option Stop) → slice_get (state_in m old.kept).store.funcs func ≡ Some (Code t (own_inst m) locals body) → takes_and_gives_nothing t ≡ true →
      RunsFrame m t [] locals body 0 old stop new → CallEnds m func old.kept stop new.kept
  frame_ends old new t locals body None at e runs =
      ends_at (state_in m old.kept) (entered m old t [] locals body (Mark ∷ [])) (Finished (state_in m new.kept)) (rw at (opened_is old t locals body e)) (runs.2 (Mark ∷ []) refl) refl
  frame_ends old new t locals body (Some x) at e runs =
      ends_at (state_in m old.kept) (entered m old t [] locals body (Mark ∷ [])) (Stopped x new.kept.turns) (rw at (opened_is old t locals body e)) (runs (Mark ∷ []) refl) refl

module _ (unique : QuietEndsAreUnique) (m : Module) (imports : ImportsAreTyped m) (k : Kept) (fits : MachineFits m k) (func : ℕ) (t : FuncType) (typed : type_of_func m func ≡ Some t) where
  func_there : (f : Func) × (slice_get (state_in m k).store.funcs func ≡ Some f) × (type_of f ≡ t)
  func_there = elim (cases_lt func (length (imported_funcs m.imports))) [
    | inl lt ↦ let r = own_func m imports k fits func t typed lt in (Own r.0 t, r.1, refl)
    | inr le ↦
        let ty = and_then_is (slice_get (funcs_of m) func) (slice_get m.types) t typed in
        let many : length (funcs_of m) ≡ length (imported_funcs m.imports) + length m.funcs = length-append (imported_funcs m.imports) (map (λ f. f.ty) m.funcs) ∙ ap (λ n. length (imported_funcs m.imports) + n) (length-map m.funcs (λ f. f.ty)) in
        let f = slice_get_there m.funcs (func - length (imported_funcs m.imports)) (omega (arith, le, many, slice_get_within (funcs_of m) func ty.0 ty.1)) in
        (Code t (own_inst m) (declared f.0.locals) f.0.body, code_func m imports k fits func t typed f.0 le f.1, refl)
  ]

  pub wrong : takes_and_gives_nothing t ≡ false → CallEnds m func k (Some why.Signature) k
  wrong e = let f = func_there in wrong_signature unique m func k k f.0 f.1 (ap takes_and_gives_nothing f.2 ∙ e) refl

  pub own_called : func < length (imported_funcs m.imports) → takes_and_gives_nothing t ≡ true → CallEnds m func k (Some why.Import) k
  own_called lt e = let r = own_func m imports k fits func t typed lt in is_own unique m func k k r.0 t r.1 e refl

-- ---- the start ----

pub ready_at_once : EvaluatedRefsAreThere → EvaluatedGlobalsAreTyped → (m : Module) → IsValid m → (k : Kept) → IsInitialMachine m k → m.start ≡ None → IsReady m k
ready_at_once there typed m valid k is none = is_ready m valid there typed k is.fits is.unmarked (ap (λ t. after_start m t m.start) is.ends ∙ ap (after_start m (Finished (state_in m k))) none)

unmarked_still : (p q : Option Pages) → MemoryStays p q → IsUnmarked p → IsUnmarked q
unmarked_still None None a u = tt
unmarked_still (Some p) (Some q) a u = a.mark ∙ u
unmarked_still None (Some q) a u = elim a [ ]
unmarked_still (Some p) None a u = elim a [ ]

started : (m : Module) (k : Kept) (func : ℕ) → IsInitialMachine m k → m.start ≡ Some func → booted m MOST_TURNS ≡ call_end m (state_in m k) func
started m k func is some = ap (λ t. after_start m t m.start) is.ends ∙ ap (after_start m (Finished (state_in m k))) some

pub ready_after : EvaluatedRefsAreThere → EvaluatedGlobalsAreTyped → (m : Module) → IsValid m → (k new : Kept) (func : ℕ) → IsInitialMachine m k → m.start ≡ Some func → CallEnds m func k None new → Stays k new → IsReady m new
ready_after there typed m valid k new func is some ends stays =
    is_ready m valid there typed new (fits_still m k new is.fits stays) (unmarked_still k.memory new.memory stays.memory is.unmarked) (started m k func is some ∙ ends)

still_stopped : (m : Module) (t : Stage) (start : Option ℕ) (x : Stop) → stop_of t ≡ Some x → stop_of (after_start m t start) ≡ Some x
still_stopped m (Stopped y left) None x e = e
still_stopped m (Stopped y left) (Some f) x e = e
still_stopped m (Finished s) start x e = absurd (let k = e in cc)
still_stopped m (Going s es) start x e = absurd (let k = e in cc)

-- The start function of a valid module has a type.
pub start_typed : (m : Module) → ItemsHold m → (func : ℕ) → m.start ≡ Some func → IsSome (type_of_func m func)
start_typed m hold func some =
    let h = hold kind.Start 0 (rw some (omega arith)) in
    let same : h.0 ≡ func = same_Some h.0 func (sym h.2 ∙ some) in
    let at : type_of_func m func ≡ Some h.1 = ap (type_of_func m) (sym same) ∙ h.3 in
    rw at refl

-- Each function of a valid module has a type.
pub type_there : (m : Module) → ImportsAreTyped m → ItemsHold m → (func : ℕ) → func < length (funcs_of m) → IsSome (type_of_func m func)
type_there m imports hold func lt = elim (cases_lt func (length (imported_funcs m.imports))) [
  | inl less ↦
      let ty = slice_get_there (imported_funcs m.imports) func less in
      let i = chosen_from (λ i. func_of i.desc) m.imports func ty.0 ty.1 in
      let t = slice_get_there m.types ty.0 (imports.typed i.1.0 i.0 i.1.1 ty.0 i.2) in
      let at : slice_get (funcs_of m) func ≡ Some ty.0 = append_at_left (imported_funcs m.imports) (map (λ f. f.ty) m.funcs) func ty.0 ty.1 in
      let is : type_of_func m func ≡ Some t.0 = rw at t.1 in
      rw is refl
  | inr le ↦
      let many : length (funcs_of m) ≡ length (imported_funcs m.imports) + length m.funcs = length-append (imported_funcs m.imports) (map (λ f. f.ty) m.funcs) ∙ ap (λ n. length (imported_funcs m.imports) + n) (length-map m.funcs (λ f. f.ty)) in
      let f = slice_get_there m.funcs (func - length (imported_funcs m.imports)) (omega (arith, le, many, lt)) in
      let h = hold kind.Func (func - length (imported_funcs m.imports)) (omega (arith, le, many, lt)) in
      let same : h.0 ≡ f.0 = same_Some h.0 f.0 (sym h.1 ∙ f.1) in
      let t = slice_get_there m.types f.0.ty (rw same at h.2) in
      let z : length (imported_funcs m.imports) + (func - length (imported_funcs m.imports)) ≡ func = omega (arith, le) in
      let at : slice_get (funcs_of m) func ≡ Some f.0.ty =
      ap (slice_get (funcs_of m)) (sym z) ∙ (append_right (imported_funcs m.imports) (map (λ f. f.ty) m.funcs) (func - length (imported_funcs m.imports)) ∙ map_at (λ f. f.ty) m.funcs (func - length (imported_funcs m.imports)) f.0 f.1) in
      let is : type_of_func m func ≡ Some t.0 = rw at t.1 in
      rw is refl
]
