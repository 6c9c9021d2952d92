-- The start of the merged module: the start functions of the parts take and give nothing, and so
-- does the function that calls several of them.
use Rattle.base_lists.proofs.Common.{◌≡◌, ◌∙◌, ap, ap₂, sym, subst, refl, ℕ, zero, suc, ◌+◌, ◌<◌, List, [], ◌∷◌, ◌++◌, map, length, Option, Some, None, arith, slice_get, option_and_then, append_right, Has}
use Rattle.wasm_tree_spec.specs.Prelude.{Functions, FuncType, Func, Module, Call, funcs_of, type_of_func}
use Rattle.wasm_valid_bodies.specs.Typing.{Context, Gives, LeadsAll, WellTyped, effect_of, gives_of, signature_in}
use Rattle.wasm_valid.specs.declared.kinds.ItemKind.TheVariants as kind
use Rattle.wasm_valid.specs.Prelude.{IsValid, HoldsAt, start_count, body_context, ItemsHold}
use Rattle.wasm_meaning.specs.Prelude.{Text, EndsArePaths, defined_before, Part, module_at}
use Rattle.index_remap_proof.specs.ButForReferences.{any_named, HoldsButForReferences}
use Rattle.merge_spec.specs.Prelude.{staying_of, new_index, by_part, start_of, start_among, start_calls, nullary, place_of_type, defined_funcs}
use Rattle.merge_spec.specs.Merged.{merged, starts}
use Rattle.merge_proof.specs.StartTypes.{StartsTakeNothing}
use Rattle.merge_proof.proofs.EntityTypes.{FuncTy, type_at, own, imported, space}
use Rattle.merge_proof.proofs.ListsByPart.{by_part_back}
use Rattle.merge_proof.proofs.TypePlaces.{type_placed}
use Rattle.merge_proof.proofs.MergedSpaces.{types_are, own_is, moved_own, extra, all_own, imported_many}
use Rattle.merge_proof.proofs.LinkFaults.{AllAreSuited, are_linked}
use Rattle.merge_proof.proofs.NewIndices.{entry_kept}
use Rattle.merge_proof.proofs.PartAgreement.{func_to, func_back}

start_is : (parts : List Part) (names : List (Option Text)) → (merged parts names).start ≡ start_among (length (staying_of parts Functions) + defined_before Functions parts (length parts)) (starts parts)
unfolding merged
start_is parts names = refl

pub funcs_are : (parts : List Part) (names : List (Option Text)) → (merged parts names).funcs ≡ defined_funcs parts ++ start_calls parts (starts parts)
unfolding merged
funcs_are parts names = refl

-- A function type without parameters and results is the type of a start function.
nothing : (t : FuncType) → t.params ≡ [] → t.results ≡ [] → t ≡ nullary
nothing t a b = ap₂ (λ p r. record { params = p; results = r }) a b

-- ---- a body of calls ----

call_effect : (c : Context) (f : ℕ) → option_and_then (slice_get c.types) (slice_get c.funcs f) ≡ Some nullary → effect_of c (Call f) ≡ Some (Gives [] [])
call_effect c f h = by (slice_get c.funcs f) h
  where
    by : (o : Option ℕ) → option_and_then (slice_get c.types) o ≡ Some nullary → gives_of (signature_in (option_and_then (λ t. slice_get c.types t) o)) ≡ Some (Gives [] [])
    by None h = cc
    by (Some ty) h = ap (λ o. gives_of (signature_in o)) h

calls_lead : (c : Context) (fs : List ℕ) → ((i f : ℕ) → slice_get fs i ≡ Some f → option_and_then (slice_get c.types) (slice_get c.funcs f) ≡ Some nullary) → LeadsAll c (map Call fs) [] []
calls_lead c [] each = refl
calls_lead c (f ∷ fs) each = ([], (Gives [] [], call_effect c f (each 0 f refl), ([], [], refl, tt, refl)), calls_lead c fs (λ i f. each (suc i) f))

calls_typed : (c : Context) (fs : List ℕ) → ((i f : ℕ) → slice_get fs i ≡ Some f → option_and_then (slice_get c.types) (slice_get c.funcs f) ≡ Some nullary) → WellTyped c (map Call fs) [] []
calls_typed c fs each = ([], calls_lead c fs each, tt)

-- ---- the starts ----

module _ (law : EndsArePaths) (parts : List Part) (names : List (Option Text)) (links : AllAreSuited parts) (valid : (p : ℕ) (m : Module) → module_at parts p ≡ Some m → ItemsHold m) where
  -- A start function of the merged module, with the start function of a part from which it comes.
  record Started (f : ℕ) : Type 0 where
    part : ℕ
    of : Module
    is_part : module_at parts part ≡ Some of
    func : ℕ
    starts : of.start ≡ Some func
    typed : type_of_func of func ≡ Some nullary
    new : f ≡ new_index parts part Functions func

  start_back : (p i f : ℕ) (o : Option ℕ) → slice_get (start_of parts p o) i ≡ Some f → (x : ℕ) × (o ≡ Some x) × (f ≡ new_index parts p Functions x)
  start_back p i f None h = absurd (let k = h in cc)
  start_back p zero f (Some x) h = (x, refl, (let same : new_index parts p Functions x ≡ f = cc in sym same))
  start_back p (suc i) f (Some x) h = absurd (let k = h in cc)

  started : (i f : ℕ) → slice_get (starts parts) i ≡ Some f → Started f
  unfolding starts
  started i f h =
      let r = by_part_back (λ p m. start_of parts p m.start) 0 parts i f h in
      let z : 0 + r.part ≡ r.part = omega arith in
      let x = start_back r.part r.place f r.«module».start (ap (λ p. slice_get (start_of parts p r.«module».start) r.place) (sym z) ∙ r.got) in
      let v = valid r.part r.«module» r.is_part kind.Start 0 (ap_lt r.«module».start x.0 x.1) in
      let both : Some v.0 ≡ Some x.0 = sym v.2 ∙ x.1 in
      let same : v.0 ≡ x.0 = cc in
      record { part = r.part; of = r.«module»; is_part = r.is_part; func = x.0; starts = x.1; typed = ap (type_of_func r.«module») (sym same) ∙ v.3 ∙ ap Some (nothing v.1 v.4 v.5); new = x.2 }
    where
      ap_lt : (o : Option ℕ) (x : ℕ) → o ≡ Some x → 0 < start_count o
      ap_lt None x h = absurd (let k = h in cc)
      ap_lt (Some y) x h = omega arith

  pub start_typed : (i f : ℕ) → slice_get (starts parts) i ≡ Some f → type_of_func (merged parts names) f ≡ Some nullary
  start_typed i f h =
      let s = started i f h in
      func_back (merged parts names) f nullary (ap (type_at (merged parts names) Functions) s.new ∙ entry_kept law parts names links s.part s.of Functions s.func (FuncTy nullary) s.is_part (func_to s.of s.func nullary s.typed))

  has_type : (m : Module) (f : ℕ) (t : FuncType) → type_of_func m f ≡ Some t → Has m.types t
  has_type m f t h = by (slice_get (funcs_of m) f) h
    where
      by : (o : Option ℕ) → option_and_then (slice_get m.types) o ≡ Some t → Has m.types t
      by None h = absurd (let k = h in cc)
      by (Some ty) h = (ty, h)

  -- The merged types have the type of the function that calls several starts, if there is a start.
  pub nullary_there : (i f : ℕ) → slice_get (starts parts) i ≡ Some f → slice_get (merged parts names).types (place_of_type parts nullary) ≡ Some nullary
  nullary_there i f h =
      let s = started i f h in
      ap (λ z. slice_get z (place_of_type parts nullary)) (types_are parts names) ∙ type_placed parts s.part s.of nullary s.is_part (has_type s.of s.func nullary s.typed)

  abbrev last_func : ℕ
  last_func = length (staying_of parts Functions) + defined_before Functions parts (length parts)

  calls_last : (f g : ℕ) (fs : List ℕ) → starts parts ≡ f ∷ g ∷ fs → type_of_func (merged parts names) last_func ≡ Some nullary
  calls_last f g fs e =
      let u = merged parts names in
      let b = by_part (moved_own parts Functions) parts in
      let more : extra parts Functions ≡ place_of_type parts nullary ∷ [] = ap (λ s. map (λ (f : Func). f.ty) (start_calls parts s)) e in
      let at : slice_get (own Functions u) (length b + 0) ≡ Some (place_of_type parts nullary) =
      ap (λ z. slice_get z (length b + 0)) (own_is parts names Functions refl) ∙ append_right b (extra parts Functions) 0 ∙ ap (λ z. slice_get z 0) more in
      let n = imported_many parts names Functions in
      let k = all_own parts Functions refl in
      let place : last_func ≡ length (imported Functions u) + (length b + 0) = omega (arith, n, k) in
      let got : slice_get (funcs_of u) last_func ≡ Some (place_of_type parts nullary) = ap (slice_get (space Functions u)) place ∙ append_right (imported Functions u) (own Functions u) (length b + 0) ∙ at in
      ap (option_and_then (slice_get u.types)) got ∙ nullary_there 0 f (ap (λ s. slice_get s 0) e)

  start_by : (fs : List ℕ) → starts parts ≡ fs → (j : ℕ) → j < start_count (start_among last_func fs) → (merged parts names).start ≡ start_among last_func fs → HoldsAt (merged parts names) kind.Start j
  start_by [] e j lt is = absurd (omega (arith, lt))
  start_by (f ∷ []) e j lt is = (f, nullary, is, start_typed 0 f (ap (λ s. slice_get s 0) e), refl, refl)
  start_by (f ∷ g ∷ fs) e j lt is = (last_func, nullary, is, calls_last f g fs e, refl, refl)

  pub start_holds : (j : ℕ) → j < start_count (merged parts names).start → HoldsAt (merged parts names) kind.Start j
  start_holds j lt = start_by (starts parts) refl j (subst (λ o. j < start_count o) (start_is parts names) lt) (start_is parts names)

  -- ---- the function that calls several ----

  -- A function that is added to the merged module: it calls all starts.
  pub record IsCalls (h : Func) : Type 0 where
    pub some : (f : ℕ) × (slice_get (starts parts) 0 ≡ Some f)
    pub is : h ≡ record { ty = place_of_type parts nullary; locals = []; body = map Call (starts parts) }

  pub calls_are : (i : ℕ) (h : Func) → slice_get (start_calls parts (starts parts)) i ≡ Some h → IsCalls h
  calls_are i h e = by (starts parts) refl i e
    where
      by : (fs : List ℕ) → starts parts ≡ fs → (i : ℕ) → slice_get (start_calls parts fs) i ≡ Some h → IsCalls h
      by [] s i e = absurd (let k = e in cc)
      by (f ∷ []) s i e = absurd (let k = e in cc)
      by (f ∷ g ∷ fs) s zero e =
          let same : record { ty = place_of_type parts nullary; locals = []; body = map Call (f ∷ g ∷ fs) } ≡ h = cc in
          record { some = (f, ap (λ s. slice_get s 0) s); is = sym same ∙ ap {A = List ℕ} {B = Func} (λ s. record { ty = place_of_type parts nullary; locals = []; body = map Call s }) (sym s) }
      by (f ∷ g ∷ fs) s (suc i) e = absurd (let k = e in cc)

  pub calls_typed_at : (h : Func) → IsCalls h → slice_get (merged parts names).types h.ty ≡ Some nullary
  calls_typed_at h w = ap (λ (h : Func). slice_get (merged parts names).types h.ty) w.is ∙ nullary_there 0 w.some.0 w.some.1

  pub calls_body : (j : ℕ) (h : Func) → slice_get (merged parts names).funcs j ≡ Some h → IsCalls h → HoldsButForReferences (merged parts names) kind.Body j
  calls_body j h at w =
      let u = merged parts names in
      let body : WellTyped (any_named (body_context u h nullary)) (map Call (starts parts)) [] [] = calls_typed (any_named (body_context u h nullary)) (starts parts) (λ i f e. start_typed i f e) in
      (h, nullary, at, calls_typed_at h w, subst (λ is. WellTyped (any_named (body_context u h nullary)) is [] []) (ap (λ (h : Func). h.body) (sym w.is)) body)

pub take_nothing : EndsArePaths → ((m : Module) → IsValid m → ItemsHold m) → StartsTakeNothing
take_nothing law hold parts names valid linked n f h =
    let links = are_linked parts linked in
    let items : (p : ℕ) (m : Module) → module_at parts p ≡ Some m → ItemsHold m = λ p m is. hold m (valid p m is) in
    let at = h in (
      start_typed law parts names links items n f at,
      ap (λ z. slice_get z (place_of_type parts nullary)) (sym (types_are parts names)) ∙ nullary_there law parts names links items n f at,
    )
