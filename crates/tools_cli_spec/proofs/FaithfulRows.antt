-- Small runs for the claim of each command, computed: the traces of the modules that a task reads
-- and of the outputs that it makes of them. For each command there are also two wrong outputs: one
-- breaks the first half of the claim, by moves and steps for which the second half holds, and one
-- breaks the second half where the first holds.
use Rattle.base_lists.proofs.Common.{◌≡◌, refl, sym, subst, ℕ, List, [], ◌∷◌, true, false, Option, Some, None, rules, pos, IsTrue, codes}
use Rattle.std.specs.Fmt.{digits}
use Rattle.wasm_tree.specs.declared.types.RefType.TheVariants.{Func as func_ref}
use Rattle.wasm_tree_spec.specs.Prelude.{I32, FuncType, GlobalType, TableType, Instr, the_lemmas, Export, ExportDesc, Func, GlobalDef, Import, ImportDesc, Module}
use Rattle.wasm_tree.specs.declared.instr.Instr.{out-Instr}
use Rattle.wasm_num.specs.declared.BinOp.TheVariants.{I32Add}
use Rattle.wasm_num.specs.Operations.{wrapped, bin_from, bin_to, bin_value}
use Rattle.wasm_meaning.specs.Prelude.{Text, Environment, Number, is_environment, Event, Linked, Asked, Returned, BadMove, Move, Call, Answer, IsPrefix}
use Rattle.merge_spec.specs.Merged.{all_exports}
use Rattle.merge_spec.specs.View.{all_entities, merge_view}
use Rattle.dce_graph.specs.declared.marks.Reached.{Reached}
use Rattle.tools_cli_spec.specs.Prelude.{MergeTask, MetadceTask, SplitTask, CtorEvalTask, SampleTask, Merge, Metadce, Split, CtorEval, Sample, parts_of, words_plan, sample_merge, sample_parts}
use Rattle.tools_cli_spec.specs.Faithful.{Equivalence, Holds, equivalence, merged_equivalence, evaluated_names}
use Rattle.wasm_tree.specs.declared.instr.Instr.TheVariants as i
use Rattle.wasm_tree.specs.declared.module.ConstExpr.TheVariants as const
use Rattle.wasm_tree.specs.declared.module.ElemMode.TheVariants as elem
use Rattle.wasm_tree.specs.declared.module.ExportDesc.TheVariants as ex
use Rattle.wasm_tree.specs.declared.module.ImportDesc.TheVariants as im
use Rattle.merge_names.specs.declared.mode.Mode.TheVariants as mode

-- ---- the environment ----

abbrev pub own : Text
own = codes "own"

abbrev pub a : Text
a = codes "a"

abbrev pub b : Text
b = codes "b"

abbrev pub f : Text
f = codes "f"

abbrev pub nothing : FuncType
nothing = record { params = []; results = [] }

-- The environment offers one function, with the name `f` of the module `own`.
abbrev pub offering : Environment
offering = record { pair = (own, f); funcs = nothing ∷ []; table = None; memory = None; global = None } ∷ []

offering_is_one : IsTrue (is_environment offering)
offering_is_one = refl

-- ---- claims ----

-- The claim covers the environment, and its two worlds have these traces there, for these moves: in
-- so many steps, and in as many steps as the claim allows in answer.
pub record Shows (claim : Equivalence) (original written : List Event) : Type 0 where
  pub moves : List Move
  pub steps : ℕ
  pub named : IsTrue (claim.environments offering)
  pub in_steps : (claim.original_world offering moves steps ≡ original) × (claim.written_world offering moves steps ≡ written)
  pub in_bounds : (claim.original_world offering moves (claim.original_bound steps) ≡ original) × (claim.written_world offering moves (claim.written_bound steps) ≡ written)

-- The two halves of a claim, for these moves and so many steps.
abbrev pub FirstHalf : Equivalence → List Move → ℕ → Type 0
FirstHalf claim moves n = IsPrefix (claim.original_world offering moves n) (claim.written_world offering moves (claim.written_bound n))

abbrev pub SecondHalf : Equivalence → List Move → ℕ → Type 0
SecondHalf claim moves n = IsPrefix (claim.written_world offering moves n) (claim.original_world offering moves (claim.original_bound n))

-- The claim does not hold because of its first half: for these moves and so many steps the first
-- half fails and the second holds.
pub record FirstRefuses (claim : Equivalence) : Type 0 where
  pub refused : Holds claim → ⊥
  pub moves : List Move
  pub steps : ℕ
  pub first : FirstHalf claim moves steps → ⊥
  pub second : SecondHalf claim moves steps

-- The claim does not hold because of its second half: for these moves and so many steps the second
-- half fails and the first holds.
pub record SecondRefuses (claim : Equivalence) : Type 0 where
  pub refused : Holds claim → ⊥
  pub moves : List Move
  pub steps : ℕ
  pub second : SecondHalf claim moves steps → ⊥
  pub first : FirstHalf claim moves steps

-- The first half fails if the trace of the written world ends at the linking.
falls_short : (claim : Equivalence) (e : Event) (es : List Event) → Shows claim (Linked ∷ (e ∷ es)) (Linked ∷ []) → FirstRefuses claim
falls_short claim e es s =
    let first : FirstHalf claim s.moves s.steps → ⊥ = rw (s.in_steps.0, s.in_bounds.1) (λ p. let k = p.1 in cc) in
    let second : SecondHalf claim s.moves s.steps = rw (s.in_steps.1, s.in_bounds.0) (e ∷ es, refl) in
    record { refused = λ holds. first (holds offering offering_is_one s.named s.moves s.steps).0; moves = s.moves; steps = s.steps; first = first; second = second }

-- The second half fails if the trace of the original world ends at the linking.
goes_beyond : (claim : Equivalence) (e : Event) (es : List Event) → Shows claim (Linked ∷ []) (Linked ∷ (e ∷ es)) → SecondRefuses claim
goes_beyond claim e es s =
    let second : SecondHalf claim s.moves s.steps → ⊥ = rw (s.in_steps.1, s.in_bounds.0) (λ p. let k = p.1 in cc) in
    let first : FirstHalf claim s.moves s.steps = rw (s.in_steps.0, s.in_bounds.1) (e ∷ es, refl) in
    record { refused = λ holds. second (holds offering offering_is_one s.named s.moves s.steps).1; moves = s.moves; steps = s.steps; second = second; first = first }

-- A claim exists and has this property.
abbrev pub IsClaimed : Option Equivalence → (Equivalence → Type 0) → Type 0
IsClaimed None P = ⊥
IsClaimed (Some claim) P = P claim

-- ---- the modules ----

abbrev pub gives_number : FuncType
gives_number = record { params = []; results = I32 ∷ [] }

abbrev pub empty : Module
empty = record { types = gives_number ∷ nothing ∷ []; imports = []; funcs = []; tables = []; mems = []; globals = []; exports = []; start = None; elems = []; datas = [] }

abbrev pub func : ℕ → List Instr → Func
func ty body = record { ty = ty; locals = []; body = body }

abbrev pub import : Text → Text → ImportDesc → Import
import namespace field d = record { «module» = namespace; field = field; desc = d }

abbrev pub export : Text → ExportDesc → Export
export name d = record { name = name; desc = d }

abbrev pub mutable_i32 : GlobalType
mutable_i32 = record { ty = I32; mutable = true }

abbrev pub global : ℕ → GlobalDef
global n = record { ty = mutable_i32; init = const.I32 (pos n) }

abbrev pub setting : Func
setting = func 1 (i.I32Const (pos 7) ∷ i.GlobalSet 0 ∷ [])

-- The function `f` has this body. The function `a` sets the global, which begins with 5, to 7.
-- Function 0 is that of the environment.
abbrev pub with : List Instr → Module
with body = record empty {
  imports = import own f (im.Func 1) ∷ [];
  funcs = func 0 body ∷ setting ∷ [];
  globals = global 5 ∷ [];
  exports = export f (ex.Func 1) ∷ export a (ex.Func 2) ∷ [];
}

-- This body of `f` calls function 0 and returns the value of the global.
abbrev pub asking : List Instr
asking = i.Call 0 ∷ i.GlobalGet 0 ∷ []

-- This body of `f` calls `f`, which never ends.
abbrev pub endless : List Instr
endless = i.Call 1 ∷ []

-- ---- what is done and seen ----

-- These moves call a function, and the environment answers its call.
abbrev called : Text → List Move
called name = Call name [] ∷ Answer [] ∷ []

-- These moves call `f`, then `a`, and then `f` again.
abbrev called_around : List Move
called_around = Call f [] ∷ Answer [] ∷ Call a [] ∷ called f

abbrev asks : Event
asks = Asked (own, f) nothing []

abbrev number : ℕ → Event
number n = Returned (Number n ∷ [])

-- The trace in which `f` returns the first number, `a` causes the event, and `f` then returns the
-- second number.
abbrev gives : (first : ℕ) → Event → (then : ℕ) → List Event
gives first event then = Linked ∷ asks ∷ number first ∷ event ∷ asks ∷ number then ∷ []

-- ---- merge ----

abbrev pub merging : MergeTask
merging = record { sources = record { file = codes "a.wasm"; name = a } ∷ record { file = codes "b.wasm"; name = b } ∷ []; output = codes "out.wasm"; mode = mode.Refuse }

-- The part `b`, whose function `g` calls `f` of the part `a`.
abbrev pub calling : Module
calling = record empty { imports = import a f (im.Func 0) ∷ []; funcs = func 0 (i.Call 0 ∷ []) ∷ []; exports = export (codes "g") (ex.Func 1) ∷ [] }

abbrev pub both : List Instr → Module
both body = record (with body) {
  funcs = func 0 body ∷ setting ∷ func 0 (i.Call 1 ∷ []) ∷ [];
  exports = export f (ex.Func 1) ∷ export a (ex.Func 2) ∷ export (codes "g") (ex.Func 3) ∷ [];
}

-- Here and below `f` has the first body in the modules that are read and the second in those that
-- are written.
abbrev pub of_merge : (read written : List Instr) → Option Equivalence
of_merge read written = equivalence (Merge merging) tt (with read ∷ calling ∷ []) (both written ∷ [])

merge_shows : IsClaimed (of_merge asking asking) (λ claim. Shows claim (gives 5 (Returned []) 7) (gives 5 (Returned []) 7))
unfolding out-Instr denote.Hole.Carrier.out wrapped all_exports all_entities merge_view
merge_shows = record { moves = Call (codes "g") [] ∷ Answer [] ∷ Call a [] ∷ called f; steps = 30; named = refl; in_steps = (refl, refl); in_bounds = (refl, refl) }

merge_refuses_an_endless_output : IsClaimed (of_merge asking endless) FirstRefuses
unfolding out-Instr denote.Hole.Carrier.out wrapped all_exports all_entities merge_view
merge_refuses_an_endless_output = falls_short _ asks (number 5 ∷ []) (record { moves = called f; steps = 12; named = refl; in_steps = (refl, refl); in_bounds = (refl, refl) })

merge_of_an_endless_part_refuses_an_end : IsClaimed (of_merge endless asking) SecondRefuses
unfolding out-Instr denote.Hole.Carrier.out wrapped all_exports all_entities merge_view
merge_of_an_endless_part_refuses_an_end = goes_beyond _ asks (number 5 ∷ []) (record { moves = called f; steps = 12; named = refl; in_steps = (refl, refl); in_bounds = (refl, refl) })

-- ---- metadce ----

abbrev pub sweeping : MetadceTask
sweeping = record { file = codes "in.wasm"; graph_file = codes "graph.json"; output = codes "out.wasm" }

-- The function `f` is reached, with what its body names, and `a` is not. (With the endless body
-- below, which names less, more is kept than is reached.)
abbrev pub reached : Reached
reached = record { nodes = true ∷ []; exports = true ∷ false ∷ []; imports = true ∷ []; funcs = true ∷ true ∷ false ∷ []; globals = true ∷ [] }

abbrev pub without_a : List Instr → Module
without_a body = record (with body) { funcs = func 0 body ∷ []; exports = export f (ex.Func 1) ∷ [] }

abbrev pub of_metadce : (read written : List Instr) → Option Equivalence
of_metadce read written = equivalence (Metadce sweeping) reached (with read ∷ []) (without_a written ∷ [])

metadce_shows : IsClaimed (of_metadce asking asking) (λ claim. Shows claim (gives 5 BadMove 5) (gives 5 BadMove 5))
unfolding out-Instr denote.Hole.Carrier.out wrapped
metadce_shows = record { moves = called_around; steps = 30; named = refl; in_steps = (refl, refl); in_bounds = (refl, refl) }

-- The claim does not cover an environment without that function.
metadce_speaks_of_no_other : IsClaimed (of_metadce asking asking) (λ claim. claim.environments [] ≡ false)
metadce_speaks_of_no_other = refl

metadce_refuses_an_endless_output : IsClaimed (of_metadce asking endless) FirstRefuses
unfolding out-Instr denote.Hole.Carrier.out wrapped
metadce_refuses_an_endless_output = falls_short _ asks (number 5 ∷ []) (record { moves = called f; steps = 12; named = refl; in_steps = (refl, refl); in_bounds = (refl, refl) })

metadce_of_an_endless_module_refuses_an_end : IsClaimed (of_metadce endless asking) SecondRefuses
unfolding out-Instr denote.Hole.Carrier.out wrapped
metadce_of_an_endless_module_refuses_an_end = goes_beyond _ asks (number 5 ∷ []) (record { moves = called f; steps = 12; named = refl; in_steps = (refl, refl); in_bounds = (refl, refl) })

-- ---- split ----

-- The name `f` among the words moves the function `f`.
abbrev pub splitting : SplitTask
splitting = record {
  file = codes "in.wasm";
  outputs = record { primary = codes "primary.wasm"; secondary = codes "secondary.wasm" };
  words = record { split = Some (f ∷ []); keep = None };
  names = record { import_namespace = a; placeholder_namespace = b; export_prefix = codes "%" };
}

abbrev pub slots : TableType
slots = record { ty = func_ref; limits = record { min = 1; max = Some 1 } }

-- The primary module, in which `f` is called through its slot.
abbrev pub keeping : Module
keeping = record (with []) {
  imports = import own f (im.Func 1) ∷ import b (codes "0") (im.Func 0) ∷ [];
  funcs = func 0 (i.I32Const (pos 0) ∷ i.CallIndirect 0 0 ∷ []) ∷ setting ∷ [];
  tables = slots ∷ [];
  exports = export f (ex.Func 2) ∷ export a (ex.Func 3) ∷ export (codes "%f0") (ex.Func 0) ∷ export (codes "%g0") (ex.Global 0) ∷ export (codes "%slots") (ex.Table 0) ∷ [];
  elems = record { mode = elem.Active 0 (const.I32 (pos 0)); ty = func_ref; items = const.Func 1 ∷ [] } ∷ [];
}

-- The secondary module.
abbrev pub moving : List Instr → Module
moving body = record empty {
  imports = import a (codes "%f0") (im.Func 1) ∷ import a (codes "%slots") (im.Table slots) ∷ import a (codes "%g0") (im.Global mutable_i32) ∷ [];
  funcs = func 0 body ∷ [];
  elems = keeping.elems;
}

abbrev pub of_split : (read written : List Instr) → Option Equivalence
of_split read written = equivalence (Split splitting) [] (with read ∷ []) (moving written ∷ keeping ∷ [])

pub f_moves : (words_plan splitting (with asking) []).moved ≡ 1 ∷ []
f_moves = search (rules, the_lemmas)

endless_f_moves : (words_plan splitting (with endless) []).moved ≡ 1 ∷ []
endless_f_moves = search (rules, the_lemmas)

split_shows : IsClaimed (of_split asking asking) (λ claim. Shows claim (gives 5 (Returned []) 7) (gives 5 (Returned []) 7))
unfolding out-Instr denote.Hole.Carrier.out wrapped digits
split_shows = rw f_moves (record { moves = called_around; steps = 40; named = refl; in_steps = (refl, refl); in_bounds = (refl, refl) })

split_refuses_an_endless_output : IsClaimed (of_split asking endless) FirstRefuses
unfolding out-Instr denote.Hole.Carrier.out wrapped digits
split_refuses_an_endless_output = rw f_moves (falls_short _ asks (number 5 ∷ []) (record { moves = called f; steps = 12; named = refl; in_steps = (refl, refl); in_bounds = (refl, refl) }))

split_of_an_endless_module_refuses_an_end : IsClaimed (of_split endless asking) SecondRefuses
unfolding out-Instr denote.Hole.Carrier.out wrapped digits
split_of_an_endless_module_refuses_an_end =
    rw endless_f_moves (goes_beyond _ asks (number 5 ∷ []) (record { moves = called f; steps = 20; named = refl; in_steps = (refl, refl); in_bounds = (refl, refl) }))

-- ---- ctor-eval ----

abbrev pub evaluating : CtorEvalTask
evaluating = record { file = codes "in.wasm"; ctors = a ∷ []; kept = []; output = codes "out.wasm" }

abbrev pub set_to_7 : List Instr → Module
set_to_7 body = record (with body) { globals = global 7 ∷ []; exports = export f (ex.Func 1) ∷ [] }

abbrev pub of_eval : (read written : List Instr) → Option Equivalence
of_eval read written = equivalence (CtorEval evaluating) tt (with read ∷ []) (set_to_7 written ∷ [])

pub a_is_evaluated : (body : List Instr) → evaluated_names evaluating (with body) ≡ a ∷ []
unfolding out-Instr denote.Hole.Carrier.out wrapped
a_is_evaluated body = search (rules, the_lemmas)

eval_shows : IsClaimed (of_eval asking asking) (λ claim. Shows claim (gives 7 BadMove 7) (gives 7 BadMove 7))
unfolding out-Instr denote.Hole.Carrier.out wrapped
eval_shows = rw (a_is_evaluated asking) (record { moves = called_around; steps = 30; named = refl; in_steps = (refl, refl); in_bounds = (refl, refl) })

eval_speaks_of_no_other : IsClaimed (of_eval asking asking) (λ claim. claim.environments [] ≡ false)
eval_speaks_of_no_other = refl

eval_refuses_an_endless_output : IsClaimed (of_eval asking endless) FirstRefuses
unfolding out-Instr denote.Hole.Carrier.out wrapped
eval_refuses_an_endless_output =
    rw (a_is_evaluated asking) (falls_short _ asks (number 7 ∷ []) (record { moves = called f; steps = 12; named = refl; in_steps = (refl, refl); in_bounds = (refl, refl) }))

eval_of_an_endless_module_refuses_an_end : IsClaimed (of_eval endless asking) SecondRefuses
unfolding out-Instr denote.Hole.Carrier.out wrapped
eval_of_an_endless_module_refuses_an_end =
    rw (a_is_evaluated endless) (goes_beyond _ asks (number 7 ∷ []) (record { moves = called f; steps = 12; named = refl; in_steps = (refl, refl); in_bounds = (refl, refl) }))

-- ---- sample ----

-- The claim of a sample that writes a module is that of a merge, and a sample that writes none has
-- no claim.
samples_are_merges : (sample : SampleTask) (tree : Module) → equivalence (Sample sample) tt [] (tree ∷ []) ≡ Some (merged_equivalence (sample_parts sample) sample_merge.mode tree)
samples_are_merges sample tree = refl

nothing_is_claimed : (sample : SampleTask) → equivalence (Sample sample) tt [] [] ≡ None
nothing_is_claimed sample = refl

abbrev pub sampling : SampleTask
sampling = record { seed = 1; count = 1; output = Some (codes "out.wasm") }

abbrev pub unary : Module
unary = record empty { types = record { params = I32 ∷ []; results = I32 ∷ [] } ∷ [] }

abbrev pub adding : Func
adding = func 0 (i.LocalGet 0 ∷ i.I32Const (pos 1103527590) ∷ i.Bin I32Add ∷ [])

-- The function `g0` passes its number on.
abbrev pub passing : List Instr
passing = i.LocalGet 0 ∷ i.Call 0 ∷ []

-- The function `f0` adds a drawn number, and `g0` of the second module calls it.
abbrev pub drawn : List Module
drawn =
    record unary { funcs = adding ∷ []; exports = export (codes "f0") (ex.Func 0) ∷ [] }
    ∷ record unary { imports = import a (codes "f0") (im.Func 0) ∷ []; funcs = func 0 passing ∷ []; exports = export (codes "g0") (ex.Func 1) ∷ [] } ∷ []

pub they_are_drawn : sample_parts sampling ≡ parts_of sample_merge.sources drawn
unfolding digits
they_are_drawn = search (rules, the_lemmas)

-- The function `g0` has this body.
abbrev pub sampled : List Instr → Module
sampled body = record unary { funcs = adding ∷ func 0 body ∷ []; exports = export (codes "f0") (ex.Func 0) ∷ export (codes "g0") (ex.Func 1) ∷ [] }

abbrev pub of_sample : (written : List Instr) → Option Equivalence
of_sample written = equivalence (Sample sampling) tt [] (sampled written ∷ [])

-- The claim of a sample has each property that the claim with the drawn modules has.
by_drawn : (P : Equivalence → Type 0) (written : List Instr) → P (merged_equivalence (parts_of sample_merge.sources drawn) mode.Refuse (sampled written)) → IsClaimed (of_sample written) P
by_drawn P written = subst (λ parts. P (merged_equivalence parts mode.Refuse (sampled written))) (sym they_are_drawn)

-- The trace of a call of `g0` with 5 and of `f0` with 3.
abbrev sums : List Event
sums = Linked ∷ number 1103527595 ∷ number 1103527593 ∷ []

abbrev g0_of_5 : List Move
g0_of_5 = Call (codes "g0") (Number 5 ∷ []) ∷ []

sample_shows : IsClaimed (of_sample passing) (λ claim. Shows claim sums sums)
unfolding out-Instr denote.Hole.Carrier.out wrapped bin_from bin_to bin_value all_exports all_entities merge_view
sample_shows =
    by_drawn (λ claim. Shows claim sums sums) passing
    (record { moves = Call (codes "g0") (Number 5 ∷ []) ∷ Call (codes "f0") (Number 3 ∷ []) ∷ []; steps = 20; named = refl; in_steps = (refl, refl); in_bounds = (refl, refl) })

sample_refuses_an_endless_output : IsClaimed (of_sample (i.LocalGet 0 ∷ endless)) FirstRefuses
unfolding out-Instr denote.Hole.Carrier.out wrapped bin_from bin_to bin_value all_exports all_entities merge_view
sample_refuses_an_endless_output =
    by_drawn FirstRefuses (i.LocalGet 0 ∷ endless)
    (falls_short _ (number 1103527595) [] (record { moves = g0_of_5; steps = 12; named = refl; in_steps = (refl, refl); in_bounds = (refl, refl) }))

-- No function of a sample is endless. The wrong output returns the sum for 5 whatever the number
-- is, and so it returns more than four steps before the parts can.
sample_refuses_a_constant : IsClaimed (of_sample (i.I32Const (pos 1103527595) ∷ [])) SecondRefuses
unfolding out-Instr denote.Hole.Carrier.out wrapped bin_from bin_to bin_value all_exports all_entities merge_view
sample_refuses_a_constant =
    by_drawn SecondRefuses (i.I32Const (pos 1103527595) ∷ [])
    (goes_beyond _ (number 1103527595) [] (record { moves = g0_of_5; steps = 5; named = refl; in_steps = (refl, refl); in_bounds = (refl, refl) }))
