-- The premises on a world whose parts are instantiated sequentially, and the effect of its next
-- part's turn.
use Rattle.base_lists.proofs.Common.{◌≡◌, ◌∙◌, refl, ap, ap₂, ℕ, zero, suc, List, [], ◌∷◌, ◌++◌, map, length, Option, Some, None, true, false, arith, drop, option_and_then, slice_get, same_Some}
use Rattle.wasm_tree_spec.specs.Prelude.{ConstExpr, Module}
use Rattle.wasm_meaning.specs.Prelude.{Val, Inst, Func, Store, Opening, type_of_func, Part, module_at, sites, Environment, owned_of, all_of, World, Filled, store_with, const_value, joined_stores, all_there, is_matched, start_in, starts_of, added, added_as, external_value_for, own_segments, Run}
use Rattle.wasm_meaning.specs.Prelude.{SequentialRun, goes_on, tick_sequential, JoinsEarlier, HasNoActive, NoLateSegments}
use Rattle.world_simulation.specs.Prelude.{OwnEntitiesCorrespond}
use Rattle.merge_proof.proofs.JoinedImports.{ExportsThere, made_upto, module_is}
use Rattle.merge_proof.proofs.PartInstantiation.{Sized, Holds, SitesThere, comes}
use Rattle.merge_proof.proofs.SideBySideStores.{Laid}
use Rattle.merge_proof.proofs.PartLaws.{Instances}
use Rattle.merge_proof.proofs.StartSteps.{nothing_to_nothing}

pub record IsGiven (env : Environment) (w : World) (insts : List Inst) (allocated : Store) : Type 0 where
  pub laid : Laid env w.parts insts allocated
  pub are : Instances env w.parts insts
  pub size : length insts ≡ length w.parts
  pub exports : ExportsThere w.parts
  pub earlier : JoinsEarlier w.parts
  pub late : NoLateSegments w.parts
  pub own : OwnEntitiesCorrespond
  pub listed : SitesThere w.parts
  pub matched : all_of (is_matched env w.parts allocated) (sites w.parts) ≡ true
  -- A start takes and gives nothing.
  pub starts : (p x : ℕ) (m : Module) (i : Inst) → module_at w.parts p ≡ Some m → slice_get insts p ≡ Some i → m.start ≡ Some x → (a : ℕ) × (f : Func) × (slice_get i.funcs x ≡ Some a) × (slice_get allocated.funcs a ≡ Some f) × (type_of_func f ≡ nothing_to_nothing)
  -- The entities that a part adds in its turn are those that it adds at once.
  pub store_is : (k : ℕ) (m : Module) (i : Inst) (t : Store) → module_at w.parts k ≡ Some m → slice_get insts k ≡ Some i → Holds env w.parts k allocated t → store_with (const_value t.globals i) m i ≡ Some (laid.adds k)
  pub no_segments : (value : ConstExpr → Option Val) (m : Module) (i : Inst) (s : Store) → HasNoActive m → own_segments value m i s ≡ record { store = s; trapped = false }

-- ---- lists ----

past_at : {A : Type 0} (xs : List A) (k : ℕ) (x : A) → slice_get xs k ≡ Some x → drop k xs ≡ x ∷ drop (suc k) xs
past_at [] k x e = cc
past_at (y ∷ ys) zero x e = cc
past_at (y ∷ ys) (suc k) x e = past_at ys k x e

made_next : (k : ℕ) (ps : List Part) (is : List Inst) (part : Part) (i : Inst) → slice_get ps k ≡ Some part → slice_get is k ≡ Some i → made_upto (suc k) ps is ≡ made_upto k ps is ++ record { part = part; inst = i } ∷ []
made_next zero (p ∷ ps) (j ∷ js) part i e h = rw (same_Some _ _ e, same_Some _ _ h)
made_next (suc k) (p ∷ ps) (j ∷ js) part i e h = rw (made_next k ps js part i e h)
made_next k _ _ part i e h = cc

pub made_all : (ps : List Part) (is : List Inst) → length is ≡ length ps → map (λ x. x.inst) (made_upto (length ps) ps is) ≡ is
made_all [] [] e = refl
made_all (p ∷ ps) (i ∷ is) e = rw (made_all ps is (omega arith))
made_all _ _ e = absurd (omega arith)

-- ---- the next part's turn ----

-- A state of the sequential run after the turns of the first k parts.
pub record IsTurn (w : World) (insts : List Inst) (k : ℕ) (q : SequentialRun) : Type 0 where
  pub made : q.made ≡ made_upto k w.parts insts
  pub rest : q.rest ≡ drop k w.parts
  pub view : q.view ≡ w.view

pub turn_stays : {w : World} {insts : List Inst} {k : ℕ} {q : SequentialRun} {u : Run} → IsTurn w insts k q → IsTurn w insts k (record q { run = u })
turn_stays turn = record { made = turn.made; rest = turn.rest; view = turn.view }

-- The starts of the parts whose turn is still to come.
abbrev pub starts_from : World → List Inst → ℕ → List ℕ
starts_from w insts k = starts_of (drop k w.parts) (drop k insts)

pub starts_next : (w : World) (insts : List Inst) (k : ℕ) (part : Part) (i : Inst) → slice_get w.parts k ≡ Some part → slice_get insts k ≡ Some i → starts_from w insts k ≡ start_in i part.«module».start ++ starts_from w insts (suc k)
starts_next w insts k part i e h = ap₂ starts_of (past_at w.parts k part e) (past_at insts k i h)

module _ (env : Environment) (w : World) (insts : List Inst) (allocated : Store) (g : IsGiven env w insts allocated) (k : ℕ) (part : Part) (i : Inst) (at_part : slice_get w.parts k ≡ Some part) (at_inst : slice_get insts k ≡ Some i) where
  -- The sequential store with the part added and its segments copied.
  abbrev pub filled_in : Store → Filled
  filled_in t = own_segments (const_value t.globals i) part.«module» i (joined_stores t (g.laid.adds k))

  added_is : (t : Store) → Sized env w.parts k t → Holds env w.parts k allocated t → option_and_then (added t part.«module») (all_there (external_value_for (owned_of env) (made_upto k w.parts insts) part.«module») part.«module».imports) ≡ Some (record { inst = i; filled = filled_in t })
  added_is t sized holds =
      let is_part = module_is w.parts k part at_part in
      let c = comes env w.parts insts g.are g.size g.earlier g.own g.listed allocated g.matched k part.«module» i is_part at_inst t sized holds in
      rw (c.found, c.match) (ap (added_as t part.«module») c.inst ∙ rw (g.store_is k part.«module» i t is_part at_inst holds))

  pub turned : (q : SequentialRun) → IsTurn w insts k q → q.run.entries ≡ Opening [] ∷ [] → q.run.owned ≡ owned_of env → Sized env w.parts k q.run.store → Holds env w.parts k allocated q.run.store → (filled_in q.run.store).trapped ≡ false →
      tick_sequential q ≡ (goes_on q part (drop (suc k) w.parts) i (filled_in q.run.store).store, None)
  turned q turn entries owned sized holds fine = rw (turn.rest, past_at w.parts k part at_part, entries, owned, turn.made, added_is q.run.store sized holds, fine)

  pub next_turn : (q : SequentialRun) (s : Store) → IsTurn w insts k q → IsTurn w insts (suc k) (goes_on q part (drop (suc k) w.parts) i s)
  next_turn q s turn = record { made = rw (turn.made, made_next k w.parts insts part i at_part at_inst); rest = refl; view = turn.view }
