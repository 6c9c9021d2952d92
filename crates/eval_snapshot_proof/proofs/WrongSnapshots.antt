-- Wrong snapshots: a trace of each is not a trace of the module after its evaluated constructors,
-- by computation.
use Rattle.base_lists.proofs.Common.{◌≡◌, refl, ap, ℕ, List, [], ◌∷◌, Bool, false, None, Some, true≢false, pos, nat_eq, IsTrue}
use Rattle.wasm_tree.specs.declared.instr.Instr.{out-Instr}
use Rattle.wasm_tree.specs.declared.instr.Instr.TheVariants as i
use Rattle.wasm_tree_spec.specs.Prelude.{I32Load, Module}
use Rattle.wasm_tree.specs.declared.module.ConstExpr.TheVariants as const
use Rattle.wasm_tree.specs.declared.module.DataMode.TheVariants as data'
use Rattle.wasm_tree.specs.declared.module.ExportDesc.TheVariants as ex
use Rattle.wasm_num.specs.Operations.{signed, wrapped}
use Rattle.wasm_meaning.specs.Prelude.{Text, Environment, Number, OwnFunc, is_environment, alone, links, Event, Linked, Asked, Returned, Trapped, Got, Done, BadMove, Move, Get, Named, IsPrefix, events}
use Rattle.wasm_meaning.specs.Access.{little, little_bytes, load_to, load_width, loaded, store_from, stored}
use Rattle.eval_snapshot_proof.specs.EvaluatedWorlds.{events_evaluated}
use Rattle.eval_snapshot_proof.specs.EquivalenceLaws.{ObservationallyEquivalent}
use Rattle.eval_snapshot_proof.proofs.SmallRuns.{a, c, own, nothing, empty, does, num, exported, mutable_i32, mutable_ref, global, number, setting, setting_left, setting_kept, seven_is_asked, after_setting, nine_is_set, after_setting_kept, storing, storing_left, offering, bytes_are_read}
use Rattle.eval_snapshot_proof.proofs.SmallRuns.{bytes_are_seen, after_storing, reading, reading_left, offering_four, globals_are_read, after_reading, filling, filling_left, it_is_filled, after_nothing}

-- A module is not observationally equivalent to another after evaluated constructors if a trace of
-- it is not a prefix of the trace of the other in as many steps.
refused : (m : Module) (evaluated kept : List Text) (other : Module) (env : Environment) (moves : List Move) (n : ℕ) (xs ys : List Event) → IsTrue (is_environment env) → IsTrue (links env (alone m)) →
    events_evaluated m evaluated kept env moves n ≡ xs → events (alone other) env moves n ≡ ys → (IsPrefix ys xs → ⊥) → ObservationallyEquivalent m evaluated kept other → ⊥
refused m evaluated kept other env moves n xs ys is linked shown seen apart same = apart (rw (← seen) (rw (← shown) (same env is linked moves n).1))

-- ---- the global keeps its initial value ----

abbrev forgetting : Module
forgetting = record setting_left { globals = global mutable_i32 (const.I32 (pos 0)) ∷ [] }

forgetting_shows : events (alone forgetting) [] seven_is_asked 20 ≡ Linked ∷ (number 0 ∷ (Got (Number 0) ∷ (BadMove ∷ [])))
unfolding out-Instr denote.Hole.Carrier.out wrapped
forgetting_shows = refl

forgetting_is_refused : ObservationallyEquivalent setting (a ∷ []) [] forgetting → ⊥
unfolding out-Instr denote.Hole.Carrier.out wrapped
forgetting_is_refused = refused setting (a ∷ []) [] forgetting [] seven_is_asked 20 _ _ refl refl after_setting forgetting_shows (λ p. let k = p.1 in cc)

-- ---- the export of the evaluated constructor stays ----

abbrev staying : Module
staying = record setting_left { exports = setting.exports }

staying_shows : events (alone staying) [] seven_is_asked 20 ≡ Linked ∷ (number 7 ∷ (Got (Number 7) ∷ (Returned [] ∷ [])))
unfolding out-Instr denote.Hole.Carrier.out wrapped
staying_shows = refl

staying_is_refused : ObservationallyEquivalent setting (a ∷ []) [] staying → ⊥
unfolding out-Instr denote.Hole.Carrier.out wrapped
staying_is_refused = refused setting (a ∷ []) [] staying [] seven_is_asked 20 _ _ refl refl after_setting staying_shows (λ p. let k = p.1 in cc)

-- ---- a kept name runs the constructor again ----

abbrev again : Module
again = record setting_kept { exports = setting.exports }

again_shows : events (alone again) [] nine_is_set 20 ≡ Linked ∷ (Done ∷ (Returned [] ∷ (number 7 ∷ [])))
unfolding out-Instr denote.Hole.Carrier.out wrapped
again_shows = refl

again_is_refused : ObservationallyEquivalent setting (a ∷ []) (a ∷ []) again → ⊥
unfolding out-Instr denote.Hole.Carrier.out wrapped
again_is_refused = refused setting (a ∷ []) (a ∷ []) again [] nine_is_set 20 _ _ refl refl after_setting_kept again_shows (λ p. let k = p.1 in cc)

-- ---- the start stays ----

after_storing_longer : events_evaluated storing (a ∷ c ∷ []) [] offering bytes_are_read 30 ≡ bytes_are_seen
unfolding out-Instr denote.Hole.Carrier.out wrapped store_from stored little_bytes
after_storing_longer = refl

abbrev restarting : Module
restarting = record storing_left { start = Some 1 }

restarting_shows : events (alone restarting) offering bytes_are_read 30 ≡ Linked ∷ (Got (Number 5) ∷ (Got (Number 42) ∷ (Asked (own, a) nothing [] ∷ (Returned [] ∷ (BadMove ∷ [])))))
unfolding out-Instr denote.Hole.Carrier.out wrapped store_from stored little_bytes
restarting_shows = refl

restarting_is_refused : ObservationallyEquivalent storing (a ∷ c ∷ []) [] restarting → ⊥
unfolding out-Instr denote.Hole.Carrier.out wrapped store_from stored little_bytes
restarting_is_refused = refused storing (a ∷ c ∷ []) [] restarting offering bytes_are_read 30 _ _ refl refl after_storing_longer restarting_shows (λ p. let k = p.1 in cc)

-- ---- the last byte that is not zero is left out ----

abbrev shortened : Module
shortened = record storing_left { datas = record { mode = data'.Active 0 (const.I32 (pos 0)); bytes = 1 ∷ [] } ∷ [] }

shortened_shows : events (alone shortened) offering bytes_are_read 20 ≡ Linked ∷ (Got (Number 1) ∷ (Got (Number 0) ∷ (Asked (own, a) nothing [] ∷ (Returned [] ∷ (BadMove ∷ [])))))
unfolding out-Instr denote.Hole.Carrier.out wrapped store_from stored little_bytes
shortened_shows = refl

shortened_is_refused : ObservationallyEquivalent storing (a ∷ c ∷ []) [] shortened → ⊥
unfolding out-Instr denote.Hole.Carrier.out wrapped store_from stored little_bytes
shortened_is_refused = refused storing (a ∷ c ∷ []) [] shortened offering bytes_are_read 20 _ _ refl refl after_storing shortened_shows (λ p. let k = p.1 in cc)

-- ---- an unknown global begins with 0 ----

abbrev guessing : Module
guessing = record reading_left { globals = global mutable_i32 (const.I32 (pos 0)) ∷ global mutable_i32 (const.I32 (pos 6)) ∷ global mutable_ref (const.Func 0) ∷ [] }

guessing_shows : events (alone guessing) offering_four globals_are_read 20 ≡ Linked ∷ (Got (Number 0) ∷ (Got (Number 6) ∷ (Got (OwnFunc (own, a) nothing) ∷ [])))
unfolding out-Instr denote.Hole.Carrier.out wrapped
guessing_shows = refl

guessing_is_refused : ObservationallyEquivalent reading (a ∷ []) [] guessing → ⊥
unfolding out-Instr denote.Hole.Carrier.out wrapped
guessing_is_refused = refused reading (a ∷ []) [] guessing offering_four globals_are_read 20 _ _ refl refl after_reading guessing_shows (λ p. let k = p.1 in cc)

-- ---- a passive segment that was not dropped is emptied ----

abbrev emptying : Module
emptying = record filling_left { datas = record { mode = data'.Passive; bytes = [] } ∷ [] }

emptying_shows : events (alone emptying) [] it_is_filled 20 ≡ Linked ∷ (Trapped ∷ (Got (Number 0) ∷ []))
unfolding out-Instr denote.Hole.Carrier.out wrapped
emptying_shows = refl

emptying_is_refused : ObservationallyEquivalent filling (a ∷ []) [] emptying → ⊥
unfolding out-Instr denote.Hole.Carrier.out wrapped
emptying_is_refused = refused filling (a ∷ []) [] emptying [] it_is_filled 20 _ _ refl refl after_nothing emptying_shows (λ p. let k = p.1 in cc)

-- ---- a segment that holds a number which is no byte ----

-- A module in which a sets the global to the loaded number. One number of its data segment is not a
-- byte.
abbrev loading : Module
loading = record empty {
  funcs = does (num 0 ∷ i.Load I32Load (record { align = 2; offset = 0; memory = 0 }) ∷ i.GlobalSet 0 ∷ []) ∷ [];
  mems = record { min = 1; max = None } ∷ [];
  globals = global mutable_i32 (const.I32 (pos 0)) ∷ [];
  exports = exported a (ex.Func 0) ∷ exported c (ex.Global 0) ∷ [];
  datas = record { mode = data'.Active 0 (const.I32 (pos 3)); bytes = 300 ∷ [] } ∷ [];
}

abbrev loading_left : Module
loading_left = record loading { globals = global mutable_i32 (const.I32 (signed 32 5033164800)) ∷ []; exports = exported c (ex.Global 0) ∷ [] }

after_loading : events_evaluated loading (a ∷ []) [] [] (Get (Named c) 0 ∷ []) 20 ≡ Linked ∷ (Got (Number 5033164800) ∷ [])
unfolding out-Instr denote.Hole.Carrier.out wrapped little loaded load_to load_width
after_loading = refl

loading_left_shows : events (alone loading_left) [] (Get (Named c) 0 ∷ []) 20 ≡ Linked ∷ (Got (Number 738197504) ∷ [])
unfolding out-Instr denote.Hole.Carrier.out wrapped signed
loading_left_shows = refl

-- The second event gives this number.
abbrev gives_second : ℕ → List Event → Bool
gives_second n (e ∷ (Got (Number k) ∷ es)) = nat_eq n k
gives_second n es = false

-- The law of equivalence therefore requires that data segments hold bytes.
loading_left_is_refused : ObservationallyEquivalent loading (a ∷ []) [] loading_left → ⊥
unfolding out-Instr denote.Hole.Carrier.out wrapped signed
loading_left_is_refused = refused loading (a ∷ []) [] loading_left [] (Get (Named c) 0 ∷ []) 20 _ _ refl refl after_loading loading_left_shows (λ p. true≢false (ap (gives_second 738197504) p.1))
