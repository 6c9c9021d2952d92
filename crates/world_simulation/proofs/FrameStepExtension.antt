-- A step of a frame extends the store, by the law of what it writes: a global that is set keeps its
-- type, a memory its limits, and a table its type, limits and length.
use Rattle.base_lists.proofs.Common.{◌≡◌, sym, ◌∙◌, refl, arith, overwritten_length}
use Rattle.std.proofs.lemmas.Bool.{true≢false}
use Rattle.wasm_meaning.specs.Prelude.{Outcome, Gives, Traps, IllTyped, Store, Frame, Change, Act, Goes, Calls, AsksGrow, Ends, act, Touched, Writes, a_global, touched, ActWrites, StepsWriteWhatTheyTouch}
use Rattle.wasm_meaning.specs.Touched.{nothing, bytes, slots, an_elem, a_data}
use Rattle.wasm_meaning.proofs.Outcomes.{AllOf, ill_typed, stopped, just}
use Rattle.world_simulation.proofs.StoreExtension.{Extending, keeps, global, memory, table, elem_drops, data_drops}

-- The act of the frame extends the store.
abbrev pub Grows : Store → Act → Type 0
Grows s (Goes c h) = Extending s c
Grows s _ = Unit {0}

written_extends : {s : Store} {t : Touched} {c : Change} → Writes s t c → Extending s c
written_extends nothing = keeps
written_extends (a_global there may type) = global there (record { type = type; fixed = λ f. absurd (true≢false (sym may ∙ f)) })
written_extends (bytes {n = n} w there is pages most) = memory there (record { most = most; size = omega (arith, pages) })
written_extends (slots {place = place} {t = t} {u = u} w there is type most) = let l = overwritten_length t.slots place w u.slots is in table there (record { type = type; most = most; size = omega (arith, l) })
written_extends an_elem = elem_drops
written_extends a_data = data_drops

pub act_all : StepsWriteWhatTheyTouch → (s : Store) (f : Frame) → AllOf (Grows s) (act s f)
act_all writes s f = go (act s f) (λ x e. writes s f x e)
  where
    grows : (x : Act) → ActWrites s (touched s f) x → Grows s x
    grows (Goes c h) w = written_extends w.writes
    grows (Calls a vs h) w = tt
    grows (AsksGrow g m n h) w = tt
    grows (Ends vs) w = tt

    go : (o : Outcome Act) → ((x : Act) → o ≡ Gives x → ActWrites s (touched s f) x) → AllOf (Grows s) o
    go Traps h = stopped
    go IllTyped h = ill_typed
    go (Gives x) h = just (grows x (h x refl))
