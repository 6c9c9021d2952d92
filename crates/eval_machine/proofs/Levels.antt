-- The quiet steps of a level in its frame, as the machine makes them.
use Rattle.base_lists.proofs.Common.{◌≡◌, ℕ, zero, suc, ◌+◌, ◌-◌, ◌<◌, arith, List, [], ◌∷◌, ◌++◌, drop, slice_get, Option, Some, None, refl}
use Rattle.wasm_tree_spec.specs.Prelude.{Instr, Module}
use Rattle.wasm_meaning.specs.Prelude.{Outcome, Gives, Traps, IllTyped, bind, or_ill_typed, split_at, Val, Level, Entry, Body, Act, Goes, Calls, AsksGrow, Ends, branch, resume}
use Rattle.eval_spec.specs.declared.stop.Stop.TheVariants as why
use Rattle.eval_spec.specs.Prelude.{Stage, Stopped, ComesTo, here, on}
use Rattle.eval_machine.specs.declared.registers.Registers.{Registers}
use Rattle.eval_machine.specs.Prelude.{LevelPlace, body_at, depth, running}
use Rattle.eval_machine.specs.Flows.{acted, level_at}

pub and_then : {m : Module} {a b c : Stage} → ComesTo m a b → ComesTo m b c → ComesTo m a c
and_then here q = q
and_then (on p) q = on (and_then p q)

pub no_turn : (m : Module) (r : Registers) (o : Instr) (rest : List Instr) (p : LevelPlace) (es : List Entry) → r.kept.turns ≡ 0 → ComesTo m (running m r (o ∷ rest) p es) (Stopped why.Steps r.kept.turns)
no_turn m r o rest p es e = on (rw e here)

-- ---- a level inside another ----

abbrev pub inner : (gives takes : ℕ) (back : List Instr) (below : List Val) (rest : List Instr) → LevelPlace → LevelPlace
inner gives takes back below rest p = record { gives = gives; takes = takes; back = back; outer = level_at p below rest ∷ p.outer; results = p.results }

pub inner_depth : (gives takes : ℕ) (back : List Instr) (below : List Val) (rest : List Instr) (p : LevelPlace) (es : List Entry) (d : ℕ) → depth p es ≡ d → depth (inner gives takes back below rest p) es ≡ d + 1
inner_depth gives takes back below rest p es d e = omega (arith, e)

-- The end of the level goes on in the level outside.
pub fell : (m : Module) (r : Registers) (gives takes : ℕ) (back : List Instr) (below top gone vs : List Val) (rest : List Instr) (p : LevelPlace) (es : List Entry) → split_at gives r.operands ≡ Some (top, gone) → vs ≡ top ++ below →
    ComesTo m (running m r [] (inner gives takes back below rest p) es) (running m (record r { operands = vs }) rest p es)
fell m r gives takes back below top gone vs rest p es e f = on (rw (e, f) here)

pub fell_short : (m : Module) (r : Registers) (gives takes : ℕ) (back : List Instr) (below : List Val) (rest : List Instr) (p : LevelPlace) (es : List Entry) → split_at gives r.operands ≡ None →
    ComesTo m (running m r [] (inner gives takes back below rest p) es) (Stopped why.Trap r.kept.turns)
fell_short m r gives takes back below rest p es e = on (rw e here)

-- A branch to the level itself goes on at the level's continuation.
pub jumped : (m : Module) (r : Registers) (label gives takes : ℕ) (back : List Instr) (below carried gone vs : List Val) (rest : List Instr) (p : LevelPlace) (es : List Entry) → label ≡ 0 → split_at takes r.operands ≡ Some (carried, gone) → vs ≡ carried ++ below →
    acted m r (inner gives takes back below rest p) es (branch (body_at r [] (inner gives takes back below rest p)) label) ≡ running m (record r { operands = vs }) (back ++ rest) p es
jumped m r label gives takes back below carried gone vs rest p es h e f = rw (h, e, f)

pub jumped_short : (m : Module) (r : Registers) (label gives takes : ℕ) (back : List Instr) (below : List Val) (rest : List Instr) (p : LevelPlace) (es : List Entry) → label ≡ 0 → split_at takes r.operands ≡ None →
    acted m r (inner gives takes back below rest p) es (branch (body_at r [] (inner gives takes back below rest p)) label) ≡ Stopped why.Trap r.kept.turns
jumped_short m r label gives takes back below rest p es h e = rw (h, e)

-- A branch past the level is a branch of the level outside, with the same operands.
acted_out : (m : Module) (r : Registers) (gives takes : ℕ) (back : List Instr) (below : List Val) (rest : List Instr) (p : LevelPlace) (es : List Entry) (o : Outcome Act) →
    acted m r (inner gives takes back below rest p) es o ≡ acted m r p es o
acted_out m r gives takes back below rest p es Traps = refl
acted_out m r gives takes back below rest p es IllTyped = refl
acted_out m r gives takes back below rest p es (Gives (Goes c h)) = refl
acted_out m r gives takes back below rest p es (Gives (Calls a vs h)) = refl
acted_out m r gives takes back below rest p es (Gives (AsksGrow g size count h)) = refl
acted_out m r gives takes back below rest p es (Gives (Ends vs)) = refl

pub resume_same : (h k : Body) (vs : List Val) (c : List Instr) (ls : List Level) → h.locals ≡ k.locals → resume h vs c ls ≡ resume k vs c ls
resume_same h k vs c [] e = refl
resume_same h k vs c (l ∷ ls) e = rw e

carried_same : (h k : Body) (o : Option (List Val × List Val)) (c : List Instr) (ls : List Level) → h.locals ≡ k.locals → bind (or_ill_typed o) (λ q. resume h q.0 c ls) ≡ bind (or_ill_typed o) (λ q. resume k q.0 c ls)
carried_same h k None c ls e = refl
carried_same h k (Some q) c ls e = resume_same h k q.0 c ls e

found_same : (h k : Body) (o : Option Level) (ls : List Level) → h.locals ≡ k.locals → h.values ≡ k.values →
    bind (or_ill_typed o) (λ t. bind (or_ill_typed (split_at t.takes h.values)) (λ q. resume h q.0 t.back ls)) ≡ bind (or_ill_typed o) (λ t. bind (or_ill_typed (split_at t.takes k.values)) (λ q. resume k q.0 t.back ls))
found_same h k None ls e f = refl
found_same h k (Some t) ls e f = rw f (carried_same h k (split_at t.takes k.values) t.back ls e)

branch_out : (r : Registers) (gives takes : ℕ) (back : List Instr) (below : List Val) (rest : List Instr) (p : LevelPlace) (n : ℕ) → branch (body_at r [] (inner gives takes back below rest p)) (suc n) ≡ branch (body_at r [] p) n
branch_out r gives takes back below rest p zero = carried_same (body_at r [] (inner gives takes back below rest p)) (body_at r [] p) (split_at p.takes r.operands) p.back p.outer refl
branch_out r gives takes back below rest p (suc n) = found_same (body_at r [] (inner gives takes back below rest p)) (body_at r [] p) (slice_get p.outer n) (drop (suc n) p.outer) refl refl

pub jumped_out : (m : Module) (r : Registers) (gives takes n : ℕ) (back : List Instr) (below : List Val) (rest : List Instr) (p : LevelPlace) (es : List Entry) → 0 < n →
    acted m r (inner gives takes back below rest p) es (branch (body_at r [] (inner gives takes back below rest p)) n) ≡ acted m r p es (branch (body_at r [] p) (n - 1))
jumped_out m r gives takes zero back below rest p es lt = absurd (omega (arith, lt))
jumped_out m r gives takes (suc n) back below rest p es lt =
    let e : suc n - 1 ≡ n = omega arith in rw (e, branch_out r gives takes back below rest p n) (acted_out m r gives takes back below rest p es (branch (body_at r [] p) n))
