use Rattle.base_lists.proofs.Common.{◌≡◌, ◌≤◌, ◌∙◌, None, Some, ap, arith, false, length, refl, replicate, subst}
use Rattle.wasm_tree_spec.specs.Prelude.{memories_of}
use Rattle.eval_spec.specs.declared.limits.TheConstants.{MOST_TURNS}
use Rattle.eval_spec.specs.Prelude.{stop_of, instantiated}
use Rattle.eval_machine.specs.declared.kept.Kept.{Kept}
use Rattle.eval_machine.specs.Prelude.{FillsTables, IsInitialMachine, PoursDatas, elems_end}
use Rattle.wasm_valid.specs.Prelude.{ItemsHold}
use Rattle.eval_machine.proofs.Instantiations.{datas_stop, elems_stop, globals_typed, is_instantiated, limits_few}
use Rattle.eval_machine.proofs.boot.instantiate.Goals as goal

pub first_globals-requires : goal.first_globals-requires
first_globals-requires c = globals_typed c.module-input.result.now ((c.valid_where_items_hold.ensures c.module-input.result.now).0 c.module-input.ensures.valid)

pub returns-in-Some : goal.returns-in-Some
returns-in-Some c =
    let hold : ItemsHold c.module-input.result.now = (c.valid_where_items_hold.ensures c.module-input.result.now).0 c.module-input.ensures.valid in
    let single : length (memories_of c.module-input.result.now) ≤ 1 = omega (arith, c.if-memory_space-gt1.false, c.memory_space.ensures) in
    let fills : FillsTables c.module-input.result.now (elems_end c.module-input.result.now) (Some c.in-Some.stop) c.fill.new.self = rw c.in-Some.is at c.in_ok-stop.ensures in
    subst (λ m. stop_of (instantiated m MOST_TURNS) ≡ Some c.in-Some.stop) c.module-input.ensures.value
    (elems_stop c.module-input.result.now hold single c.in_ok-globals.globals c.in_ok-globals.ensures c.in-Some.stop c.fill.new.self fills)

pub blank_memory-requires : goal.blank_memory-requires
blank_memory-requires c =
    limits_few c.module-input.result.now ((c.valid_where_items_hold.ensures c.module-input.result.now).0 c.module-input.ensures.valid) (omega (arith, c.if-memory_space-gt1.false, c.memory_space.ensures))

pub returns-in-Some-pour_all : goal.returns-in-Some-pour_all
returns-in-Some-pour_all c =
    let hold : ItemsHold c.module-input.result.now = (c.valid_where_items_hold.ensures c.module-input.result.now).0 c.module-input.ensures.valid in
    let single : length (memories_of c.module-input.result.now) ≤ 1 = omega (arith, c.if-memory_space-gt1.false, c.memory_space.ensures) in
    let fills : FillsTables c.module-input.result.now (elems_end c.module-input.result.now) None c.fill.new.self = rw c.in-None.is at c.in_ok-stop.ensures in
    let none : c.in_ok-dropped.dropped ≡ replicate (length c.module-input.result.now.datas) false = c.in_ok-dropped.ensures ∙ ap (λ n. replicate n false) c.len.ensures in
    let pours : PoursDatas c.module-input.result.now c.in_ok-memory.memory c.in_ok-dropped.dropped (Some c.in-Some-pour_all.stop) c.pour_all.new.memory c.pour_all.new.dropped = c.in-Some-pour_all.ensures.pours in
    subst (λ m. stop_of (instantiated m MOST_TURNS) ≡ Some c.in-Some-pour_all.stop) c.module-input.ensures.value
    (datas_stop c.module-input.result.now hold single c.in_ok-globals.globals c.in_ok-globals.ensures c.fill.new.self fills c.in_ok-memory.memory c.in_ok-memory.ensures c.in_ok-dropped.dropped none c.in-Some-pour_all.stop c.pour_all.new.memory c.pour_all.new.dropped pours)

pub returns : goal.returns
returns c =
    let hold : ItemsHold c.module-input.result.now = (c.valid_where_items_hold.ensures c.module-input.result.now).0 c.module-input.ensures.valid in
    let single : length (memories_of c.module-input.result.now) ≤ 1 = omega (arith, c.if-memory_space-gt1.false, c.memory_space.ensures) in
    let fills : FillsTables c.module-input.result.now (elems_end c.module-input.result.now) None c.fill.new.self = rw c.in-None.is at c.in_ok-stop.ensures in
    let none : c.in_ok-dropped.dropped ≡ replicate (length c.module-input.result.now.datas) false = c.in_ok-dropped.ensures ∙ ap (λ n. replicate n false) c.len.ensures in
    let pours : PoursDatas c.module-input.result.now c.in_ok-memory.memory c.in_ok-dropped.dropped None c.pour_all.new.memory c.pour_all.new.dropped = c.in-None-pour_all.ensures.pours in
    let k : Kept = record { globals = c.in_ok-globals.globals; memory = c.pour_all.new.memory; dropped = c.pour_all.new.dropped; slots = c.fill.new.self; imports = c.import_counts-imports.result; turns = MOST_TURNS; undo = c.in_ok-undo.undo } in
    subst (λ m. IsInitialMachine m k) c.module-input.ensures.value
    (is_instantiated c.module-input.result.now hold single c.in_ok-globals.globals c.in_ok-globals.ensures c.fill.new.self fills c.in_ok-memory.memory c.in_ok-memory.ensures c.in_ok-dropped.dropped none k pours refl refl refl
    c.in-None-pour_all.ensures.fits c.in-None-pour_all.ensures.unmarked (c.in-None-pour_all.ensures.many refl) c.import_counts-imports.ensures c.in_ok-undo.ensures)
