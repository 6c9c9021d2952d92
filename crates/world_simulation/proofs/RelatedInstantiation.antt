-- Two worlds that correspond are instantiated to related stores and views.
use Rattle.base_lists.proofs.Common.{◌≡◌, Some, arith, option_and_then, and_then_is, all_there_length, all_rel, opt_both, copies_length}
use Rattle.wasm_meaning.specs.Prelude.{Store, ref_of, Environment, World, Begun, stores_from, own_store, all_there, instantiate, links}
use Rattle.run_simulation.specs.Prelude.{Pairing, OneToOne, OptRel, nil, cons, opening, BegunRel, EntryByEntry}
use Rattle.world_simulation.specs.Prelude.{Instantiated, values_in, IsInstantiated, AreSimilar, StartsCorrespond}
use Rattle.world_simulation.specs.CorrespondingWorlds.{in_world, BegunRelated}
use Rattle.base_lists.proofs.Related.{alike_there}
use Rattle.world_simulation.proofs.EnvironmentEntities.{owned_rel}
use Rattle.world_simulation.proofs.AllocatedStores.{table_placed, memory_placed, elem_placed, data_placed, stores_rel}
use Rattle.world_simulation.proofs.SegmentRoom.{HasRoom}
use Rattle.world_simulation.proofs.SegmentsInOrder.{and_then_alike, elems_defined, datas_defined, elems_in_order, datas_in_order}

-- ---- what instantiation made ----

pub what_is_made : (env : Environment) (w : World) (b : Begun) → instantiate env w ≡ Some b → IsInstantiated env w b
what_is_made env w b h = grind arith

-- ---- what is allocated has room ----

allocated_room : (env : Environment) (w : Instantiated) (s : Store) → stores_from env w.parts w.insts (own_store env) 0 w.parts w.insts ≡ Some s → HasRoom env w s
allocated_room env w s made = record {
  tables = λ a d. grind (arith, table_placed env w s made d, copies_length);
  mems = λ a d. grind (arith, memory_placed env w s made d, copies_length);
  elems = λ a d.
      let x = elem_placed env w s made d in
      let i = and_then_is (all_there (λ e. option_and_then ref_of (values_in env w d.part e)) d.definition.items) _ x.0 x.2 in
      grind (arith, all_there_length _ d.definition.items i.0 i.1);
  datas = λ a d. grind (arith, data_placed env w s made d);
}

-- ---- both ----

module _ (R : Pairing) (apart : OneToOne R) (env : Environment) (v w : World) (similar : AreSimilar R env v w) where
  pub begin_alike : (b c : Begun) → instantiate env v ≡ Some b → instantiate env w ≡ Some c → BegunRelated R b c
  begin_alike b c f g =
      let x = what_is_made env v b f in
      let y = what_is_made env w c g in
      let first = in_world v x.insts in
      let second = in_world w y.insts in
      let k = similar x.insts y.insts x.are_insts y.are_insts in
      let filled = and_then_alike R apart env first second
      (elems_in_order R apart env first second k.elems (elems_defined env first x.are_insts) (elems_defined env second y.are_insts) x.allocated y.allocated (record {
        related = stores_rel R env first second k.own k.definitions x.allocated y.allocated x.is_allocated y.is_allocated;
        first = allocated_room env first x.allocated x.is_allocated;
        second = allocated_room env second y.allocated y.is_allocated;
      }))
      (datas_in_order R apart env first second k.datas (datas_defined env first x.are_insts) (datas_defined env second y.are_insts)) in
      rw (← x.is, ← y.is) (record { store = filled.stores.related; entries = tt; closed = tt; trapped = filled.trapped; view = opt_both (all_rel k.view) x.is_view y.is_view; owned = owned_rel R env k.own })

  -- Both worlds are instantiated, with related results, or neither is.
  pub instances_rel : StartsCorrespond R env v w → links env v ≡ links env w → OptRel (BegunRel R (EntryByEntry R)) (instantiate env v) (instantiate env w)
  instances_rel starts linked = alike_there _ _ linked (λ b c f g.
      let x = what_is_made env v b f in
      let y = what_is_made env w c g in
      let k = begin_alike b c f g in
      let entries = cons (opening (rw (← x.is, ← y.is) (starts x.insts y.insts x.are_insts y.are_insts))) nil in
      record { store = k.store; entries = entries; closed = nil; trapped = k.trapped; view = k.view; owned = k.owned })
