use Rattle.base_lists.proofs.Common.{◌≡◌, ◌∙◌, ◌<◌, ap, Option, Some, None, length, get_or, arith, get_or_default, slice_get-get_or}
use Rattle.std.specs.Option.{option_map}
use Rattle.wasm_tree.specs.declared.module.ConstExpr.TheVariants.{I32}
use lib.IntN.{pos}
use Rattle.merge_spec.specs.declared.links.Read.{Read}
use Rattle.merge_spec.specs.declared.faults.LinkFault.TheVariants.{GlobalCycle}
use Rattle.merge_spec.specs.Faults as faults
use Rattle.merge_spec.specs.Prelude.{named_modules}
use Rattle.merge_link.specs.declared.globals.DefinedGlobal.{DefinedGlobal}
use Rattle.merge_link.specs.Prelude.{the_own, the_read, value_at}
use Rattle.merge_link.proofs.Firsts.{first_pass, first_stop}
use Rattle.merge_link.proofs.Found.{lengths_same}
use Rattle.merge_link.proofs.Reading.{global_here}
use Rattle.merge_link.proofs.part_tables.PartTables.first_global_fault.Goals as goal

pub returns-in-None : goal.returns-in-None
returns-in-None c =
    let ps = c.args.self.now.parts.now in
    let globals = c.args.globals.now in
    let values = c.args.values.now in
    let n = c.loop-at.at in
    let d : DefinedGlobal = record { part = 0; index = 0; init = I32 (pos 0) } in
    let within : n < length globals = omega arith in
    let size = lengths_same (option_map the_read) (value_at ps) values globals c.requires in
    let g = get_or globals n d in
    let here = global_here ps globals values n g (get_or values n None) c.requires (slice_get-get_or globals n d within) (slice_get-get_or values n None (omega (arith, size))) in
    let fault : faults.global_fault (named_modules ps) (the_own g) ≡ Some (GlobalCycle g.part g.index) = here ∙ ap (λ (o : Option Read). faults.value_fault (the_own g) (option_map the_read o)) c.in-None.is in
    first_stop (λ (x : DefinedGlobal). faults.global_fault (named_modules ps) (the_own x)) globals n g _ (GlobalCycle g.part g.index) within (get_or_default globals n d g within) fault c.loop-at.invariant

pub loop-at-preserved : goal.loop-at-preserved
loop-at-preserved c =
    let ps = c.args.self.now.parts.now in
    let globals = c.args.globals.now in
    let values = c.args.values.now in
    let n = c.loop-at.at in
    let d : DefinedGlobal = record { part = 0; index = 0; init = I32 (pos 0) } in
    let within : n < length globals = omega arith in
    let size = lengths_same (option_map the_read) (value_at ps) values globals c.requires in
    let g = get_or globals n d in
    let here = global_here ps globals values n g (get_or values n None) c.requires (slice_get-get_or globals n d within) (slice_get-get_or values n None (omega (arith, size))) in
    let none : faults.global_fault (named_modules ps) (the_own g) ≡ None = here ∙ ap (λ (o : Option Read). faults.value_fault (the_own g) (option_map the_read o)) c.in-Some.is in
    first_pass (λ (x : DefinedGlobal). faults.global_fault (named_modules ps) (the_own x)) globals n g _ within (get_or_default globals n d g within) none c.loop-at.invariant
