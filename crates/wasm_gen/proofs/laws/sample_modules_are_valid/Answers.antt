use Rattle.std.proofs.Common.{◌*◌, refl}
use Rattle.wasm_gen.specs.Draws.{draw}
use Rattle.wasm_gen.specs.Modules.{first_module, second_module}
use Rattle.wasm_gen.proofs.Validity.{first_valid, first_bounded, second_valid, second_bounded}
use Rattle.wasm_gen.proofs.laws.sample_modules_are_valid.Goals as goal

pub returns : goal.returns
returns c seed count some few =
    let law = c.valid_where_items_hold.ensures in
    let first = first_module seed count in
    let second = second_module seed count in (
      (first_valid law seed count first few refl, first_bounded seed count first few refl),
      (second_valid law (draw seed (count * 2)) count second some few refl, second_bounded (draw seed (count * 2)) count second some few refl),
    )
