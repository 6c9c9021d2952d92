use Rattle.std.proofs.Common.{◌≡◌, ℕ, length, Some, sym, ap, ◌∙◌, subst, arith}
use Rattle.block_pool.specs.Pages.{HasRoomFor, little_bytes}
use Rattle.block_pool.specs.Table.{pages_of}
use Rattle.block_pool.proofs.Rooms.{written_fits}
use Rattle.block_pool.proofs.Stored.{little_bytes_size, written_ready}
use Rattle.block_pool.proofs.table.Table.store_ready.Goals as goal

pub returns-in-Some-clause-sound : goal.returns-in-Some-clause-sound
returns-in-Some-clause-sound c =
    let many : length (little_bytes c.args.width c.args.value) ≡ c.args.width = little_bytes_size c.args.width c.args.value in
    (written_ready c.args.self.now c.write_number.new.self c.args.at c.block.result.number (little_bytes c.args.width c.args.value) c.requires.sound
    (c.in-Some.ensures.named ∙ ap Some (sym c.block.ensures)) c.in-Some.ensures.private c.write_number.ensures.wrote
    (rw many (omega (arith, c.requires.width))) (rw many (omega arith)) (rw many c.requires.inside)).0

pub returns-in-Some-clause-writes : goal.returns-in-Some-clause-writes
returns-in-Some-clause-writes c _ =
    let many : length (little_bytes c.args.width c.args.value) ≡ c.args.width = little_bytes_size c.args.width c.args.value in
    (written_ready c.args.self.now c.write_number.new.self c.args.at c.block.result.number (little_bytes c.args.width c.args.value) c.requires.sound
    (c.in-Some.ensures.named ∙ ap Some (sym c.block.ensures)) c.in-Some.ensures.private c.write_number.ensures.wrote
    (rw many (omega (arith, c.requires.width))) (rw many (omega arith)) (rw many c.requires.inside)).1

pub returns-in-Some-clause-fits : goal.returns-in-Some-clause-fits
returns-in-Some-clause-fits c _ =
    let many : length (little_bytes c.args.width c.args.value) ≡ c.args.width = little_bytes_size c.args.width c.args.value in
    let both =
    written_ready c.args.self.now c.write_number.new.self c.args.at c.block.result.number (little_bytes c.args.width c.args.value) c.requires.sound
    (c.in-Some.ensures.named ∙ ap Some (sym c.block.ensures)) c.in-Some.ensures.private c.write_number.ensures.wrote
    (rw many (omega (arith, c.requires.width))) (rw many (omega arith)) (rw many c.requires.inside)
    in
    subst (λ (n : ℕ). HasRoomFor (pages_of c.args.self.now) c.args.at n) many
    (written_fits c.args.self.now (record c.args.self.now { pool = c.write_number.new.self }) c.args.at (little_bytes c.args.width c.args.value) both.0 both.1)
