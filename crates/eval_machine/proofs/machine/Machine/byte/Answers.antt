use Rattle.std.proofs.Common.{◌≡◌, ◌<◌, ◌∙◌, Some, ap, length, slice_get, sym}
use Rattle.eval_machine.proofs.ReadContents.{bytes_are, one_byte}
use Rattle.eval_machine.proofs.machine.Machine.byte.Goals as goal

pub returns-in-Some : goal.returns-in-Some
returns-in-Some c m f =
    let there : c.args.self.now.memory ≡ Some c.in-Some.paged = ap (λ k. k.memory) (sym c.self.view_is) ∙ c.in-Some.is in
    let inside : c.args.at < length c.in-Some.paged.now.bytes = (rw there at c.requires) in
    ap Some c.load.ensures.value ∙ (one_byte c.in-Some.paged.now.bytes c.args.at inside ∙ ap (λ xs. slice_get xs c.args.at) (sym (bytes_are m c.args.self.now c.in-Some.paged f there)))
