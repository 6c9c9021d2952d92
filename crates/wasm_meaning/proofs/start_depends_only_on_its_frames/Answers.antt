use Rattle.wasm_meaning.proofs.StartFrames.{tick_below}
use Rattle.wasm_meaning.proofs.start_depends_only_on_its_frames.Goals as goal

pub returns : goal.returns
returns c = record { own_frames = λ cs ds es p q r low other g. tick_below cs ds low other p q r g }
