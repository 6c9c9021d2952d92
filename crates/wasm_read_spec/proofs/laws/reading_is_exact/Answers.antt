use Rattle.wasm_read_spec.proofs.Exact.{u32_exact, name_exact, sized_exact}
use Rattle.wasm_read_spec.proofs.FileLaws.{read_exactly}
use Rattle.wasm_read_spec.proofs.laws.reading_is_exact.Goals as goal

pub returns : goal.returns
returns c = record { numbers = u32_exact; names = name_exact; sized = sized_exact; files = read_exactly c.frames_are_read.ensures }
