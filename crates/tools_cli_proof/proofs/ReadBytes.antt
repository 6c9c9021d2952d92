-- Files that were read hold bytes.
use Rattle.base_lists.proofs.Common.{◌≡◌, refl, subst, List, [], ◌∷◌, map, Some, arith, get}
use Rattle.wasm_bytes.specs.Prelude.{IsBytes}
use Rattle.tool_io.specs.FilesAndSinks.{FileContents}
use Rattle.tools_cli_spec.specs.Prelude.{Text, NamedFile, contents_of}
use Rattle.tools_cli_spec.specs.Faithful.{HoldBytesAt}

-- The first contents are those of a file that was read, so they are bytes.
pub first_read : (files : FileContents) (names : List Text) (es : List NamedFile) → map (get files) names ≡ map (λ (e : NamedFile). Some e.1) es → HoldBytesAt names files → (bytes : Text) (more : List Text) → contents_of es ≡ bytes ∷ more → IsBytes bytes
first_read files names [] held h bytes more e = absurd (cc)
first_read files [] (x ∷ es) held h bytes more e = absurd (cc)
first_read files (name ∷ names) (x ∷ es) held h bytes more e =
    let there : get files name ≡ Some x.1 = cc in
    let same : x.1 ≡ bytes = cc in
    subst IsBytes same (h name x.1 (0, omega arith, refl) there)
