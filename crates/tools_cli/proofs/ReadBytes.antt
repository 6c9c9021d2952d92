-- Files that were read hold bytes.
use Rattle.base_lists.proofs.Common.{◌≡◌, ◌∙◌, sym, ap, subst, zero, suc, List, [], ◌∷◌, ◌++◌, map, Some, arith, get}
use Rattle.base_lists.specs.Every.{Every}
use Rattle.wasm_bytes.specs.Prelude.{IsBytes}
use Rattle.tool_io.specs.FilesAndSinks.{FileContents}
use Rattle.tools_cli_spec.specs.Prelude.{Text, NamedFile}
use Rattle.tools_cli_decide.specs.Prelude.{input_entries}
use Rattle.tools_cli_spec.specs.Faithful.{HoldBytesAt}
use Rattle.tools_cli_decide.specs.declared.input.Input.{Input}

-- The files hold bytes if the contents that were read of them are bytes.
pub all_read_are : (files : FileContents) (names : List Text) (es : List NamedFile) → map (get files) names ≡ map (λ (e : NamedFile). Some e.1) es → Every (λ (e : NamedFile). IsBytes e.1) es → HoldBytesAt names files
all_read_are files [] es held h name bytes (k, lt, is) there = absurd (omega (arith, lt))
all_read_are files (n ∷ names) [] held h name bytes (k, lt, is) there = absurd (cc)
all_read_are files (n ∷ names) (x ∷ es) held h name bytes (zero, lt, is) there =
    let here : get files n ≡ Some x.1 = cc in
    let both : Some x.1 ≡ Some bytes = sym here ∙ (ap (get files) is ∙ there) in
    let same : x.1 ≡ bytes = cc in
    subst IsBytes same h.0
all_read_are files (n ∷ names) (x ∷ es) held h name bytes (suc k, lt, is) there =
    let rest : map (get files) names ≡ map (λ (e : NamedFile). Some e.1) es = cc in
    all_read_are files names es rest h.1 name bytes (k, omega (arith, lt), is) there

-- The inputs are bytes with one more input that is bytes.
pub one_more_read : (xs : List Input) (x : Input) → Every (λ (e : NamedFile). IsBytes e.1) (input_entries xs) → IsBytes x.bytes.items → Every (λ (e : NamedFile). IsBytes e.1) (input_entries (xs ++ x ∷ []))
one_more_read [] x h k = (k, tt)
one_more_read (y ∷ ys) x h k = (h.0, one_more_read ys x h.1 k)
