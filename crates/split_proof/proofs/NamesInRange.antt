-- The names that a split adds are UTF-8 where the given ones are, since letters and decimals are
-- ASCII.
use Rattle.base_lists.proofs.Common.{ℕ, ◌<◌, ◌^◌, List, [], ◌∷◌, ◌++◌, arith, IsUtf8, decimal, IsAscii, IsUtf8-from_ascii, IsAscii-cons, IsAscii-nil}
use Rattle.std.proofs.lemmas.Fmt.{IsAscii-decimal}
use Rattle.std.proofs.lemmas.Str.{IsAscii-append, IsUtf8-append}
use Rattle.wasm_tree_spec.specs.Prelude.{Space, Types, Functions, Tables, Memories, Globals, ElementSegments, DataSegments}
use Rattle.split_spec.specs.Prelude.{name_from_primary, slots_name}
use Rattle.split_spec.specs.FromPrimary.{kind_letter}

decimal_ascii : (n : ℕ) → n < 2 ^ 32 → IsAscii (decimal n)
decimal_ascii n few = IsAscii-decimal n (omega (arith, few))

pub decimal_in : (n : ℕ) → n < 2 ^ 32 → IsUtf8 (decimal n)
decimal_in n few = IsUtf8-from_ascii (decimal n) (decimal_ascii n few)

letter_ascii : (space : Space) → IsAscii (kind_letter space)
letter_ascii Functions = IsAscii-cons 102 [] (omega arith) IsAscii-nil
letter_ascii Tables = IsAscii-cons 116 [] (omega arith) IsAscii-nil
letter_ascii Memories = IsAscii-cons 109 [] (omega arith) IsAscii-nil
letter_ascii Globals = IsAscii-cons 103 [] (omega arith) IsAscii-nil
letter_ascii Types = IsAscii-nil
letter_ascii ElementSegments = IsAscii-nil
letter_ascii DataSegments = IsAscii-nil

pub name_in : (prefix : List ℕ) → IsUtf8 prefix → (space : Space) (index : ℕ) → index < 2 ^ 32 → IsUtf8 (name_from_primary prefix space index)
name_in prefix h space index few =
    let tail = kind_letter space ++ decimal index in
    let ascii = IsAscii-append (kind_letter space) (decimal index) (letter_ascii space) (decimal_ascii index few) in
    IsUtf8-append prefix tail h (IsUtf8-from_ascii tail ascii)

-- The word `slots` is ASCII.
slots_ascii : IsAscii (115 ∷ 108 ∷ 111 ∷ 116 ∷ 115 ∷ [])
slots_ascii =
    let s = IsAscii-cons 115 [] (omega arith) IsAscii-nil in
    let ts = IsAscii-cons 116 (115 ∷ []) (omega arith) s in
    let ots = IsAscii-cons 111 (116 ∷ 115 ∷ []) (omega arith) ts in
    let lots = IsAscii-cons 108 (111 ∷ 116 ∷ 115 ∷ []) (omega arith) ots in
    IsAscii-cons 115 (108 ∷ 111 ∷ 116 ∷ 115 ∷ []) (omega arith) lots

pub slots_name_in : (prefix : List ℕ) → IsUtf8 prefix → IsUtf8 (slots_name prefix)
slots_name_in prefix h = IsUtf8-append prefix (115 ∷ 108 ∷ 111 ∷ 116 ∷ 115 ∷ []) h (IsUtf8-from_ascii (115 ∷ 108 ∷ 111 ∷ 116 ∷ 115 ∷ []) slots_ascii)
