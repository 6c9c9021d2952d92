-- The names of the exports of a merged module are in UTF-8.
use Rattle.base_lists.proofs.Common.{◌≡◌, ℕ, zero, suc, ◌<◌, ◌/◌, ◌%◌, arith, Bool, true, false, cond, List, [], ◌∷◌, ◌++◌, map, length, decimal, Option, Some, None, IsUtf8, nat_lt, ◌==◌, IsAscii, nat_tests, IsUtf8-from_ascii}
use Rattle.std.specs.Fmt.{digits, digits_onto, digit_glyph}
use Rattle.std.proofs.lemmas.Str.{IsUtf8-append}
use Rattle.wasm_tree_spec.specs.Prelude.{Export}
use Rattle.base_lists.specs.Every.{Every}
use Rattle.merge_names.specs.declared.mode.Mode.{Mode}
use Rattle.merge_names.specs.declared.mode.Mode.TheVariants.{Refuse, Rename, Skip}
use Rattle.merge_names.specs.Names.{among, numbered, least_free, new_name, renamed_behind, kept_behind, new_names}
use Rattle.merge_spec.specs.Prelude.{named_exports}

abbrev pub NameIn : Option (List ℕ) → Type 0
NameIn None = Unit {0}
NameIn (Some name) = IsUtf8 name

-- The decimal digits of a number are ASCII characters.
cons_ascii : (d : ℕ) (ds : List ℕ) → d < 128 → IsAscii ds → IsAscii (d ∷ ds)
cons_ascii d ds h k zero = h
cons_ascii d ds h k (suc i) = k i

glyph_ascii : (n : ℕ) → digit_glyph false (n % 10) < 128
glyph_ascii n = let small : n % 10 < 10 = omega arith in let is : nat_lt (n % 10) 10 ≡ true = grind (arith, nat_tests) in rw is (omega arith)

either_ascii : (b : Bool) (x y : List ℕ) → IsAscii x → IsAscii y → IsAscii (cond b x y)
either_ascii true x y h k = h
either_ascii false x y h k = k

onto_ascii : (k n : ℕ) (acc : List ℕ) → IsAscii acc → IsAscii (digits_onto k 10 false n acc)
onto_ascii zero n acc h = h
onto_ascii (suc k) n acc h =
    let more : IsAscii (digit_glyph false (n % 10) ∷ acc) = cons_ascii (digit_glyph false (n % 10)) acc (glyph_ascii n) h in
    either_ascii (n / 10 == 0) (digit_glyph false (n % 10) ∷ acc) (digits_onto k 10 false (n / 10) (digit_glyph false (n % 10) ∷ acc)) more (onto_ascii k (n / 10) (digit_glyph false (n % 10) ∷ acc) more)

none_ascii : IsAscii []
none_ascii zero = omega arith
none_ascii (suc i) = omega arith

decimal_ascii : (n : ℕ) → IsAscii (decimal n)
unfolding digits
decimal_ascii n = onto_ascii 64 n [] none_ascii

numbered_in : (name : List ℕ) (k : ℕ) → IsUtf8 name → IsUtf8 (numbered name k)
numbered_in name k h = IsUtf8-append name (95 ∷ decimal k) h (IsUtf8-from_ascii (95 ∷ decimal k) (cons_ascii 95 (decimal k) (omega arith) (decimal_ascii k)))

either_in : (b : Bool) (x y : List ℕ) → IsUtf8 x → IsUtf8 y → IsUtf8 (cond b x y)
either_in true x y h k = h
either_in false x y h k = k

new_name_in : (all old chosen : List (List ℕ)) (name : List ℕ) → IsUtf8 name → IsUtf8 (new_name all old chosen name)
unfolding new_name
new_name_in all old chosen name h = either_in (among old name) (numbered name (least_free (length (all ++ chosen)) (among (all ++ chosen)) name 1)) name (numbered_in name _ h) h

renamed_in : (all old chosen names : List (List ℕ)) → Every IsUtf8 names → Every NameIn (map Some (renamed_behind all old chosen names))
unfolding renamed_behind
renamed_in all old chosen [] h = tt
renamed_in all old chosen (n ∷ ns) h = (new_name_in all old chosen n h.0, renamed_in all (old ++ n ∷ []) (chosen ++ new_name all old chosen n ∷ []) ns h.1)

kept_in : (old names : List (List ℕ)) → Every IsUtf8 names → Every NameIn (kept_behind old names)
unfolding kept_behind
kept_in old [] h = tt
kept_in old (n ∷ ns) h = (drop_or_keep (among old n) n h.0, kept_in (old ++ n ∷ []) ns h.1)
  where
    drop_or_keep : (b : Bool) (n : List ℕ) → IsUtf8 n → NameIn (cond b None (Some n))
    drop_or_keep true n h = tt
    drop_or_keep false n h = h

same_in : (names : List (List ℕ)) → Every IsUtf8 names → Every NameIn (map Some names)
same_in [] h = tt
same_in (n ∷ ns) h = (h.0, same_in ns h.1)

pub new_names_in : (mode : Mode) (names : List (List ℕ)) → Every IsUtf8 names → Every NameIn (new_names mode names)
new_names_in Refuse names h = same_in names h
new_names_in Rename names h = renamed_in names [] [] names h
new_names_in Skip names h = kept_in [] names h

pub named_in : (es : List Export) (names : List (Option (List ℕ))) → Every NameIn names → Every (λ (e : Export). IsUtf8 e.name) (named_exports es names)
named_in [] [] h = tt
named_in [] (n ∷ ns) h = tt
named_in (e ∷ es) [] h = tt
named_in (e ∷ es) (None ∷ ns) h = named_in es ns h.1
named_in (e ∷ es) (Some n ∷ ns) h = (h.0, named_in es ns h.1)
