-- A fault of linking names a part that exists and is never one of memory. If there is no fault,
-- there is none either where several memories are allowed.
use Rattle.base_lists.proofs.Common.{◌≡◌, subst, ℕ, zero, suc, ◌+◌, ◌<◌, ◌≤◌, List, [], ◌∷◌, length, Option, Some, None, IfSome, Bool, true, false, cond, nat_lt, arith}
use Rattle.base_lists.proofs.Every.{every_append}
use Rattle.base_lists.specs.Options.{◌>>=◌}
use Rattle.base_lists.specs.Every.{Every}
use Rattle.std.specs.Option.{option_or}
use Rattle.wasm_tree_spec.specs.Prelude.{Globals, Limits, GlobalDef}
use Rattle.wasm_meaning.specs.Prelude.{Part, Site, End, sites_in, sites_from, sites, end_of, imports_of, Read, read_of}
use Rattle.merge_spec.specs.Prelude.{first_fault, end_fault, is_suited, is_under, kept_limits, memory_count, defined_globals_in, defined_globals_from, NamesPart, LinkFaultsNameParts, NoPartsWantMemory, SeveralMemoriesAddNoFault}
use Rattle.merge_spec.specs.Faults.{import_fault, clash_fault, memory_fault, DefinedGlobal, defined_globals, value_fault, global_fault, link_fault}
use Rattle.merge_spec.specs.declared.faults.LinkFault.{LinkFault}
use Rattle.merge_spec.specs.declared.faults.LinkFault.TheVariants.{ImportMismatch, ImportCycle, LimitsClash, TooManyMemories, GlobalCycle, NoMemory}

-- A fault of linking `n` parts names a part that exists and is not one of memory.
abbrev IsOf : ℕ → LinkFault → Type 0
IsOf n NoMemory = ⊥
IsOf n (ImportMismatch part import) = part < n
IsOf n (ImportCycle part import) = part < n
IsOf n (LimitsClash part import) = part < n
IsOf n TooManyMemories = Unit {0}
IsOf n (GlobalCycle part global) = part < n

option_or_is : (n : ℕ) (a b : Option LinkFault) → IfSome a (IsOf n) → IfSome b (IsOf n) → IfSome (option_or a b) (IsOf n)
option_or_is n None b h k = k
option_or_is n (Some fault) b h k = h

first_is : {A : Type 0} (n : ℕ) (f : A → Option LinkFault) (P : A → Type 0) → ((x : A) → P x → IfSome (f x) (IsOf n)) → (xs : List A) → Every P xs → IfSome (first_fault f xs) (IsOf n)
first_is n f P told [] h = tt
first_is n f P told (x ∷ xs) h = option_or_is n (f x) (first_fault f xs) (told x h.0) (first_is n f P told xs h.1)

-- ---- imports

abbrev HasPart : ℕ → Site → Type 0
HasPart n s = s.part < n

sites_in_have : (n p count from : ℕ) → p < n → Every (HasPart n) (sites_in p count from)
sites_in_have n p zero from h = tt
sites_in_have n p (suc count) from h = (h, sites_in_have n p count (suc from) h)

sites_have : (n p : ℕ) (parts : List Part) → p + length parts ≤ n → Every (HasPart n) (sites_from p parts)
sites_have n p [] h = tt
sites_have n p (part ∷ parts) h =
    every_append (HasPart n) (sites_in p (length part.«module».imports) 0) (sites_from (suc p) parts) (sites_in_have n p (length part.«module».imports) 0 (omega arith)) (sites_have n (suc p) parts (omega arith))

suited_is : (n : ℕ) (s : Site) (b : Bool) → HasPart n s → IfSome (cond b None (Some (ImportMismatch s.part s.import))) (IsOf n)
suited_is n s true h = tt
suited_is n s false h = h

end_is : (n : ℕ) (parts : List Part) (s : Site) (end : Option End) → HasPart n s → IfSome (end_fault parts s end) (IsOf n)
end_is n parts s None h = h
end_is n parts s (Some end) h = suited_is n s (is_suited parts s end) h

import_is : (n : ℕ) (parts : List Part) (s : Site) → HasPart n s → IfSome (import_fault parts s) (IsOf n)
unfolding import_fault
import_is n parts s h = end_is n parts s (end_of parts s) h

under_is : (n : ℕ) (s : Site) (b : Bool) → HasPart n s → IfSome (cond b (Some (LimitsClash s.part s.import)) None) (IsOf n)
under_is n s true h = h
under_is n s false h = tt

limits_are : (n : ℕ) (s : Site) (o : Option Limits) → HasPart n s → IfSome (o >>= λ l. cond (is_under l.max l.min) (Some (LimitsClash s.part s.import)) None) (IsOf n)
limits_are n s None h = tt
limits_are n s (Some l) h = under_is n s (is_under l.max l.min) h

clash_is : (n : ℕ) (parts : List Part) (s : Site) → HasPart n s → IfSome (clash_fault parts s) (IsOf n)
unfolding clash_fault
clash_is n parts s h = limits_are n s (kept_limits parts s) h

-- ---- memories

several_is : (n : ℕ) (b : Bool) → IfSome (cond b (Some TooManyMemories) None) (IsOf n)
several_is n true = tt
several_is n false = tt

memory_is : (n : ℕ) (parts : List Part) → IfSome (memory_fault parts) (IsOf n)
unfolding memory_fault
memory_is n parts = several_is n (nat_lt 1 (memory_count parts))

-- ---- globals

abbrev IsPartOf : ℕ → DefinedGlobal → Type 0
IsPartOf n g = g.part < n

own_in_are : (n p from : ℕ) (gs : List GlobalDef) → p < n → Every (IsPartOf n) (defined_globals_in p from gs)
own_in_are n p from [] h = tt
own_in_are n p from (g ∷ gs) h = (h, own_in_are n p (suc from) gs h)

own_are : (n p : ℕ) (parts : List Part) → p + length parts ≤ n → Every (IsPartOf n) (defined_globals_from p parts)
own_are n p [] h = tt
own_are n p (part ∷ parts) h =
    every_append (IsPartOf n) (defined_globals_in p (length (imports_of Globals part.«module»)) part.«module».globals) (defined_globals_from (suc p) parts)
    (own_in_are n p (length (imports_of Globals part.«module»)) part.«module».globals (omega arith)) (own_are n (suc p) parts (omega arith))

value_is : (n : ℕ) (g : DefinedGlobal) (r : Option Read) → IsPartOf n g → IfSome (value_fault g r) (IsOf n)
value_is n g None h = h
value_is n g (Some r) h = tt

global_is : (n : ℕ) (parts : List Part) (g : DefinedGlobal) → IsPartOf n g → IfSome (global_fault parts g) (IsOf n)
unfolding global_fault
global_is n parts g h = value_is n g (read_of parts g.part g.init) h

-- ---- all faults

counted_is : (n : ℕ) (parts : List Part) (many : Bool) → IfSome (cond many None (memory_fault parts)) (IsOf n)
counted_is n parts true = tt
counted_is n parts false = memory_is n parts

fault_is : (parts : List Part) (many : Bool) → IfSome (link_fault parts many) (IsOf (length parts))
unfolding link_fault defined_globals
fault_is parts many =
    let n = length parts in
    let there : 0 + length parts ≤ n = omega arith in
    option_or_is n _ _ (first_is n (import_fault parts) (HasPart n) (import_is n parts) (sites parts) (sites_have n 0 parts there))
    (option_or_is n _ _ (first_is n (clash_fault parts) (HasPart n) (clash_is n parts) (sites parts) (sites_have n 0 parts there))
    (option_or_is n _ _ (counted_is n parts many)
    (first_is n (global_fault parts) (IsPartOf n) (global_is n parts) (defined_globals parts) (own_are n 0 parts there))))

names_part : (n : ℕ) (fault : LinkFault) → IsOf n fault → NamesPart n fault
names_part n (ImportMismatch part import) h = h
names_part n (ImportCycle part import) h = h
names_part n (LimitsClash part import) h = h
names_part n TooManyMemories h = tt
names_part n (GlobalCycle part global) h = h
names_part n NoMemory h = tt

told : (parts : List Part) (many : Bool) (fault : LinkFault) → link_fault parts many ≡ Some fault → IsOf (length parts) fault
told parts many fault e = let P : Option LinkFault → Type 0 = λ o. IfSome o (IsOf (length parts)) in subst P e (fault_is parts many)

pub fault_names_part : LinkFaultsNameParts
fault_names_part parts many fault e = names_part (length parts) fault (told parts many fault e)

pub fault_not_memory : NoPartsWantMemory
fault_not_memory parts many e = told parts many NoMemory e

-- ---- where several memories may be

others_none : (a b memories others : Option LinkFault) → option_or a (option_or b (option_or memories others)) ≡ None → option_or a (option_or b others) ≡ None
others_none (Some f) b memories others h = absurd (cc)
others_none None (Some f) memories others h = absurd (cc)
others_none None None (Some f) others h = absurd (cc)
others_none None None None others h = h

pub none_with_several : SeveralMemoriesAddNoFault
unfolding link_fault
none_with_several parts true h = h
none_with_several parts false h = others_none _ _ (memory_fault parts) _ h
