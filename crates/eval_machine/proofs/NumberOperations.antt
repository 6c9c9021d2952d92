-- The results of operations on numbers.
use Rattle.base_lists.proofs.Common.{◌≡◌, ℕ, List, ◌∷◌, Option, Some, None, Ok, Err, refl}
use Rattle.wasm_num.specs.declared.UnOp.{UnOp}
use Rattle.wasm_num.specs.declared.BinOp.{BinOp}
use Rattle.wasm_num.specs.declared.Num.{Num as Number}
use Rattle.wasm_num.specs.declared.Trap.{Trap}
use Rattle.wasm_num.specs.Operations.{Width, W32, W64, number, or_trap, un_from, un_to, un_value, bin_from, bin_to, bin_value}
use Rattle.wasm_meaning.specs.Prelude.{Gives, IllTyped, Val, Num, pop_num, unary, binary}
use Rattle.eval_spec.specs.declared.stop.Stop.TheVariants as why
use Rattle.eval_machine.specs.Prelude.{ended}
use Rattle.eval_machine.specs.DenotedValues.{number_of}

pub number_val : (w : Width) (n : ℕ) → number_of (number w n) ≡ Num w n
number_val W32 n = refl
number_val W64 n = refl

pub unary_gives : (op : UnOp) (vs rest : List Val) (a : ℕ) (n : Number) → pop_num (un_from op) vs ≡ Gives (a, rest) → n ≡ number (un_to op) (un_value op a) → ended (unary op vs) ≡ Ok (number_of n ∷ rest)
unary_gives op vs rest a n e f = rw (e, f, number_val (un_to op) (un_value op a))

pub unary_short : (op : UnOp) (vs : List Val) → pop_num (un_from op) vs ≡ IllTyped → ended (unary op vs) ≡ Err why.Trap
unary_short op vs e = rw e

binary_at : (op : BinOp) (vs mid rest : List Val) (b a : ℕ) (o : Option ℕ) (n : Number) → pop_num (bin_from op) vs ≡ Gives (b, mid) → pop_num (bin_from op) mid ≡ Gives (a, rest) → bin_value op a b ≡ o → or_trap (bin_to op) o ≡ Ok n →
    ended (binary op vs) ≡ Ok (number_of n ∷ rest)
binary_at op vs mid rest b a (Some v) n e f h g = let same : n ≡ number (bin_to op) v = cc in rw (e, f, h, same, number_val (bin_to op) v)
binary_at op vs mid rest b a None n e f h g = cc

pub binary_gives : (op : BinOp) (vs mid rest : List Val) (b a : ℕ) (n : Number) → pop_num (bin_from op) vs ≡ Gives (b, mid) → pop_num (bin_from op) mid ≡ Gives (a, rest) → or_trap (bin_to op) (bin_value op a b) ≡ Ok n →
    ended (binary op vs) ≡ Ok (number_of n ∷ rest)
binary_gives op vs mid rest b a n e f g = binary_at op vs mid rest b a (bin_value op a b) n e f refl g

binary_none : (op : BinOp) (vs mid rest : List Val) (b a : ℕ) (o : Option ℕ) (t : Trap) → pop_num (bin_from op) vs ≡ Gives (b, mid) → pop_num (bin_from op) mid ≡ Gives (a, rest) → bin_value op a b ≡ o → or_trap (bin_to op) o ≡ Err t →
    ended (binary op vs) ≡ Err why.Trap
binary_none op vs mid rest b a (Some v) t e f h g = cc
binary_none op vs mid rest b a None t e f h g = rw (e, f, h)

pub binary_traps : (op : BinOp) (vs mid rest : List Val) (b a : ℕ) (t : Trap) → pop_num (bin_from op) vs ≡ Gives (b, mid) → pop_num (bin_from op) mid ≡ Gives (a, rest) → or_trap (bin_to op) (bin_value op a b) ≡ Err t →
    ended (binary op vs) ≡ Err why.Trap
binary_traps op vs mid rest b a t e f g = binary_none op vs mid rest b a (bin_value op a b) t e f refl g

pub binary_short : (op : BinOp) (vs : List Val) → pop_num (bin_from op) vs ≡ IllTyped → ended (binary op vs) ≡ Err why.Trap
binary_short op vs e = rw e

pub binary_one : (op : BinOp) (vs mid : List Val) (b : ℕ) → pop_num (bin_from op) vs ≡ Gives (b, mid) → pop_num (bin_from op) mid ≡ IllTyped → ended (binary op vs) ≡ Err why.Trap
binary_one op vs mid b e f = rw (e, f)
