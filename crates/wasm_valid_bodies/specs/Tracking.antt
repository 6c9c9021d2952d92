-- The stacks that the checker keeps: a list of operands, and whether any operands can be below
-- them.
use Rattle.std.specs.Prelude.{◌≡◌, ℕ, Bool, true, false, cond, ◌&&◌, nat_eq, is_some, List, [], ◌∷◌, ◌++◌, reverse, length, Option, Some, None, slice_get, option_map}
use Rattle.base_lists.specs.Options.{◌>>=◌}
use Rattle.wasm_tree.specs.declared.types.RefType.TheVariants.{Func, Extern}
use Rattle.wasm_tree_spec.specs.Prelude.{ValType, I32, I64, Ref, same_type}
use Rattle.wasm_valid_bodies.specs.Typing.{Operand, Stack, operands, Effect, Gives, Leaves, Drops, Selects, TestsNull, Branches}

-- A type stands for itself, and a bottom for any operand.
abbrev pub IsInstance : Operand → Operand → Type 0
IsInstance None y = Unit {0}
IsInstance (Some t) y = y ≡ Some t

-- The last stack is one of those that a kept stack stands for: with any operands below it if the
-- flag is true.
abbrev pub Instance : Stack → Bool → Stack → Type 0
Instance [] false [] = Unit {0}
Instance [] false (y ∷ ys) = ⊥
Instance [] true s = Unit {0}
Instance (x ∷ xs) o [] = ⊥
Instance (x ∷ xs) o (y ∷ ys) = IsInstance x y × Instance xs o ys

-- The last stack is the kept stack itself, with any operands below it if the flag is true.
abbrev pub Concrete : Stack → Bool → Stack → Type 0
Concrete [] false [] = Unit {0}
Concrete [] false (y ∷ ys) = ⊥
Concrete [] true s = Unit {0}
Concrete (x ∷ xs) o [] = ⊥
Concrete (x ∷ xs) o (y ∷ ys) = (y ≡ x) × Concrete xs o ys

-- From the stacks of `xs`, `F` leads only to stacks of `ys` (`on`). It leads to each stack that is
-- `ys` itself from one that is `xs` itself (`back`).
pub record StepsTo (F : Stack → Stack → Type 0) (xs : Stack) (o : Bool) (ys : Stack) (p : Bool) : Type 0 where
  pub back : (t : Stack) → Concrete ys p t → (s : Stack) × Concrete xs o s × F s t
  pub on : (s t : Stack) → Instance xs o s → F s t → Instance ys p t

-- `F` leads nowhere from the stacks of `xs`.
abbrev pub LeadsNowhere : (Stack → Stack → Type 0) → Stack → Bool → Type 0
LeadsNowhere F xs o = (s t : Stack) → Instance xs o s → F s t → ⊥

-- If the last flag is true, `F` leads from `xs` to `ys`, and otherwise nowhere.
abbrev pub TracksStep : (Stack → Stack → Type 0) → Stack → Bool → Stack → Bool → Bool → Type 0
TracksStep F xs o ys p false = LeadsNowhere F xs o
TracksStep F xs o ys p true = StepsTo F xs o ys p

-- A number for each value type.
abbrev pub letter : ValType → ℕ
letter I32 = 0
letter I64 = 1
letter (Ref Func) = 2
letter (Ref Extern) = 3

abbrev pub fits_type : Operand → ValType → Bool
fits_type None t = true
fits_type (Some u) t = same_type u t

-- The topmost operand and what is below it; a bottom if only unknown operands are left.
abbrev pub pop_one : Stack → Bool → Option (Operand × Stack)
pop_one [] false = None
pop_one [] true = Some (None, [])
pop_one (x ∷ xs) o = Some (x, xs)

abbrev pub below_type : ValType → Option (Operand × Stack) → Option Stack
below_type t None = None
below_type t (Some p) = cond (fits_type p.0 t) (Some p.1) None

abbrev pub pop_type : Stack → Bool → ValType → Option Stack
pop_type xs o t = below_type t (pop_one xs o)

abbrev pub pop_all : Stack → Bool → List ValType → Option Stack
pop_all xs o [] = Some xs
pop_all xs o (t ∷ ts) = pop_type xs o t >>= λ ys. pop_all ys o ts

abbrev pub is_number : Operand → Bool
is_number None = true
is_number (Some I32) = true
is_number (Some I64) = true
is_number (Some (Ref r)) = false

abbrev pub is_reference : Operand → Bool
is_reference None = true
is_reference (Some I32) = false
is_reference (Some I64) = false
is_reference (Some (Ref r)) = true

-- The operand that matches both, if there is one.
abbrev pub join : Operand → Operand → Option Operand
join None b = Some b
join (Some t) None = Some (Some t)
join (Some t) (Some u) = cond (same_type t u) (Some (Some t)) None

abbrev pub number_of : Operand → Option Operand
number_of u = cond (is_number u) (Some u) None

abbrev pub chosen : Operand → Operand → Option Operand
chosen b a = join b a >>= number_of

-- The operands can be popped for each of these labels, and each label has `n` types.
abbrev pub all_pop : Stack → Bool → ℕ → List (List ValType) → Bool
all_pop xs o n [] = true
all_pop xs o n (l ∷ ls) = nat_eq (length l) n && is_some (pop_all xs o (reverse l)) && all_pop xs o n ls

abbrev pub arity : List (List ValType) → ℕ
arity [] = 0
arity (l ∷ ls) = length l

abbrev pub select_rest : Bool → Operand → Option (Operand × Stack) → Option (Stack × Bool)
select_rest o b None = None
select_rest o b (Some q) = option_map (λ u. (u ∷ q.1, o)) (chosen b q.0)

abbrev pub select_two : Bool → Option (Operand × Stack) → Option (Stack × Bool)
select_two o None = None
select_two o (Some p) = select_rest o p.0 (pop_one p.1 o)

abbrev pub test_top : Bool → Option (Operand × Stack) → Option (Stack × Bool)
test_top o None = None
test_top o (Some p) = cond (is_reference p.0) (Some (Some I32 ∷ p.1, o)) None

-- What the checker keeps after an instruction, or `None` if the instruction cannot follow.
abbrev pub act : Effect → Stack → Bool → Option (Stack × Bool)
act (Gives ps rs) xs o = option_map (λ ys. (operands rs ++ ys, o)) (pop_all xs o (reverse ps))
act (Leaves ps) xs o = option_map (λ ys. ([], true)) (pop_all xs o (reverse ps))
act Drops xs o = option_map (λ p. (p.1, o)) (pop_one xs o)
act Selects xs o = pop_type xs o I32 >>= λ ys. select_two o (pop_one ys o)
act TestsNull xs o = test_top o (pop_one xs o)
act (Branches ls) xs o = pop_type xs o I32 >>= λ ys. cond (all_pop ys o (arity ls) ls) (Some ([], true)) None

abbrev pub answer_of : Option Effect → Stack → Bool → Option (Stack × Bool)
answer_of None xs o = None
answer_of (Some e) xs o = act e xs o

-- The operands can be popped for this label, which has `n` types.
abbrev pub allows_types : Stack → Bool → ℕ → Option (List ValType) → Bool
allows_types xs o n None = false
allows_types xs o n (Some t) = nat_eq (length t) n && is_some (pop_all xs o (reverse t))

abbrev pub allows_all : List (List ValType) → Stack → Bool → ℕ → List ℕ → Bool
allows_all labels xs o n [] = true
allows_all labels xs o n (l ∷ ls) = allows_types xs o n (slice_get labels l) && allows_all labels xs o n ls
