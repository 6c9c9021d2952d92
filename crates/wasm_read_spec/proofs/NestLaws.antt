-- The depth of the instructions that tokens encode, the memories that they name, and whole bodies.
use Rattle.base_lists.proofs.Common.{◌≡◌, ℕ, zero, suc, ◌+◌, ◌≤◌, max, List, [], ◌∷◌, ◌++◌, length, Ok, Bool, true, false, refl, sym, ap, ◌∙◌, arith, rules, append-nil, ◌&&◌, list_all, and_from, ok_pair}
use Rattle.wasm_bytes.specs.Prelude.{Each, IsBytes}
use Rattle.wasm_tree_spec.specs.Prelude.{BlockType, Instr, the_lemmas, Block, Loop, If, is_memory_zero, memory_zero_all, block_operands, limit, Nesting}
use Rattle.wasm_tree.specs.declared.types.BlockType.TheVariants as block
use Rattle.wasm_tree.specs.MemoryZero.{memory_zero}
use Rattle.wasm_tree.specs.OperandLaws.{BlockPasses, LoopPasses, IfPasses}
use Rattle.wasm_read_spec.specs.declared.fault.Fault.{Fault}
use Rattle.wasm_read_spec.specs.declared.token.Token.{Token}
use Rattle.wasm_read_spec.specs.declared.token.Token.TheVariants.{Open, Else, End, Plain}
use Rattle.wasm_read_spec.specs.declared.token.Sequence.{Sequence}
use Rattle.wasm_read_spec.specs.Prelude.{SpellsToken, Nests, no_more, one_plain, one_block, one_loop, one_if, one_if_else, SpellsBody, depth_of, body_at, sequence_at}
use Rattle.wasm_read_spec.specs.Bodies.{depth}
use Rattle.wasm_read_spec.proofs.Leaves.{of_token, zero_memory}
use Rattle.wasm_read_spec.proofs.BodyLaws.{NestsIn, no_more as none_in, one_plain as plain_in, one_block as block_in, one_loop as loop_in, one_if as if_in, one_if_else as if_else_in, body_sound, body_complete, body_reads}

-- ---- depth

depth_block : (ty : BlockType) (body : List Instr) → depth_of (Block ty body) ≡ suc (depth body)
depth_block ty body = search (rules, the_lemmas)

depth_loop : (ty : BlockType) (body : List Instr) → depth_of (Loop ty body) ≡ suc (depth body)
depth_loop ty body = search (rules, the_lemmas)

depth_if : (ty : BlockType) (body other : List Instr) → depth_of (If ty body other) ≡ suc (max (depth body) (depth other))
depth_if ty body other = search (rules, the_lemmas)

pub to_in : {ts : List Token} {is : List Instr} → Nests ts is → (d : ℕ) → depth is ≤ d → NestsIn d ts is
to_in no_more d h = none_in
to_in (one_plain i r) d h = plain_in i (omega (arith, h)) (to_in r d (omega (arith, h)))
to_in (one_block {body = body} ty inner r) zero h = let e = depth_block ty body in absurd (omega (arith, h, e))
to_in (one_block {body = body} ty inner r) (suc d) h = let e = depth_block ty body in block_in ty (to_in inner d (omega (arith, h, e))) (to_in r (suc d) (omega (arith, h)))
to_in (one_loop {body = body} ty inner r) zero h = let e = depth_loop ty body in absurd (omega (arith, h, e))
to_in (one_loop {body = body} ty inner r) (suc d) h = let e = depth_loop ty body in loop_in ty (to_in inner d (omega (arith, h, e))) (to_in r (suc d) (omega (arith, h)))
to_in (one_if {body = body} ty inner r) zero h = let e = depth_if ty body [] in absurd (omega (arith, h, e))
to_in (one_if {body = body} ty inner r) (suc d) h = let e = depth_if ty body [] in if_in ty (to_in inner d (omega (arith, h, e))) (to_in r (suc d) (omega (arith, h)))
to_in (one_if_else {body = body} {otherwise = otherwise} ty inner other r) zero h = let e = depth_if ty body otherwise in absurd (omega (arith, h, e))
to_in (one_if_else {body = body} {otherwise = otherwise} ty inner other r) (suc d) h =
    let e = depth_if ty body otherwise in if_else_in ty (to_in inner d (omega (arith, h, e))) (to_in other d (omega (arith, h, e))) (to_in r (suc d) (omega (arith, h)))

pub from_in : {d : ℕ} {ts : List Token} {is : List Instr} → NestsIn d ts is → Nests ts is × (depth is ≤ d)
from_in none_in = (no_more, omega arith)
from_in (plain_in i flat r) = let k = from_in r in (one_plain i k.0, omega (arith, flat, k.1))
from_in (block_in {body = body} ty inner r) = let e = depth_block ty body in let a = from_in inner in let k = from_in r in (one_block ty a.0 k.0, omega (arith, e, a.1, k.1))
from_in (loop_in {body = body} ty inner r) = let e = depth_loop ty body in let a = from_in inner in let k = from_in r in (one_loop ty a.0 k.0, omega (arith, e, a.1, k.1))
from_in (if_in {body = body} ty inner r) = let e = depth_if ty body [] in let a = from_in inner in let k = from_in r in (one_if ty a.0 k.0, omega (arith, e, a.1, k.1))
from_in (if_else_in {body = body} {otherwise = otherwise} ty inner other r) =
    let e = depth_if ty body otherwise in let a = from_in inner in let b = from_in other in let k = from_in r in (one_if_else ty a.0 b.0 k.0, omega (arith, e, a.1, b.1, k.1))

-- ---- whole bodies

module _ (many : Bool) where
  pub body_found : (bytes : List ℕ) (is : List Instr) → IsBytes bytes → body_at many bytes ≡ Ok is → SpellsBody many bytes is × (depth is ≤ limit Nesting)
  body_found bytes is small e =
      let b = body_sound many bytes is small e in
      let n = from_in b.1 in
      ((b.0, n.0, b.2), n.1)

  pub body_read : (bytes : List ℕ) (is : List Instr) → SpellsBody many bytes is → depth is ≤ limit Nesting → body_at many bytes ≡ Ok is
  body_read bytes is h k = body_complete many bytes is (h.0, to_in h.1 (limit Nesting) k, h.2)

  -- The encodings of bodies are prefix-free.
  pub body_prefix_free : (one other rest more : List ℕ) (is js : List Instr) → one ++ rest ≡ other ++ more → SpellsBody many one is → SpellsBody many other js → (is ≡ js) × (rest ≡ more)
  body_prefix_free one other rest more is js e h k =
      let d = depth is + depth js in
      let a = body_reads many d one rest is (h.0, to_in h.1 d (omega arith), h.2) in
      let b = body_reads many d other more js (k.0, to_in k.1 d (omega arith), k.2) in
      let p = ok_pair {E = Fault} (record { items = is; by_else = false }) (record { items = js; by_else = false }) rest more (sym a ∙ ap (λ z. sequence_at many (length z) d z) e ∙ b) in
      (ap (λ (s : Sequence). s.items) p.0, p.1)

pub body_ends : (many : Bool) (text more : List ℕ) (is js : List Instr) → SpellsBody many text is → SpellsBody many (text ++ more) js → (more ≡ []) × (is ≡ js)
body_ends many text more is js h k = let c = body_prefix_free many text (text ++ more) more [] is js (sym (append-nil (text ++ more))) h k in (c.1, c.0)

-- ---- memory 0

module _ (Q : Instr → Type 0) where
  -- Each plain token has the property.
  Plains : List Token → Type 0
  Plains [] = Unit {0}
  Plains (Plain i ∷ ts) = Q i × Plains ts
  Plains (Open k ty ∷ ts) = Plains ts
  Plains (Else ∷ ts) = Plains ts
  Plains (End ∷ ts) = Plains ts

  plains_left : (a b : List Token) → Plains (a ++ b) → Plains a
  unfolding Plains
  plains_left [] b h = tt
  plains_left (Plain i ∷ a) b h = (h.0, plains_left a b h.1)
  plains_left (Open k ty ∷ a) b h = plains_left a b h
  plains_left (Else ∷ a) b h = plains_left a b h
  plains_left (End ∷ a) b h = plains_left a b h

  plains_right : (a b : List Token) → Plains (a ++ b) → Plains b
  unfolding Plains
  plains_right [] b h = h
  plains_right (Plain i ∷ a) b h = plains_right a b h.1
  plains_right (Open k ty ∷ a) b h = plains_right a b h
  plains_right (Else ∷ a) b h = plains_right a b h
  plains_right (End ∷ a) b h = plains_right a b h

  plains_of : (many : Bool) → ((text : List ℕ) (i : Instr) → SpellsToken many text (Plain i) → Q i) → (ts : List Token) (bytes : List ℕ) → Each (SpellsToken many) bytes ts → Plains ts
  unfolding Plains
  plains_of many each [] bytes h = tt
  plains_of many each (Plain i ∷ ts) bytes h = (each h.0 i h.2, plains_of many each ts h.1 h.3)
  plains_of many each (Open k ty ∷ ts) bytes h = plains_of many each ts h.1 h.3
  plains_of many each (Else ∷ ts) bytes h = plains_of many each ts h.1 h.3
  plains_of many each (End ∷ ts) bytes h = plains_of many each ts h.1 h.3

-- A block type names no memory.
no_memory : (ty : BlockType) → list_all is_memory_zero (block_operands ty) ≡ true
no_memory block.Empty = refl
no_memory (block.Value t) = refl
no_memory (block.Index ty) = refl

Zero : Instr → Type 0
Zero i = memory_zero i ≡ true

module _ (blocks : BlockPasses) (loops : LoopPasses) (ifs : IfPasses) where
  zero_block : (ty : BlockType) (body : List Instr) → memory_zero (Block ty body) ≡ memory_zero_all body
  zero_block ty body = blocks is_memory_zero ty body ∙ ap (λ b. b && memory_zero_all body) (no_memory ty)

  zero_loop : (ty : BlockType) (body : List Instr) → memory_zero (Loop ty body) ≡ memory_zero_all body
  zero_loop ty body = loops is_memory_zero ty body ∙ ap (λ b. b && memory_zero_all body) (no_memory ty)

  zero_if : (ty : BlockType) (body other : List Instr) → memory_zero (If ty body other) ≡ memory_zero_all body && memory_zero_all other
  zero_if ty body other = ifs is_memory_zero ty body other ∙ ap (λ b. b && (memory_zero_all body && memory_zero_all other)) (no_memory ty)

  zero_nests : {ts : List Token} {is : List Instr} → Nests ts is → Plains Zero ts → memory_zero_all is ≡ true
  unfolding Plains Zero
  zero_nests no_more h = refl
  zero_nests (one_plain {is = is} i r) h = and_from (memory_zero i) (memory_zero_all is) h.0 (zero_nests r h.1)
  zero_nests (one_block {inner = inner} {ts = ts} {body = body} {is = is} ty a r) h =
      and_from (memory_zero (Block ty body)) (memory_zero_all is) (zero_block ty body ∙ zero_nests a (plains_left Zero inner (End ∷ ts) h)) (zero_nests r (plains_right Zero inner (End ∷ ts) h))
  zero_nests (one_loop {inner = inner} {ts = ts} {body = body} {is = is} ty a r) h =
      and_from (memory_zero (Loop ty body)) (memory_zero_all is) (zero_loop ty body ∙ zero_nests a (plains_left Zero inner (End ∷ ts) h)) (zero_nests r (plains_right Zero inner (End ∷ ts) h))
  zero_nests (one_if {inner = inner} {ts = ts} {body = body} {is = is} ty a r) h =
      and_from (memory_zero (If ty body [])) (memory_zero_all is) (zero_if ty body [] ∙ and_from (memory_zero_all body) true (zero_nests a (plains_left Zero inner (End ∷ ts) h)) refl) (zero_nests r (plains_right Zero inner (End ∷ ts) h))
  zero_nests (one_if_else {inner = inner} {other = other} {ts = ts} {body = body} {otherwise = otherwise} {is = is} ty a b r) h =
      let rest = plains_right Zero inner (Else ∷ (other ++ End ∷ ts)) h in
      and_from (memory_zero (If ty body otherwise)) (memory_zero_all is)
      (zero_if ty body otherwise ∙ and_from (memory_zero_all body) (memory_zero_all otherwise) (zero_nests a (plains_left Zero inner (Else ∷ (other ++ End ∷ ts)) h)) (zero_nests b (plains_left Zero other (End ∷ ts) rest)))
      (zero_nests r (plains_right Zero other (End ∷ ts) rest))

  pub body_zero : (bytes : List ℕ) (is : List Instr) → SpellsBody false bytes is → memory_zero_all is ≡ true
  unfolding Zero
  body_zero bytes is h = zero_nests h.1 (plains_left Zero h.0 (End ∷ []) (plains_of Zero false (λ text i k. of_token false Zero zero_memory text i k) (h.0 ++ End ∷ []) bytes h.2))
