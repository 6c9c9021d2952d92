use Rattle.base_lists.proofs.Common.{◌≡◌, ◌||◌, [], ◌∷◌, ◌++◌, Ok, Err, refl, sym, ap, ◌∙◌, arith, append-nil, or-false}
use Rattle.std.proofs.Math.Seq.{drop-append_seam, take-append_seam}
use Rattle.std.proofs.lemmas.List.{append_assoc}
use Rattle.wasm_tree_spec.specs.Prelude.{uses_data_in}
use Rattle.wasm_read_spec.specs.declared.token.Sequence.{Sequence}
use Rattle.wasm_read_spec.specs.Prelude.{ReadResult, sequence_at, behind}
use Rattle.wasm_read_spec.proofs.Loops.{fails_through}
use Rattle.base_lists.proofs.Each.{any_more}
use Rattle.wasm_read_items.proofs.BlockSteps.{behind_fails, block_none, block_some, seq_err, seq_open_err, plain_step, open_step}
use Rattle.wasm_read_items.proofs.Piles.{told_plain, told_open, told_open_fails, uses_in_block, uses_in_loop, uses_in_if, uses_in_if_alone}
use Rattle.wasm_read_items.proofs.body.+read.Goals as goal

pub read_block-returns-then-deeper-eq0-clause-reads : goal.read_block-returns-then-deeper-eq0-clause-reads
read_block-returns-then-deeper-eq0-clause-reads t c = λ fuel enough. block_none (sequence_at c.args.many fuel) c.args.deeper c.args.opener c.args.ty c.args.cursor.now (omega arith)

pub read_block-returns-in_err-first-clause-reads : goal.read_block-returns-in_err-first-clause-reads
read_block-returns-in_err-first-clause-reads t c = λ fuel enough.
    let gone : c.from_residual.result ≡ Err c.in_err-first.field-0.0 = grind arith in
    rw (gone, block_some (sequence_at c.args.many fuel) c.args.deeper c.args.opener c.args.ty c.args.cursor.now (omega arith))
    (fails_through c.in_err-first.field-0.0 _ _ (c.in_err-first.ensures.reads fuel enough))

pub read_block-returns-in_err-other-in-If-clause-reads : goal.read_block-returns-in_err-other-in-If-clause-reads
read_block-returns-in_err-other-in-If-clause-reads t c = λ fuel enough.
    let gone : c.from_residual-in_err-other-in-If.result ≡ Err c.in_err-other-in-If.field-0.0 = grind arith in
    rw (gone, block_some (sequence_at c.args.many fuel) c.args.deeper c.args.opener c.args.ty c.args.cursor.now (omega arith), c.in_ok-first.ensures.reads fuel enough, c.in-If.is, c.if-first.true)
    (fails_through c.in_err-other-in-If.field-0.0 _ _ (c.in_err-other-in-If.ensures.reads fuel (omega (arith, c.in_ok-first.ensures.shorter))))

pub read_block-returns-then-other-clause-reads : goal.read_block-returns-then-other-clause-reads
read_block-returns-then-other-clause-reads t c = λ fuel enough.
    rw (block_some (sequence_at c.args.many fuel) c.args.deeper c.args.opener c.args.ty c.args.cursor.now (omega arith), c.in_ok-first.ensures.reads fuel enough, c.in-If.is, c.if-first.true, c.in_ok-other-in-If.ensures.reads fuel (omega (arith, c.in_ok-first.ensures.shorter)), c.if-other.true)

pub read_block-returns-then-first-clause-reads : goal.read_block-returns-then-first-clause-reads
read_block-returns-then-first-clause-reads t c = λ fuel enough.
    rw (block_some (sequence_at c.args.many fuel) c.args.deeper c.args.opener c.args.ty c.args.cursor.now (omega arith), c.in_ok-first.ensures.reads fuel enough, c.in-If.is, c.if-first.true, c.in_ok-other-in-If.ensures.reads fuel (omega (arith, c.in_ok-first.ensures.shorter)), c.if-other.false)

pub read_block-returns-then-first-2-clause-reads : goal.read_block-returns-then-first-2-clause-reads
read_block-returns-then-first-2-clause-reads t c = λ fuel enough.
    rw (block_some (sequence_at c.args.many fuel) c.args.deeper c.args.opener c.args.ty c.args.cursor.now (omega arith), c.in_ok-first.ensures.reads fuel enough, c.in-Block.is, c.if-first-2.true)

pub read_block-returns-then-first-3-clause-reads : goal.read_block-returns-then-first-3-clause-reads
read_block-returns-then-first-3-clause-reads t c = λ fuel enough.
    rw (block_some (sequence_at c.args.many fuel) c.args.deeper c.args.opener c.args.ty c.args.cursor.now (omega arith), c.in_ok-first.ensures.reads fuel enough, c.in-Loop.is, c.if-first-3.true)

pub read_block-returns-else-first-clause-reads : goal.read_block-returns-else-first-clause-reads
read_block-returns-else-first-clause-reads t c = λ fuel enough.
    rw (block_some (sequence_at c.args.many fuel) c.args.deeper c.args.opener c.args.ty c.args.cursor.now (omega arith), c.in_ok-first.ensures.reads fuel enough, c.in-If.is, c.if-first.false, c.new.ensures)

pub read_block-returns-else-first-2-clause-reads : goal.read_block-returns-else-first-2-clause-reads
read_block-returns-else-first-2-clause-reads t c = λ fuel enough.
    rw (block_some (sequence_at c.args.many fuel) c.args.deeper c.args.opener c.args.ty c.args.cursor.now (omega arith), c.in_ok-first.ensures.reads fuel enough, c.in-Block.is, c.if-first-2.false)

pub read_block-returns-else-first-3-clause-reads : goal.read_block-returns-else-first-3-clause-reads
read_block-returns-else-first-3-clause-reads t c = λ fuel enough.
    rw (block_some (sequence_at c.args.many fuel) c.args.deeper c.args.opener c.args.ty c.args.cursor.now (omega arith), c.in_ok-first.ensures.reads fuel enough, c.in-Loop.is, c.if-first-3.false)

pub read_block-returns-then-first-clause-uses : goal.read_block-returns-then-first-clause-uses
read_block-returns-then-first-clause-uses t c = uses_in_if c.operands_pass_layer_by_layer.ensures.any c.args.pile.now.uses_data _ c.args.ty _ c.in_ok-first.ensures.uses _ _ c.in_ok-other-in-If.ensures.uses

pub read_block-returns-else-first-clause-uses : goal.read_block-returns-else-first-clause-uses
read_block-returns-else-first-clause-uses t c = rw c.new.ensures (uses_in_if_alone c.operands_pass_layer_by_layer.ensures.any c.args.pile.now.uses_data _ c.args.ty _ c.in_ok-first.ensures.uses)

pub read_block-returns-else-first-2-clause-uses : goal.read_block-returns-else-first-2-clause-uses
read_block-returns-else-first-2-clause-uses t c = uses_in_block c.operands_pass_layer_by_layer.ensures.any c.args.pile.now.uses_data _ c.args.ty _ c.in_ok-first.ensures.uses

pub read_block-returns-else-first-3-clause-uses : goal.read_block-returns-else-first-3-clause-uses
read_block-returns-else-first-3-clause-uses t c = uses_in_loop c.operands_pass_layer_by_layer.ensures.any c.args.pile.now.uses_data _ c.args.ty _ c.in_ok-first.ensures.uses

pub read_sequence-tokens-init : goal.read_sequence-tokens-init
read_sequence-tokens-init t c = let none : (r : ReadResult Sequence) → r ≡ behind [] r = elim [ Ok r ↦ refl | Err e ↦ refl ] in ([], rw append-nil, c.len-start.ensures, (λ n enough. (n, enough, none _)), omega arith, sym (or-false _))

pub read_sequence-returns-in_err-read_token-clause-reads : goal.read_sequence-returns-in_err-read_token-clause-reads
read_sequence-returns-in_err-read_token-clause-reads t c = λ fuel enough.
    let gone : c.from_residual.result ≡ Err c.in_err-read_token.field-0.0 = grind arith in
    let so = c.tokens.invariant.3 fuel enough in
    rw (gone, so.2) (behind_fails c.in_err-read_token.field-0.0 c.tokens.invariant.0 _ (seq_err c.args.many c.args.deeper so.0 c.tokens.cursor c.in_err-read_token.field-0.0 so.1 c.in_err-read_token.ensures.gives))

pub read_sequence-returns-in-End-clause-reads : goal.read_sequence-returns-in-End-clause-reads
read_sequence-returns-in-End-clause-reads t c = λ fuel enough.
    let items = c.tokens.invariant.0 in
    let so = c.tokens.invariant.3 fuel enough in
    let token = rw c.in-End.is at c.in_ok-read_token.ensures.gives in
    let back : c.in_ok-split_off-in-End.field-0 ≡ items = c.in_ok-split_off-in-End.ensures.back ∙ rw (token.1, c.tokens.invariant.2, c.tokens.invariant.1) (drop-append_seam c.args.pile.now.instrs items) in
    let step = c.sequences_are_read_token_by_token.ensures c.args.many so.0 c.args.deeper c.tokens.cursor so.1 in
    so.2 ∙ rw (step.2, token.0, append-nil, back)

pub read_sequence-returns-in-End-clause-pile : goal.read_sequence-returns-in-End-clause-pile
read_sequence-returns-in-End-clause-pile t c =
    let token = rw c.in-End.is at c.in_ok-read_token.ensures.gives in
    c.in_ok-split_off-in-End.ensures.front ∙ rw (token.1, c.tokens.invariant.2, c.tokens.invariant.1) (take-append_seam c.args.pile.now.instrs c.tokens.invariant.0)

pub read_sequence-returns-in-End-clause-uses : goal.read_sequence-returns-in-End-clause-uses
read_sequence-returns-in-End-clause-uses t c =
    let items = c.tokens.invariant.0 in
    let token = rw c.in-End.is at c.in_ok-read_token.ensures.gives in
    let back : c.in_ok-split_off-in-End.field-0 ≡ items = c.in_ok-split_off-in-End.ensures.back ∙ rw (token.1, c.tokens.invariant.2, c.tokens.invariant.1) (drop-append_seam c.args.pile.now.instrs items) in
    c.in_ok-split_off-in-End.ensures.uses ∙ rw (token.1, back) c.tokens.invariant.5

pub read_sequence-returns-in-Else-clause-reads : goal.read_sequence-returns-in-Else-clause-reads
read_sequence-returns-in-Else-clause-reads t c = λ fuel enough.
    let items = c.tokens.invariant.0 in
    let so = c.tokens.invariant.3 fuel enough in
    let token = rw c.in-Else.is at c.in_ok-read_token.ensures.gives in
    let back : c.in_ok-split_off-in-Else.field-0 ≡ items = c.in_ok-split_off-in-Else.ensures.back ∙ rw (token.1, c.tokens.invariant.2, c.tokens.invariant.1) (drop-append_seam c.args.pile.now.instrs items) in
    let step = c.sequences_are_read_token_by_token.ensures c.args.many so.0 c.args.deeper c.tokens.cursor so.1 in
    so.2 ∙ rw (step.2, token.0, append-nil, back)

pub read_sequence-returns-in-Else-clause-pile : goal.read_sequence-returns-in-Else-clause-pile
read_sequence-returns-in-Else-clause-pile t c =
    let token = rw c.in-Else.is at c.in_ok-read_token.ensures.gives in
    c.in_ok-split_off-in-Else.ensures.front ∙ rw (token.1, c.tokens.invariant.2, c.tokens.invariant.1) (take-append_seam c.args.pile.now.instrs c.tokens.invariant.0)

pub read_sequence-returns-in-Else-clause-uses : goal.read_sequence-returns-in-Else-clause-uses
read_sequence-returns-in-Else-clause-uses t c =
    let items = c.tokens.invariant.0 in
    let token = rw c.in-Else.is at c.in_ok-read_token.ensures.gives in
    let back : c.in_ok-split_off-in-Else.field-0 ≡ items = c.in_ok-split_off-in-Else.ensures.back ∙ rw (token.1, c.tokens.invariant.2, c.tokens.invariant.1) (drop-append_seam c.args.pile.now.instrs items) in
    c.in_ok-split_off-in-Else.ensures.uses ∙ rw (token.1, back) c.tokens.invariant.5

pub read_sequence-tokens-preserved-in-Plain : goal.read_sequence-tokens-preserved-in-Plain
read_sequence-tokens-preserved-in-Plain t c =
    let items = c.tokens.invariant.0 in
    let token = told_plain c.tokens.pile c.read_token.new.pile c.read_token.new.cursor _ (rw c.in-Plain.is at c.in_ok-read_token.ensures.gives) in
    let i = token.0 in (
      items ++ i ∷ [],
      ap (λ p. p.instrs) token.2 ∙ ap (λ p. p ++ i ∷ []) c.tokens.invariant.1 ∙ append_assoc c.args.pile.now.instrs items (i ∷ []),
      c.tokens.invariant.2,
      (λ n enough.
          let so = c.tokens.invariant.3 n enough in
          let step = c.sequences_are_read_token_by_token.ensures c.args.many so.0 c.args.deeper c.tokens.cursor so.1 in
          (step.0, omega (arith, step.1, c.in_ok-read_token.ensures.shorter), so.2 ∙ plain_step c.args.many c.args.deeper step.0 items i c.tokens.cursor _ _ step.2 token.1)),
      omega (arith, c.tokens.invariant.4, c.in_ok-read_token.ensures.shorter),
      any_more uses_data_in c.args.pile.now.uses_data c.tokens.pile.uses_data _ items i c.tokens.invariant.5 (ap (λ p. p.uses_data) token.2),
    )

pub read_sequence-returns-in_err-ty-in-Open-clause-reads : goal.read_sequence-returns-in_err-ty-in-Open-clause-reads
read_sequence-returns-in_err-ty-in-Open-clause-reads t c = λ fuel enough.
    let e = c.in_err-ty-in-Open.field-0.0 in
    let gone : c.from_residual-in_err-ty-in-Open.result ≡ Err c.in_err-ty-in-Open.field-0.0 = grind arith in
    let so = c.tokens.invariant.3 fuel enough in
    let told = rw c.in-Open.is at c.in_ok-read_token.ensures.gives in
    rw (gone, so.2) (behind_fails e c.tokens.invariant.0 _ (seq_err c.args.many c.args.deeper so.0 c.tokens.cursor e so.1 (told_open_fails c.in-Open.opener e _ _ told.0 c.in_err-ty-in-Open.ensures.gives)))

pub read_sequence-returns-in_err-block-in-Open-clause-reads : goal.read_sequence-returns-in_err-block-in-Open-clause-reads
read_sequence-returns-in_err-block-in-Open-clause-reads t c = λ fuel enough.
    let e = c.in_err-block-in-Open.field-0.0 in
    let gone : c.from_residual-in_err-block-in-Open.result ≡ Err c.in_err-block-in-Open.field-0.0 = grind arith in
    let so = c.tokens.invariant.3 fuel enough in
    let told = rw c.in-Open.is at c.in_ok-read_token.ensures.gives in
    let token = told_open c.in-Open.opener c.in_ok-ty-in-Open.ty _ _ _ told.0 c.in_ok-ty-in-Open.ensures.gives in
    rw (gone, so.2) (behind_fails e c.tokens.invariant.0 _ (seq_open_err c.args.many c.args.deeper so.0 c.tokens.cursor _ c.in-Open.opener c.in_ok-ty-in-Open.ty e so.1 token (omega (arith, c.in_ok-read_token.ensures.shorter, c.in_ok-ty-in-Open.ensures.shorter)) c.in_err-block-in-Open.ensures.reads))

pub read_sequence-tokens-preserved : goal.read_sequence-tokens-preserved
read_sequence-tokens-preserved t c =
    let items = c.tokens.invariant.0 in
    let told = rw c.in-Open.is at c.in_ok-read_token.ensures.gives in
    let token = told_open c.in-Open.opener c.in_ok-ty-in-Open.ty _ _ _ told.0 c.in_ok-ty-in-Open.ensures.gives in
    let i = c.in_ok-block-in-Open.block in (
      items ++ i ∷ [],
      c.in_ok-keep-in-Open.ensures.ok ∙ ap (λ p. p ++ i ∷ []) (c.in_ok-block-in-Open.ensures.pile ∙ ap (λ p. p.instrs) told.1 ∙ c.tokens.invariant.1) ∙ append_assoc c.args.pile.now.instrs items (i ∷ []),
      c.tokens.invariant.2,
      (λ n enough.
          let so = c.tokens.invariant.3 n enough in
          let step = c.sequences_are_read_token_by_token.ensures c.args.many so.0 c.args.deeper c.tokens.cursor so.1 in
          let block = c.in_ok-block-in-Open.ensures.reads step.0 (omega (arith, step.1, c.in_ok-read_token.ensures.shorter, c.in_ok-ty-in-Open.ensures.shorter)) in
          (step.0, omega (arith, step.1, c.in_ok-read_token.ensures.shorter, c.in_ok-ty-in-Open.ensures.shorter, c.in_ok-block-in-Open.ensures.shorter), so.2 ∙ open_step c.args.many c.args.deeper step.0 items i c.tokens.cursor _ _ step.2 c.in-Open.opener c.in_ok-ty-in-Open.ty _ token block)),
      omega (arith, c.tokens.invariant.4, c.in_ok-read_token.ensures.shorter, c.in_ok-ty-in-Open.ensures.shorter, c.in_ok-block-in-Open.ensures.shorter),
      any_more uses_data_in c.args.pile.now.uses_data c.tokens.pile.uses_data _ items i c.tokens.invariant.5 (c.in_ok-block-in-Open.ensures.uses ∙ ap (λ p. p.uses_data || uses_data_in i) told.1),
    )
