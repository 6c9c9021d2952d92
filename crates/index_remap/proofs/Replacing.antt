-- Bodies stay well typed where code of the same type stands in place of calls of listed functions.
use Rattle.base_lists.proofs.Common.{◌≡◌, ℕ, Bool, true, false, ◌||◌, List, [], ◌∷◌, ◌++◌, reverse, Option, Some, None, refl, sym, ap, ◌∙◌, subst, option_and_then, slice_get, list_any, append_rel}
use Rattle.base_lists.specs.Members.{is_among}
use Rattle.wasm_tree_spec.specs.Prelude.{ValType, FuncType, BlockType, Instr, Row_of-Instr, end_of-Instr, more_of-Instr, Block, Block', Loop, Loop', If, If', Call, block_operands, Layers, RowLayers, ListLayers}
use Rattle.wasm_tree.specs.declared.types.BlockType.TheVariants as bt
use Rattle.wasm_tree.specs.declared.instr.Instr.{out-Instr}
use Rattle.wasm_tree.specs.declared.instr.Instr.TheBlock.{hidden-the_row-Instr-0}
use Rattle.wasm_tree.specs.declared.instr.Instr.TheViews.{outs-Block', outs-Loop', outs-If'}
use Rattle.wasm_valid_bodies.specs.Typing.{Stack, operands, AllMatch, Signature, signature_of, signature_in, Effect, Gives, Acts, gives_of, Context, LeadsToMatch, Fits, Leads, LeadsAll, WellTyped}
use Rattle.index_remap.specs.declared.remap.Remap.{Remap}
use Rattle.index_remap.specs.Prelude.{new_type, renumbered, OperandAgrees, LayerAgrees, SameFrame, labelled, Labels, Codes, CallReplaced, DenotesOne, RowReplaced, Replaced, is_opaque_call, OthersAgree, CodesHaveTypes}
use Rattle.base_lists.specs.Every.{Every}
use Rattle.index_remap.specs.Replaced.{block_label, loop_label}
use Rattle.index_remap.proofs.Instructions.{plain_kept, type_kept}
use Rattle.index_remap.proofs.PresentResults.{then_is}
use Rattle.index_remap.proofs.UnknownOperands.{Lower, lower_self, lower_on, lower_match, match_lower, fits_lower, leads_lower, leads_over, leads_on}

-- The type of a call is that of its function.
call_type : (o : Option FuncType) (e : Effect) → gives_of (signature_in o) ≡ Some e → (t : FuncType) × (o ≡ Some t) × (Gives t.params t.results ≡ e)
call_type None e h = cc
call_type (Some t) e h = (t, refl, cc)

-- Code of a type leads on from any stack that is lower than one on which the type acts.
code_leads : (c : Context) (code : List Instr) (ps rs : List ValType) (s t r : Stack) → WellTyped c code ps rs → Acts (Gives ps rs) s t → Lower r s → (u : Stack) × LeadsAll c code r u × Lower u t
code_leads c code ps rs s t r (last, l, a) (args, rest, e, h, g) k =
    let low : Lower r (operands ps ++ rest) = lower_on (subst (Lower r) e k) (append_rel (match_lower args (reverse ps) h) (lower_self rest)) in
    let (u, p, q) = leads_lower c code (operands ps ++ rest) (last ++ rest) r low (leads_over c code (operands ps) last rest l) in
    (u, p, subst (Lower u) (sym g) (lower_on q (append_rel (match_lower last (reverse rs) a) (lower_self rest))))

-- An instruction that fits a stack leads on from any lower stack.
one_leads : (c : Context) (i : Instr) (code : List Instr) (s t r : Stack) → code ≡ i ∷ [] → Fits c i s t → Lower r s → (u : Stack) × LeadsAll c code r u × Lower u t
one_leads c i code s t r e h k =
    let (u, f, l) = fits_lower c i s t r k h in
    (u, subst (λ z. LeadsAll c z r u) (sym e) (u, f, refl), l)

both_lead : (c : Context) (is js ks : List Instr) (s u t v : Stack) → ks ≡ is ++ js → LeadsAll c is s u → Lower v t → LeadsAll c js u v → (w : Stack) × LeadsAll c ks s w × Lower w t
both_lead c is js ks s u t v e h l k = (v, subst (λ z. LeadsAll c z s v) (sym e) (leads_on c is js s u v h k), l)

-- Code is well typed if it leads on to a stack that is lower than operands that match the results.
lower_ends : (c : Context) (js : List Instr) (last : Stack) (ps rs : List ValType) → AllMatch last (reverse rs) → (u : Stack) × LeadsAll c js (operands ps) u × Lower u last → WellTyped c js ps rs
lower_ends c js last ps rs a (u, l, k) = (u, l, lower_match (reverse rs) k a)

-- Code leads on as the contents of a block if it leads on as a list of instructions.
block_leads : (d : Context) (js : List Instr) (s t : Stack) → LeadsAll d js s t → Leads d (hidden-the_row-Instr-0 js) s t
unfolding hidden-the_row-Instr-0 denote.Hole.Carrier.hidden
block_leads d [] s t h = h
block_leads d (j ∷ js) s t (u, f, h) = (u, f, block_leads d js u t h)

-- Code in place of the contents of a block leads to its results if it leads on from every lower
-- stack.
row_ends : {n : _} (c d : Context) (is : Row_of-Instr n) (js : List Instr) (ps rs : List ValType) → ((s t r : Stack) → Leads c is s t → Lower r s → (u : Stack) × LeadsAll d js r u × Lower u t) →
    LeadsToMatch (Leads c is) ps rs → LeadsToMatch (Leads d (hidden-the_row-Instr-0 js)) ps rs
row_ends c d is js ps rs k (last, l, a) =
    let (u, h, b) = lower_ends d js last ps rs a (k (operands ps) last (operands ps) l (lower_self (operands ps))) in (u, block_leads d js (operands ps) u h, b)

-- The operands of a block's type call no function.
calls_none : (listed : List ℕ) (ty : BlockType) → list_any (is_opaque_call listed) (block_operands ty) ≡ false
calls_none listed bt.Empty = refl
calls_none listed (bt.Value t) = refl
calls_none listed (bt.Index i) = refl

module _ (m : Remap) (listed : List ℕ) (codes : Codes) (c d : Context) (locals : c.locals ≡ d.locals) (results : c.results ≡ d.results) (typed : CodesHaveTypes listed codes c d) where
  -- The contents of a block are replaced under the label that the type of the block gives.
  under_block : {n : _} (ls : Labels) (f : Signature) (ty : BlockType) → signature_of c.types ty ≡ Some f → (is : Row_of-Instr n) (js : List Instr) →
      RowReplaced c.types m listed codes (block_label (signature_of c.types ty) ∷ ls) is js → RowReplaced c.types m listed codes (f.results ∷ ls) is js
  under_block ls f ty g is js k = subst (λ o. RowReplaced c.types m listed codes (block_label o ∷ ls) is js) g k

  -- The code in place of a call leads on as the call does, whether or not its function is on the
  -- list.
  call_stands : (b : Bool) (ls : Labels) (f : ℕ) (code : List Instr) (s t r : Stack) → is_among listed f ≡ b → (b ≡ false → LayerAgrees m c d (out-Instr (Call f))) → CallReplaced m b codes ls f code →
      Fits (labelled c ls) (Call f) s t → Lower r s → (u : Stack) × LeadsAll (labelled d ls) code r u × Lower u t
  call_stands true ls f code s t r w q k h l =
      let (ty, e, g) = call_type (option_and_then (slice_get c.types) (slice_get c.funcs f)) h.0 h.1 in
      let has : WellTyped (labelled d ls) code ty.params ty.results = typed ls f code w k ty (sym (then_is (slice_get c.funcs f) (slice_get c.types)) ∙ e) in
      code_leads (labelled d ls) code ty.params ty.results s t r has (subst (λ z. Acts z s t) (sym g) h.2) l
  call_stands false ls f code s t r w q k h l =
      one_leads (labelled d ls) (renumbered m (Call f)) code s t r k (plain_kept m c d locals results ls (Call f) s t (q refl) h.0 h.1 h.2) l

  mutual
    unfolding out-Instr denote.Hole.Carrier.out

    stands : (ls : Labels) (i : Instr) (code : List Instr) (s t r : Stack) → Layers (OthersAgree m listed c d) i → DenotesOne c.types m listed codes ls i code → Fits (labelled c ls) i s t → Lower r s →
        (u : Stack) × LeadsAll (labelled d ls) code r u × Lower u t
    stands ls (Block' ty n body) code s t r q (b, k, e) (f, g, w, a) l =
        let here : Every (λ o. OperandAgrees m c d o.space o.called o.index) (block_operands ty) = subst (LayerAgrees m c d) (outs-Block' ty n body) (q.0 (calls_none listed ty)) in
        let inner = row_ends (labelled c (f.results ∷ ls)) (labelled d (f.results ∷ ls)) body b f.params f.results (λ s t r. row_leads (f.results ∷ ls) body b s t r q.1 (under_block ls f ty g body b k)) w in
        one_leads (labelled d ls) (Block (new_type m ty) b) code s t r e (f, type_kept m c d locals results ty here f g, inner, a) l
    stands ls (Loop' ty n body) code s t r q (b, k, e) (f, g, w, a) l =
        let here : Every (λ o. OperandAgrees m c d o.space o.called o.index) (block_operands ty) = subst (LayerAgrees m c d) (outs-Loop' ty n body) (q.0 (calls_none listed ty)) in
        let inner = row_ends (labelled c (f.params ∷ ls)) (labelled d (f.params ∷ ls)) body b f.params f.results (λ s t r. row_leads (f.params ∷ ls) body b s t r q.1 (subst (λ o. RowReplaced c.types m listed codes (loop_label o ∷ ls) body b) g k)) w in
        one_leads (labelled d ls) (Loop (new_type m ty) b) code s t r e (f, type_kept m c d locals results ty here f g, inner, a) l
    stands ls (If' ty n body j other) code s t r q (b, o, k, x, e) (f, g, w, y, a) l =
        let here : Every (λ o. OperandAgrees m c d o.space o.called o.index) (block_operands ty) = subst (LayerAgrees m c d) (outs-If' ty n body j other) (q.0 (calls_none listed ty)) in
        let first = row_ends (labelled c (f.results ∷ ls)) (labelled d (f.results ∷ ls)) body b f.params f.results (λ s t r. row_leads (f.results ∷ ls) body b s t r q.1 (under_block ls f ty g body b k)) w in
        let second = row_ends (labelled c (f.results ∷ ls)) (labelled d (f.results ∷ ls)) other o f.params f.results (λ s t r. row_leads (f.results ∷ ls) other o s t r q.2 (under_block ls f ty g other o x)) y in
        one_leads (labelled d ls) (If (new_type m ty) b o) code s t r e (f, type_kept m c d locals results ty here f g, first, second, a) l
    stands ls (Call f) code s t r q k h l = call_stands (is_among listed f) ls f code s t r refl (λ e. q (ap (λ b. b || false) e)) k h l
    stands ls i code s t r q k h l = one_leads (labelled d ls) (renumbered m i) code s t r k (plain_kept m c d locals results ls i s t (q refl) h.0 h.1 h.2) l

    row_leads : {n : _} (ls : Labels) (is : Row_of-Instr n) (js : List Instr) (s t r : Stack) → RowLayers (OthersAgree m listed c d) is → RowReplaced c.types m listed codes ls is js → Leads (labelled c ls) is s t → Lower r s →
        (u : Stack) × LeadsAll (labelled d ls) js r u × Lower u t
    row_leads ls end_of-Instr js s t r q k h l = (r, subst (λ z. LeadsAll (labelled d ls) z r r) (sym k) refl, subst (Lower r) h l)
    row_leads ls (more_of-Instr i is) js s t r q (code, rest, x, k, e) (v, f, h) l =
        let (u, p, low) = stands ls i code s v r q.0 x f l in
        let (w, g, y) = row_leads ls is rest v t u q.1 k h low in
        both_lead (labelled d ls) code rest js r u t w e p y g

  all_leads : (ls : Labels) (is js : List Instr) (s t r : Stack) → ListLayers (OthersAgree m listed c d) is → Replaced c.types m listed codes ls is js → LeadsAll (labelled c ls) is s t → Lower r s →
      (u : Stack) × LeadsAll (labelled d ls) js r u × Lower u t
  all_leads ls [] js s t r q k h l = (r, subst (λ z. LeadsAll (labelled d ls) z r r) (sym k) refl, subst (Lower r) h l)
  all_leads ls (i ∷ is) js s t r q (code, rest, x, k, e) (v, f, h) l =
      let (u, p, low) = stands ls i code s v r q.0 x f l in
      let (w, g, y) = all_leads ls is rest v t u q.1 k h low in
      both_lead (labelled d ls) code rest js r u t w e p y g

pub replaced_typed : (m : Remap) (listed : List ℕ) (codes : Codes) (c d : Context) (is js : List Instr) (ps rs : List ValType) → SameFrame c d → ListLayers (OthersAgree m listed c d) is → CodesHaveTypes listed codes c d →
    Replaced c.types m listed codes c.labels is js → WellTyped c is ps rs → WellTyped d js ps rs
replaced_typed m listed codes c d is js ps rs same q typed k (last, l, a) =
    let kept = all_leads m listed codes c d same.locals same.results typed c.labels is js (operands ps) last (operands ps) q k l (lower_self (operands ps)) in
    lower_ends d js last ps rs a (subst (λ ls. (u : Stack) × LeadsAll (labelled d ls) js (operands ps) u × Lower u last) same.labels kept)
