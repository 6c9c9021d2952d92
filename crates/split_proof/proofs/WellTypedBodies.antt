-- Well-typed bodies stay well typed where calls of some functions are replaced by other code and
-- then all indices are renumbered.
use Rattle.base_lists.proofs.Common.{◌≡◌, subst, refl, ℕ, List, [], ◌∷◌, Bool, true, false, Some, slice_get, slice_index, length, list_any, and_then_is, replicate_at, the_one}
use Rattle.base_lists.proofs.Bools.{left_false, right_false}
use Rattle.base_lists.specs.Members.{is_among}
use Rattle.base_lists.specs.Every.{Every}
use Rattle.base_kept.proofs.Marks.{named_within}
use Rattle.wasm_tree_spec.specs.Prelude.{Operand, Space, Types, Functions, Tables, Memories, Globals, ElementSegments, DataSegments, FuncType, Instr, Call, Func, Module, ListLayers, any_operand_passes, operands, AnyInside, PassesInside, PassesLayerByLayer, funcs_of}
use Rattle.wasm_valid_bodies.specs.Typing.{Context, WellTyped}
use Rattle.wasm_valid.specs.Prelude.{refs_of, table_types, body_context}
use Rattle.index_remap.specs.declared.remap.Remap.{Remap}
use Rattle.index_remap.specs.Prelude.{OperandAgrees, labelled, renumbered_all, CodesHaveTypes, OthersAgree, is_opaque_call}
use Rattle.index_remap.specs.Laws.{TypingIsKept}
use Rattle.index_remap.proofs.UnreplacedCode.{all_follow}
use Rattle.index_remap_proof.specs.ButForReferences.{any_named}
use Rattle.index_remap_proof.specs.Indices.{Indices}
use Rattle.index_remap_proof.specs.Trees.{TreesAgree}
use Rattle.split_spec.specs.Prelude.{with_calls}
use Rattle.split_proof.specs.RenumberedCalls.{CallsAreReplaced, renumbered_codes}
use Rattle.split_proof.proofs.OperandTests.{Met, all_wanted}

-- The laws that the lemmas of this file assume.
pub record BodyLaws : Type 0 where
  pub inside : PassesInside
  pub any : AnyInside
  pub layers : PassesLayerByLayer
  pub typed : TypingIsKept
  pub replaced : CallsAreReplaced

-- A remap that fits two modules: each index of the set agrees with its entry.
module _ (r : Remap) (kept : Indices) (m u : Module) (agree : TreesAgree r kept m u) (f : Func) (t : FuncType) where
  pub entry_agrees : (space : Space) (called : Bool) (i : ℕ) → kept space i ≡ true → OperandAgrees r (body_context m f t) (any_named (body_context u f t)) space called i
  entry_agrees Types called = agree.types
  entry_agrees Functions true = agree.funcs
  entry_agrees Functions false = λ i h e. replicate_at true (length (funcs_of u)) (slice_index r.funcs i) (agree.func_space i h (named_within (refs_of m) 0 (length (funcs_of m)) i true e))
  entry_agrees Tables called = agree.tables
  entry_agrees Memories called = agree.memories
  entry_agrees Globals called = agree.globals
  entry_agrees ElementSegments called = agree.elems
  entry_agrees DataSegments called = agree.datas

module _ (laws : BodyLaws) (r : Remap) (m u : Module) (listed : List ℕ) (code : ℕ → List Instr) where
  -- The code that replaces a call of a function on the list has the type of the call.
  abbrev pub CodeIsTyped : Type 0
  CodeIsTyped =
      (f ty : ℕ) (t : FuncType) → is_among listed f ≡ true → slice_get (funcs_of m) f ≡ Some ty → slice_get m.types ty ≡ Some t →
      (d : Context) → d.types ≡ u.types → d.funcs ≡ funcs_of u → d.tables ≡ table_types u → WellTyped d (renumbered_all r (code f)) t.params t.results

  module _ (f : Func) (t : FuncType) (met : Operand → Bool) where
    abbrev old : Context
    old = body_context m f t

    abbrev new : Context
    new = any_named (body_context u f t)

    -- Each operand that passes the test agrees with its entry, except in a call of a function on
    -- the list.
    abbrev pub MetAgrees : Type 0
    MetAgrees = (o : Operand) → met o ≡ true → is_opaque_call listed o ≡ false → OperandAgrees r old new o.space o.called o.index

    each_agrees : MetAgrees → (os : List Operand) → Every (λ o. met o ≡ true) os → list_any (is_opaque_call listed) os ≡ false → Every (λ o. OperandAgrees r old new o.space o.called o.index) os
    each_agrees agrees [] h e = tt
    each_agrees agrees (o ∷ os) h e =
        (agrees o h.0 (left_false (is_opaque_call listed o) (list_any (is_opaque_call listed) os) e), each_agrees agrees os h.1 (right_false (is_opaque_call listed o) (list_any (is_opaque_call listed) os) e))

    others_agree : MetAgrees → (is : List Instr) → Met met (λ test. any_operand_passes test is) → ListLayers (OthersAgree r listed old new) is
    others_agree agrees is all =
        all_follow (λ l. Every (λ o. met o ≡ true) (operands l)) (OthersAgree r listed old new) (λ l. each_agrees agrees (operands l)) is ((laws.layers met is).0 (all_wanted laws.inside laws.any met is all))

    codes_typed : CodeIsTyped → CodesHaveTypes listed (renumbered_codes r code) old new
    codes_typed typed labels func js among has ft is =
        let ty = and_then_is (slice_get (funcs_of m) func) (slice_get m.types) ft is in
        subst (λ z. WellTyped (labelled new labels) z ft.params ft.results) (the_one (renumbered_all r (code func)) js has) (typed func ty.0 ft among ty.1 ty.2 (labelled new labels) refl refl refl)

    pub body_typed : CodeIsTyped → MetAgrees → ((func : ℕ) → is_among listed func ≡ false → code func ≡ Call func ∷ []) → Met met (λ test. any_operand_passes test f.body) → WellTyped old f.body [] t.results →
        WellTyped new (renumbered_all r (with_calls code f.body)) [] t.results
    body_typed typed agrees others all w =
        laws.typed r listed (renumbered_codes r code) old new f.body (renumbered_all r (with_calls code f.body)) [] t.results (record { locals = refl; results = refl; labels = refl }) (others_agree agrees f.body all) (codes_typed typed)
        (laws.replaced old.types r listed code others old.labels f.body) w
