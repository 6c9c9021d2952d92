-- The content that is found is that of the first custom section named `name`, after its name.
use Rattle.base_lists.proofs.Common.{◌≡◌, ℕ, ◌+◌, ◌<◌, ◌≤◌, length, drop, get_or, drop-cons, add-one, List, [], ◌∷◌, ◌++◌, Option, Some, None, Result, Ok, Err, true, false, ⊎_elim, refl, sym, ap, ◌∙◌, subst, eqb-true, drop_all, bytes_eq-Decides, Bor, ◌==◌, is_some, bytes_eq, cond_is}
use Rattle.base_lists.specs.Every.{Every}
use Rattle.std.specs.Option.{option_or}
use Rattle.wasm_bytes.specs.Prelude.{Section, framed, framed_all, Takes, Named, IsBytes}
use Rattle.wasm_bytes.specs.declared.framing.Frame.{Frame as Place}
use Rattle.wasm_read_spec.specs.declared.fault.Fault.{Fault}
use Rattle.wasm_read_spec.specs.Prelude.{name_at}
use Rattle.wasm_read_spec.specs.Contents.{AreBytes}
use Rattle.wasm_names.specs.NameList.{IsNameSection, IsCalledOtherwise, section_name}
use Rattle.wasm_names.specs.Reading.{lent_option, behind_name, content_of_names, first_content}
use Rattle.wasm_names.proofs.NameMaps.{ReadsExactly}

named_sound : ReadsExactly → (bytes rest : List ℕ) (r : Result (List ℕ × List ℕ) Fault) → IsBytes bytes → name_at bytes ≡ r → behind_name r ≡ Some rest → Takes Named bytes section_name rest
named_sound reads bytes rest (Ok n) small e h = ⊎_elim
    (λ k.
    let text : n.0 ≡ section_name = (bytes_eq-Decides n.0 section_name).0 k.0 in
    let after : n.1 ≡ rest = (let same = k.1 in cc) in
    let t = (reads.names.sound bytes n.0 n.1 small e).0 in
    (t.0, subst (Named t.0) text t.1, t.2 ∙ ap (λ z. t.0 ++ z) after))
    (λ k. absurd (let none = k.1 in cc))
    (cond_is (bytes_eq n.0 section_name) _ _ _ h)
named_sound reads bytes rest (Err w) small e h = cc

pub content_sound : ReadsExactly → (s : Section) (rest : List ℕ) → IsBytes s.1 → content_of_names s ≡ Some rest → IsNameSection s rest
content_sound reads s rest small h = ⊎_elim
    (λ k. (eqb-true s.0 0 k.0, named_sound reads s.1 rest (name_at s.1) small refl k.1))
    (λ k. absurd (let none = k.1 in cc))
    (cond_is (s.0 == 0) _ _ _ h)

pub content_complete : ReadsExactly → (s : Section) (rest : List ℕ) → IsNameSection s rest → content_of_names s ≡ Some rest
content_complete reads s rest h =
    let same : bytes_eq section_name section_name ≡ true = (bytes_eq-Decides section_name section_name).1 refl in
    let t = h.1 in
    rw (h.0, t.2, reads.names.complete t.0 rest section_name t.1 tt) refl

content_none : ReadsExactly → (s : Section) → IsBytes s.1 → IsCalledOtherwise s → content_of_names s ≡ None
content_none reads s small never = split (content_of_names s) refl
  where
    split : (o : Option (List ℕ)) → content_of_names s ≡ o → content_of_names s ≡ None
    split None e = e
    split (Some rest) e = absurd (never rest (content_sound reads s rest small e))

-- The sections have a first custom section named `name`, and these bytes follow its name.
pub record HasFirst (ss : List Section) (rest : List ℕ) : Type 0 where
  pub before : List Section
  pub section : Section
  pub after : List Section
  pub all : ss ≡ before ++ section ∷ after
  pub first : Every IsCalledOtherwise before
  pub called : IsNameSection section rest

first_or_later : ReadsExactly → (s : Section) (ss : List Section) (rest : List ℕ) → IsBytes s.1 → (o : Option (List ℕ)) → content_of_names s ≡ o → (content_of_names s ≡ None → HasFirst ss rest) → option_or (content_of_names s) (first_content ss) ≡ Some rest → HasFirst (s ∷ ss) rest
first_or_later reads s ss rest small (Some found) e behind h =
    let same : found ≡ rest = (let k = rw e at h in cc) in
    record { before = []; section = s; after = ss; all = refl; first = tt; called = content_sound reads s rest small (e ∙ ap Some same) }
first_or_later reads s ss rest small None e behind h =
    let later = behind e in
    record {
      before = s ∷ later.before;
      section = later.section;
      after = later.after;
      all = ap (λ z. s ∷ z) later.all;
      first = (λ r k. (let bad = sym e ∙ content_complete reads s r k in cc), later.first);
      called = later.called;
    }

pub first_sound : ReadsExactly → (ss : List Section) (rest : List ℕ) → AreBytes ss → first_content ss ≡ Some rest → HasFirst ss rest
unfolding first_content
first_sound reads [] rest small h = cc
first_sound reads (s ∷ ss) rest small h = first_or_later reads s ss rest small.0 (content_of_names s) refl (λ e. first_sound reads ss rest small.1 (rw e at h)) h

pub first_complete : ReadsExactly → (before : List Section) (s : Section) (after : List Section) (rest : List ℕ) → AreBytes before → Every IsCalledOtherwise before → IsNameSection s rest → first_content (before ++ s ∷ after) ≡ Some rest
unfolding first_content
first_complete reads [] s after rest small never h = rw (content_complete reads s rest h) refl
first_complete reads (b ∷ before) s after rest small never h = rw (content_none reads b small.0 never.0) (first_complete reads before s after rest small.1 never.1 h)

-- ---- the loop over the frames

first_step : (bytes : List ℕ) (fs : List Place) (i : ℕ) (d : Place) → i < length fs → first_content (framed_all bytes (drop i fs)) ≡ option_or (content_of_names (framed bytes (get_or fs i d))) (first_content (framed_all bytes (drop (i + 1) fs)))
unfolding first_content
first_step bytes fs i d lt = rw (add-one, drop-cons fs i d) refl

pub first_end : (bytes : List ℕ) (fs : List Place) (i : ℕ) → length fs ≤ i → first_content (framed_all bytes (drop i fs)) ≡ None
unfolding first_content
first_end bytes fs i le = rw (drop_all i fs le) refl

-- A section named `name` ends the search, and any other section does not.
pub some_first : (bytes : List ℕ) (fs : List Place) (i : ℕ) (d : Place) (o : Option (Bor (List ℕ))) (whole : Option (List ℕ)) → i < length fs → lent_option o ≡ content_of_names (framed bytes (get_or fs i d)) → is_some o ≡ true →
    whole ≡ first_content (framed_all bytes (drop i fs)) → lent_option o ≡ whole
some_first bytes fs i d None whole lt found some h = cc
some_first bytes fs i d (Some x) whole lt found some h = sym (h ∙ first_step bytes fs i d lt ∙ rw (sym found) refl)

pub none_first : (bytes : List ℕ) (fs : List Place) (i : ℕ) (d : Place) (o : Option (Bor (List ℕ))) (whole : Option (List ℕ)) → i < length fs → lent_option o ≡ content_of_names (framed bytes (get_or fs i d)) → is_some o ≡ false →
    whole ≡ first_content (framed_all bytes (drop i fs)) → whole ≡ first_content (framed_all bytes (drop (i + 1) fs))
none_first bytes fs i d None whole lt found some h = h ∙ first_step bytes fs i d lt ∙ rw (sym found) refl
none_first bytes fs i d (Some x) whole lt found some h = cc
