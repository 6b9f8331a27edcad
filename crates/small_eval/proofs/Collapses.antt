-- How a text is stripped and collapsed scalar by scalar.
use Rattle.std.proofs.Common.{◌≡◌, ◌∙◌, ap, sym, refl, subst, ℕ, ◌<◌, ◌≤◌, ◌+◌, Bool, true, false, List, [], ◌∷◌, ◌++◌, append_assoc, arith, encode_utf8_all, length, slice_index_or, take, Result, Ok, Err, IfOk, None}
use Prim.Native.Nat.{suc}
use Rattle.std.specs.List.{flat_map}
use Rattle.std.proofs.lemmas.List.{append-nil}
use Rattle.std.proofs.lemmas.List.Concat.{flat_map-append}
use Rattle.std.proofs.Math.Seq.{take-suc}
use Rattle.std.proofs.lemmas.List.{take_all}
use Rattle.dom_semantics.specs.Forest.{Forest, child_text, children_of, form_at, own_text}
use Rattle.std.proofs.lemmas.Str.{encodes-append, encodes_same}
use Rattle.dom_semantics.specs.Titles.{title_element, title_of}
use Rattle.dom_semantics.specs.Whitespace.{collapsed, is_white_space}
use Rattle.dom_semantics.specs.CollapseModel.{collapsed_from}
use Rattle.dom_semantics.proofs.Collapsing.{collapsed_from-words}
use Rattle.small_eval.specs.Words.{Reads, begun_by, kept}

-- one scalar
pub one_read : (begun gap : Bool) (c : ℕ) (rest : List ℕ) → collapsed_from begun gap (c ∷ rest) ≡ kept begun gap c ++ collapsed_from (begun_by begun c) (is_white_space c) rest
one_read begun gap c rest = by (is_white_space c) begun gap refl
  where
    by : (white begun gap : Bool) → is_white_space c ≡ white → collapsed_from begun gap (c ∷ rest) ≡ kept begun gap c ++ collapsed_from (begun_by begun c) (is_white_space c) rest
    by true begun gap e = rw e refl
    by false true true e = rw e refl
    by false true false e = rw e refl
    by false false gap e = rw e refl

-- a scalar more
pub reads_more : (begun gap b g : Bool) (text done : List ℕ) (c : ℕ) → Reads begun gap text b g done → Reads begun gap (text ++ c ∷ []) (begun_by b c) (is_white_space c) (done ++ kept b g c)
reads_more begun gap b g text done c h rest =
    ap (λ xs. collapsed_from begun gap xs) (append_assoc text (c ∷ []) rest) ∙ h (c ∷ rest) ∙ ap (λ xs. done ++ xs) (one_read b g c rest) ∙ sym (append_assoc done (kept b g c) (collapsed_from (begun_by b c) (is_white_space c) rest))

-- and the bytes of what is kept
pub bytes_more : (start bytes next done more : List ℕ) → bytes ≡ start ++ encode_utf8_all done → next ≡ bytes ++ encode_utf8_all more → next ≡ start ++ encode_utf8_all (done ++ more)
bytes_more start bytes next done more e f = f ∙ ap (λ xs. xs ++ encode_utf8_all more) e ∙ append_assoc start (encode_utf8_all done) (encode_utf8_all more) ∙ ap (λ xs. start ++ xs) (sym (encodes-append done more))

-- another text
pub reads_then : (begun gap b g b2 g2 : Bool) (text more done then : List ℕ) → Reads begun gap text b g done → Reads b g more b2 g2 then → Reads begun gap (text ++ more) b2 g2 (done ++ then)
reads_then begun gap b g b2 g2 text more done then h k rest =
    ap (λ xs. collapsed_from begun gap xs) (append_assoc text more rest) ∙ h (more ++ rest) ∙ ap (λ xs. done ++ xs) (k rest) ∙ sym (append_assoc done then (collapsed_from b2 g2 rest))

-- nothing was read yet
pub reads_none : (begun gap : Bool) → Reads begun gap [] begun gap []
reads_none begun gap rest = refl

-- at the end
pub reads_end : (b g : Bool) (text done : List ℕ) → Reads false false text b g done → done ≡ collapsed_from false false text
reads_end b g text done h = sym (append-nil done) ∙ sym (h []) ∙ ap (λ xs. collapsed_from false false xs) (append-nil text)

-- the text of a child more
pub texts_more : (f : Forest) (children : List ℕ) (at d : ℕ) → at < length children
    → flat_map (λ child. own_text (form_at f child)) (take (at + 1) children) ≡ flat_map (λ child. own_text (form_at f child)) (take at children) ++ own_text (form_at f (slice_index_or children at d))
texts_more f children at d h =
    let more : at + 1 ≡ suc at = omega arith in
    let g : ℕ → List ℕ = λ child. own_text (form_at f child) in
    ap (λ k. flat_map g (take k children)) more ∙ ap (flat_map g) (take-suc children at d h) ∙ flat_map-append g (take at children) (slice_index_or children at d ∷ []) ∙ ap (λ xs. flat_map g (take at children) ++ xs) (append-nil (g (slice_index_or children at d)))

pub texts_all : (f : Forest) (children : List ℕ) (at : ℕ) → length children ≤ at → flat_map (λ child. own_text (form_at f child)) (take at children) ≡ flat_map (λ child. own_text (form_at f child)) children
texts_all f children at h = ap (flat_map (λ child. own_text (form_at f child))) (take_all at children h)

-- the text of such bytes
pub text_same : {E : Type 0} (r : Result (List ℕ) E) (bytes want : List ℕ) → IfOk r (λ t. encode_utf8_all t ≡ bytes) → bytes ≡ encode_utf8_all want → IfOk r (λ t. t ≡ want)
text_same (Ok t) bytes want e f = encodes_same t want (e ∙ f)
text_same (Err x) bytes want e f = tt

pub untitled : (f : Forest) → title_element f ≡ None → [] ≡ encode_utf8_all (title_of f)
untitled f e = rw e refl

-- what is kept of one more child
pub child_more : (f : Forest) (children : List ℕ) (at d : ℕ) (b g b2 g2 : Bool) (done then : List ℕ) → at < length children → Reads false false (flat_map (λ child. own_text (form_at f child)) (take at children)) b g done
    → Reads b g (own_text (form_at f (slice_index_or children at d))) b2 g2 then → Reads false false (flat_map (λ child. own_text (form_at f child)) (take (at + 1) children)) b2 g2 (done ++ then)
child_more f children at d b g b2 g2 done then h r s =
    let P : List ℕ → Type 0 = λ text. Reads false false text b2 g2 (done ++ then) in
    subst P (sym (texts_more f children at d h)) (reads_then false false b g b2 g2 (flat_map (λ child. own_text (form_at f child)) (take at children)) (own_text (form_at f (slice_index_or children at d))) done then r s)

-- all children were read
pub children_read : (f : Forest) (n : ℕ) (children : List ℕ) (at : ℕ) (b g : Bool) (done bytes : List ℕ) → children ≡ children_of f n → length children ≤ at → bytes ≡ encode_utf8_all done
    → Reads false false (flat_map (λ child. own_text (form_at f child)) (take at children)) b g done → bytes ≡ encode_utf8_all (collapsed (child_text f n))
children_read f n children at b g done bytes e h same r =
    let g1 : ℕ → List ℕ = λ child. own_text (form_at f child) in
    same ∙ ap encode_utf8_all (reads_end b g (flat_map g1 (take at children)) done r ∙ ap (λ xs. collapsed_from false false xs) (texts_all f children at h ∙ ap (flat_map g1) e) ∙ collapsed_from-words (child_text f n))
