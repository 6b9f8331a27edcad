-- Texts that are gathered one after another.
use Rattle.std.proofs.Common.{◌≡◌, ◌+◌, ◌<◌, ◌≤◌, ◌↔◌, ⊎_elim, ℕ, List, [], ◌∷◌, ◌++◌, length, get_or, drop, refl, ap, sym, ◌∙◌, arith, append_assoc, length-append}
use Rattle.std.specs.Prelude.{true, encode_utf8_all, Result, Ok, Err, IsErrOf, IfOk}
use Rattle.std.specs.List.{flat_map}
use Rattle.std.proofs.lemmas.List.{append-nil, at_drop_more}
use Rattle.std.proofs.lemmas.Str.{encodes-append, encodes_same}
use Rattle.base_text.specs.Scalars.{utf8_len}
use Rattle.base_text.specs.declared.text.TextFault.{TextFault}
use Rattle.base_text.specs.declared.text.TextFault.TheVariants.{TooLong}
use Rattle.base_text.specs.declared.text.TheConstants.{TEXT_LIMIT}
use Rattle.dom_semantics.specs.Forest.{Forest, Form, descendant_text, takes_children, text_in, Root, Tagged, Written, Noted}
use Rattle.dom_tree.specs.declared.form.NodeId.{NodeId}
use Rattle.dom_tree.specs.Folds.{MayFold, TryFolds}
use Rattle.dom_tree.specs.Ids.{node_id}
use Rattle.dom_tree.specs.Texts.{Gathers, FitsText}

pub flat_map-more : (F : ℕ → List ℕ) (xs : List ℕ) (i d : ℕ) → i < length xs → flat_map F (drop i xs) ≡ F (get_or xs i d) ++ flat_map F (drop (i + 1) xs)
flat_map-more F xs i d lt = at_drop_more (flat_map F) xs i d lt

length-encoded : (a b : List ℕ) → utf8_len (a ++ b) ≡ utf8_len a + utf8_len b
length-encoded a b = ap length (encodes-append a b) ∙ length-append (encode_utf8_all a) (encode_utf8_all b)

-- one text after another
gathers-append : {S : Type 0} (bytes : S → List ℕ) (t u : S) (r : Result S TextFault) (a b : List ℕ) → Gathers bytes t (Ok u) a → Gathers bytes u r b → Gathers bytes t r (a ++ b)
gathers-append bytes t u (Ok v) a b g h =
    record {
      ok = h.ok ∙ (ap (λ x. x ++ encode_utf8_all b) g.ok ∙ (append_assoc (bytes t) (encode_utf8_all a) (encode_utf8_all b) ∙ ap (λ x. bytes t ++ x) (sym (encodes-append a b))));
      within = h.within;
      too_long = λ e. absurd (cc);
    }
gathers-append bytes t u (Err e) a b g h =
    let long = ap length g.ok ∙ length-append (bytes t) (encode_utf8_all a) in
    let both = length-encoded a b in
    record { ok = tt; within = tt; too_long = λ is. let over = h.too_long is in omega arith }

-- a fault on a part is one on the whole
gathers-err : {S : Type 0} (bytes : S → List ℕ) (t : S) (e : TextFault) (a b : List ℕ) → Gathers bytes t (Err e) a → Gathers bytes t (Err e) (a ++ b)
gathers-err bytes t e a b g =
    let both = length-encoded a b in
    record { ok = tt; within = tt; too_long = λ is. let over = g.too_long is in omega arith }

gathers-none : {S : Type 0} (bytes : S → List ℕ) (t : S) → length (bytes t) ≤ TEXT_LIMIT → Gathers bytes t (Ok t) []
gathers-none bytes t short = record { ok = sym (append-nil (bytes t)); within = short; too_long = λ e. absurd (cc) }

-- each step adds the text of its node
abbrev pub AddsOwn : {S : Type 0} → (S → List ℕ) → (S → NodeId → Result S TextFault → Type 0) → Forest → (ℕ → List ℕ) → Type 0
AddsOwn {S} bytes post f own = (t : S) (n : ℕ) (r : Result S TextFault) → length (bytes t) ≤ TEXT_LIMIT → n < length f → post t (node_id n) r → Gathers bytes t r (own n)

-- a fold whose steps add texts gathers them all
pub gathers-folded : {S : Type 0} (bytes : S → List ℕ) (post : S → NodeId → Result S TextFault → Type 0) (f : Forest) (own : ℕ → List ℕ) (ns : List ℕ) (t : S) (r : Result S TextFault) → length (bytes t) ≤ TEXT_LIMIT → TryFolds post f t ns r
    → AddsOwn bytes post f own → Gathers bytes t r (flat_map own ns)
gathers-folded bytes post f own [] t r short h adds = rw h (gathers-none bytes t short)
gathers-folded bytes post f own (n ∷ ns) t r short h adds =
    ⊎_elim
    (λ (u, g, more). let here = adds t n (Ok u) short h.0 g in gathers-append bytes t u r (own n) (flat_map own ns) here (gathers-folded bytes post f own ns u r here.within more adds))
    (λ (e, g, is). rw is (gathers-err bytes t e (own n) (flat_map own ns) (adds t n (Err e) short h.0 g)))
    h.1

-- and may be made of any text that is short
pub may-gather : {S : Type 0} (bytes : S → List ℕ) (pre : S → NodeId → Type 0) (post : S → NodeId → Result S TextFault → Type 0) (f : Forest) (own : ℕ → List ℕ) (ns : List ℕ) (t : S) → length (bytes t) ≤ TEXT_LIMIT
    → ((u : S) (n : ℕ) → length (bytes u) ≤ TEXT_LIMIT → n < length f → pre u (node_id n)) → AddsOwn bytes post f own → MayFold pre post f t ns
may-gather bytes pre post f own [] t short may adds = tt
may-gather bytes pre post f own (n ∷ ns) t short may adds =
    (λ lt. may t n short lt, λ u lt g. may-gather bytes pre post f own ns u (adds t n (Ok u) short lt g).within may adds)

abbrev err_of : TextFault → Result (List ℕ) TextFault
err_of e = Err e

err_same : (a b : TextFault) → err_of a ≡ err_of b → a ≡ b
err_same a b e = cc

-- what is gathered from nothing fits a text
pub fits_err : {S : Type 0} (bytes : S → List ℕ) (t : S) (e : TextFault) (text : List ℕ) → bytes t ≡ [] → Gathers bytes t (Err e) text → FitsText (Err e) text
fits_err bytes t e text empty g =
    record { ok = tt; within = tt; too_long = λ is. let over = g.too_long (ap Err (err_same e TooLong is)) in let none = ap length empty in omega arith }

pub fits_ok : (bytes text : List ℕ) (r : Result (List ℕ) TextFault) → bytes ≡ encode_utf8_all text → length bytes ≤ TEXT_LIMIT → IfOk r (λ t. encode_utf8_all t ≡ bytes) → (IsErrOf r TooLong ↔ (TEXT_LIMIT < length bytes)) → FitsText r text
fits_ok bytes text (Ok t) is low ok long =
    record { ok = encodes_same t text (ok ∙ is); within = let l = ap length is in omega arith; too_long = λ e. absurd (cc) }
fits_ok bytes text (Err e) is low ok long =
    record { ok = tt; within = tt; too_long = λ e. let over = long.0 e in absurd (omega arith) }

-- the text in an element or the document is that of its descendants
pub text_in-holder : (form : Form) (f : Forest) (n : ℕ) → takes_children form ≡ true → descendant_text f n ≡ text_in form f n
text_in-holder Root f n h = refl
text_in-holder (Tagged tag) f n h = refl
text_in-holder (Written text) f n h = absurd (cc)
text_in-holder (Noted text) f n h = absurd (cc)
