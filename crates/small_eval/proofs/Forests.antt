-- How the title element is found, and what it tells.
use Rattle.std.proofs.Common.{◌≡◌, ◌∙◌, ap, sym, ⊎_elim, cond, ℕ, ◌<◌, Bool, true, false, List, [], ◌∷◌, arith, codes, length, Option, Some, encode_utf8_all}
use Rattle.std.specs.Str.{bytes_eq}
use Rattle.std.proofs.lemmas.Str.Ascii.{encodes-IsAscii, IsAscii-nil, IsAscii-cons}
use Rattle.base_text.specs.Scalars.{bytes_eq-encoded}
use Rattle.dom_semantics.specs.Forest.{Form, Forest, is_tagged}
use Rattle.dom_tree.specs.Forms.{form_of}
use Rattle.dom_tree.specs.Folds.{Finds}
use Rattle.dom_tree.specs.Ids.{node_id}
use Rattle.dom_tree.specs.declared.form.NodeId.{NodeId}
use Rattle.dom_tree.specs.declared.form.NodeForm.{NodeForm}
use Rattle.dom_tree.specs.declared.form.NodeForm.TheVariants.{Element}
use Rattle.dom_semantics.specs.Titles.{first_that}

title_ascii : encode_utf8_all (codes "title") ≡ codes "title"
title_ascii = encodes-IsAscii (codes "title") (IsAscii-cons 116 (codes "itle") (omega arith) (IsAscii-cons 105 (codes "tle") (omega arith) (IsAscii-cons 116 (codes "le") (omega arith) (IsAscii-cons 108 (codes "e") (omega arith) (IsAscii-cons 101 [] (omega arith) IsAscii-nil)))))

-- a tag is compared by its bytes
pub tag_told : (r : Bool) (bytes tag : List ℕ) (element : NodeForm) (form : Form) → r ≡ bytes_eq bytes (codes "title") → bytes ≡ encode_utf8_all tag → element ≡ Element tag → form_of element ≡ form → r ≡ is_tagged (codes "title") form
tag_told r bytes tag element form e b is f =
    e ∙ ap (λ bs. bytes_eq bs (codes "title")) b ∙ ap (λ bs. bytes_eq (encode_utf8_all tag) bs) (sym title_ascii) ∙ sym (bytes_eq-encoded tag (codes "title")) ∙ ap (λ (x : NodeForm). is_tagged (codes "title") (form_of x)) (sym is) ∙ ap (is_tagged (codes "title")) f

-- a test that is told at each node tells the first
pub first_found : (post : NodeId → Bool → Type 0) (f : Forest) (p : ℕ → Bool) (ns : List ℕ) (r : Option ℕ) → Finds post f ns r → ((n : ℕ) (b : Bool) → n < length f → post (node_id n) b → b ≡ p n) → r ≡ first_that p ns
first_found post f p [] r h tells = h
first_found post f p (n ∷ ns) r h tells =
    ⊎_elim
    (λ (g, is). is ∙ ap (λ b. cond b (Some n) (first_that p ns)) (tells n true h.0 g))
    (λ (g, more). first_found post f p ns r more tells ∙ ap (λ b. cond b (Some n) (first_that p ns)) (tells n false h.0 g))
    h.1
