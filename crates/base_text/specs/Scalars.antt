-- Words on a text, which contracts see as the list of its scalars.
use Rattle.std.specs.Prelude.{◌≡◌, ℕ, List, length, encode_utf8_all, refl, Some}
use Rattle.std.specs.Cmp.{on_total, IsPartialOrder, partial_order_from_agreeing_total}
use Rattle.std.specs.Cmp.Lexicographic.{slice_cmp, texts_ties, nat_list_cmp_total}
use Rattle.std.specs.declared.cmp.Ordering.{Ordering}
use Rattle.std.specs.Ordering.{nat_cmp, eq_by_cmp}
use Rattle.std.specs.Str.{bytes_eq}
use Rattle.std.proofs.Common.{ap, ◌∙◌}
use Rattle.std.proofs.lemmas.Bool.Decides.{same_from_decides}
use Rattle.std.proofs.lemmas.Slice.Eq.{bytes_eq-Decides}
use Rattle.std.proofs.lemmas.Str.{encodes_same}

-- how many bytes the scalars take in UTF-8 (Unicode Standard, 3.9)
abbrev pub utf8_len : List ℕ → ℕ
utf8_len t = length (encode_utf8_all t)

-- this project's own: texts are in the order of their bytes of UTF-8, as `str` is
abbrev pub text_cmp : List ℕ → List ℕ → Ordering
text_cmp x y = slice_cmp nat_cmp (encode_utf8_all x) (encode_utf8_all y)

-- two texts are equal just where their bytes are
pub bytes_eq-encoded : (x y : List ℕ) → bytes_eq x y ≡ bytes_eq (encode_utf8_all x) (encode_utf8_all y)
bytes_eq-encoded x y =
    let bytes = bytes_eq-Decides (encode_utf8_all x) (encode_utf8_all y) in
    same_from_decides (bytes_eq x y) (bytes_eq (encode_utf8_all x) (encode_utf8_all y)) (bytes_eq-Decides x y)
    (λ h. encodes_same x y (bytes.0 h), λ e. bytes.1 (ap encode_utf8_all e))

-- the order by bytes ties just where the texts are equal
pub text_ties : (x y : List ℕ) → bytes_eq x y ≡ eq_by_cmp text_cmp x y
text_ties x y = bytes_eq-encoded x y ∙ texts_ties (encode_utf8_all x) (encode_utf8_all y)

-- the order by bytes is a partial order, as `PartialOrd` wants it
pub text_order : IsPartialOrder bytes_eq (λ x y. Some (text_cmp x y))
text_order = partial_order_from_agreeing_total text_cmp (on_total encode_utf8_all nat_list_cmp_total) (λ x y. refl) text_ties
