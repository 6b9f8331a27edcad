-- What single tests of an element come to.
use Rattle.std.proofs.Common.{◌≡◌, Bool, true, false, ap, sym, ◌∙◌}
use Rattle.std.specs.Prelude.{◌||◌, Some, None, codes, encode_utf8_all}
use Rattle.std.specs.Option.{option_map_or}
use Rattle.std.specs.Str.{bytes_eq, chars}
use Rattle.dom_semantics.specs.Forest.{Form, Tagged, attribute_in}
use Rattle.dom_semantics.specs.SelectorNames.{Scalars, is_same_name}
use Rattle.dom_semantics.specs.SelectorFits.{Attributes, has_id, has_word, has_class}
use Rattle.dom_semantics.specs.Queries.{is_of_tag}
use Rattle.dom_query.proofs.Letters.{id_name, class_name, star_name}
use Rattle.dom_query.proofs.Words.{has_word-encodes}

pub has_id-some : (id value : Scalars) (attributes : Attributes) → Some value ≡ attribute_in (chars (codes "id")) attributes → bytes_eq value id ≡ has_id id attributes
has_id-some id value attributes e = ap (λ o. option_map_or (λ v. bytes_eq v id) o false) (e ∙ ap (λ n. attribute_in n attributes) id_name)

pub has_id-none : (id : Scalars) (attributes : Attributes) → None ≡ attribute_in (chars (codes "id")) attributes → false ≡ has_id id attributes
has_id-none id attributes e = ap (λ o. option_map_or (λ v. bytes_eq v id) o false) (e ∙ ap (λ n. attribute_in n attributes) id_name)

pub has_class-some : (r : Bool) (name value x y : Scalars) (attributes : Attributes) → x ≡ encode_utf8_all name → y ≡ encode_utf8_all value → r ≡ has_word x y
    → Some value ≡ attribute_in (chars (codes "class")) attributes → r ≡ has_class name attributes
has_class-some r name value x y attributes ex ey is e =
    is ∙ (ap (λ w. has_word w y) ex ∙ (ap (has_word (encode_utf8_all name)) ey ∙ (has_word-encodes name value
    ∙ ap (λ o. option_map_or (λ v. has_word name v) o false) (e ∙ ap (λ n. attribute_in n attributes) class_name))))

pub has_class-none : (name : Scalars) (attributes : Attributes) → None ≡ attribute_in (chars (codes "class")) attributes → false ≡ has_class name attributes
has_class-none name attributes e = ap (λ o. option_map_or (λ v. has_word name v) o false) (e ∙ ap (λ n. attribute_in n attributes) class_name)

pub of_tag-star : (r : Bool) (tag name : Scalars) (form : Form) → Tagged name ≡ form → r ≡ bytes_eq tag (chars (codes "*")) → r ≡ true → r ≡ is_of_tag tag form
of_tag-star r tag name form is e h =
    let star : bytes_eq tag (codes "*") ≡ true = ap (bytes_eq tag) (sym star_name) ∙ (sym e ∙ h) in
    h ∙ (ap (λ b. b || is_same_name tag name) (sym star) ∙ ap (is_of_tag tag) is)

pub of_tag-name : (r q : Bool) (tag name : Scalars) (form : Form) → Tagged name ≡ form → r ≡ bytes_eq tag (chars (codes "*")) → r ≡ false → q ≡ is_same_name tag name → q ≡ is_of_tag tag form
of_tag-name r q tag name form is e h same =
    let star : bytes_eq tag (codes "*") ≡ false = ap (bytes_eq tag) (sym star_name) ∙ (sym e ∙ h) in
    same ∙ (ap (λ b. b || is_same_name tag name) (sym star) ∙ ap (is_of_tag tag) is)
