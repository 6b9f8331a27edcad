-- Texts of ASCII are their bytes.
use Rattle.std.proofs.Common.{◌≡◌, ◌∙◌, sym, ℕ, ◌<◌, Bool, ◌&&◌, not, nat_eq, List, [], ◌∷◌, IsTrue, nat_lt, arith, encode_utf8_all, refl}
use Rattle.small_forms.specs.declared.bytes.Class.{Class}
use Rattle.small_forms.specs.declared.bytes.Class.TheVariants.{Digit, Lower, Alphanumeric, Blank, AlphanumericOrBlank, Dot, RawText}
use Rattle.small_forms.specs.Bytes.{is_in, are_in}
use Rattle.small_forms.proofs.Runs.{both_true}
use Rattle.std.proofs.lemmas.Bool.Decides.{nat_tests}
use Rattle.std.proofs.lemmas.Str.{encodes_same}
use Rattle.std.proofs.lemmas.Str.Ascii.{encodes-IsAscii, IsAscii-nil, IsAscii-cons}
use Rattle.std.specs.Str.{IsAscii}
use Rattle.std.specs.List.{list_all}
use Rattle.std.specs.Char.{is_ascii}

ascii_head : (b : ℕ) (rest : Bool) → IsTrue (nat_lt b 128 && rest) → (b < 128) × IsTrue rest
ascii_head b rest h = grind (arith, nat_tests)

pub ascii-IsAscii : (bs : List ℕ) → IsTrue (list_all is_ascii bs) → IsAscii bs
ascii-IsAscii [] h = IsAscii-nil
ascii-IsAscii (b ∷ bs) h = let parts = ascii_head b (list_all is_ascii bs) h in IsAscii-cons b bs parts.0 (ascii-IsAscii bs parts.1)

-- the text of ASCII bytes has them as its scalars
pub ascii_text : (t bs : List ℕ) → encode_utf8_all t ≡ bs → IsTrue (list_all is_ascii bs) → t ≡ bs
ascii_text t bs e h = encodes_same t bs (e ∙ sym (encodes-IsAscii bs (ascii-IsAscii bs h)))

pub class_ascii : (class : Class) (b : ℕ) → IsTrue (is_in class b) → IsTrue (is_ascii b)
class_ascii Digit b h = grind (arith, nat_tests)
class_ascii Lower b h = grind (arith, nat_tests)
class_ascii Alphanumeric b h = grind (arith, nat_tests)
class_ascii Blank b h = grind (arith, nat_tests)
class_ascii AlphanumericOrBlank b h = grind (arith, nat_tests)
class_ascii Dot b h = grind (arith, nat_tests)
class_ascii RawText b h = (both_true (is_ascii b) (not (nat_eq b 60)) h).0

-- bytes of a class are ASCII
pub inside_ascii : (class : Class) (bs : List ℕ) → IsTrue (are_in class bs) → IsTrue (list_all is_ascii bs)
inside_ascii class [] h = refl
inside_ascii class (b ∷ bs) h = let parts = both_true (is_in class b) (are_in class bs) h in rw (class_ascii class b parts.0) (inside_ascii class bs parts.1)
