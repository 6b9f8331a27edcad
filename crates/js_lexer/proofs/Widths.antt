-- How many bytes the parts of a text take.
use Rattle.std.proofs.Common.{◌≡◌, ℕ, ◌+◌, ◌<◌, List, [], ◌∷◌, length, take, get_or, ap, ◌∙◌, arith}
use Rattle.std.proofs.Math.Utf8.{encode}
use Rattle.std.proofs.lemmas.List.{take_more, append-nil}
use Rattle.base_text.specs.Scalars.{utf8_len}
use Rattle.base_text.proofs.Utf8.{utf8_len-append}

pub utf8_len-one : (c : ℕ) → utf8_len (c ∷ []) ≡ length (encode c)
utf8_len-one c = ap length (append-nil (encode c))

pub utf8_len-more : (t : List ℕ) (i d w : ℕ) → i < length t → d ≡ get_or t i d → w ≡ length (encode d) → utf8_len (take i t) + w ≡ utf8_len (take (i + 1) t)
utf8_len-more t i d w below is len =
    let split = ap utf8_len (take_more t i d below) ∙ utf8_len-append (take i t) (get_or t i d ∷ []) in
    let one = utf8_len-one (get_or t i d) in
    let same = ap (λ x. length (encode x)) is in
    omega arith
