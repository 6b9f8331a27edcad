-- What is added at an end, piece after piece.
use Rattle.std.proofs.Common.{◌≡◌, ◌∙◌, ap, List, ◌++◌, append_assoc}

-- two pieces, one after another
pub two_pieces : {A : Type 0} (old a b first second : List A) → first ≡ old ++ a → second ≡ first ++ b → second ≡ old ++ (a ++ b)
two_pieces old a b first second e f = f ∙ ap (λ xs. xs ++ b) e ∙ append_assoc old a b

-- three pieces, one after another
pub three_pieces : {A : Type 0} (old a b c first second third : List A) → first ≡ old ++ a → second ≡ first ++ b → third ≡ second ++ c → third ≡ old ++ (a ++ (b ++ c))
three_pieces old a b c first second third e f g =
    g ∙ ap (λ xs. xs ++ c) (f ∙ ap (λ xs. xs ++ b) e) ∙ append_assoc (old ++ a) b c ∙ append_assoc old a (b ++ c)

pub four_pieces : {A : Type 0} (old a b c d first second third fourth : List A) → first ≡ old ++ a → second ≡ first ++ b → third ≡ second ++ c → fourth ≡ third ++ d → fourth ≡ old ++ (a ++ (b ++ (c ++ d)))
four_pieces old a b c d first second third fourth e f g h = two_pieces old (a ++ (b ++ c)) d third fourth (three_pieces old a b c first second third e f g) h ∙ ap (λ xs. old ++ xs) (append_assoc a (b ++ c) d ∙ ap (λ xs. a ++ xs) (append_assoc b c d))

pub five_pieces : {A : Type 0} (old a b c d e first second third fourth fifth : List A) → first ≡ old ++ a → second ≡ first ++ b → third ≡ second ++ c → fourth ≡ third ++ d → fifth ≡ fourth ++ e
    → fifth ≡ old ++ (a ++ (b ++ (c ++ (d ++ e))))
five_pieces old a b c d e first second third fourth fifth p q r s t =
    two_pieces old (a ++ (b ++ (c ++ d))) e fourth fifth (four_pieces old a b c d first second third fourth p q r s) t
    ∙ ap (λ xs. old ++ xs) (append_assoc a (b ++ (c ++ d)) e ∙ ap (λ xs. a ++ xs) (append_assoc b (c ++ d) e ∙ ap (λ xs. b ++ xs) (append_assoc c d e)))
