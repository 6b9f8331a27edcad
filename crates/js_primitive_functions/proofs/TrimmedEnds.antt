-- White space at the ends of a text.
use Rattle.std.specs.Prelude.{◌≡◌, ℕ, true, false, List, [], ◌∷◌, ◌++◌, reverse}
use Rattle.std.proofs.Common.{sym, ap, ◌∙◌, cond}
use Rattle.std.proofs.lemmas.List.{reverse-append, reverse-reverse}
use Rattle.js_ops.specs.Numerals.{is_blank}
use Rattle.js_semantics.specs.Texts.{trimmed_front}

-- a blank at the front goes, and what isn't one stays
pub blank_first : (c : ℕ) (t cs : List ℕ) → t ≡ c ∷ cs → is_blank c ≡ true → trimmed_front t ≡ trimmed_front cs
blank_first c t cs e blank = ap trimmed_front e ∙ ap (λ b. cond b (trimmed_front cs) (c ∷ cs)) blank

pub solid_first : (c : ℕ) (t cs : List ℕ) → t ≡ c ∷ cs → is_blank c ≡ false → trimmed_front t ≡ t
solid_first c t cs e solid = ap trimmed_front e ∙ (ap (λ b. cond b (trimmed_front cs) (c ∷ cs)) solid ∙ sym e)

-- the same at the end
turned : (c : ℕ) (t cs : List ℕ) → t ≡ cs ++ c ∷ [] → reverse t ≡ c ∷ reverse cs
turned c t cs e = ap reverse e ∙ reverse-append cs (c ∷ [])

pub blank_last : (c : ℕ) (t cs : List ℕ) → t ≡ cs ++ c ∷ [] → is_blank c ≡ true → trimmed_front (reverse t) ≡ trimmed_front (reverse cs)
blank_last c t cs e blank = blank_first c (reverse t) (reverse cs) (turned c t cs e) blank

pub solid_last : (c : ℕ) (t cs : List ℕ) → t ≡ cs ++ c ∷ [] → is_blank c ≡ false → trimmed_front (reverse t) ≡ reverse t
solid_last c t cs e solid = solid_first c (reverse t) (reverse cs) (turned c t cs e) solid

-- what is left is what all comes to, where its front isn't blank, and where nothing is left
pub trimmed_first : (c : ℕ) (t cs all : List ℕ) → t ≡ c ∷ cs → is_blank c ≡ false → trimmed_front t ≡ trimmed_front all → t ≡ trimmed_front all
trimmed_first c t cs all e solid same = sym (solid_first c t cs e solid) ∙ same

pub trimmed_none : (t all : List ℕ) → t ≡ [] → trimmed_front t ≡ trimmed_front all → t ≡ trimmed_front all
trimmed_none t all e same = e ∙ (ap trimmed_front (sym e) ∙ same)

-- the same at the end
pub trimmed_last : (c : ℕ) (t cs all : List ℕ) → t ≡ cs ++ c ∷ [] → is_blank c ≡ false → trimmed_front (reverse t) ≡ trimmed_front (reverse all) → t ≡ reverse (trimmed_front (reverse all))
trimmed_last c t cs all e solid same = sym (reverse-reverse t) ∙ ap reverse (sym (solid_last c t cs e solid) ∙ same)

pub trimmed_whole : (t all : List ℕ) → t ≡ [] → trimmed_front (reverse t) ≡ trimmed_front (reverse all) → t ≡ reverse (trimmed_front (reverse all))
trimmed_whole t all e same = e ∙ ap reverse (ap (λ (xs : List ℕ). trimmed_front (reverse xs)) (sym e) ∙ same)
