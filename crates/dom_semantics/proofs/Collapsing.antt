-- A text read scalar by scalar is its words with one space between.
use Rattle.std.proofs.Common.{◌≡◌, ◌∙◌, ap, sym, refl, ℕ, Bool, true, false, List, [], ◌∷◌, ◌++◌}
use Rattle.std.specs.List.{filter, join_with_byte, onto_first, slice_split}
use Rattle.std.proofs.lemmas.List.{append-nil}
use Rattle.dom_semantics.specs.Whitespace.{collapsed, is_not_empty, is_white_space}
use Rattle.dom_semantics.specs.CollapseModel.{collapsed_from}

-- these words with one space between, and a space before the first
abbrev after_word : List (List ℕ) → List ℕ
after_word [] = []
after_word (w ∷ ws) = 32 ∷ join_with_byte 32 (w ∷ ws)

-- the first of these parts ends a word that was begun before, and the others are words of their own
abbrev in_word : List (List ℕ) → List ℕ
in_word [] = []
in_word (part ∷ parts) = part ++ after_word (filter is_not_empty parts)

-- a word and others, with one space between
join_word : (w : List ℕ) (ws : List (List ℕ)) → join_with_byte 32 (w ∷ ws) ≡ w ++ after_word ws
join_word w [] = sym (append-nil w)
join_word w (x ∷ ws) = refl

-- a scalar begins a word
begins_word : (c : ℕ) (parts : List (List ℕ)) → c ∷ in_word parts ≡ join_with_byte 32 (filter is_not_empty (onto_first c parts))
begins_word c [] = refl
begins_word c (part ∷ parts) = sym (join_word (c ∷ part) (filter is_not_empty parts))

begins_after : (c : ℕ) (parts : List (List ℕ)) → 32 ∷ (c ∷ in_word parts) ≡ after_word (filter is_not_empty (onto_first c parts))
begins_after c [] = refl
begins_after c (part ∷ parts) = ap (λ xs. 32 ∷ xs) (begins_word c (part ∷ parts))

-- a scalar is one more of a word that was begun
more_of_word : (c : ℕ) (parts : List (List ℕ)) → c ∷ in_word parts ≡ in_word (onto_first c parts)
more_of_word c [] = refl
more_of_word c (part ∷ parts) = refl

-- what is kept of a text before any word, after white space behind a word, and within a word
record Keeps (text : List ℕ) : Type 0 where
  before_words : (gap : Bool) → collapsed_from false gap text ≡ join_with_byte 32 (filter is_not_empty (slice_split is_white_space text))
  after_gap : collapsed_from true true text ≡ after_word (filter is_not_empty (slice_split is_white_space text))
  within : collapsed_from true false text ≡ in_word (slice_split is_white_space text)

keeps_white : (c : ℕ) (cs : List ℕ) → is_white_space c ≡ true → Keeps cs → Keeps (c ∷ cs)
keeps_white c cs e k = record {
  before_words = λ gap. rw e (k.before_words true);
  after_gap = rw e (k.after_gap);
  within = rw e (k.after_gap);
}

keeps_other : (c : ℕ) (cs : List ℕ) → is_white_space c ≡ false → Keeps cs → Keeps (c ∷ cs)
keeps_other c cs e k =
    let parts = slice_split is_white_space cs in
    let here : c ∷ collapsed_from true false cs ≡ c ∷ in_word parts = ap (λ xs. c ∷ xs) k.within in
    record {
      before_words = λ gap. rw e (here ∙ begins_word c parts);
      after_gap = rw e (ap (λ xs. 32 ∷ xs) here ∙ begins_after c parts);
      within = rw e (here ∙ more_of_word c parts);
    }

keeps : (text : List ℕ) → Keeps text
keeps [] = record { before_words = λ gap. refl; after_gap = refl; within = refl }
keeps (c ∷ cs) = by (is_white_space c) refl (keeps cs)
  where
    by : (white : Bool) → is_white_space c ≡ white → Keeps cs → Keeps (c ∷ cs)
    by true e k = keeps_white c cs e k
    by false e k = keeps_other c cs e k

pub collapsed_from-words : (text : List ℕ) → collapsed_from false false text ≡ collapsed text
collapsed_from-words text = (keeps text).before_words false
