-- Texts split at their first space.
use Rattle.std.specs.Prelude.{◌≡◌, ◌≢◌, ◌<◌, ℕ, suc, List, [], ◌∷◌, ◌++◌, Bool, true, false, ◌||◌, ◌==◌, length, refl, Option, Some, None, MatchOption}
use Rattle.std.specs.Borrow.{Bor}
use Rattle.std.specs.List.{list_any}
use Rattle.std.proofs.Common.{ap, sym, ◌∙◌, inl, inr, arith, get_or, true≢false, eq-eqb, eqb-true}
use Rattle.std.proofs.lemmas.Bool.{ne_eqb}
use Rattle.std.proofs.lemmas.Str.Pattern.{IsSplitOnceResult, split_parts}
use Rattle.scenario.specs.declared.line.Verb.{Verb}
use Rattle.scenario.specs.declared.line.Verb.TheVariants as verb
use Rattle.scenario.specs.Lines.{AreTwo, BeginsWith, HasNoSpace, IsSkipped, verb_text}
use Rattle.scenario.specs.Parts.{IsSplit}

first_of : (a b : ℕ) (xs ys : List ℕ) → a ∷ xs ≡ b ∷ ys → (a ≡ b) × (xs ≡ ys)
first_of a b xs ys e = (cc e, cc e)

any_first : (x : ℕ) (xs : List ℕ) → x ≡ 32 → list_any (λ d. d == 32) (x ∷ xs) ≡ true
any_first x xs e = ap (λ b. b || list_any (λ d. d == 32) xs) (eq-eqb x 32 e)

any_rest : (a b : Bool) → a || b ≡ false → b ≡ false
any_rest true b h = absurd (true≢false h)
any_rest false b h = h

any_later : (a b : Bool) → b ≡ true → a || b ≡ true
any_later true b h = refl
any_later false b h = h

both_false : (a b : Bool) → a ≡ false → b ≡ false → a || b ≡ false
both_false true b p q = p
both_false false b p q = q

-- a text has one split
pub one_split : (xs ys us vs : List ℕ) → HasNoSpace xs → HasNoSpace us → xs ++ (32 ∷ ys) ≡ us ++ (32 ∷ vs) → (xs ≡ us) × (ys ≡ vs)
one_split [] ys [] vs p q e = (refl, (first_of 32 32 ys vs e).1)
one_split [] ys (u ∷ us) vs p q e = absurd (true≢false (sym (any_first u us (sym (first_of 32 u ys (us ++ (32 ∷ vs)) e).0)) ∙ q))
one_split (x ∷ xs) ys [] vs p q e = absurd (true≢false (sym (any_first x xs (first_of x 32 (xs ++ (32 ∷ ys)) vs e).0) ∙ p))
one_split (x ∷ xs) ys (u ∷ us) vs p q e =
    let heads = first_of x u (xs ++ (32 ∷ ys)) (us ++ (32 ∷ vs)) e in
    let rest = one_split xs ys us vs (any_rest (x == 32) (list_any (λ d. d == 32) xs) p) (any_rest (u == 32) (list_any (λ d. d == 32) us) q) heads.1 in
    let first = heads.0 in
    let more = rest.0 in (cc (first, more), rest.1)

holds_space : (xs ys : List ℕ) → list_any (λ d. d == 32) (xs ++ (32 ∷ ys)) ≡ true
holds_space [] ys = any_first 32 ys refl
holds_space (x ∷ xs) ys = any_later (x == 32) (list_any (λ d. d == 32) (xs ++ (32 ∷ ys))) (holds_space xs ys)

-- a text without a space has no split
pub no_split : (text xs ys : List ℕ) → HasNoSpace text → text ≡ xs ++ (32 ∷ ys) → ⊥
no_split text xs ys p e = true≢false (sym (holds_space xs ys) ∙ sym (ap (list_any (λ d. d == 32)) e) ∙ p)

pub verb_solid : (v : Verb) → HasNoSpace (verb_text v)
verb_solid verb.Click = refl
verb_solid verb.Input = refl
verb_solid verb.Event = refl
verb_solid verb.Tick = refl

pub solid_more : (x : ℕ) (xs : List ℕ) → x ≢ 32 → HasNoSpace xs → HasNoSpace (x ∷ xs)
solid_more x xs other h = both_false (x == 32) (list_any (λ d. d == 32) xs) (ne_eqb x 32 other) h

-- no byte is a space
pub all_solid : (xs : List ℕ) → ((i : ℕ) → i < length xs → get_or xs i 0 ≢ 32) → HasNoSpace xs
all_solid [] h = refl
all_solid (x ∷ xs) h = solid_more x xs (h 0 (omega arith)) (all_solid xs (λ i below. h (suc i) (omega arith)))

split_is : (s : List ℕ) (r : Option (Bor (List ℕ) × Bor (List ℕ))) → MatchOption r ((i : ℕ) → i < length s → get_or s i 0 ≢ 32) (λ x. (s ≡ x.0.now ++ (32 ∷ x.1.now)) × ((i : ℕ) → i < length x.0.now → get_or x.0.now i 0 ≢ 32))
    → MatchOption r (HasNoSpace s) (λ x. IsSplit s x.0.now x.1.now)
split_is s None h = all_solid s h
split_is s (Some x) h = (all_solid x.0.now h.1, h.0)

-- what `split_once` at a space gives
pub split_told : (s : List ℕ) (r : Option (Bor (List ℕ) × Bor (List ℕ))) → IsSplitOnceResult 32 s r → MatchOption r (HasNoSpace s) (λ x. IsSplit s x.0.now x.1.now)
split_told s r h = split_is s r (split_parts 32 s r h (omega arith))

-- ---- empty texts

pub some_byte : (b : ℕ) (bs : List ℕ) → b ∷ bs ≢ []
some_byte b bs e = let h : length (b ∷ bs) ≡ 0 = ap length e in omega (arith, h)

-- a line that begins with another byte than `#` isn't skipped
pub kept_line : (b : ℕ) (bs : List ℕ) → b ≢ 35 → IsSkipped (b ∷ bs) → ⊥
kept_line b bs other s = elim s [
  | inl e ↦ some_byte b bs e
  | inr m ↦ other (first_of b 35 bs m.0 m.1).0
]

pub empty_list : (s : List ℕ) (b : Bool) → b ≡ (length s == 0) → b ≡ true → s ≡ []
empty_list [] b e t = refl
empty_list (x ∷ xs) b e t = let h : length (x ∷ xs) ≡ 0 = eqb-true (length (x ∷ xs)) 0 (sym e ∙ t) in absurd (omega arith)

pub some_list : (s : List ℕ) (b : Bool) → b ≡ (length s == 0) → b ≡ false → s ≢ []
some_list s b e f h = true≢false (sym (ap (λ (t : List ℕ). length t == 0) h) ∙ sym e ∙ f)

-- ---- two fields

pub no_two : (rest first second : List ℕ) → HasNoSpace rest → AreTwo rest first second → ⊥
no_two rest first second p two = no_split rest first second p two.spelled

pub one_two : (rest a b c d : List ℕ) → AreTwo rest a b → AreTwo rest c d → (a ≡ c) × (b ≡ d)
one_two rest a b c d p q = one_split a b c d p.solid q.solid (sym p.spelled ∙ q.spelled)

pub two_of_split : (rest first second : List ℕ) → IsSplit rest first second → first ≢ [] → AreTwo rest first second
two_of_split rest first second s some = record { some = some; solid = s.0; spelled = s.1 }

pub split_of_two : (rest a b first second : List ℕ) → IsSplit rest a b → AreTwo rest first second → (a ≡ first) × (b ≡ second)
split_of_two rest a b first second s two = one_split a b first second s.0 two.solid (sym s.1 ∙ two.spelled)

-- a line whose first word is no verb begins with none
pub no_verb : (line word rest : List ℕ) → IsSplit line word rest → ((v : Verb) → word ≡ verb_text v → ⊥) → (v : Verb) → BeginsWith v line → ⊥
no_verb line word rest s none v b = elim b [
  | inl e ↦ no_split (verb_text v) word rest (verb_solid v) (sym e ∙ s.1)
  | inr r ↦ none v (one_split word rest (verb_text v) r.0 s.0 (verb_solid v) (sym s.1 ∙ r.1)).0
]
