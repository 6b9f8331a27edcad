-- The rows of flags.
use Rattle.std.specs.Prelude.{◌≡◌, ◌<◌, ◌≤◌, ◌+◌, ◌-◌, ℕ, suc, List, [], ◌∷◌, Bool, true, false, ◌&&◌, ◌||◌, ◌==◌, length, drop, refl, slice_index, if◌then◌else◌}
use Rattle.std.proofs.lemmas.Bool.{eqb-true, ltb-true, ltb-false}
use Rattle.std.proofs.Common.{nat_lt}
use Rattle.std.specs.List.{list_any}
use Rattle.std.proofs.Common.{ap, sym, ◌∙◌, subst, arith, get_or, set}
use Rattle.std.proofs.lemmas.List.{at_drop_more, at_drop_all, get_or-drop, drop-drop, length-drop, get_or-set_same, get_or-set_other}
use Rattle.url_rules.specs.GlobModel.{is_nil, some_end, after_one, fits_glob, flag, any_from}

either_false : (b : Bool) → b || false ≡ b
either_false true = refl
either_false false = refl

not_eqb : (a b : ℕ) → (a ≡ b → ⊥) → (a == b) ≡ false
not_eqb a b other = elim (a == b) as (λ t. (a == b) ≡ t → t ≡ false) [ true ↦ λ h. absurd (other (eqb-true a b h)) | false ↦ λ h. refl ] refl

-- flags that a test gives at each end of a text
pub any_end : (f : List ℕ → Bool) (t : List ℕ) (row : List Bool) → length row ≡ length t + 1 → ((j : ℕ) → j ≤ length t → flag row j ≡ f (drop j t)) → list_any (λ b. b) row ≡ some_end f t
any_end f t [] len is = absurd (omega arith)
any_end f [] (b ∷ []) len is = either_false b ∙ is 0 (omega arith)
any_end f [] (b ∷ c ∷ bs) len is = absurd (omega arith)
any_end f (x ∷ xs) (b ∷ bs) len is =
    ap (λ (t : Bool). t || list_any (λ b. b) bs) (is 0 (omega arith)) ∙ ap (λ (t : Bool). f (x ∷ xs) || t) (any_end f xs bs (omega arith) (λ j within. is (suc j) (omega arith)))

pub any_from_end : (f : List ℕ → Bool) (t : List ℕ) (row : List Bool) (k : ℕ) → length row ≡ length t + 1 → k ≤ length t → ((j : ℕ) → j ≤ length t → flag row j ≡ f (drop j t)) → any_from row k ≡ some_end f (drop k t)
any_from_end f t row k len within is =
    any_end f (drop k t) (drop k row) (omega (arith, length-drop k row, length-drop k t)) (λ j below. get_or-drop k row j false ∙ is (k + j) (omega (arith, length-drop k t)) ∙ ap f (sym (drop-drop j k t)))

one_back : (n : ℕ) → 0 < n → (n - 1) + 1 ≡ n
one_back n h = omega arith

-- ---- one more character of the pattern

pub front_char : (pattern : List ℕ) (n : ℕ) → 0 < n → n ≤ length pattern → fits_glob (drop (n - 1) pattern) ≡ fits_glob (get_or pattern (n - 1) 0 ∷ drop n pattern)
front_char pattern n some within = at_drop_more fits_glob pattern (n - 1) 0 (omega arith) ∙ ap (λ (k : ℕ). fits_glob (get_or pattern (n - 1) 0 ∷ drop k pattern)) (one_back n some)

pub star_step : (pattern t : List ℕ) (old new : List Bool) (n : ℕ) → 0 < n → n ≤ length pattern → get_or pattern (n - 1) 0 ≡ 42 → length old ≡ length t + 1
    → ((k : ℕ) → k ≤ length t → flag old k ≡ fits_glob (drop n pattern) (drop k t)) → ((k : ℕ) → k < length old → flag new k ≡ any_from old k)
    → (k : ℕ) → k ≤ length t → flag new k ≡ fits_glob (drop (n - 1) pattern) (drop k t)
star_step pattern t old new n some within star len was flags k below =
    flags k (omega arith) ∙ any_from_end (fits_glob (drop n pattern)) t old k len below was
    ∙ sym (ap (λ (f : List ℕ → Bool). f (drop k t)) (front_char pattern n some within) ∙ ap (λ (c : ℕ). fits_glob (c ∷ drop n pattern) (drop k t)) star)

char_at : (c : ℕ) (f : List ℕ → Bool) (t : List ℕ) (k : ℕ) → k < length t → after_one c f (drop k t) ≡ (get_or t k 0 == c && f (drop (k + 1) t))
char_at c f t k below = at_drop_more (after_one c f) t k 0 below

pub char_step : (pattern t : List ℕ) (old new : List Bool) (n : ℕ) → 0 < n → n ≤ length pattern → (get_or pattern (n - 1) 0 ≡ 42 → ⊥)
    → ((k : ℕ) → k ≤ length t → flag old k ≡ fits_glob (drop n pattern) (drop k t))
    → ((k : ℕ) → k < length t → flag new k ≡ (slice_index t k == get_or pattern (n - 1) 0 && flag old (k + 1))) → flag new (length t) ≡ false
    → (k : ℕ) → k ≤ length t → flag new k ≡ fits_glob (drop (n - 1) pattern) (drop k t)
char_step pattern t old new n some within plain was flags last k below =
    let c = get_or pattern (n - 1) 0 in
    let f = fits_glob (drop n pattern) in
    let no_star : (c == 42) ≡ false = not_eqb c 42 plain in
    let is : fits_glob (drop (n - 1) pattern) (drop k t) ≡ after_one c f (drop k t) =
    ap (λ (g : List ℕ → Bool). g (drop k t)) (front_char pattern n some within) ∙ ap (λ (b : Bool). (if b then some_end f else after_one c f) (drop k t)) no_star in
    elim (nat_lt k (length t)) as (λ b. nat_lt k (length t) ≡ b → flag new k ≡ fits_glob (drop (n - 1) pattern) (drop k t)) [
      | true ↦ λ h. let less : k < length t = ltb-true k (length t) h in flags k less ∙ ap (λ (b : Bool). slice_index t k == c && b) (was (k + 1) (omega arith)) ∙ sym (is ∙ char_at c f t k less)
      | false ↦ λ h. let end : k ≡ length t = omega (arith, ltb-false k (length t) h) in
          subst (λ (j : ℕ). flag new j ≡ false) (sym end) last ∙ sym (is ∙ at_drop_all (after_one c f) t k (omega arith))
    ] refl

-- at the pattern's end the text's end alone fits
pub end_row : (pattern t : List ℕ) (row : List Bool) → length row ≡ length t + 1 → ((k : ℕ) → flag row k ≡ false)
    → (k : ℕ) → k ≤ length t → flag (set row (length t) true) k ≡ fits_glob (drop (length pattern) pattern) (drop k t)
end_row pattern t row len none k below =
    let last : fits_glob (drop (length pattern) pattern) (drop k t) ≡ is_nil (drop k t) = ap (λ (f : List ℕ → Bool). f (drop k t)) (at_drop_all fits_glob pattern (length pattern) (omega arith)) in
    elim (nat_lt k (length t)) as (λ b. nat_lt k (length t) ≡ b → flag (set row (length t) true) k ≡ fits_glob (drop (length pattern) pattern) (drop k t)) [
      | true ↦ λ h. let less : k < length t = ltb-true k (length t) h in
          get_or-set_other row (length t) k true false (omega arith) ∙ none k ∙ sym (last ∙ at_drop_more is_nil t k 0 less)
      | false ↦ λ h. let end : k ≡ length t = omega (arith, ltb-false k (length t) h) in
          subst (λ (j : ℕ). flag (set row (length t) true) j ≡ true) (sym end) (get_or-set_same row (length t) true false (omega arith)) ∙ sym (last ∙ at_drop_all is_nil t k (omega arith))
    ] refl
