-- The first place from a place on, by the rest of the text.
use Rattle.std.specs.Prelude.{◌≡◌, ℕ, suc, ◌+◌, ◌<◌, ◌≤◌, ℤ, List, length, drop, Some, None}
use Rattle.std.proofs.Common.{sym, ap, ◌∙◌}
use Rattle.js_semantics.specs.Texts.{clamped, first_place}
use Rattle.js_primitive_functions.specs.Splits.{SplitsAtFirst}
use Rattle.js_primitive_functions.proofs.FirstPlaces.{found_from, past_end}

-- the place to begin at, where one more than the count is spelled in another way
start_same : (s t : List ℕ) (z : ℤ) (start end : ℕ) → end ≡ suc (length t) → start ≡ clamped z end → first_place s start 0 t ≡ first_place s (clamped z (suc (length t))) 0 t
start_same s t z start end e same = ap (λ (k : ℕ). first_place s k 0 t) (same ∙ ap (clamped z) e)

pub none_from_past : (s t : List ℕ) (z : ℤ) (start end : ℕ) → end ≡ suc (length t) → start ≡ clamped z end → length t < start → None ≡ first_place s (clamped z (suc (length t))) 0 t
none_from_past s t z start end e same over = sym (past_end s t start over) ∙ start_same s t z start end e same

pub none_from : (s t w rest : List ℕ) (z : ℤ) (start end : ℕ) → end ≡ suc (length t) → start ≡ clamped z end → start ≤ length t → rest ≡ drop start t → w ≡ s → first_place w 0 0 rest ≡ None → None ≡ first_place s (clamped z (suc (length t))) 0 t
none_from s t w rest z start end e same within left ws none =
    let here : first_place s 0 0 (drop start t) ≡ None = ap (λ (xs : List ℕ). first_place s 0 0 xs) (sym left) ∙ (ap (λ (xs : List ℕ). first_place xs 0 0 rest) (sym ws) ∙ none) in
    sym (found_from s t start None within here) ∙ start_same s t z start end e same

pub some_from : (s t w rest before after : List ℕ) (z : ℤ) (start end n : ℕ) → end ≡ suc (length t) → start ≡ clamped z end → start ≤ length t → rest ≡ drop start t → w ≡ s → SplitsAtFirst rest w before after → n ≡ length before → Some (start + n) ≡ first_place s (clamped z (suc (length t))) 0 t
some_from s t w rest before after z start end n e same within left ws split count =
    let here : first_place s 0 0 (drop start t) ≡ Some (length before) = ap (λ (xs : List ℕ). first_place s 0 0 xs) (sym left) ∙ (ap (λ (xs : List ℕ). first_place xs 0 0 rest) (sym ws) ∙ split.first) in
    ap (λ (k : ℕ). Some (start + k)) count
    ∙ (sym (found_from s t start (Some (length before)) within here) ∙ start_same s t z start end e same)
