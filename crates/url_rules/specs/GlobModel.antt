-- No claim rests on this file: what private clauses and proofs say of the loops over a row of flags.
use Rattle.std.specs.List.{list_any}
use Rattle.std.specs.Prelude.{drop, slice_index_or, ℕ, List, [], ◌∷◌, Bool, true, false, ◌&&◌, ◌||◌, ◌==◌, if◌then◌else◌}

abbrev pub is_nil : List ℕ → Bool
is_nil [] = true
is_nil (x ∷ xs) = false

-- some end of the text passes
abbrev pub some_end : (List ℕ → Bool) → List ℕ → Bool
some_end f [] = f []
some_end f (x ∷ xs) = f (x ∷ xs) || some_end f xs

-- the text begins with c, and the rest passes
abbrev pub after_one : ℕ → (List ℕ → Bool) → List ℕ → Bool
after_one c f [] = false
after_one c f (x ∷ xs) = x == c && f xs

abbrev pub fits_glob : List ℕ → List ℕ → Bool
fits_glob [] = is_nil
fits_glob (c ∷ pattern) = if c == 42 then some_end (fits_glob pattern) else after_one c (fits_glob pattern)

-- some flag is set from the place on
abbrev pub any_from : List Bool → ℕ → Bool
any_from row k = list_any (λ b. b) (drop k row)

-- the flag at the place
abbrev pub flag : List Bool → ℕ → Bool
flag row k = slice_index_or row k false
