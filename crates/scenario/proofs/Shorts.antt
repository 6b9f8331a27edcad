-- A line is no longer than its text.
use Rattle.std.specs.Prelude.{◌≡◌, ◌≤◌, ◌+◌, ◌-◌, ℕ, zero, suc, List, [], ◌∷◌, Bool, true, false, ◌==◌, length, take, cond, if◌then◌else◌, slice_index, refl}
use Rattle.std.specs.Borrow.{Bor}
use Rattle.std.specs.List.{All, slice_split, onto_first}
use Rattle.std.specs.Str.Lines.{lines, lines_of_parts}
use Rattle.std.proofs.Common.{ap, sym, subst, arith}
use Rattle.std.proofs.lemmas.List.{length-take-le}
use Rattle.std.proofs.lemmas.List.Sums.{count_by-le-length}
use Rattle.std.proofs.lemmas.List.Splits.{length-slice_split}
use Rattle.scenario.specs.Parts.{texts}

-- each has at most n bytes
abbrev AreShort : ℕ → List (List ℕ) → Type 0
AreShort n [] = Unit {0}
AreShort n (x ∷ xs) = (length x ≤ n) × AreShort n xs

longer : (n m : ℕ) (xs : List (List ℕ)) → n ≤ m → AreShort n xs → AreShort m xs
longer n m [] le h = tt
longer n m (x ∷ xs) le h = (omega (arith, le, h.0), longer n m xs le h.1)

onto_short : (n x : ℕ) (xs : List (List ℕ)) → AreShort n xs → AreShort (suc n) (onto_first x xs)
onto_short n x [] h = (omega arith, tt)
onto_short n x (y ∷ ys) h = (omega (arith, h.0), longer n (suc n) ys (omega arith) h.1)

either : (b : Bool) (n : ℕ) (xs ys : List (List ℕ)) → AreShort n xs → AreShort n ys → AreShort n (cond b xs ys)
either true n xs ys p q = p
either false n xs ys p q = q

parts_short : (bs : List ℕ) → AreShort (length bs) (slice_split (λ b. b == 10) bs)
parts_short [] = (omega arith, tt)
parts_short (x ∷ xs) =
    let more = parts_short xs in
    either (x == 10) (suc (length xs)) ([] ∷ slice_split (λ b. b == 10) xs) (onto_first x (slice_split (λ b. b == 10) xs))
    (omega arith, longer (length xs) (suc (length xs)) (slice_split (λ b. b == 10) xs) (omega arith) more)
    (onto_short (length xs) x (slice_split (λ b. b == 10) xs) more)

strip_short : (n : ℕ) (b : Bool) (l : List ℕ) → length l ≤ n → length (if b then take (length l - 1) l else l) ≤ n
strip_short n true l h = let t : length (take (length l - 1) l) ≡ length l - 1 = length-take-le (length l - 1) l (omega arith) in omega (arith, h, t)
strip_short n false l h = h

last_short : (n : ℕ) (b : Bool) (x : List ℕ) → length x ≤ n → AreShort n (if b then [] else x ∷ [])
last_short n true x h = tt
last_short n false x h = (h, tt)

lines_short : (n : ℕ) (parts : List (List ℕ)) → AreShort n parts → AreShort n (lines_of_parts parts)
lines_short n [] h = tt
lines_short n (x ∷ []) h = last_short n (length x == 0) x h.0
lines_short n (x ∷ y ∷ more) h = (strip_short n (slice_index x (length x - 1) == 13) x h.0, lines_short n (y ∷ more) h.1)

all_short : (n : ℕ) (items : List (Bor (List ℕ))) → AreShort n (texts items) → All (λ line. length line.now ≤ n) items
all_short n [] h k d within = absurd (omega arith)
all_short n (x ∷ xs) h zero d within = h.0
all_short n (x ∷ xs) h (suc k) d within = all_short n xs h.1 k d (omega arith)

pub each_short : (items : List (Bor (List ℕ))) (s : List ℕ) → texts items ≡ lines s → All (λ line. length line.now ≤ length s) items
each_short items s e = all_short (length s) items (subst (AreShort (length s)) (sym e) (lines_short (length s) (slice_split (λ b. b == 10) s) (parts_short s)))

-- a text has at most one line more than it has bytes
fewer : (ps : List (List ℕ)) → length (lines_of_parts ps) ≤ length ps
fewer [] = omega arith
fewer (x ∷ []) = elim (length x == 0) as (λ b. length (if b then [] else x ∷ []) ≤ length (x ∷ [])) [ true ↦ omega arith | false ↦ omega arith ]
fewer (x ∷ y ∷ more) = omega (arith, fewer (y ∷ more))

pub few_lines : (bs : List ℕ) → length (lines bs) ≤ length bs + 1
few_lines bs =
    omega (arith, fewer (slice_split (λ b. b == 10) bs), length-slice_split (λ b. b == 10) bs, count_by-le-length (λ b. b == 10) bs)

pub texts-length : (xs : List (Bor (List ℕ))) → length (texts xs) ≡ length xs
texts-length [] = refl
texts-length (x ∷ xs) = ap suc (texts-length xs)
