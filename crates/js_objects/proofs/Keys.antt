-- Which keys spell a place.
use Rattle.std.proofs.Common.{◌≡◌, ◌≢◌, ℕ, zero, suc, ◌+◌, ◌-◌, ◌*◌, ◌/◌, ◌%◌, ◌^◌, ◌<◌, ◌≤◌, List, [], ◌∷◌, ◌++◌, refl, sym, ap, subst, ◌∙◌, length, arith, inl, inr, ◌⊎◌, Option, Some, None, take, drop}
use Rattle.std.specs.Prelude.{slice_index_or, if◌then◌else◌, true, false, Bool, ◌==◌, ◌&&◌, nat_le}
use Rattle.std.specs.Fmt.{decimal}
use Rattle.std.proofs.lemmas.Fmt.{decimal_digit, decimal_step, length-decimal-le}
use Rattle.std.proofs.lemmas.Bool.{lt-leb, le-leb, eq-eqb, ne_eqb, ltb-true}
use Rattle.std.specs.Cmp.Lexicographic.{bytes_decides}
use Rattle.std.specs.Str.{bytes_eq}
use Rattle.js_semantics.specs.Properties.{number_spelled, place_spelled, MAX_NUMBER}

-- ---- equal lists

pub eq_alike : (a b c d : List ℕ) → (a ≡ b → c ≡ d) → (c ≡ d → a ≡ b) → bytes_eq a b ≡ bytes_eq c d
eq_alike a b c d f g =
    elim (bytes_eq a b) as (λ p. bytes_eq a b ≡ p → p ≡ bytes_eq c d) [
      | true ↦ λ e. sym ((bytes_decides c d).1 (f ((bytes_decides a b).0 e)))
      | false ↦ λ e. elim (bytes_eq c d) as (λ q. bytes_eq c d ≡ q → false ≡ q) [
        | true ↦ λ r. let k : bytes_eq a b ≡ true = (bytes_decides a b).1 (g ((bytes_decides c d).0 r)) in absurd (cc)
        | false ↦ λ r. refl
      ] refl
    ] refl

pub eq_never : (a b : List ℕ) → (a ≡ b → ⊥) → false ≡ bytes_eq a b
eq_never a b f = elim (bytes_eq a b) as (λ p. bytes_eq a b ≡ p → false ≡ p) [ true ↦ λ e. absurd (f ((bytes_decides a b).0 e)) | false ↦ λ e. refl ] refl

snoc_some : (ys : List ℕ) (b : ℕ) → [] ≡ ys ++ b ∷ [] → ⊥
snoc_some [] b e = absurd (cc)
snoc_some (y ∷ ys) b e = absurd (cc)

snoc_same : (xs ys : List ℕ) (a b : ℕ) → xs ++ a ∷ [] ≡ ys ++ b ∷ [] → (xs ≡ ys) × (a ≡ b)
snoc_same [] [] a b e = let h : a ≡ b = cc in (refl, h)
snoc_same [] (y ∷ ys) a b e = let h : [] ≡ ys ++ b ∷ [] = cc in absurd (snoc_some ys b h)
snoc_same (x ∷ xs) [] a b e = let h : [] ≡ xs ++ a ∷ [] = cc in absurd (snoc_some xs a h)
snoc_same (x ∷ xs) (y ∷ ys) a b e =
    let h : x ≡ y = cc in
    let t : xs ++ a ∷ [] ≡ ys ++ b ∷ [] = cc in
    let r : xs ≡ ys = (snoc_same xs ys a b t).0 in
    (cc, (snoc_same xs ys a b t).1)

take_step : (xs : List ℕ) (l : ℕ) → l < length xs → take (suc l) xs ≡ take l xs ++ slice_index_or xs l 0 ∷ []
take_step [] l h = absurd (omega arith)
take_step (x ∷ xs) zero h = refl
take_step (x ∷ xs) (suc l) h = ap (λ r. x ∷ r) (take_step xs l (omega arith))

pub drop_step : (xs : List ℕ) (l : ℕ) → l < length xs → drop l xs ≡ slice_index_or xs l 0 ∷ drop (suc l) xs
drop_step [] l h = absurd (omega arith)
drop_step (x ∷ xs) zero h = refl
drop_step (x ∷ xs) (suc l) h = drop_step xs l (omega arith)

drop_all : (xs : List ℕ) (l : ℕ) → length xs ≤ l → drop l xs ≡ []
drop_all [] zero h = refl
drop_all [] (suc l) h = refl
drop_all (x ∷ xs) zero h = absurd (omega arith)
drop_all (x ∷ xs) (suc l) h = drop_all xs l (omega arith)

take_all : (xs : List ℕ) → take (length xs) xs ≡ xs
take_all [] = refl
take_all (x ∷ xs) = ap (λ r. x ∷ r) (take_all xs)

-- ---- the number that is spelled

spelled_from : (front : ℕ) (ds : List ℕ) → front ≤ number_spelled front ds
spelled_from front [] = omega arith
spelled_from front (d ∷ ds) = let r : front * 10 + (d - 48) ≤ number_spelled (front * 10 + (d - 48)) ds = spelled_from (front * 10 + (d - 48)) ds in omega arith

pub spelled_step : (n k at : ℕ) (key : List ℕ) → at < length key → k ≡ slice_index_or key at 0 → number_spelled n (drop at key) ≡ number_spelled 0 key → number_spelled (n * 10 + (k - 48)) (drop (suc at) key) ≡ number_spelled 0 key
spelled_step n k at key h e s =
    let d : drop at key ≡ k ∷ drop (suc at) key = drop_step key at h ∙ (rw e refl) in
    (rw d at s)

pub spelled_past : (n at : ℕ) (key : List ℕ) → MAX_NUMBER < n → number_spelled n (drop at key) ≡ number_spelled 0 key → MAX_NUMBER < number_spelled 0 key
spelled_past n at key h s = let r : n ≤ number_spelled n (drop at key) = spelled_from n (drop at key) in omega arith

pub spelled_over : (n k s at : ℕ) (key : List ℕ) → at < length key → k ≡ slice_index_or key at 0 → s ≡ k - 48 → number_spelled n (drop at key) ≡ number_spelled 0 key → MAX_NUMBER < n * 10 + s → MAX_NUMBER < number_spelled 0 key
spelled_over n k s at key h e q i l = spelled_past (n * 10 + (k - 48)) (suc at) key (rw q at l) (spelled_step n k at key h e i)

pub spelled_all : (n at count : ℕ) (key : List ℕ) → count ≡ length key → count ≤ at → number_spelled n (drop at key) ≡ number_spelled 0 key → n ≡ number_spelled 0 key
spelled_all n at count key e h s = rw (drop_all key at (omega arith)) at s

-- ---- the digits of a number

one_digit : (n : ℕ) → n < 10 → n % 10 ≡ n
one_digit n h = omega arith

cases_lt : (n k : ℕ) → (n < k) ⊎ (k ≤ n)
cases_lt n zero = inr (omega arith)
cases_lt zero (suc k) = inl (omega arith)
cases_lt (suc n) (suc k) = elim (cases_lt n k) as (λ _. (suc n < suc k) ⊎ (suc k ≤ suc n)) [ inl a ↦ inl (omega arith) | inr b ↦ inr (omega arith) ]

last_digit : (n : ℕ) → n < 2 ^ 64 → (front : List ℕ) × (decimal n ≡ front ++ (48 + n % 10) ∷ [])
last_digit n h = elim (cases_lt n 10) as (λ _. (front : List ℕ) × (decimal n ≡ front ++ (48 + n % 10) ∷ [])) [
  | inl a ↦ ([], rw (one_digit n a) (decimal_digit n a))
  | inr b ↦ (decimal (n / 10), decimal_step n b h)
]

pub not_last : (n k l left : ℕ) (key : List ℕ) → n < 2 ^ 64 → left ≡ suc l → l < length key → k ≡ slice_index_or key l 0 → k ≢ 48 + n % 10 → false ≡ bytes_eq (decimal n) (take left key)
not_last n k l left key h e b g d =
    let t : take left key ≡ take l key ++ k ∷ [] = rw (e, g) (take_step key l b) in
    let p : (front : List ℕ) × (decimal n ≡ front ++ (48 + n % 10) ∷ []) = last_digit n h in
    eq_never (decimal n) (take left key) (λ s. d (sym (snoc_same p.0 (take l key) (48 + n % 10) k (sym p.1 ∙ (s ∙ t))).1))

pub last_one : (n k l left : ℕ) (key : List ℕ) → n < 10 → left ≡ suc l → l < length key → k ≡ slice_index_or key l 0 → k ≡ 48 + n % 10 → (l == 0) ≡ bytes_eq (decimal n) (take left key)
last_one n k zero left key h e b g d =
    let t : take left key ≡ k ∷ [] = rw (e, g) (take_step key 0 b) in
    let s : decimal n ≡ take left key = decimal_digit n h ∙ (sym (rw (t, d, one_digit n h) refl)) in
    sym ((bytes_decides (decimal n) (take left key)).1 s)
last_one n k (suc l) left key h e b g d =
    let t : take left key ≡ take (suc l) key ++ k ∷ [] = rw (e, g) (take_step key (suc l) b) in
    let w : take (suc l) key ≡ take l key ++ slice_index_or key l 0 ∷ [] = take_step key l (omega arith) in
    rw (ne_eqb (suc l) 0 (λ z. absurd (omega arith))) (eq_never (decimal n) (take left key) (λ s. snoc_some (take l key) (slice_index_or key l 0) ((snoc_same [] (take (suc l) key) (48 + n) k (sym (decimal_digit n h) ∙ (s ∙ t))).0 ∙ w)))

pub more_digits : (n k l left : ℕ) (key : List ℕ) → n < 2 ^ 64 → 10 ≤ n → left ≡ suc l → l < length key → k ≡ slice_index_or key l 0 → k ≡ 48 + n % 10 → bytes_eq (decimal n) (take left key) ≡ bytes_eq (decimal (n / 10)) (take l key)
more_digits n k l left key h m e b g d =
    let t : take left key ≡ take l key ++ k ∷ [] = rw (e, g) (take_step key l b) in
    let q : decimal n ≡ decimal (n / 10) ++ (48 + n % 10) ∷ [] = decimal_step n m h in
    eq_alike (decimal n) (take left key) (decimal (n / 10)) (take l key)
    (λ s. (snoc_same (decimal (n / 10)) (take l key) (48 + n % 10) k (sym q ∙ (s ∙ t))).0)
    (λ s. q ∙ (ap (λ xs. xs ++ (48 + n % 10) ∷ []) s ∙ (ap (λ j. take l key ++ j ∷ []) (sym d) ∙ sym t)))

pub no_digits : (n left : ℕ) (key : List ℕ) → n < 2 ^ 64 → left ≤ 0 → false ≡ bytes_eq (decimal n) (take left key)
no_digits n left key h z =
    let e : left ≡ 0 = omega arith in
    let p : (front : List ℕ) × (decimal n ≡ front ++ (48 + n % 10) ∷ []) = last_digit n h in
    rw e (eq_never (decimal n) [] (λ s. snoc_some p.0 (48 + n % 10) (sym s ∙ p.1)))

pub all_left : (n left : ℕ) (key : List ℕ) → left ≡ length key → bytes_eq (decimal n) key ≡ bytes_eq (decimal n) (take left key)
all_left n left key e = rw (e, take_all key) refl

-- ---- the place

pub place_here : (n : ℕ) (key : List ℕ) (b : Bool) → n ≡ number_spelled 0 key → n ≤ MAX_NUMBER → b ≡ bytes_eq (decimal n) key → place_spelled key ≡ (if b then Some n else None)
place_here n key b e h s = rw (← e, ← s, le-leb n MAX_NUMBER h) (elim b as (λ b. (if b && true then Some n else None) ≡ (if b then Some n else None)) [ true ↦ refl | false ↦ refl ])

pub place_past : (key : List ℕ) → MAX_NUMBER < number_spelled 0 key → place_spelled key ≡ None
place_past key h = rw (lt-leb (number_spelled 0 key) MAX_NUMBER h) (elim (bytes_eq (decimal (number_spelled 0 key)) key) as (λ b. (if b && false then Some (number_spelled 0 key) else None) ≡ None) [ true ↦ refl | false ↦ refl ])

pub place_long : (key : List ℕ) → 16 < length key → place_spelled key ≡ None
place_long key h = elim (cases_lt MAX_NUMBER (number_spelled 0 key)) as (λ _. place_spelled key ≡ None) [
  | inl a ↦ place_past key a
  | inr b ↦
      let few : MAX_NUMBER < 10 ^ 16 = ltb-true MAX_NUMBER (10 ^ 16) refl in
      let l : length (decimal (number_spelled 0 key)) ≤ 16 = length-decimal-le 16 (number_spelled 0 key) (omega arith) (omega arith) (omega arith) in
      place_here (number_spelled 0 key) key false refl b (eq_never (decimal (number_spelled 0 key)) key (λ s. let k : length (decimal (number_spelled 0 key)) ≡ length key = ap (λ xs. length xs) s in absurd (omega arith)))
]
