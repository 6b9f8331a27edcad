-- Where a text first stands in another.
use Rattle.std.specs.Prelude.{◌≡◌, ℕ, zero, suc, ◌+◌, ◌<◌, ◌≤◌, Bool, true, false, ◌&&◌, List, [], ◌∷◌, ◌++◌, length, drop, Option, Some, None, nat_le, nat_eq, refl}
use Rattle.std.specs.Option.{option_map}
use Rattle.std.proofs.Common.{sym, ap, ◌∙◌, cond, arith, true≢false, eq-eqb, eqb-true}
use Rattle.std.proofs.lemmas.Bool.Decides.{nat_tests}
use Rattle.js_semantics.specs.Texts.{begins, first_place}

and_true : (a b : Bool) → a ≡ true → b ≡ true → (a && b) ≡ true
and_true true b p q = q
and_true false b p q = absurd (true≢false (sym p))

and_false : (a b : Bool) → b ≡ false → (a && b) ≡ false
and_false true b q = q
and_false false b q = refl

and_parts : (a b : Bool) → (a && b) ≡ true → (a ≡ true) × (b ≡ true)
and_parts true b h = (refl, h)
and_parts false b h = absurd (true≢false (sym h))

-- a text begins with another just where that is its front
pub begins-append : (s r : List ℕ) → begins s (s ++ r) ≡ true
begins-append [] r = refl
begins-append (c ∷ cs) r = and_true (nat_eq c c) (begins cs (cs ++ r)) (eq-eqb c c refl) (begins-append cs r)

pub begins-parts : (s t : List ℕ) → begins s t ≡ true → t ≡ s ++ drop (length s) t
begins-parts [] t h = refl
begins-parts (c ∷ cs) [] h = absurd (true≢false (sym h))
begins-parts (c ∷ cs) (d ∷ ds) h =
    let both = and_parts (nat_eq c d) (begins cs ds) h in
    let first = sym (eqb-true c d both.0) in
    let rest = begins-parts cs ds both.1 in
    ap (λ x. x ∷ ds) first ∙ ap (λ (xs : List ℕ). c ∷ xs) rest

le_true : (m n : ℕ) → m ≤ n → nat_le m n ≡ true
le_true m n h = grind (arith, nat_tests)

le_false : (m n : ℕ) → n < m → nat_le m n ≡ false
le_false m n h = grind (arith, nat_tests)

-- at the place itself
here : (s t : List ℕ) (from at : ℕ) → from ≤ at → begins s t ≡ true → first_place s from at t ≡ Some at
here s [] from at on h = ap (λ (b : Bool). cond b (Some at) None) (and_true (nat_le from at) (begins s []) (le_true from at on) h)
here s (c ∷ cs) from at on h =
    ap (λ (b : Bool). cond b (Some at) (first_place s from (suc at) cs)) (and_true (nat_le from at) (begins s (c ∷ cs)) (le_true from at on) h)

-- and where it isn't at the place
miss : (s : List ℕ) (c : ℕ) (cs : List ℕ) (from at : ℕ) → begins s (c ∷ cs) ≡ false → first_place s from at (c ∷ cs) ≡ first_place s from (suc at) cs
miss s c cs from at h = ap (λ (b : Bool). cond b (Some at) (first_place s from (suc at) cs)) (and_false (nat_le from at) (begins s (c ∷ cs)) h)

-- before the place to begin at nothing counts
early : (s : List ℕ) (c : ℕ) (cs : List ℕ) (from at : ℕ) → at < from → first_place s from at (c ∷ cs) ≡ first_place s from (suc at) cs
early s c cs from at before =
    ap (λ (b : Bool). cond (b && begins s (c ∷ cs)) (Some at) (first_place s from (suc at) cs)) (le_false from at before)

-- the first place, where the text stands at no place before it
pub first_found : (s r before : List ℕ) (at : ℕ) → ((k : ℕ) → k < length before → begins s (drop k (before ++ (s ++ r))) ≡ false) → first_place s 0 at (before ++ (s ++ r)) ≡ Some (at + length before)
first_found s r [] at none =
    let same : at ≡ at + length {A = ℕ} [] = omega arith in
    here s (s ++ r) 0 at (omega arith) (begins-append s r) ∙ ap Some same
first_found s r (c ∷ cs) at none =
    let same : suc at + length cs ≡ at + length (c ∷ cs) = omega arith in
    miss s c (cs ++ (s ++ r)) 0 at (none 0 (omega arith))
    ∙ (first_found s r cs (suc at) (λ k below. none (suc k) (omega arith)) ∙ ap Some same)

-- no place, where the text stands at none
pub none_found : (s t : List ℕ) (at : ℕ) → ((k : ℕ) → k ≤ length t → begins s (drop k t) ≡ false) → first_place s 0 at t ≡ None
none_found s [] at none = ap (λ (b : Bool). cond b (Some at) None) (and_false (nat_le 0 at) (begins s []) (none 0 (omega arith)))
none_found s (c ∷ cs) at none =
    miss s c cs 0 at (none 0 (omega arith)) ∙ none_found s cs (suc at) (λ k below. none (suc k) (omega arith))

-- what stands before the place to begin at is passed over
later : (s t : List ℕ) (n at from : ℕ) → from ≡ at + n → n ≤ length t → first_place s from at t ≡ first_place s from from (drop n t)
later s t zero at from e within =
    let same : at ≡ from = omega (arith, e) in ap (λ (k : ℕ). first_place s from k t) same
later s [] (suc n) at from e within = absurd (omega arith)
later s (c ∷ cs) (suc n) at from e within =
    early s c cs from at (omega (arith, e)) ∙ later s cs n (suc at) from (omega (arith, e)) (omega arith)

-- places count from the front
stepped : (from at k : ℕ) (a b x : Bool) (m n : Option ℕ) → at ≡ from + k → a ≡ true → b ≡ true → m ≡ option_map (λ p. from + p) n → cond (a && x) (Some at) m ≡ option_map (λ p. from + p) (cond (b && x) (Some k) n)
stepped from at k true true true m n e p q rest = ap Some e
stepped from at k true true false m n e p q rest = rest
stepped from at k false b x m n e p q rest = absurd (true≢false (sym p))
stepped from at k true false x m n e p q rest = absurd (true≢false (sym q))

shifted : (s t : List ℕ) (from at k : ℕ) → at ≡ from + k → first_place s from at t ≡ option_map (λ p. from + p) (first_place s 0 k t)
shifted s [] from at k e =
    stepped from at k (nat_le from at) (nat_le 0 k) (begins s []) None None e (le_true from at (omega (arith, e))) (le_true 0 k (omega arith)) refl
shifted s (c ∷ cs) from at k e =
    stepped from at k (nat_le from at) (nat_le 0 k) (begins s (c ∷ cs)) (first_place s from (suc at) cs) (first_place s 0 (suc k) cs) e
    (le_true from at (omega (arith, e))) (le_true 0 k (omega arith)) (shifted s cs from (suc at) (suc k) (omega (arith, e)))

-- from past the end there is no place
past : (s t : List ℕ) (from at : ℕ) → at + length t < from → first_place s from at t ≡ None
past s [] from at over = ap (λ (b : Bool). cond (b && begins s []) (Some at) None) (le_false from at (omega arith))
past s (c ∷ cs) from at over = early s c cs from at (omega arith) ∙ past s cs from (suc at) (omega arith)

pub past_end : (s t : List ℕ) (from : ℕ) → length t < from → first_place s from 0 t ≡ None
past_end s t from over = past s t from 0 (omega arith)

-- the first place from another on is found in what stands from there on
pub found_from : (s t : List ℕ) (from : ℕ) (r : Option ℕ) → from ≤ length t → first_place s 0 0 (drop from t) ≡ r → first_place s from 0 t ≡ option_map (λ p. from + p) r
found_from s t from r within h =
    later s t from 0 from (omega arith) within ∙ (shifted s (drop from t) from from 0 (omega arith) ∙ ap (option_map (λ p. from + p)) h)
