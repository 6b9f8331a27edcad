-- Sets of symbols, as lists: what can be told of them by computing.
use Rattle.std.proofs.Common.{◌≡◌, ◌==◌, ℕ, Bool, true, false, not, ◌||◌, ◌&&◌, List, [], ◌∷◌, ◌++◌, Option, Some, None, refl, sym, ap, ◌∙◌, arith}
use Rattle.std.proofs.lemmas.Bool.Decides.{nat_tests}
use Rattle.js_syntax.specs.declared.token.Token.{Token}
use Rattle.js_syntax.specs.declared.symbol.Symbol.{Symbol}
use Rattle.js_syntax.specs.declared.symbol.Symbol.TheVariants as s
pub use Rattle.js_syntax.specs.SymbolNumbers.{amid}
use Rattle.js_syntax.specs.Symbols.{Tokens, next, is, among, sees, symbol_of, number}

abbrev pub holds : List Symbol → Symbol → Bool
holds xs x = amid xs (number x)

abbrev pub apart : List Symbol → List Symbol → Bool
apart [] ys = true
apart (x ∷ xs) ys = not (holds ys x) && apart xs ys

abbrev pub subset : List Symbol → List Symbol → Bool
subset [] ys = true
subset (x ∷ xs) ys = holds ys x && subset xs ys

pub among_amid : (xs : List Symbol) (t : Token) → among xs t ≡ amid xs (number (symbol_of t))
among_amid [] t = refl
among_amid (x ∷ []) t = refl
among_amid (x ∷ (y ∷ ys)) t = ap (λ b. (number (symbol_of t) == number x) || b) (among_amid (y ∷ ys) t)

same_number : (n m : ℕ) → (n == m) ≡ true → n ≡ m
same_number n m h = grind (arith, nat_tests)

cases_or : (a b : Bool) → (a || b) ≡ true → (a ≡ false → b ≡ true)
cases_or true b h k = absurd cc
cases_or false b h k = h

apart_first : (a b c : Bool) → (not b && c) ≡ true → (a ≡ true → b ≡ false) × (c ≡ true)
apart_first a true c h = absurd cc
apart_first a false c h = (λ k. refl, h)

both_first : (b c : Bool) → (b && c) ≡ true → (b ≡ true) × (c ≡ true)
both_first true c h = (refl, h)
both_first false c h = absurd cc

apart_one : (n : ℕ) (x : Symbol) (ys : List Symbol) (b : Bool) → (n == number x) ≡ b → b ≡ true → holds ys x ≡ false → amid ys n ≡ false
apart_one n x ys b e h k = ap (amid ys) (same_number n (number x) (e ∙ h)) ∙ k

apart_head : (n : ℕ) (x : Symbol) (ys : List Symbol) (rest : Bool) (b : Bool) → (n == number x) ≡ b → holds ys x ≡ false → (rest ≡ true → amid ys n ≡ false) → (b || rest) ≡ true → amid ys n ≡ false
apart_head n x ys rest true e k later h = apart_one n x ys true e refl k
apart_head n x ys rest false e k later h = later h

apart_amid : (xs ys : List Symbol) (n : ℕ) → apart xs ys ≡ true → amid xs n ≡ true → amid ys n ≡ false
apart_amid [] ys n h k = absurd cc
apart_amid (x ∷ []) ys n h k = apart_one n x ys true k refl ((apart_first true (holds ys x) true h).0 refl)
apart_amid (x ∷ (z ∷ zs)) ys n h k =
    let a = apart_first true (holds ys x) (apart (z ∷ zs) ys) h in
    apart_head n x ys (amid (z ∷ zs) n) (n == number x) refl (a.0 refl) (λ m. apart_amid (z ∷ zs) ys n a.1 m) k

pub among_apart : (xs ys : List Symbol) → apart xs ys ≡ true → (t : Token) → among xs t ≡ true → among ys t ≡ false
among_apart xs ys h t k = among_amid ys t ∙ apart_amid xs ys (number (symbol_of t)) h (sym (among_amid xs t) ∙ k)

subset_one : (n : ℕ) (x : Symbol) (ys : List Symbol) (b : Bool) → (n == number x) ≡ b → b ≡ true → holds ys x ≡ true → amid ys n ≡ true
subset_one n x ys b e h k = ap (amid ys) (same_number n (number x) (e ∙ h)) ∙ k

subset_head : (n : ℕ) (x : Symbol) (ys : List Symbol) (rest : Bool) (b : Bool) → (n == number x) ≡ b → holds ys x ≡ true → (rest ≡ true → amid ys n ≡ true) → (b || rest) ≡ true → amid ys n ≡ true
subset_head n x ys rest true e k later h = subset_one n x ys true e refl k
subset_head n x ys rest false e k later h = later h

subset_amid : (xs ys : List Symbol) (n : ℕ) → subset xs ys ≡ true → amid xs n ≡ true → amid ys n ≡ true
subset_amid [] ys n h k = absurd cc
subset_amid (x ∷ []) ys n h k = subset_one n x ys true k refl (both_first (holds ys x) true h).0
subset_amid (x ∷ (z ∷ zs)) ys n h k =
    let a = both_first (holds ys x) (subset (z ∷ zs) ys) h in
    subset_head n x ys (amid (z ∷ zs) n) (n == number x) refl a.0 (λ m. subset_amid (z ∷ zs) ys n a.1 m) k

pub among_subset : (xs ys : List Symbol) → subset xs ys ≡ true → (t : Token) → among xs t ≡ true → among ys t ≡ true
among_subset xs ys h t k = among_amid ys t ∙ subset_amid xs ys (number (symbol_of t)) h (sym (among_amid xs t) ∙ k)

pub sees_apart : (xs ys : List Symbol) → apart xs ys ≡ true → (o : Option Token) → sees (among xs) o ≡ true → sees (among ys) o ≡ false
sees_apart xs ys h None k = refl
sees_apart xs ys h (Some t) k = among_apart xs ys h t k

pub sees_subset : (xs ys : List Symbol) → subset xs ys ≡ true → (o : Option Token) → sees (among xs) o ≡ true → sees (among ys) o ≡ true
sees_subset xs ys h None k = absurd cc
sees_subset xs ys h (Some t) k = among_subset xs ys h t k

-- ---- what may follow

-- anything, or a token of these
abbrev pub Follow : Type 0
Follow = Option (List Symbol)

abbrev pub May : Follow → Tokens → Type 0
May None ts = Unit {0}
May (Some xs) ts = sees (among xs) (next ts) ≡ true

-- what may follow the first may follow the second
abbrev pub within : Follow → Follow → Bool
within F None = true
within None (Some xs) = false
within (Some ys) (Some xs) = subset ys xs

pub may_within : (F G : Follow) → within F G ≡ true → (ts : Tokens) → May F ts → May G ts
may_within None None h ts m = tt
may_within (Some ys) None h ts m = tt
may_within None (Some xs) h ts m = absurd cc
may_within (Some ys) (Some xs) h ts m = sees_subset ys xs h (next ts) m

-- none of these may follow
abbrev pub past : Follow → List Symbol → Bool
past None xs = false
past (Some ys) xs = apart ys xs

-- such a token may follow
abbrev pub allows : Follow → Symbol → Bool
allows None x = true
allows (Some xs) x = holds xs x

-- each such token is one of these
abbrev pub Within : (Token → Bool) → List Symbol → Type 0
Within q xs = (t : Token) → q t ≡ true → among xs t ≡ true

not_such : (b c : Bool) → (b ≡ true → c ≡ true) → c ≡ false → b ≡ false
not_such true c h k = let e = h refl in absurd cc
not_such false c h k = refl

pub sees_outside : (q : Token → Bool) (xs : List Symbol) → Within q xs → (o : Option Token) → sees (among xs) o ≡ false → sees q o ≡ false
sees_outside q xs w None h = refl
sees_outside q xs w (Some t) h = not_such (q t) (among xs t) (w t) h

pub may_past : (F : Follow) (q : Token → Bool) (xs : List Symbol) → Within q xs → past F xs ≡ true → (ts : Tokens) → May F ts → sees q (next ts) ≡ false
may_past None q xs w h ts m = absurd cc
may_past (Some ys) q xs w h ts m = sees_outside q xs w (next ts) (sees_apart ys xs h (next ts) m)

-- ---- no End among them

abbrev pub plain : List Symbol → Bool
plain xs = apart xs (s.End ∷ [])

pub is_plain : (q : Token → Bool) (xs : List Symbol) → Within q xs → plain xs ≡ true → (t : Token) → q t ≡ true → is s.End t ≡ false
is_plain q xs w h t k = among_apart xs (s.End ∷ []) h t (w t k)

pub all_within : (xs : List Symbol) → Within (among xs) xs
all_within xs t h = h

pub and_within : (xs : List Symbol) (c : Token → Bool) → Within (λ t. among xs t && c t) xs
and_within xs c t h = (both_first (among xs t) (c t) h).0

pub among_subset_one : (xs : List Symbol) (x : Symbol) → holds xs x ≡ true → (t : Token) → is x t ≡ true → among xs t ≡ true
among_subset_one xs x h t e = among_amid xs t ∙ ap (amid xs) (same_number (number (symbol_of t)) (number x) e) ∙ h

among_cons : (x : Symbol) (xs : List Symbol) (t : Token) → among (x ∷ xs) t ≡ (is x t || among xs t)
among_cons x [] t = or_false (is x t) where
  or_false : (b : Bool) → b ≡ (b || false)
  or_false true = refl
  or_false false = refl
among_cons x (y ∷ ys) t = refl

or_assoc : (a b c : Bool) → (a || (b || c)) ≡ ((a || b) || c)
or_assoc true b c = refl
or_assoc false b c = refl

pub among_append : (xs ys : List Symbol) (t : Token) → among (xs ++ ys) t ≡ (among xs t || among ys t)
among_append [] ys t = refl
among_append (x ∷ xs) ys t = among_cons x (xs ++ ys) t ∙ ap (λ b. is x t || b) (among_append xs ys t) ∙ or_assoc (is x t) (among xs t) (among ys t) ∙ ap (λ b. b || among ys t) (sym (among_cons x xs t))
