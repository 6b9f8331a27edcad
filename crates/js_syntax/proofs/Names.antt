-- A name is told scalar by scalar.
use Rattle.std.proofs.Common.{◌≡◌, Bool, true, false, ◌&&◌, cond, ℕ, List, [], ◌∷◌, ◌++◌, refl, sym, ap, ◌∙◌, append_assoc}
use Rattle.std.proofs.lemmas.List.{append-nil}
use Rattle.js_syntax.specs.TokenScalars.{is_name_start, is_name_part}
use Rattle.js_syntax.specs.Symbols.{is_spelled, all_continue}

-- whether a name is begun, and fits so far; then the scalars that follow
unfoldable pub goes_on : Bool → Bool → List ℕ → Bool
goes_on begun fits [] = begun && fits
goes_on begun fits (c ∷ cs) = goes_on true (fits && cond begun (is_name_part c) (is_name_start c)) cs

and_true : (b : Bool) → b ≡ (b && true)
and_true true = refl
and_true false = refl

and_assoc : (a b c : Bool) → ((a && b) && c) ≡ (a && (b && c))
and_assoc true b c = refl
and_assoc false b c = refl

others : (fits : Bool) (cs : List ℕ) → goes_on true fits cs ≡ (fits && all_continue cs)
unfolding goes_on
others fits [] = and_true fits
others fits (c ∷ cs) = others (fits && is_name_part c) cs ∙ and_assoc fits (is_name_part c) (all_continue cs)

pub all_of : (cs : List ℕ) → goes_on false true cs ≡ is_spelled cs
unfolding goes_on
all_of [] = refl
all_of (c ∷ cs) = others (is_name_start c) cs

pub at_end : (begun fits : Bool) → goes_on begun fits [] ≡ (begun && fits)
unfolding goes_on
at_end begun fits = refl

pub one_more : (begun fits : Bool) (c : ℕ) (cs : List ℕ) → goes_on begun fits (c ∷ cs) ≡ goes_on true (fits && cond begun (is_name_part c) (is_name_start c)) cs
unfolding goes_on
one_more begun fits c cs = refl

-- ---- what the loop adds

pub goes_on_with : (xs rest : List ℕ) (c : ℕ) (begun fits r : Bool) → ((rest : List ℕ) → goes_on false true (xs ++ rest) ≡ goes_on begun fits rest) → (fits && cond begun (is_name_part c) (is_name_start c)) ≡ r → goes_on false true ((xs ++ c ∷ []) ++ rest) ≡ goes_on true r rest
goes_on_with xs rest c begun fits r so_far e = ap (goes_on false true) (append_assoc xs (c ∷ []) rest) ∙ so_far (c ∷ rest) ∙ one_more begun fits c rest ∙ ap (λ b. goes_on true b rest) e

pub fits_further : (begun fits x y : Bool) → fits ≡ true → begun ≡ true → (fits && cond begun x y) ≡ x
fits_further true true x y h k = refl
fits_further true false x y h k = absurd cc
fits_further false true x y h k = absurd cc
fits_further false false x y h k = absurd cc

pub fits_first : (begun fits x y : Bool) → fits ≡ true → begun ≡ false → (fits && cond begun x y) ≡ y
fits_first false true x y h k = refl
fits_first false false x y h k = absurd cc
fits_first true true x y h k = absurd cc
fits_first true false x y h k = absurd cc

pub fits_no_more : (fits x : Bool) → fits ≡ false → (fits && x) ≡ fits
fits_no_more false x h = refl
fits_no_more true x h = absurd cc

pub told : (xs text : List ℕ) (begun fits : Bool) → ((rest : List ℕ) → goes_on false true (xs ++ rest) ≡ goes_on begun fits rest) → xs ≡ text → (begun && fits) ≡ is_spelled text
told xs text begun fits so_far whole = sym (at_end begun fits) ∙ sym (so_far []) ∙ ap (goes_on false true) (append-nil xs) ∙ all_of xs ∙ ap is_spelled whole

pub begun_told : (begun fits : Bool) → begun ≡ true → fits ≡ (begun && fits)
begun_told true fits h = refl
begun_told false fits h = absurd cc

pub unbegun_told : (begun fits : Bool) → begun ≡ false → begun ≡ (begun && fits)
unbegun_told true fits h = absurd cc
unbegun_told false fits h = refl
