-- Dropping blanks at the ends.
use Rattle.std.specs.Prelude.{◌≡◌, ◌<◌, ◌≤◌, ◌+◌, ◌-◌, ℕ, List, [], ◌∷◌, ◌++◌, Bool, true, false, length, take, drop, slice_range, refl, if◌then◌else◌}
use Rattle.std.proofs.Common.{ap, sym, ◌∙◌, arith, get_or, subst}
use Rattle.std.proofs.lemmas.Bool.Decides.{nat_tests}
use Rattle.std.proofs.lemmas.List.{take_more, at_drop_more}
use Rattle.metadata_block.specs.Blanks.{is_blank}
use Rattle.metadata_block.specs.BlanksModel.{skip_blanks, drop_blanks, unless_blank}

pub blank_ascii : (b : ℕ) → is_blank b ≡ true → b < 128
blank_ascii b h = grind (arith, nat_tests)

pub drop_push : (xs : List ℕ) (b : ℕ) → is_blank b ≡ true → drop_blanks (xs ++ b ∷ []) ≡ drop_blanks xs
drop_push [] b h = ap (λ (t : Bool). if t then [] else b ∷ []) h
drop_push (x ∷ xs) b h = ap (unless_blank x) (drop_push xs b h)

before_some : (x : ℕ) (xs : List ℕ) (b : ℕ) → unless_blank x (xs ++ b ∷ []) ≡ x ∷ (xs ++ b ∷ [])
before_some x [] b = refl
before_some x (y ∷ ys) b = refl

pub drop_solid : (xs : List ℕ) (b : ℕ) → is_blank b ≡ false → drop_blanks (xs ++ b ∷ []) ≡ xs ++ b ∷ []
drop_solid [] b h = ap (λ (t : Bool). if t then [] else b ∷ []) h
drop_solid (x ∷ xs) b h = ap (unless_blank x) (drop_solid xs b h) ∙ before_some x xs b

one_back : (n : ℕ) → 0 < n → n ≡ (n - 1) + 1
one_back n h = omega arith

pub drop_step : (s : List ℕ) (n : ℕ) → 0 < n → n ≤ length s → is_blank (get_or s (n - 1) 0) ≡ true → drop_blanks (take n s) ≡ drop_blanks (take (n - 1) s)
drop_step s n some within h =
    ap (λ (k : ℕ). drop_blanks (take k s)) (one_back n some) ∙ ap drop_blanks (take_more s (n - 1) 0 (omega arith)) ∙ drop_push (take (n - 1) s) (get_or s (n - 1) 0) h

pub drop_stop : (s : List ℕ) (n : ℕ) → 0 < n → n ≤ length s → is_blank (get_or s (n - 1) 0) ≡ false → drop_blanks (take n s) ≡ take n s
drop_stop s n some within h =
    let cut : take n s ≡ take (n - 1) s ++ (get_or s (n - 1) 0 ∷ []) = ap (λ (k : ℕ). take k s) (one_back n some) ∙ take_more s (n - 1) 0 (omega arith) in
    ap drop_blanks cut ∙ drop_solid (take (n - 1) s) (get_or s (n - 1) 0) h ∙ sym cut

pub drop_none : (s : List ℕ) (n : ℕ) → n ≤ 0 → drop_blanks (take n s) ≡ take n s
drop_none s n h = let e : n ≡ 0 = omega arith in subst (λ (k : ℕ). drop_blanks (take k s) ≡ take k s) (sym e) refl

pub front : (s : List ℕ) (n : ℕ) → slice_range s 0 n ≡ take n s
front s n = let e : n - 0 ≡ n = omega arith in ap (λ (k : ℕ). take k s) e

pub skip_step : (s : List ℕ) (n : ℕ) → n < length s → is_blank (get_or s n 0) ≡ true → skip_blanks (drop n s) ≡ skip_blanks (drop (n + 1) s)
skip_step s n within h = at_drop_more skip_blanks s n 0 within ∙ ap (λ (t : Bool). if t then skip_blanks (drop (n + 1) s) else get_or s n 0 ∷ drop (n + 1) s) h
