-- Lines one after another.
use Rattle.std.specs.Prelude.{◌≡◌, ◌<◌, ◌≤◌, ◌+◌, ◌-◌, ℕ, zero, suc, List, [], ◌∷◌, ◌++◌, length, take, drop, refl}
use Rattle.std.specs.Borrow.{Bor}
use Rattle.std.specs.List.{All, AllWithin}
use Rattle.std.proofs.Common.{ap, sym, ◌∙◌, subst, inl, inr, arith, get_or, append_assoc}
use Rattle.std.proofs.lemmas.List.{at_drop_more, at_drop_all, get_or-take, length-take-le, length-drop, take_all}
use Rattle.std.proofs.lemmas.List.Elements.{All-map}
use Rattle.std.proofs.lemmas.List.Sums.{count_by-le-length}
use Rattle.std.proofs.lemmas.List.Splits.{length-slice_split}
use Rattle.std.specs.List.{slice_split}
use Rattle.std.specs.Str.Lines.{lines, lines_of_parts}
use Rattle.std.specs.Prelude.{◌==◌, true, false, if◌then◌else◌}
use Rattle.metadata_block.specs.declared.lines.Pair.{Pair}
use Rattle.metadata_block.specs.Lines.{GivePairs, HasBlock, HasNoStart, HasNoEnd, IsStart, IsEnd}
use Rattle.metadata_block.specs.LinesModel.{Pushes, HoldsFirst, texts}

pub at_any : {X : Type 0} (xs : List X) (i : ℕ) (x d : X) → i < length xs → get_or xs i d ≡ get_or xs i x
at_any [] i x d h = absurd (omega arith)
at_any (y ∷ ys) zero x d h = refl
at_any (y ∷ ys) (suc i) x d h = at_any ys i x d (omega arith)

next_number : (n i : ℕ) → n + (i + 1) ≡ (n + i) + 1
next_number n i = omega arith

pub pushes_more : (n i : ℕ) (lines : List (Bor (List ℕ))) (d : Bor (List ℕ)) (old new rest : List Pair) → i < length lines → Pushes (n + i) (get_or lines i d).now old new
    → ((more : List Pair) → GivePairs (n + i) (texts (drop i lines)) more → GivePairs n (texts lines) (old ++ more))
    → GivePairs (n + (i + 1)) (texts (drop (i + 1) lines)) rest → GivePairs n (texts lines) (new ++ rest)
pushes_more n i lines d old new rest within push all h =
    let line = (get_or lines i d).now in
    let after = texts (drop (i + 1) lines) in
    let left : texts (drop i lines) ≡ line ∷ after = at_drop_more texts lines i d within in
    let next : GivePairs ((n + i) + 1) after rest = subst (λ (k : ℕ). GivePairs k after rest) (next_number n i) h in
    elim push [
      | inl s ↦ subst (λ (ps : List Pair). GivePairs n (texts lines) (ps ++ rest)) (sym s.1) (all rest (subst (λ (ls : List (List ℕ)). GivePairs (n + i) ls rest) (sym left) (inl (s.0, next))))
      | inr p ↦ subst (λ (ps : List Pair). GivePairs n (texts lines) ps) (sym (ap (λ (ps : List Pair). ps ++ rest) p.2 ∙ append_assoc old (p.0 ∷ []) rest))
          (all (p.0 ∷ rest) (subst (λ (ls : List (List ℕ)). GivePairs (n + i) ls (p.0 ∷ rest)) (sym left) (inr (p.0, rest, p.1, refl, next))))
    ]

pub pushes_start : (n : ℕ) (lines : List (Bor (List ℕ))) (rest : List Pair) → GivePairs (n + 0) (texts (drop 0 lines)) rest → GivePairs n (texts lines) ([] ++ rest)
pushes_start n lines rest h = let e : n + 0 ≡ n = omega arith in subst (λ (k : ℕ). GivePairs k (texts lines) rest) e h

no_more : (ps : List Pair) → ps ++ [] ≡ ps
no_more [] = refl
no_more (p ∷ ps) = ap (λ (r : List Pair). p ∷ r) (no_more ps)

pub pushes_end : (n i : ℕ) (lines : List (Bor (List ℕ))) (ps : List Pair) → length lines ≤ i → ((more : List Pair) → GivePairs (n + i) (texts (drop i lines)) more → GivePairs n (texts lines) (ps ++ more)) → GivePairs n (texts lines) ps
pushes_end n i lines ps past all =
    subst (λ (r : List Pair). GivePairs n (texts lines) r) (no_more ps) (all [] (subst (λ (ls : List (List ℕ)). GivePairs (n + i) ls []) (sym (at_drop_all texts lines i past)) refl))

-- ---- cutting the lines

pub taken : (P : Bor (List ℕ) → Type 0) (xs : List (Bor (List ℕ))) (i : ℕ) → i ≤ length xs → AllWithin P xs 0 i → All P (take i xs)
taken P xs i within all = λ k d below.
    let short : k < i = omega (arith, length-take-le i xs within) in
    subst P (sym (get_or-take i xs k d short)) (all k d (omega arith) short)

pub texts_All : (P : List ℕ → Type 0) (xs : List (Bor (List ℕ))) → All (λ line. P line.now) xs → All P (texts xs)
texts_All P xs all = All-map P (λ (line : Bor (List ℕ)). line.now) xs all

pub texts-length : (xs : List (Bor (List ℕ))) → length (texts xs) ≡ length xs
texts-length [] = refl
texts-length (x ∷ xs) = ap suc (texts-length xs)

one_later : (i : ℕ) → suc i + 1 ≡ suc (i + 1)
one_later i = omega arith

pub cut_at : (xs : List (Bor (List ℕ))) (i : ℕ) (d : Bor (List ℕ)) → i < length xs → texts xs ≡ texts (take i xs) ++ ((get_or xs i d).now ∷ texts (drop (i + 1) xs))
cut_at [] i d h = absurd (omega arith)
cut_at (x ∷ xs) zero d h = refl
cut_at (x ∷ xs) (suc i) d h =
    ap (λ (r : List (List ℕ)). x.now ∷ r) (cut_at xs i d (omega arith)) ∙ ap (λ (k : ℕ). texts (take (suc i) (x ∷ xs)) ++ ((get_or xs i d).now ∷ texts (drop k (x ∷ xs)))) (sym (one_later i))

parts_short : (ps : List (List ℕ)) → length (lines_of_parts ps) ≤ length ps
parts_short [] = omega arith
parts_short (x ∷ []) = elim (length x == 0) as (λ b. length (if b then [] else x ∷ []) ≤ length (x ∷ [])) [ true ↦ omega arith | false ↦ omega arith ]
parts_short (x ∷ y ∷ more) = omega (arith, parts_short (y ∷ more))

-- a text has at most one line more than it has bytes
pub lines_short : (bs : List ℕ) → length (lines bs) ≤ length bs + 1
lines_short bs =
    omega (arith, parts_short (slice_split (λ b. b == 10) bs), length-slice_split (λ b. b == 10) bs, count_by-le-length (λ b. b == 10) bs)

pub no_start : (items : List (Bor (List ℕ))) (s : List ℕ) → texts items ≡ lines s → All (λ line. IsStart line.now → ⊥) items → HasNoStart (lines s)
no_start items s e all = subst HasNoStart e (texts_All (λ line. IsStart line → ⊥) items all)

pub no_end : (items after : List (Bor (List ℕ))) (s : List ℕ) (i : ℕ) → texts items ≡ lines s → HoldsFirst IsStart items i → after ≡ drop (i + 1) items → All (λ line. IsEnd line.now → ⊥) after → HasNoEnd (lines s)
no_end items after s i e first is all =
    let d : Bor (List ℕ) = record { ref_ptr = (0, 0); now = [] } in
    record {
      before = texts (take i items);
      start = (get_or items i d).now;
      after = texts (drop (i + 1) items);
      split = sym e ∙ cut_at items i d first.0;
      none_before = texts_All (λ line. IsStart line → ⊥) (take i items) (taken (λ line. IsStart line.now → ⊥) items i (omega (arith, first.0)) first.1);
      starts = first.2 d;
      none_after = subst (λ (xs : List (Bor (List ℕ))). All (λ line. IsEnd line → ⊥) (texts xs)) is (texts_All (λ line. IsEnd line → ⊥) after all);
    }

pub whole_block : (items after inside : List (Bor (List ℕ))) (s : List ℕ) (i j n : ℕ) → texts items ≡ lines s → HoldsFirst IsStart items i → after ≡ drop (i + 1) items → HoldsFirst IsEnd after j → inside ≡ take j after → n ≡ i + 2
    → HasBlock (lines s) n (texts inside)
whole_block items after inside s i j n e first is last part number =
    let d : Bor (List ℕ) = record { ref_ptr = (0, 0); now = [] } in
    let rest : texts (drop (i + 1) items) ≡ texts inside ++ ((get_or after j d).now ∷ texts (drop (j + 1) after)) =
    ap texts (sym is) ∙ cut_at after j d last.0 ∙ ap (λ (xs : List (Bor (List ℕ))). texts xs ++ ((get_or after j d).now ∷ texts (drop (j + 1) after))) (sym part) in
    record {
      before = texts (take i items);
      start = (get_or items i d).now;
      end = (get_or after j d).now;
      after = texts (drop (j + 1) after);
      split = sym e ∙ cut_at items i d first.0 ∙ ap (λ (r : List (List ℕ)). texts (take i items) ++ ((get_or items i d).now ∷ r)) rest;
      none_before = texts_All (λ line. IsStart line → ⊥) (take i items) (taken (λ line. IsStart line.now → ⊥) items i (omega (arith, first.0)) first.1);
      starts = first.2 d;
      none_inside = subst (λ (xs : List (Bor (List ℕ))). All (λ line. IsEnd line → ⊥) (texts xs)) (sym part) (texts_All (λ line. IsEnd line → ⊥) (take j after) (taken (λ line. IsEnd line.now → ⊥) after j (omega (arith, last.0)) last.1));
      ends = last.2 d;
      number_is = omega (arith, number, texts-length (take i items), length-take-le i items (omega (arith, first.0)));
    }

pub whole_rest : {X : Type 0} (xs : List X) (n : ℕ) → take (length xs - n) (drop n xs) ≡ drop n xs
whole_rest xs n = take_all (length xs - n) (drop n xs) (omega (arith, length-drop n xs))

pub whole_front : {X : Type 0} (xs : List X) (n : ℕ) → take (n - 0) xs ≡ take n xs
whole_front xs n = let e : n - 0 ≡ n = omega arith in ap (λ (k : ℕ). take k xs) e
