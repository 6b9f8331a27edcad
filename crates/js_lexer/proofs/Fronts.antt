-- What the reading of a run or a comment leaves, both ways.
use Rattle.std.proofs.Common.{◌≡◌, ℕ, ◌+◌, ◌-◌, Bool, true, false, ◌||◌, ◌&&◌, ◌==◌, cond, [], ◌∷◌, ◌++◌, length, take, drop, Option, Some, None, refl, sym, ap, ◌∙◌, arith}
use Rattle.std.proofs.Math.Seq.{take-append_seam}
use Rattle.std.proofs.lemmas.Bool.Decides.{nat_tests}
use Rattle.std.proofs.lemmas.List.{length-append}
use Rattle.js_syntax.specs.TokenScalars.{Scalars, AreAll, NotNext, is_line_end}
use Rattle.js_syntax.specs.TokenSpelling.{closes_comment, HasNoClose, has_line_end}
use Rattle.js_lexer.specs.RunsModel.{before, after, after_block}

-- what stands before the rest
pub before_is : (w rest : Scalars) → before (w ++ rest) rest ≡ w
before_is w rest =
    let count : length (w ++ rest) - length rest ≡ length w = omega (arith, length-append w rest) in
    ap (λ n. take n (w ++ rest)) count ∙ take-append_seam w rest

pub before_of : (text w rest : Scalars) → text ≡ w ++ rest → before text rest ≡ w
before_of text w rest e = ap (λ (t : Scalars). before t rest) e ∙ before_is w rest

pub length_of : (text w rest : Scalars) → text ≡ w ++ rest → length text ≡ length w + length rest
length_of text w rest e = ap length e ∙ length-append w rest

-- ---- runs

pub record Run (q : ℕ → Bool) (text rest : Scalars) : Type 0 where
  pub front : Scalars
  pub joins : text ≡ front ++ rest
  pub all : AreAll q front
  pub next : NotNext q rest

run_cons : (q : ℕ → Bool) (c : ℕ) (cs : Scalars) (b : Bool) → q c ≡ b → Run q cs (after q cs) → Run q (c ∷ cs) (cond b (after q cs) (c ∷ cs))
run_cons q c cs true h p = record { front = c ∷ p.front; joins = ap (λ (x : Scalars). c ∷ x) p.joins; all = (h, p.all); next = p.next }
run_cons q c cs false h p = record { front = []; joins = refl; all = tt; next = h }

pub after_is : (q : ℕ → Bool) (cs : Scalars) → Run q cs (after q cs)
unfolding after
after_is q [] = record { front = []; joins = refl; all = tt; next = tt }
after_is q (c ∷ cs) = run_cons q c cs (q c) refl (after_is q cs)

pub after_again : (q : ℕ → Bool) (a b : Scalars) → AreAll q a → NotNext q b → after q (a ++ b) ≡ b
unfolding after
after_again q [] [] all next = refl
after_again q [] (c ∷ cs) all next = ap (λ v. cond v (after q cs) (c ∷ cs)) next
after_again q (c ∷ a) b all next = ap (λ v. cond v (after q (a ++ b)) (c ∷ (a ++ b))) all.0 ∙ after_again q a b all.1 next

-- ---- comments

pub record Block (line : Bool) (text : Scalars) (found : Bool × Scalars) : Type 0 where
  pub inside : Scalars
  pub joins : text ≡ inside ++ 42 ∷ (47 ∷ found.1)
  pub open_ : HasNoClose inside
  pub breaks : found.0 ≡ (line || has_line_end inside)

abbrev pub Blocked : Bool → Scalars → Option (Bool × Scalars) → Type 0
Blocked line text None = HasNoClose text
Blocked line text (Some found) = Block line text found

or_assoc : (a b c : Bool) → ((a || b) || c) ≡ (a || (b || c))
or_assoc true b c = refl
or_assoc false b c = refl

or_false : (a : Bool) → (a || false) ≡ a
or_false true = refl
or_false false = refl

closes_nothing : (c : ℕ) (cs x y : Scalars) → closes_comment (c ∷ cs) ≡ false → cs ≡ x ++ 42 ∷ (47 ∷ y) → closes_comment (c ∷ x) ≡ false
closes_nothing c cs [] y h e = refl
closes_nothing c cs (z ∷ x) y h e = sym (ap (λ (t : Scalars). closes_comment (c ∷ t)) e) ∙ h

block_later : (line : Bool) (c : ℕ) (cs : Scalars) (o : Option (Bool × Scalars)) → closes_comment (c ∷ cs) ≡ false → Blocked (line || is_line_end c) cs o → Blocked line (c ∷ cs) o
block_later line c cs None h k = (h, k)
block_later line c cs (Some found) h k = record {
  inside = c ∷ k.inside;
  joins = ap (λ (x : Scalars). c ∷ x) k.joins;
  open_ = (closes_nothing c cs k.inside found.1 h k.joins, k.open_);
  breaks = k.breaks ∙ or_assoc line (is_line_end c) (has_line_end k.inside);
}

both_are : (c d : ℕ) → ((c == 42) && (d == 47)) ≡ true → (c ≡ 42) × (d ≡ 47)
both_are c d h = (grind (arith, nat_tests), grind (arith, nat_tests))

close_at : (c : ℕ) (cs : Scalars) → closes_comment (c ∷ cs) ≡ true → c ∷ cs ≡ 42 ∷ (47 ∷ drop 1 cs)
close_at c [] h = absurd cc
close_at c (d ∷ cs) h = let e = both_are c d h in ap (λ (x : ℕ). x ∷ (d ∷ cs)) e.0 ∙ ap (λ (x : ℕ). 42 ∷ (x ∷ cs)) e.1

block_cases : (line : Bool) (c : ℕ) (cs : Scalars) (b : Bool) → closes_comment (c ∷ cs) ≡ b → Blocked (line || is_line_end c) cs (after_block (line || is_line_end c) cs)
    → Blocked line (c ∷ cs) (cond b (Some (line, drop 1 cs)) (after_block (line || is_line_end c) cs))
block_cases line c cs true h k = record { inside = []; joins = close_at c cs h; open_ = tt; breaks = sym (or_false line) }
block_cases line c cs false h k = block_later line c cs (after_block (line || is_line_end c) cs) h k

pub block_is : (line : Bool) (cs : Scalars) → Blocked line cs (after_block line cs)
unfolding after_block
block_is line [] = tt
block_is line (c ∷ cs) = block_cases line c cs (closes_comment (c ∷ cs)) refl (block_is (line || is_line_end c) cs)

not_close : (c : ℕ) → ((c == 42) && (42 == 47)) ≡ false
not_close c = grind (arith, nat_tests)

open_front : (c : ℕ) (inside rest : Scalars) → closes_comment (c ∷ inside) ≡ false → closes_comment (c ∷ (inside ++ 42 ∷ (47 ∷ rest))) ≡ false
open_front c [] rest h = not_close c
open_front c (d ∷ inside) rest h = h

pub block_again : (line : Bool) (inside rest : Scalars) → HasNoClose inside → after_block line (inside ++ 42 ∷ (47 ∷ rest)) ≡ Some ((line || has_line_end inside), rest)
unfolding after_block
block_again line [] rest h = ap (λ b. Some (b, rest)) (sym (or_false line))
block_again line (c ∷ inside) rest h =
    ap (λ v. cond v (Some (line, drop 1 (inside ++ 42 ∷ (47 ∷ rest)))) (after_block (line || is_line_end c) (inside ++ 42 ∷ (47 ∷ rest)))) (open_front c inside rest h.0)
    ∙ block_again (line || is_line_end c) inside rest h.1
    ∙ ap (λ b. Some (b, rest)) (or_assoc line (is_line_end c) (has_line_end inside))

pub block_open : (line : Bool) (inside : Scalars) → HasNoClose inside → after_block line inside ≡ None
unfolding after_block
block_open line [] h = refl
block_open line (c ∷ inside) h =
    ap (λ v. cond v (Some (line, drop 1 inside)) (after_block (line || is_line_end c) inside)) h.0 ∙ block_open (line || is_line_end c) inside h.1
