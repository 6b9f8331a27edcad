-- No node of a forest is so deep that its text would be cut.
use Rattle.std.proofs.Common.{◌≡◌, ap, ap₂, refl, ℕ, zero, suc, ◌+◌, ◌<◌, Bool, true, false, List, [], ◌∷◌, ◌++◌, arith}
use Rattle.std.specs.Prelude.{nat_eq, ◌||◌}
use Rattle.std.specs.List.{flat_map}
use Rattle.std.proofs.lemmas.Bool.{eq-eqb}
use Rattle.dom_semantics.specs.Forest.{DEPTH_LIMIT, Forest, IsForest, attributes_of, children_of, depth_of, form_at, is_among, is_child}
use Rattle.dom_tree.proofs.Parents.{depth_of-some, own_parents}
use Rattle.page_text.specs.Printed.{IsPrintedWhole, around, printed, printed_levels, stands_raw}

or_left : (a b : Bool) → a ≡ true → (a || b) ≡ true
or_left a b e = rw e refl

or_right : (a b : Bool) → b ≡ true → (a || b) ≡ true
or_right true b e = refl
or_right false b e = e

-- what is printed of each child alike is alike of all
all_same : (g h : ℕ → List ℕ) (cs : List ℕ) → ((c : ℕ) → is_among c cs ≡ true → g c ≡ h c) → flat_map g cs ≡ flat_map h cs
all_same g h [] same = refl
all_same g h (c ∷ cs) same =
    ap₂ (λ (a b : List ℕ). a ++ b) (same c (or_left (nat_eq c c) (is_among c cs) (eq-eqb c c refl))) (all_same g h cs (λ d e. same d (or_right (nat_eq d c) (is_among d cs) e)))

child_depth : (f : Forest) → IsForest f → (n c : ℕ) → is_child f n c ≡ true → depth_of f c ≡ suc (depth_of f n)
child_depth f h n c e = depth_of-some f h c n ((own_parents f h).up n c e)

-- one level more changes nothing where the levels reach the limit
enough : (f : Forest) → IsForest f → (levels n : ℕ) → DEPTH_LIMIT < depth_of f n + levels → printed_levels levels f n ≡ printed_levels (suc levels) f n
enough f h zero n deep = absurd (omega (arith, h.shallow n, deep))
enough f h (suc levels) n deep =
    ap (λ xs. around (stands_raw f n) (form_at f n) (attributes_of f n) xs)
    (all_same (λ c. printed_levels levels f c) (λ c. printed_levels (suc levels) f c) (children_of f n)
    (λ c e. enough f h levels c (omega (arith, child_depth f h n c e, deep))))

pub printed_whole : (f : Forest) (n : ℕ) → IsForest f → IsPrintedWhole f n
printed_whole f n h =
    ap (λ xs. around (stands_raw f n) (form_at f n) (attributes_of f n) xs)
    (all_same (λ c. printed_levels DEPTH_LIMIT f c) (λ c. printed f c) (children_of f n)
    (λ c e. enough f h DEPTH_LIMIT c (omega (arith, child_depth f h n c e))))
