-- To take the nearest ancestor that fits loses nothing.
use Rattle.std.proofs.Common.{◌≡◌, ◌≢◌, ◌-◌, ◌+◌, ◌<◌, ◌≤◌, length, take, drop, get_or, ℕ, Bool, true, false, List, [], ◌∷◌, ◌++◌, refl, ap, sym, ◌∙◌, cond, arith}
use Rattle.std.specs.Prelude.{◌&&◌, ◌||◌, Option, Some, reverse}
use Rattle.std.specs.Option.{option_map_or}
use Rattle.std.specs.List.{position_from}
use Rattle.std.proofs.lemmas.List.{reverse-append, take-append-drop, drop_more, at_drop_all}
use Prim.Native.Nat.{zero, suc}
use Rattle.dom_semantics.specs.Forest.{Forest, Node, parent_of, up_from, ancestors_of, is_among}
use Rattle.dom_semantics.specs.declared.selectors.Compound.{Compound}
use Rattle.dom_semantics.specs.SelectorFits.{fits_compound, fits_among, fits_inwards, fits_chain}

or_true : (b : Bool) → (b || true) ≡ true
or_true true = refl
or_true false = refl

-- what fits among nodes fits with one node before them
among_with : (f : Forest) (cs : List Compound) (n : ℕ) (nodes : List ℕ) → fits_among f cs nodes ≡ true → fits_among f cs (n ∷ nodes) ≡ true
among_with f [] n nodes h = refl
among_with f (c ∷ cs) n nodes h = ap (λ b. (fits_compound f c n && fits_among f cs nodes) || b) h ∙ or_true (fits_compound f c n && fits_among f cs nodes)

either_way : (a b x : Bool) → ((a && b) || x) ≡ true → (x ≡ true → b ≡ true) → b ≡ true
either_way true true x h more = refl
either_way true false x h more = more h
either_way false b x h more = more h

-- and without the first compound too
among_without : (f : Forest) (c : Compound) (cs : List Compound) (nodes : List ℕ) → fits_among f (c ∷ cs) nodes ≡ true → fits_among f cs nodes ≡ true
among_without f c cs [] h = absurd (cc)
among_without f c cs (n ∷ nodes) h =
    among_with f cs n nodes (either_way (fits_compound f c n) (fits_among f cs nodes) (fits_among f (c ∷ cs) nodes) h (among_without f c cs nodes))

nearest : (b x : Bool) → (x ≡ true → b ≡ true) → (b || x) ≡ b
nearest true x h = refl
nearest false true h = absurd (cc (h refl))
nearest false false h = refl

-- one step upwards
pub fits_step : (f : Forest) (c : Compound) (cs : List Compound) (n : ℕ) (nodes : List ℕ) (b : Bool) → fits_compound f c n ≡ b
    → fits_among f (c ∷ cs) (n ∷ nodes) ≡ fits_among f (cond b cs (c ∷ cs)) nodes
fits_step f c cs n nodes true e =
    ap (λ x. (x && fits_among f cs nodes) || fits_among f (c ∷ cs) nodes) e ∙ nearest (fits_among f cs nodes) (fits_among f (c ∷ cs) nodes) (among_without f c cs nodes)
fits_step f c cs n nodes false e = ap (λ x. (x && fits_among f cs nodes) || fits_among f (c ∷ cs) nodes) e

pub reverse_last : (cs : List Compound) (c : Compound) → reverse (cs ++ c ∷ []) ≡ c ∷ reverse cs
reverse_last cs c = reverse-append cs (c ∷ [])

pub up_more : (steps : ℕ) (f : Forest) (n : ℕ) → steps ≢ 0 → up_from steps f n ≡ option_map_or (λ p. p ∷ up_from (steps - 1) f p) (parent_of f n) []
up_more zero f n ne = absurd (ne refl)
up_more (suc steps) f n ne = let same : steps ≡ suc steps - 1 = omega arith in ap (λ k. option_map_or (λ p. p ∷ up_from k f p) (parent_of f n) []) same

-- no step is left, or there is no parent
pub none_up : (f : Forest) (cs outer : List Compound) (c : Compound) (nodes : List ℕ) → cs ≡ outer ++ c ∷ [] → nodes ≡ [] → false ≡ fits_among f (reverse cs) nodes
none_up f cs outer c nodes split empty =
    sym (ap (λ x. fits_among f (reverse x) nodes) split ∙ (ap (λ x. fits_among f x nodes) (reverse_last outer c) ∙ ap (fits_among f (c ∷ reverse outer)) empty))

-- the parent fits the compound, or is passed over
pub some_up : (f : Forest) (cs outer : List Compound) (c : Compound) (n p steps : ℕ) (b : Bool) → cs ≡ outer ++ c ∷ [] → steps ≢ 0 → parent_of f n ≡ Some p → fits_compound f c p ≡ b
    → fits_among f (reverse cs) (up_from steps f n) ≡ fits_among f (reverse (cond b outer cs)) (up_from (steps - 1) f p)
some_up f cs outer c n p steps true split ne parent e =
    ap (λ x. fits_among f (reverse x) (up_from steps f n)) split ∙ (ap (λ x. fits_among f x (up_from steps f n)) (reverse_last outer c)
    ∙ (ap (fits_among f (c ∷ reverse outer)) (up_more steps f n ne ∙ ap (λ x. option_map_or (λ q. q ∷ up_from (steps - 1) f q) x []) parent)
    ∙ fits_step f c (reverse outer) p (up_from (steps - 1) f p) true e))
some_up f cs outer c n p steps false split ne parent e =
    ap (λ x. fits_among f (reverse x) (up_from steps f n)) split ∙ (ap (λ x. fits_among f x (up_from steps f n)) (reverse_last outer c)
    ∙ (ap (fits_among f (c ∷ reverse outer)) (up_more steps f n ne ∙ ap (λ x. option_map_or (λ q. q ∷ up_from (steps - 1) f q) x []) parent)
    ∙ (fits_step f c (reverse outer) p (up_from (steps - 1) f p) false e
    ∙ (ap (λ x. fits_among f x (up_from (steps - 1) f p)) (sym (reverse_last outer c)) ∙ ap (λ x. fits_among f (reverse x) (up_from (steps - 1) f p)) (sym split)))))

drop_past : (cs : List Compound) (i : ℕ) → length cs ≤ i → drop i cs ≡ []
drop_past cs i h = at_drop_all (λ (x : List Compound). x) cs i h

-- the compounds before the last, and the last
pub last_split : (cs : List Compound) (d : Compound) → 1 ≤ length cs → cs ≡ take (length cs - 1) cs ++ get_or cs (length cs - 1) d ∷ []
last_split cs d some =
    let lt : length cs - 1 < length cs = omega arith in
    let all : length cs ≤ length cs - 1 + 1 = omega arith in
    sym (take-append-drop (length cs - 1) cs) ∙ ap (λ r. take (length cs - 1) cs ++ r) (drop_more cs (length cs - 1) d lt ∙ ap (λ r. get_or cs (length cs - 1) d ∷ r) (drop_past cs (length cs - 1 + 1) all))

-- the last one, as it was read
pub last_read : (cs : List Compound) (x : Compound) → 1 ≤ length cs → x ≡ get_or cs (length cs - 1) x → cs ≡ take (length cs - 1) cs ++ x ∷ []
last_read cs x some e = last_split cs x some ∙ ap (λ y. take (length cs - 1) cs ++ y ∷ []) (sym e)

position_step : (b : Bool) (i more p : ℕ) (rest : Option ℕ) → cond b (Some i) rest ≡ Some p → (rest ≡ Some p → p < i + suc more) → p < i + suc more
position_step true i more p rest e h = let same : i ≡ p = cc in omega arith
position_step false i more p rest e h = h e

position_below : (t : Node → Bool) (i : ℕ) (xs : Forest) (p : ℕ) → position_from t i xs ≡ Some p → p < i + length xs
position_below t i [] p e = absurd (cc)
position_below t i (x ∷ xs) p e = position_step (t x) i (length xs) p (position_from t (i + 1) xs) e (λ h. let below = position_below t (i + 1) xs p h in omega arith)

-- a parent is a node
pub parent-known : (f : Forest) (n p : ℕ) → Some p ≡ parent_of f n → p < length f
parent-known f n p e = let below = position_below (λ (node : Node). is_among n node.children) 0 f p (sym e) in omega arith

pub chain_end : (f : Forest) (cs : List Compound) (n : ℕ) → length cs < 1 → false ≡ fits_chain f cs n
chain_end f [] n h = refl
chain_end f (c ∷ cs) n h = absurd (omega arith)

-- the last compound and those before it
pub chain_last : (f : Forest) (cs outer : List Compound) (c : Compound) (n : ℕ) → cs ≡ outer ++ c ∷ [] → fits_chain f cs n ≡ (fits_compound f c n && fits_among f (reverse outer) (ancestors_of f n))
chain_last f cs outer c n split = ap (λ x. fits_inwards f (reverse x) n) split ∙ ap (λ x. fits_inwards f x n) (reverse_last outer c)
