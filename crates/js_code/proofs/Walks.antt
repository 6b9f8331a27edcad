-- What a walk over statements gathers: where no level is left, of one statement, and of a whole body.
use Rattle.std.proofs.Common.{◌≡◌, ◌≢◌, ℕ, zero, suc, ◌+◌, ◌-◌, ◌<◌, List, [], ◌∷◌, ◌++◌, length, get_or, take, refl, sym, ap, subst, ◌∙◌, append_assoc, arith}
use Rattle.std.proofs.lemmas.List.{append-nil, take_more}
use Rattle.std.specs.Prelude.{map}
use Rattle.std.specs.List.{flat_map}
use Rattle.js_syntax.specs.declared.limits.TheConstants.{LEVEL_LIMIT}
use Rattle.js_syntax.specs.declared.tree.Declaration.{Declaration}
use Rattle.js_syntax.specs.declared.tree.Stmt.{Stmt, out-Stmt}
use Rattle.js_semantics.specs.Bodies.{functions, inner, joined, names_of, own_functions, own_names, var_names, within}
use Rattle.js_code.specs.Walks.{functions_within, names_within}

gathered-append : {A B : Type 0} (f : A → List B) (xs ys : List A) → joined (map f (xs ++ ys)) ≡ joined (map f xs) ++ joined (map f ys)
gathered-append f [] ys = refl
gathered-append f (x ∷ xs) ys = ap (λ r. f x ++ r) (gathered-append f xs ys) ∙ sym (append_assoc (f x) (joined (map f xs)) (joined (map f ys)))

gathered-parts : {A B C : Type 0} (f : B → List C) (g : A → List B) (xs : List A) → joined (map f (joined (map g xs))) ≡ flat_map (λ x. joined (map f (g x))) xs
gathered-parts f g [] = refl
gathered-parts f g (x ∷ xs) = gathered-append f (g x) (joined (map g xs)) ∙ ap (λ r. joined (map f (g x)) ++ r) (gathered-parts f g xs)

gathered-more : {A : Type 0} (own : Stmt → List A) (levels : ℕ) (s : Stmt) → levels ≢ 0
    → joined (map own (within levels s)) ≡ own s ++ flat_map (λ x. joined (map own (within (levels - 1) x))) (inner (out-Stmt s))
unfolding within
gathered-more own zero s ne = absurd (ne refl)
gathered-more own (suc n) s ne =
    let same : suc n - 1 ≡ n = omega arith in
    subst (λ k. joined (map own (within (suc n) s)) ≡ own s ++ flat_map (λ x. joined (map own (within k x))) (inner (out-Stmt s))) (sym same)
    (ap (λ r. own s ++ r) (gathered-parts own (within n) (inner (out-Stmt s))))

pub names-none : (levels : ℕ) (s : Stmt) → levels ≡ 0 → names_within levels s ≡ []
unfolding names_within within
names-none levels s e = ap (λ n. names_within n s) e

pub functions-none : (levels : ℕ) (s : Stmt) → levels ≡ 0 → functions_within levels s ≡ []
unfolding functions_within within
functions-none levels s e = ap (λ n. functions_within n s) e

pub names-more : (levels : ℕ) (s : Stmt) → levels ≢ 0 → names_within levels s ≡ own_names (out-Stmt s) ++ flat_map (names_within (levels - 1)) (inner (out-Stmt s))
unfolding names_within
names-more levels s ne = gathered-more (λ x. own_names (out-Stmt x)) levels s ne

pub functions-more : (levels : ℕ) (s : Stmt) → levels ≢ 0
    → functions_within levels s ≡ own_functions (out-Stmt s) ++ flat_map (functions_within (levels - 1)) (inner (out-Stmt s))
unfolding functions_within
functions-more levels s ne = gathered-more (λ x. own_functions (out-Stmt x)) levels s ne

pub names-body : (body : List Stmt) → flat_map (names_within LEVEL_LIMIT) body ≡ var_names body
unfolding names_within
names-body body = sym (gathered-parts (λ x. own_names (out-Stmt x)) (within LEVEL_LIMIT) body)

pub functions-body : (body : List Stmt) → flat_map (functions_within LEVEL_LIMIT) body ≡ functions body
unfolding functions_within
functions-body body = sym (gathered-parts (λ x. own_functions (out-Stmt x)) (within LEVEL_LIMIT) body)

-- what is added where nothing is found
pub kept : {A : Type 0} (old found : List A) → found ≡ [] → old ≡ old ++ found
kept old found e = sym (ap (λ r. old ++ r) e ∙ append-nil old)

-- what is added one after the other
pub added : {A : Type 0} (old mid new first rest found : List A) → found ≡ first ++ rest → mid ≡ old ++ first → new ≡ mid ++ rest → new ≡ old ++ found
added old mid new first rest found e p q = q ∙ (ap (λ r. r ++ rest) p ∙ (append_assoc old first rest ∙ ap (λ r. old ++ r) (sym e)))

names_of-append : (ds es : List Declaration) → names_of (ds ++ es) ≡ names_of ds ++ names_of es
names_of-append [] es = refl
names_of-append (d ∷ ds) es = ap (λ r. d.name ∷ r) (names_of-append ds es)

-- the names of one declaration more
pub names_of-more : (old mid new : List (List ℕ)) (ds : List Declaration) (i : ℕ) (d : Declaration) → i < length ds → d ≡ get_or ds i d
    → mid ≡ old ++ names_of (take i ds) → new ≡ mid ++ d.name ∷ [] → new ≡ old ++ names_of (take (i + 1) ds)
names_of-more old mid new ds i d lt is p q =
    let next : take (i + 1) ds ≡ take i ds ++ d ∷ [] = take_more ds i d lt ∙ ap (λ x. take i ds ++ x ∷ []) (sym is) in
    added old mid new (names_of (take i ds)) (d.name ∷ []) (names_of (take (i + 1) ds)) (ap names_of next ∙ names_of-append (take i ds) (d ∷ [])) p q
