-- Nodes that are listed in tree order.
use Rattle.std.proofs.Common.{◌≡◌, ◌<◌, ⊎_elim, ℕ, List, [], ◌∷◌, ◌++◌, length, ap, sym, subst, ◌∙◌, arith, append_assoc}
use Rattle.std.specs.Prelude.{All, IfOk, Result, Ok, Err}
use Rattle.std.specs.declared.vec.Vec.{Vec}
use Rattle.std.proofs.lemmas.List.{append-nil}
use Rattle.std.proofs.lemmas.List.Elements.{All-push}
use Rattle.dom_semantics.specs.Forest.{Forest}
use Rattle.dom_tree.specs.declared.form.NodeId.{NodeId}
use Rattle.dom_tree.specs.Folds.{TryFolds}
use Rattle.dom_tree.specs.Ids.{node_id}

-- each step puts its node last
abbrev pub PutsLast : {Z E : Type 0} → (Vec ℕ Z → NodeId → Result (Vec ℕ Z) E → Type 0) → Forest → Type 0
PutsLast {Z} {E} step f = (u : Vec ℕ Z) (n : ℕ) (q : Result (Vec ℕ Z) E) → n < length f → step u (node_id n) q → IfOk q (λ w. w.items ≡ u.items ++ n ∷ [])

-- all nodes are listed, after those that were, and are nodes
abbrev Listed : {Z E : Type 0} → Forest → List ℕ → Result (Vec ℕ Z) E → Type 0
Listed f ns r = IfOk r (λ w. (w.items ≡ ns) × All (λ m. m < length f) w.items)

listed-more : {Z E : Type 0} (f : Forest) (old new ns : List ℕ) (n : ℕ) (r : Result (Vec ℕ Z) E) → new ≡ old ++ n ∷ [] → Listed f (new ++ ns) r → Listed f (old ++ n ∷ ns) r
listed-more f old new ns n (Ok w) e h = (h.0 ∙ (ap (λ x. x ++ ns) e ∙ append_assoc old (n ∷ []) ns), h.1)
listed-more f old new ns n (Err x) e h = tt

listed : {Z E : Type 0} (step : Vec ℕ Z → NodeId → Result (Vec ℕ Z) E → Type 0) (f : Forest) (ns : List ℕ) (v : Vec ℕ Z) (r : Result (Vec ℕ Z) E)
    → TryFolds step f v ns r → PutsLast step f → All (λ m. m < length f) v.items → Listed f (v.items ++ ns) r
listed step f [] v r t puts known = rw t (sym (append-nil v.items), known)
listed step f (n ∷ ns) v r t puts known =
    ⊎_elim
    (λ (c, g, more).
    let e = puts v n (Ok c) t.0 g in
    listed-more f v.items c.items ns n r e (listed step f ns c r more puts (subst (All (λ m. m < length f)) (sym e) (All-push (λ m. m < length f) v.items n known t.0))))
    (λ (e, g, is). rw is tt)
    t.1

listed-new : {Z E : Type 0} (step : Vec ℕ Z → NodeId → Result (Vec ℕ Z) E → Type 0) (f : Forest) (ns : List ℕ) (v : Vec ℕ Z) (r : Result (Vec ℕ Z) E)
    → TryFolds step f v ns r → PutsLast step f → v.items ≡ [] → Listed f ns r
listed-new step f ns v r t puts none =
    let known : All (λ m. m < length f) v.items = subst (All (λ m. m < length f)) (sym none) (λ k d lt. absurd (omega (arith, lt))) in
    subst (λ xs. Listed f (xs ++ ns) r) none (listed step f ns v r t puts known)

first-part : {Z E : Type 0} (f : Forest) (ns : List ℕ) (r : Result (Vec ℕ Z) E) → Listed f ns r → IfOk r (λ w. w.items ≡ ns)
first-part f ns (Ok w) h = h.0
first-part f ns (Err e) h = tt

second-part : {Z E : Type 0} (f : Forest) (ns : List ℕ) (r : Result (Vec ℕ Z) E) → Listed f ns r → IfOk r (λ w. All (λ m. m < length f) w.items)
second-part f ns (Ok w) h = h.1
second-part f ns (Err e) h = tt

pub lists : {Z E : Type 0} (step : Vec ℕ Z → NodeId → Result (Vec ℕ Z) E → Type 0) (f : Forest) (ns : List ℕ) (v : Vec ℕ Z) (r : Result (Vec ℕ Z) E)
    → TryFolds step f v ns r → PutsLast step f → v.items ≡ [] → IfOk r (λ w. w.items ≡ ns)
lists step f ns v r t puts none = first-part f ns r (listed-new step f ns v r t puts none)

pub lists-known : {Z E : Type 0} (step : Vec ℕ Z → NodeId → Result (Vec ℕ Z) E → Type 0) (f : Forest) (ns : List ℕ) (v : Vec ℕ Z) (r : Result (Vec ℕ Z) E)
    → TryFolds step f v ns r → PutsLast step f → v.items ≡ [] → IfOk r (λ w. All (λ m. m < length f) w.items)
lists-known step f ns v r t puts none = second-part f ns r (listed-new step f ns v r t puts none)
