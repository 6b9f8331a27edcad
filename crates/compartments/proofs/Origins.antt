-- A walk over the origins that have to be among others.
use Rattle.std.proofs.Common.{◌≡◌, ◌↔◌, ℕ, ◌+◌, ◌<◌, ◌≤◌, Bool, true, false, List, IsTrue, All, Contains}
use Rattle.std.proofs.Common.{length, take, slice_index_or, sym, subst}
use Rattle.std.proofs.lemmas.List.{take_all}
use Rattle.std.proofs.lemmas.List.Elements.{All-more}
use Rattle.compartments.specs.Principals.{Subsumes}
use Rattle.compartments.specs.declared.principals.Principal.{Principal}
use Rattle.compartments.specs.declared.principals.Principal.TheVariants.{Expanded}

-- one that isn't among them is missing
pub one_is_missing : (os ps : List (List ℕ)) (i : ℕ) (o : List ℕ) (r : Bool) → i < length ps → o ≡ slice_index_or ps i o
    → (IsTrue r ↔ Contains os o) → r ≡ false → All (Contains os) ps → IsTrue false
one_is_missing os ps i o r lt is h missing all = subst IsTrue missing (h.1 (subst (Contains os) (sym is) (all i o lt)))

-- one more is among them
pub one_more_is_there : (os ps : List (List ℕ)) (i : ℕ) (o : List ℕ) (r : Bool) → i < length ps → o ≡ slice_index_or ps i o
    → (IsTrue r ↔ Contains os o) → r ≡ true → All (Contains os) (take i ps) → All (Contains os) (take (i + 1) ps)
one_more_is_there os ps i o r lt is h there all = All-more (Contains os) ps i o lt all (subst (Contains os) is (h.0 there))

-- all are among them
pub all_are_there : (os ps : List (List ℕ)) (i : ℕ) → length ps ≤ i → All (Contains os) (take i ps) → All (Contains os) ps
all_are_there os ps i le all = subst (All (Contains os)) (take_all i ps le) all

-- the rights of an expanded principal over another
pub expanded_over : (os ps a b : List (List ℕ)) (q : Principal) (r : Bool) → q ≡ Expanded ps → a ≡ os → b ≡ ps
    → (IsTrue r ↔ All (Contains a) b) → IsTrue r ↔ Subsumes (Expanded os) q
expanded_over os ps a b q r is ea eb h = rw is (rw (ea, eb) at h)
