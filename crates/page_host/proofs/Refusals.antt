-- The first refusal is one, and there is none where words and files are of the form.
use Rattle.std.proofs.Common.{◌≡◌, ◌∙◌, ap, sym, List, ℕ, [], ◌∷◌, inl, inr}
use Rattle.outside.specs.Contents.{Files}
use Rattle.page_host.specs.Names.{counted}
use Rattle.page_host.specs.Steps.{Step, ReadWords, BuiltWords, FewScripts, NoEvents, PageThere, BuiltPage, BuiltScripts, IsFaultAt, IsFirstFault, AllWanted}
use Rattle.page_host.specs.declared.faults.HostFault.{HostFault}
use Rattle.page_host.specs.declared.faults.HostFault.TheVariants.{TooManyScripts}
use Rattle.page_host.proofs.NameLists.{one_order}

same_fault : (files : Files) (step : Step) (a b : HostFault) → IsFaultAt files step a → IsFaultAt files step b → a ≡ b
same_fault files ReadWords a b x y = x ∙ sym y
same_fault files BuiltWords a b x y = x ∙ sym y
same_fault files FewScripts a b (names, is, x) (others, are, y) = x ∙ ap (λ l. TooManyScripts (counted l)) (one_order files names others is are) ∙ sym y
same_fault files NoEvents a b x y = x ∙ sym y
same_fault files PageThere a b x y = x ∙ sym y
same_fault files BuiltPage a b x y = x ∙ sym y
same_fault files BuiltScripts a b x y = x ∙ sym y

pub one_fault : (words : List (List ℕ)) (files : Files) (steps : List Step) (a b : HostFault) → IsFirstFault words files steps a → IsFirstFault words files steps b → a ≡ b
unfolding IsFirstFault
one_fault words files [] a b x y = absurd x
one_fault words files (step ∷ steps) a b (inl x) (inl y) = same_fault files step a b x.1 y.1
one_fault words files (step ∷ steps) a b (inl x) (inr y) = absurd (x.0 y.0)
one_fault words files (step ∷ steps) a b (inr x) (inl y) = absurd (y.0 x.0)
one_fault words files (step ∷ steps) a b (inr x) (inr y) = one_fault words files steps a b x.1 y.1

pub no_fault : (words : List (List ℕ)) (files : Files) (steps : List Step) (a : HostFault) → AllWanted words files steps → IsFirstFault words files steps a → ⊥
unfolding IsFirstFault AllWanted
no_fault words files [] a h x = x
no_fault words files (step ∷ steps) a h (inl x) = x.0 h.0
no_fault words files (step ∷ steps) a h (inr x) = no_fault words files steps a h.1 x.1
