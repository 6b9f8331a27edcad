-- Which fault of a call stands for which refusal.
use Rattle.std.specs.Prelude.{◌≡◌, ◌↔◌, Option, Some, Result, IsErrOf}
use Rattle.door.specs.declared.requests.ErrorKind.{ErrorKind}
use Rattle.door.specs.declared.requests.ErrorKind.TheVariants as kinds
use Rattle.dom_tree.specs.declared.form.TreeFault.{TreeFault}
use Rattle.dom_tree.specs.declared.form.TreeFault.TheVariants.{NodeLimit, Hierarchy, NotFound, TooDeep, TooLong, NoMemory}

-- a call is refused for a cause other than memory exactly as this refusal says
pub record Refuses {A : Type 0} (result : Result A TreeFault) (refusal : Option ErrorKind) : Type 0 where
  pub node_limit : IsErrOf result NodeLimit ↔ (refusal ≡ Some kinds.Limit)
  pub hierarchy : IsErrOf result Hierarchy ↔ (refusal ≡ Some kinds.Hierarchy)
  pub not_found : IsErrOf result NotFound ↔ (refusal ≡ Some kinds.NotFound)
  pub too_deep : IsErrOf result TooDeep ↔ (refusal ≡ Some kinds.TooDeep)
  pub too_long : IsErrOf result TooLong ↔ (refusal ≡ Some kinds.TooLong)

-- want of memory is never answered
abbrev pub NeedsNone : {A : Type 0} → Result A TreeFault → Type 0
NeedsNone result = ¬ IsErrOf result NoMemory

-- want of memory, or the fault that this refusal is
abbrev pub IsDue : TreeFault → Option ErrorKind → Type 0
IsDue NodeLimit refusal = refusal ≡ Some kinds.Limit
IsDue Hierarchy refusal = refusal ≡ Some kinds.Hierarchy
IsDue NotFound refusal = refusal ≡ Some kinds.NotFound
IsDue TooDeep refusal = refusal ≡ Some kinds.TooDeep
IsDue TooLong refusal = refusal ≡ Some kinds.TooLong
IsDue NoMemory refusal = Unit {0}
