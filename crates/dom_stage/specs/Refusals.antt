-- Which answer refuses a request for which fault of the tree.
use Rattle.std.specs.Prelude.{◌≡◌}
use Rattle.door.specs.declared.requests.Answer.{Answer}
use Rattle.door.specs.declared.requests.Answer.TheVariants.{Throw}
use Rattle.door.specs.declared.requests.ErrorKind.TheVariants as kinds
use Rattle.dom_tree.specs.declared.form.TreeFault.{TreeFault}
use Rattle.dom_tree.specs.declared.form.TreeFault.TheVariants as fault

-- the answer throws the error that stands for the fault; none stands for want of memory
abbrev pub IsRefusedBy : TreeFault → Answer → Type 0
IsRefusedBy fault.NodeLimit a = a ≡ Throw kinds.Limit
IsRefusedBy fault.Hierarchy a = a ≡ Throw kinds.Hierarchy
IsRefusedBy fault.NotFound a = a ≡ Throw kinds.NotFound
IsRefusedBy fault.TooDeep a = a ≡ Throw kinds.TooDeep
IsRefusedBy fault.TooLong a = a ≡ Throw kinds.TooLong
IsRefusedBy fault.NoMemory a = ⊥
