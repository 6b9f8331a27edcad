-- What private clauses say of grants that are alike, and of faults of rules. No claim rests on it: which grants stand beside which is
-- `Agrees` of `Block`, and which lines are refused its `Refuses`.
use Rattle.std.specs.Prelude.{ℕ, List, [], ◌∷◌, ⊤}
use Rattle.metadata_block.specs.Block.{Agrees, StandsBeside}
use Rattle.metadata_block.specs.declared.block.MetaFault.{MetaFault}
use Rattle.metadata_block.specs.declared.block.MetaFault.TheVariants as fault
use Rattle.metadata_block.specs.declared.meta.Grant.{Grant}
use Rattle.url_rules.specs.declared.read.RuleFault.{RuleFault}
use Rattle.url_rules.specs.declared.read.RuleFault.TheVariants as rule

-- the grants stand beside one another
abbrev pub AreAlike : List Grant → Type 0
AreAlike [] = ⊤
AreAlike (g ∷ gs) = Agrees gs g

-- the grant stands beside the first of those
abbrev pub AgreesFirst : List Grant → Grant → Type 0
AgreesFirst [] g = ⊤
AgreesFirst (h ∷ hs) g = StandsBeside h g

-- the fault of a line with this number whose rule is refused
abbrev pub rule_fault : RuleFault → ℕ → MetaFault
rule_fault rule.BadPattern line = fault.BadRule line
rule_fault rule.PatternSyntax line = fault.BadRule line
rule_fault rule.PatternTooBig line = fault.BadRule line
rule_fault rule.NoMemory line = fault.NoMemory
