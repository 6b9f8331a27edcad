-- What stands of the count of regular expressions that were too big after a fault.
use Rattle.std.specs.Prelude.{◌≡◌, ℕ, Result, Ok, Err, IfErr, refl}
use Rattle.std.proofs.Common.{sym, subst, inl, inr}
use Rattle.metadata_block.specs.Block.{KeepsCount}
use Rattle.metadata_block.specs.BlockModel.{rule_fault}
use Rattle.metadata_block.specs.declared.block.MetaFault.{MetaFault}
use Rattle.metadata_block.specs.declared.block.MetaFault.TheVariants as fault
use Rattle.url_rules.specs.Reads.{refused_by}
use Rattle.url_rules.specs.declared.read.RuleFault.{RuleFault}
use Rattle.url_rules.specs.declared.read.RuleFault.TheVariants as rule

-- the fault of a rule
pub rule_kept : (before after line : ℕ) (f : RuleFault) (g : MetaFault) → g ≡ rule_fault f line → after ≡ refused_by before (Err f) → KeepsCount before after g
rule_kept before after line rule.BadPattern g is exact = subst (KeepsCount before after) (sym is) (inl exact)
rule_kept before after line rule.PatternSyntax g is exact = subst (KeepsCount before after) (sym is) (inl exact)
rule_kept before after line rule.PatternTooBig g is exact = subst (KeepsCount before after) (sym is) (inr exact)
rule_kept before after line rule.NoMemory g is exact = subst (KeepsCount before after) (sym is) exact

-- a count that is as before, whatever the fault
pub same_kept : (before after : ℕ) (f : MetaFault) → after ≡ before → KeepsCount before after f
same_kept before after fault.NoBlock e = e
same_kept before after fault.NoEnd e = e
same_kept before after fault.NoName e = e
same_kept before after (fault.BadRunAt line) e = e
same_kept before after (fault.BadGrant line) e = e
same_kept before after (fault.BadRule line) e = inl e
same_kept before after fault.NoMemory e = e

pub untouched : {T : Type 0} (r : Result T MetaFault) (count : ℕ) → IfErr r (KeepsCount count count)
untouched (Ok t) count = tt
untouched (Err f) count = same_kept count count f refl

-- counts that are those of another count
pub kept_since : (a b c : ℕ) (f : MetaFault) → a ≡ b → KeepsCount b c f → KeepsCount a c f
kept_since a b c f same h = subst (λ (n : ℕ). KeepsCount n c f) (sym same) h
