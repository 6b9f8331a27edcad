use Rattle.std.proofs.lemmas.Bool.Decides.{Decides-eqb}
use Rattle.std.proofs.lemmas.Slice.Eq.{strip_prefix_is}
use Rattle.small_forms.proofs.Options.{split_option}
use Rattle.small_forms.proofs.bytes.after.Goals as goal

pub returns : goal.returns
returns c =
    let parts = split_option _ _ c.strip_prefix.result (strip_prefix_is Decides-eqb c.args.bytes.now c.args.prefix.now c.strip_prefix.result c.strip_prefix.ensures.cases) in
    record { some = parts.0; none = parts.1 }
