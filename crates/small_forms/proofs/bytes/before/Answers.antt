use Rattle.std.proofs.lemmas.Bool.Decides.{Decides-eqb}
use Rattle.std.proofs.lemmas.Slice.Eq.{strip_suffix_is}
use Rattle.small_forms.proofs.Options.{split_option}
use Rattle.small_forms.proofs.bytes.before.Goals as goal

pub returns : goal.returns
returns c =
    let parts = split_option _ _ c.strip_suffix.result (strip_suffix_is Decides-eqb c.args.bytes.now c.args.suffix.now c.strip_suffix.result c.strip_suffix.ensures.cases) in
    record { some = parts.0; none = parts.1 }
