use Rattle.std.proofs.Common.{◌∙◌, sym, ap, rules}
use Rattle.std.specs.Str.{chars}
use Rattle.std.proofs.lemmas.Str.{chars-IsAscii, encodes-IsAscii}
use Rattle.std.proofs.Math.Utf8.{encodes}
use Rattle.js_semantics.specs.Properties.{length_key}
use Rattle.js_objects.proofs.Keys.{eq_alike}
use Rattle.js_objects.proofs.key.is_length.Goals as goal

pub returns : goal.returns
returns c = c.eq.ensures ∙ eq_alike c.as_str.result.now length_key c.args.key.now length_key
    (λ s. sym c.as_str.ensures.scalars ∙ (ap (λ bs. chars bs) s ∙ chars-IsAscii length_key (search rules)))
    (λ s. c.as_str.ensures.bytes ∙ (ap (λ bs. encodes bs) s ∙ encodes-IsAscii length_key (search rules)))
