use Rattle.std.specs.Prelude.{◌≡◌, ◌∷◌, []}
use Rattle.std.specs.Str.{chars}
use Rattle.js_primitive_functions.proofs.SingleScalars.{one_char}
use Rattle.js_primitive_functions.proofs.scalars.single.Goals as goal

pub returns : goal.returns
returns c =
    let one : chars c.encode_utf8-text.result.now ≡ c.args.scalar ∷ [] =
    one_char c.args.scalar c.encode_utf8-text.result.now c.encode_utf8-text.utf8 c.encode_utf8-text.ensures.value in
    rw one at c.text_of.ensures
