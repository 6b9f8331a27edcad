use Rattle.std.proofs.Common.{◌≡◌, ◌∙◌, sym, true, refl}
use Rattle.std.specs.String.{string_bytes}
use Rattle.page_host.specs.Words.{is_plain}
use Rattle.page_host.proofs.Commands.{filter_about, not_single, some_length}
use Rattle.page_host.proofs.words.only_plain.Goals as goal

pub returns-then-is_some-clause-none : goal.returns-then-is_some-clause-none
returns-then-is_some-clause-none c word single =
    let plain : is_plain (string_bytes c.word-item.result) ≡ true = rw (sym c.as_str-word.ensures.value, sym c.has_dash.ensures, c.if-not-has_dash.true) refl in
    let about = filter_about is_plain string_bytes c.args.options.now c.loop-word.word-index c.word-item.result c.loop-word-test.true c.word-item.is plain in
    not_single _ _ _ _ word about (some_length _ c.loop-word.found c.loop-word.invariant (sym c.is_some.ensures ∙ c.if-is_some.true)) single
