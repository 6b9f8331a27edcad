use Rattle.std.proofs.Common.{IsTrue, List, ℕ, sym, subst}
use Rattle.std.specs.List.{list_all}
use Rattle.std.specs.Char.{is_ascii}
use Rattle.small_forms.specs.declared.bytes.Class.TheVariants.{Alphanumeric}
use Rattle.small_forms.proofs.AsciiTexts.{inside_ascii}
use Rattle.small_forms.proofs.RawTexts.{userscript_ascii}
use Rattle.small_forms.proofs.userscript.userscript_in.Goals as goal

pub text_of-requires-clause-ascii : goal.text_of-requires-clause-ascii
text_of-requires-clause-ascii c =
    let is = rw c.in-Some.is at c.in_ok-name.ensures.some in
    inside_ascii Alphanumeric c.in-Some.name.now is.named.inside

pub source_of-requires-clause-ascii : goal.source_of-requires-clause-ascii
source_of-requires-clause-ascii c =
    let is = rw c.in-Some.is at c.in_ok-name.ensures.some in
    userscript_ascii c.args.bytes.now c.in-Some.name.now _ is

pub returns-clause-ascii : goal.returns-clause-ascii
returns-clause-ascii c =
    let is = rw c.in-Some.is at c.in_ok-name.ensures.some in
    let P : List ℕ → Type 0 = λ xs. IsTrue (list_all is_ascii xs) in (
      subst P (sym c.in_ok-name-2.ensures) (inside_ascii Alphanumeric c.in-Some.name.now is.named.inside),
      subst P (sym c.in_ok-text.ensures) (userscript_ascii c.args.bytes.now c.in-Some.name.now _ is),
    )
