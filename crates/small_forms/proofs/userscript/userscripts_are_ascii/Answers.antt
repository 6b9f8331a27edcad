use Rattle.small_forms.specs.declared.bytes.Class.TheVariants.{Alphanumeric}
use Rattle.small_forms.proofs.AsciiTexts.{inside_ascii}
use Rattle.small_forms.proofs.RawTexts.{userscript_ascii}
use Rattle.small_forms.proofs.Userscripts.{few_lines}
use Rattle.small_forms.proofs.userscript.userscripts_are_ascii.Goals as goal

pub returns : goal.returns
returns c =
    record {
      text = λ text name lines is. userscript_ascii text name lines is;
      name = λ text name lines is. inside_ascii Alphanumeric name is.named.inside;
      lines = λ text name lines is. few_lines text name lines is;
    }
