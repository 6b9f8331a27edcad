use Rattle.small_forms.proofs.PageFronts.{page_ascii, scripts_ascii, title_ascii}
use Rattle.small_forms.proofs.page.pages_are_ascii.Goals as goal

pub returns : goal.returns
returns c =
    record {
      bytes = λ bytes page is. page_ascii bytes page is;
      title = λ bytes page is. title_ascii page.title is.titled;
      scripts = λ bytes page is. scripts_ascii page.scripts is.scripted;
    }
