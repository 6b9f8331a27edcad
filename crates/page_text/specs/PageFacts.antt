-- Some pages, what they spell, and some first faults. The expected values are this project's own.
use Rattle.std.specs.Prelude.{◌≡◌, List, [], ◌∷◌, ◌++◌, Some, None, codes}
use Rattle.page_text.specs.declared.faults.PageKind.TheVariants.{Unclosed, BadTag, WrongEnd}
use Rattle.page_text.specs.Nodes.{the_document, thing_of, element_writes, text_writes}
use Rattle.page_text.specs.PageNodes.{NoNodes, Element, Text, Comment, pieces_of}
use Rattle.page_text.specs.PageGrammar.{IsDocument}
use Rattle.page_text.specs.PageFaults.{IsFault}

pub record ArePages : Type 0 where
  -- names are in lower case, and a void element has no end tag
  pub nested : IsDocument (codes "<A><br></a>") (Element (codes "a") [] (Element (codes "br") [] NoNodes NoNodes) NoNodes)
  -- an entity and a line end in the text of a title
  pub titled : IsDocument (codes "<title>&lt;" ++ (13 ∷ (10 ∷ codes "</title>"))) (Element (codes "title") [] (Text (60 ∷ (10 ∷ [])) NoNodes) NoNodes)
  -- doctypes and white space at the top make no node
  pub declared : IsDocument (codes "<!doctype a> <!--b--><br>") (Comment (codes "b") (Element (codes "br") [] NoNodes NoNodes))
  -- of two attributes of one name the first counts
  pub attributed : IsDocument (codes "<br b=1 B='2'>") (Element (codes "br") (record { name = codes "b"; value = codes "1" } ∷ []) NoNodes NoNodes)

pub record AreFaults : Type 0 where
  -- nothing is open that the end tag could end
  pub no_start : IsFault (codes "</a>") NoNodes WrongEnd (codes "</a>")
  -- the innermost open element is told, at its start tag
  pub innermost : IsFault (codes "<a><p>") (Element (codes "a") [] (Element (codes "p") [] NoNodes NoNodes) NoNodes) Unclosed (codes "<p>")
  -- the end tag of another name
  pub other_name : IsFault (codes "<a></b>") (Element (codes "a") [] NoNodes NoNodes) WrongEnd (codes "</b>")
  -- what has another byte inside is no end tag
  pub other_byte : IsFault (codes "<a></b x>") (Element (codes "a") [] NoNodes NoNodes) BadTag (codes "x>")
