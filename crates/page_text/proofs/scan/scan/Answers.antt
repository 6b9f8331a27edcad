use Rattle.std.proofs.lemmas.Str.{IsUtf8-drop}
use Rattle.page_text.proofs.Scanning.{boundary}
use Rattle.page_text.proofs.scan.scan.Goals as goal

pub split_at-requires : goal.split_at-requires
split_at-requires c = boundary c.args.stop c.args.text.now c.place.result c.utf8.text c.requires (rw c.as_bytes.ensures.value at c.place.ensures.within) (rw c.as_bytes.ensures.value at c.place.ensures.front) (rw c.as_bytes.ensures.value at c.place.ensures.back)

pub returns-clause-utf8 : goal.returns-clause-utf8
returns-clause-utf8 c = rw c.split_at.ensures.back (IsUtf8-drop c.args.text.now c.place.result c.utf8.text (boundary c.args.stop c.args.text.now c.place.result c.utf8.text c.requires (rw c.as_bytes.ensures.value at c.place.ensures.within) (rw c.as_bytes.ensures.value at c.place.ensures.front) (rw c.as_bytes.ensures.value at c.place.ensures.back)))
