use Rattle.std.proofs.Common.{◌≤◌, length}
use denote.Text.{Utf8}
use denote.Shadow.{shadow}
use Rattle.page_text.specs.TagsModel.{AreNamed, Given}
use Rattle.page_text.proofs.tags.attributes.Given as goal

abbrev pub invariant-loop-failed : goal.invariant-loop-failed
invariant-loop-failed l = shadow (Utf8 l.rest) × (length l.rest ≤ length l.text) × Given l.start l.found.items l.rest l.text × AreNamed l.found.items l.names

abbrev pub decreases-loop-failed : goal.decreases-loop-failed
decreases-loop-failed l = length l.rest
