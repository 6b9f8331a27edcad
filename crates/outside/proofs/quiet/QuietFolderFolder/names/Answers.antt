use Rattle.std.proofs.Common.{arith, length, ◌≤◌}
use Rattle.std.proofs.lemmas.List.{take_all}
use Rattle.outside.proofs.Names.{AreNamesOf-names_of}
use Rattle.outside.proofs.quiet.QuietFolderFolder.names.Goals as goal

pub returns-clause-names : goal.returns-clause-names
returns-clause-names c =
    let whole : length c.deref-file-items.result.now ≤ c.loop-file.file-index = omega arith in
    rw (c.loop-file.invariant, take_all _ _ whole, c.deref-file-items.ensures.value, ← c.self.view_is) (AreNamesOf-names_of _ c.self.invariant.distinct)
