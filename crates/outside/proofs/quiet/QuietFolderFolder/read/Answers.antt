use Rattle.outside.proofs.Names.{bytes_of_found}
use Rattle.outside.proofs.quiet.QuietFolderFolder.read.Goals as goal

pub returns-in_default-clause-bytes : goal.returns-in_default-clause-bytes
returns-in_default-clause-bytes c =
    rw (← c.self.view_is) (bytes_of_found _ c.args.name.now _ (rw c.deref.ensures.value at c.in_default.ensures))

pub returns-clause-bytes : goal.returns-clause-bytes
returns-clause-bytes c =
    rw (← c.self.view_is, c.in_ok-from_slice.ensures.items, c.deref-2.ensures.value)
    (bytes_of_found _ c.args.name.now _ (rw c.deref.ensures.value at c.in-Some.ensures))
