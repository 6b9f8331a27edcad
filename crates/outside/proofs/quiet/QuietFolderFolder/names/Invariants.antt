use Rattle.std.proofs.Common.{◌≡◌, map, take}
use Rattle.std.specs.String.{string_bytes}
use Rattle.outside.specs.Contents.{files_of, names_of}
use Rattle.outside.proofs.quiet.QuietFolderFolder.names.Given as goal

abbrev pub invariant-loop-file : goal.invariant-loop-file
invariant-loop-file l =
    map string_bytes l.names.items ≡ names_of (files_of (take l.file-index l.file-items))
