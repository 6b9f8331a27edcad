use Rattle.std.proofs.Common.{take}
use Rattle.outside.specs.Contents.{IsFolder, files_of}
use Rattle.outside.proofs.quiet.is_folder.Given as goal

abbrev pub invariant-loop-place : goal.invariant-loop-place
invariant-loop-place l = IsFolder (files_of (take l.place l.files))
