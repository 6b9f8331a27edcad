use Rattle.std.proofs.Common.{◌≡◌, map, take, length, IfSome}
use Rattle.std.specs.String.{string_bytes}
use Rattle.outside.specs.Contents.{AreDistinct}
use Rattle.page_host.specs.Scripts.{AreHeld, AreScripts, files_in, names_in, userscripts_in}
use Rattle.page_host.proofs.scripts.scripts_in.Given as goal

abbrev pub invariant-loop-name : goal.invariant-loop-name
invariant-loop-name g l = record {
  same : g.F.Folder.files l.folder ≡ g.F.Folder.files l.fn.folder;
  steady : g.F.Folder.faults l.folder ≡ g.F.Folder.faults l.fn.folder;
  named : files_in l.scripts.items ≡ take l.name-index (map string_bytes l.files);
  held : IfSome (g.F.Folder.files l.fn.folder) (λ all. AreHeld all (take l.name-index (map string_bytes l.files)) (userscripts_in l.scripts.items));
  count : length (userscripts_in l.scripts.items) ≡ l.name-index;
  forms : AreScripts (userscripts_in l.scripts.items);
  distinct : AreDistinct (names_in (userscripts_in l.scripts.items));
}
