use Rattle.std.proofs.Common.{◌≡◌, drop}
use Rattle.std.specs.List.{list_any}
use Rattle.std.specs.Str.{bytes_eq}
use Rattle.page_host.specs.Scripts.{names_in, userscripts_in}
use Rattle.page_host.proofs.scripts.has_name.Given as goal

abbrev pub invariant-loop-file : goal.invariant-loop-file
invariant-loop-file l = list_any (bytes_eq l.name) (names_in (userscripts_in l.scripts)) ≡ list_any (bytes_eq l.name) (names_in (userscripts_in (drop l.file-index l.scripts)))
