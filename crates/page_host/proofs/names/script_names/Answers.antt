use Rattle.std.proofs.Common.{rules}
use Rattle.std.proofs.lemmas.List.Elements.{filter_from_retain}
use Rattle.std.proofs.lemmas.List.Filters.{dedup_is}
use Rattle.std.specs.String.{string_bytes}
use Rattle.page_host.specs.Names.{is_userscript}
use Rattle.page_host.proofs.Sorting.{script_order}
use Rattle.page_host.proofs.names.script_names.Goals as goal

pub returns : goal.returns
returns c =
    script_order string_bytes _ _ _ _ (filter_from_retain _ (λ name. is_userscript (string_bytes name)) (λ p x b q k. search rules) _ _ _ c.retain.ensures.filtered) c.sort_unstable.ensures.permutation c.sort_unstable.ensures.sorted
    (dedup_is _ _ _ c.dedup.ensures.filtered)
