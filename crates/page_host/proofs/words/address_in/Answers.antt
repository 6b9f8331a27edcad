use Rattle.std.proofs.Common.{filter, map}
use Rattle.std.specs.String.{string_bytes}
use Rattle.page_host.specs.Words.{is_plain}
use Rattle.page_host.proofs.Commands.{one_word, not_one, flags_single}
use Rattle.page_host.proofs.words.address_in.Goals as goal

pub returns-else-are_flags-clause-none : goal.returns-else-are_flags-clause-none
returns-else-are_flags-clause-none c address single =
    flags_single _ _ _ c.are_flags.result c.are_flags.ensures c.if-are_flags.false (one_word string_bytes c.args.plain.now c.word-item.result c.in-len1.len_at_least c.in-len1.len_below c.word-item.is) single

pub returns-in-len2-up-clause-none : goal.returns-in-len2-up-clause-none
returns-in-len2-up-clause-none c address single =
    not_one string_bytes (filter is_plain (map string_bytes c.args.options.now)) c.args.plain.now address c.in-len2-up.len_at_least single
