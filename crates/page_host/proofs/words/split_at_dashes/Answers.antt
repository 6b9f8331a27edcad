use Rattle.std.proofs.Common.{◌∙◌, sym, ap, arith, map, drop, ◌+◌, length-drop}
use Rattle.std.proofs.lemmas.List.{take-map, drop-map, take_all}
use Rattle.std.specs.String.{string_bytes}
use Rattle.page_host.proofs.words.split_at_dashes.Goals as goal

pub returns-then-at-words-clause-before : goal.returns-then-at-words-clause-before
returns-then-at-words-clause-before c = rw (sym c.dashes_at-at.ensures.exact) (sym (take-map string_bytes c.dashes_at-at.result c.args.words.now))

pub returns-then-at-words-clause-after : goal.returns-then-at-words-clause-after
returns-then-at-words-clause-after c =
    rw (sym c.dashes_at-at.ensures.exact)
    (ap (map string_bytes) (take_all _ (drop (c.dashes_at-at.result + 1) c.args.words.now) (simp length-drop (omega arith))) ∙ sym (drop-map string_bytes (c.dashes_at-at.result + 1) c.args.words.now))
