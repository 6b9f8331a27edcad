use Rattle.std.proofs.Common.{sym, ◌∙◌, ap, arith}
use Rattle.std.specs.Prelude.{ℕ, ◌+◌, position, slice_set}
use Rattle.std.proofs.lemmas.List.Quantifiers.{position-Some}
use Rattle.std.proofs.lemmas.Bool.{both_ways}
use Rattle.door.specs.declared.values.Actor.{Actor}
use Rattle.dom_tree.specs.Counts.{is_of, count_in}
use Rattle.dom_tree.proofs.CountLemmas.{count_in-first, count_in-raised, has_count-none}
use Rattle.dom_tree.proofs.counts.raise.Goals as goal

pub returns-in-Some : goal.returns-in-Some
returns-in-Some c other =
    let counts = c.args.counts.now.items in
    let p = position-Some (is_of c.args.maker) counts c.in-Some.at c.index_mut.result.now (ap (λ xs. position (is_of c.args.maker) xs) (sym c.deref.ensures.value) ∙ (sym c.place_of.ensures ∙ c.in-Some.is)) in
    ap (λ (e : Actor × ℕ). count_in (slice_set counts c.in-Some.at (e.0, e.1 + c.args.more)) other) c.index_mut.ensures.value
    ∙ count_in-raised counts c.args.maker c.in-Some.at c.args.more _ other p.0 p.1 p.2

pub returns-in_default : goal.returns-in_default
returns-in_default c other =
    absurd (both_ways _ (has_count-none c.args.counts.now.items c.args.maker (ap (λ xs. position (is_of c.args.maker) xs) (sym c.deref.ensures.value) ∙ (sym c.place_of.ensures ∙ c.in_default.is))) c.requires.there)

pub overflow_add-index_mut : goal.overflow_add-index_mut
overflow_add-index_mut c =
    let counts = c.args.counts.now.items in
    let p = position-Some (is_of c.args.maker) counts c.in-Some.at c.index_mut.result.now (ap (λ xs. position (is_of c.args.maker) xs) (sym c.deref.ensures.value) ∙ (sym c.place_of.ensures ∙ c.in-Some.is)) in
    let count = count_in-first counts c.args.maker c.in-Some.at c.index_mut.result.now p.0 p.1 p.2 ∙ ap (λ (e : Actor × ℕ). e.1) (sym c.index_mut.ensures.value) in
    omega (arith, c.requires.room)
