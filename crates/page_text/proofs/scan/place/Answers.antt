use Rattle.std.proofs.Common.{◌<◌, ◌+◌, ◌++◌, [], ◌∷◌, length, get_or, take, drop, sym, ap, ◌∙◌, arith, append_assoc, append-nil}
use Rattle.std.proofs.lemmas.List.{take_more, drop_all, take_all}
use Rattle.page_text.specs.ScansModel.{before, stops}
use Rattle.page_text.proofs.Scanning.{before_here, from_here, before_next, from_next, before_none, from_none}
use Rattle.page_text.proofs.scan.place.Goals as goal

pub returns-then-holds-clause-front : goal.returns-then-holds-clause-front
returns-then-holds-clause-front c =
    let text = c.args.text.now in
    let here = sym (rw c.split_at.ensures.back at c.holds.ensures) ∙ c.if-holds.true in
    sym (append-nil (take c.loop-i.i text)) ∙ sym (ap (λ xs. take c.loop-i.i text ++ xs) (before_here (stops c.args.stop) (drop c.loop-i.i text) here)) ∙ c.loop-i.invariant.front

pub returns-then-holds-clause-back : goal.returns-then-holds-clause-back
returns-then-holds-clause-back c =
    let text = c.args.text.now in
    let here = sym (rw c.split_at.ensures.back at c.holds.ensures) ∙ c.if-holds.true in
    sym (from_here (stops c.args.stop) (drop c.loop-i.i text) here) ∙ c.loop-i.invariant.back

pub loop-i-preserved : goal.loop-i-preserved
loop-i-preserved c =
    let text = c.args.text.now in
    let i = c.loop-i.i in
    let q = stops c.args.stop in
    let h : i < length text = omega arith in
    let here = sym (rw c.split_at.ensures.back at c.holds.ensures) ∙ c.if-holds.false in
    record {
      front = rw (take_more text i 0 h, append_assoc (take i text) (get_or text i 0 ∷ []) (before q (drop (i + 1) text)), ← before_next q text i h here) c.loop-i.invariant.front;
      back = sym (from_next q text i h here) ∙ c.loop-i.invariant.back;
    }

pub returns-clause-front : goal.returns-clause-front
returns-clause-front c =
    let text = c.args.text.now in
    let i = c.loop-i.i in
    let e = before_none (stops c.args.stop) text i (omega arith) in
    take_all (length text) text (omega arith) ∙ sym (take_all i text (omega arith)) ∙ sym (append-nil (take i text)) ∙ sym (ap (λ xs. take i text ++ xs) e) ∙ c.loop-i.invariant.front

pub returns-clause-back : goal.returns-clause-back
returns-clause-back c =
    let text = c.args.text.now in
    let e = from_none (stops c.args.stop) text c.loop-i.i (omega arith) in
    drop_all (length text) text (omega arith) ∙ sym e ∙ c.loop-i.invariant.back
