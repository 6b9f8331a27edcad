use Rattle.std.proofs.Common.{arith, ap, sym, subst, ◌∙◌, length, codes}
use Rattle.small_forms.specs.Readers.{ends_sum}
use Rattle.small_forms.specs.Scripts.{part_text}
use Rattle.small_forms.proofs.SumFronts.{AreLeft, push_length, left-begin, left-added, left-more, left-end, added-none, read-more, are-more, shorter, first_none}
use Rattle.small_forms.proofs.Options.{false_true}
use Rattle.small_forms.proofs.sums.sum_in.Goals as goal

pub returns-in_default-clause-none : goal.returns-in_default-clause-none
returns-in_default-clause-none c sum rest is ends h =
    let none = rw c.in_default.is at c.in_ok-first.ensures.none in
    first_none c.args.bytes.now none sum rest is ends h

pub loop-added-init : goal.loop-added-init
loop-added-init c =
    let fact = rw c.in-Some.is at c.in_ok-first.ensures.some in
    record {
      front = rw c.new-more.ensures fact.0;
      first = fact.1;
      more = rw c.new-more.ensures tt;
      few = rw c.new-more.ensures (omega arith);
      only = λ sum end is ends h. rw c.new-more.ensures (left-begin c.args.bytes.now c.in-Some.first c.in-Some.rest.now sum end fact.0 fact.1 fact.2 is ends h);
      short = let less = shorter c.args.bytes.now (part_text c.in-Some.first) c.in-Some.rest.now fact.0 in omega (arith, c.requires, less);
    }

pub returns-in_default-2-clause-none : goal.returns-in_default-2-clause-none
returns-in_default-2-clause-none c sum rest is ends h =
    let none = rw c.in_default-2.is at c.in_ok-part.ensures.none in
    let left = left-added _ c.loop-added.rest.now c.in-Some-after.added.now c.in-Some-after.ensures.some (c.loop-added.invariant.only sum rest is ends h) in
    added-none _ c.in-Some-after.added.now none left

pub loop-added-preserved : goal.loop-added-preserved
loop-added-preserved c =
    let fact = rw c.in-Some-2.is at c.in_ok-part.ensures.some in
    let more = c.in_ok-push.ensures.ok in
    let long = push_length c.loop-added.more c.in-Some-2.part in
    record {
      front = rw more (read-more c.args.bytes.now _ c.loop-added.more c.loop-added.rest.now c.in-Some-after.added.now c.in-Some-2.part c.in-Some-2.left.now c.loop-added.invariant.front c.in-Some-after.ensures.some fact.0);
      first = c.loop-added.invariant.first;
      more = rw more (are-more c.loop-added.more c.in-Some-2.part c.loop-added.invariant.more fact.1);
      few = rw more (omega (arith, long, c.loop-added.invariant.few, c.len.ensures, c.if-len-eq-ADDED_LIMIT.false));
      only = λ sum end is ends h.
          let left = left-added _ c.loop-added.rest.now c.in-Some-after.added.now c.in-Some-after.ensures.some (c.loop-added.invariant.only sum end is ends h) in
          let next = left-more _ c.in-Some-after.added.now c.in-Some-2.part c.in-Some-2.left.now fact.0 fact.1 fact.2 left in
          subst (λ n. AreLeft n c.in-Some-2.left.now) (sym (ap length more ∙ long)) next;
      short =
          let after = shorter c.loop-added.rest.now (codes " + ") c.in-Some-after.added.now c.in-Some-after.ensures.some in
          let less = shorter c.in-Some-after.added.now (part_text c.in-Some-2.part) c.in-Some-2.left.now fact.0 in
          omega (arith, c.loop-added.invariant.short, after, less);
    }

pub returns-clause-none : goal.returns-clause-none
returns-clause-none c sum rest is ends h =
    false_true (ends_sum c.loop-added.rest.now) (sym c.is_end.ensures ∙ c.if-is_end.false) (left-end _ c.loop-added.rest.now c.in_default-after.ensures.none (c.loop-added.invariant.only sum rest is ends h))
