use Rattle.std.specs.Str.{chars}
use Rattle.std.proofs.Common.{arith}
use Rattle.base_text.proofs.Utf8.{length-chars-le}
use Rattle.js_primitive_functions.proofs.PartsBetween.{first_part, last_part, one_more, only_part}
use Rattle.js_primitive_functions.proofs.parts.parts_between.Goals as goal

pub loop-before-preserved : goal.loop-before-preserved
loop-before-preserved c =
    let first = first_part (chars c.args.separator.now) (chars c.loop-before.rest.now) (chars c.in-Some.before.now) (chars c.in-Some.after.now) c.requires.some c.in-Some.ensures.cases in
    let told = one_more c.loop-before.parts _ _ _ _ c.loop-before.invariant.same first in
    record {
      text = c.in-Some.ensures.texts.1;
      same = rw (c.in_ok-push.ensures.ok, c.in_ok-part.ensures) told;
      within = omega (arith, c.in-Some.ensures.within, c.loop-before.invariant.within);
    }

pub loop-before-smaller : goal.loop-before-smaller
loop-before-smaller c = omega (arith, c.in-Some.ensures.within, c.requires.some, length-chars-le c.args.separator.now c.utf8.separator)

pub returns : goal.returns
returns c =
    let only = only_part (chars c.args.separator.now) (chars c.loop-before.rest.now) c.requires.some c.in_default.ensures.cases in
    let told = last_part c.loop-before.parts _ _ _ only c.loop-before.invariant.same in
    rw (c.in_ok-push-2.ensures.ok, c.in_ok-last.ensures) told
