use Rattle.std.proofs.Common.{refl, arith}
use Rattle.page_text.specs.ValuesModel.{entity_at}
use Rattle.page_text.proofs.Reading.{reads_entity}
use Rattle.page_text.proofs.values.entity.Goals as goal

pub returns-in-Some : goal.returns-in-Some
unfolding entity_at
returns-in-Some c = reads_entity _ c.args.text.now 38 4 c.in-Some.rest c.in-Some.ensures refl (omega arith) (rw c.in-Some.ensures.spelled refl)

pub returns-in-Some-after : goal.returns-in-Some-after
unfolding entity_at
returns-in-Some-after c = reads_entity _ c.args.text.now 60 3 c.in-Some-after.rest c.in-Some-after.ensures refl (omega arith) (rw (c.in_default.ensures, c.in-Some-after.ensures.spelled) refl)

pub returns-in-Some-after-2 : goal.returns-in-Some-after-2
unfolding entity_at
returns-in-Some-after-2 c = reads_entity _ c.args.text.now 62 3 c.in-Some-after-2.rest c.in-Some-after-2.ensures refl (omega arith) (rw (c.in_default.ensures, c.in_default-after.ensures, c.in-Some-after-2.ensures.spelled) refl)

pub returns-in-Some-after-3 : goal.returns-in-Some-after-3
unfolding entity_at
returns-in-Some-after-3 c = reads_entity _ c.args.text.now 34 5 c.in-Some-after-3.rest c.in-Some-after-3.ensures refl (omega arith) (rw (c.in_default.ensures, c.in_default-after.ensures, c.in_default-after-2.ensures, c.in-Some-after-3.ensures.spelled) refl)

pub returns-in-Some-after-4 : goal.returns-in-Some-after-4
unfolding entity_at
returns-in-Some-after-4 c = reads_entity _ c.args.text.now 39 5 c.in-Some-after-4.rest c.in-Some-after-4.ensures refl (omega arith) (rw (c.in_default.ensures, c.in_default-after.ensures, c.in_default-after-2.ensures, c.in_default-after-3.ensures, c.in-Some-after-4.ensures.spelled) refl)

pub returns : goal.returns
unfolding entity_at
returns c = rw (c.in_default.ensures, c.in_default-after.ensures, c.in_default-after-2.ensures, c.in_default-after-3.ensures, c.in_default-after-4.ensures) refl
