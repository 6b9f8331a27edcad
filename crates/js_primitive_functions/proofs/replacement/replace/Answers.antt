use Rattle.std.specs.Str.{chars}
use Rattle.js_primitive_functions.proofs.PartsBetween.{replaced_none, replaced_whole, three_lengths}
use Rattle.js_primitive_functions.proofs.replacement.replace.Goals as goal

pub returns-in-Some-clause-ok : goal.returns-in-Some-clause-ok
returns-in-Some-clause-ok c =
    let whole = replaced_whole c.args.text.now c.args.wanted.now c.args.by.now (chars c.as_str.result.now) (chars c.as_str-2.result.now) (chars c.as_str-in-Some.result.now)
    (chars c.in-Some.before.now) (chars c.in-Some.after.now) c.as_str.ensures.scalars c.as_str-2.ensures.scalars c.as_str-in-Some.ensures.scalars c.in-Some.ensures.cases in
    rw whole c.joined.ensures.ok

pub returns-in-Some-clause-too_long : goal.returns-in-Some-clause-too_long
returns-in-Some-clause-too_long c =
    let whole = replaced_whole c.args.text.now c.args.wanted.now c.args.by.now (chars c.as_str.result.now) (chars c.as_str-2.result.now) (chars c.as_str-in-Some.result.now)
    (chars c.in-Some.before.now) (chars c.in-Some.after.now) c.as_str.ensures.scalars c.as_str-2.ensures.scalars c.as_str-in-Some.ensures.scalars c.in-Some.ensures.cases in
    let bytes = three_lengths c.in-Some.before.now c.as_str-in-Some.result.now c.in-Some.after.now c.in-Some.ensures.texts.0 c.as_str-in-Some.utf8 c.in-Some.ensures.texts.1 in
    rw (whole, bytes) c.joined.ensures.too_long

pub returns-in-None-clause-ok : goal.returns-in-None-clause-ok
returns-in-None-clause-ok c =
    let whole = replaced_none c.args.text.now c.args.wanted.now c.args.by.now (chars c.as_str.result.now) (chars c.as_str-2.result.now)
    c.as_str.ensures.scalars c.as_str-2.ensures.scalars c.in-None.ensures.cases in
    rw whole c.kept.ensures.ok

pub returns-in-None-clause-too_long : goal.returns-in-None-clause-too_long
returns-in-None-clause-too_long c =
    let whole = replaced_none c.args.text.now c.args.wanted.now c.args.by.now (chars c.as_str.result.now) (chars c.as_str-2.result.now)
    c.as_str.ensures.scalars c.as_str-2.ensures.scalars c.in-None.ensures.cases in
    rw whole c.kept.ensures.too_long
