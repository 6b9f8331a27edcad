use Rattle.std.proofs.Common.{length}
use Rattle.js_lexer.specs.StringLiteralsModel.{decode}
use Rattle.js_lexer.proofs.Values.{so_far_push, so_far_none, so_far_end, rest_shorter}
use Rattle.js_lexer.proofs.escapes.decode.Goals as goal

pub loop-given-smaller-in_ok-push : goal.loop-given-smaller-in_ok-push
loop-given-smaller-in_ok-push c = rest_shorter c.loop-given.body.now c.in-Some.rest.now c.in-Some.given c.in-Some.ensures

pub loop-given-preserved-in_ok-push : goal.loop-given-preserved-in_ok-push
loop-given-preserved-in_ok-push c =
    so_far_push (decode (length c.args.body.now) c.args.body.now) _ _ c.loop-given.body.now c.in-Some.rest.now c.in-Some.given c.in-Some-given.c
    c.loop-given.invariant c.in-Some.ensures c.in-Some-given.is c.in_ok-push.ensures.bytes

pub loop-given-smaller : goal.loop-given-smaller
loop-given-smaller c = rest_shorter c.loop-given.body.now c.in-Some.rest.now c.in-Some.given c.in-Some.ensures

pub loop-given-preserved : goal.loop-given-preserved
loop-given-preserved c =
    so_far_none (decode (length c.args.body.now) c.args.body.now) _ c.loop-given.body.now c.in-Some.rest.now c.in-Some.given
    c.loop-given.invariant c.in-Some.ensures c.in_default-given.is

pub returns : goal.returns
returns c = so_far_end (decode (length c.args.body.now) c.args.body.now) _ c.loop-given.body.now c.loop-given.invariant c.in_default.ensures
