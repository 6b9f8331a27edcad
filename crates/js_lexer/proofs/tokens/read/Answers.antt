use Rattle.std.proofs.Common.{◌+◌, sym, refl, length}
use Rattle.base_text.specs.declared.memory.OrMemory.TheVariants as memory
use Rattle.js_lexer.specs.declared.token_at_front.Front.TheVariants as front
use Rattle.js_lexer.specs.TokenAtFrontModel.{at_front}
use Rattle.js_lexer.proofs.Whole.{fault_within}
use Rattle.js_lexer.proofs.Loop.{gap_so_far, word_so_far, fault_so_far, end_so_far, gap_left, word_left, front_shown, error_shown, not_empty, is_empty, bound_at, le_of, place_told}
use Rattle.js_lexer.proofs.tokens.read.Goals as goal

pub place_after-at-requires-clause-part : goal.place_after-at-requires-clause-part
place_after-at-requires-clause-part c =
    le_of _ _ (gap_left c.loop-left.left.now c.in-Ok-Gap.rest.now c.in-Ok-Gap.breaks
    (front_shown (at_front c.loop-left.left.now) c.in-Ok-Gap.field-0 (front.Gap c.in-Ok-Gap.breaks c.in-Ok-Gap.rest) c.in-Ok-Gap.ensures c.in-Ok-Gap.field-0-is))

pub loop-left-smaller-in-Ok-Gap : goal.loop-left-smaller-in-Ok-Gap
loop-left-smaller-in-Ok-Gap c =
    gap_left c.loop-left.left.now c.in-Ok-Gap.rest.now c.in-Ok-Gap.breaks
    (front_shown (at_front c.loop-left.left.now) c.in-Ok-Gap.field-0 (front.Gap c.in-Ok-Gap.breaks c.in-Ok-Gap.rest) c.in-Ok-Gap.ensures c.in-Ok-Gap.field-0-is)

pub loop-left-preserved-in-Ok-Gap : goal.loop-left-preserved-in-Ok-Gap
loop-left-preserved-in-Ok-Gap c =
    gap_so_far _ _ c.loop-left.at c.place_after-at.result c.loop-left.line_before c.in-Ok-Gap.breaks c.loop-left.tokens c.loop-left.left.now c.in-Ok-Gap.rest.now c.loop-left.invariant
    (front_shown (at_front c.loop-left.left.now) c.in-Ok-Gap.field-0 (front.Gap c.in-Ok-Gap.breaks c.in-Ok-Gap.rest) c.in-Ok-Gap.ensures c.in-Ok-Gap.field-0-is)
    c.place_after-at.ensures

pub place_after-to-requires-clause-part : goal.place_after-to-requires-clause-part
place_after-to-requires-clause-part c =
    le_of _ _ (word_left c.loop-left.left.now c.in-Ok-Token.rest.now c.in-Ok-Token.kind c.in-Ok-Token.text
    (front_shown (at_front c.loop-left.left.now) c.in-Ok-Token.field-0 (front.Token c.in-Ok-Token.kind c.in-Ok-Token.text c.in-Ok-Token.rest) c.in-Ok-Token.ensures c.in-Ok-Token.field-0-is))

pub loop-left-smaller : goal.loop-left-smaller
loop-left-smaller c =
    word_left c.loop-left.left.now c.in-Ok-Token.rest.now c.in-Ok-Token.kind c.in-Ok-Token.text
    (front_shown (at_front c.loop-left.left.now) c.in-Ok-Token.field-0 (front.Token c.in-Ok-Token.kind c.in-Ok-Token.text c.in-Ok-Token.rest) c.in-Ok-Token.ensures c.in-Ok-Token.field-0-is)

pub loop-left-preserved : goal.loop-left-preserved
loop-left-preserved c =
    word_so_far _ _ c.loop-left.at c.place_after-to.result c.loop-left.line_before c.in-Ok-Token.kind c.in-Ok-Token.text c.loop-left.tokens c.push.new.self _ c.loop-left.left.now c.in-Ok-Token.rest.now
    c.loop-left.invariant
    (front_shown (at_front c.loop-left.left.now) c.in-Ok-Token.field-0 (front.Token c.in-Ok-Token.kind c.in-Ok-Token.text c.in-Ok-Token.rest) c.in-Ok-Token.ensures c.in-Ok-Token.field-0-is)
    c.place_after-to.ensures refl c.in_ok-push-in-Ok-Token.ensures.ok

pub fault_at-requires : goal.fault_at-requires
fault_at-requires c =
    rw c.in-Err-Fault.field-0-is
    (bound_at _ _ c.loop-left.at _ c.in-Err-Fault.fault.on c.loop-left.line_before c.loop-left.tokens c.loop-left.left.now c.loop-left.invariant c.requires
    (fault_within c.loop-left.left.now c.in-Err-Fault.fault.on c.in-Err-Fault.fault.kind
    (error_shown (at_front c.loop-left.left.now) c.in-Err-Fault.field-0 (memory.Fault c.in-Err-Fault.fault) c.in-Err-Fault.ensures c.in-Err-Fault.field-0-is)))

pub returns-in-Err-Fault : goal.returns-in-Err-Fault
returns-in-Err-Fault c =
    place_told _ c.fault_at.result (c.loop-left.at + c.in-Err-Fault.fault.on) c.in-Err-Fault.fault.kind
    (fault_so_far _ _ c.loop-left.at c.in-Err-Fault.fault.on _ c.loop-left.line_before c.in-Err-Fault.fault.kind c.loop-left.tokens c.loop-left.left.now c.loop-left.invariant
    (not_empty c.loop-left.left.now (sym c.loop-left-test.ensures))
    (error_shown (at_front c.loop-left.left.now) c.in-Err-Fault.field-0 (memory.Fault c.in-Err-Fault.fault) c.in-Err-Fault.ensures c.in-Err-Fault.field-0-is) refl)
    (rw c.in-Err-Fault.field-0-is at c.fault_at.ensures)

pub returns : goal.returns
returns c =
    end_so_far _ _ c.loop-left.at c.loop-left.line_before c.loop-left.tokens c.push-2.new.self c.in_ok-end_at.field-0 c.loop-left.left.now c.loop-left.invariant
    (is_empty (length c.loop-left.left.now) (sym c.loop-left-test.ensures)) c.in_ok-end_at.ensures c.in_ok-push.ensures.ok
