use Rattle.page_text.proofs.Reading.{line_last, line_kept, line_ended, line_smaller}
use Rattle.std.specs.String.{string_bytes}
use Rattle.std.proofs.Common.{◌∙◌, ◌++◌, sym, ap, arith}
use Rattle.page_text.proofs.values.with_line_ends.Goals as goal

pub returns-in-None : goal.returns-in-None
returns-in-None c = line_last _ c.args.raw.now _ _ _ (string_bytes c.push_str.new.self) c.loop-read.invariant.1 c.scan.ensures.front c.scan.ensures.back c.in_ok-push_str.ensures.bytes c.in-None.ensures

pub loop-read-smaller-in_ok-push-in-Some : goal.loop-read-smaller-in_ok-push-in-Some
loop-read-smaller-in_ok-push-in-Some c = line_smaller _ c.args.raw.now _ _ _ _ c.loop-read.invariant.1 c.scan.ensures.front c.scan.ensures.back c.in_ok-push_str.ensures.bytes _ c.in-Some.ensures.whole

pub loop-read-preserved-in_ok-push-in-Some : goal.loop-read-preserved-in_ok-push-in-Some
loop-read-preserved-in_ok-push-in-Some c =
    (c.in-Some.ensures.utf8, line_ended _ c.args.raw.now _ _ _ _ c.loop-read.invariant.1 c.scan.ensures.front c.scan.ensures.back c.in_ok-push_str.ensures.bytes _ (string_bytes c.push.new.self) c.in-Some.ensures.whole (sym (rw c.as_bytes.ensures.value at c.sees.ensures) ∙ c.if-not-sees.true) (c.in_ok-push-in-Some.ensures.bytes ∙ ap (λ x. string_bytes c.push_str.new.self ++ x) (c.in_ok-push-in-Some.ensures.ascii (omega arith))))

pub loop-read-smaller : goal.loop-read-smaller
loop-read-smaller c = line_smaller _ c.args.raw.now _ _ _ _ c.loop-read.invariant.1 c.scan.ensures.front c.scan.ensures.back c.in_ok-push_str.ensures.bytes _ c.in-Some.ensures.whole

pub loop-read-preserved : goal.loop-read-preserved
loop-read-preserved c =
    (c.in-Some.ensures.utf8, line_kept _ c.args.raw.now _ _ _ _ c.loop-read.invariant.1 c.scan.ensures.front c.scan.ensures.back c.in_ok-push_str.ensures.bytes _ c.in-Some.ensures.whole (sym (rw c.as_bytes.ensures.value at c.sees.ensures) ∙ c.if-not-sees.false))
