use Rattle.std.proofs.Common.{arith, ℕ, ◌+◌, drop}
use Rattle.std.proofs.lemmas.Result.{err_from_is_err_and}
use Rattle.small_meaning.specs.Rows.{follow, lines_row}
use Rattle.small_eval.proofs.Rows.{adds_item, ends_follow, lines_item, lines_over, stands_at}
use Rattle.small_eval.proofs.Sound.{goes_on, headed_of, keeps_none, keeps_then, room_of, small_limit, sound_of}
use Rattle.small_eval.proofs.evaluate.lines.Goals as goal

pub loop-next-init : goal.loop-next-init
loop-next-init c = (keeps_none _ _ _ _ c.requires.sound (omega arith), λ s c' h. h)

pub line-requires-clause-sound : goal.line-requires-clause-sound
line-requires-clause-sound c = sound_of _ _ _ _ _ c.loop-next.invariant.0

pub line-requires-clause-headed : goal.line-requires-clause-headed
line-requires-clause-headed c = headed_of _ _ _ _ _ c.loop-next.invariant.0 c.requires.headed

pub line-requires-clause-adds : goal.line-requires-clause-adds
line-requires-clause-adds c = adds_item c.args.lines.now c.loop-next.next-index _ c.requires.adds c.loop-next-test.true c.next-item.is

pub line-requires-clause-room : goal.line-requires-clause-room
line-requires-clause-room c = room_of _ _ _ _ _ c.loop-next.invariant.0 c.requires.room

pub line-requires-clause-limit : goal.line-requires-clause-limit
line-requires-clause-limit c = small_limit _ _ _ _ _ _ c.loop-next.invariant.0 c.requires.limit

pub returns-in_err-line-clause-own : goal.returns-in_err-line-clause-own
returns-in_err-line-clause-own c = λ s c' h.
    let k : ℕ → _ = lines_row c.args.zone (drop (c.loop-next.next-index + 1) c.args.lines.now) c' in
    let here = stands_at _ _ _ _ _ (lines_item c.args.zone c.args.lines.now c.loop-next.next-index _ c' c.loop-next.fuel c.loop-next-test.true c.next-item.is) (c.loop-next.invariant.1 s c' h) in
    let p = err_from_is_err_and c.from_residual.result c.from_residual.ensures.1 in
    rw (p.1, p.2) (ends_follow s _ _ _ k c' _ (c.in_err-line.ensures.own s (follow k c') here))

pub returns-in_err-line-clause-keeps : goal.returns-in_err-line-clause-keeps
returns-in_err-line-clause-keeps c = λ g. let p = err_from_is_err_and c.from_residual.result c.from_residual.ensures.1 in
    keeps_then _ _ _ _ _ _ _ c.loop-next.invariant.0 (c.in_err-line.ensures.keeps (goes_on (Unit {0}) _ _ _ p.1 p.2 g))

pub loop-next-preserved : goal.loop-next-preserved
loop-next-preserved c = (
  keeps_then _ _ _ _ _ _ _ c.loop-next.invariant.0 (c.in_ok-line.ensures.keeps _),
  λ s c' h.
      let k : ℕ → _ = lines_row c.args.zone (drop (c.loop-next.next-index + 1) c.args.lines.now) c' in
      let here = stands_at _ _ _ _ _ (lines_item c.args.zone c.args.lines.now c.loop-next.next-index _ c' c.loop-next.fuel c.loop-next-test.true c.next-item.is) (c.loop-next.invariant.1 s c' h) in
      c.in_ok-line.ensures.own s (follow k c') here,
)

pub returns-clause-own : goal.returns-clause-own
returns-clause-own c = λ s c' h. stands_at _ _ _ _ _ (lines_over c.args.zone c.args.lines.now c.loop-next.next-index c' c.loop-next.fuel c.loop-next-test.false) (c.loop-next.invariant.1 s c' h)

pub returns-clause-keeps : goal.returns-clause-keeps
returns-clause-keeps c = λ g. c.loop-next.invariant.0
