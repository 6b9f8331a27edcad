use Rattle.std.proofs.Common.{◌≡◌, ◌<◌, ◌≤◌, ◌+◌, ℕ, List, length, drop, get_or, arith, ap, sym, subst, ◌∙◌}
use Rattle.std.specs.Prelude.{Err}
use Rattle.dom_query.specs.declared.fault.SelectorFault.{SelectorFault}
use Rattle.dom_query.specs.declared.kind.Kind.{Kind}
use Rattle.dom_query.specs.declared.built.Built.{Built}
use Rattle.dom_query.specs.ReadingModel.{run, build, Tells}
use Rattle.dom_query.proofs.Firsts.{whole, stops_here, goes_on, ends_here}
use Rattle.dom_query.proofs.parse.read.Goals as goal

pub returns-in_default : goal.returns-in_default
returns-in_default c =
    let text = c.args.s.now in
    let lt : c.loop-at.at < length text = omega (arith, c.count-at-end.ensures.exact) in
    let is = c.index-text-at.is ∙ ap (λ (xs : List ℕ). get_or xs c.loop-at.at c.index-text-at.result) c.requires in
    subst (λ (e : SelectorFault). Tells (whole text) (length text) (Err e)) (sym c.bad.ensures)
    (stops_here text c.loop-at.state c.loop-at.at c.loop-at.built c.index-text-at.result lt is (sym c.next.ensures.exact ∙ c.in_default.is) c.loop-at.invariant.read)

pub loop-at-preserved : goal.loop-at-preserved
loop-at-preserved c =
    let text = c.args.s.now in
    let at = c.loop-at.at in
    let lt : at < length text = omega (arith, c.count-at-end.ensures.exact) in
    let is = c.index-text-at.is ∙ ap (λ (xs : List ℕ). get_or xs at c.index-text-at.result) c.requires in
    let built = c.in_ok-build.ensures ∙ ap (λ (kind : Kind). build text c.loop-at.state at kind c.loop-at.built) c.kind_of.ensures in
    record {
      placed = c.in-Some.ensures.placed c.loop-at.invariant.placed;
      read = ap (λ (x : Built). run text c.in-Some.later (at + 1) x (drop (at + 1) text)) built
          ∙ goes_on text c.loop-at.state c.in-Some.later at c.loop-at.built c.index-text-at.result lt is (sym c.next.ensures.exact ∙ c.in-Some.is) c.loop-at.invariant.read;
    }

pub returns : goal.returns
returns c =
    let text = c.args.s.now in
    let same : c.loop-at.at ≡ length text = omega (arith, c.count-at-end.ensures.exact) in
    let past : length text ≤ length text = omega arith in
    ends_here text c.loop-at.state (length text) c.loop-at.built c.finish.result past
    (subst (λ (n : ℕ). run text c.loop-at.state n c.loop-at.built (drop n text) ≡ whole text) same c.loop-at.invariant.read) c.finish.ensures
