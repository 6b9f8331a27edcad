use Rattle.std.proofs.Common.{arith, ap, sym, refl, subst, ◌∙◌, ◌≡◌, ◌++◌, length, codes}
use Rattle.std.proofs.lemmas.Slice.Eq.{bytes_eq-Decides}
use Rattle.std.specs.List.{flat_map}
use Rattle.small_forms.proofs.Options.{false_true}
use Rattle.small_forms.specs.Pages.{element_text}
use Rattle.small_forms.proofs.PageFronts.{AreLeft, are-more, elements_read, left-element, left-end, left-more, page_end}
use Rattle.small_forms.proofs.SumFronts.{push_length, shorter}
use Rattle.small_forms.proofs.page.scripts_in.Goals as goal

pub returns-in_default-2-clause-none : goal.returns-in_default-2-clause-none
returns-in_default-2-clause-none c scripts are few e =
    let none = rw c.in_default-2.is at c.in_ok-script.ensures.none in
    let element = left-element _ c.loop-inside.rest.now c.in-Some.inside.now c.in-Some.ensures.some (c.loop-inside.invariant.only scripts are few e) in
    none element.text (flat_map element_text element.scripts ++ page_end) element.lines element.is element.whole

pub loop-inside-preserved : goal.loop-inside-preserved
loop-inside-preserved c =
    let fact = rw c.in-Some-2.is at c.in_ok-script.ensures.some in
    let more = c.in_ok-push.ensures.ok in
    let long = push_length c.loop-inside.scripts c.in-Some-2.script in
    record {
      front = rw more (elements_read c.args.bytes.now c.loop-inside.scripts c.loop-inside.rest.now c.in-Some.inside.now c.in-Some-2.script c.in-Some-2.left.now c.loop-inside.invariant.front c.in-Some.ensures.some fact.0);
      scripts = rw more (are-more c.loop-inside.scripts c.in-Some-2.script c.loop-inside.invariant.scripts fact.1);
      few = rw more (omega (arith, long, c.loop-inside.invariant.few, c.len.ensures, c.if-len-eq-PAGE_SCRIPT_LIMIT.false));
      only = λ scripts are few e.
          let element = left-element _ c.loop-inside.rest.now c.in-Some.inside.now c.in-Some.ensures.some (c.loop-inside.invariant.only scripts are few e) in
          let next = left-more _ c.in-Some.inside.now c.in-Some-2.script.text c.in-Some-2.left.now c.in-Some-2.script.lines fact.0 fact.1 element in
          subst (λ n. AreLeft n c.in-Some-2.left.now) (sym (ap length more ∙ long)) next;
      short =
          let after = shorter c.loop-inside.rest.now (codes "<script>") c.in-Some.inside.now c.in-Some.ensures.some in
          let ended = shorter c.in-Some.inside.now c.in-Some-2.script.text (codes "</script>" ++ c.in-Some-2.left.now) fact.0 in
          let less = shorter (codes "</script>" ++ c.in-Some-2.left.now) (codes "</script>") c.in-Some-2.left.now refl in
          omega (arith, c.loop-inside.invariant.short, after, ended, less);
    }

pub returns-then-eq-clause-some : goal.returns-then-eq-clause-some
returns-then-eq-clause-some c =
    let end : c.loop-inside.rest.now ≡ page_end = (bytes_eq-Decides c.loop-inside.rest.now c.as_slice.result.now).0 (sym c.eq.ensures ∙ c.if-eq.true) ∙ c.as_slice.ensures in
    (c.loop-inside.invariant.front ∙ ap (λ xs. flat_map element_text c.loop-inside.scripts ++ xs) end, c.loop-inside.invariant.scripts, c.loop-inside.invariant.few)

pub returns-else-eq-clause-none : goal.returns-else-eq-clause-none
returns-else-eq-clause-none c scripts are few e =
    let end = left-end _ c.loop-inside.rest.now c.in_default.ensures.none (c.loop-inside.invariant.only scripts are few e) in
    false_true c.eq.result c.if-eq.false (c.eq.ensures ∙ (bytes_eq-Decides c.loop-inside.rest.now c.as_slice.result.now).1 (end ∙ sym c.as_slice.ensures))
