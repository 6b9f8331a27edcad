use Rattle.std.proofs.Common.{◌≡◌, ◌∙◌, map-id, sym, ap, List, ◌∷◌, [], ◌++◌, cond}
use Rattle.std.proofs.lemmas.Iterator.{YieldsList-from_chars}
use Rattle.std.proofs.lemmas.Iterator.Consumers.{YieldsList-end}
use Rattle.js_syntax.specs.TokenScalars.{is_name_start, is_name_part}
use Rattle.js_syntax.proofs.Names.{goes_on_with, fits_further, fits_first, fits_no_more, told, begun_told, unbegun_told}
use Rattle.js_syntax.proofs.symbol.is_spelled.Goals as goal

pub loop-c-preserved-then-begun : goal.loop-c-preserved-then-begun
loop-c-preserved-then-begun c = λ rest. goes_on_with c.loop-c.yielded rest c.in-Some.c c.loop-c.begun c.loop-c.fits c.continues_name.result c.loop-c.invariant
    (fits_further c.loop-c.begun c.loop-c.fits (is_name_part c.in-Some.c) (is_name_start c.in-Some.c) c.if-fits.true c.if-begun.true ∙ sym c.continues_name.ensures)

pub loop-c-preserved-else-begun : goal.loop-c-preserved-else-begun
loop-c-preserved-else-begun c = λ rest. goes_on_with c.loop-c.yielded rest c.in-Some.c c.loop-c.begun c.loop-c.fits c.begins_name.result c.loop-c.invariant
    (fits_first c.loop-c.begun c.loop-c.fits (is_name_part c.in-Some.c) (is_name_start c.in-Some.c) c.if-fits.true c.if-begun.false ∙ sym c.begins_name.ensures)

pub loop-c-preserved : goal.loop-c-preserved
loop-c-preserved c = λ rest. goes_on_with c.loop-c.yielded rest c.in-Some.c c.loop-c.begun c.loop-c.fits c.loop-c.fits c.loop-c.invariant
    (fits_no_more c.loop-c.fits (cond c.loop-c.begun (is_name_part c.in-Some.c) (is_name_start c.in-Some.c)) c.if-fits.false)

pub returns-then-begun-2 : goal.returns-then-begun-2
returns-then-begun-2 c =
    let end = YieldsList-end (YieldsList-from_chars c.as_str.result.now c.as_str.utf8 cc) c.loop-c.yielded _ c.loop-c.yielded_by _ _ c.in-None.is c.next.ensures.steps in
    let whole : c.loop-c.yielded ≡ c.args.text.now = sym (map-id c.loop-c.yielded) ∙ end.0 ∙ c.as_str.ensures.scalars in
    begun_told c.loop-c.begun c.loop-c.fits c.if-begun-2.true ∙ told c.loop-c.yielded c.args.text.now c.loop-c.begun c.loop-c.fits c.loop-c.invariant whole

pub returns-else-begun-2 : goal.returns-else-begun-2
returns-else-begun-2 c =
    let end = YieldsList-end (YieldsList-from_chars c.as_str.result.now c.as_str.utf8 cc) c.loop-c.yielded _ c.loop-c.yielded_by _ _ c.in-None.is c.next.ensures.steps in
    let whole : c.loop-c.yielded ≡ c.args.text.now = sym (map-id c.loop-c.yielded) ∙ end.0 ∙ c.as_str.ensures.scalars in
    unbegun_told c.loop-c.begun c.loop-c.fits c.if-begun-2.false ∙ told c.loop-c.yielded c.args.text.now c.loop-c.begun c.loop-c.fits c.loop-c.invariant whole
