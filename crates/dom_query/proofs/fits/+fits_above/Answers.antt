use Rattle.std.proofs.Common.{rules, sym, ◌∙◌, ◌-◌, true, false, take, length}
use Rattle.dom_query.proofs.Fitting.{parent-known, last_read, some_up}
use Rattle.dom_query.proofs.fits.+fits_above.Goals as goal

pub fits_compound-requires : goal.fits_compound-requires
fits_compound-requires t c = parent-known c.args.tree.now c.args.n.0 c.in-Some.parent.0 c.in-Some.ensures

pub fits_above-requires : goal.fits_above-requires
fits_above-requires t c = (search rules, parent-known c.args.tree.now c.args.n.0 c.in-Some.parent.0 c.in-Some.ensures)

pub fits_above-requires-else-fits_compound : goal.fits_above-requires-else-fits_compound
fits_above-requires-else-fits_compound t c = (search rules, parent-known c.args.tree.now c.args.n.0 c.in-Some.parent.0 c.in-Some.ensures)

pub returns-then-fits_compound : goal.returns-then-fits_compound
returns-then-fits_compound t c =
    let cs = c.args.compounds.now in
    c.fits_above.ensures
    ∙ sym (some_up c.args.tree.now cs (take (length cs - 1) cs) c.nearest-item.result c.args.n.0 c.in-Some.parent.0 c.args.steps true
    (last_read cs c.nearest-item.result c.in-len1-up.len_at_least c.nearest-item.is) c.if-steps-eq0.false (sym c.in-Some.ensures) (sym c.fits_compound.ensures ∙ c.if-fits_compound.true))

pub returns-else-fits_compound : goal.returns-else-fits_compound
returns-else-fits_compound t c =
    let cs = c.args.compounds.now in
    c.fits_above-else-fits_compound.ensures
    ∙ sym (some_up c.args.tree.now cs (take (length cs - 1) cs) c.nearest-item.result c.args.n.0 c.in-Some.parent.0 c.args.steps false
    (last_read cs c.nearest-item.result c.in-len1-up.len_at_least c.nearest-item.is) c.if-steps-eq0.false (sym c.in-Some.ensures) (sym c.fits_compound.ensures ∙ c.if-fits_compound.false))
