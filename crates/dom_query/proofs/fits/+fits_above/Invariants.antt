use Rattle.dom_query.proofs.fits.+fits_above.Given as goal

abbrev pub decreases-fits_above : goal.decreases-fits_above
decreases-fits_above l = l.steps
