use Rattle.dom_query.proofs.Letters.{same_name_of}
use Rattle.dom_query.proofs.fits.is_same_name.Goals as goal

pub returns : goal.returns
returns c =
    same_name_of c.eq_ignore_ascii_case.result c.args.a.now c.args.b.now c.as_str.result.now c.as_str-2.result.now
    c.as_str.ensures.bytes c.as_str-2.ensures.bytes c.eq_ignore_ascii_case.ensures.test
