use Rattle.std.proofs.Common.{◌≡◌, drop}
use Rattle.std.specs.Str.{chars}
use Rattle.dom_semantics.specs.Forest.{attribute_in}
use Rattle.dom_query.proofs.fits.value_of.Given as goal

abbrev pub invariant-loop-attribute : goal.invariant-loop-attribute
invariant-loop-attribute l = attribute_in (chars l.name) (drop l.attribute-index l.attributes) ≡ attribute_in (chars l.name) l.attributes
