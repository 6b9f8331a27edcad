use Rattle.std.proofs.Common.{subst}
use Rattle.std.specs.Str.{IsAscii}
use Rattle.url_rules.proofs.Same.{fit_alike}
use Rattle.url_rules.proofs.laws.same_rules_fit_alike.Goals as goal

pub returns : goal.returns
returns c = λ rule other. fit_alike rule other c.args.address.now (subst IsAscii c.address_of-text.ensures.text c.address_of-text.ensures.ascii)
