use Rattle.std.proofs.Common.{◌≡◌, ◌<◌, ◌≤◌, length, true, false, refl, rules, arith}
use Rattle.compartments.proofs.Origins.{one_is_missing, one_more_is_there, all_are_there}
use Rattle.compartments.proofs.principals.contains_all.Goals as goal

pub returns-then-not-contains : goal.returns-then-not-contains
returns-then-not-contains c =
    let lt : c.loop-o.o-index < length c.args.others.now = omega arith in
    let missing : c.contains.result ≡ false = search rules in
    let os = c.args.origins.now in
    let ps = c.args.others.now in (
      λ f. let wrong : false ≡ true = f in absurd (cc),
      one_is_missing os ps c.loop-o.o-index c.o-item.result c.contains.result lt c.o-item.is c.contains.ensures missing,
    )

pub loop-o-preserved : goal.loop-o-preserved
loop-o-preserved c =
    let lt : c.loop-o.o-index < length c.args.others.now = omega arith in
    let there : c.contains.result ≡ true = search rules in
    let os = c.args.origins.now in
    let ps = c.args.others.now in
    one_more_is_there os ps c.loop-o.o-index c.o-item.result c.contains.result lt c.o-item.is c.contains.ensures there c.loop-o.invariant

pub returns : goal.returns
returns c =
    let le : length c.args.others.now ≤ c.loop-o.o-index = omega arith in
    (λ _. all_are_there c.args.origins.now c.args.others.now c.loop-o.o-index le c.loop-o.invariant, λ _. refl)
