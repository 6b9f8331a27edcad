use Rattle.std.proofs.Common.{rules, codes, sym, ap, ◌≡◌, ◌∙◌}
use Rattle.dom_semantics.specs.Forest.{tree_order}
use Rattle.dom_semantics.specs.Titles.{first_tagged}
use Rattle.dom_tree.specs.Ids.{number_of}
use Rattle.small_eval.proofs.Forests.{first_found}
use Rattle.small_eval.proofs.title.title_element.Goals as goal

pub returns-in-Some-clause-found : goal.returns-in-Some-clause-found
returns-in-Some-clause-found c =
    let found : number_of c.find.result ≡ first_tagged (codes "title") c.args.tree.now (tree_order c.args.tree.now 0) = search (rules, first_found) in
    sym (ap number_of c.in-Some.is) ∙ found

pub returns-in-None-clause-found : goal.returns-in-None-clause-found
returns-in-None-clause-found c =
    let found : number_of c.find.result ≡ first_tagged (codes "title") c.args.tree.now (tree_order c.args.tree.now 0) = search (rules, first_found) in
    sym (ap number_of c.in-None.is) ∙ found
