use Rattle.std.proofs.Common.{◌∙◌, ◌++◌, ap}
use Rattle.std.specs.Prelude.{encode_utf8_all}
use Rattle.dom_tree.specs.declared.limits.TheConstants.{TREE_LEVELS}
use Rattle.page_text.specs.Printed.{printed_levels}
use Rattle.page_text.proofs.PrintedParts.{levels_are}
use Rattle.page_text.proofs.printing.print.Goals as goal

pub returns : goal.returns
returns c =
    record {
      ok =
          c.in_ok-push_node.ensures ∙ ap (λ xs. xs ++ encode_utf8_all (printed_levels TREE_LEVELS c.args.tree.now c.args.node.0)) c.new-out.ensures.items
          ∙ ap (λ levels. encode_utf8_all (printed_levels levels c.args.tree.now c.args.node.0)) levels_are;
    }
