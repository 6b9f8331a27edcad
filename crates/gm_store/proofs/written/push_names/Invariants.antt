use Rattle.std.proofs.Common.{◌≡◌, ◌++◌}
use Rattle.std.specs.FinMap as fin
use Rattle.gm_store.specs.WrittenModel.{names_model, views}
use Rattle.gm_store.proofs.written.push_names.Given as goal

abbrev pub invariant-loop-name : goal.invariant-loop-name
invariant-loop-name l = views l.out.items ++ names_model l.namespace l.name-iterator ≡ views l.fn.out.items ++ names_model l.namespace (fin.entries l.names)
