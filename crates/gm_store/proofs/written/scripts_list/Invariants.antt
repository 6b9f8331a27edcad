use Rattle.std.proofs.Common.{◌≡◌, ◌++◌}
use Rattle.std.specs.FinMap as fin
use Rattle.gm_store.specs.WrittenModel.{scripts_model, views}
use Rattle.gm_store.proofs.written.scripts_list.Given as goal

abbrev pub invariant-loop-namespace : goal.invariant-loop-namespace
invariant-loop-namespace l = views l.list.items ++ scripts_model l.namespace-iterator ≡ scripts_model (fin.entries l.scripts)
