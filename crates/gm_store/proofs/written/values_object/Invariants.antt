use Rattle.std.proofs.Common.{◌≡◌}
use Rattle.std.specs.FinMap as fin
use Rattle.serde_json.specs.Data.{no_members}
use Rattle.serde_json.specs.View.{members_view}
use Rattle.gm_store.specs.WrittenModel.{values_members}
use Rattle.gm_store.proofs.written.values_object.Given as goal

-- the members so far, with those of the keys that are left, are all
abbrev pub invariant-loop-key : goal.invariant-loop-key
invariant-loop-key l = values_members l.key-iterator (members_view l.members.entries) ≡ values_members (fin.entries l.values) no_members
