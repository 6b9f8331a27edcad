-- What contracts see of the objects over the runtime: this project's own words.
use Rattle.std.specs.Prelude.{ℕ}

-- how many faults a keeper had
pub record KeeperFaults : Type 0 where
  pub load_faults : ℕ
  pub save_faults : ℕ
