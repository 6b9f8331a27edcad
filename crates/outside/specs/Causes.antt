-- When a call on the outside fails: this project's own words.
use Rattle.std.specs.Prelude.{◌≡◌, ◌≤◌, ◌+◌, ◌-◌, ◌^◌, ℕ, min, Result, Ok, Err, IsErrOf, OnOk}
use Rattle.outside.specs.declared.traits.Lost.{Lost}
use Rattle.outside.specs.declared.traits.Lost.TheVariants.{Failed, NoMemory}

-- a count that rises by one, and stands still at its last value
abbrev pub risen : ℕ → ℕ
risen count = min (count + 1) (2 ^ 64 - 1)

-- the count has risen, or stands at its last value
abbrev pub Rose : ℕ → ℕ → Type 0
Rose before now = risen before ≤ now

-- The count of faults doesn't fall: it rose where the call failed, and is as before where it went well.
pub record HasCause {T : Type 0} (before now : ℕ) (result : Result T Lost) : Type 0 where
  pub later : before ≤ now
  pub failed : IsErrOf result Failed → Rose before now
  pub steady : OnOk result (now ≡ before)

-- the count of faults after this refusal
abbrev pub after_refusal : ℕ → Lost → ℕ
after_refusal before Failed = risen before
after_refusal before NoMemory = before

-- the count of faults after a call with this result, where failed calls alone are counted
abbrev pub faults_after : {T : Type 0} → ℕ → Result T Lost → ℕ
faults_after before (Ok _) = before
faults_after before (Err lost) = after_refusal before lost
