use Rattle.small_meaning.proofs.Solos.{small_solos}
use Rattle.small_meaning.proofs.laws.small_solos_are_solos.Goals as goal

pub returns : goal.returns
returns c = small_solos
