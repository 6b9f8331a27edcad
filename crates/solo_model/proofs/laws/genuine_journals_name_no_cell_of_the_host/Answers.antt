use Rattle.std.proofs.Common.{[]}
use Rattle.solo_model.proofs.Owners.{no_host_cells}
use Rattle.solo_model.proofs.laws.genuine_journals_name_no_cell_of_the_host.Goals as goal

pub returns : goal.returns
returns c = λ setups setting marks genuine. no_host_cells setups setting [] marks genuine
