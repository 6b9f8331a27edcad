-- How the lines of a script ended, as its machine sees it.
use Rattle.std.specs.Prelude.{Result, Ok, Err}
use Rattle.small_meaning.specs.Rows.{Done, Next, Throws, Halts}
use Rattle.small_eval.specs.declared.exit.Exit.{Exit}
use Rattle.small_eval.specs.declared.exit.Exit.TheVariants.{Throw, Halt, NoMemory}

-- where memory was wanting, nothing is said of it
abbrev pub done_of : Result (Unit {0}) Exit → Done
done_of (Ok u) = Next
done_of (Err (Throw reason)) = Throws reason
done_of (Err (Halt stop)) = Halts stop
done_of (Err NoMemory) = Next
