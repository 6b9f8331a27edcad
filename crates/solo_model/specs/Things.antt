-- The things and actors that each run has, by their numbers; this project's own.
use Rattle.std.specs.Prelude.{ℕ, ◌+◌}
use Rattle.door.specs.declared.values.Actor.{Actor}
use Rattle.door.specs.declared.values.Kind.{Kind}
use Rattle.door.specs.declared.values.Kind.TheVariants.{Window, Document}
use Rattle.door.specs.declared.values.Thing.{Thing}

-- a thing of a kind, by its number
abbrev pub thing_of : Kind → ℕ → Thing
thing_of kind number = record { kind = kind; number = number }

-- the window is a thing
abbrev pub the_window : Thing
the_window = thing_of Window 0

-- the document is the first node
abbrev pub the_document : Thing
the_document = thing_of Document 0

-- the page acts before the userscripts
abbrev pub the_page : Actor
the_page = record { 0 = 1 }

-- the userscript whose file name is the n-th in byte order, from n = 0
abbrev pub userscript : ℕ → Actor
userscript n = record { 0 = n + 2 }
