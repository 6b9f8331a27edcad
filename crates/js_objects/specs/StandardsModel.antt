-- Standard prototypes as the code finds them, which its proofs need; no claim rests on it.
use Rattle.std.specs.Prelude.{ℕ, suc, ◌+◌, ◌==◌, List, [], ◌∷◌, if◌then◌else◌}
use Rattle.door.specs.declared.values.Kind.{Kind}
use Rattle.door.specs.declared.values.Kind.TheVariants as kind
use Rattle.js_objects.specs.declared.values.CellId.{CellId}
use Rattle.js_objects.specs.declared.values.Standard.{Standard}
use Rattle.js_objects.specs.declared.values.Standard.TheVariants as standard
use Rattle.js_objects.specs.declared.owner.StandardPrototype.{StandardPrototype}

abbrev pub kind_number : Kind → ℕ
kind_number kind.Window = 7
kind_number kind.Document = 8
kind_number kind.Element = 9
kind_number kind.Str = 10
kind_number kind.Comment = 11
kind_number kind.Event = 12

abbrev pub standard_number : Standard → ℕ
standard_number standard.Object = 0
standard_number standard.Function = 1
standard_number standard.Array = 2
standard_number standard.Str = 3
standard_number standard.Number = 4
standard_number standard.Boolean = 5
standard_number standard.Error = 6
standard_number (standard.Thing kind) = kind_number kind

abbrev pub standard_index : Standard → List StandardPrototype → ℕ
standard_index s [] = 0
standard_index s (x ∷ xs) = if standard_number x.standard == standard_number s then 0 else suc (standard_index s xs)

abbrev pub standard_put : Standard → CellId → List StandardPrototype → List StandardPrototype
standard_put s c [] = record { standard = s; cell = c } ∷ []
standard_put s c (x ∷ xs) =
    if standard_number x.standard == standard_number s then record { standard = x.standard; cell = c } ∷ xs else x ∷ standard_put s c xs
