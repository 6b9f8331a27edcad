-- The symbols of each set that the code names.
use Rattle.std.specs.Prelude.{List}
use Rattle.js_syntax.specs.declared.symbol.Symbol.{Symbol}
use Rattle.js_syntax.specs.Words as words
use Rattle.js_cursor.specs.declared.words.Set.{Set}
use Rattle.js_cursor.specs.declared.words.Set.TheVariants as set
use Rattle.js_reference_parser.specs.ExpressionsModel as firsts

abbrev pub symbols_of : Set → List Symbol
symbols_of set.Names = words.names
symbols_of set.MemberNames = words.member_names
symbols_of set.Keys = words.keys
symbols_of set.PlainKeys = words.plain_keys
symbols_of set.Leaves = words.leaves
symbols_of set.Suffixes = words.suffixes
symbols_of set.MemberSuffixes = words.member_suffixes
symbols_of set.Updates = words.updates
symbols_of set.Prefixes = words.prefixes
symbols_of set.Assignments = words.assignments
symbols_of set.ExprFirsts = firsts.expr_firsts
symbols_of set.BaseFirsts = firsts.base_firsts
symbols_of set.MemberFirsts = firsts.member_firsts
symbols_of (set.Operators in_allowed level) = words.operators in_allowed level
