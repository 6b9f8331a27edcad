-- What a text that is read in part comes to.
use Rattle.std.specs.Prelude.{ℕ, if◌then◌else◌, List, Err, true}
use Rattle.std.specs.Char.{is_ascii_digit}
use Rattle.std.specs.List.{list_all}
use Rattle.js_ops.specs.Numbers.{Answer, number}
use Rattle.js_ops.specs.Numerals.{after_while, digits_spelled, front_while, is_blank, number_spelled, signed, value_after}
use Rattle.js_ops.specs.Operators.{spelled}
use Rattle.js_ops.specs.declared.fault.OpFault.TheVariants.{Range}
use Rattle.js_ops.specs.declared.numeral.Reading.{Reading}
use Rattle.js_ops.specs.declared.numeral.Reading.TheVariants.{Start, Minus, Digits, End, Lost}

-- the answer where so much is read and the scalars are still to come
abbrev pub answer_from : Reading → List ℕ → Answer
answer_from Start t = spelled (number_spelled t)
answer_from Minus t = spelled (digits_spelled true t)
answer_from (Digits minus n) t =
    if list_all is_blank (after_while is_ascii_digit t)
    then number (signed minus (value_after n (front_while is_ascii_digit t))) else Err Range
answer_from (End minus n) t = if list_all is_blank t then number (signed minus n) else Err Range
answer_from Lost t = Err Range
