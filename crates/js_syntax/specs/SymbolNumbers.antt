-- A number for each symbol, by which symbols are compared; this project's own.
use Rattle.std.specs.Prelude.{◌==◌, ℕ, Bool, false, ◌||◌, List, [], ◌∷◌}
use Rattle.js_syntax.specs.declared.symbol.Symbol.{Symbol}
use Rattle.js_syntax.specs.declared.symbol.Symbol.TheVariants as s

abbrev pub number : Symbol → ℕ
number s.Other = 0
number s.Name = 1
number s.Get = 2
number s.Set = 3
number s.Number = 4
number s.Str = 5
number s.End = 6
number s.Reserved = 7
number s.Break = 8
number s.Catch = 9
number s.Continue = 10
number s.Delete = 11
number s.Else = 12
number s.False = 13
number s.Finally = 14
number s.For = 15
number s.Function = 16
number s.If = 17
number s.In = 18
number s.InstanceOf = 19
number s.New = 20
number s.Null = 21
number s.Return = 22
number s.This = 23
number s.Throw = 24
number s.True = 25
number s.Try = 26
number s.TypeOf = 27
number s.Var = 28
number s.While = 29
number s.Same = 30
number s.NotSame = 31
number s.Equal = 32
number s.NotEqual = 33
number s.AtMost = 34
number s.AtLeast = 35
number s.And = 36
number s.Or = 37
number s.Increment = 38
number s.Decrement = 39
number s.AddBy = 40
number s.SubtractBy = 41
number s.MultiplyBy = 42
number s.DivideBy = 43
number s.RemainBy = 44
number s.OpenBrace = 45
number s.CloseBrace = 46
number s.OpenParen = 47
number s.CloseParen = 48
number s.OpenBracket = 49
number s.CloseBracket = 50
number s.Semicolon = 51
number s.Comma = 52
number s.Dot = 53
number s.Less = 54
number s.Greater = 55
number s.Plus = 56
number s.Minus = 57
number s.Star = 58
number s.Slash = 59
number s.Percent = 60
number s.Not = 61
number s.Question = 62
number s.Colon = 63
number s.Assign = 64

-- the number is that of one of these symbols
abbrev pub amid : List Symbol → ℕ → Bool
amid [] n = false
amid (x ∷ []) n = n == number x
amid (x ∷ (y ∷ ys)) n = n == number x || amid (y ∷ ys) n
