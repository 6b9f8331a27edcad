-- The built-in functions, by name; each is called by its own row.
use Rattle.door.specs.declared.members.Member.{Member}

-- Object, Function, Array, String, Number, Boolean, Math and Error (ECMAScript, 20 to 23), and the members of the outside (HTML, DOM,
-- Greasemonkey manual): a getter, a setter or a function asks for its member, and an interface's function is only there to be named.
pub data Builtin : Type 0 where
  ObjectFunction : Builtin
  ObjectKeys : Builtin
  ObjectCreate : Builtin
  ObjectGetPrototypeOf : Builtin
  ObjectSetPrototypeOf : Builtin
  ObjectDefineProperty : Builtin
  ObjectHasOwnProperty : Builtin
  ObjectToString : Builtin
  FunctionFunction : Builtin
  FunctionCall : Builtin
  FunctionApply : Builtin
  ArrayFunction : Builtin
  ArrayIsArray : Builtin
  ArrayPush : Builtin
  ArrayPop : Builtin
  ArrayShift : Builtin
  ArrayUnshift : Builtin
  ArrayReverse : Builtin
  StringFunction : Builtin
  NumberFunction : Builtin
  BooleanFunction : Builtin
  StringCharAt : Builtin
  StringCharCodeAt : Builtin
  StringIndexOf : Builtin
  StringSlice : Builtin
  StringSubstring : Builtin
  StringSplit : Builtin
  StringReplace : Builtin
  StringTrim : Builtin
  StringToLowerCase : Builtin
  StringToUpperCase : Builtin
  StringToString : Builtin
  NumberToString : Builtin
  BooleanToString : Builtin
  MathAbs : Builtin
  MathFloor : Builtin
  MathMin : Builtin
  MathMax : Builtin
  MathDiv : Builtin
  ErrorFunction : Builtin
  TypeErrorFunction : Builtin
  RangeErrorFunction : Builtin
  ReferenceErrorFunction : Builtin
  ErrorToString : Builtin
  Asks : Member → Builtin
  Interface : Builtin
