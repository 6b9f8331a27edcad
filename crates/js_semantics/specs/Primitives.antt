-- The primitive values and what the operators give of them, from one place.
pub use Rattle.js_ops.specs.declared.primitive.Primitive.{Primitive as PrimitiveValue}
pub use Rattle.js_ops.specs.declared.primitive.Primitive.TheVariants.{Undefined, Null, Bool as BoolPrim, Number as NumberPrim, Str as StrPrim}
pub use Rattle.js_ops.specs.declared.fault.OpFault.{OpFault}
pub use Rattle.js_ops.specs.declared.fault.OpFault.TheVariants.{Range, Kind, TooLong, NoMemory}
pub use Rattle.js_ops.specs.Operators.{binary_of, number_of, unary_of}
pub use Rattle.js_ops.specs.Primitives.{is_equal, is_same, key_of, text_of, boolean_of, type_of}
pub use Rattle.js_ops.specs.Numerals.{is_blank}
