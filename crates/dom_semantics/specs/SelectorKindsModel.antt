-- A reading of selectors for computed facts, on which no claim rests: what a scalar of a selector is outside of quotes.
pub data Kind : Type 0 where
  Name : Kind
  Blank : Kind
  Star : Kind
  Hash : Kind
  Dot : Kind
  Open : Kind
  Close : Kind
  Equals : Kind
  Quote : Kind
  Comma : Kind
  Other : Kind
