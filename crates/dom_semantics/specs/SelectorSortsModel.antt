-- A reading of selectors for computed facts, on which no claim rests: what a name of a selector is the name of.
pub data Sort : Type 0 where
  Tag : Sort
  Id : Sort
  Class : Sort
