-- Document 01, codes 4, 5 and 6: the rules over two rows.

pub data Rule : Type 0 where
  SameId : Rule
  SamePriority : Rule
  KindsCrossed : Rule
