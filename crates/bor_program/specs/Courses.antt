-- The course of something that deeds change.

-- Of something that has states M: which deed of D leads from one state to another, and its states
-- before and after.
pub record Course (M D : Type 0) : Type 1 where
  pub does : M → D → M → Type 0
  pub begun : M
  pub ended : M

-- this deed, and no other, leads from the state before to the one after
abbrev pub IsOnlyDeed : {M D : Type 0} → Course M D → D → Type 0
IsOnlyDeed course deed = course.does course.begun deed course.ended
