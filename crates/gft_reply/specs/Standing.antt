-- What contracts see of a reader of replies.
use Rattle.std.specs.Prelude.{ℕ, Bool, List}

pub record Standing : Type 0 where
  -- the code and the lines of the reply that has begun; no lines where none has
  pub code : ℕ
  pub lines : List (List ℕ)
  -- the bytes of the line that has begun
  pub bytes : List ℕ
  -- a line was refused
  pub failed : Bool
