-- What a source over a reader and a sink over a writer show.
use Rattle.std.specs.Prelude.{ℕ, Bool, List, Option}

pub record OnReader : Type 0 where
  -- the bytes that the reader has left, if it tells them
  pub left : Option (List ℕ)
  pub faults : ℕ

pub record OnWriter : Type 0 where
  -- the bytes that the writer holds, if it tells them
  pub written : Option (List ℕ)
  -- no put has failed
  pub is_open : Bool
  pub faults : ℕ
