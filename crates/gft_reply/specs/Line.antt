-- What one line gives a reply (RFC 959, section 4.2).
use Rattle.std.specs.Prelude.{ℕ, ◌+◌, ◌-◌, ◌*◌, ◌&&◌, ◌==◌, Bool, true, false, nat_lt, if◌then◌else◌}
use Rattle.std.specs.Prelude.{List, [], ◌∷◌, Option, Some, None, option_and_then}
use Rattle.gft_base.specs.Words.{dash, digit_zero, space}

-- a line's part in a reply: the code, its text, and whether it ends the reply
pub record Part : Type 0 where
  pub code : ℕ
  pub text : List ℕ
  pub ends : Bool

-- the value of a decimal digit from the first to the last
abbrev pub digit_of : ℕ → ℕ → ℕ → Option ℕ
digit_of first last byte =
    if nat_lt byte (digit_zero + first) then None
    else (if nat_lt (digit_zero + last) byte then None else Some (byte - digit_zero))

-- a space behind the code ends the reply, and a dash goes on with it
abbrev pub mark_of : ℕ → Option Bool
mark_of byte = if byte == space then Some true else (if byte == dash then Some false else None)

infixl 10 ◌>>=◌
abbrev pub ◌>>=◌ : {A B : Type 0} → Option A → (A → Option B) → Option B
o >>= f = option_and_then f o

-- three digits, the first from 1 to 5, a space or a dash, and the text behind it
abbrev pub head_of : List ℕ → Option Part
head_of (a ∷ b ∷ c ∷ mark ∷ text) = do
  hundreds ← digit_of 1 5 a
  tens ← digit_of 0 9 b
  ones ← digit_of 0 9 c
  ends ← mark_of mark
  Some (record { code = 100 * hundreds + 10 * tens + ones; text = text; ends = ends })
head_of _ = None

-- a line without one leading space
abbrev pub without_space : List ℕ → List ℕ
without_space [] = []
without_space (byte ∷ bytes) = if byte == space then bytes else byte ∷ bytes

-- a line between the first and the last: it holds anything
abbrev pub inner_part : ℕ → List ℕ → Part
inner_part code line = record { code = code; text = without_space line; ends = false }

-- the head ends a reply of this code
abbrev pub closes : ℕ → Part → Bool
closes code head = head.ends && (head.code == code)

-- a line that follows a reply's first one ends it if its head does so, and else is an inner line
abbrev pub later_part : ℕ → Option Part → List ℕ → Part
later_part code None line = inner_part code line
later_part code (Some head) line = if closes code head then head else inner_part code line
