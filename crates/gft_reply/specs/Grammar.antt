-- Which lines make one reply (RFC 959, section 4.2).
use Rattle.std.specs.Prelude.{◌≡◌, ℕ, ◌⊎◌, Bool, true, false, List, [], ◌∷◌, ◌++◌, map, Some}
use Rattle.std.specs.List.{AllByRecursion}
use Rattle.gft_reply.specs.declared.reply.Reply.{Reply}
use Rattle.gft_reply.specs.Line.{head_of, without_space}

-- a code, the mark that ends the reply or goes on with it, and the text
abbrev pub IsHead : List ℕ → ℕ → List ℕ → Bool → Type 0
IsHead line code text ends = head_of line ≡ Some (record { code = code; text = text; ends = ends })

-- the line doesn't end a reply of this code
abbrev pub IsInner : ℕ → List ℕ → Type 0
IsInner code line = (text : List ℕ) → ¬ IsHead line code text true

-- a code, a space and the text
pub record IsOneLine (lines : List (List ℕ)) (reply : Reply) : Type 0 where
  pub line : List ℕ
  pub text : List ℕ
  pub lines_are : lines ≡ line ∷ []
  pub head : IsHead line reply.code text true
  pub texts : reply.lines ≡ text ∷ []

-- a code and a dash; lines that don't end it; and the first line with the same code and a space
pub record IsManyLines (lines : List (List ℕ)) (reply : Reply) : Type 0 where
  pub first : List ℕ
  pub inner : List (List ℕ)
  pub last : List ℕ
  pub opening : List ℕ
  pub closing : List ℕ
  pub lines_are : lines ≡ first ∷ (inner ++ last ∷ [])
  pub opens : IsHead first reply.code opening false
  pub goes_on : AllByRecursion (IsInner reply.code) inner
  pub closes : IsHead last reply.code closing true
  pub texts : reply.lines ≡ opening ∷ (map without_space inner ++ closing ∷ [])

-- the lines are one reply
abbrev pub IsReply : List (List ℕ) → Reply → Type 0
IsReply lines reply = IsOneLine lines reply ⊎ IsManyLines lines reply
