-- Parts of a file in text (GFD.20): ERET's `P offset size name`, and ESTO's `A offset name`.
use Rattle.std.specs.Prelude.{◌≡◌, ℕ, ◌<◌, ◌≤◌, ◌^◌, List, [], ◌∷◌, codes, decimal, length}
use Rattle.std.specs.List.{join_with_byte}
use Rattle.gft_base.specs.Words.{IsNumber, Lacks, parts_at, space}
use Rattle.gft_base.specs.declared.TheConstants.{LIMIT}
use Rattle.gft_opts.specs.Word.{IsWord}
use Rattle.gft_opts.specs.declared.part.Eret.{Eret}
use Rattle.gft_opts.specs.declared.part.Esto.{Esto}

-- an offset of a file, in bytes
pub record IsOffset (text : List ℕ) (offset : ℕ) : Type 0 where
  pub number : IsNumber text offset
  pub limited : offset ≤ LIMIT

-- one byte or more, and no space
pub record IsPath (path : List ℕ) : Type 0 where
  pub some : 0 < length path
  pub single : Lacks space path

-- four words with one space between them
pub record IsEret (text : List ℕ) (eret : Eret) : Type 0 where
  pub mode : List ℕ
  pub offset : List ℕ
  pub size : List ℕ
  pub words : parts_at space text ≡ mode ∷ offset ∷ size ∷ eret.path ∷ []
  pub mode_is : IsWord (codes "P") mode
  pub offset_is : IsOffset offset eret.offset
  pub size_is : IsNumber size eret.size
  pub path_is : IsPath eret.path

-- three words with one space between them
pub record IsEsto (text : List ℕ) (esto : Esto) : Type 0 where
  pub mode : List ℕ
  pub offset : List ℕ
  pub words : parts_at space text ≡ mode ∷ offset ∷ esto.path ∷ []
  pub mode_is : IsWord (codes "A") mode
  pub offset_is : IsOffset offset esto.offset
  pub path_is : IsPath esto.path

-- the one text that is written
abbrev pub eret_text : Eret → List ℕ
eret_text eret = join_with_byte space (codes "P" ∷ decimal eret.offset ∷ decimal eret.size ∷ eret.path ∷ [])

abbrev pub esto_text : Esto → List ℕ
esto_text esto = join_with_byte space (codes "A" ∷ decimal esto.offset ∷ esto.path ∷ [])

-- the part has a text
pub record FitsEret (eret : Eret) : Type 0 where
  pub offset : eret.offset ≤ LIMIT
  pub size : eret.size < 2 ^ 64
  pub path : IsPath eret.path

pub record FitsEsto (esto : Esto) : Type 0 where
  pub offset : esto.offset ≤ LIMIT
  pub path : IsPath esto.path
