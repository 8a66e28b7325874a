-- What lines do to the reply that has begun.
use Rattle.std.specs.Prelude.{◌≡◌, ℕ, ◌<◌, List, [], ◌∷◌, ◌++◌, length}
use Rattle.gft_base.specs.Words.{Lacks, line_feed}
use Rattle.gft_text.specs.Words.{told}
use Rattle.gft_text.specs.declared.TheConstants.{LINE_LIMIT}
use Rattle.gft_reply.specs.declared.reply.Reply.{Reply}
use Rattle.gft_reply.specs.declared.taking.Taken.{Taken}
use Rattle.gft_reply.specs.declared.taking.Taken.TheVariants as taken
use Rattle.gft_reply.specs.declared.taking.Stop.{Stop}
use Rattle.gft_reply.specs.declared.taking.Stop.TheVariants as stop
use Rattle.gft_reply.specs.ReplyStream.{Heard, Replied, Refused, heard, nothing}

-- what is heard behind a line
abbrev pub heard_behind : Taken → Reply → (Reply → List Heard) → List Heard
heard_behind taken.Refused reply next = Refused ∷ []
heard_behind taken.Open reply next = next reply
heard_behind taken.Ended reply next = Replied reply ∷ next nothing

-- lines are only added
abbrev pub Grows : Reply → Reply → Type 0
Grows old new = (texts : List (List ℕ)) × (new.lines ≡ old.lines ++ texts)

-- whole lines were taken, and the rest has no LF
pub record StopsOpen (old : Reply) (bytes : List ℕ) (left : ℕ) (new : Reply) : Type 0 where
  pub done : List ℕ
  pub rest : List ℕ
  pub bytes_are : bytes ≡ done ++ rest
  pub left_is : left ≡ length rest
  pub single : Lacks line_feed rest
  pub short : length rest < LINE_LIMIT
  pub carried : (later : List ℕ) → heard (told (done ++ later)) old ≡ heard (told later) new

-- whole lines were taken, and the last of them ended the reply
pub record StopsEnded (old : Reply) (bytes : List ℕ) (left : ℕ) (new : Reply) : Type 0 where
  pub front : List ℕ
  pub rest : List ℕ
  pub bytes_are : bytes ≡ front ++ line_feed ∷ rest
  pub left_is : left ≡ length rest
  pub carried : (later : List ℕ) →
      heard (told (front ++ line_feed ∷ later)) old ≡ Replied new ∷ heard (told later) nothing

abbrev pub Stops : Reply → List ℕ → Stop → Reply → Type 0
Stops old bytes stop.Refused new = (later : List ℕ) → heard (told (bytes ++ later)) old ≡ Refused ∷ []
Stops old bytes (stop.Open left) new = StopsOpen old bytes left new
Stops old bytes (stop.Ended left) new = StopsEnded old bytes left new

-- whole lines were taken, and the rest, which has no LF, is held
pub record StopsAt (old : Reply) (bytes kept : List ℕ) (new : Reply) : Type 0 where
  pub done : List ℕ
  pub bytes_are : bytes ≡ done ++ kept
  pub single : Lacks line_feed kept
  pub short : length kept < LINE_LIMIT
  pub carried : (later : List ℕ) → heard (told (done ++ later)) old ≡ heard (told later) new

abbrev pub TakesPiece : Reply → List ℕ → Stop → Reply → List ℕ → Type 0
TakesPiece old bytes stop.Refused new kept =
    (later : List ℕ) → heard (told (bytes ++ later)) old ≡ Refused ∷ []
TakesPiece old bytes (stop.Open left) new kept = StopsAt old bytes kept new
TakesPiece old bytes (stop.Ended left) new kept = StopsEnded old bytes left new
