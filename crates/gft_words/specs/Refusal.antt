-- Why a reader of words gave no value.
use Rattle.gft_words.specs.declared.error.WordsError.{WordsError}
use Rattle.gft_words.specs.declared.error.WordsError.TheVariants.{Usage, OutOfMemory}

-- the words have no value; or memory was refused
abbrev pub RefusesWords : Type 0 → WordsError → Type 0
RefusesWords none Usage = none
RefusesWords none OutOfMemory = Unit {0}
