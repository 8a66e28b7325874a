-- Why a reader gave no value.
use Rattle.gft_opts.specs.declared.error.OptsError.{OptsError}
use Rattle.gft_opts.specs.declared.error.OptsError.TheVariants.{BadParameter, OutOfMemory}

-- the text has no value; or memory was refused to a text that could have one
abbrev pub RefusesOption : Type 0 → Type 0 → OptsError → Type 0
RefusesOption none could BadParameter = none
RefusesOption none could OutOfMemory = could
