-- What a control or a lane tells of what it gave and of what is left. What it gave is listed newest first,
-- what is left in the order in which it comes.
use Rattle.std.specs.Prelude.{◌≡◌, List, [], ◌++◌, reverse, Option, Some, None}

-- what was taken grows by these; nothing is said where it isn't told
abbrev pub Gains : {A : Type 0} → Option (List A) → Option (List A) → List A → Type 0
Gains None new given = Unit {0}
Gains (Some old) None given = ⊥
Gains (Some old) (Some new) given = new ≡ given ++ old

-- what is left loses these from its front; nothing is said where it isn't told
abbrev pub Loses : {A : Type 0} → Option (List A) → Option (List A) → List A → Type 0
Loses None new given = Unit {0}
Loses (Some old) None given = ⊥
Loses (Some old) (Some new) given = old ≡ reverse given ++ new

-- nothing is left; nothing is said where it isn't told
abbrev pub IsOver : {A : Type 0} → Option (List A) → Type 0
IsOver None = Unit {0}
IsOver (Some left) = left ≡ []
