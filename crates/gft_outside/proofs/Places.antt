-- A list of items that is given piece by piece.
use Rattle.std.proofs.Common.{◌≡◌, ℕ, inl, inr, zero, suc, ◌+◌, ◌-◌, ◌<◌, ◌≤◌, List, [], ◌∷◌, ◌++◌, length, get_or, take, drop, map, reverse, filter, refl, sym, ap, ◌∙◌, subst, arith, length-append, length-drop, if◌then◌else◌}
use Rattle.std.specs.List.{flat_map}
use Rattle.std.proofs.lemmas.Bool.{cases_lt, lt-ltb, le-ltb}
use Rattle.std.proofs.lemmas.Grind.{flat_map-append}
use Rattle.std.proofs.lemmas.List.{drop-append-le, drop-drop, drop-map, drop_all, drop_at, drop_more, take-append-drop, take-append-le, take-map, take_all, take_more}
use Rattle.gft_outside.specs.Lists.{AllTell, Moves, Script, StandsIn, place_in, tells}

-- the first bytes of a buffer are a piece of these
pub piece_map : {X : Type 0} (f : ℕ → X) (buf bytes : List ℕ) (n from : ℕ) → take n buf ≡ take n (drop from bytes) → map f (take n buf) ≡ take n (drop from (map f bytes))
piece_map f buf bytes n from e = ap (map f) e ∙ sym (ap (take n) (drop-map f from bytes) ∙ take-map f n (drop from bytes))

-- the whole of a list of one
pub one_whole : {X : Type 0} (x : X) (from : ℕ) → from < 1 → x ∷ [] ≡ reverse (take 1 (drop from (x ∷ [])))
one_whole x zero lt = refl
one_whole x (suc from) lt = absurd (omega (arith, lt))

-- an item of a list: what stands from it on, and up to it
pub item_here : {X : Type 0} (items read : List X) (item : X) (at : ℕ) → read ≡ items → at < length read → item ≡ get_or read at item
    → (drop at items ≡ item ∷ drop (at + 1) items) × (take (at + 1) items ≡ take at items ++ item ∷ [])
item_here {X} items read item at same lt is = subst (λ (l : List X). (drop at l ≡ item ∷ drop (at + 1) l) × (take (at + 1) l ≡ take at l ++ item ∷ [])) same
    (drop_more read at item lt ∙ ap (λ y. y ∷ drop (at + 1) read) (sym is), take_more read at item lt ∙ ap (λ y. take at read ++ y ∷ []) (sym is))

module _ {X A : Type 0} (inputs : X → List A) where
  -- ---- where a list stands

  all_tell_drop : (items : List X) (n : ℕ) → AllTell inputs items → AllTell inputs (drop n items)
  all_tell_drop items zero all = all
  all_tell_drop [] (suc n) all = all
  all_tell_drop (item ∷ items) (suc n) all = all_tell_drop items n all.1

  starts : (items : List X) → AllTell inputs items → StandsIn inputs 0 items
  starts [] all = refl
  starts (item ∷ items) all = all.0

  -- each item begins with nothing given
  pub stands_first : (items : List X) (n : ℕ) → AllTell inputs items → StandsIn inputs 0 (drop n items)
  stands_first items n all = starts (drop n items) (all_tell_drop items n all)

  -- more of an item may be given, if not all of it
  pub stands_on : (items rest : List X) (item : X) (used : ℕ) → items ≡ item ∷ rest → used < length (inputs item) → StandsIn inputs used items
  stands_on items rest item used e lt = subst (StandsIn inputs used) (sym e) lt

  -- an item of which not all was given has something left
  pub stands_at : (items rest : List X) (item : X) (used : ℕ) → items ≡ item ∷ rest → StandsIn inputs used items → used < length (inputs item)
  stands_at items rest item used e stands = subst (StandsIn inputs used) e stands

  stands_end : (items : List X) (used : ℕ) → items ≡ [] → StandsIn inputs used items → used ≡ 0
  stands_end items used e stands = subst (StandsIn inputs used) e stands

  -- ---- what an item gives is the next of all

  split_flat : (items later : List X) (item : X) (at : ℕ) → drop at items ≡ item ∷ later
      → flat_map inputs items ≡ flat_map inputs (take at items) ++ (inputs item ++ flat_map inputs later)
  split_flat items later item at e =
      sym (ap (flat_map inputs) (take-append-drop at items))
      ∙ flat_map-append inputs (take at items) (drop at items)
      ∙ ap (λ rest. flat_map inputs (take at items) ++ flat_map inputs rest) e

  rest_at : (items later : List X) (item : X) (at used : ℕ) → drop at items ≡ item ∷ later → used ≤ length (inputs item)
      → drop (place_in inputs items at used) (flat_map inputs items) ≡ drop used (inputs item) ++ flat_map inputs later
  rest_at items later item at used e le =
      let front = flat_map inputs (take at items) in
      let back = inputs item ++ flat_map inputs later in
      sym (drop-drop used (length front) (flat_map inputs items))
      ∙ ap (λ l. drop used (drop (length front) l)) (split_flat items later item at e)
      ∙ ap (drop used) (drop_at front back (length front) refl)
      ∙ drop-append-le used (inputs item) (flat_map inputs later) le

  in_all : (items later : List X) (item : X) (at used : ℕ) → drop at items ≡ item ∷ later → used ≤ length (inputs item)
      → place_in inputs items at used ≤ length (flat_map inputs items)
  in_all items later item at used e le =
      let front = flat_map inputs (take at items) in
      let whole = ap length (split_flat items later item at e) in
      omega (arith, whole, length-append front (inputs item ++ flat_map inputs later), length-append (inputs item) (flat_map inputs later))

  moves_on : (items later : List X) (item : X) (at used count place : ℕ) (given : List A)
      → drop at items ≡ item ∷ later → 1 ≤ count → used + count ≤ length (inputs item)
      → given ≡ reverse (take count (drop used (inputs item)))
      → place ≡ place_in inputs items at used + count
      → Moves (record { all = flat_map inputs items; place = place_in inputs items at used }) (record { all = flat_map inputs items; place = place }) given
  moves_on items later item at used count place given e some within is goes =
      let here = place_in inputs items at used in
      let all = flat_map inputs items in
      let rest = rest_at items later item at used e (omega arith) in
      let near : count ≤ length (drop used (inputs item)) = omega (arith, length-drop used (inputs item)) in
      let piece : take count (drop here all) ≡ take count (drop used (inputs item)) =
      ap (take count) rest ∙ take-append-le count (drop used (inputs item)) (flat_map inputs later) near in
      let step : place - here ≡ count = omega arith in
      let inside : place_in inputs items at (used + count) ≤ length all = in_all items later item at (used + count) e within in
      record {
        same = refl;
        later = omega arith;
        within = omega arith;
        newest_first = is ∙ ap reverse (sym piece) ∙ ap (λ n. reverse (take n (drop here all))) (sym step);
      }

  pub moved : (items later : List X) (item : X) (at used count place : ℕ) (given : List A) (old : Script A)
      → record { all = flat_map inputs items; place = place_in inputs items at used } ≡ old
      → drop at items ≡ item ∷ later → 1 ≤ count → used + count ≤ length (inputs item)
      → given ≡ reverse (take count (drop used (inputs item)))
      → place ≡ place_in inputs items at used + count
      → Moves old (record { all = flat_map inputs items; place = place }) given
  moved items later item at used count place given old same e some within is goes =
      subst (λ (s : Script A). Moves s (record { all = flat_map inputs items; place = place }) given) same (moves_on items later item at used count place given e some within is goes)

  -- more of the item
  pub place_more : (items : List X) (at used count : ℕ) → place_in inputs items at (used + count) ≡ place_in inputs items at used + count
  place_more items at used count = omega arith

  -- the next item
  pub place_next : (items : List X) (item : X) (at used count : ℕ) → take (at + 1) items ≡ take at items ++ item ∷ [] → used + count ≡ length (inputs item)
      → place_in inputs items (at + 1) 0 ≡ place_in inputs items at used + count
  place_next items item at used count e whole =
      let front = flat_map inputs (take at items) in
      let more : flat_map inputs (take (at + 1) items) ≡ front ++ (inputs item ++ []) = ap (flat_map inputs) e ∙ flat_map-append inputs (take at items) (item ∷ []) in
      omega (arith, ap length more, length-append front (inputs item ++ []), length-append (inputs item) [])

  -- behind the last item all was given
  pub at_end : (items : List X) (at used : ℕ) → length items ≤ at → StandsIn inputs used (drop at items)
      → drop (place_in inputs items at used) (flat_map inputs items) ≡ []
  at_end items at used far stands =
      let none : used ≡ 0 = stands_end (drop at items) used (drop_all at items far) stands in
      let all = take_all at items far in
      drop_all (place_in inputs items at used) (flat_map inputs items) (omega (arith, none, ap (λ l. length (flat_map inputs l)) all))

  -- ---- items that tell nothing may be left out

  pub all_tell : (items : List X) → AllTell inputs (filter (tells inputs) items)
  all_tell [] = tt
  all_tell (item ∷ items) = elim (cases_lt 0 (length (inputs item))) [
    | inl lt ↦ subst (λ b. AllTell inputs (if b then item ∷ filter (tells inputs) items else filter (tells inputs) items)) (sym (lt-ltb 0 (length (inputs item)) lt)) (lt, all_tell items)
    | inr le ↦ subst (λ b. AllTell inputs (if b then item ∷ filter (tells inputs) items else filter (tells inputs) items)) (sym (le-ltb 0 (length (inputs item)) le)) (all_tell items)
  ]

  empty : (l : List A) → length l ≤ 0 → l ≡ []
  empty [] le = refl
  empty (x ∷ xs) le = absurd (omega arith)

  pub flat_telling : (items : List X) → flat_map inputs (filter (tells inputs) items) ≡ flat_map inputs items
  flat_telling [] = refl
  flat_telling (item ∷ items) = elim (cases_lt 0 (length (inputs item))) [
    | inl lt ↦ ap (λ b. flat_map inputs (if b then item ∷ filter (tells inputs) items else filter (tells inputs) items)) (lt-ltb 0 (length (inputs item)) lt) ∙ ap (λ l. inputs item ++ l) (flat_telling items)
    | inr le ↦ ap (λ b. flat_map inputs (if b then item ∷ filter (tells inputs) items else filter (tells inputs) items)) (le-ltb 0 (length (inputs item)) le) ∙ flat_telling items ∙ ap (λ l. l ++ flat_map inputs items) (sym (empty (inputs item) le))
  ]
