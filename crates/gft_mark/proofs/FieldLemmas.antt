-- Values that lines state.
use Rattle.std.proofs.Common.{◌≡◌, ℕ, List, [], ◌∷◌, ◌++◌, ◌-◌, ◌≤◌, length, take, drop, append_assoc, arith, get_or, refl, Option, Some, None, sym, ap, subst, ◌∙◌}
use Rattle.std.specs.Option.{MatchOption}
use Rattle.std.proofs.lemmas.List.{append_cancel_left, take_all}
use Rattle.gft_base.specs.Words.{AreSpaces, space}
use Rattle.gft_mark.specs.Fields.{BeginsApart, IsField, Skips, States}

-- what stands behind the spaces is one text
spaces-one : (s t u v : List ℕ) → AreSpaces s → AreSpaces t → BeginsApart u → BeginsApart v → s ++ u ≡ t ++ v → u ≡ v
spaces-one [] [] u v blank_s blank_t apart_u apart_v same = same
spaces-one [] (b ∷ t) u v blank_s blank_t apart_u apart_v same =
    absurd (apart_u (ap (λ (x : List ℕ). get_or x 0 0) same ∙ blank_t.0))
spaces-one (b ∷ s) [] u v blank_s blank_t apart_u apart_v same =
    absurd (apart_v (ap (λ (x : List ℕ). get_or x 0 0) (sym same) ∙ blank_s.0))
spaces-one (b ∷ s) (c ∷ t) u v blank_s blank_t apart_u apart_v same =
    let rest : s ++ u ≡ t ++ v = cc in
    spaces-one s t u v blank_s.1 blank_t.1 apart_u apart_v rest

pub Skips-one : (text a b : List ℕ) → Skips text a → Skips text b → a ≡ b
Skips-one text a b is_a is_b =
    spaces-one is_a.spaces is_b.spaces a b is_a.blank is_b.blank is_a.apart is_b.apart (sym is_a.text_is ∙ is_b.text_is)

spaces-push : (spaces : List ℕ) → AreSpaces spaces → AreSpaces (spaces ++ space ∷ [])
spaces-push [] blank = (refl, tt)
spaces-push (b ∷ spaces) blank = (blank.0, spaces-push spaces blank.1)

-- one space more was passed
pub spaces-more : (text spaces left : List ℕ) → 1 ≤ length left → get_or left 0 0 ≡ space → text ≡ spaces ++ left → AreSpaces spaces → (front : List ℕ) × (text ≡ front ++ take (length left - 1) (drop 1 left)) × AreSpaces front
spaces-more text spaces [] some first is blank = absurd (omega (arith, some))
spaces-more text spaces (b ∷ left) some first is blank =
    let behind = take_all (length (b ∷ left) - 1) left (omega arith) in
    let joined : (spaces ++ space ∷ []) ++ left ≡ spaces ++ b ∷ left = simp append_assoc (ap (λ n. spaces ++ n ∷ left) (sym first)) in
    (spaces ++ space ∷ [], rw behind (is ∙ sym joined), spaces-push spaces blank)

-- a text without the name states nothing under it
pub IsField-none : (name line left value : List ℕ) → Skips line left → ((rest : List ℕ) → ¬ (left ≡ name ++ rest)) → ¬ IsField name line value
IsField-none name line left value skips none field =
    none field.behind (Skips-one line left (name ++ field.behind) skips field.named)

-- a line has one text behind a name
pub IsField-one : (name line a b : List ℕ) → IsField name line a → IsField name line b → a ≡ b
IsField-one name line a b is_a is_b =
    let behind = append_cancel_left name is_a.behind is_b.behind (Skips-one line (name ++ is_a.behind) (name ++ is_b.behind) is_a.named is_b.named) in
    let other : Skips is_a.behind b = rw behind is_b.valued in
    Skips-one is_a.behind a b is_a.valued other

-- a line that has no such value states none
States-none : (name line value : List ℕ) (IsValue : List ℕ → ℕ → Type 0) → IsField name line value → ((n : ℕ) → ¬ IsValue value n) → (n : ℕ) → ¬ States name IsValue line n
States-none name line value IsValue field none n states =
    let P : List ℕ → Type 0 = λ text. IsValue text n in
    none n (subst P (IsField-one name line states.value value states.field field) states.reads)

-- what is read of the value is what the line states
pub States-read : (name line value : List ℕ) (IsValue : List ℕ → ℕ → Type 0) (answer : Option ℕ) → IsField name line value → MatchOption answer ((n : ℕ) → ¬ IsValue value n) (IsValue value) → MatchOption answer ((n : ℕ) → ¬ States name IsValue line n) (States name IsValue line)
States-read name line value IsValue None field none = States-none name line value IsValue field none
States-read name line value IsValue (Some n) field reads = record { value = value; field = field; reads = reads }

pub States-one : (name line : List ℕ) (IsValue : List ℕ → ℕ → Type 0) (m n : ℕ) → ((text : List ℕ) (m n : ℕ) → IsValue text m → IsValue text n → m ≡ n) → States name IsValue line m → States name IsValue line n → m ≡ n
States-one name line IsValue m n one is_m is_n =
    let P : List ℕ → Type 0 = λ text. IsValue text n in
    one is_m.value m n is_m.reads (subst P (IsField-one name line is_n.value is_m.value is_n.field is_m.field) is_n.reads)

-- a name, a space and a value state that value
pub States-written : (name value : List ℕ) (IsValue : List ℕ → ℕ → Type 0) (n : ℕ) → BeginsApart (name ++ space ∷ value) → BeginsApart value → IsValue value n → States name IsValue (name ++ space ∷ value) n
States-written name value IsValue n apart_name apart_value reads = record {
  value = value;
  field = record {
    behind = space ∷ value;
    named = record { spaces = []; text_is = refl; blank = tt; apart = apart_name };
    valued = record { spaces = space ∷ []; text_is = refl; blank = (refl, tt); apart = apart_value };
  };
  reads = reads;
}
