-- The table of verbs, and what follows from its rows.
use Rattle.std.proofs.Common.{◌≡◌, ℕ, ◌<◌, Bool, true, false, not, cond, ◌||◌, List, [], ◌∷◌, length, get_or, map, zero, suc, refl, ap, sym, ◌∙◌, arith}
use Rattle.std.specs.Borrow.{Bor}
use Rattle.std.specs.Prelude.{IfSome, slice_get}
use Rattle.std.proofs.lemmas.Option.{slice_get-get_or}
use Rattle.std.specs.List.{All}
use Rattle.std.proofs.lemmas.Bool.{and_parts, eqb-true}
use Rattle.gft_text.specs.Words.{folded, same_bytes}
use Rattle.gft_text.proofs.Lemmas.{texts_apart}
use Rattle.gft_command.specs.Commands.{IsSame}
use Rattle.gft_command.specs.Parameters.{Parameter}
use Rattle.gft_command.specs.Parameters.{Nothing, Text, Letter, Number, LeadingNumber, Options, Address, Targets, Ranges, Part, Place}
use Rattle.gft_command.specs.Table.{AreOthers, IsPlaceOf, parameter_of, verb_of}
use Rattle.gft_command.specs.declared.command.Command.{Command}
use Rattle.gft_command.specs.declared.command.Command.TheVariants as commands
use Rattle.gft_command.specs.declared.command.TheConstants.{VERBS}

-- ---- the words of the table

-- a word of a constant, as clauses see it
abbrev pub Word : Type 0
Word = record { now : List ℕ }

-- the same words, as code and as clauses see them
abbrev pub AreSameWords : List (Bor (List ℕ)) → List Word → Type 0
AreSameWords bs ws = map (λ (b : Bor (List ℕ)). b.now) bs ≡ map (λ (w : Word). w.now) ws

at_same : (bs : List (Bor (List ℕ))) (ws : List Word) → AreSameWords bs ws → (k : ℕ) (d : Bor (List ℕ)) (e : Word) → k < length ws → (get_or bs k d).now ≡ (get_or ws k e).now
at_same bs [] same k d e lt = absurd (omega (arith, lt))
at_same [] (w ∷ ws) same k d e lt = absurd (cc same)
at_same (b ∷ bs) (w ∷ ws) same zero d e lt = cc same
at_same (b ∷ bs) (w ∷ ws) same (suc k) d e lt =
    let rest : AreSameWords bs ws = cc same in
    at_same bs ws rest k d e (omega (arith, lt))

same_length : (bs : List (Bor (List ℕ))) (ws : List Word) → AreSameWords bs ws → length bs ≡ length ws
same_length [] [] same = refl
same_length [] (w ∷ ws) same = absurd (cc same)
same_length (b ∷ bs) [] same = absurd (cc same)
same_length (b ∷ bs) (w ∷ ws) same =
    let rest : AreSameWords bs ws = cc same in
    ap suc (same_length bs ws rest)

-- the verb at a place that was found, where a command of the verb at that place has been made
pub found_verb : (bs : List (Bor (List ℕ))) (ws : List Word) (verb of : List ℕ) (place : ℕ) → IsPlaceOf bs verb place → AreSameWords bs ws → IfSome (slice_get ws place) (λ w. w.now ≡ of) → folded of ≡ folded verb
found_verb bs ws verb of place is same made =
    let d : Word = record { now = [] } in
    let e : Bor (List ℕ) = get_or bs place (record { ref_ptr = (0, 0); now = [] }) in
    let lt : place < length ws = omega (arith, is.within, same_length bs ws same) in
    let here = rw (slice_get-get_or ws place d lt) at made in
    let found = rw (slice_get-get_or bs place e is.within) at is.same in
    ap folded (sym here) ∙ ap folded (sym (at_same bs ws same place e d lt)) ∙ found

abbrev pub has_word : List Word → List ℕ → Bool
has_word [] verb = false
has_word (w ∷ ws) verb = cond (same_bytes w.now verb) true (has_word ws verb)

-- each command's verb is in the table
pub known_verb : (c : Command) → has_word VERBS.now (verb_of c) ≡ true
known_verb commands.Quit = refl
known_verb c = refl

same_texts : (a b : List ℕ) → same_bytes a b ≡ true → a ≡ b
same_texts [] [] same = refl
same_texts [] (y ∷ ys) same = cc
same_texts (x ∷ xs) [] same = cc
same_texts (x ∷ xs) (y ∷ ys) same =
    let parts = and_parts _ _ same in
    let heads = eqb-true x y parts.0 in
    let tails = same_texts xs ys parts.1 in
    cc

-- where no word is the verb, no word of the table is
no_other : (ws : List Word) (verb word : List ℕ) → All (λ w. folded w.now ≡ folded verb → ⊥) ws → has_word ws word ≡ true → folded word ≡ folded verb → ⊥
no_other [] verb word others has same = cc has
no_other (w ∷ ws) verb word others has same = here (same_bytes w.now word) refl has (λ found. no_other ws verb word (λ k d lt. others (suc k) d (omega (arith, lt))) found same) where
  here : (t : Bool) → same_bytes w.now word ≡ t → cond t true (has_word ws word) ≡ true → (has_word ws word ≡ true → ⊥) → ⊥
  here true is found later = others zero w (omega arith) (ap folded (same_texts w.now word is) ∙ same)
  here false is found later = later found

pub unknown_verb : (bs : List (Bor (List ℕ))) (verb : List ℕ) → AreOthers bs verb → AreSameWords bs VERBS.now → (c : Command) → folded (verb_of c) ≡ folded verb → ⊥
unknown_verb bs verb others same c = no_other VERBS.now verb (verb_of c) (λ k w lt there.
    let b : Bor (List ℕ) = get_or bs k (record { ref_ptr = (0, 0); now = [] }) in
    others.differ k b (omega (arith, lt, same_length bs VERBS.now same)) (ap folded (at_same bs VERBS.now same k b w lt) ∙ there)) (known_verb c)

-- ---- rows

-- one form
abbrev pub same_form : Parameter → Parameter → Bool
same_form Nothing Nothing = true
same_form (Text a) (Text b) = true
same_form (Letter a) (Letter b) = true
same_form (Number a) (Number b) = true
same_form (LeadingNumber a) (LeadingNumber b) = true
same_form (Options a) (Options b) = true
same_form (Address a) (Address b) = true
same_form (Targets a) (Targets b) = true
same_form (Ranges a) (Ranges b) = true
same_form (Part a) (Part b) = true
same_form (Place a) (Place b) = true
same_form a b = false

abbrev same_verb : Command → Command → Bool
same_verb c d = same_bytes (folded (verb_of c)) (folded (verb_of d))

form_agrees : (c d : Command) → not (same_verb c d) || same_form (parameter_of c) (parameter_of d) ≡ true
form_agrees commands.Quit commands.Quit = refl
form_agrees commands.Quit d = refl
form_agrees c commands.Quit = refl
form_agrees c d = refl

-- commands of one verb carry values of one form
pub one_form : (c d : Command) → folded (verb_of c) ≡ folded (verb_of d) → same_form (parameter_of c) (parameter_of d) ≡ true
one_form c d same = here (same_verb c d) refl (form_agrees c d) where
  here : (t : Bool) → same_verb c d ≡ t → not t || same_form (parameter_of c) (parameter_of d) ≡ true → same_form (parameter_of c) (parameter_of d) ≡ true
  here true is agrees = agrees
  here false is agrees = absurd (texts_apart _ _ is same)

row_same : (c d : Command) → same_verb c d ≡ true → parameter_of c ≡ parameter_of d → IsSame c d
row_same commands.Quit commands.Quit verbs values = refl
row_same commands.Quit d verbs values = cc
row_same c commands.Quit verbs values = cc
row_same c d verbs values = cc

-- commands of one verb and one value are the same
pub row_one : (c d : Command) → folded (verb_of c) ≡ folded (verb_of d) → parameter_of c ≡ parameter_of d → IsSame c d
row_one c d same values = here (same_verb c d) refl where
  here : (t : Bool) → same_verb c d ≡ t → IsSame c d
  here true is = row_same c d is values
  here false is = absurd (texts_apart _ _ is same)
