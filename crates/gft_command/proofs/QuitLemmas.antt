-- A line that is QUIT is never refused memory.
use Rattle.std.proofs.Common.{◌≡◌, ℕ, ◌+◌, Bool, true, false, ◌&&◌, cond, eqb, List, [], ◌∷◌, ◌++◌, length, get_or, take, drop, inl, inr, zero, suc, refl, ap, sym, ◌∙◌, subst, arith, codes, drop-cons}
use Rattle.std.specs.Prelude.{IfErr, Result, Ok, Err}
use Rattle.std.specs.Char.{to_ascii_lowercase}
use Rattle.std.specs.List.{before_first, after_first, position_or_len}
use Rattle.std.specs.Result.{MatchResult}
use Rattle.std.proofs.lemmas.Bool.{cases_lt, eqb-true}
use Rattle.std.proofs.lemmas.List.{take-append-drop, take_all}
use Rattle.std.proofs.lemmas.List.Elements.{All-append, All-cons, All-nil}
use Rattle.std.proofs.lemmas.List.Sums.{passes_at_first}
use Rattle.gft_base.specs.Words.{AreSpaces, Lacks, space}
use Rattle.gft_text.specs.Words.{folded}
use Rattle.gft_text.proofs.Lemmas.{literal_lacks}
use Rattle.gft_command.specs.Commands.{CouldTakeMemory, IsCommand, IsSame, RefusesLine, RefusesText, SaysCommand, parameter_in, verb_in}
use Rattle.gft_command.specs.Parameters.{Nothing, Parameter, TakesMemory}
use Rattle.gft_command.specs.Table.{parameter_of}
use Rattle.gft_command.specs.Telnet.{telnet_escape, telnet_text, undoubled}
use Rattle.gft_command.specs.declared.command.Command.{Command}
use Rattle.gft_command.specs.declared.command.Command.TheVariants as commands
use Rattle.gft_command.specs.declared.error.CommandError.{CommandError}
use Rattle.gft_command.proofs.LawLemmas.{line_refusal, one, taken}
use Rattle.gft_command.proofs.TelnetLemmas.{undoubled-cons}
use Rattle.gft_command.proofs.VerbLemmas.{one_form, same_form}

-- ---- a text that is QUIT

same_quit : (c : Command) → IsSame c commands.Quit → c ≡ commands.Quit
same_quit commands.Quit same = same
same_quit c same = same

-- what has the form of a command without a parameter takes no memory
no_memory : (text : List ℕ) (v : Parameter) → same_form v Nothing ≡ true → TakesMemory text v → ⊥
no_memory text Nothing form takes = takes
no_memory text v form takes = cc form

quit_takes_none : (text : List ℕ) → SaysCommand text commands.Quit → CouldTakeMemory text → ⊥
quit_takes_none text is could =
    no_memory (parameter_in text) (parameter_of could.command) (one_form could.command commands.Quit (could.verb ∙ sym is.verb)) could.could

quit_read : (text : List ℕ) (r : Result Command CommandError) → MatchResult r (SaysCommand text) (RefusesText text) → SaysCommand text commands.Quit → r ≡ Ok commands.Quit
quit_read text (Ok c) read is = ap Ok (same_quit c (one text c commands.Quit read is))
quit_read text (Err e) refused is =
    let memory = taken text commands.Quit e is refused in
    absurd (quit_takes_none text is (rw memory at refused))

-- what a text that was read says of its line
pub line_read : (line text : List ℕ) (r : Result Command CommandError) → text ≡ telnet_text line → MatchResult r (SaysCommand text) (RefusesText text) → IfErr r (RefusesLine line) × (IsCommand line commands.Quit → r ≡ Ok commands.Quit)
line_read line text r same read = (refused r (rw same at read), quit_read (telnet_text line) r (rw same at read)) where
  refused : (q : Result Command CommandError) → MatchResult q (SaysCommand (telnet_text line)) (RefusesText (telnet_text line)) → IfErr q (RefusesLine line)
  refused (Ok c) is = tt
  refused (Err e) is = line_refusal line e is

-- ---- a line that is QUIT has no byte 255

spaces_lack : (text : List ℕ) → AreSpaces text → Lacks telnet_escape text
spaces_lack [] spaces = All-nil (λ x. eqb x 255 ≡ false)
spaces_lack (b ∷ bs) spaces = All-cons (λ x. eqb x 255 ≡ false) b bs (rw spaces.0 refl) (spaces_lack bs spaces.1)

folded_lacks : (text : List ℕ) → Lacks telnet_escape (folded text) → Lacks telnet_escape text
folded_lacks [] lacks = lacks
folded_lacks (b ∷ bs) lacks =
    All-cons (λ x. eqb x 255 ≡ false) b bs (first (eqb b 255) refl (lacks zero b (omega arith))) (folded_lacks bs (λ k d lt. lacks (suc k) d (omega (arith, lt)))) where
      first : (t : Bool) → eqb b 255 ≡ t → eqb (to_ascii_lowercase b) 255 ≡ false → eqb b 255 ≡ false
      first true is low = let escape : b ≡ 255 = eqb-true b 255 is in cc (rw escape at low)
      first false is low = is

cut_lacks : (text : List ℕ) → Lacks telnet_escape (before_first (λ b. eqb b space) text) → Lacks telnet_escape (after_first (λ b. eqb b space) text) → Lacks telnet_escape text
cut_lacks text front behind =
    let p : ℕ → Bool = λ b. eqb b space in
    let n : ℕ = position_or_len p text in
    let P : ℕ → Type 0 = λ x. eqb x 255 ≡ false in
    elim (cases_lt n (length text)) [
      | inl lt ↦
          let here : get_or text n 0 ≡ space = eqb-true _ _ (passes_at_first p text 0 lt) in
          let one_more : suc n ≡ n + 1 = omega arith in
          let next : drop (suc n) text ≡ drop (n + 1) text = ap (λ (m : ℕ). drop m text) one_more in
          let tail : drop n text ≡ space ∷ drop (n + 1) text = drop-cons text n 0 lt ∙ ap (λ (x : ℕ). x ∷ drop (suc n) text) here ∙ ap (λ (x : List ℕ). space ∷ x) next in
          let whole : take n text ++ space ∷ drop (n + 1) text ≡ text = ap (λ (x : List ℕ). take n text ++ x) (sym tail) ∙ take-append-drop n text in
          subst (λ (x : List ℕ). Lacks telnet_escape x) whole (All-append P (take n text) (space ∷ drop (n + 1) text) front (All-cons P space (drop (n + 1) text) refl behind))
      | inr far ↦ rw (take_all n text far) at front
    ]

quit_lacks : (text : List ℕ) → SaysCommand text commands.Quit → Lacks telnet_escape text
quit_lacks text is =
    let plain : Lacks telnet_escape (folded (codes "QUIT")) = literal_lacks telnet_escape (folded (codes "QUIT")) refl in
    let front = folded_lacks (verb_in text) (subst (λ (x : List ℕ). Lacks telnet_escape x) is.verb plain) in
    cut_lacks text front (spaces_lack (parameter_in text) is.value)

undoubled_lacks : (line : List ℕ) → Lacks telnet_escape (undoubled line) → Lacks telnet_escape line
undoubled_lacks [] lacks = lacks
undoubled_lacks (b ∷ []) lacks = lacks
undoubled_lacks (b ∷ c ∷ bs) lacks =
    let here = first (eqb b 255 && eqb c 255) lacks in
    let rest : Lacks telnet_escape (b ∷ undoubled (c ∷ bs)) = rw (undoubled-cons b (c ∷ bs) here) at lacks in
    All-cons (λ x. eqb x 255 ≡ false) b (c ∷ bs) here (undoubled_lacks (c ∷ bs) (λ k d lt. rest (suc k) d (omega (arith, lt)))) where
      first : (t : Bool) → Lacks telnet_escape (cond t (b ∷ undoubled bs) (b ∷ undoubled (c ∷ bs))) → eqb b 255 ≡ false
      first true all = all zero b (omega arith)
      first false all = all zero b (omega arith)

pub quit_plain : (line : List ℕ) → SaysCommand (undoubled line) commands.Quit → Lacks telnet_escape line
quit_plain line is = undoubled_lacks line (quit_lacks (undoubled line) is)
