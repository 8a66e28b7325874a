-- No line is two commands, none is a command and refused, and a command that some line is fits.
use Rattle.std.proofs.Common.{◌≡◌, ◌≢◌, ℕ, Bool, true, false, cond, eqb, List, [], ◌∷◌, ◌++◌, length, length-append, inl, zero, suc, refl, ap, sym, ◌∙◌, arith}
use Rattle.std.specs.Char.{is_ascii_alphabetic, to_ascii_uppercase}
use Rattle.std.proofs.lemmas.Bool.Decides.{nat_tests}
use Rattle.std.proofs.lemmas.List.Elements.{All-cons}
use Rattle.gft_base.specs.Words.{Lacks, line_feed, space}
use Rattle.gft_base.proofs.Lemmas.{IsNumber-one}
use Rattle.gft_range.proofs.Lemmas.{IsList-few, IsList-one}
use Rattle.gft_text.proofs.Lemmas.{IsHostPort-one}
use Rattle.gft_opts.proofs.Lemmas.{IsEret-fits, IsEret-one, IsEsto-fits, IsEsto-one, IsRetr-fits, IsRetr-one, IsTargets-fits, IsTargets-one}
use Rattle.gft_command.specs.Commands.{IsSame, RefusesLine, RefusesText, SaysCommand, parameter_in}
use Rattle.gft_command.specs.Parameters.{FitsBytes, FitsParameter, IsCapital, IsLetter, IsParameter, IsSendable, Parameter, behind_verb}
use Rattle.gft_command.specs.Parameters.{Nothing, Text, Letter, Number, LeadingNumber, Options, Address, Targets, Ranges, Part, Place}
use Rattle.gft_command.specs.Table.{is_verb, parameter_of, verb_of}
use Rattle.gft_command.specs.Telnet.{doubled, telnet_text}
use Rattle.gft_command.specs.Written.{FitsCommand, text_for}
use Rattle.gft_command.specs.declared.command.Command.{Command}
use Rattle.gft_command.specs.declared.command.Command.TheVariants as commands
use Rattle.gft_command.specs.declared.error.CommandError.{CommandError}
use Rattle.gft_command.specs.declared.error.CommandError.TheVariants.{UnknownVerb, MissingParameter, BadParameter, OutOfMemory}
use Rattle.gft_command.proofs.PartFits.{lacks_behind}
use Rattle.gft_command.proofs.RowLemmas.{verb_plain}
use Rattle.gft_command.proofs.TelnetLemmas.{doubled-append}
use Rattle.gft_command.proofs.VerbLemmas.{one_form, row_one, same_form}

-- ---- one value

letter_one : (text : List ℕ) (a b : ℕ) → IsLetter text a → IsLetter text b → a ≡ b
letter_one [] a b of_a of_b = absurd of_a
letter_one (x ∷ []) a b of_a of_b = of_a.1 ∙ sym of_b.1
letter_one (x ∷ y ∷ bs) a b of_a of_b = of_a.2 ∙ sym of_b.2

-- a text has one value of a form
value_one : (text : List ℕ) (v w : Parameter) → same_form v w ≡ true → IsParameter text v → IsParameter text w → v ≡ w
value_one text Nothing Nothing form a b = refl
value_one text (Text x) (Text y) form a b = ap Text (a.1 ∙ sym b.1)
value_one text (Letter x) (Letter y) form a b = ap Letter (letter_one text x y a b)
value_one text (Number x) (Number y) form a b = ap Number (IsNumber-one text x y a b)
value_one text (LeadingNumber x) (LeadingNumber y) form a b = ap LeadingNumber (IsNumber-one _ x y a b)
value_one text (Options x) (Options y) form a b = ap Options (IsRetr-one _ x y a.options_are b.options_are)
value_one text (Address x) (Address y) form a b = ap Address (IsHostPort-one text x y a b)
value_one text (Targets x) (Targets y) form a b = ap Targets (IsTargets-one text x y a b)
value_one text (Ranges x) (Ranges y) form a b = ap Ranges (IsList-one text x y a b)
value_one text (Part x) (Part y) form a b = ap Part (IsEret-one text x y a b)
value_one text (Place x) (Place y) form a b = ap Place (IsEsto-one text x y a b)
value_one text v w form a b = cc form

-- a text is one command at most
pub one : (text : List ℕ) (c d : Command) → SaysCommand text c → SaysCommand text d → IsSame c d
one text c d a b =
    let verbs = a.verb ∙ sym b.verb in
    row_one c d verbs (value_one (parameter_in text) (parameter_of c) (parameter_of d) (one_form c d verbs) a.value b.value)

-- a text that is a command is refused for want of memory alone
pub taken : (text : List ℕ) (c : Command) (e : CommandError) → SaysCommand text c → RefusesText text e → e ≡ OutOfMemory
taken text c UnknownVerb is refused = absurd (refused (c, is.verb))
taken text c MissingParameter is refused = absurd (refused.0.none c is)
taken text c BadParameter is refused = absurd (refused.0.none c is)
taken text c OutOfMemory is refused = refl

-- a text has one refusal beside want of memory
one_refusal : (text : List ℕ) (d e : CommandError) → RefusesText text d → RefusesText text e → d ≢ OutOfMemory → e ≢ OutOfMemory → d ≡ e
one_refusal text UnknownVerb UnknownVerb a b not_d not_e = refl
one_refusal text UnknownVerb MissingParameter a b not_d not_e = absurd (a b.0.known)
one_refusal text UnknownVerb BadParameter a b not_d not_e = absurd (a b.0.known)
one_refusal text MissingParameter UnknownVerb a b not_d not_e = absurd (b a.0.known)
one_refusal text MissingParameter MissingParameter a b not_d not_e = refl
one_refusal text MissingParameter BadParameter a b not_d not_e = absurd (omega (arith, b.1, ap length a.1))
one_refusal text BadParameter UnknownVerb a b not_d not_e = absurd (b a.0.known)
one_refusal text BadParameter MissingParameter a b not_d not_e = absurd (omega (arith, a.1, ap length b.1))
one_refusal text BadParameter BadParameter a b not_d not_e = refl
one_refusal text OutOfMemory e a b not_d not_e = absurd (not_d refl)
one_refusal text UnknownVerb OutOfMemory a b not_d not_e = absurd (not_e refl)
one_refusal text MissingParameter OutOfMemory a b not_d not_e = absurd (not_e refl)
one_refusal text BadParameter OutOfMemory a b not_d not_e = absurd (not_e refl)

-- ---- the same of lines

text_refusal : (line : List ℕ) (e : CommandError) → RefusesLine line e → e ≢ OutOfMemory → RefusesText (telnet_text line) e
text_refusal line UnknownVerb refused memory = refused
text_refusal line MissingParameter refused memory = refused
text_refusal line BadParameter refused memory = refused
text_refusal line OutOfMemory refused memory = absurd (memory refl)

pub line_refusal : (line : List ℕ) (e : CommandError) → RefusesText (telnet_text line) e → RefusesLine line e
line_refusal line UnknownVerb refused = refused
line_refusal line MissingParameter refused = refused
line_refusal line BadParameter refused = refused
line_refusal line OutOfMemory refused = inl refused

pub line_taken : (line : List ℕ) (c : Command) (e : CommandError) → SaysCommand (telnet_text line) c → RefusesLine line e → e ≡ OutOfMemory
line_taken line c UnknownVerb is refused = taken (telnet_text line) c UnknownVerb is refused
line_taken line c MissingParameter is refused = taken (telnet_text line) c MissingParameter is refused
line_taken line c BadParameter is refused = taken (telnet_text line) c BadParameter is refused
line_taken line c OutOfMemory is refused = refl

pub one_line_refusal : (line : List ℕ) (d e : CommandError) → RefusesLine line d → RefusesLine line e → d ≢ OutOfMemory → e ≢ OutOfMemory → d ≡ e
one_line_refusal line d e a b not_d not_e =
    one_refusal (telnet_text line) d e (text_refusal line d a not_d) (text_refusal line e b not_e) not_d not_e

-- ---- what fits

-- a byte that isn't in the doubled text isn't in the text
lacks_doubled : (text : List ℕ) → Lacks line_feed (doubled text) → Lacks line_feed text
lacks_doubled [] lacks = lacks
lacks_doubled (b ∷ bs) lacks = first (eqb b 255) lacks (lacks_doubled bs) where
  first : (t : Bool) → Lacks 10 (cond t (b ∷ b ∷ doubled bs) (b ∷ doubled bs)) → (Lacks 10 (doubled bs) → Lacks 10 bs) → Lacks 10 (b ∷ bs)
  first true all rest = All-cons (λ x. eqb x 10 ≡ false) b bs (all zero b (omega arith)) (rest (λ k d lt. all (suc (suc k)) d (omega (arith, lt))))
  first false all rest = All-cons (λ x. eqb x 10 ≡ false) b bs (all zero b (omega arith)) (rest (λ k d lt. all (suc k) d (omega (arith, lt))))

-- what stands behind a verb and a space in a line that can be sent
bytes_fit : (verb bytes : List ℕ) → is_verb verb ≡ true → IsSendable (doubled (verb ++ space ∷ bytes)) → FitsBytes verb bytes
bytes_fit verb bytes is writable =
    let line : doubled (verb ++ space ∷ bytes) ≡ verb ++ space ∷ doubled bytes = doubled-append verb (space ∷ bytes) ∙ ap (λ (x : List ℕ). x ++ space ∷ doubled bytes) (verb_plain verb is) in
    let spelt : IsSendable (verb ++ space ∷ doubled bytes) = rw line at writable in
    let behind = lacks_behind verb (space ∷ doubled bytes) spelt.0 in
    (lacks_doubled bytes (λ k d lt. behind (suc k) d (omega (arith, lt))), omega (arith, spelt.1, length-append verb (space ∷ doubled bytes)))

capital : (b letter : ℕ) → is_ascii_alphabetic b ≡ true → letter ≡ to_ascii_uppercase b → IsCapital letter
capital b letter alphabetic same = grind (arith, nat_tests)

letter_fits : (text : List ℕ) (letter : ℕ) → IsLetter text letter → IsCapital letter
letter_fits [] letter is = absurd is
letter_fits (b ∷ []) letter is = capital b letter is.0 is.1
letter_fits (b ∷ c ∷ bs) letter is = capital b letter is.0 is.2

-- a value that some text has fits, if its own line can be sent
value_fits : (verb text : List ℕ) (v : Parameter) → is_verb verb ≡ true → IsParameter text v → IsSendable (doubled (verb ++ behind_verb v)) → FitsParameter verb v
value_fits verb text Nothing is read writable = (tt, tt)
value_fits verb text (Text x) is read writable = (omega (arith, read.0, ap length read.1), bytes_fit verb x is writable)
value_fits verb text (Letter x) is read writable = (letter_fits text x read, tt)
value_fits verb text (Number x) is read writable = (tt, tt)
value_fits verb text (LeadingNumber x) is read writable = (tt, tt)
value_fits verb text (Options x) is read writable = (IsRetr-fits _ x read.options_are, tt)
value_fits verb text (Address x) is read writable = (tt, tt)
value_fits verb text (Targets x) is read writable = (IsTargets-fits text x read, tt)
value_fits verb text (Ranges x) is read writable = (IsList-few text x read, tt)
value_fits verb text (Part x) is read writable = (IsEret-fits text x read, bytes_fit verb _ is writable)
value_fits verb text (Place x) is read writable = (IsEsto-fits text x read, bytes_fit verb _ is writable)

verb_is : (c : Command) → is_verb (verb_of c) ≡ true
verb_is commands.Quit = refl
verb_is c = refl

pub said_fits : (text : List ℕ) (c : Command) → SaysCommand text c → IsSendable (doubled (text_for c)) → FitsCommand c
said_fits text c is writable = value_fits (verb_of c) (parameter_in text) (parameter_of c) (verb_is c) is.value writable
