-- The text of a row: it has the row's verb and value, and stands in one line.
use Rattle.std.proofs.Common.{◌≡◌, ℕ, ◌<◌, ◌≤◌, ◌&&◌, Bool, true, false, cond, eqb, List, [], ◌∷◌, ◌++◌, length, length-append, append-nil, append_assoc, get_or, zero, suc, refl, ap, sym, ◌∙◌, arith, lit≤}
use Rattle.std.specs.Fmt.{decimal}
use Rattle.std.specs.List.{position_or_len}
use Rattle.std.proofs.Math.ListN.{drop_of_length-le}
use Rattle.std.proofs.Math.Seq.{drop-append-add, get_or-append_seam, take-append_seam}
use Rattle.std.proofs.lemmas.Bool.{and_parts, leb-true, ne_eqb}
use Rattle.std.proofs.lemmas.List.{get_or_append_left, take_all}
use Rattle.std.proofs.lemmas.List.Elements.{All-append, All-cons, All-nil}
use Rattle.std.proofs.lemmas.List.Sums.{AllPass-from_list_all, position_or_len_is}
use Rattle.std.specs.Prelude.{nat_le}
use Rattle.gft_base.specs.Words.{Lacks, carriage_return, line_feed, space}
use Rattle.gft_base.proofs.Lemmas.{IsNumber-decimal, place_none, position-none_from}
use Rattle.gft_text.specs.Words.{Line, folded, told}
use Rattle.gft_text.specs.declared.TheConstants.{LINE_LIMIT}
use Rattle.gft_text.proofs.Lemmas.{told-line, without_return}
use Rattle.gft_command.specs.Commands.{SaysCommand, parameter_in, verb_in}
use Rattle.gft_command.specs.Parameters.{FitsBytes, FitsParameter, IsCapital, IsParameter, FitsALine, Parameter, behind_verb, options_text, parameter_text}
use Rattle.gft_command.specs.Parameters.{Nothing, Text, Letter, Number, LeadingNumber, Options, Address, Targets, Ranges, Part, Place}
use Rattle.gft_command.specs.Table.{is_verb, row, row_of}
use Rattle.gft_command.specs.Telnet.{doubled, past_signals, telnet_escape, telnet_text, undoubled}
use Rattle.gft_command.specs.Written.{IsSentAs, IsTextOf}
use Rattle.gft_command.specs.declared.command.Command.{Command}
use Rattle.gft_command.proofs.PrintedLemmas.{brief_short, host_port_brief, list_brief, number_brief, options_brief, targets_brief}
use Rattle.gft_command.proofs.TelnetLemmas.{doubled-append, doubled-plain, undoubled-doubled}

-- ---- verbs

abbrev IsVerb : List ℕ → Type 0
IsVerb verb = is_verb verb ≡ true

verb_short : (verb : List ℕ) → IsVerb verb → length verb ≤ 4
verb_short verb is = leb-true _ _ (and_parts _ _ is).0

-- no letter of a verb is a byte that isn't a capital
verb_lacks : (c : ℕ) (verb : List ℕ) → (IsCapital c → ⊥) → IsVerb verb → Lacks c verb
verb_lacks c verb other is = λ k d lt.
    let letter = and_parts _ _ (AllPass-from_list_all (λ b. nat_le 65 b && nat_le b 90) verb (and_parts _ _ is).1 k d lt) in
    ne_eqb (get_or verb k d) c (λ same. other (omega (arith, same, leb-true 65 (get_or verb k d) letter.0), omega (arith, same, leb-true (get_or verb k d) 90 letter.1)))

pub verb_plain : (verb : List ℕ) → is_verb verb ≡ true → doubled verb ≡ verb
verb_plain verb is = doubled-plain verb (verb_lacks telnet_escape verb (λ capital. omega (arith, capital.1)) is)

-- ---- a text cut behind its verb

cut_at : (verb rest : List ℕ) → IsVerb verb → position_or_len (λ b. eqb b space) (verb ++ space ∷ rest) ≡ length verb
cut_at verb rest is =
    let lacks = verb_lacks space verb (λ capital. omega (arith, capital.0)) is in
    position_or_len_is (λ b. eqb b space) (verb ++ space ∷ rest) (length verb) 0 (omega (arith, length-append verb (space ∷ rest))) (λ k lt. rw (get_or_append_left verb (space ∷ rest) 0 k lt) (lacks k 0 lt)) (λ lt. rw (get_or-append_seam verb space rest 0) refl)

verb_front : (verb rest : List ℕ) → IsVerb verb → verb_in (verb ++ space ∷ rest) ≡ verb
verb_front verb rest is = rw (cut_at verb rest is) (take-append_seam verb (space ∷ rest))

verb_behind : (verb rest : List ℕ) → IsVerb verb → parameter_in (verb ++ space ∷ rest) ≡ rest
verb_behind verb rest is = rw (cut_at verb rest is) (drop-append-add verb (space ∷ rest) 1)

cut_none : (verb : List ℕ) → IsVerb verb → position_or_len (λ b. eqb b space) verb ≡ length verb
cut_none verb is =
    place_none (λ b. eqb b space) verb (position-none_from (λ b. eqb b space) verb (verb_lacks space verb (λ capital. omega (arith, capital.0)) is))

-- ---- no signal stands in front

unsignalled : (b : ℕ) (bs : List ℕ) → eqb b telnet_escape ≡ false → past_signals (b ∷ bs) ≡ b ∷ bs
unsignalled b [] other = refl
unsignalled b (c ∷ bs) other = rw other refl

begins_plain : (verb rest : List ℕ) → Lacks telnet_escape verb → past_signals rest ≡ rest → past_signals (verb ++ rest) ≡ verb ++ rest
begins_plain [] rest lacks same = same
begins_plain (b ∷ bs) rest lacks same = unsignalled b (bs ++ rest) (lacks zero b (omega arith))

-- ---- lines

doubled_lacks : (text : List ℕ) → Lacks line_feed text → Lacks line_feed (doubled text)
doubled_lacks [] lacks = lacks
doubled_lacks (b ∷ bs) lacks = first (eqb b 255) (lacks zero b (omega arith)) (doubled_lacks bs (λ k d lt. lacks (suc k) d (omega (arith, lt)))) where
  first : (t : Bool) → eqb b 10 ≡ false → Lacks 10 (doubled bs) → Lacks 10 (cond t (b ∷ b ∷ doubled bs) (b ∷ doubled bs))
  first true here rest = All-cons (λ x. eqb x 10 ≡ false) b (b ∷ doubled bs) here (All-cons (λ x. eqb x 10 ≡ false) b (doubled bs) here rest)
  first false here rest = All-cons (λ x. eqb x 10 ≡ false) b (doubled bs) here rest

short_fits : (verb text : List ℕ) → IsVerb verb → FitsALine text → FitsBytes verb text
short_fits verb text is short = (short.0, omega (arith, short.1, verb_short verb is))

capital_short : (letter : ℕ) → IsCapital letter → FitsALine (letter ∷ [])
capital_short letter capital =
    let P : ℕ → ℕ → Type 0 = λ c x. eqb x c ≡ false in
    let plain = All-cons (P 255) letter [] (ne_eqb letter 255 (λ same. omega (arith, same, capital.1))) (All-nil (P 255)) in
    (All-cons (P 10) letter [] (ne_eqb letter 10 (λ same. omega (arith, same, capital.0))) (All-nil (P 10)), omega (arith, ap length (doubled-plain (letter ∷ []) plain)))

-- a value that fits has a text that stands in a line
line_fits : (verb : List ℕ) (v : Parameter) → IsVerb verb → FitsParameter verb v → IsParameter (parameter_text v) v → FitsBytes verb (parameter_text v)
line_fits verb Nothing is fits read = short_fits verb [] is (All-nil (λ x. eqb x 10 ≡ false), lit≤ tt)
line_fits verb (Text words) is fits read = fits.1
line_fits verb (Letter letter) is fits read = short_fits verb (letter ∷ []) is (capital_short letter fits.0)
line_fits verb (Number n) is fits read = short_fits verb _ is (brief_short _ 20 (number_brief _ n read) (lit≤ tt))
line_fits verb (LeadingNumber n) is fits read =
    short_fits verb (decimal n) is (brief_short (decimal n) 20 (number_brief (decimal n) n (IsNumber-decimal n read.fits)) (lit≤ tt))
line_fits verb (Options options) is fits read =
    short_fits verb (options_text options) is (brief_short (options_text options) 200 (options_brief options fits.0) (lit≤ tt))
line_fits verb (Address at) is fits read = short_fits verb _ is (brief_short _ 126 (host_port_brief _ at read) (lit≤ tt))
line_fits verb (Targets targets) is fits read = short_fits verb _ is (brief_short _ 2032 (targets_brief _ targets read) (lit≤ tt))
line_fits verb (Ranges ranges) is fits read = short_fits verb _ is (brief_short _ 22016 (list_brief _ ranges read) (lit≤ tt))
line_fits verb (Part eret) is fits read = fits.1
line_fits verb (Place esto) is fits read = fits.1

-- ---- the text of a row

-- a verb alone
pub verb_text : (verb : List ℕ) → is_verb verb ≡ true → IsTextOf verb (row verb Nothing)
verb_text verb is =
    let escape = verb_lacks telnet_escape verb (λ capital. omega (arith, capital.1)) is in
    let signals = begins_plain verb [] escape refl in
    let whole : verb_in verb ≡ verb = rw (cut_none verb is) (take_all (length verb) verb (omega arith)) in
    let nothing : parameter_in verb ≡ [] = drop_of_length-le verb (omega (arith, cut_none verb is)) in
    record {
      one = sym (append-nil verb);
      verb = ap folded (sym whole);
      value = rw nothing tt;
      writable = rw (verb_plain verb is) (verb_lacks line_feed verb (λ capital. omega (arith, capital.0)) is, omega (arith, verb_short verb is));
      plain = rw (verb_plain verb is) (rw append-nil at signals);
    }

-- a verb, a space and a value's text
pub value_text : (verb text : List ℕ) (v : Parameter) → is_verb verb ≡ true → text ≡ verb ++ space ∷ parameter_text v → behind_verb v ≡ space ∷ parameter_text v → FitsParameter verb v → IsParameter (parameter_text v) v → IsTextOf text (row verb v)
value_text verb text v is same behind fits read =
    let p : List ℕ = parameter_text v in
    let inside = line_fits verb v is fits read in
    let line : doubled (verb ++ space ∷ p) ≡ verb ++ space ∷ doubled p = doubled-append verb (space ∷ p) ∙ ap (λ (x : List ℕ). x ++ space ∷ doubled p) (verb_plain verb is) in
    let escape = verb_lacks telnet_escape verb (λ capital. omega (arith, capital.1)) is in
    let feed = verb_lacks line_feed verb (λ capital. omega (arith, capital.0)) is in
    let lacks = All-append (λ x. eqb x 10 ≡ false) verb (space ∷ doubled p) feed (All-cons (λ x. eqb x 10 ≡ false) 32 (doubled p) refl (doubled_lacks p inside.0)) in
    rw same (record {
      one = ap (λ (x : List ℕ). verb ++ x) (sym behind);
      verb = ap folded (sym (verb_front verb p is));
      value = rw (verb_behind verb p is) read;
      writable = rw line (lacks, omega (arith, inside.1, length-append verb (space ∷ doubled p)));
      plain = rw line (begins_plain verb (space ∷ doubled p) escape (unsignalled space (doubled p) refl));
    })

-- ---- sent and read

pub sent : (bytes text : List ℕ) (c : Command) → bytes ≡ doubled text ++ carriage_return ∷ line_feed ∷ [] → IsTextOf text (row_of c) → IsSentAs bytes c
sent bytes text c bytes_are is =
    let line : List ℕ = doubled text in
    let again : telnet_text line ≡ text = ap undoubled is.plain ∙ undoubled-doubled text in
    let says : SaysCommand text c = record { verb = is.verb; value = is.value } in
    record {
      line = line;
      told_first = λ later.
          let spelt : bytes ++ later ≡ (line ++ 13 ∷ []) ++ 10 ∷ later = ap (λ (x : List ℕ). x ++ later) bytes_are ∙ append_assoc line (13 ∷ 10 ∷ []) later ∙ sym (append_assoc line (13 ∷ []) (10 ∷ later)) in
          let single : Lacks line_feed (line ++ 13 ∷ []) = All-append (λ x. eqb x 10 ≡ false) line (13 ∷ []) is.writable.0 (All-cons (λ x. eqb x 10 ≡ false) 13 [] refl (All-nil (λ x. eqb x 10 ≡ false))) in
          let short : length (line ++ 13 ∷ []) < LINE_LIMIT = omega (arith, is.writable.1, length-append line (13 ∷ [])) in
          ap told spelt ∙ told-line (line ++ 13 ∷ []) later single short ∙ ap (λ (x : List ℕ). Line x ∷ told later) (without_return line);
      read = rw again says;
    }
