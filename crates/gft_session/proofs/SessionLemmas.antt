-- How a session begins, goes on and ends.
use Rattle.std.proofs.Common.{◌≡◌, ℕ, ◌++◌, List, [], ◌∷◌, Option, Result, Ok, Err, IsOk, refl, sym, ap, ◌∙◌, append_assoc, append-nil, subst, inl, inr, ◌⊎◌}
use Rattle.std.specs.Io.KnownBytes.{Appends}
use Rattle.gft_drive.specs.Words.{IsPartOf}
use Rattle.gft_text.specs.Words.{Line, Told, told}
use Rattle.gft_text.specs.Words.{Held, shown}
use Rattle.gft_text.specs.Words.{lines_to_come}
use Rattle.gft_outside.specs.Words.{ControlInput, ControlState, said}
use Rattle.gft_outside.proofs.Lemmas.{hears_more, hears_none}
use Rattle.gft_session.specs.declared.session_end.SessionEnd.{SessionEnd}
use Rattle.gft_session.specs.declared.session_end.SessionEnd.TheVariants as ends
use Rattle.gft_session.specs.declared.session_end.Stopped.{Stopped}
use Rattle.gft_session.specs.declared.session_end.Stopped.TheVariants as stops
use Rattle.gft_session.specs.Conversation.{AreTaken, Closes, Converses, HasClosing, HasNoQuit, IsCauseOf, IsCut, IsCutOff, IsQuit, SoFar, Turn, answers_in, before_last, closing, due, end_of, greeting, inputs_of, lines_of, replies_in}
use Rattle.gft_session.specs.Hearing.{HearsLine, IsReason, StopsHearing, overlong_at, taken_at}
use Rattle.gft_session.specs.Brought.{Output, text_of_all}
use Rattle.gft_session.specs.Settings.{Around, World}
use Rattle.gft_library.specs.Words.{NamedWord}
use Rattle.gft_session.specs.Steps.{AreBefore, Gives, Puts, Takes, Tallies, WasRefused, list_of}
use Rattle.gft_session.specs.Table.{AnswersLine}
use Rattle.gft_session.proofs.HearingLemmas.{said-append}
use Rattle.gft_session.proofs.PutLemmas.{appends_more, takes_whole, tallies_more}
use Rattle.gft_session.proofs.RefusalLemmas.{leads_rose}

told_nothing : told [] ≡ []
unfolding told
told_nothing = refl

-- the greeting was put
pub begins : {L D X : Type 0} (around : Around L D) (idle : ℕ) (start : World L X) (control : ControlState) (reader : Held) (old new : Output) →
    ((stream : List ℕ) → lines_to_come reader stream ≡ told stream) → Appends old.put new.put greeting → Tallies old.taken new.taken [] → SoFar around idle start start control control reader old new
begins around idle start control reader old new fresh put none = record {
  turns = [];
  heard = hears_none control;
  lines = λ later. sym (fresh later);
  settled = fresh [] ∙ told_nothing;
  patient = tt;
  leads = refl;
  put = subst (λ xs. Appends old.put new.put xs) (sym (append-nil greeting)) put;
  tallied = none;
  no_quit = tt;
}

-- the lines that are told, with those of a next line
lines_more : (older newer : List ControlInput) (lines more : List Told) (mid new : Held) →
    ((later : List ℕ) → told (said older ++ later) ≡ lines ++ lines_to_come mid later) → ((later : List ℕ) → lines_to_come mid (said newer ++ later) ≡ more ++ lines_to_come new later) →
    (later : List ℕ) → told (said (newer ++ older) ++ later) ≡ (lines ++ more) ++ lines_to_come new later
lines_more older newer lines more mid new far brings later =
    ap (λ xs. told (xs ++ later)) (said-append newer older)
    ∙ ap told (append_assoc (said older) (said newer) later)
    ∙ far (said newer ++ later)
    ∙ ap (λ rest. lines ++ rest) (brings later)
    ∙ sym (append_assoc lines more (lines_to_come new later))

-- those behind the last line
lines_behind : (older behind : List ControlInput) (lines more : List Told) (mid : Held) →
    ((later : List ℕ) → told (said older ++ later) ≡ lines ++ lines_to_come mid later) → lines_to_come mid (said behind) ≡ more → told (said (behind ++ older)) ≡ lines ++ more
lines_behind older behind lines more mid far rest =
    ap told (said-append behind older) ∙ far (said behind) ∙ ap (λ xs. lines ++ xs) rest

-- and where nothing is behind it
lines_now : (older : List ControlInput) (lines : List Told) (now : Held) →
    ((later : List ℕ) → told (said older ++ later) ≡ lines ++ lines_to_come now later) → lines_to_come now [] ≡ [] → told (said older) ≡ lines ++ []
lines_now older lines now far settled =
    ap told (sym (append-nil (said older))) ∙ far [] ∙ ap (λ xs. lines ++ xs) settled

-- one line more, whole
pub goes_on : {L D X T : Type 0} (around : Around L D) (idle : ℕ) (start mid now : World L X) (a b c : ControlState) (reader next : Held) (o p q : Output) (line : List ℕ) (result : Result T Stopped) →
    SoFar around idle start mid a b reader o p → HearsLine idle b c reader next → line ≡ shown next → Gives (λ brought. AnswersLine around line mid brought now) result p q → IsOk result → (IsQuit line → ⊥) →
    SoFar around idle start now a c next o q
goes_on around idle start mid now a b c reader next o p q line result far hears is gives ok no_quit =
    let turn : Turn = record { line = line; inputs = hears.inputs; brought = gives.brought } in
    record {
      turns = turn ∷ far.turns;
      heard = hears_more a b c (inputs_of far.turns) hears.inputs far.heard hears.heard;
      lines = lines_more (inputs_of far.turns) hears.inputs (lines_of far.turns) (Line line ∷ []) reader next far.lines (rw is hears.brings);
      settled = hears.settled;
      patient = (hears.patient, far.patient);
      leads = (mid, far.leads, gives.is_row);
      put = subst (λ xs. Appends o.put q.put xs) (append_assoc greeting (replies_in far.turns) (text_of_all gives.brought.replies))
          (appends_more o.put p.put q.put _ _ far.put (subst (λ xs. Appends p.put q.put xs) (gives.puts.whole ok) gives.puts.put));
      tallied = tallies_more o.taken p.taken q.taken (answers_in far.turns) (list_of gives.brought.answer) far.tallied (takes_whole result gives.brought.answer p.taken q.taken ok gives.takes);
      no_quit = (no_quit, far.no_quit);
    }

-- QUIT was the last line
pub quits : {L D X T : Type 0} (around : Around L D) (idle : ℕ) (start mid now : World L X) (a b c : ControlState) (reader next : Held) (o p q : Output) (line : List ℕ) (result : Result T Stopped) →
    SoFar around idle start mid a b reader o p → HearsLine idle b c reader next → line ≡ shown next → Gives (λ brought. AnswersLine around line mid brought now) result p q → IsOk result → IsQuit line →
    Converses around idle ends.Quit start now a c o q
quits around idle start mid now a b c reader next o p q line result far hears is gives ok quit =
    let turn : Turn = record { line = line; inputs = hears.inputs; brought = gives.brought } in
    record {
      turns = turn ∷ far.turns;
      behind = [];
      bytes = greeting ++ replies_in (turn ∷ far.turns);
      end = ends.Quit;
      heard = hears_more a b c (inputs_of far.turns) hears.inputs far.heard hears.heard;
      lines = lines_now (hears.inputs ++ inputs_of far.turns) (lines_of far.turns ++ Line line ∷ []) next
          (lines_more (inputs_of far.turns) hears.inputs (lines_of far.turns) (Line line ∷ []) reader next far.lines (rw is hears.brings)) hears.settled;
      patient = (hears.patient, far.patient);
      leads = (mid, far.leads, gives.is_row);
      refused = leads_rose around start (turn ∷ far.turns) now (mid, far.leads, gives.is_row);
      cause = ((quit, far.no_quit), refl);
      put = subst (λ xs. Appends o.put q.put xs) (append_assoc greeting (replies_in far.turns) (text_of_all gives.brought.replies))
          (appends_more o.put p.put q.put _ _ far.put (subst (λ xs. Appends p.put q.put xs) (gives.puts.whole ok) gives.puts.put));
      whole = λ _. (refl, ap (λ xs. greeting ++ xs) (sym (append-nil (replies_in (turn ∷ far.turns)))));
      cut = λ cut. absurd cut;
      answers = answers_in (turn ∷ far.turns);
      tallied = tallies_more o.taken p.taken q.taken (answers_in far.turns) (list_of gives.brought.answer) far.tallied (takes_whole result gives.brought.answer p.taken q.taken ok gives.takes);
      taken = refl;
    }

part_of_reply : (front middle part reply : List ℕ) → IsPartOf part reply → IsPartOf ((front ++ middle) ++ part) (front ++ ((middle ++ reply) ++ []))
part_of_reply front middle part reply is = (is.0, rw is.1 (simp (append_assoc, append-nil)))

is_cut_off : (why : Stopped) → IsCutOff (end_of why)
is_cut_off stops.OutFault = tt
is_cut_off stops.OutOfMemory = tt

cut_cause : (why : Stopped) (idle : ℕ) (turns : List Turn) (now : ControlState) → HasNoQuit (before_last turns) → IsCauseOf (end_of why) idle turns [] now
cut_cause stops.OutFault idle turns now no_quit = (no_quit, refl)
cut_cause stops.OutOfMemory idle turns now no_quit = (no_quit, tt)

cut_overlong : (why : Stopped) → overlong_at (end_of why) ≡ []
cut_overlong stops.OutFault = refl
cut_overlong stops.OutOfMemory = refl

cut_taken : (why : Stopped) → taken_at (end_of why) [] ≡ []
cut_taken stops.OutFault = refl
cut_taken stops.OutOfMemory = refl

cut_closing : (why : Stopped) → closing (end_of why) ≡ []
cut_closing stops.OutFault = refl
cut_closing stops.OutOfMemory = refl

-- what the tally took where the last reply was not put whole
record TakenAtLast (why : Stopped) (turns : List Turn) (bytes : List ℕ) (old new : Output) : Type 0 where
  answers : List NamedWord
  tallied : Tallies old.taken new.taken answers
  taken : AreTaken (end_of why) turns bytes answers

taken_at_last : {T : Type 0} (why : Stopped) (turn : Turn) (older : List Turn) (part : List ℕ) (result : Result T Stopped) (o p q : Output) → result ≡ Err why →
    (WasRefused result → AreBefore part turn.brought.replies) → Tallies o.taken p.taken (answers_in older) → Takes result turn.brought.answer p.taken q.taken →
    TakenAtLast why (turn ∷ older) ((greeting ++ replies_in older) ++ part) o q
taken_at_last stops.OutFault turn older part (Ok value) o p q is before far takes = absurd (cc is)
taken_at_last stops.OutFault turn older part (Err stops.OutFault) o p q is before far (inl one) = record {
  answers = list_of turn.brought.answer ++ answers_in older;
  tallied = tallies_more o.taken p.taken q.taken (answers_in older) (list_of turn.brought.answer) far one;
  taken = inl refl;
}
taken_at_last stops.OutFault turn older part (Err stops.OutFault) o p q is before far (inr kept) = record {
  answers = answers_in older;
  tallied = tallies_more o.taken p.taken q.taken (answers_in older) [] far kept;
  taken = inr refl;
}
taken_at_last stops.OutFault turn older part (Err stops.OutOfMemory) o p q is before far takes = absurd (cc is)
taken_at_last stops.OutOfMemory turn older part (Ok value) o p q is before far takes = absurd (cc is)
taken_at_last stops.OutOfMemory turn older part (Err stops.OutFault) o p q is before far takes = absurd (cc is)
taken_at_last stops.OutOfMemory turn older part (Err stops.OutOfMemory) o p q is before far takes = record {
  answers = answers_in older;
  tallied = tallies_more o.taken p.taken q.taken (answers_in older) [] far takes;
  taken = inr ((part, refl, before tt), refl);
}

-- the last reply was not put whole
pub stopped : {L D X T : Type 0} (around : Around L D) (idle : ℕ) (start mid now : World L X) (a b c : ControlState) (reader next : Held) (o p q : Output) (line : List ℕ) (result : Result T Stopped) (why : Stopped) →
    SoFar around idle start mid a b reader o p → HearsLine idle b c reader next → line ≡ shown next → Gives (λ brought. AnswersLine around line mid brought now) result p q → result ≡ Err why →
    Converses around idle (end_of why) start now a c o q
stopped around idle start mid now a b c reader next o p q line result why far hears is gives same =
    let turn : Turn = record { line = line; inputs = hears.inputs; brought = gives.brought } in
    let last = taken_at_last why turn far.turns gives.puts.part result o p q same gives.puts.before far.tallied gives.takes in
    record {
      turns = turn ∷ far.turns;
      behind = [];
      bytes = (greeting ++ replies_in far.turns) ++ gives.puts.part;
      end = end_of why;
      heard = hears_more a b c (inputs_of far.turns) hears.inputs far.heard hears.heard;
      lines = rw (cut_overlong why, cut_taken why) (lines_now (hears.inputs ++ inputs_of far.turns) (lines_of far.turns ++ Line line ∷ []) next
          (lines_more (inputs_of far.turns) hears.inputs (lines_of far.turns) (Line line ∷ []) reader next far.lines (rw is hears.brings)) hears.settled);
      patient = (hears.patient, far.patient);
      leads = (mid, far.leads, gives.is_row);
      refused = leads_rose around start (turn ∷ far.turns) now (mid, far.leads, gives.is_row);
      cause = cut_cause why idle (turn ∷ far.turns) c far.no_quit;
      put = appends_more o.put p.put q.put _ _ far.put gives.puts.put;
      whole = λ uncut. absurd (uncut (is_cut_off why));
      cut = λ _. record {
        front = rw (cut_closing why) (part_of_reply greeting (replies_in far.turns) gives.puts.part (text_of_all gives.brought.replies) gives.puts.is_part);
        has = (gives.puts.part, refl);
      };
      answers = last.answers;
      tallied = last.tallied;
      taken = last.taken;
    }

none_taken : {T : Type 0} (why : Stopped) (result : Result T Stopped) (part : List ℕ) → result ≡ Err why → (WasRefused result → part ≡ []) → AreTaken (end_of why) [] part []
none_taken stops.OutFault result part same none = inl refl
none_taken stops.OutOfMemory result part same none = inr (none (rw same tt), refl)

-- the greeting was not put whole
pub never_begins : {L D X T : Type 0} (around : Around L D) (idle : ℕ) (start : World L X) (control : ControlState) (o p : Output) (result : Result T Stopped) (why : Stopped) →
    Puts result o.put p.put greeting → Tallies o.taken p.taken [] → result ≡ Err why → Converses around idle (end_of why) start start control control o p
never_begins around idle start control o p result why puts none same = record {
  turns = [];
  behind = [];
  bytes = puts.part;
  end = end_of why;
  heard = hears_none control;
  lines = rw (cut_overlong why, cut_taken why) told_nothing;
  patient = tt;
  leads = refl;
  refused = leads_rose around start [] start refl;
  cause = cut_cause why idle [] control tt;
  put = puts.put;
  whole = λ uncut. absurd (uncut (is_cut_off why));
  cut = λ _. record { front = rw (cut_closing why) (puts.is_part.0, append-nil greeting ∙ puts.is_part.1); has = (puts.part, refl) };
  answers = [];
  tallied = none;
  taken = none_taken why result puts.part same puts.none;
}

older_no_quit : (turns : List Turn) → HasNoQuit turns → HasNoQuit (before_last turns)
older_no_quit [] no_quit = tt
older_no_quit (turn ∷ older) no_quit = no_quit.1

cause_from : (end : SessionEnd) (idle : ℕ) (turns : List Turn) (behind : List ControlInput) (now : ControlState) → HasNoQuit turns → IsReason end idle behind now → IsCauseOf end idle turns behind now
cause_from ends.Quit idle turns behind now no_quit reason = absurd reason
cause_from ends.OutFault idle turns behind now no_quit reason = absurd reason
cause_from ends.OutOfMemory idle turns behind now no_quit reason = (older_no_quit turns no_quit, reason)
cause_from ends.Closed idle turns behind now no_quit reason = (no_quit, reason)
cause_from ends.ControlFault idle turns behind now no_quit reason = (no_quit, reason)
cause_from ends.IdleControl idle turns behind now no_quit reason = (no_quit, reason)
cause_from ends.LineTooLong idle turns behind now no_quit reason = (no_quit, reason)

cut_at : (end : SessionEnd) (turns : List Turn) (part : List ℕ) → IsPartOf part (closing end) → IsCut end turns ((greeting ++ replies_in turns) ++ part)
cut_at end [] part is = record { front = (is.0, rw is.1 (simp (append_assoc, append-nil))); has = ((greeting ++ []) ++ part, refl) }
cut_at end (turn ∷ older) part is = record {
  front = (is.0, rw is.1 (simp append_assoc));
  has = (text_of_all turn.brought.replies ++ part, simp append_assoc);
}

whole_from : (end result : SessionEnd) (turns : List Turn) (part : List ℕ) → ((result ≡ end) × (part ≡ closing end)) ⊎ (IsCutOff result × HasClosing end) → (IsCutOff result → ⊥) →
    (end ≡ result) × ((greeting ++ replies_in turns) ++ part ≡ due result turns)
whole_from end result turns part (inl same) uncut = (sym same.0, rw (same.1, same.0) (append_assoc greeting (replies_in turns) (closing end)))
whole_from end result turns part (inr cut) uncut = absurd (uncut cut.0)

taken_at_close : (end result : SessionEnd) (turns : List Turn) (part : List ℕ) → (result ≡ ends.OutOfMemory → part ≡ []) →
    AreTaken result turns ((greeting ++ replies_in turns) ++ part) (answers_in turns)
taken_at_close end ends.OutFault turns part none = inl refl
taken_at_close end ends.OutOfMemory turns part none = inl (rw (none refl) (append-nil (greeting ++ replies_in turns)), refl)
taken_at_close end ends.Quit turns part none = refl
taken_at_close end ends.Closed turns part none = refl
taken_at_close end ends.ControlFault turns part none = refl
taken_at_close end ends.IdleControl turns part none = refl
taken_at_close end ends.LineTooLong turns part none = refl

-- no further line was heard, and the closing line was put, or a part of it
pub closed : {L D X : Type 0} (around : Around L D) (idle : ℕ) (start mid : World L X) (a b c : ControlState) (reader : Held) (o p q : Output) (end result : SessionEnd) →
    SoFar around idle start mid a b reader o p → StopsHearing end idle b c reader → Closes end result p.put q.put → q.taken ≡ p.taken → Converses around idle result start mid a c o q
closed around idle start mid a b c reader o p q end result far hears closes same = record {
  turns = far.turns;
  behind = hears.inputs;
  bytes = (greeting ++ replies_in far.turns) ++ closes.part;
  end = end;
  heard = hears_more a b c (inputs_of far.turns) hears.inputs far.heard hears.heard;
  lines = lines_behind (inputs_of far.turns) (taken_at end hears.inputs) (lines_of far.turns) (overlong_at end) reader far.lines hears.told;
  patient = far.patient;
  leads = far.leads;
  refused = leads_rose around start far.turns mid far.leads;
  cause = cause_from end idle far.turns hears.inputs c far.no_quit hears.reason;
  put = appends_more o.put p.put q.put _ _ far.put closes.put;
  whole = whole_from end result far.turns closes.part closes.becomes;
  cut = λ _. cut_at end far.turns closes.part closes.is_part;
  answers = answers_in far.turns;
  tallied = rw same far.tallied;
  taken = taken_at_close end result far.turns closes.part closes.none;
}
