-- A Book before and after `eof`, `eod` and `fail`.
use Rattle.std.proofs.Common.{◌≡◌, ℕ, ◌+◌, ◌<◌, ◌≤◌, ◌||◌, List, [], ◌∷◌, length, Some, None, Bool, true, false, refl, sym, ap, ◌∙◌, subst, ⊎_elim, inl, inr, arith, eq-eqb, ne_eqb}
use Rattle.std.specs.Prelude.{Option, Result, IfSome, IsSome, OnOk, OnErr, nat_eq, nat_lt, nat_le, unwrap_or, if◌then◌else◌}
use Rattle.std.proofs.lemmas.Option.{none-some, same_Some}
use Rattle.std.proofs.lemmas.Bool.{leb-true, ltb-true, ltb-false, leb-false}
use mathlib.Core.Logic.{dite}
use native.Mathlib.Decide.{ℕ_discrete}
use Rattle.gft_drive.specs.Words.{DriveState, Sent, total_of}
use Rattle.gft_eod.specs.declared.TheConstants.{MAX_EODS}
use Rattle.gft_eod.specs.Words.{Count, IsCount, IsMet, IsWithin, eod_refusal, eods_refusal, eof_refusal, totals_refusal}
use Rattle.gft_eod.specs.declared.EodError.{EodError}
use Rattle.gft_eod.specs.declared.EodError.TheVariants.{BadTotal, TwoTotals, TooManyEods}
use Rattle.gft_keep.specs.declared.Standing.TheVariants.{Whole}
use Rattle.gft_keep.specs.Words.{IsKeep, KeepState}
use Rattle.gft_core.specs.declared.CoreEvent.{CoreEvent}
use Rattle.gft_core.specs.declared.CoreEvent.TheVariants.{Eod, Eof, Lost, Fault, Abort}
use Rattle.gft_core.specs.Words.{first_some, since}
use Rattle.gft_core.proofs.Lemmas.{Counts-eod, Counts-eof, broken-eod, broken-eof, else_none, eod_fits, eof_fits, first_is}
use Rattle.gft_pass.specs.declared.Cause.{Cause}
use Rattle.gft_pass.specs.declared.Cause.TheVariants as cause
use Rattle.gft_pass.specs.declared.Numbers.{Numbers}
use Rattle.gft_pass.specs.Words.{IsAt, Lane, Ledger, cause_of_count, causes, one}
use Rattle.gft_pass.proofs.Lemmas.{causes-first, causes-set, sum_by-at}
use Rattle.gft_book.specs.declared.cause.Stop.{Stop}
use Rattle.gft_book.specs.declared.mark.Mark.{Mark}
use Rattle.gft_book.specs.declared.transfer.Transfer.{Transfer}
use Rattle.gft_book.specs.declared.transfer.Stage.{Stage}
use Rattle.gft_book.specs.declared.transfer.Stage.TheVariants.{Storing, Reading}
use Rattle.gft_book.specs.Book.{BookState, IsLanePass, Seen, book_of, Moving, cause_of, left_out, rest_of, transfer_of, up_to_last}
use Rattle.gft_book.specs.Facts.{ImagesAreFrom, IsBook, IsEnded, IsHonestCause, IsSentBy, IsTransfer, MarksHold, ShowsCause, standing_after}
use Rattle.gft_book.specs.Fits.{AreMarks, Fits, failure_of, if_running}
use Rattle.gft_book.specs.Calls.{CallsOn, HasEodLeft, IsOutside, KeepsCause, RefusesEod, RefusesEof, RunsOn, SameTransfer, SendsEod, SendsTotal, TakesEod, TakesEof, one_eod, with_cause, with_total}
use Rattle.gft_book.proofs.ChoiceLemmas.{by_result, if_some, not_there, off, some_there}
use Rattle.gft_book.proofs.OriginLemmas.{HasSent-same, IsSentBy-set}
use Rattle.gft_book.proofs.SumLemmas.{eods_most, eods_fewer}
use Rattle.gft_book.proofs.TransferLemmas.{IsTransfer-set, in_transfer, moved, moving, transfer_is}
use Rattle.gft_book.proofs.StoreLemmas.{CallsOn-same, same_transfer}
use Rattle.gft_book.proofs.FitLemmas.{Fits-quiet, broken-abort, broken-fault, broken-lost, quiet-abort, quiet-eod, quiet-eof, quiet-fault, quiet-lost, whole_shut}

-- ---- refusals of the count

if_none : (b : Bool) (error : EodError) (other : Option EodError) → (if b then Some error else other) ≡ None → b ≡ false
if_none true error other e = absurd (none-some error (sym e))
if_none false error other e = refl

or_false : (a b : Bool) → (a || b) ≡ false → (a ≡ false) × (b ≡ false)
or_false true b e = absurd (off (sym e))
or_false false b e = (refl, e)

not_zero : (n : ℕ) → nat_eq n 0 ≡ false → 1 ≤ n
not_zero n e = dite (ℕ_discrete n 0) (λ same. absurd (off (sym e ∙ eq-eqb n 0 same))) (λ ne. omega arith)

taken_below : (taken new : ℕ) → eods_refusal taken new ≡ None → taken ≤ new
taken_below taken new e = ltb-false new taken (if_none (nat_lt new taken) (TooManyEods new) None e)

eods_below : (known : Option ℕ) (taken new : ℕ) → totals_refusal known taken new ≡ None → taken ≤ new
eods_below None taken new e = taken_below taken new e
eods_below (Some kept) taken new e =
    dite (ℕ_discrete kept new)
    (λ same. taken_below taken new (ap (λ (c : Bool). if c then eods_refusal taken new else Some (TwoTotals kept new)) (sym (eq-eqb kept new same)) ∙ e))
    (λ ne. absurd (none-some (TwoTotals kept new) (sym e ∙ ap (λ (c : Bool). if c then eods_refusal taken new else Some (TwoTotals kept new)) (ne_eqb kept new ne))))

-- a total that is taken leaves a sound count
eof_within : (count : Count) (new : ℕ) → eof_refusal count new ≡ None → IsWithin (Some new) count.eods
eof_within count new e =
    let test = or_false (nat_eq new 0) (nat_lt MAX_EODS new) (if_none (nat_eq new 0 || nat_lt MAX_EODS new) (BadTotal new) (totals_refusal count.total count.eods new) e) in
    (not_zero new test.0, ltb-false MAX_EODS new test.1, eods_below count.total count.eods new (else_none (nat_eq new 0 || nat_lt MAX_EODS new) (BadTotal new) (totals_refusal count.total count.eods new) e))

eod_within : (count : Count) → IsCount count → eod_refusal count ≡ None → IsWithin count.total (count.eods + 1)
eod_within count within e = cases count.total within (leb-false (unwrap_or count.total MAX_EODS) count.eods (if_none (nat_le (unwrap_or count.total MAX_EODS) count.eods) (TooManyEods (unwrap_or count.total MAX_EODS)) None e))
  where
    cases : (known : Option ℕ) → IsWithin known count.eods → count.eods < unwrap_or known MAX_EODS → IsWithin known (count.eods + 1)
    cases None w lt = omega (arith, lt)
    cases (Some n) w lt = (w.0, w.1, omega (arith, lt))

-- what a refusal shows
shown_eods : (keep : KeepState) (count : Count) (new : ℕ) (b : Bool) (error : EodError) → nat_lt new count.eods ≡ b → (if b then Some (TooManyEods new) else None) ≡ Some error → ShowsCause keep count (cause_of_count error)
shown_eods keep count new true error test e = subst (λ (x : EodError). ShowsCause keep count (cause_of_count x)) (same_error (TooManyEods new) error e) (let lt = ltb-true new count.eods test in omega (arith, lt))
  where
    same_error : (a b : EodError) → Some a ≡ Some b → a ≡ b
    same_error a b h = cc
shown_eods keep count new false error test e = absurd (none-some error e)

shown_totals : (keep : KeepState) (count : Count) (known : Option ℕ) (new : ℕ) (error : EodError) → count.total ≡ known → totals_refusal known count.eods new ≡ Some error → ShowsCause keep count (cause_of_count error)
shown_totals keep count None new error is e = shown_eods keep count new (nat_lt new count.eods) error refl e
shown_totals keep count (Some kept) new error is e =
    dite (ℕ_discrete kept new)
    (λ same. shown_eods keep count new (nat_lt new count.eods) error refl (ap (λ (c : Bool). if c then eods_refusal count.eods new else Some (TwoTotals kept new)) (sym (eq-eqb kept new same)) ∙ e))
    (λ ne. subst (λ (x : EodError). ShowsCause keep count (cause_of_count x)) (same_error (TwoTotals kept new) error (sym (ap (λ (c : Bool). if c then eods_refusal count.eods new else Some (TwoTotals kept new)) (ne_eqb kept new ne)) ∙ e)) (is, ne))
  where
    same_error : (a b : EodError) → Some a ≡ Some b → a ≡ b
    same_error a b h = cc

pub shown_eof : (keep : KeepState) (count : Count) (new : ℕ) (error : EodError) → eof_refusal count new ≡ Some error → ShowsCause keep count (cause_of_count error)
shown_eof keep count new error e = cases (nat_eq new 0) (nat_lt MAX_EODS new) refl refl e
  where
    same_error : (a b : EodError) → Some a ≡ Some b → a ≡ b
    same_error a b h = cc

    zero_is : (n : ℕ) → nat_eq n 0 ≡ true → n ≡ 0
    zero_is n h = dite (ℕ_discrete n 0) (λ same. same) (λ ne. absurd (off (sym (ne_eqb n 0 ne) ∙ h)))

    cases : (a b : Bool) → nat_eq new 0 ≡ a → nat_lt MAX_EODS new ≡ b → (if a || b then Some (BadTotal new) else totals_refusal count.total count.eods new) ≡ Some error → ShowsCause keep count (cause_of_count error)
    cases true b is_zero is_big h = subst (λ (x : EodError). ShowsCause keep count (cause_of_count x)) (same_error (BadTotal new) error h) (inl (zero_is new is_zero))
    cases false true is_zero is_big h = subst (λ (x : EodError). ShowsCause keep count (cause_of_count x)) (same_error (BadTotal new) error h) (inr (ltb-true MAX_EODS new is_big))
    cases false false is_zero is_big h = shown_totals keep count count.total new error refl h

pub shown_eod : (keep : KeepState) (count : Count) (error : EodError) → eod_refusal count ≡ Some error → ShowsCause keep count (cause_of_count error)
shown_eod keep count error e = cases (nat_le (unwrap_or count.total MAX_EODS) count.eods) refl e
  where
    same_error : (a b : EodError) → Some a ≡ Some b → a ≡ b
    same_error a b h = cc

    cases : (b : Bool) → nat_le (unwrap_or count.total MAX_EODS) count.eods ≡ b → (if b then Some (TooManyEods (unwrap_or count.total MAX_EODS)) else None) ≡ Some error → ShowsCause keep count (cause_of_count error)
    cases true test h = subst (λ (x : EodError). ShowsCause keep count (cause_of_count x)) (same_error (TooManyEods (unwrap_or count.total MAX_EODS)) error h) (leb-true (unwrap_or count.total MAX_EODS) count.eods test)
    cases false test h = absurd (none-some error h)

whole_count : (error : EodError) → standing_after (Some (cause_of_count error)) ≡ Whole
whole_count (BadTotal n) = refl
whole_count (TwoTotals k n) = refl
whole_count (TooManyEods n) = refl

-- ---- a cause that leaves the keep whole

IsTransfer-broken : (sent : List ℕ → Option Sent) (keep : KeepState) (t u : Transfer) (before after : Lane) (cause : Cause) → KeepsCause cause before after t u → standing_after (Some cause) ≡ Whole → ShowsCause keep t.count cause
    → ((s : Sent) → sent keep.drive.label ≡ Some s → (rest : _) → left_out t.how ≡ Some rest → IsSentBy (s.orders rest) rest keep t → IsHonestCause s.source keep cause)
    → IsTransfer sent keep t → IsTransfer sent keep u
IsTransfer-broken sent keep t u before after cause f whole shown honest i =
    let same_eods : u.count.eods ≡ t.count.eods = ap (λ (c : Count). c.eods) f.count in
    let same_total : u.count.total ≡ t.count.total = ap (λ (c : Count). c.total) f.count in
    let m = with_cause cause before.count in
    let none : causes t.roster.counts ≡ [] = i.numbers.causes ∙ ap one f.running in
    IsTransfer-set sent keep keep t u before after m f.moves refl
    (i.standing ∙ ap standing_after f.running ∙ sym whole ∙ ap standing_after (sym f.kept)) refl refl
    record {
      within = subst IsCount (sym f.count);
      teller = λ last h. h;
      eods = omega (arith, same_eods);
      total = λ n is. same_total ∙ is;
      mine = λ n is. same_total ∙ i.numbers.totals before.lane n before.count f.moves.listed is;
      told = λ n is. inr (sym same_total ∙ is, refl);
      stopped = λ is. inl (some_there u.cause cause f.kept);
      still = λ is. inl (some_there u.cause cause f.kept);
    }
    (causes-first t.roster.counts before.lane before.count m cause none f.moves.listed refl ∙ ap one (sym f.kept))
    (λ s is rest of h. (
      IsSentBy-set (s.orders rest) rest keep keep t u before m (ap (λ (r : Ledger). r.counts) f.moves.roster) (λ x c. c)
          (HasSent-same ((s.orders rest).order before.lane) ((s.orders rest).number before.lane) keep keep before.count m refl refl (λ x c. c) (h.0.lanes before.lane before.count f.moves.listed))
          (λ n told. inl (sym same_total ∙ told)) h.0,
      subst (λ (o : Option Cause). IfSome o (IsHonestCause s.source keep)) (sym f.kept) (honest s is rest of h.0),
    ))
    (subst (λ (o : Option Cause). IfSome o (ShowsCause keep u.count)) (sym f.kept) (subst (λ (c : Count). ShowsCause keep c cause) (sym f.count) shown))
    i

-- ---- eof

IsTransfer-eof : (sent : List ℕ → Option Sent) (keep : KeepState) (t u : Transfer) (before after : Lane) (total : ℕ) → before.lane + 1 < length t.roster.counts
    → IfSome (sent keep.drive.label) (λ s. IfSome (left_out t.how) (λ rest. total ≡ total_of (s.orders rest)))
    → TakesEof total before after t u → IsTransfer sent keep t → IsTransfer sent keep u
IsTransfer-eof sent keep t u before after total lane honest e i =
    let r = e.runs in
    let m = with_total total before.count in
    let is_eods : u.count.eods ≡ t.count.eods = ap (λ (c : Count). c.eods) r.count in
    let is_total : u.count.total ≡ Some total = ap (λ (c : Count). c.total) r.count in
    let first_total : (n : ℕ) → t.count.total ≡ Some n → n ≡ total = λ n is.
    same_Some n total (ap (λ (o : Option ℕ). first_some o (Some total)) (sym is) ∙ first_is t.count.total t.count.eods total (else_none (nat_eq total 0 || nat_lt MAX_EODS total) (BadTotal total) (totals_refusal t.count.total t.count.eods total) e.fits)) in
    let still : IsEnded t.count t.cause → IsEnded u.count u.cause = λ ended. ⊎_elim
    (λ (failed : IsSome t.cause). absurd (not_there t.cause r.running failed))
    (λ (met : IsMet t.count). inr (is_total ∙ ap (λ (k : ℕ). Some k) (sym (first_total t.count.eods met)) ∙ ap (λ (k : ℕ). Some k) (sym is_eods)))
    ended in
    IsTransfer-set sent keep keep t u before after m r.moves refl
    (i.standing ∙ ap standing_after (r.running ∙ sym r.cause)) refl refl
    record {
      within = λ _. subst IsCount (sym r.count) (eof_within t.count total e.fits);
      teller = λ last h. absurd (omega (arith, last, lane));
      eods = omega (arith, is_eods);
      total = λ n is. is_total ∙ ap (λ (k : ℕ). Some k) (sym (first_total n is));
      mine = λ n is. is_total ∙ is;
      told = λ n is. inl (sym is_total ∙ is);
      stopped = λ is. still (i.numbers.stopped before.lane before.count r.moves.listed is);
      still = still;
    }
    (causes-set t.roster.counts before.lane before.count m r.moves.listed refl ∙ i.numbers.causes ∙ ap one (r.running ∙ sym r.cause))
    (λ s is rest of h. (
      IsSentBy-set (s.orders rest) rest keep keep t u before m (ap (λ (l : Ledger). l.counts) r.moves.roster) (λ x c. c)
          (HasSent-same ((s.orders rest).order before.lane) ((s.orders rest).number before.lane) keep keep before.count m refl refl (λ x c. c) (h.0.lanes before.lane before.count r.moves.listed))
          (λ n told. inr (same_Some n total (sym told ∙ is_total) ∙ if_some (left_out t.how) _ rest of (if_some (sent keep.drive.label) _ s is honest)))
          h.0,
      subst (λ (o : Option Cause). IfSome o (IsHonestCause s.source keep)) (sym r.cause) tt,
    ))
    (subst (λ (o : Option Cause). IfSome o (ShowsCause keep u.count)) (sym r.cause) tt)
    i

-- the origin's total is never refused
never_eof : (sent : List ℕ → Option Sent) (keep : KeepState) (t : Transfer) (total : ℕ) (error : EodError) → IsTransfer sent keep t → eof_refusal t.count total ≡ Some error
    → IfSome (sent keep.drive.label) (λ s. IfSome (left_out t.how) (λ rest. total ≡ total_of (s.orders rest)))
    → (s : Sent) → sent keep.drive.label ≡ Some s → (rest : _) → left_out t.how ≡ Some rest → IsSentBy (s.orders rest) rest keep t → ⊥
never_eof sent keep t total error i refused honest s is rest of f =
    let plan = s.orders rest in
    let is_plan = s.is rest in
    let the_total : total ≡ total_of plan = if_some (left_out t.how) (λ r. total ≡ total_of (s.orders r)) rest of (if_some (sent keep.drive.label) (λ q. IfSome (left_out t.how) (λ r. total ≡ total_of (q.orders r))) s is honest) in
    let few = eods_most t.roster.counts plan.number plan.lanes is_plan.plan.no_more (λ k n at. (f.lanes k n at).eods) in
    none-some error (sym (sym refused ∙ eof_fits t.count total (let a = is_plan.some in omega (arith, the_total, a)) (let a = is_plan.most in omega (arith, the_total, a)) (λ k e. f.total k e ∙ sym the_total) (omega (arith, few, i.numbers.eods, the_total))))

-- ---- eod

IsTransfer-eod : (sent : List ℕ → Option Sent) (keep : KeepState) (t u : Transfer) (before after : Lane) → before.lane + 1 < length t.roster.counts
    → IfSome (sent keep.drive.label) (λ s. IfSome (left_out t.how) (λ rest. HasEodLeft (s.orders rest) before))
    → TakesEod before after t u → IsTransfer sent keep t → IsTransfer sent keep u
IsTransfer-eod sent keep t u before after lane honest e i =
    let r = e.runs in
    let m = one_eod before.count in
    let is_eods : u.count.eods ≡ t.count.eods + 1 = ap (λ (c : Count). c.eods) r.count in
    let is_total : u.count.total ≡ t.count.total = ap (λ (c : Count). c.total) r.count in
    let within = eod_within t.count i.numbers.within e.fits in
    let bounded : t.count.eods + 1 ≤ MAX_EODS = below t.count.total (t.count.eods + 1) within in
    let at_most = sum_by-at (λ (n : Numbers). n.eods) t.roster.counts before.lane before.count r.moves.listed in
    let one_more : m.eods ≡ before.count.eods + 1 = omega (arith, bounded, at_most, i.numbers.eods) in
    let never : IsEnded t.count t.cause → IsEnded u.count u.cause = λ ended. ⊎_elim
    (λ (failed : IsSome t.cause). absurd (not_there t.cause r.running failed))
    (λ (met : IsMet t.count). let w = subst (λ (o : Option ℕ). IsWithin o (t.count.eods + 1)) met within in let a = w.2 in absurd (omega (arith, a)))
    ended in
    IsTransfer-set sent keep keep t u before after m r.moves refl
    (i.standing ∙ ap standing_after (r.running ∙ sym r.cause)) refl refl
    record {
      within = λ _. subst IsCount (sym r.count) within;
      teller = λ last h. absurd (omega (arith, last, lane));
      eods = omega (arith, is_eods, one_more);
      total = λ n is. is_total ∙ is;
      mine = λ n is. is_total ∙ i.numbers.totals before.lane n before.count r.moves.listed is;
      told = λ n is. inr (sym is_total ∙ is, refl);
      stopped = λ is. never (i.numbers.stopped before.lane before.count r.moves.listed is);
      still = never;
    }
    (causes-set t.roster.counts before.lane before.count m r.moves.listed refl ∙ i.numbers.causes ∙ ap one (r.running ∙ sym r.cause))
    (λ s is rest of h.
    let left = if_some (left_out t.how) (λ q. HasEodLeft (s.orders q) before) rest of (if_some (sent keep.drive.label) (λ q. IfSome (left_out t.how) (λ w. HasEodLeft (q.orders w) before)) s is honest) in
    let had = h.0.lanes before.lane before.count r.moves.listed in (
      IsSentBy-set (s.orders rest) rest keep keep t u before m (ap (λ (l : Ledger). l.counts) r.moves.roster) (λ x c. c)
          (record {
            kept = had.kept;
            most = had.most;
            eods = let a = left.0 in omega (arith, a, one_more);
            whole = λ all. left.1 (sym one_more ∙ all);
          })
          (λ n told. inl (sym is_total ∙ told)) h.0,
      subst (λ (o : Option Cause). IfSome o (IsHonestCause s.source keep)) (sym r.cause) tt,
    ))
    (subst (λ (o : Option Cause). IfSome o (ShowsCause keep u.count)) (sym r.cause) tt)
    i
  where
    below : (known : Option ℕ) (n : ℕ) → IsWithin known n → n ≤ MAX_EODS
    below None n w = w
    below (Some k) n w = let a = w.1 in let b = w.2 in omega (arith, a, b)

-- an EOD that is left is never refused
never_eod : (sent : List ℕ → Option Sent) (keep : KeepState) (t : Transfer) (pass : Lane) (error : EodError) → IsAt t.roster.counts pass.lane pass.count → IsTransfer sent keep t → eod_refusal t.count ≡ Some error
    → IfSome (sent keep.drive.label) (λ s. IfSome (left_out t.how) (λ rest. HasEodLeft (s.orders rest) pass))
    → (s : Sent) → sent keep.drive.label ≡ Some s → (rest : _) → left_out t.how ≡ Some rest → IsSentBy (s.orders rest) rest keep t → ⊥
never_eod sent keep t pass error listed i refused honest s is rest of f =
    let plan = s.orders rest in
    let is_plan = s.is rest in
    let left = if_some (left_out t.how) (λ q. HasEodLeft (s.orders q) pass) rest of (if_some (sent keep.drive.label) (λ q. IfSome (left_out t.how) (λ w. HasEodLeft (q.orders w) pass)) s is honest) in
    let fewer = eods_fewer t.roster.counts plan.number plan.lanes is_plan.plan.no_more (λ k n at. (f.lanes k n at).eods) pass.lane pass.count listed left.0 in
    none-some error (sym (sym refused ∙ eod_fits t.count.total t.count.eods (total_of plan) is_plan.most (λ k e. f.total k e) (omega (arith, fewer, i.numbers.eods))))

-- ---- the Book

IsBook-again : (sent : List ℕ → Option Sent) (old new : BookState) (u : Transfer) → IsBook sent old → new.keep ≡ old.keep → new.marks ≡ old.marks → new.stage ≡ Storing u → IsTransfer sent old.keep u → IsBook sent new
IsBook-again sent old new u b keep marks is t =
    record {
      keep = subst IsKeep (sym keep) b.keep;
      marks = subst (λ (k : KeepState). MarksHold k new.marks) (sym keep) (subst (λ (l : List Mark). MarksHold old.keep l) (sym marks) b.marks);
      origin = subst (λ (k : KeepState). ImagesAreFrom sent k) (sym keep) b.origin;
      transfer = subst (λ (s : Stage). IfSome (transfer_of s) (IsTransfer sent new.keep)) (sym is) (subst (λ (k : KeepState). IsTransfer sent k u) (sym keep) t);
      reading = λ n reads. let e : Storing u ≡ Reading n = sym is ∙ reads in cc;
    }

marks_again : (e : CoreEvent) (events : List CoreEvent) (old new : List Mark) → new ≡ old → (AreMarks events new → AreMarks (e ∷ events) new) → AreMarks events old → AreMarks (e ∷ events) new
marks_again e events old new same f m = f (subst (λ (l : List Mark). AreMarks events l) (sym same) m)

total_in : (sent : List ℕ → Option Sent) (book : BookState) (t : Transfer) (total : ℕ) → book.stage ≡ Storing t → SendsTotal sent book total → IfSome (sent book.keep.drive.label) (λ s. IfSome (left_out t.how) (λ rest. total ≡ total_of (s.orders rest)))
total_in sent book t total is h = subst (λ (s : Stage). IfSome (sent book.keep.drive.label) (λ q. IfSome (rest_of s) (λ rest. total ≡ total_of (q.orders rest)))) is h

pub IsBook-eof : (sent : List ℕ → Option Sent) (old new : BookState) (before after : Lane) (total : ℕ) (r : Result (Unit {0}) Stop) → IsBook sent old → IsLanePass old.stage before → SendsTotal sent old total
    → OnOk r (Moving (TakesEof total before after) old.stage new.stage) → OnErr r (Moving (RefusesEof total before after) old.stage new.stage) → new.keep ≡ old.keep → new.marks ≡ old.marks → IsBook sent new
IsBook-eof sent old new before after total r b pass sends ok err keep marks =
    by_result r _ _ (IsBook sent new) ok err
    (λ taken. let m = moved (TakesEof total before after) old.stage new.stage taken in
    IsBook-again sent old new m.after b keep marks m.is
    (IsTransfer-eof sent old.keep m.before m.after before after total (in_transfer _ old.stage m.before m.was pass).1 (total_in sent old m.before total m.was sends) m.so (transfer_is sent old m.before m.was b)))
    (λ refused. let m = moved (RefusesEof total before after) old.stage new.stage refused in
    let i = transfer_is sent old m.before m.was b in
    let e = m.so.error in
    IsBook-again sent old new m.after b keep marks m.is
    (IsTransfer-broken sent old.keep m.before m.after before after (cause_of_count e) m.so.fails (whole_count e) (shown_eof old.keep m.before.count total e m.so.refused)
    (λ s is rest of f. absurd (never_eof sent old.keep m.before total e i m.so.refused (total_in sent old m.before total m.was sends) s is rest of f)) i))

-- the event of a call that found the transfer running
running_event : (new : BookState) (before : Option Cause) (more events : List CoreEvent) → before ≡ None → Fits new more → Fits new (if_running before more events)
running_event new before more events none f = subst (λ (o : Option Cause). Fits new (if_running o more events)) (sym none) f

pub Fits-eof : (sent : List ℕ → Option Sent) (old new : BookState) (before after : Lane) (total : ℕ) (r : Result (Unit {0}) Stop) → IsBook sent old
    → OnOk r (Moving (TakesEof total before after) old.stage new.stage) → OnErr r (Moving (RefusesEof total before after) old.stage new.stage) → new.keep ≡ old.keep → new.marks ≡ old.marks
    → (events : List CoreEvent) → Fits old events → Fits new (if_running (cause_of old.stage) (Eof total ∷ events) events)
Fits-eof sent old new before after total r b ok err keep marks events f =
    by_result r _ _ (Fits new (if_running (cause_of old.stage) (Eof total ∷ events) events)) ok err
    (λ taken. let m = moved (TakesEof total before after) old.stage new.stage taken in
    let whole : old.keep.standing ≡ Whole = (transfer_is sent old m.before m.was b).standing ∙ ap standing_after m.so.runs.running in
    running_event new (cause_of old.stage) (Eof total ∷ events) events (ap cause_of m.was ∙ m.so.runs.running)
    (Fits-quiet old new m.before m.after (Eof total) events keep m.was m.is (quiet-eof total events) (λ o. absurd (off (sym (whole_shut old events whole f) ∙ o))) (marks_again (Eof total) events old.marks new.marks marks (λ k. k))
    (λ runs. record {
      begun = runs.begun;
      counts = λ _. Counts-eof total (since events) m.before.count m.after.count m.so.fits (ap (λ (c : Count). c.total) m.so.runs.count) (ap (λ (c : Count). c.eods) m.so.runs.count) (runs.counts m.so.runs.running);
      failed = λ some. absurd (not_there m.after.cause m.so.runs.cause some);
    }) f))
    (λ refused. let m = moved (RefusesEof total before after) old.stage new.stage refused in
    let whole : old.keep.standing ≡ Whole = (transfer_is sent old m.before m.was b).standing ∙ ap standing_after m.so.fails.running in
    running_event new (cause_of old.stage) (Eof total ∷ events) events (ap cause_of m.was ∙ m.so.fails.running)
    (Fits-quiet old new m.before m.after (Eof total) events keep m.was m.is (quiet-eof total events) (λ o. absurd (off (sym (whole_shut old events whole f) ∙ o))) (marks_again (Eof total) events old.marks new.marks marks (λ k. k))
    (λ runs. record {
      begun = runs.begun;
      counts = λ none. absurd (none-some (cause_of_count m.so.error) (sym (sym m.so.fails.kept ∙ none)));
      failed = λ some. broken-eof total (since events) m.before.count m.so.error m.so.refused (runs.counts m.so.fails.running);
    }) f))

eod_in : (sent : List ℕ → Option Sent) (book : BookState) (t : Transfer) (pass : Lane) → book.stage ≡ Storing t → SendsEod sent book pass → IfSome (sent book.keep.drive.label) (λ s. IfSome (left_out t.how) (λ rest. HasEodLeft (s.orders rest) pass))
eod_in sent book t pass is h = subst (λ (s : Stage). IfSome (sent book.keep.drive.label) (λ q. IfSome (rest_of s) (λ rest. HasEodLeft (q.orders rest) pass))) is h

pub IsBook-eod : (sent : List ℕ → Option Sent) (old new : BookState) (before after : Lane) (r : Result (Unit {0}) Stop) → IsBook sent old → IsLanePass old.stage before → SendsEod sent old before
    → OnOk r (Moving (TakesEod before after) old.stage new.stage) → OnErr r (Moving (RefusesEod before after) old.stage new.stage) → new.keep ≡ old.keep → new.marks ≡ old.marks → IsBook sent new
IsBook-eod sent old new before after r b pass sends ok err keep marks =
    by_result r _ _ (IsBook sent new) ok err
    (λ taken. let m = moved (TakesEod before after) old.stage new.stage taken in
    IsBook-again sent old new m.after b keep marks m.is
    (IsTransfer-eod sent old.keep m.before m.after before after (in_transfer _ old.stage m.before m.was pass).1 (eod_in sent old m.before before m.was sends) m.so (transfer_is sent old m.before m.was b)))
    (λ refused. let m = moved (RefusesEod before after) old.stage new.stage refused in
    let i = transfer_is sent old m.before m.was b in
    let e = m.so.error in
    IsBook-again sent old new m.after b keep marks m.is
    (IsTransfer-broken sent old.keep m.before m.after before after (cause_of_count e) m.so.fails (whole_count e) (shown_eod old.keep m.before.count e m.so.refused)
    (λ s is rest of f. absurd (never_eod sent old.keep m.before before e m.so.fails.moves.listed i m.so.refused (eod_in sent old m.before before m.was sends) s is rest of f)) i))

pub Fits-eod : (sent : List ℕ → Option Sent) (old new : BookState) (before after : Lane) (r : Result (Unit {0}) Stop) → IsBook sent old
    → OnOk r (Moving (TakesEod before after) old.stage new.stage) → OnErr r (Moving (RefusesEod before after) old.stage new.stage) → new.keep ≡ old.keep → new.marks ≡ old.marks
    → (events : List CoreEvent) → Fits old events → Fits new (if_running (cause_of old.stage) (Eod before.lane ∷ events) events)
Fits-eod sent old new before after r b ok err keep marks events f =
    by_result r _ _ (Fits new (if_running (cause_of old.stage) (Eod before.lane ∷ events) events)) ok err
    (λ taken. let m = moved (TakesEod before after) old.stage new.stage taken in
    let whole : old.keep.standing ≡ Whole = (transfer_is sent old m.before m.was b).standing ∙ ap standing_after m.so.runs.running in
    running_event new (cause_of old.stage) (Eod before.lane ∷ events) events (ap cause_of m.was ∙ m.so.runs.running)
    (Fits-quiet old new m.before m.after (Eod before.lane) events keep m.was m.is (quiet-eod before.lane events) (λ o. absurd (off (sym (whole_shut old events whole f) ∙ o))) (marks_again (Eod before.lane) events old.marks new.marks marks (λ k. k))
    (λ runs. record {
      begun = runs.begun;
      counts = λ _. Counts-eod before.lane (since events) m.before.count m.after.count (ap (λ (c : Count). c.total) m.so.runs.count) (ap (λ (c : Count). c.eods) m.so.runs.count) (runs.counts m.so.runs.running);
      failed = λ some. absurd (not_there m.after.cause m.so.runs.cause some);
    }) f))
    (λ refused. let m = moved (RefusesEod before after) old.stage new.stage refused in
    let whole : old.keep.standing ≡ Whole = (transfer_is sent old m.before m.was b).standing ∙ ap standing_after m.so.fails.running in
    running_event new (cause_of old.stage) (Eod before.lane ∷ events) events (ap cause_of m.was ∙ m.so.fails.running)
    (Fits-quiet old new m.before m.after (Eod before.lane) events keep m.was m.is (quiet-eod before.lane events) (λ o. absurd (off (sym (whole_shut old events whole f) ∙ o))) (marks_again (Eod before.lane) events old.marks new.marks marks (λ k. k))
    (λ runs. record {
      begun = runs.begun;
      counts = λ none. absurd (none-some (cause_of_count m.so.error) (sym (sym m.so.fails.kept ∙ none)));
      failed = λ some. broken-eod before.lane (since events) m.before.count m.so.error m.so.refused (runs.counts m.so.fails.running);
    }) f))

-- ---- how the call goes on

never_count : (error : EodError) (o : Option Cause) → o ≡ Some (cause_of_count error) → o ≡ Some cause.DriveFailed → ⊥
never_count (BadTotal n) o is drive = let e : Some (cause.BadTotal n) ≡ Some cause.DriveFailed = sym is ∙ drive in cc
never_count (TwoTotals k n) o is drive = let e : Some (cause.TwoTotals k n) ≡ Some cause.DriveFailed = sym is ∙ drive in cc
never_count (TooManyEods n) o is drive = let e : Some (cause.TooManyEods n) ≡ Some cause.DriveFailed = sym is ∙ drive in cc

-- what a call of the count leaves of the transfer
record Counted (old new : Stage) : Type 0 where
  pub same : Moving SameTransfer old new
  pub ran : cause_of old ≡ None
  pub never : cause_of new ≡ Some cause.DriveFailed → ⊥

counted_on : (m : Numbers) (count : Count) (before after : Lane) (old new : Stage) (t u : Transfer) → old ≡ Storing t → new ≡ Storing u → RunsOn m count before after t u → Counted old new
counted_on m count before after old new t u was is runs =
    record {
      same = moving SameTransfer old new t u was is (same_transfer m before after t u runs.moves);
      ran = ap cause_of was ∙ runs.running;
      never = λ drive. none-some cause.DriveFailed (sym (ap cause_of is ∙ runs.cause) ∙ drive);
    }

counted_off : (c : Cause) (before after : Lane) (old new : Stage) (t u : Transfer) → old ≡ Storing t → new ≡ Storing u → ((o : Option Cause) → o ≡ Some c → o ≡ Some cause.DriveFailed → ⊥) → KeepsCause c before after t u → Counted old new
counted_off c before after old new t u was is never fails =
    record {
      same = moving SameTransfer old new t u was is (same_transfer _ before after t u fails.moves);
      ran = ap cause_of was ∙ fails.running;
      never = never (cause_of new) (ap cause_of is ∙ fails.kept);
    }

counted_eof : (total : ℕ) (before after : Lane) (old new : Stage) (r : Result (Unit {0}) Stop) → OnOk r (Moving (TakesEof total before after) old new) → OnErr r (Moving (RefusesEof total before after) old new) → Counted old new
counted_eof total before after old new r ok err =
    by_result r _ _ (Counted old new) ok err
    (λ taken. let m = moved (TakesEof total before after) old new taken in counted_on _ _ before after old new m.before m.after m.was m.is m.so.runs)
    (λ refused. let m = moved (RefusesEof total before after) old new refused in counted_off (cause_of_count m.so.error) before after old new m.before m.after m.was m.is (never_count m.so.error) m.so.fails)

counted_eod : (before after : Lane) (old new : Stage) (r : Result (Unit {0}) Stop) → OnOk r (Moving (TakesEod before after) old new) → OnErr r (Moving (RefusesEod before after) old new) → Counted old new
counted_eod before after old new r ok err =
    by_result r _ _ (Counted old new) ok err
    (λ taken. let m = moved (TakesEod before after) old new taken in counted_on _ _ before after old new m.before m.after m.was m.is m.so.runs)
    (λ refused. let m = moved (RefusesEod before after) old new refused in counted_off (cause_of_count m.so.error) before after old new m.before m.after m.was m.is (never_count m.so.error) m.so.fails)

pub CallsOn-eof : {D : Type 0} (state : D → DriveState) (sent : List ℕ → Option Sent) (old new : Seen D) (before after : Lane) (total : ℕ) (r : Result (Unit {0}) Stop) → IsBook sent (book_of state old)
    → OnOk r (Moving (TakesEof total before after) old.stage new.stage) → OnErr r (Moving (RefusesEof total before after) old.stage new.stage)
    → new.keep ≡ old.keep → new.last ≡ old.last → new.turns ≡ up_to_last (old.turns + 1) → new.marks ≡ old.marks → CallsOn state old new
CallsOn-eof state sent old new before after total r b ok err keep last turns marks =
    let c = counted_eof total before after old.stage new.stage r ok err in
    CallsOn-same state sent old new b c.same c.ran c.never keep last turns marks

pub CallsOn-eod : {D : Type 0} (state : D → DriveState) (sent : List ℕ → Option Sent) (old new : Seen D) (before after : Lane) (r : Result (Unit {0}) Stop) → IsBook sent (book_of state old)
    → OnOk r (Moving (TakesEod before after) old.stage new.stage) → OnErr r (Moving (RefusesEod before after) old.stage new.stage)
    → new.keep ≡ old.keep → new.last ≡ old.last → new.turns ≡ up_to_last (old.turns + 1) → new.marks ≡ old.marks → CallsOn state old new
CallsOn-eod state sent old new before after r b ok err keep last turns marks =
    let c = counted_eod before after old.stage new.stage r ok err in
    CallsOn-same state sent old new b c.same c.ran c.never keep last turns marks

-- ---- fail

whole_outside : (c : Cause) → IsOutside c → standing_after (Some c) ≡ Whole
whole_outside cause.DriveFailed out = absurd out
whole_outside other out = refl

shown_outside : (c : Cause) (keep : KeepState) (count : Count) → IsOutside c → ShowsCause keep count c
shown_outside (cause.TwoTotals k n) keep count out = absurd out
shown_outside (cause.BadTotal n) keep count out = absurd out
shown_outside (cause.TooManyEods n) keep count out = absurd out
shown_outside (cause.RangesFull n) keep count out = absurd out
shown_outside (cause.Hole a b c) keep count out = absurd out
shown_outside other keep count out = tt

honest_outside : (c : Cause) (source : List ℕ) (keep : KeepState) → IsOutside c → IsHonestCause source keep c
honest_outside (cause.TwoTotals k n) source keep out = absurd out
honest_outside (cause.BadTotal n) source keep out = absurd out
honest_outside (cause.TooManyEods n) source keep out = absurd out
honest_outside (cause.RangesFull n) source keep out = absurd out
honest_outside other source keep out = tt

pub IsBook-fail : (sent : List ℕ → Option Sent) (old new : BookState) (before after : Lane) (c : Cause) → IsBook sent old → IsOutside c → Moving (KeepsCause c before after) old.stage new.stage → new.keep ≡ old.keep → new.marks ≡ old.marks → IsBook sent new
IsBook-fail sent old new before after c b out fails keep marks =
    let m = moved (KeepsCause c before after) old.stage new.stage fails in
    IsBook-again sent old new m.after b keep marks m.is
    (IsTransfer-broken sent old.keep m.before m.after before after c m.so (whole_outside c out) (shown_outside c old.keep m.before.count out) (λ s is rest of f. honest_outside c s.source old.keep out) (transfer_is sent old m.before m.was b))

abbrev IsFailing : CoreEvent → Type 0
IsFailing Lost = Unit {0}
IsFailing Fault = Unit {0}
IsFailing Abort = Unit {0}
IsFailing other = ⊥

failing : (c : Cause) → IsFailing (failure_of c)
failing cause.LinkFailed = tt
failing cause.Aborted = tt
failing cause.ControlGone = tt
failing other = tt

Fits-failing : (e : CoreEvent) → IsFailing e → (old new : BookState) (t u : Transfer) (before after : Lane) (c : Cause) (events : List CoreEvent) → new.keep ≡ old.keep → old.stage ≡ Storing t → new.stage ≡ Storing u → new.marks ≡ old.marks → old.keep.standing ≡ Whole → KeepsCause c before after t u → Fits old events → Fits new (e ∷ events)
Fits-failing Lost h old new t u before after c events keep was is marks whole fails f =
    Fits-quiet old new t u Lost events keep was is (quiet-lost events) (λ o. absurd (off (sym (whole_shut old events whole f) ∙ o))) (marks_again Lost events old.marks new.marks marks (λ k. k))
    (λ runs. record { begun = runs.begun; counts = λ none. absurd (none-some c (sym (sym fails.kept ∙ none))); failed = λ some. broken-lost (since events) }) f
Fits-failing Fault h old new t u before after c events keep was is marks whole fails f =
    Fits-quiet old new t u Fault events keep was is (quiet-fault events) (λ o. refl) (marks_again Fault events old.marks new.marks marks (λ k. k))
    (λ runs. record { begun = runs.begun; counts = λ none. absurd (none-some c (sym (sym fails.kept ∙ none))); failed = λ some. broken-fault (since events) }) f
Fits-failing Abort h old new t u before after c events keep was is marks whole fails f =
    Fits-quiet old new t u Abort events keep was is (quiet-abort events) (λ o. absurd (off (sym (whole_shut old events whole f) ∙ o))) (marks_again Abort events old.marks new.marks marks (λ k. k))
    (λ runs. record { begun = runs.begun; counts = λ none. absurd (none-some c (sym (sym fails.kept ∙ none))); failed = λ some. broken-abort (since events) }) f
Fits-failing other h old new t u before after c events keep was is marks whole fails f = absurd h

pub Fits-fail : (sent : List ℕ → Option Sent) (old new : BookState) (before after : Lane) (c : Cause) → IsBook sent old → Moving (KeepsCause c before after) old.stage new.stage → new.keep ≡ old.keep → new.marks ≡ old.marks
    → (events : List CoreEvent) → Fits old events → Fits new (if_running (cause_of old.stage) (failure_of c ∷ events) events)
Fits-fail sent old new before after c b fails keep marks events f =
    let m = moved (KeepsCause c before after) old.stage new.stage fails in
    let whole : old.keep.standing ≡ Whole = (transfer_is sent old m.before m.was b).standing ∙ ap standing_after m.so.running in
    running_event new (cause_of old.stage) (failure_of c ∷ events) events (ap cause_of m.was ∙ m.so.running)
    (Fits-failing (failure_of c) (failing c) old new m.before m.after before after c events keep m.was m.is marks whole m.so f)

never_outside : (c : Cause) → IsOutside c → (o : Option Cause) → o ≡ Some c → o ≡ Some cause.DriveFailed → ⊥
never_outside cause.DriveFailed out o is drive = out
never_outside (cause.Lost a b d) out o is drive = let e : Some (cause.Lost a b d) ≡ Some cause.DriveFailed = sym is ∙ drive in cc
never_outside (cause.BadBlock a b d) out o is drive = let e : Some (cause.BadBlock a b d) ≡ Some cause.DriveFailed = sym is ∙ drive in cc
never_outside (cause.TwoTotals a b) out o is drive = out
never_outside (cause.BadTotal a) out o is drive = out
never_outside (cause.TooManyEods a) out o is drive = out
never_outside (cause.Idle a b) out o is drive = let e : Some (cause.Idle a b) ≡ Some cause.DriveFailed = sym is ∙ drive in cc
never_outside (cause.Hole a b d) out o is drive = out
never_outside (cause.StreamTooLong a) out o is drive = let e : Some (cause.StreamTooLong a) ≡ Some cause.DriveFailed = sym is ∙ drive in cc
never_outside (cause.TooManyChannels a b d) out o is drive = let e : Some (cause.TooManyChannels a b d) ≡ Some cause.DriveFailed = sym is ∙ drive in cc
never_outside cause.Aborted out o is drive = let e : Some cause.Aborted ≡ Some cause.DriveFailed = sym is ∙ drive in cc
never_outside cause.ControlGone out o is drive = let e : Some cause.ControlGone ≡ Some cause.DriveFailed = sym is ∙ drive in cc
never_outside cause.LinkFailed out o is drive = let e : Some cause.LinkFailed ≡ Some cause.DriveFailed = sym is ∙ drive in cc
never_outside (cause.RangesFull a) out o is drive = out
never_outside cause.Memory out o is drive = let e : Some cause.Memory ≡ Some cause.DriveFailed = sym is ∙ drive in cc

pub CallsOn-fail : {D : Type 0} (state : D → DriveState) (sent : List ℕ → Option Sent) (old new : Seen D) (before after : Lane) (c : Cause) → IsBook sent (book_of state old) → IsOutside c
    → Moving (KeepsCause c before after) old.stage new.stage
    → new.keep ≡ old.keep → new.last ≡ old.last → new.turns ≡ up_to_last (old.turns + 1) → new.marks ≡ old.marks → CallsOn state old new
CallsOn-fail state sent old new before after c b out fails keep last turns marks =
    let m = moved (KeepsCause c before after) old.stage new.stage fails in
    let k = counted_off c before after old.stage new.stage m.before m.after m.was m.is (never_outside c out) m.so in
    CallsOn-same state sent old new b k.same k.ran k.never keep last turns marks
