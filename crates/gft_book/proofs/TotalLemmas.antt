-- A total that is known beforehand stays the only one.
use Rattle.std.proofs.Common.{◌≡◌, ◌⊎◌, ℕ, ◌||◌, List, length, Some, None, Ok, Err, Bool, true, false, refl, sym, ap, ◌∙◌, subst, ⊎_elim, inl, inr, eq-eqb}
use Rattle.std.specs.Prelude.{Option, Result, IfOk, IfSome, OnErr, OnOk, nat_eq, nat_lt, nat_le, unwrap_or, if◌then◌else◌}
use Rattle.std.proofs.lemmas.Option.{none-some, same_Some}
use Rattle.gft_drive.specs.Words.{Sent}
use Rattle.gft_eod.specs.declared.TheConstants.{MAX_EODS}
use Rattle.gft_eod.specs.declared.EodError.{EodError}
use Rattle.gft_eod.specs.declared.EodError.TheVariants.{BadTotal, TwoTotals, TooManyEods}
use Rattle.gft_eod.specs.Words.{Count, eod_refusal, eods_refusal, eof_refusal, totals_refusal}
use Rattle.gft_keep.specs.declared.KeepError.{KeepError}
use Rattle.gft_keep.specs.declared.KeepError.TheVariants as keep
use Rattle.gft_pass.specs.declared.Cause.{Cause}
use Rattle.gft_pass.specs.declared.Cause.TheVariants as cause
use Rattle.gft_pass.specs.Words.{Lane, cause_of_count}
use Rattle.gft_book.specs.declared.cause.Stop.{Stop}
use Rattle.gft_book.specs.declared.transfer.Transfer.{Transfer}
use Rattle.gft_book.specs.declared.transfer.Stage.{Stage}
use Rattle.gft_book.specs.declared.transfer.Stage.TheVariants.{Rest, Reading, Storing}
use Rattle.gft_book.specs.Book.{BookState, InTransfer, Moving, Seen}
use Rattle.gft_book.specs.Calls.{AwaitsMore, FindsEnded, FindsFailed, IsOutside, KeepsCause, KeepsFirst, NotesEnd, RefusesBlock, RefusesEod, RefusesEof, RunsOn, StopsBlock, StopsEod, StopsEof, TakesBlock, TakesEod, TakesEof, cause_of_keep, more_bytes}
use Rattle.gft_book.specs.Live.{HasOneTotal, IsCauseOfTotal, IsLive, IsStarted, KeepsTotal, Start, TotalIn, start_at}
use Rattle.gft_book.proofs.ChoiceLemmas.{if_map, if_some}
use Rattle.gft_book.proofs.LiveLemmas.{in_map}
use Rattle.gft_book.proofs.TransferLemmas.{moved}

-- ---- what the count refuses where there is one total

same_error : (a b : EodError) → Some a ≡ Some b → a ≡ b
same_error a b h = cc

module _ (total : ℕ) (count : Count) (kept : (other : ℕ) → count.total ≡ Some other → other ≡ total) where
  abbrev Shows : EodError → Type 0
  Shows error = IsCauseOfTotal total (cause_of_count error)

  if_shows : (b : Bool) (most : ℕ) (error : EodError) → (most ≡ total) ⊎ (most ≡ MAX_EODS) → (if b then Some (TooManyEods most) else None) ≡ Some error → Shows error
  if_shows true most error which e = subst Shows (same_error (TooManyEods most) error e) which
  if_shows false most error which e = absurd (none-some error e)

  eof_shows : (new : ℕ) → new ≡ total → (error : EodError) → eof_refusal count new ≡ Some error → Shows error
  eof_shows new is error e = cases (nat_eq new 0 || nat_lt MAX_EODS new) e
    where
      totals : (known : Option ℕ) → ((other : ℕ) → known ≡ Some other → other ≡ total) → totals_refusal known count.eods new ≡ Some error → Shows error
      totals None same h = if_shows (nat_lt new count.eods) new error (inl is) h
      totals (Some other) same h =
          if_shows (nat_lt new count.eods) new error (inl is)
          (ap (λ (c : Bool). if c then eods_refusal count.eods new else Some (TwoTotals other new)) (sym (eq-eqb other new (same other refl ∙ sym is))) ∙ h)

      cases : (b : Bool) → (if b then Some (BadTotal new) else totals_refusal count.total count.eods new) ≡ Some error → Shows error
      cases true h = subst Shows (same_error (BadTotal new) error h) is
      cases false h = totals count.total kept h

  eod_shows : (error : EodError) → eod_refusal count ≡ Some error → Shows error
  eod_shows error e = if_shows (nat_le (unwrap_or count.total MAX_EODS) count.eods) (unwrap_or count.total MAX_EODS) error (which count.total kept) e
    where
      which : (known : Option ℕ) → ((other : ℕ) → known ≡ Some other → other ≡ total) → (unwrap_or known MAX_EODS ≡ total) ⊎ (unwrap_or known MAX_EODS ≡ MAX_EODS)
      which None same = inr refl
      which (Some other) same = inl (same other refl)

-- ---- what becomes of the transfer

module _ (total : ℕ) where
  -- count and cause are as before
  same_one : (t u : Transfer) → u.count ≡ t.count → u.cause ≡ t.cause → HasOneTotal total t → HasOneTotal total u
  same_one t u count cause h = record {
    kept = λ other is. h.kept other (ap (λ (c : Count). c.total) (sym count) ∙ is);
    cause = subst (λ (o : Option Cause). IfSome o (IsCauseOfTotal total)) (sym cause) h.cause;
  }

  -- it runs
  runs_one : (u : Transfer) → u.cause ≡ None → ((other : ℕ) → u.count.total ≡ Some other → other ≡ total) → HasOneTotal total u
  runs_one u none kept = record {
    kept = kept;
    cause = subst (λ (o : Option Cause). IfSome o (IsCauseOfTotal total)) (sym none) tt;
  }

  -- it fails
  fails_one : (t u : Transfer) (c : Cause) → u.count ≡ t.count → u.cause ≡ Some c → IsCauseOfTotal total c → HasOneTotal total t → HasOneTotal total u
  fails_one t u c count is shown h = record {
    kept = λ other told. h.kept other (ap (λ (n : Count). n.total) (sym count) ∙ told);
    cause = subst (λ (o : Option Cause). IfSome o (IsCauseOfTotal total)) (sym is) shown;
  }

-- a transfer that changes so goes on to have one total
total_on : (start : Start) (R : Transfer → Transfer → Type 0) (old new : Stage) → ((total : ℕ) → start.total ≡ Some total → (t u : Transfer) → R t u → HasOneTotal total t → HasOneTotal total u) → Moving R old new → KeepsTotal start old → KeepsTotal start new
total_on start R old new so moving h =
    let m = moved R old new moving in
    if_map start.total (λ total. InTransfer (HasOneTotal total) old) (λ total. InTransfer (HasOneTotal total) new)
    (λ total is k. subst (λ (s : Stage). InTransfer (HasOneTotal total) s) (sym m.is) (so total is m.before m.after m.so (subst (λ (s : Stage). InTransfer (HasOneTotal total) s) m.was k)))
    h

-- ---- the calls

pub total_awaits : {D : Type 0} (start : Start) (result : Bool) (old new : Seen D) (before after : Lane) → (result ≡ true → AwaitsMore before after old new) → (result ≡ false → FindsEnded before after old.stage new.stage) → KeepsTotal start old.stage → KeepsTotal start new.stage
total_awaits {D = D} start true old new before after awaits ended h = subst (λ (b : Seen D). KeepsTotal start b.stage) (sym (awaits refl).same) h
total_awaits start false old new before after awaits ended h =
    total_on start (NotesEnd before after) old.stage new.stage (λ total is t u f k. same_one total t u f.count f.cause k) (ended refl).notes h

keep_shows : (total : ℕ) (error : KeepError) → IsCauseOfTotal total (cause_of_keep error)
keep_shows total (keep.RangesFull kept) = tt
keep_shows total keep.OutOfMemory = tt
keep_shows total keep.Failed = tt

pub total_store : (start : Start) (unchanged : Type 0) (r : Result ℕ Stop) (old new : BookState) (before after : Lane) (offset : ℕ) (bytes : List ℕ) → IfOk r (TakesBlock old new before after offset bytes) → OnErr r (StopsBlock unchanged old new before after offset bytes) → KeepsTotal start old.stage → KeepsTotal start new.stage
total_store start unchanged (Ok added) old new before after offset bytes taken stopped h =
    total_on start (λ t u. RunsOn (more_bytes (length bytes) before.count) t.count before after t u) old.stage new.stage
    (λ total is t u f k. runs_one total u f.cause (λ other told. k.kept other (ap (λ (c : Count). c.total) (sym f.count) ∙ told)))
    taken.runs h
total_store start unchanged (Err e) old new before after offset bytes taken stopped h = ⊎_elim
    (λ (found : Moving (FindsFailed before after) old.stage new.stage). total_on start (FindsFailed before after) old.stage new.stage (λ total is t u f k. same_one total t u f.count f.cause k) found h)
    (λ (refused : RefusesBlock unchanged old new before after offset bytes).
    total_on start (KeepsCause (cause_of_keep refused.error) before after) old.stage new.stage (λ total is t u f k. fails_one total t u (cause_of_keep refused.error) f.count f.kept (keep_shows total refused.error) k) refused.fails h)
    stopped

pub total_eof : {A : Type 0} (start : Start) (sent : List ℕ → Option Sent) (r : Result A Stop) (old new : Stage) (before after : Lane) (announced : ℕ) → TotalIn sent start announced
    → OnOk r (Moving (TakesEof announced before after) old new) → OnErr r (Moving (StopsEof announced before after) old new) → KeepsTotal start old → KeepsTotal start new
total_eof start sent (Ok v) old new before after announced honest taken stopped h =
    total_on start (TakesEof announced before after) old new
    (λ total is t u f k. runs_one total u f.runs.cause (λ other told.
    let now : Some announced ≡ Some other = ap (λ (c : Count). c.total) (sym f.runs.count) ∙ told in
    sym (same_Some announced other now) ∙ if_some start.total (λ (known : ℕ). announced ≡ known) total is honest.0))
    taken h
total_eof start sent (Err e) old new before after announced honest taken stopped h =
    total_on start (StopsEof announced before after) old new
    (λ total is t u f k. ⊎_elim
    (λ (found : FindsFailed before after t u). same_one total t u found.count found.cause k)
    (λ (refused : RefusesEof announced before after t u).
    fails_one total t u (cause_of_count refused.error) refused.fails.count refused.fails.kept
    (eof_shows total t.count k.kept announced (if_some start.total (λ (known : ℕ). announced ≡ known) total is honest.0) refused.error refused.refused) k)
    f)
    stopped h

pub total_eod : {A : Type 0} (start : Start) (r : Result A Stop) (old new : Stage) (before after : Lane) → OnOk r (Moving (TakesEod before after) old new) → OnErr r (Moving (StopsEod before after) old new) → KeepsTotal start old → KeepsTotal start new
total_eod start (Ok v) old new before after taken stopped h =
    total_on start (TakesEod before after) old new
    (λ total is t u f k. runs_one total u f.runs.cause (λ other told. k.kept other (ap (λ (c : Count). c.total) (sym f.runs.count) ∙ told)))
    taken h
total_eod start (Err e) old new before after taken stopped h =
    total_on start (StopsEod before after) old new
    (λ total is t u f k. ⊎_elim
    (λ (found : FindsFailed before after t u). same_one total t u found.count found.cause k)
    (λ (refused : RefusesEod before after t u). fails_one total t u (cause_of_count refused.error) refused.fails.count refused.fails.kept (eod_shows total t.count k.kept refused.error refused.refused) k)
    f)
    stopped h

outside_shows : (total : ℕ) (c : Cause) → IsOutside c → IsCauseOfTotal total c
outside_shows total (cause.TwoTotals kept new) out = absurd out
outside_shows total (cause.BadTotal other) out = absurd out
outside_shows total (cause.TooManyEods most) out = absurd out
outside_shows total other out = tt

pub total_fail : (start : Start) (old new : Stage) (before after : Lane) (c : Cause) → IsOutside c → Moving (KeepsFirst c before after) old new → KeepsTotal start old → KeepsTotal start new
total_fail start old new before after c out moving h =
    total_on start (KeepsFirst c before after) old new
    (λ total is t u f k. ⊎_elim
    (λ (found : FindsFailed before after t u). same_one total t u found.count found.cause k)
    (λ (fails : KeepsCause c before after t u). fails_one total t u c fails.count fails.kept (outside_shows total c out) k)
    f)
    moving h

-- ---- the start

-- of a Book whose transfer has had no total any may be known
pub KeepsTotal-untold : (start : Start) (stage : Stage) → InTransfer (λ t. (t.cause ≡ None) × (t.count.total ≡ None)) stage → KeepsTotal start stage
KeepsTotal-untold start stage none = cases start.total
  where
    cases : (o : Option ℕ) → IfSome o (λ total. InTransfer (HasOneTotal total) stage)
    cases None = tt
    cases (Some total) = in_map (λ t. (t.cause ≡ None) × (t.count.total ≡ None)) (HasOneTotal total) stage (λ t h. runs_one total t h.0 (λ other is. absurd (none-some other (sym h.1 ∙ is)))) none

-- and none is by the Book alone
pub KeepsTotal-start : (book : BookState) (stage now : Stage) → KeepsTotal (start_at book stage) now
KeepsTotal-start book (Storing t) now = tt
KeepsTotal-start book Rest now = tt
KeepsTotal-start book (Reading n) now = tt

-- what is known of it says nothing of the rest
pub IsLive-known : (start : Start) (total : Option ℕ) (book : BookState) → IsLive start book → IsLive (record start { total = total }) book
IsLive-known start total book live = record {
  transfer = in_map (IsStarted start) (IsStarted (record start { total = total })) book.stage (λ t h. record { table = h.table; how = h.how; passes = h.passes }) live.transfer;
  kept = record { label = live.kept.label; tells = live.kept.tells; later = live.kept.later; counted = live.kept.counted; ranges = live.kept.ranges; held = live.kept.held };
  failed = live.failed;
}

pub IsLive-unknown : (start : Start) (total : Option ℕ) (book : BookState) → IsLive (record start { total = total }) book → IsLive start book
IsLive-unknown start total book live = record {
  transfer = in_map (IsStarted (record start { total = total })) (IsStarted start) book.stage (λ t h. record { table = h.table; how = h.how; passes = h.passes }) live.transfer;
  kept = record { label = live.kept.label; tells = live.kept.tells; later = live.kept.later; counted = live.kept.counted; ranges = live.kept.ranges; held = live.kept.held };
  failed = live.failed;
}
