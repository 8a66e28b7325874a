-- Whole lanes lead to a complete file, but for the drive's answers and want of memory.
use Rattle.std.proofs.Common.{◌≡◌, ℕ, ◌≤◌, List, [], ◌∷◌, ◌++◌, length, Some, None, Ok, Err, refl, sym, ap, ◌∙◌, subst, ⊎_elim, arith, true≢false}
use Rattle.std.specs.Prelude.{IfErr, IfSome, IsSome, MatchOption, Option, Result, slice_get, false}
use Rattle.gft_range.specs.declared.Range.{Range}
use Rattle.gft_range.specs.Words.{HasNoGap, IsFirstGap}
use Rattle.gft_eod.specs.declared.EodError.{EodError}
use Rattle.gft_eod.specs.declared.EodError.TheVariants as eod
use Rattle.gft_eod.specs.Words.{Count, IsMet, eod_refusal, eof_refusal}
use Rattle.gft_eblock.specs.Words.{Arrival, At, Bad, Eod, Eof, eods}
use Rattle.gft_drive.specs.Words.{Orders, Sent, sum_below, total_of}
use Rattle.gft_keep.specs.declared.KeepError.{KeepError}
use Rattle.gft_keep.specs.declared.KeepError.TheVariants as keep
use Rattle.gft_keep.specs.Words.{KeepState}
use Rattle.gft_outside.specs.Words.{IsWholeLane, LaneInput, LaneState, all_totals, first_of, lane_arrivals}
use Rattle.gft_pass.specs.declared.Cause.{Cause}
use Rattle.gft_pass.specs.declared.Cause.TheVariants.{ControlGone, Memory}
use Rattle.gft_pass.specs.declared.Numbers.{Numbers}
use Rattle.gft_pass.specs.Words.{cause_of_count, causes, one}
use Rattle.gft_book.specs.declared.transfer.Transfer.{Transfer}
use Rattle.gft_book.specs.declared.transfer.Stage.{Stage}
use Rattle.gft_book.specs.declared.transfer.Stage.TheVariants.{Reading, Rest, Storing}
use Rattle.gft_book.specs.Words.{BookState, EndsFailed, InTransfer, IsBook, IsHonestCause, IsLive, IsRefusalOf, IsSentBy, IsStarted, IsStor, IsTransfer, KeptSince, NumbersAgree, SettledFile, SettlesBadly, ShowsHole, Start}
use Rattle.gft_book.specs.Words.{cause_of_keep, left_out, standing_after, transfer_of}
use Rattle.gft_book.proofs.Lemmas.{HasNoGap-met}
use Rattle.gft_receive.specs.declared.limits.Limits.{Limits}
use Rattle.gft_receive.specs.Booking.{IsBooksCause}
use Rattle.gft_receive.specs.Complete.{WholeLanesEndWell, IsExcused, RunsWhole}
use Rattle.gft_receive.specs.Telling.{IsTellers, IsTellersCause}
use Rattle.gft_receive.specs.Transfer.{MovesEach}
use Rattle.gft_receive.proofs.EachLemmas.{BookFound, BooksWhole, GoesThrough, book_found, eods_whole, met_at, met_or_whole, some_at, sum_all, total_taken}
use Rattle.gft_receive.proofs.TableLemmas.{no_both}
use Rattle.gft_receive.proofs.TallyLemmas.{sum_numbers}

-- ---- causes that the Book kept

pub keep_excused : (error : KeepError) → IsExcused (cause_of_keep error)
keep_excused (keep.RangesFull kept) = tt
keep_excused keep.OutOfMemory = tt
keep_excused keep.Failed = tt

count_excused : (source : List ℕ) (state : KeepState) (error : EodError) → IsHonestCause source state (cause_of_count error) → IsExcused (cause_of_count error)
count_excused source state (eod.BadTotal total) honest = absurd honest
count_excused source state (eod.TwoTotals kept new) honest = absurd honest
count_excused source state (eod.TooManyEods total) honest = absurd honest

refusal_excused : (source : List ℕ) (state : KeepState) (refusal : Count → Option EodError) (cause : Cause) → IsRefusalOf refusal cause → IsHonestCause source state cause → IsExcused cause
refusal_excused source state refusal cause r honest =
    subst IsExcused (sym r.kept) (count_excused source state r.error (subst (IsHonestCause source state) r.kept honest))

books_excused : (source : List ℕ) (state : KeepState) (list : List Arrival) (cause : Cause) → IsBooksCause list cause → IsHonestCause source state cause → IsExcused cause
books_excused source state [] cause is honest = absurd is
books_excused source state (At offset value ∷ list) cause is honest = subst IsExcused (sym is.1) (keep_excused is.0)
books_excused source state (Eof total ∷ list) cause is honest = refusal_excused source state (λ count. eof_refusal count total) cause is honest
books_excused source state (Eod ∷ list) cause is honest = refusal_excused source state eod_refusal cause is honest
books_excused source state (Bad refusal ∷ list) cause is honest = absurd is

-- ---- causes of the teller, where no put failed

pub teller_excused : (teller : Numbers) (cause : Cause) → IsTellers false teller → teller.cause ≡ Some cause → IsExcused cause
teller_excused teller cause tellers mine = excused cause (some_at teller.cause (IsTellersCause false) cause mine tellers.cause)
  where
    excused : (cause : Cause) → IsTellersCause false cause → IsExcused cause
    excused Memory is = tt
    excused ControlGone is = absurd (true≢false (sym is))
    excused other is = absurd is

-- ---- how the transfer ends

-- for a kept cause that is excused, and with no hole
pub settled_excused : (keep now : KeepState) (t : Transfer) (cause : Cause) → (t.cause ≡ Some cause → IsExcused cause) → (t.cause ≡ None → ShowsHole keep.ranges t cause → ⊥) → SettlesBadly keep now cause t → IsExcused cause
settled_excused keep now t cause failed no_hole badly = ⊎_elim
    (λ (fails : EndsFailed keep.ranges t cause). ⊎_elim
    (λ (kept : t.cause ≡ Some cause). failed kept)
    (λ (open_ : (t.cause ≡ None) × ShowsHole keep.ranges t cause). absurd (no_hole open_.0 open_.1))
    fails)
    (λ late. subst IsExcused (sym late.2) tt)
    badly

pub end_excused : (keep now : KeepState) (P Q : Transfer → Type 0) (stage : Stage) (end : Result SettledFile Cause) → InTransfer P stage → InTransfer Q stage
    → ((t : Transfer) → stage ≡ Storing t → P t → Q t → (cause : Cause) → SettlesBadly keep now cause t → IsExcused cause) → IfErr end (λ cause. InTransfer (SettlesBadly keep now cause) stage) → IfErr end IsExcused
end_excused keep now P Q stage (Ok file) p q so badly = tt
end_excused keep now P Q (Storing t) (Err cause) p q so badly = so t refl p q cause badly
end_excused keep now P Q Rest (Err cause) p q so badly = absurd p
end_excused keep now P Q (Reading n) (Err cause) p q so badly = absurd p

-- ---- a STOR

-- a whole lane of a STOR, at its shift
sound_of : (shift : ℕ) (source : List ℕ) (orders : Orders) (k : ℕ) (list : List LaneInput) → shift ≡ 0 → IsWholeLane source orders k list → GoesThrough shift list
sound_of shift source orders k list unshifted whole =
    subst (λ (n : ℕ). GoesThrough n list) (sym unshifted) (record { smooth = whole.smooth; ends = whole.ends; no_refusal = whole.honest.no_refusal })

module _ {L : Type 0} (state : L → LaneState) (limits : Limits) (s : Sent) (rest : List Range) (lanes back : List L) (counts : List Numbers)
    (unshifted : limits.shift ≡ 0) (patient : 1 ≤ limits.idle) (run : RunsWhole state s rest lanes back) (moves : MovesEach state limits lanes back counts) (teller : Numbers) (tellers : IsTellers false teller) where
  each_sound : (k : ℕ) (list : List LaneInput) → slice_get run.lists k ≡ Some list → GoesThrough limits.shift list
  each_sound k list at = sound_of limits.shift s.source (s.orders rest) k list unshifted (run.whole.each k list at)

  -- where no pass has a cause all EODs came: those of each lane are its number
  all_met : (count : Count) → NumbersAgree (counts ++ teller ∷ []) count None → ((total : ℕ) → count.total ≡ Some total → total ≡ total_of (s.orders rest)) → IsMet count
  all_met count agree honest = ⊎_elim (λ (met : IsMet count). met) whole (met_or_whole state limits lanes back counts run.lists patient run.gives each_sound moves teller count agree)
    where
      number_is : (k : ℕ) (n : Numbers) → slice_get counts k ≡ Some n → BooksWhole limits.shift run.lists k n → n.eods ≡ (s.orders rest).number k
      number_is k n at b =
          eods_whole state limits lanes back counts run.lists patient run.gives each_sound moves teller tellers.eods count None agree k n at b
          ∙ ap (λ (shift : ℕ). eods (lane_arrivals shift b.list)) unshifted ∙ (run.whole.each k b.list b.at).number

      whole : ((k : ℕ) (n : Numbers) → slice_get counts k ≡ Some n → BooksWhole limits.shift run.lists k n) → IsMet count
      whole each =
          let announced : IsSome (first_of (all_totals limits.shift run.lists)) = subst (λ (shift : ℕ). IsSome (first_of (all_totals shift run.lists))) (sym unshifted) run.whole.announced in
          let total = total_taken state limits lanes back counts run.lists patient run.gives each_sound moves teller tellers.eods count None agree announced each in
          let one_each = moves.one_each in
          let many = run.gives.many in
          let by_number = sum_numbers (s.orders rest).number counts (λ k n at. number_is k n at (each k n at)) in
          let plan : sum_below (s.orders rest).number (length counts) ≡ total_of (s.orders rest) = ap (sum_below (s.orders rest).number) (one_each ∙ sym many) ∙ run.whole.sum in
          let all = sum_all state limits lanes back counts run.lists patient run.gives each_sound moves teller tellers.eods count None agree in
          let is = honest total.0 total.1 in
          let reached : total.0 ≡ count.eods = omega (arith, by_number, plan, all, is) in
          met_at count total.0 total.1 reached

  -- ---- the end

  module _ (sent : List ℕ → Option Sent) (start : Start) (book : BookState) (now : KeepState) (t : Transfer) (b : IsBook sent book) (is : book.stage ≡ Storing t) (kept : KeptSince start book.keep) (started : IsStarted start t)
      (source : sent start.label ≡ Some s) (stor : left_out start.how ≡ Some rest) (tells : IsSome start.read) (listed : t.roster.counts ≡ counts ++ teller ∷ []) where
    facts : IsTransfer sent book.keep t
    facts = let h = subst (λ (stage : Stage). IfSome (transfer_of stage) (IsTransfer sent book.keep)) is b.transfer in h

    its_source : sent book.keep.drive.label ≡ Some s
    its_source = ap sent kept.label ∙ source

    its_rest : left_out t.how ≡ Some rest
    its_rest = ap left_out started.how ∙ stor

    origin : IsSentBy (s.orders rest) rest book.keep t × IfSome t.cause (IsHonestCause s.source book.keep)
    origin = some_at (left_out t.how) (λ (r : List Range). IsSentBy (s.orders r) r book.keep t × IfSome t.cause (IsHonestCause s.source book.keep)) rest its_rest
        (some_at (sent book.keep.drive.label) (λ (p : Sent). IfSome (left_out t.how) (λ (r : List Range). IsSentBy (p.orders r) r book.keep t × IfSome t.cause (IsHonestCause p.source book.keep))) s its_source facts.origin)

    failed_excused : (cause : Cause) → t.cause ≡ Some cause → IsExcused cause
    failed_excused cause failed =
        ⊎_elim
        (λ (found : BookFound limits.shift run.lists counts cause). books_excused s.source book.keep found.books.rest cause found.found (some_at t.cause (IsHonestCause s.source book.keep) cause failed origin.1))
        (λ (mine : teller.cause ≡ Some cause). teller_excused teller cause tellers mine)
        (book_found state limits lanes back counts run.lists patient run.gives each_sound moves teller cause (ap causes (sym listed) ∙ facts.numbers.causes ∙ ap one failed))

    no_hole : (cause : Cause) → t.cause ≡ None → ShowsHole book.keep.ranges t cause → ⊥
    no_hole cause none hole =
        let agree = subst (λ (o : Option Cause). NumbersAgree (counts ++ teller ∷ []) t.count o) none (subst (λ (l : List Numbers). NumbersAgree l t.count t.cause) listed facts.numbers) in
        let met = all_met t.count agree origin.0.total in
        let completes_it : IsStor t = subst (λ (o : Option (List Range)). IsSome o) (sym its_rest) refl in
        let no_gap = HasNoGap-met sent book t s b is its_source completes_it (kept.tells tells) (facts.standing ∙ ap standing_after none) met in
        ⊎_elim (λ (unmet : ¬ IsMet t.count). unmet met) (λ (gap : IsStor t × IsSome hole.missing). first hole.missing gap.1 hole.first no_gap) hole.is_hole
      where
        first : (o : Option Range) → IsSome o → MatchOption o (HasNoGap book.keep.ranges) (IsFirstGap book.keep.ranges) → HasNoGap book.keep.ranges → ⊥
        first None there m no_gap = no_both false there refl
        first (Some r) there m no_gap = m.inside r.start (omega arith, m.non_empty) (no_gap r.start r.end m.non_empty m.behind)

  pub complete_end : (sent : List ℕ → Option Sent) (start : Start) (book : BookState) (now : KeepState) (end : Result SettledFile Cause) → IsBook sent book → IsLive start book
      → sent start.label ≡ Some s → left_out start.how ≡ Some rest → IsSome start.read → InTransfer (λ t. t.roster.counts ≡ counts ++ teller ∷ []) book.stage
      → IfErr end (λ cause. InTransfer (SettlesBadly book.keep now cause) book.stage) → IfErr end IsExcused
  complete_end sent start book now end b live source stor tells listed badly =
      end_excused book.keep now (IsStarted start) (λ t. t.roster.counts ≡ counts ++ teller ∷ []) book.stage end live.transfer listed
      (λ t is started counted cause. settled_excused book.keep now t cause (failed_excused sent start book now t b is live.kept started source stor tells counted cause) (no_hole sent start book now t b is live.kept started source stor tells counted cause))
      badly

-- what becomes of a transfer whose lanes are whole
pub completes : {L : Type 0} → (state : L → LaneState) (limits : Limits) (sent : List ℕ → Option Sent) (start : Start) (book : BookState) (now : KeepState) (lanes back : List L) (counts : List Numbers) (teller : Numbers) (end : Result SettledFile Cause)
    → IsTellers false teller → IsBook sent book → IsLive start book → InTransfer (λ t. t.roster.counts ≡ counts ++ teller ∷ []) book.stage → MovesEach state limits lanes back counts
    → IfErr end (λ cause. InTransfer (SettlesBadly book.keep now cause) book.stage) → WholeLanesEndWell state sent limits start lanes back end
completes state limits sent start book now lanes back counts teller end tellers b live listed moves badly s rest source stor tells unshifted patient run =
    complete_end state limits s rest lanes back counts unshifted patient run moves teller tellers sent start book now end b live source stor tells listed badly
