-- Whole parts lead to a good end of an ESTO, but for the drive's answers and want of memory.
use Rattle.std.proofs.Common.{◌≡◌, ℕ, zero, suc, ◌+◌, ◌<◌, ◌≤◌, List, [], ◌∷◌, ◌++◌, length, map, Some, None, refl, sym, ap, ◌∙◌, subst, ⊎_elim, arith}
use Rattle.std.specs.Prelude.{IfErr, IfSome, IsSome, Option, Result, false, slice_get, sum_by}
use Rattle.std.proofs.lemmas.List.Sums.{sum_by-cons}
use Rattle.std.proofs.lemmas.Option.{none-some, same_Some}
use Rattle.gft_range.specs.declared.Range.{Range}
use Rattle.gft_eod.specs.declared.TheConstants.{MAX_EODS}
use Rattle.gft_eod.specs.declared.EodError.{EodError}
use Rattle.gft_eod.specs.declared.EodError.TheVariants as eod
use Rattle.gft_eod.specs.Words.{Count, IsMet, eod_refusal, eof_refusal}
use Rattle.gft_eblock.specs.Words.{Arrival, At, Bad, Eod, Eof, eods}
use Rattle.gft_eblock.proofs.Lemmas.{eods-append}
use Rattle.gft_drive.specs.Words.{Sent}
use Rattle.gft_keep.specs.Words.{KeepState}
use Rattle.gft_outside.specs.Words.{AreAgreed, LaneInput, LaneState, all_eods, all_totals, first_of, lane_arrivals}
use Rattle.gft_pass.specs.declared.Cause.{Cause}
use Rattle.gft_pass.specs.declared.Numbers.{Numbers}
use Rattle.gft_pass.specs.Words.{cause_of_count, one}
use Rattle.gft_book.specs.declared.transfer.Transfer.{Transfer}
use Rattle.gft_book.specs.declared.transfer.Stage.{Stage}
use Rattle.gft_book.specs.declared.transfer.Stage.TheVariants.{Storing}
use Rattle.gft_book.specs.Words.{BookState, HasOneTotal, InTransfer, IsBook, IsCauseOfTotal, IsLive, IsRefusalOf, IsStarted, IsStor, IsTransfer, KeepsTotal, NumbersAgree, SettledFile, SettlesBadly, ShowsCause, ShowsHole, Start}
use Rattle.gft_book.specs.Words.{left_out, transfer_of}
use Rattle.gft_receive.specs.declared.limits.Limits.{Limits}
use Rattle.gft_receive.specs.Booking.{IsBooksCause}
use Rattle.gft_receive.specs.Complete.{IsExcused, RunsWholeParts, WholePartsEndWell, bytes_sent}
use Rattle.gft_receive.specs.Known.{only_total, total_known, totals_left}
use Rattle.gft_receive.specs.Telling.{IsTellers}
use Rattle.gft_receive.specs.Transfer.{MovesEach}
use Rattle.gft_receive.proofs.BehindLemmas.{eod_behind}
use Rattle.gft_receive.proofs.CompleteLemmas.{end_excused, keep_excused, settled_excused, teller_excused}
use Rattle.gft_receive.proofs.EachLemmas.{BookFound, BooksFront, BooksWhole, GoesThrough, book_found, books_front, eods_front, eods_whole, met_at, met_or_whole, some_at, sum_all, total_taken}
use Rattle.gft_receive.proofs.KnownLemmas.{known_untold, lefts_told, only_agreed}
use Rattle.gft_receive.proofs.TableLemmas.{no_both}

-- ---- sums over the lanes

abbrev EachPass : ℕ → List Numbers → List (List LaneInput) → (ℕ → ℕ → Type 0) → Type 0
EachPass shift counts lists R = (k : ℕ) (n : Numbers) (list : List LaneInput) → slice_get counts k ≡ Some n → slice_get lists k ≡ Some list → R n.eods (eods (lane_arrivals shift list))

sum_same : (shift : ℕ) (counts : List Numbers) (lists : List (List LaneInput)) → length counts ≡ length lists → EachPass shift counts lists (λ a b. a ≡ b) → sum_by (λ (n : Numbers). n.eods) counts ≡ all_eods shift lists
sum_same shift [] [] many each = refl
sum_same shift [] (list ∷ lists) many each = absurd (omega (arith, many))
sum_same shift (n ∷ counts) [] many each = absurd (omega (arith, many))
sum_same shift (n ∷ counts) (list ∷ lists) many each =
    let here : n.eods ≡ eods (lane_arrivals shift list) = each 0 n list refl refl in
    let later = sum_same shift counts lists (omega (arith, many)) (λ k m l at_m at_l. each (suc k) m l at_m at_l) in
    omega (arith, here, later, sum_by-cons (λ (m : Numbers). m.eods) n counts)

sum_most : (shift : ℕ) (counts : List Numbers) (lists : List (List LaneInput)) → length counts ≡ length lists → EachPass shift counts lists (λ a b. a ≤ b) → sum_by (λ (n : Numbers). n.eods) counts ≤ all_eods shift lists
sum_most shift [] [] many each = omega arith
sum_most shift [] (list ∷ lists) many each = absurd (omega (arith, many))
sum_most shift (n ∷ counts) [] many each = absurd (omega (arith, many))
sum_most shift (n ∷ counts) (list ∷ lists) many each =
    let here : n.eods ≤ eods (lane_arrivals shift list) = each 0 n list refl refl in
    let later = sum_most shift counts lists (omega (arith, many)) (λ k m l at_m at_l. each (suc k) m l at_m at_l) in
    omega (arith, here, later, sum_by-cons (λ (m : Numbers). m.eods) n counts)

-- one pass lacks an EOD
sum_short : (shift : ℕ) (counts : List Numbers) (lists : List (List LaneInput)) → length counts ≡ length lists → EachPass shift counts lists (λ a b. a ≤ b)
    → (k : ℕ) (n : Numbers) (list : List LaneInput) → slice_get counts k ≡ Some n → slice_get lists k ≡ Some list → n.eods + 1 ≤ eods (lane_arrivals shift list) → sum_by (λ (n : Numbers). n.eods) counts + 1 ≤ all_eods shift lists
sum_short shift [] lists many each k n list at_n at_l lacks = absurd (none-some n at_n)
sum_short shift (m ∷ counts) [] many each k n list at_n at_l lacks = absurd (none-some list at_l)
sum_short shift (m ∷ counts) (l ∷ lists) many each zero n list at_n at_l lacks =
    let mine = ap (λ (c : Numbers). c.eods) (same_Some m n at_n) in
    let its = ap (λ (i : List LaneInput). eods (lane_arrivals shift i)) (same_Some l list at_l) in
    let later = sum_most shift counts lists (omega (arith, many)) (λ k a b at_a at_b. each (suc k) a b at_a at_b) in
    omega (arith, mine, its, lacks, later, sum_by-cons (λ (c : Numbers). c.eods) m counts)
sum_short shift (m ∷ counts) (l ∷ lists) many each (suc k) n list at_n at_l lacks =
    let here : m.eods ≤ eods (lane_arrivals shift l) = each 0 m l refl refl in
    let later = sum_short shift counts lists (omega (arith, many)) (λ j a b at_a at_b. each (suc j) a b at_a at_b) k n list at_n at_l lacks in
    omega (arith, here, later, sum_by-cons (λ (c : Numbers). c.eods) m counts)

-- ---- what the Book refuses

agreed_bounds : (ns : List ℕ) (total : ℕ) → first_of ns ≡ Some total → AreAgreed ns → (1 ≤ total) × (total ≤ MAX_EODS)
agreed_bounds [] total first agreed = absurd (none-some total first)
agreed_bounds (n ∷ ns) total first agreed = let is = same_Some n total first in let least = agreed.0 in let most = agreed.1 in (omega (arith, is, least), omega (arith, is, most))

count_excused : (total : ℕ) (keep : KeepState) (count : Count) (error : EodError) → 1 ≤ total → total ≤ MAX_EODS → count.eods + 1 ≤ total → IsCauseOfTotal total (cause_of_count error) → ShowsCause keep count (cause_of_count error) → IsExcused (cause_of_count error)
count_excused total keep count (eod.TwoTotals kept new) least most short of_it shown = absurd of_it
count_excused total keep count (eod.BadTotal other) least most short of_it shown = absurd (⊎_elim
    (λ (none : other ≡ 0). omega (arith, of_it, none, least))
    (λ (many : MAX_EODS < other). omega (arith, of_it, many, most))
    shown)
count_excused total keep count (eod.TooManyEods limit) least most short of_it shown = absurd (⊎_elim
    (λ (is : limit ≡ total). omega (arith, is, shown, short))
    (λ (is : limit ≡ MAX_EODS). omega (arith, is, shown, short, most))
    of_it)

-- an EOF or an EOD that isn't booked leaves one EOD that isn't
books_excused : (total : ℕ) (keep : KeepState) (count : Count) (shift : ℕ) (list : List LaneInput) (booked rest more : List Arrival) (cause : Cause) → lane_arrivals shift list ≡ booked ++ (rest ++ more) → GoesThrough shift list
    → 1 ≤ total → total ≤ MAX_EODS → (1 ≤ eods (rest ++ more) → count.eods + 1 ≤ total) → IsCauseOfTotal total cause → ShowsCause keep count cause → IsBooksCause rest cause → IsExcused cause
books_excused total keep count shift list booked [] more cause front sound least most short of_it shown is = absurd is
books_excused total keep count shift list booked (At offset value ∷ rest) more cause front sound least most short of_it shown is = subst IsExcused (sym is.1) (keep_excused is.0)
books_excused total keep count shift list booked (Eof t ∷ rest) more cause front sound least most short of_it shown is =
    let r : IsRefusalOf (λ n. eof_refusal n t) cause = is in
    let behind = eod_behind shift list booked (rest ++ more) t sound.ends front in
    subst IsExcused (sym r.kept) (count_excused total keep count r.error least most (short behind) (subst (IsCauseOfTotal total) r.kept of_it) (subst (ShowsCause keep count) r.kept shown))
books_excused total keep count shift list booked (Eod ∷ rest) more cause front sound least most short of_it shown is =
    let r : IsRefusalOf eod_refusal cause = is in
    subst IsExcused (sym r.kept) (count_excused total keep count r.error least most (short (omega arith)) (subst (IsCauseOfTotal total) r.kept of_it) (subst (ShowsCause keep count) r.kept shown))
books_excused total keep count shift list booked (Bad refusal ∷ rest) more cause front sound least most short of_it shown is = absurd is

module _ {L : Type 0} (state : L → LaneState) (limits : Limits) (source : Option (List ℕ)) (lanes back : List L) (counts : List Numbers) (patient : 1 ≤ limits.idle) (run : RunsWholeParts state source limits.shift lanes back) (moves : MovesEach state limits lanes back counts) (teller : Numbers) (tellers : IsTellers false teller) where
  bounds : (1 ≤ run.whole.total) × (run.whole.total ≤ MAX_EODS)
  bounds = agreed_bounds (all_totals limits.shift run.lists) run.whole.total run.whole.announced run.whole.agreed

  each_sound : (k : ℕ) (list : List LaneInput) → slice_get run.lists k ≡ Some list → GoesThrough limits.shift list
  each_sound k list at = let part = run.whole.each k list at in record { smooth = part.smooth; ends = part.ends; no_refusal = part.no_refusal }

  as_many : length counts ≡ length run.lists
  as_many = moves.one_each ∙ sym run.gives.many

  module _ (count : Count) (cause : Option Cause) (agree : NumbersAgree (counts ++ teller ∷ []) count cause) where
    sum : count.eods ≡ sum_by (λ (n : Numbers). n.eods) counts
    sum = sum_all state limits lanes back counts run.lists patient run.gives each_sound moves teller tellers.eods count cause agree

    -- the EODs of a lane are those that are booked, and the others
    lane_eods : (k : ℕ) (n : Numbers) → slice_get counts k ≡ Some n → (b : BooksFront limits.shift run.lists k n) → eods (lane_arrivals limits.shift b.list) ≡ n.eods + eods (b.rest ++ b.more)
    lane_eods k n at b =
        let is = eods_front state limits lanes back counts run.lists patient run.gives each_sound moves teller tellers.eods count cause agree k n at b in
        let whole = ap eods b.front ∙ eods-append b.booked (b.rest ++ b.more) in
        omega (arith, is, whole)

    at_most : EachPass limits.shift counts run.lists (λ a b. a ≤ b)
    at_most k n list at_n at_l =
        let b = books_front state limits lanes back counts run.lists patient run.gives each_sound moves k n at_n in
        let same = ap (λ (l : List LaneInput). eods (lane_arrivals limits.shift l)) (same_Some b.list list (sym b.at ∙ at_l)) in
        let split = lane_eods k n at_n b in
        omega (arith, same, split)

    lacks_one : (k : ℕ) (n : Numbers) → slice_get counts k ≡ Some n → (b : BooksFront limits.shift run.lists k n) → 1 ≤ eods (b.rest ++ b.more) → count.eods + 1 ≤ run.whole.total
    lacks_one k n at b some =
        let split = lane_eods k n at b in
        let short = sum_short limits.shift counts run.lists as_many at_most k n b.list at b.at (omega (arith, split, some)) in
        let met = run.whole.met in
        let all = sum in
        omega (arith, short, met, all)

  -- where no pass has a cause all EODs came
  all_met : (count : Count) → NumbersAgree (counts ++ teller ∷ []) count None → ((other : ℕ) → count.total ≡ Some other → other ≡ run.whole.total) → IsMet count
  all_met count agree only = ⊎_elim (λ (met : IsMet count). met) whole (met_or_whole state limits lanes back counts run.lists patient run.gives each_sound moves teller count agree)
    where
      whole : ((k : ℕ) (n : Numbers) → slice_get counts k ≡ Some n → BooksWhole limits.shift run.lists k n) → IsMet count
      whole each =
          let announced : IsSome (first_of (all_totals limits.shift run.lists)) = subst (λ (o : Option ℕ). IsSome o) (sym run.whole.announced) refl in
          let taken = total_taken state limits lanes back counts run.lists patient run.gives each_sound moves teller tellers.eods count None agree announced each in
          let is = only taken.0 taken.1 in
          let same : sum_by (λ (n : Numbers). n.eods) counts ≡ all_eods limits.shift run.lists = sum_same limits.shift counts run.lists as_many (λ k n list at_n at_l.
          let b = each k n at_n in
          eods_whole state limits lanes back counts run.lists patient run.gives each_sound moves teller tellers.eods count None agree k n at_n b
          ∙ ap (λ (l : List LaneInput). eods (lane_arrivals limits.shift l)) (same_Some b.list list (sym b.at ∙ at_l))) in
          let met = run.whole.met in
          let all = sum count None agree in
          let reached : taken.0 ≡ count.eods = omega (arith, is, same, met, all) in
          met_at count taken.0 taken.1 reached

  -- ---- the end

  module _ (sent : List ℕ → Option Sent) (start : Start) (book : BookState) (t : Transfer) (b : IsBook sent book) (is : book.stage ≡ Storing t) (started : IsStarted start t)
      (esto : left_out start.how ≡ None) (one_total : HasOneTotal run.whole.total t) (listed : t.roster.counts ≡ counts ++ teller ∷ []) where
    facts : IsTransfer sent book.keep t
    facts = let h = subst (λ (stage : Stage). IfSome (transfer_of stage) (IsTransfer sent book.keep)) is b.transfer in h

    numbers : NumbersAgree (counts ++ teller ∷ []) t.count t.cause
    numbers = subst (λ (l : List Numbers). NumbersAgree l t.count t.cause) listed facts.numbers

    failed_excused : (cause : Cause) → t.cause ≡ Some cause → IsExcused cause
    failed_excused cause failed =
        ⊎_elim
        (λ (found : BookFound limits.shift run.lists counts cause).
        let books = found.books in
        books_excused run.whole.total book.keep t.count limits.shift books.list books.booked books.rest books.more cause books.front (each_sound found.lane books.list books.at) bounds.0 bounds.1
        (λ some. lacks_one t.count t.cause numbers found.lane found.count found.at books some)
        (some_at t.cause (IsCauseOfTotal run.whole.total) cause failed one_total.cause) (some_at t.cause (ShowsCause book.keep t.count) cause failed facts.cause) found.found)
        (λ (mine : teller.cause ≡ Some cause). teller_excused teller cause tellers mine)
        (book_found state limits lanes back counts run.lists patient run.gives each_sound moves teller cause (numbers.causes ∙ ap one failed))

    no_hole : (cause : Cause) → t.cause ≡ None → ShowsHole book.keep.ranges t cause → ⊥
    no_hole cause none hole =
        let agree = subst (λ (o : Option Cause). NumbersAgree (counts ++ teller ∷ []) t.count o) none numbers in
        let its_rest : left_out t.how ≡ None = ap left_out started.how ∙ esto in
        ⊎_elim
        (λ (unmet : ¬ IsMet t.count). unmet (all_met t.count agree one_total.kept))
        (λ (gap : IsStor t × IsSome hole.missing). no_both false (subst (λ (o : Option (List Range)). IsSome o) its_rest gap.0) refl)
        hole.is_hole

-- what becomes of a transfer whose lanes are whole parts, where their total was known
pub parts_complete : {L : Type 0} → (state : L → LaneState) (limits : Limits) (sent : List ℕ → Option Sent) (start : Start) (total : Option ℕ) (stage : Stage) (book : BookState) (now : KeepState) (lanes back : List L) (counts : List Numbers) (teller : Numbers) (end : Result SettledFile Cause)
    → IsTellers false teller → IsBook sent book → IsLive start book → KeepsTotal (record start { total = total }) book.stage → total ≡ total_known stage (only_total (totals_left limits.shift (map (λ lane. (state lane).left) lanes)))
    → InTransfer (λ t. t.roster.counts ≡ counts ++ teller ∷ []) book.stage → MovesEach state limits lanes back counts
    → IfErr end (λ cause. InTransfer (SettlesBadly book.keep now cause) book.stage) → WholePartsEndWell state sent limits start stage lanes back end
parts_complete state limits sent start total stage book now lanes back counts teller end tellers b live keeps known listed moves badly esto untold patient run =
    let whole = run.whole in
    let is : total ≡ Some whole.total = known ∙ known_untold stage (only_total (totals_left limits.shift (map (λ lane. (state lane).left) lanes))) untold
    ∙ ap only_total (lefts_told state limits.shift lanes run.lists run.gives.many run.gives.left) ∙ only_agreed (all_totals limits.shift run.lists) whole.total whole.announced whole.agreed in
    let one_total : InTransfer (HasOneTotal whole.total) book.stage = some_at total (λ n. InTransfer (HasOneTotal n) book.stage) whole.total is keeps in
    end_excused book.keep now (λ t. IsStarted start t × HasOneTotal whole.total t) (λ t. t.roster.counts ≡ counts ++ teller ∷ []) book.stage end (both (IsStarted start) (HasOneTotal whole.total) book.stage live.transfer one_total) listed
    (λ t stored here counted cause. settled_excused book.keep now t cause
    (failed_excused state limits (bytes_sent (sent start.label)) lanes back counts patient run moves teller tellers sent start book t b stored here.0 esto here.1 counted cause)
    (no_hole state limits (bytes_sent (sent start.label)) lanes back counts patient run moves teller tellers sent start book t b stored here.0 esto here.1 counted cause))
    badly
  where
    both : (P Q : Transfer → Type 0) (stage : Stage) → InTransfer P stage → InTransfer Q stage → InTransfer (λ t. P t × Q t) stage
    both P Q (Storing t) p q = (p, q)
    both P Q other p q = absurd p
