-- How a delivery ends, by what its transfer says.
use Rattle.std.proofs.Common.{◌≡◌, ℕ, zero, suc, ◌^◌, ◌<◌, ◌≤◌, List, [], ◌∷◌, length, reverse, Some, Ok, Err, refl, ap, ◌∙◌, sym, subst, inl, inr, arith}
use Rattle.std.specs.Prelude.{Bool, IfSome, IsSome, false, MatchResult, OnOk, Option, Result, slice_get}
use Rattle.std.proofs.lemmas.List.{reverse-reverse}
use Rattle.std.proofs.lemmas.Option.{same_Some, slice_get_within}
use Rattle.gft_base.specs.declared.TheConstants.{LIMIT}
use Rattle.gft_range.specs.declared.Range.{Range}
use Rattle.gft_drive.specs.Words.{Orders, Sent}
use Rattle.gft_keep.specs.Words.{KeepState}
use Rattle.gft_outside.specs.Words.{AreWhole, IsHonestLane, LaneInput, LaneState, lane_arrivals}
use Rattle.gft_pass.specs.declared.Cause.{Cause}
use Rattle.gft_book.specs.declared.transfer.Stage.{Stage}
use Rattle.gft_book.specs.declared.transfer.Stage.TheVariants.{Reading, Rest, Storing}
use Rattle.gft_book.specs.Words.{BookState, EqualsSource, IsRunning, ReadsAs, SettledFile, Start, left_out, rest_of, start_at, start_now}
use Rattle.gft_receive.specs.declared.Limits.{Limits}
use Rattle.gft_receive.specs.Words.{AreReady, IsExcused, IsHonestFor, IsHonestLeft, Receives, RunsWhole, WholeLanesEndWell}
use Rattle.gft_delivery.specs.Delivery.{Delivers, IsDelivery, IsPatient, NoneFailed}
use Rattle.gft_delivery.specs.Laws.{OrdersAreShortLaw, StreamsAreWholeLaw}

module _ {A : Type 0} where
  there : (l : List A) (k : ℕ) → k < length l → (x : A) × (slice_get l k ≡ Some x)
  there [] k lt = absurd (omega (arith, lt))
  there (x ∷ l) zero lt = (x, refl)
  there (x ∷ l) (suc k) lt = there l k (omega (arith, lt))

module _ {L : Type 0} (state : L → LaneState) (sent : List ℕ → Option Sent) (start : Start) (lanes : List L) (whole_law : StreamsAreWholeLaw) (short_law : OrdersAreShortLaw) (d : IsDelivery state sent start lanes) where
  are_whole : AreWhole d.from.source (d.from.orders d.rest) d.lists
  are_whole = subst (λ (orders : Orders). AreWhole d.from.source orders d.lists) (sym d.orders) (whole_law d.from.source d.plan d.rest d.lists d.whole d.brings)

  short : (k : ℕ) → length ((d.from.orders d.rest).order k) < 2 ^ 64
  short = subst (λ (orders : Orders). (k : ℕ) → length (orders.order k) < 2 ^ 64) (sym d.orders) (short_law d.from.source d.plan d.rest d.lists d.whole d.brings)

  -- a lane of it is honest
  honest_left : (limits : Limits) → IsPatient limits → (k : ℕ) (lane : L) → slice_get lanes k ≡ Some lane → IsHonestLeft sent start limits.shift k (state lane).left
  honest_left limits patient k lane at =
      let lt = slice_get_within lanes k lane at in
      let many : length d.lists ≡ length lanes = d.left.many in
      let list = there d.lists k (omega (arith, lt, many)) in
      let honest : IsHonestLane d.from.source (d.from.orders d.rest) k (lane_arrivals limits.shift (reverse (reverse list.0))) =
      subst (λ (shift : ℕ). IsHonestLane d.from.source (d.from.orders d.rest) k (lane_arrivals shift (reverse (reverse list.0)))) (sym patient.shift)
      (subst (λ (l : List LaneInput). IsHonestLane d.from.source (d.from.orders d.rest) k (lane_arrivals 0 l)) (sym (reverse-reverse list.0)) (are_whole.each k list.0 list.1).honest) in
      let of_stor : IsHonestFor d.from (left_out start.how) k (lane_arrivals limits.shift (reverse (reverse list.0))) =
      subst (λ (rest : Option (List Range)). IsHonestFor d.from rest k (lane_arrivals limits.shift (reverse (reverse list.0)))) (sym d.stor) (honest, short k) in
      subst (λ (o : Option Sent). IfSome o (λ s. (inputs : List LaneInput) × ((state lane).left ≡ Some inputs) × IsHonestFor s (left_out start.how) k (lane_arrivals limits.shift (reverse inputs)))) (sym d.source)
      (reverse list.0, d.left.left k lane list.0 at list.1, of_stor)

  pub ready : (limits : Limits) → IsPatient limits → AreReady state sent start limits.shift lanes × (limits.shift ≤ LIMIT)
  ready limits patient = let is = patient.shift in (record { unopened = d.left.unopened; honest = honest_left limits patient }, omega (arith, is))

  runs_whole : (back : List L) → NoneFailed state lanes back → RunsWhole state d.from d.rest lanes back
  runs_whole back calm = record {
    lists = d.lists;
    gives = record {
      many = d.left.many;
      left = d.left.left;
      in_turn = λ k list at.
          let lt = slice_get_within d.lists k list at in
          let many : length d.brings.deal ≡ length d.lists = d.brings.many in
          let owners = there d.brings.deal k (omega (arith, lt, many)) in
          (d.brings.lanes k owners.0 list owners.1 at).in_turn;
      no_fault = calm;
    };
    whole = are_whole;
  }

  same_source : (s : Sent) → sent start.label ≡ Some s → d.from ≡ s
  same_source s told = same_Some d.from s (sym d.source ∙ told)

  ends_well : (limits : Limits) → IsPatient limits → (back : List L) (now : KeepState) (end : Result SettledFile Cause) (put_failed : Bool)
      → OnOk end (ReadsAs d.from.source now) → Receives state limits start lanes back now end put_failed → (put_failed ≡ false → WholeLanesEndWell state sent limits start lanes back end)
      → MatchResult end (λ file. ReadsAs d.from.source now × (file.len ≡ length d.from.source)) (λ cause. put_failed ≡ false → NoneFailed state lanes back → IsExcused cause)
  ends_well limits patient back now (Ok file) put_failed reads receives complete = (
    reads,
    elim receives [
      | inl run ↦
          let stor : IsSome (left_out start.how) = subst (λ (o : Option (List Range)). IsSome o) (sym d.stor) refl in
          same_Some file.len (length d.from.source) (sym (run.ends.complete stor).0 ∙ reads.complete)
      | inr refused ↦ absurd (cc refused.0)
    ],
  )
  ends_well limits patient back now (Err cause) put_failed reads receives complete = λ quiet calm.
      complete quiet d.from d.rest d.source d.stor d.tells patient.shift patient.idle (runs_whole back calm)

  -- what the Book says of the source
  source_read : (book : BookState) (stage : Stage) (now : KeepState) (end : Result SettledFile Cause) → IsRunning stage → book.stage ≡ stage → start ≡ start_at book stage
      → OnOk end (EqualsSource (sent book.keep.drive.label) book now) → OnOk end (ReadsAs d.from.source now)
  source_read book (Storing t) now (Err cause) running at is equals = equals
  source_read book (Storing t) now (Ok file) running at is equals =
      let label : sent book.keep.drive.label ≡ Some d.from = ap (λ (s : Start). sent s.label) (sym is) ∙ d.source in
      let rest : rest_of book.stage ≡ Some d.rest = ap rest_of at ∙ ap (λ (s : Start). left_out s.how) (sym is) ∙ d.stor in
      let of_it : EqualsSource (Some d.from) book now = subst (λ (o : Option Sent). EqualsSource o book now) label equals in
      of_it (subst (λ (o : Option (List Range)). IsSome o) (sym rest) refl)
      (subst (λ (s : Start). IsSome s.read) is d.tells)
  source_read book Rest now end running at is equals = absurd running
  source_read book (Reading n) now end running at is equals = absurd running

  pub delivers : (limits : Limits) → IsPatient limits → (book : BookState) → start ≡ start_now book → IsRunning book.stage → (back : List L) (now : KeepState) (end : Result SettledFile Cause) (put_failed : Bool)
      → OnOk end (EqualsSource (sent book.keep.drive.label) book now) → Receives state limits start lanes back now end put_failed → (put_failed ≡ false → WholeLanesEndWell state sent limits start lanes back end)
      → Delivers state sent start lanes back now end put_failed
  delivers limits patient book is running back now end put_failed equals receives complete s told =
      subst (λ (t : Sent). MatchResult end (λ file. ReadsAs t.source now × (file.len ≡ length t.source)) (λ cause. put_failed ≡ false → NoneFailed state lanes back → IsExcused cause)) (same_source s told)
      (ends_well limits patient back now end put_failed (source_read book book.stage now end running refl is equals) receives complete)
