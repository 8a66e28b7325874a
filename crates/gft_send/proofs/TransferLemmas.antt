-- The answers of all stripes, added up.
use Rattle.std.proofs.Common.{◌≡◌, ℕ, zero, suc, ◌+◌, ◌<◌, ◌≤◌, List, [], ◌∷◌, ◌++◌, length, take, drop, refl, sym, ap, ◌∙◌, subst, arith}
use Rattle.std.specs.Prelude.{IfOk, Result, Ok, Err, slice_index_or, sum_by}
use Rattle.std.proofs.Math.Seq.{take-append_seam}
use Rattle.std.proofs.lemmas.List.{drop_all, drop_more}
use Rattle.std.proofs.lemmas.List.Sums.{sum_by-append, sum_by-drop_more}
use Rattle.gft_range.specs.declared.Range.{Range}
use Rattle.gft_drive.specs.Words.{DriveState, sum_below}
use Rattle.gft_outside.specs.Words.{OutLaneState}
use Rattle.gft_pass.specs.declared.Cause.{Cause}
use Rattle.gft_send.specs.declared.transfer.Stripe.{Stripe}
use Rattle.gft_send.specs.declared.plan.SendPlan.{SendPlan}
use Rattle.gft_send.specs.Sending.{GoesOut}
use Rattle.gft_send.specs.Streams.{sent_stream}
use Rattle.gft_send.specs.Transfers.{CarriesFile, SendsStripe, add_sent, all_sent, bytes_told}

-- ---- answers

pub add_more : (total count : ℕ) (later : Result ℕ Cause) → add_sent (Ok total) (add_sent (Ok count) later) ≡ add_sent (Ok (total + count)) later
add_more total count (Ok more) = let e : total + (count + more) ≡ (total + count) + more = omega arith in ap (λ (n : ℕ). Ok n) e
add_more total count (Err cause) = refl

pub add_none : (later : Result ℕ Cause) → add_sent (Ok 0) later ≡ later
add_none (Ok more) = let e : 0 + more ≡ more = omega arith in ap (λ (n : ℕ). Ok n) e
add_none (Err cause) = refl

record IsSum (a b : Result ℕ Cause) (n : ℕ) : Type 0 where
  one : ℕ
  other : ℕ
  first : a ≡ Ok one
  second : b ≡ Ok other
  both : one + other ≡ n

is_sum : (a b : Result ℕ Cause) (n : ℕ) → add_sent a b ≡ Ok n → IsSum a b n
is_sum (Ok one) (Ok other) n is = record { one = one; other = other; first = refl; second = refl; both = cc }
is_sum (Ok one) (Err cause) n is = absurd (cc)
is_sum (Err cause) b n is = absurd (cc)

told_one : (r : Result ℕ Cause) (n : ℕ) → IfOk r (λ k. k ≡ n) → bytes_told r ≤ n
told_one (Ok k) n is = omega arith
told_one (Err cause) n is = omega arith

shift : (g : ℕ → ℕ) (n : ℕ) → sum_below g (suc n) ≡ g 0 + sum_below (λ k. g (suc k)) n
shift g zero = omega arith
shift g (suc n) = let e = shift g n in omega arith

module _ {D X : Type 0} where
  abbrev pub told_of : Stripe D X → ℕ
  told_of stripe = bytes_told stripe.sent

  -- each stripe that didn't end with a cause sent as many as g says
  abbrev pub EachSent : (ℕ → ℕ) → List (Stripe D X) → Type 0
  EachSent g stripes = (i : ℕ) (d : Stripe D X) → i < length stripes → IfOk (slice_index_or stripes i d).sent (λ n. n ≡ g i)

  pub told_within : (stripes : List (Stripe D X)) (g : ℕ → ℕ) → EachSent g stripes → sum_by told_of stripes ≤ sum_below g (length stripes)
  told_within [] g each = omega arith
  told_within (s ∷ ss) g each =
      let later = told_within ss (λ k. g (suc k)) (λ i d lt. each (suc i) d (omega arith)) in
      let one = told_one s.sent (g 0) (each 0 s (omega arith)) in
      let e = shift g (length ss) in
      let front = sum_by-append told_of (s ∷ []) ss in
      omega arith

  pub sum_is : (stripes : List (Stripe D X)) (g : ℕ → ℕ) (n : ℕ) → EachSent g stripes → all_sent stripes ≡ Ok n → n ≡ sum_below g (length stripes)
  sum_is [] g n each is = cc
  sum_is (s ∷ ss) g n each is =
      let sum = is_sum s.sent (all_sent ss) n is in
      let later = sum_is ss (λ k. g (suc k)) sum.other (λ i d lt. each (suc i) d (omega arith)) sum.second in
      let one = subst (λ (r : Result ℕ Cause). IfOk r (λ m. m ≡ g 0)) sum.first (each 0 s (omega arith)) in
      let e = shift g (length ss) in
      let both = sum.both in
      omega arith

  pub told_more : (stripes : List (Stripe D X)) (i : ℕ) (d : Stripe D X) → i < length stripes → sum_by told_of (drop i stripes) ≡ bytes_told (slice_index_or stripes i d).sent + sum_by told_of (drop (i + 1) stripes)
  told_more stripes i d lt = sum_by-drop_more told_of stripes i d lt

  pub sent_more : (stripes : List (Stripe D X)) (i : ℕ) (d : Stripe D X) → i < length stripes → all_sent (drop i stripes) ≡ add_sent (slice_index_or stripes i d).sent (all_sent (drop (i + 1) stripes))
  sent_more stripes i d lt = ap (λ (l : List (Stripe D X)). all_sent l) (drop_more stripes i d lt)

  pub sum_answer : (stripes : List (Stripe D X)) (g : ℕ → ℕ) (answer : Result ℕ Cause) (n : ℕ) → answer ≡ all_sent stripes → EachSent g stripes → length stripes ≡ n → IfOk answer (λ m. m ≡ sum_below g n)
  sum_answer stripes g (Ok m) n is each many = sum_is stripes g m each (sym is) ∙ ap (λ (k : ℕ). sum_below g k) many
  sum_answer stripes g (Err cause) n is each many = tt

  pub sent_none_left : (stripes : List (Stripe D X)) (i total : ℕ) → length stripes ≤ i → add_sent (Ok total) (all_sent (drop i stripes)) ≡ Ok total
  sent_none_left stripes i total past =
      let e : total + 0 ≡ total = omega arith in
      ap (λ (l : List (Stripe D X)). add_sent (Ok total) (all_sent l)) (drop_all i stripes past) ∙ ap (λ (n : ℕ). Ok n) e

-- a list that is written back whole
pub written_back : {A : Type 0} (n : ℕ) (new rest : List A) → n ≡ length new → take n (new ++ rest) ≡ new
written_back n new rest is = ap (λ (k : ℕ). take k (new ++ rest)) is ∙ take-append_seam new rest

-- each stripe's file is the one that all drives tell
pub one_file : {D X : Type 0} (drive_state : D → DriveState) (out_state : X → OutLaneState) (plan : SendPlan) (done : List Range) (old new : List (Stripe D X))
    → ((i : ℕ) (d : Stripe D X) → i < length old → SendsStripe drive_state out_state plan done i (slice_index_or old i d) (slice_index_or new i d)) → CarriesFile drive_state out_state plan done old new
one_file {D} {X} drive_state out_state plan done old new sends file told i k d out lt below =
    let carries = (sends i d lt).carries in
    let tells = told i d lt in
    let same : carries.file ≡ file = carries.may tells.0 tells.1 ∙ tells.2 in
    subst (λ (f : List ℕ). GoesOut (slice_index_or new i d).sent (sent_stream f plan done i k) (out_state (slice_index_or (slice_index_or old i d).channels.items k out)) (out_state (slice_index_or (slice_index_or new i d).channels.items k out))) same
    (carries.streams k out below)
