-- One data connection after another: what a stripe has sent so far, and how it ends.
use Rattle.std.proofs.Common.{◌≡◌, ◌≢◌, ℕ, ◌+◌, ◌<◌, ◌≤◌, List, [], ◌++◌, length, get_or, set, true, refl, sym, ap, ◌∙◌, subst, arith, inr, ⊎_elim, get_or-set_same, get_or-set_other}
use Rattle.std.specs.Prelude.{All, Option, None, Some, Result, Ok, Err, slice_index, slice_index_or}
use Rattle.std.specs.Io.KnownBytes.{Appends}
use Rattle.std.proofs.KnownBytes.{Appends-nil}
use Rattle.std.proofs.lemmas.List.{length-set}
use Rattle.std.proofs.lemmas.Bool.{cases_eq, cases_lt}
use Rattle.std.proofs.lemmas.List.{get_or_default, length-replicate, take_all}
use Rattle.std.proofs.Math.ListN.{replicate}
use Rattle.gft_range.specs.declared.Range.{Range}
use Rattle.gft_range.specs.Words.{HasOffset, InRange}
use Rattle.gft_drive.specs.Words.{DriveState, Image, IsLawful, Unchanged}
use Rattle.gft_drive.proofs.Lemmas.{Unchanged-then}
use Rattle.gft_outside.specs.Words.{OutLaneState}
use Rattle.gft_pass.specs.declared.Cause.{Cause}
use Rattle.gft_pass.specs.declared.Cause.TheVariants.{DriveFailed, LinkFailed, Memory}
use Rattle.gft_send.specs.declared.plan.SendPlan.{SendPlan}
use Rattle.gft_send.specs.Sending.{Carries, CountsFaults, GoesOut, HasPlaces, HasRest, IsSendCause, MayHave, MustHave, Sends}
use Rattle.gft_send.specs.Streams.{ending_of, sent_stream}
use Rattle.gft_send.specs.Stripes.{IsLeftOf, SendsLane, channel_plan, stripe_bytes}
use Rattle.gft_send.proofs.PlanLemmas.{blocks_same, in_region, plans_apart}
use Rattle.gft_send.proofs.SendLemmas.{Unchanged-refl, cause_in, counts_then}

-- the element that an index names
pub elem_here : {X : Type 0} (now : List X) (i from : ℕ) (x d : X) → from ≡ i → i < length now → slice_index_or now i d ≡ get_or now from x
elem_here now i from x d same lt = get_or_default now i d x lt ∙ ap (λ (k : ℕ). get_or now k x) (sym same)

-- a file that the drive may have, as long as its bytes must be
record HasFile (contents : Option Image) (region : Range) : Type 0 where
  file : List ℕ
  may : MayHave contents file
  whole : HasPlaces (InRange region) file

some_file : (contents : Option Image) (region : Range) → MustHave contents (InRange region) → HasFile contents region
some_file None region there = let zeros : List ℕ = replicate region.end 0 in record {
  file = zeros;
  may = λ image told. cc;
  whole = λ x h. let long : length zeros ≡ region.end = length-replicate region.end 0 in let lt = h.1 in omega arith;
}
some_file (Some image) region there = record {
  file = image.bytes;
  may = λ other told. ap (λ (i : Image). i.bytes) (one image other told);
  whole = there image refl;
}
  where
    one : (a b : Image) → Some a ≡ Some b → a ≡ b
    one a b e = cc

-- the first data connections have got their streams, and the others nothing
pub record HasSent {X : Type 0} (state : X → OutLaneState) (plan : SendPlan) (done : List Range) (stripe : ℕ)
    (drive looked : DriveState) (i : ℕ) (old now : List X) : Type 0 where
  pub file : List ℕ
  pub may : MayHave drive.contents file
  pub whole : HasPlaces (InRange plan.region) file
  pub streams : (k : ℕ) (d : X) → k < i → Appends (state (slice_index_or old k d)).written (state (slice_index_or now k d)).written (sent_stream file plan done stripe k)
  pub later : (k : ℕ) (d : X) → i ≤ k → slice_index_or now k d ≡ slice_index_or old k d
  pub is_open : (k : ℕ) (d : X) → k < i → (state (slice_index_or now k d)).is_open ≡ true
  pub calm : (k : ℕ) (d : X) → k < i → (state (slice_index_or now k d)).faults ≡ (state (slice_index_or old k d)).faults
  pub unchanged : Unchanged drive looked
  pub drive_calm : looked.faults ≡ drive.faults

module _ {X : Type 0} (state : X → OutLaneState) (plan : SendPlan) (done : List Range) (stripe : ℕ) where
  pub sent_none : (drive : DriveState) (outs : List X) → MustHave drive.contents (InRange plan.region) → HasSent state plan done stripe drive drive 0 outs outs
  sent_none drive outs there =
      let f = some_file drive.contents plan.region there in
      record {
        file = f.file;
        may = f.may;
        whole = f.whole;
        streams = λ k d lt. absurd (omega arith);
        later = λ k d le. refl;
        is_open = λ k d lt. absurd (omega arith);
        calm = λ k d lt. absurd (omega arith);
        unchanged = Unchanged-refl drive;
        drive_calm = refl;
      }

  -- the file changed where another data connection sends
  stream_same : (k i : ℕ) (f g : List ℕ) → k ≢ i → length g ≡ length f → ((x : ℕ) → ¬ HasOffset (channel_plan plan done stripe i) x → slice_index g x ≡ slice_index f x) → sent_stream g plan done stripe k ≡ sent_stream f plan done stripe k
  stream_same k i f g other long same =
      ap (λ (l : List ℕ). l ++ ending_of plan.shape stripe k) (blocks_same (channel_plan plan done stripe k) f g long (λ x h. same x (λ h2. other (plans_apart plan done stripe k i x h h2))))

  module _ (drive seen looked : DriveState) (i : ℕ) (old now : List X) (e o : X) (sent : HasSent state plan done stripe drive seen i old now) (inside : i < length now) (size : length now ≡ length old) (at : (d : X) → slice_index_or now i d ≡ e) where
    abbrev pub ChannelSends : {T : Type 0} → Result T Cause → Type 0
    ChannelSends result = Sends (HasOffset (channel_plan plan done stripe i)) (HasRest (channel_plan plan done stripe i)) (λ file. sent_stream file plan done stripe i) result seen looked (state e) (state o)

    carried : {T : Type 0} (result : Result T Cause) → ChannelSends result → Carries drive.contents (HasOffset (channel_plan plan done stripe i)) (λ file. sent_stream file plan done stripe i) result (state e) (state o) sent.file
    carried result sends =
        let told = sent.unchanged.read in
        subst (λ (c : Option Image). Carries c (HasOffset (channel_plan plan done stripe i)) (λ file. sent_stream file plan done stripe i) result (state e) (state o) sent.file) told
        (sends.carries sent.file (subst (λ (c : Option Image). MayHave c sent.file) (sym told) sent.may) (λ x h. sent.whole x (in_region plan done stripe i x h)))

    at_here : (d : X) → slice_index_or (set now i o) i d ≡ o
    at_here d = get_or-set_same now i o d inside

    at_other : (k : ℕ) (d : X) → k ≢ i → slice_index_or (set now i o) k d ≡ slice_index_or now k d
    at_other k d ne = get_or-set_other now i k o d ne

    was_here : (d : X) → slice_index_or old i d ≡ e
    was_here d = sym (sent.later i d (omega arith)) ∙ at d

    -- what went out on the connections before
    stream_before : {T : Type 0} (result : Result T Cause) (sends : ChannelSends result) (k : ℕ) (d : X) → k < i
        → Appends (state (slice_index_or old k d)).written (state (slice_index_or (set now i o) k d)).written (sent_stream (carried result sends).file plan done stripe k)
    stream_before result sends k d lt =
        let c = carried result sends in
        let ne : k ≢ i = λ same. absurd (omega arith) in
        subst (λ (x : X). Appends (state (slice_index_or old k d)).written (state x).written (sent_stream c.file plan done stripe k)) (sym (at_other k d ne))
        (subst (λ (l : List ℕ). Appends (state (slice_index_or old k d)).written (state (slice_index_or now k d)).written l) (sym (stream_same k i sent.file c.file ne c.long c.same)) (sent.streams k d lt))

    goes_here : {T : Type 0} (result : Result T Cause) (sends : ChannelSends result) (d : X)
        → GoesOut result (sent_stream (carried result sends).file plan done stripe i) (state (slice_index_or old i d)) (state (slice_index_or (set now i o) i d))
    goes_here result sends d =
        let c = carried result sends in
        subst (λ (x : X). GoesOut result (sent_stream c.file plan done stripe i) (state x) (state (slice_index_or (set now i o) i d))) (sym (was_here d))
        (subst (λ (x : X). GoesOut result (sent_stream c.file plan done stripe i) (state e) (state x)) (sym (at_here d)) c.goes)

    pub sent_more : (n : ℕ) → IsLawful seen → IsLawful looked → ChannelSends {T = ℕ} (Ok n) → HasSent state plan done stripe drive looked (i + 1) old (set now i o)
    sent_more n lawful_seen lawful_looked sends =
        let c = carried (Ok n) sends in
        record {
          file = c.file;
          may = c.may;
          whole = λ x h. let lt = sent.whole x h in let long = c.long in omega arith;
          streams = λ k d lt. ⊎_elim
              (λ (same : k ≡ i). subst (λ (m : ℕ). Appends (state (slice_index_or old m d)).written (state (slice_index_or (set now i o) m d)).written (sent_stream c.file plan done stripe m)) (sym same) (goes_here (Ok n) sends d))
              (λ (ne : k ≢ i). stream_before (Ok n) sends k d (omega arith))
              (cases_eq k i);
          later = λ k d le. at_other k d (λ same. absurd (omega arith)) ∙ sent.later k d (omega arith);
          is_open = λ k d lt. ⊎_elim
              (λ (same : k ≡ i). subst (λ (m : ℕ). (state (slice_index_or (set now i o) m d)).is_open ≡ true) (sym same) (ap (λ (x : X). (state x).is_open) (at_here d) ∙ sends.is_open))
              (λ (ne : k ≢ i). ap (λ (x : X). (state x).is_open) (at_other k d ne) ∙ sent.is_open k d (omega arith))
              (cases_eq k i);
          calm = λ k d lt. ⊎_elim
              (λ (same : k ≡ i). subst (λ (m : ℕ). (state (slice_index_or (set now i o) m d)).faults ≡ (state (slice_index_or old m d)).faults) (sym same) (ap (λ (x : X). (state x).faults) (at_here d) ∙ sends.out_faults ∙ ap (λ (x : X). (state x).faults) (sym (was_here d))))
              (λ (ne : k ≢ i). ap (λ (x : X). (state x).faults) (at_other k d ne) ∙ sent.calm k d (omega arith))
              (cases_eq k i);
          unchanged = Unchanged-then drive seen looked lawful_seen lawful_looked sent.unchanged sends.unchanged;
          drive_calm = sends.drive_faults ∙ sent.drive_calm;
        }

    other_calm : (k : ℕ) (d : X) → k ≢ i → (state (slice_index_or (set now i o) k d)).faults ≡ (state (slice_index_or old k d)).faults
    other_calm k d ne = ap (λ (x : X). (state x).faults) (at_other k d ne) ∙ ⊎_elim
        (λ (lt : k < i). sent.calm k d lt)
        (λ (le : i ≤ k). ap (λ (x : X). (state x).faults) (sent.later k d le))
        (cases_lt k i)

    front_of : (cause : Cause) (sends : ChannelSends {T = ℕ} (Err cause)) (k : ℕ) (d : X)
        → GoesOut {T = ℕ} {E = Cause} (Err cause) (sent_stream (carried (Err cause) sends).file plan done stripe k) (state (slice_index_or old k d)) (state (slice_index_or (set now i o) k d))
    front_of cause sends k d =
        let c = carried {T = ℕ} (Err cause) sends in
        let stream = sent_stream c.file plan done stripe k in
        ⊎_elim
        (λ (same : k ≡ i). subst (λ (m : ℕ). GoesOut {T = ℕ} {E = Cause} (Err cause) (sent_stream c.file plan done stripe m) (state (slice_index_or old m d)) (state (slice_index_or (set now i o) m d))) (sym same) (goes_here {T = ℕ} (Err cause) sends d))
        (λ (ne : k ≢ i). ⊎_elim
        (λ (lt : k < i). (length stream, subst (λ (l : List ℕ). Appends (state (slice_index_or old k d)).written (state (slice_index_or (set now i o) k d)).written l) (sym (take_all (length stream) stream (omega arith))) (stream_before {T = ℕ} (Err cause) sends k d lt)))
        (λ (le : i ≤ k). (0, subst (λ (x : X). Appends (state (slice_index_or old k d)).written (state x).written []) (sym (at_other k d ne ∙ sent.later k d le)) (Appends-nil (state (slice_index_or old k d)).written)))
        (cases_lt k i))
        (cases_eq k i)

    pub sent_cut : (cause : Cause) → IsLawful seen → IsLawful looked → i < plan.shape.parallel → ChannelSends {T = ℕ} (Err cause) → SendsLane state plan done stripe (Err cause) drive looked old (set now i o)
    sent_cut cause lawful_seen lawful_looked below sends =
        let c = carried {T = ℕ} (Err cause) sends in
        record {
          many = length-set now i o ∙ size;
          carries = record {
            file = c.file;
            may = c.may;
            whole = λ x h. let lt = sent.whole x h in let long = c.long in omega arith;
            streams = λ k d lt. front_of cause sends k d;
          };
          is_open = tt;
          count = tt;
          unchanged = Unchanged-then drive seen looked lawful_seen lawful_looked sent.unchanged sends.unchanged;
          drive_faults = counts_then {U = ℕ} DriveFailed (Err cause) drive.faults seen.faults looked.faults sent.drive_calm sends.drive_faults;
          lane_faults = record {
            one = i;
            within = omega arith;
            counts = λ d.
                subst (λ (x : X). CountsFaults {T = ℕ} LinkFailed (Err cause) (state x).faults (state (slice_index_or (set now i o) i d)).faults) (sym (was_here d))
                (subst (λ (x : X). CountsFaults {T = ℕ} LinkFailed (Err cause) (state e).faults (state x).faults) (sym (at_here d)) sends.out_faults);
            others = λ k d lt ne. other_calm k d ne;
          };
          cause = cause_in drive.contents (HasRest (channel_plan plan done stripe i)) (IsLeftOf plan done stripe) cause (λ r h. (i, below, h))
              (subst (λ (c : Option Image). IsSendCause c (HasRest (channel_plan plan done stripe i)) cause) sent.unchanged.read sends.cause);
        }

  -- on the next one more may be put
  pub open_here : (drive seen : DriveState) (i from : ℕ) (old now : List X) (x : X) → HasSent state plan done stripe drive seen i old now → All (λ out. (state out).is_open ≡ true) old → from ≡ i → i < length now → length now ≡ length old → (state (get_or now from x)).is_open ≡ true
  open_here drive seen i from old now x sent opened same lt size =
      ap (λ (y : X). (state y).is_open) (sym (elem_here now i from x x same lt) ∙ sent.later i x (omega arith)) ∙ opened i x (omega arith)

  -- all have theirs
  pub sent_all : (drive looked : DriveState) (n : ℕ) (old now : List X) → HasSent state plan done stripe drive looked n old now → length old ≡ n → length now ≡ length old → 1 ≤ n → (total : ℕ) → total ≡ stripe_bytes plan done stripe
      → SendsLane state plan done stripe (Ok total) drive looked old now
  sent_all drive looked n old now sent many size some total is = record {
    many = size;
    carries = record { file = sent.file; may = sent.may; whole = sent.whole; streams = λ k d lt. sent.streams k d (omega arith) };
    is_open = λ k d lt. sent.is_open k d (omega arith);
    count = is;
    unchanged = sent.unchanged;
    drive_faults = sent.drive_calm;
    lane_faults = record {
      one = 0;
      within = omega arith;
      counts = λ d. sent.calm 0 d (omega arith);
      others = λ k d lt ne. sent.calm k d (omega arith);
    };
    cause = tt;
  }

  -- memory was refused before anything was sent
  pub sent_refused : (drive : DriveState) (outs : List X) → MustHave drive.contents (InRange plan.region) → 1 ≤ length outs → SendsLane state plan done stripe (Err Memory) drive drive outs outs
  sent_refused drive outs there some =
      let f = some_file drive.contents plan.region there in
      record {
        many = refl;
        carries = record { file = f.file; may = f.may; whole = f.whole; streams = λ k d lt. (0, Appends-nil (state (slice_index_or outs k d)).written) };
        is_open = tt;
        count = tt;
        unchanged = Unchanged-refl drive;
        drive_faults = inr (λ e. cc, refl);
        lane_faults = record { one = 0; within = omega arith; counts = λ d. inr (λ e. cc, refl); others = λ k d lt ne. refl };
        cause = tt;
      }
