-- What one event more does to the machine, and when the machine is done.
use Rattle.std.proofs.Common.{◌≡◌, ◌⊎◌, ℕ, ◌+◌, ◌-◌, ◌<◌, ◌≤◌, ◌↔◌, List, [], ◌∷◌, ◌++◌, length, Ok, Err, Some, None, Bool, true, false, true≢false, refl, sym, ap, ◌∙◌, subst, inl, inr, ⊎_elim, is_err, arith}
use Rattle.std.specs.Prelude.{Option, Result, IsTrue, OnOk, IfOk, IfErr, ◌&&◌, nat_le, nat_lt, if◌then◌else◌}
use Rattle.std.proofs.lemmas.Bool.{and_from, and_parts, both_ways, cases_Bool, false_from_ne_true, le-leb, leb-true, lt-ltb, ltb-true, or_cases, or_left, or_right}
use Rattle.std.proofs.lemmas.Option.{none-some}
use Rattle.gft_range.specs.declared.Range.{Range}
use Rattle.gft_range.specs.Words.{InRange, HasOffset, KeptRanges}
use Rattle.gft_drive.specs.Words.{Covers, Image}
use Rattle.gft_core.specs.declared.event.CoreEvent.{CoreEvent}
use Rattle.gft_core.specs.declared.event.CoreEvent.TheVariants.{Block, Crash}
use Rattle.gft_core.specs.declared.taken.Found.{Found}
use Rattle.gft_core.specs.declared.taken.Taken.{Taken}
use Rattle.gft_core.specs.declared.taken.Taken.TheVariants as taken
use Rattle.gft_core.specs.Held.{covers, held}
use Rattle.gft_core.specs.Kept.{first_some, byte_at, earliest, kept}
use Rattle.gft_core.specs.Done.{Done}
use Rattle.gft_core.specs.declared.progress.Progress.{Progress}
use Rattle.gft_core.specs.declared.progress.Progress.TheVariants.{Idle}
use Rattle.gft_core.specs.Machine.{BringsNoByte, State, Stands, found_after, found_in, has_offset, left_of}
use Rattle.gft_core.specs.Progress.{IsSoundProgress, HasMet, Tells}
use Rattle.gft_core.proofs.OptionLemmas.{first_some-none, first_some_back, first_some_either, first_some_front, has-first_some_none}
use Rattle.gft_core.proofs.HeldLemmas.{covers-is}
use Rattle.gft_core.proofs.KeptLemmas.{byte_at-get, byte_within, within_byte}
use Rattle.gft_core.proofs.ProgressLemmas.{done_where_met, Tells-block}

pub on_ok : {A E : Type 0} → (r : Result A E) (P Q : Type 0) → (P → Q) → OnOk r P → OnOk r Q
on_ok (Ok v) P Q f h = f h
on_ok (Err e) P Q f h = tt

pub if_ok : {A E : Type 0} → (r : Result A E) (P Q : A → Type 0) → ((a : A) → P a → Q a) → IfOk r P → IfOk r Q
if_ok (Ok v) P Q f h = f v h
if_ok (Err e) P Q f h = tt

pub error_of : {A E : Type 0} → (r : Result A E) (P : E → Type 0) → is_err r ≡ true → IfErr r P → (e : E) × P e
error_of (Ok v) P is h = absurd (true≢false (sym is))
error_of (Err e) P is h = (e, h)

pub value_of : {A E : Type 0} → (r : Result A E) (P : Type 0) → is_err r ≡ false → OnOk r P → P
value_of (Ok v) P is h = h
value_of (Err e) P is h = absurd (true≢false is)

-- ---- sets

has_offset-is : (ranges : List Range) (x : ℕ) → (has_offset ranges x ≡ true) ↔ HasOffset ranges x
has_offset-is [] x = (λ e. absurd (true≢false (sym e)), λ h. absurd h)
has_offset-is (r ∷ rs) x =
    let later = has_offset-is rs x in (
      λ e. ⊎_elim
          (λ here. let ends = and_parts (nat_le r.start x) (nat_lt x r.end) here in inl (leb-true r.start x ends.0, ltb-true x r.end ends.1))
          (λ p. inr (later.0 p))
          (or_cases (nat_le r.start x && nat_lt x r.end) (has_offset rs x) e),
      λ h. ⊎_elim
          (λ here. or_left (nat_le r.start x && nat_lt x r.end) (has_offset rs x) (and_from (nat_le r.start x) (nat_lt x r.end) (le-leb r.start x here.0) (lt-ltb x r.end here.1)))
          (λ p. or_right (nat_le r.start x && nat_lt x r.end) (has_offset rs x) (later.1 p))
          h,
    )

same_tests : (a b : Bool) → (a ≡ true → b ≡ true) → (b ≡ true → a ≡ true) → a ≡ b
same_tests true b f g = sym (f refl)
same_tests false true f g = g refl
same_tests false false f g = refl

-- a test that is true exactly where the set has the offset is the definition's
pub has_by : (test : Bool) (ranges : List Range) (x : ℕ) → (IsTrue test ↔ HasOffset ranges x) → test ≡ has_offset ranges x
has_by test ranges x is =
    let has = has_offset-is ranges x in same_tests test (has_offset ranges x) (λ e. has.1 (is.0 e)) (λ e. is.1 (has.0 e))

pub has_none : (ranges : List Range) (x : ℕ) → ¬ HasOffset ranges x → has_offset ranges x ≡ false
has_none ranges x not = false_from_ne_true (has_offset ranges x) (λ e. not ((has_offset-is ranges x).0 e))

-- by a test of the range that has this offset alone
pub has_one : (test : Bool) (ranges : List Range) (offset : ℕ) → (IsTrue test ↔ ((x : ℕ) → InRange (record { start = offset; end = offset + 1 }) x → HasOffset ranges x)) → test ≡ has_offset ranges offset
has_one test ranges offset each =
    has_by test ranges offset
    (λ is. each.0 is offset (omega arith, omega arith), λ h. each.1 (λ x within. let same : offset ≡ x = omega (arith, within.0, within.1) in subst (HasOffset ranges) same h))

-- an offset that is not left out is there
not_left_out : (ranges : List Range) (x : ℕ) → ((HasOffset ranges x → ⊥) → ⊥) → HasOffset ranges x
not_left_out ranges x never = ⊎_elim
    (λ is. (has_offset-is ranges x).0 is)
    (λ is. absurd (never (λ h. both_ways (has_offset ranges x) is ((has_offset-is ranges x).1 h))))
    (cases_Bool (has_offset ranges x))

-- what neither set leaves out below the end of the first is in both
pub in_both : (a b out_of_a out_of_b out set : List Range) (end : ℕ)
    → ((x : ℕ) → HasOffset a x → x < end)
    → ((x : ℕ) → HasOffset out_of_a x ↔ ((x < end) × ¬ HasOffset a x)) → ((x : ℕ) → HasOffset out_of_b x ↔ ((x < end) × ¬ HasOffset b x))
    → ((x : ℕ) → HasOffset out x ↔ (HasOffset out_of_a x ⊎ HasOffset out_of_b x)) → ((x : ℕ) → HasOffset set x ↔ ((x < end) × ¬ HasOffset out x))
    → (x : ℕ) → HasOffset set x ↔ (HasOffset a x × HasOffset b x)
in_both a b out_of_a out_of_b out set end below of_a of_b either left x = (
  λ h. let is = (left x).0 h in (
    not_left_out a x (λ not. is.1 ((either x).1 (inl ((of_a x).1 (is.0, not))))),
    not_left_out b x (λ not. is.1 ((either x).1 (inr ((of_b x).1 (is.0, not))))),
  ),
  λ h. (left x).1 (below x h.0, λ o. ⊎_elim (λ p. ((of_a x).0 p).1 h.0) (λ p. ((of_b x).0 p).1 h.1) ((either x).0 o)),
)

-- the offsets of an image's ranges, as a set
pub set_of_image : (ranges : List Range) (part : List ℕ) → ((x : ℕ) → HasOffset ranges x ↔ Covers part x) → (x : ℕ) → has_offset ranges x ≡ covers part x
set_of_image ranges part same x =
    let has = has_offset-is ranges x in
    let is = covers-is part x in
    same_tests (has_offset ranges x) (covers part x) (λ e. is.1 ((same x).0 (has.0 e))) (λ e. has.1 ((same x).1 (is.0 e)))

-- ---- events that bring no byte

still_found : (now : Found) (a b : Option ℕ) → now ≡ record { earliest = a; kept = b } → now ≡ record { earliest = first_some a None; kept = first_some b None }
still_found now a b same = same ∙ sym (λ i. record { earliest = first_some-none a i; kept = first_some-none b i })

still_has : (ranges : List Range) (bytes : ℕ → Option ℕ) → ((x : ℕ) → HasOffset ranges x ↔ ((v : ℕ) × (bytes x ≡ Some v)))
    → (x : ℕ) → HasOffset ranges x ↔ ((v : ℕ) × (first_some (bytes x) None ≡ Some v))
still_has ranges bytes same x =
    let none = has-first_some_none (bytes x) in (λ h. none.0 ((same x).0 h), λ b. (same x).1 (none.1 b))

pub brings_none : (e : CoreEvent) → ((lane channel offset : ℕ) (bytes : List ℕ) (unanswered : Bool) → e ≡ Block lane channel offset bytes unanswered → ⊥) → ((image : Image) → e ≡ Crash image → ⊥) → BringsNoByte e
brings_none (Block lane channel offset bytes unanswered) no_block no_crash = no_block lane channel offset bytes unanswered refl
brings_none (Crash image) no_block no_crash = no_crash image refl
brings_none e no_block no_crash = tt

-- such an event but a Fresh
pub Stands-quiet : (e : CoreEvent) (events : List CoreEvent) (old : State) (progress : Progress)
    → ((x : ℕ) → earliest (e ∷ events) x ≡ first_some (earliest events x) None) → ((x : ℕ) → kept (e ∷ events) x ≡ first_some (kept events x) None)
    → Stands events old → Tells (e ∷ events) progress
    → Stands (e ∷ events) (record { entries = old.entries; found = old.found; booked = old.booked; progress = progress; has_begun = true })
Stands-quiet e events old progress no_more no_kept s tells = record {
  bytes = λ x. still_found (found_in (left_of None) old.entries x) (earliest events x) (kept events x) (s.bytes x) ∙ sym (λ i. record { earliest = no_more x i; kept = no_kept x i });
  found = λ x. subst (λ (o : Option ℕ). HasOffset old.found x ↔ ((v : ℕ) × (o ≡ Some v))) (sym (no_more x)) (still_has old.found (earliest events) s.found x);
  booked = λ x. subst (λ (o : Option ℕ). HasOffset old.booked x ↔ ((v : ℕ) × (o ≡ Some v))) (sym (no_kept x)) (still_has old.booked (kept events) s.booked x);
  progress = tells;
  begun = refl;
}

-- ---- a block

found_in-push : (found : Found) (entries : List Taken) (entry : Taken) (x : ℕ) → found_in found (entries ++ entry ∷ []) x ≡ found_after (found_in found entries x) entry x
found_in-push found [] entry x = refl
found_in-push found (e ∷ es) entry x = found_in-push (found_after found e x) es entry x

-- a block adds its offsets to those of its bytes
block_has : (offset : ℕ) (bytes : List ℕ) (kept_bytes : ℕ → Option ℕ) (old new : List Range)
    → ((x : ℕ) → HasOffset new x ↔ (HasOffset old x ⊎ ((offset ≤ x) × (x < offset + length bytes))))
    → ((x : ℕ) → HasOffset old x ↔ ((v : ℕ) × (kept_bytes x ≡ Some v)))
    → (x : ℕ) → HasOffset new x ↔ ((v : ℕ) × (first_some (kept_bytes x) (byte_at offset bytes x) ≡ Some v))
block_has offset bytes kept_bytes old new union same x = (
  λ h. ⊎_elim
      (λ o. let b = (same x).0 o in (b.0, first_some_front (kept_bytes x) (byte_at offset bytes x) b.0 b.1))
      (λ within. let byte = byte_within offset bytes x within.0 within.1 in first_some_back (kept_bytes x) (byte_at offset bytes x) byte.0 byte.1)
      ((union x).0 h),
  λ b. (union x).1 (⊎_elim
      (λ o. inl ((same x).1 (b.0, o)))
      (λ n. inr (within_byte offset bytes x b.0 n))
      (first_some_either (kept_bytes x) (byte_at offset bytes x) b.0 b.1)),
)

pub Stands-answered : (lane channel offset : ℕ) (bytes : List ℕ) (events : List CoreEvent) (old new : State) → Stands events old
    → new.entries ≡ old.entries ++ taken.Block offset bytes false ∷ []
    → ((x : ℕ) → HasOffset new.found x ↔ (HasOffset old.found x ⊎ ((offset ≤ x) × (x < offset + length bytes))))
    → ((x : ℕ) → HasOffset new.booked x ↔ (HasOffset old.booked x ⊎ ((offset ≤ x) × (x < offset + length bytes))))
    → new.progress ≡ old.progress → new.has_begun ≡ true
    → Stands (Block lane channel offset bytes false ∷ events) new
Stands-answered lane channel offset bytes events old new s entries found booked progress begun = record {
  bytes = λ x.
      ap (λ (es : List Taken). found_in (left_of None) es x) entries
      ∙ found_in-push (left_of None) old.entries (taken.Block offset bytes false) x
      ∙ ap (λ (f : Found). found_after f (taken.Block offset bytes false) x) (s.bytes x);
  found = block_has offset bytes (earliest events) old.found new.found found s.found;
  booked = block_has offset bytes (kept events) old.booked new.booked booked s.booked;
  progress = subst (λ (p : Progress). Tells (Block lane channel offset bytes false ∷ events) p) (sym progress) (Tells-block lane channel offset bytes false events old.progress s.progress);
  begun = begun;
}

pub Stands-open : (lane channel offset : ℕ) (bytes : List ℕ) (events : List CoreEvent) (old new : State) → Stands events old
    → new.entries ≡ old.entries ++ taken.Block offset bytes true ∷ []
    → ((x : ℕ) → HasOffset new.found x ↔ (HasOffset old.found x ⊎ ((offset ≤ x) × (x < offset + length bytes))))
    → new.booked ≡ old.booked → new.progress ≡ old.progress → new.has_begun ≡ true
    → Stands (Block lane channel offset bytes true ∷ events) new
Stands-open lane channel offset bytes events old new s entries found booked progress begun = record {
  bytes = λ x.
      ap (λ (es : List Taken). found_in (left_of None) es x) entries
      ∙ found_in-push (left_of None) old.entries (taken.Block offset bytes true) x
      ∙ ap (λ (f : Found). found_after f (taken.Block offset bytes true) x) (s.bytes x)
      ∙ sym (λ i. record { earliest = first_some (earliest events x) (byte_at offset bytes x); kept = first_some-none (kept events x) i });
  found = block_has offset bytes (earliest events) old.found new.found found s.found;
  booked = λ x. subst (λ (rs : List Range). HasOffset rs x ↔ ((v : ℕ) × (first_some (kept events x) None ≡ Some v))) (sym booked) (still_has old.booked (kept events) s.booked x);
  progress = subst (λ (p : Progress). Tells (Block lane channel offset bytes true ∷ events) p) (sym progress) (Tells-block lane channel offset bytes true events old.progress s.progress);
  begun = begun;
}

-- ---- a crash

-- what a crash leaves of the bytes behind other events
abbrev Left : List CoreEvent → List ℕ → ℕ → Option ℕ
Left events part x = if covers part x then earliest events x else None

crash_has : (test : Bool) (o : Option ℕ) (now old inside : Type 0) → (now ↔ (old × inside)) → (old ↔ ((v : ℕ) × (o ≡ Some v))) → ((test ≡ true) ↔ inside)
    → now ↔ ((v : ℕ) × ((if test then o else None) ≡ Some v))
crash_has true o now old inside both has is =
    (λ n. has.0 (both.0 n).0, λ b. both.1 (has.1 b, is.0 refl))
crash_has false o now old inside both has is =
    (λ n. absurd (true≢false (sym (is.1 (both.0 n).1))), λ b. absurd (none-some b.0 b.1))

pub Stands-crash : (image : Image) (events : List CoreEvent) (set : KeptRanges) (old new : State) → old.has_begun ≡ true
    → ((x : ℕ) → HasOffset set.ranges x ↔ Covers image.ranges x) → Stands events old
    → new.entries ≡ old.entries ++ taken.Crash set ∷ []
    → ((x : ℕ) → HasOffset new.found x ↔ (HasOffset old.found x × HasOffset set.ranges x))
    → new.booked ≡ new.found → new.progress ≡ Idle → new.has_begun ≡ true
    → Stands (Crash image ∷ events) new
Stands-crash image [] set old new some same s entries found booked progress begun = absurd (true≢false (sym some ∙ s.begun))
Stands-crash image (e ∷ older) set old new some same s entries found booked progress begun =
    let events : List CoreEvent = e ∷ older in
    let left : (x : ℕ) → HasOffset new.found x ↔ ((v : ℕ) × (Left events image.ranges x ≡ Some v)) =
    λ x.
    let test = set_of_image set.ranges image.ranges same x in
    let has = has_offset-is set.ranges x in
    subst (λ (b : Bool). HasOffset new.found x ↔ ((v : ℕ) × ((if b then earliest events x else None) ≡ Some v))) test
    (crash_has (has_offset set.ranges x) (earliest events x) (HasOffset new.found x) (HasOffset old.found x) (HasOffset set.ranges x) (found x) (s.found x) has)
    in
    record {
      bytes = λ x.
          ap (λ (es : List Taken). found_in (left_of None) es x) entries
          ∙ found_in-push (left_of None) old.entries (taken.Crash set) x
          ∙ ap (λ (f : Found). found_after f (taken.Crash set) x) (s.bytes x)
          ∙ ap (λ (b : Bool). left_of (if b then earliest events x else None)) (set_of_image set.ranges image.ranges same x);
      found = left;
      booked = λ x. subst (λ (rs : List Range). HasOffset rs x ↔ ((v : ℕ) × (Left events image.ranges x ≡ Some v))) (sym booked) (left x);
      progress = subst (λ (p : Progress). Tells (Crash image ∷ events) p) (sym progress) refl;
      begun = begun;
    }

-- the data of an image as one open block
abbrev pub as_block : Image → CoreEvent
as_block image = Block 0 0 0 image.bytes true

first_is : (image : Image) (x : ℕ) → earliest (Crash image ∷ as_block image ∷ []) x ≡ held image x
first_is image x =
    let zero : x ≡ 0 + x = omega arith in
    ap (λ (o : Option ℕ). if covers image.ranges x then o else None) (ap (byte_at 0 image.bytes) zero ∙ byte_at-get 0 x image.bytes)

-- a crash that begins a list
pub Stands-first : (image : Image) (state : State) → Stands (Crash image ∷ as_block image ∷ []) state → (events : List CoreEvent) (old : State) → old.has_begun ≡ false → Stands events old → Stands (Crash image ∷ events) state
Stands-first image state s (e ∷ older) old none before = absurd (true≢false (sym before.begun ∙ none))
Stands-first image state s [] old none before = record {
  bytes = λ x. s.bytes x ∙ ap left_of (first_is image x);
  found = λ x. subst (λ (o : Option ℕ). HasOffset state.found x ↔ ((v : ℕ) × (o ≡ Some v))) (first_is image x) (s.found x);
  booked = λ x. subst (λ (o : Option ℕ). HasOffset state.booked x ↔ ((v : ℕ) × (o ≡ Some v))) (first_is image x) (s.booked x);
  progress = s.progress;
  begun = s.begun;
}

-- ---- done

-- the machine is done where its transfer is met and its set has no hole
pub done_where_whole : (events : List CoreEvent) (state : State) (end : ℕ) (covered : Bool) → Stands events state → IsSoundProgress state.progress → HasMet state.progress
    → ((x : ℕ) → HasOffset state.booked x → x < end)
    → ((end ≡ 0) ⊎ HasOffset state.booked (end - 1))
    → (IsTrue covered ↔ ((x : ℕ) → InRange (record { start = 0; end = end }) x → HasOffset state.booked x))
    → IsTrue covered ↔ Done events
done_where_whole events state end covered stands sound met below reached covers = (
  λ yes. done_where_met events state.progress stands.progress sound met end
      (λ x. (λ b. below x ((stands.booked x).1 b), λ lt. (stands.booked x).0 (covers.0 yes x (omega arith, lt)))),
  λ done. covers.1 (λ x within. ⊎_elim
      (λ (zero : end ≡ 0). absurd (omega (arith, zero, within.1)))
      (λ has. let last = (done.whole.1 (end - 1)).0 ((stands.booked (end - 1)).0 has) in
      (stands.booked x).1 ((done.whole.1 x).1 (omega (arith, last, within.1))))
      reached),
)
