-- How what is to come changes as a channel takes bytes.
use Rattle.std.proofs.Common.{◌≡◌, ℕ, inl, ◌+◌, ◌-◌, ◌<◌, ◌≤◌, Bool, true, false, cond, ltb, ◌&&◌, List, [], ◌∷◌, ◌++◌, length, take, drop, Option, Some, None, append_assoc, refl, sym, ap, ◌∙◌, subst, arith, length-append, length-drop, is_some, add-zero}
use Rattle.std.proofs.Math.Seq.{drop-append-add, take-add}
use Rattle.std.proofs.lemmas.List.{length-take-le, take_all}
use Rattle.std.proofs.lemmas.Bool.{lt-ltb, ltb-false, or_parts}
use Rattle.gft_eblock.specs.declared.TheConstants.{HEADER_LEN}
use Rattle.gft_eblock.specs.declared.bad_block.BadBlock.{BadBlock}
use Rattle.gft_eblock.specs.declared.event.Event.{Event}
use Rattle.gft_eblock.specs.declared.event.Event.TheVariants as event
use Rattle.gft_eblock.specs.declared.channel.State.{State}
use Rattle.gft_eblock.specs.declared.event.Step.{Step}
use Rattle.gft_eblock.specs.declared.channel.State.TheVariants.{Header, Data, EodWaits, Done, Failed}
use Rattle.gft_base.specs.declared.TheConstants.{LIMIT}
use Rattle.gft_eblock.specs.Arrival.{Eof, Bad, Refusal}
use Rattle.gft_eblock.specs.declared.header.Header as header
use Rattle.gft_eblock.specs.Header.{is_bad, is_eod, is_eof}
use Rattle.gft_eblock.specs.Spelling.{header_of}
use Rattle.gft_eblock.specs.Arrivals.{data_at, data_then, end_or, refusal, good_block, block_then, blocks_from}
use Rattle.gft_eblock.specs.Channel.{Reader, HasFailed, refusal_of, to_come_in, to_come, wanted_in, IsDoneState, IsSoundState}
use Rattle.gft_eblock.specs.Feeding.{Advances, Fails, IsEventOf, event_arrivals}
use Rattle.gft_eblock.proofs.BlockLemmas.{data_then-append, data_then-zero, blocks_from-append}
use Rattle.gft_eblock.proofs.ToComeLemmas.{behind_of, to_come-nothing}

-- ---- data

-- a front of a block's data
pub data_more : (offset left len : ℕ) (eod : Bool) (shift taken : ℕ) (front later : List ℕ) → length front ≡ len → len ≤ left → to_come_in (Data offset left eod) shift taken [] (front ++ later) ≡ data_at offset front ++ to_come_in (Data (offset + len) (left - len) eod) shift (taken + len) [] later
unfolding to_come_in
data_more offset left len eod shift taken front later len_is le =
    let whole : length front + (left - len) ≡ left = omega arith in
    let behind : drop left (front ++ later) ≡ drop (left - len) later =
    subst (λ n. drop n (front ++ later) ≡ drop (left - len) later) whole (drop-append-add front later (left - len)) in
    let place : taken + left ≡ taken + len + (left - len) = omega arith in
    let next = end_or eod (blocks_from shift (taken + len + (left - len)) (drop (left - len) later)) in
    let split = subst (λ n. data_then offset n (front ++ later) next ≡ data_at offset front ++ data_then (offset + length front) (left - len) later next) whole (data_then-append offset (left - len) front later next) in
    rw (behind, place) (subst (λ n. data_then offset left (front ++ later) next ≡ data_at offset front ++ data_then (offset + n) (left - len) later next) len_is split)

-- behind the last byte of a block's data
pub data_none : (offset left : ℕ) (eod : Bool) (shift taken : ℕ) (later : List ℕ) → left ≡ 0 → to_come_in (Data offset left eod) shift taken [] later ≡ to_come_in (cond eod EodWaits Header) shift taken [] later
unfolding to_come_in
data_none offset left true shift taken later none = rw (none, data_then-zero)
data_none offset left false shift taken later none = let same : taken + 0 ≡ taken - 0 = omega arith in rw (none, data_then-zero, same)

-- ---- headers

-- a part of a header
pub header_more : (shift taken : ℕ) (bytes front later : List ℕ) → length bytes ≤ taken → to_come_in Header shift taken bytes (front ++ later) ≡ to_come_in Header shift (taken + length front) (bytes ++ front) later
unfolding to_come_in
header_more shift taken bytes front later le =
    let place : taken + length front - length (bytes ++ front) ≡ taken - length bytes = omega (arith, length-append bytes front) in
    rw (append_assoc bytes front later, place)

-- the rest of a header
pub header_whole : (shift taken : ℕ) (bytes front later : List ℕ) → length bytes ≤ taken → length (bytes ++ front) ≡ HEADER_LEN → to_come_in Header shift taken bytes (front ++ later)
    ≡ block_then shift (taken - length bytes) (header_of (bytes ++ front)) later (blocks_from shift (taken + length front + (header_of (bytes ++ front)).count) (drop (header_of (bytes ++ front)).count later))
unfolding to_come_in
header_whole shift taken bytes front later le len =
    let place : taken - length bytes + HEADER_LEN ≡ taken + length front = omega (arith, length-append bytes front) in
    ap (λ b. blocks_from shift (taken - length bytes) b) (sym (append_assoc bytes front later))
    ∙ blocks_from-append shift (taken - length bytes) (bytes ++ front) later len ∙ rw place

-- ---- a good header

bad_parts : (shift : ℕ) (h : header.Header) → is_bad shift h ≡ false → ((is_eof h.flags && ltb 0 h.count) ≡ false) × ((ltb 0 h.count && ltb LIMIT (shift + h.offset + h.count)) ≡ false)
unfolding is_bad
bad_parts shift h good =
    let outer = or_parts _ _ good in
    ((or_parts _ _ outer.0).1, outer.1)

-- an EOF has no data
pub eof_empty : (shift : ℕ) (h : header.Header) → is_bad shift h ≡ false → is_eof h.flags ≡ true → h.count ≡ 0
eof_empty shift h good eof =
    let none : ltb 0 h.count ≡ false = rw eof at (bad_parts shift h good).0 in
    let le : h.count ≤ 0 = ltb-false 0 h.count none in
    omega arith

-- data ends at the limit or below it
pub in_limit : (shift : ℕ) (h : header.Header) → is_bad shift h ≡ false → 0 < h.count → shift + h.offset + h.count ≤ LIMIT
in_limit shift h good some =
    let below : ltb LIMIT (shift + h.offset + h.count) ≡ false = rw (lt-ltb 0 h.count some) at (bad_parts shift h good).1 in
    ltb-false _ _ below

-- a block without data
pub good_empty : (shift taken : ℕ) (h : header.Header) (later : List ℕ) → h.count ≡ 0 → good_block shift h later (blocks_from shift (taken + h.count) (drop h.count later))
    ≡ cond (is_eof h.flags) (Eof h.offset ∷ []) [] ++ end_or (is_eod h.flags) (to_come_in Header shift taken [] later)
unfolding good_block to_come_in
good_empty shift taken h later none =
    let same : taken + 0 ≡ taken - 0 = omega arith in
    rw (none, data_then-zero, same)

-- a block with data
pub good_data : (shift taken : ℕ) (h : header.Header) (later : List ℕ) → is_eof h.flags ≡ false → good_block shift h later (blocks_from shift (taken + h.count) (drop h.count later))
    ≡ to_come_in (Data (shift + h.offset) h.count (is_eod h.flags)) shift taken [] later
unfolding good_block to_come_in
good_data shift taken h later no_eof = rw no_eof

-- ---- what a call does

-- where no event came, nothing waits
pub quiet_of : (event : Option Event) (r : Reader) → IsEventOf event r.state r.header → event ≡ None → to_come r [] ≡ []
quiet_of event r is none = to_come-nothing r (subst (λ (e : Option Event). IsEventOf e r.state r.header) none is)

-- the piece ends inside the header
pub header_waits : (shift taken taken' used : ℕ) (bytes bytes' piece : List ℕ) → length bytes ≤ taken → length bytes + used < HEADER_LEN → used ≤ length piece → bytes' ≡ bytes ++ take used piece → taken' ≡ taken + used
    → Advances (record { shift = shift; taken = taken; header = bytes; state = Header }) piece (record { used = used; event = None }) (record { shift = shift; taken = taken'; header = bytes'; state = Header })
header_waits shift taken taken' used bytes bytes' piece le short fits grown sum =
    let len : length (take used piece) ≡ used = length-take-le used piece fits in
    let waits : 0 < HEADER_LEN - length bytes' = rw grown (omega (arith, len, length-append bytes (take used piece))) in
    record {
      used = fits;
      taken = sum;
      quiet = λ none. to_come-nothing (record { shift = shift; taken = taken'; header = bytes'; state = Header }) waits;
      behind = inl (to_come-nothing (record { shift = shift; taken = taken'; header = bytes'; state = Header }) waits);
      carried = λ later. rw (grown, sum) (subst (λ n. to_come_in Header shift taken bytes (take used piece ++ later) ≡ to_come_in Header shift (taken + n) (bytes ++ take used piece) later) len
          (header_more shift taken bytes (take used piece) later le));
      event = waits;
    }

-- the header ends in the piece
whole_at : (shift taken used : ℕ) (bytes piece later : List ℕ) (h : header.Header) → length bytes ≤ taken → used ≤ length piece → length bytes + used ≡ HEADER_LEN → h ≡ header_of (bytes ++ take used piece)
    → to_come_in Header shift taken bytes (take used piece ++ later) ≡ block_then shift (taken - length bytes) h later (blocks_from shift (taken + used + h.count) (drop h.count later))
whole_at shift taken used bytes piece later h le fits full is =
    let len : length (take used piece) ≡ used = length-take-le used piece fits in
    let whole : length (bytes ++ take used piece) ≡ HEADER_LEN = omega (arith, length-append bytes (take used piece)) in
    rw is (subst (λ n. to_come_in Header shift taken bytes (take used piece ++ later)
    ≡ block_then shift (taken - length bytes) (header_of (bytes ++ take used piece)) later (blocks_from shift (taken + n + (header_of (bytes ++ take used piece)).count) (drop (header_of (bytes ++ take used piece)).count later))) len
    (header_whole shift taken bytes (take used piece) later le whole))

pub header_opens : (shift taken taken' used : ℕ) (bytes piece : List ℕ) (h : header.Header) (event : Option Event) (state : State) → length bytes ≤ taken → used ≤ length piece → length bytes + used ≡ HEADER_LEN → h ≡ header_of (bytes ++ take used piece) → taken' ≡ taken + used
    → is_bad shift h ≡ false
    → ((taken : ℕ) (later : List ℕ) → good_block shift h later (blocks_from shift (taken + h.count) (drop h.count later)) ≡ event_arrivals event ++ to_come_in state shift taken [] later)
    → IsEventOf event state [] → ((taken : ℕ) → IsSoundState state taken [])
    → Advances (record { shift = shift; taken = taken; header = bytes; state = Header }) piece (record { used = used; event = event }) (record { shift = shift; taken = taken'; header = []; state = state })
header_opens shift taken taken' used bytes piece h event state le fits full is sum good opened is_event sound =
    record {
      used = fits;
      taken = sum;
      carried = λ later. rw sum (whole_at shift taken used bytes piece later h le fits full is ∙ rw good (opened (taken + used) later));
      event = is_event;
      quiet = quiet_of event (record { shift = shift; taken = taken'; header = []; state = state }) is_event;
      behind = behind_of event (record { shift = shift; taken = taken'; header = []; state = state }) (sound taken') is_event;
    }

-- a failed channel gives its refusal
pub failed_stays : (shift taken : ℕ) (bytes later : List ℕ) (bad : BadBlock) → to_come_in (Failed bad) shift taken bytes later ≡ Bad (refusal_of bad) ∷ []
unfolding to_come_in
failed_stays shift taken bytes later bad = refl

pub header_fails : (shift taken taken' used : ℕ) (bytes bytes' piece : List ℕ) (h : header.Header) (bad : BadBlock) → length bytes ≤ taken → used ≤ length piece → length bytes + used ≡ HEADER_LEN → h ≡ header_of (bytes ++ take used piece)
    → taken' ≡ taken + used → is_bad shift h ≡ true → refusal_of bad ≡ refusal (taken - length bytes) h
    → Fails (record { shift = shift; taken = taken; header = bytes; state = Header }) piece bad (record { shift = shift; taken = taken'; header = bytes'; state = Failed bad })
header_fails shift taken taken' used bytes bytes' piece h bad le fits full is sum refused bad_is =
    let place : bad.place ≡ taken - length bytes = ap (λ (r : Refusal). r.place) bad_is in
    record {
      used = used;
      fits = fits;
      taken = sum;
      last = omega (arith, place, sum);
      comes = λ later. whole_at shift taken used bytes piece later h le fits full is ∙ rw (refused, bad_is);
      failed = refl;
      stays = λ later. failed_stays shift taken' bytes' later bad;
    }

-- the EOD that waits
pub eod_told : (shift taken : ℕ) (bytes piece : List ℕ) → Advances (record { shift = shift; taken = taken; header = bytes; state = EodWaits }) piece (record { used = 0; event = Some event.Eod }) (record { shift = shift; taken = taken; header = bytes; state = Done })
unfolding to_come_in
eod_told shift taken bytes piece =
    record { used = omega arith; taken = sym (add-zero taken); carried = λ later. refl; event = tt; quiet = λ none. cc none; behind = inl refl }

-- ---- one step after others

pub advance_more : (old mid new : Reader) (piece : List ℕ) (used : ℕ) (step : Step) → used ≤ length piece → mid.taken ≡ old.taken + used → ((later : List ℕ) → to_come old (take used piece ++ later) ≡ to_come mid later)
    → Advances mid (drop used piece) step new → Advances old piece (record { used = used + step.used; event = step.event }) new
advance_more old mid new piece used step fits sum carried more =
    record {
      used = omega (arith, more.used, length-drop used piece);
      taken = omega (arith, more.taken);
      carried = λ later. rw (take-add used step.used piece, append_assoc) (carried (take step.used (drop used piece) ++ later) ∙ more.carried later);
      event = more.event;
      quiet = more.quiet;
      behind = more.behind;
    }

pub fails_more : (old mid new : Reader) (piece : List ℕ) (used : ℕ) (bad : BadBlock) → used ≤ length piece → mid.taken ≡ old.taken + used → ((later : List ℕ) → to_come old (take used piece ++ later) ≡ to_come mid later)
    → Fails mid (drop used piece) bad new → Fails old piece bad new
fails_more old mid new piece used bad fits sum carried more =
    let n = more.used in
    record {
      used = used + n;
      fits = omega (arith, more.fits, length-drop used piece);
      taken = omega (arith, more.taken, sum);
      last = more.last;
      comes = λ later. rw (take-add used n piece, append_assoc) (carried (take n (drop used piece) ++ later) ∙ more.comes later);
      failed = more.failed;
      stays = more.stays;
    }

pub awaits_not_done : (state : State) (header : List ℕ) → 0 < wanted_in state header → IsDoneState state → ⊥
awaits_not_done Header header some done = done
awaits_not_done (Data offset left eod) header some done = done
awaits_not_done EodWaits header some done = done
awaits_not_done Done header some done = omega (arith, some)
awaits_not_done (Failed bad) header some done = done

pub none_of : (event : Option Event) → false ≡ is_some event → event ≡ None
none_of None e = refl
none_of (Some event) e = cc

pub some_not_none : (event : Option Event) → true ≡ is_some event → event ≡ None → ⊥
some_not_none None e none = cc e
some_not_none (Some event) e none = cc none

-- the slice from a place on
pub slice_from : (piece : List ℕ) (used : ℕ) → take (length piece - used) (drop used piece) ≡ drop used piece
slice_from piece used = take_all (length piece - used) (drop used piece) (omega (arith, length-drop used piece))

pub failed_again : (old : Reader) (piece : List ℕ) (bad : BadBlock) → HasFailed old bad → IsSoundState old.state old.taken old.header → Fails old piece bad old
failed_again old piece bad failed sound =
    let P : State → Type 0 = λ s. IsSoundState s old.taken old.header in
    let stays : (later : List ℕ) → to_come old later ≡ Bad (refusal_of bad) ∷ [] = λ later. rw failed (failed_stays old.shift old.taken old.header later bad) in
    record {
      used = 0;
      fits = omega arith;
      taken = sym (add-zero old.taken);
      last = (subst P failed sound).1;
      comes = stays;
      failed = failed;
      stays = stays;
    }

-- ---- what a channel knows inside a header

pub header_is_short : (state : State) (taken : ℕ) (bytes : List ℕ) → state ≡ Header → IsSoundState state taken bytes → (length bytes < HEADER_LEN) × (length bytes ≤ taken)
header_is_short state taken bytes in_header sound =
    let P : State → Type 0 = λ s. IsSoundState s taken bytes in
    subst P in_header sound
