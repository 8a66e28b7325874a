-- Bytes of one channel, behind what came before.
use Rattle.std.proofs.Common.{◌≡◌, ◌⊎◌, ◌==◌, ℕ, zero, suc, ◌+◌, ◌<◌, ◌≤◌, List, [], ◌∷◌, ◌++◌, length, map, reverse, set, drop, Some, None, Bool, true, false, refl, sym, ap, ◌∙◌, subst, ⊎_elim, inl, inr, arith, ne_eqb}
use Rattle.std.specs.Prelude.{Option, Ok, Err, if◌then◌else◌, slice_get, slice_index_or}
use Rattle.std.specs.List.{refill}
use Rattle.std.proofs.lemmas.Bool.{cases_lt}
use Rattle.std.proofs.lemmas.List.{append_assoc, append-nil, drop_at}
use Rattle.std.proofs.lemmas.Option.{get_or_from_slice_get}
use Rattle.gft_eblock.specs.declared.TheConstants.{MAX_BYTES}
use Rattle.gft_eblock.specs.declared.BadBlock.{BadBlock}
use Rattle.gft_eblock.specs.Words.{Arrival, Bad, IsDone, Reader, arrivals, eods, refusal_of, to_come}
use Rattle.gft_eblock.proofs.Lemmas.{eods-append}
use Rattle.gft_outside.specs.Words.{Came, Ended, HasNoBad, LaneInput, Opened, Silence, byte_count, gained, is_live, lane_arrivals, stream}
use Rattle.gft_outside.proofs.Lemmas.{cuts, stream_came, stream_other}
use Rattle.gft_drive.specs.Words.{Sent}
use Rattle.gft_pass.specs.declared.Cause.TheVariants.{BadBlock as BadBlockCame, StreamTooLong}
use Rattle.gft_pass.specs.Words.{Lane}
use Rattle.gft_book.specs.Words.{Start}
use Rattle.gft_receive.specs.declared.channels.LiveChannel.{LiveChannel}
use Rattle.gft_receive.specs.declared.mover.Mover.{Mover}
use Rattle.gft_receive.specs.declared.halt.Halt.TheVariants.{Stopped, Failed}
use Rattle.gft_receive.specs.declared.halt.Unfed.TheVariants.{Stop, Refused}
use Rattle.gft_receive.specs.Causes.{first_cause, refused_in}
use Rattle.gft_receive.specs.Honest.{MayBring}
use Rattle.gft_receive.specs.Table.{AreApart, EachReads, IsAtPlace, ReadsStream, live_numbers}
use Rattle.gft_receive.specs.Turns.{FeedsHonest, IsFedWhole, IsUnfed, StandsBehind, Turned, bounds_of}
use Rattle.gft_receive.proofs.CauseLemmas.{channels_piece, count_piece, piece-bad, piece-long, piece-none, refused_in-last, refused_in-none}
use Rattle.gft_receive.proofs.FeedLemmas.{HasNoBad-append}
use Rattle.gft_receive.proofs.ListLemmas.{refilled}
use Rattle.gft_receive.proofs.TableLemmas.{apart_swap, each-at, live_at, no_both, or_false, same_live}

-- ---- a stream that goes on

pub gained_is : (shift : ℕ) (stream : List ℕ) (reader : Reader) (bytes : List ℕ) → ReadsStream shift stream reader → gained shift stream bytes ≡ to_come reader bytes
gained_is shift stream reader bytes r =
    ap (drop (length (arrivals shift stream))) (r.carried bytes) ∙ drop_at (arrivals shift stream) (to_come reader bytes) (length (arrivals shift stream)) refl

reads_more : (shift : ℕ) (stream bytes : List ℕ) (old new : Reader) (before after : Lane) → ReadsStream shift stream old → IsFedWhole old new bytes before after → ReadsStream shift (stream ++ bytes) new
reads_more shift stream bytes old new before after r f =
    let told = arrivals shift stream in
    let more = to_come old bytes in
    let all : arrivals shift (stream ++ bytes) ≡ told ++ more = r.carried bytes in
    let longer : length (stream ++ bytes) ≡ length stream + length bytes = length_both stream bytes in
    let sum = eods-append told more in
    let most = r.most in
    let more_most = f.most in
    record {
      carried = λ later. ap (arrivals shift) (append_assoc stream bytes later) ∙ r.carried (bytes ++ later) ∙ ap (λ (l : List Arrival). told ++ l) (f.carried later)
          ∙ sym (append_assoc told more (to_come new later)) ∙ ap (λ (l : List Arrival). l ++ to_come new later) (sym all);
      taken = λ not_done. let t = f.taken not_done in let before_it = r.taken (λ done. not_done (f.ended.1 (inl done))) in omega (arith, t, before_it, longer);
      most = omega (arith, most, more_most, longer);
      ended = (
        λ done. subst (λ (l : List Arrival). 0 < eods l) (sym all) (⊎_elim
            (λ (was : IsDone old). let some = r.ended.0 was in omega (arith, some, sum))
            (λ (some : 0 < eods more). omega (arith, some, sum))
            (f.ended.0 done)),
        λ some. f.ended.1 (which (subst (λ (l : List Arrival). 0 < eods l) all some)),
      );
      sound = subst HasNoBad (sym all) (HasNoBad-append told more r.sound f.sound);
    }
  where
    length_both : (a b : List ℕ) → length (a ++ b) ≡ length a + length b
    length_both [] b = omega arith
    length_both (x ∷ a) b = let h = length_both a b in omega (arith, h)

    which : 0 < eods (arrivals shift stream ++ to_come old bytes) → IsDone old ⊎ (0 < eods (to_come old bytes))
    which some = elim (cases_lt 0 (eods (arrivals shift stream))) [
      | inl here ↦ inl (r.ended.1 here)
      | inr none ↦ inr (let sum = eods-append (arrivals shift stream) (to_come old bytes) in omega (arith, some, sum, none))
    ]

-- no stream is longer than what the lane gave
stream_short : (channel : ℕ) (inputs : List LaneInput) → length (stream channel inputs) ≤ byte_count inputs
stream_short channel [] = omega arith
stream_short channel (Opened n ∷ inputs) = stream_short channel inputs
stream_short channel (Ended n ∷ inputs) = stream_short channel inputs
stream_short channel (Silence ∷ inputs) = stream_short channel inputs
stream_short channel (Came n value ∷ inputs) = cases (n == channel) (stream_short channel inputs)
  where
    longer : (l : List ℕ) → length (l ++ value ∷ []) ≡ length l + 1
    longer [] = refl
    longer (x ∷ l) = let h = longer l in omega (arith, h)

    cases : (b : Bool) → length (stream channel inputs) ≤ byte_count inputs → length (if b then stream channel inputs ++ value ∷ [] else stream channel inputs) ≤ byte_count inputs + 1
    cases true h = let one = longer (stream channel inputs) in omega (arith, h, one)
    cases false h = omega (arith, h)

-- ---- the table

numbers-set : (table : List LiveChannel) (place : ℕ) (found live : LiveChannel) → slice_get table place ≡ Some found → live.number ≡ found.number → live_numbers (set table place live) ≡ live_numbers table
numbers-set [] place found live at same = cc
numbers-set (first ∷ table) zero found live at same = ap (λ (n : ℕ). n ∷ live_numbers table) (same ∙ ap (λ (l : LiveChannel). l.number) (sym (same_live first found at)))
numbers-set (first ∷ table) (suc place) found live at same = ap (λ (ns : List ℕ). first.number ∷ ns) (numbers-set table place found live at same)

each-others : (shift channel : ℕ) (bytes : List ℕ) (inputs : List LaneInput) (table : List LiveChannel) → is_live channel (live_numbers table) ≡ false → EachReads shift inputs table → EachReads shift (reverse (map (λ value. Came channel value) bytes) ++ inputs) table
each-others shift channel bytes inputs [] none each = tt
each-others shift channel bytes inputs (first ∷ table) none each =
    let tests = or_false (first.number == channel) (is_live channel (live_numbers table)) none in (
      subst (λ (s : List ℕ). ReadsStream shift s first.reader) (sym (stream_other first.number channel bytes inputs (apart_swap first.number channel tests.0))) each.0,
      each-others shift channel bytes inputs table tests.1 each.1,
    )

each-fed : (shift channel most : ℕ) (bytes : List ℕ) (inputs : List LaneInput) (table : List LiveChannel) (place : ℕ) (found live : LiveChannel) → AreApart most (live_numbers table) → slice_get table place ≡ Some found → found.number ≡ channel
    → live.number ≡ channel → ReadsStream shift (stream channel inputs ++ bytes) live.reader → EachReads shift inputs table → EachReads shift (reverse (map (λ value. Came channel value) bytes) ++ inputs) (set table place live)
each-fed shift channel most bytes inputs [] place found live apart at number new reads each = cc
each-fed shift channel most bytes inputs (first ∷ table) zero found live apart at number new reads each =
    let is : first.number ≡ channel = ap (λ (l : LiveChannel). l.number) (same_live first found at) ∙ number in (
      subst (λ (n : ℕ). ReadsStream shift (stream n (reverse (map (λ value. Came channel value) bytes) ++ inputs)) live.reader) (sym new)
          (subst (λ (s : List ℕ). ReadsStream shift s live.reader) (sym (stream_came channel bytes inputs)) reads),
      each-others shift channel bytes inputs table (subst (λ (c : ℕ). is_live c (live_numbers table) ≡ false) is apart.1) each.1,
    )
each-fed shift channel most bytes inputs (first ∷ table) (suc place) found live apart at number new reads each =
    let differs : (first.number == channel) ≡ false = ne_eqb first.number channel (λ e. no_both (is_live first.number (live_numbers table)) (live_at table first.number place found at (number ∙ sym e)) apart.1) in (
      subst (λ (s : List ℕ). ReadsStream shift s first.reader) (sym (stream_other first.number channel bytes inputs (apart_swap first.number channel differs))) each.0,
      each-fed shift channel most bytes inputs table place found live apart.2 at number new reads each.1,
    )

apart_below : (most channel : ℕ) (table : List LiveChannel) (place : ℕ) (found : LiveChannel) → AreApart most (live_numbers table) → slice_get table place ≡ Some found → found.number ≡ channel → channel < most
apart_below most channel [] place found apart at number = cc
apart_below most channel (first ∷ table) zero found apart at number = subst (λ (n : ℕ). n < most) (ap (λ (l : LiveChannel). l.number) (same_live first found at) ∙ number) apart.0
apart_below most channel (first ∷ table) (suc place) found apart at number = apart_below most channel table place found apart.2 at number

length_set : (l : List LiveChannel) (place : ℕ) (live : LiveChannel) → length (set l place live) ≡ length l
length_set [] zero live = refl
length_set [] (suc place) live = refl
length_set (x ∷ l) zero live = refl
length_set (x ∷ l) (suc place) live = let h = length_set l place live in omega (arith, h)

pub reader_is : (items table : List LiveChannel) (place : ℕ) (found other : LiveChannel) → items ≡ table → slice_get table place ≡ Some found → slice_index_or items place other ≡ found
reader_is items table place found other same at = ap (λ (l : List LiveChannel). slice_index_or l place other) same ∙ get_or_from_slice_get table place found other at

-- the table is written back with another channel at the place
pub written_back : (items table : List LiveChannel) (place : ℕ) (live : LiveChannel) → items ≡ table → refill (length table) table (set items place live) ≡ set table place live
written_back items table place live same =
    subst (λ (l : List LiveChannel). refill (length table) table (set l place live) ≡ set table place live) (sym same) (refilled table (set table place live) (length_set table place live))

-- ---- a mover that was fed

module _ (channel place : ℕ) (bytes : List ℕ) (m : Mover) (p : IsAtPlace m.channels.table.items channel place) where
  reads_here : (inputs : List LaneInput) → StandsBehind inputs m → ReadsStream m.channels.shift (stream channel inputs) p.found.reader
  reads_here inputs s = subst (λ (n : ℕ). ReadsStream m.channels.shift (stream n inputs) p.found.reader) p.number (each-at m.channels.shift inputs m.channels.table.items place p.found s.channels.each p.at)

  pub piece_room : (inputs : List LaneInput) → StandsBehind inputs m → m.taken + length bytes ≤ MAX_BYTES → p.found.reader.taken + length bytes ≤ MAX_BYTES
  piece_room inputs s room =
      let most = (reads_here inputs s).most in
      let short = stream_short channel inputs in
      let taken = s.taken in
      omega (arith, most, short, taken, room)

  pub piece_honest : (sent : List ℕ → Option Sent) (start : Start) (pass : Lane) → FeedsHonest sent start m pass channel bytes → MayBring sent start pass.lane pass.count (to_come p.found.reader bytes)
  piece_honest sent start pass honest =
      subst (MayBring sent start pass.lane pass.count) (gained_is m.channels.shift (stream channel honest.0) p.found.reader bytes (reads_here honest.0 honest.1)) honest.2

  -- what the bytes add to the lane's arrivals
  adds : (inputs : List LaneInput) → StandsBehind inputs m → lane_arrivals m.channels.shift (reverse (map (λ value. Came channel value) bytes) ++ inputs) ≡ lane_arrivals m.channels.shift inputs ++ to_come p.found.reader bytes
  adds inputs s = cuts m.channels.shift channel bytes inputs ∙ ap (λ (l : List Arrival). lane_arrivals m.channels.shift inputs ++ l) (gained_is m.channels.shift (stream channel inputs) p.found.reader bytes (reads_here inputs s))

  pub piece_stopped : {A : Type 0} → (inputs : List LaneInput) (now : Mover) (before after : Lane) → StandsBehind inputs m → IsUnfed p.found.reader bytes before after Stop
      → Turned {A = A} (bounds_of m) inputs (reverse (map (λ value. Came channel value) bytes)) ⊥ ⊥ now before after (Err Stopped)
  piece_stopped inputs now before after s u = record {
    booked = u.booked;
    rest = u.rest;
    front = adds inputs s ∙ ap (λ (l : List Arrival). lane_arrivals m.channels.shift inputs ++ l) u.front;
    same = u.same;
    ends = u.so;
  }

  none_refused : (inputs : List LaneInput) → StandsBehind inputs m → refused_in (arrivals m.channels.shift (stream channel inputs)) ≡ None
  none_refused inputs s = refused_in-none (arrivals m.channels.shift (stream channel inputs)) (reads_here inputs s).sound

  pub piece_refused : {A : Type 0} → (inputs : List LaneInput) (now : Mover) (before after : Lane) (bad : BadBlock) → StandsBehind inputs m → m.taken + length bytes ≤ MAX_BYTES → IsUnfed p.found.reader bytes before after (Refused bad)
      → Turned {A = A} (bounds_of m) inputs (reverse (map (λ value. Came channel value) bytes)) ⊥ ⊥ now before after (Err (Failed (BadBlockCame m.lane channel bad)))
  piece_refused inputs now before after bad s room u =
      let r = reads_here inputs s in
      let told = arrivals m.channels.shift (stream channel inputs) in
      let comes : refused_in (arrivals m.channels.shift (stream channel inputs ++ bytes)) ≡ Some (refusal_of bad) =
      ap refused_in (r.carried bytes ∙ ap (λ (l : List Arrival). told ++ l) (u.front ∙ ap (λ (l : List Arrival). u.booked ++ l) u.so.0))
      ∙ refused_in-last told (u.booked ++ Bad (refusal_of bad) ∷ []) r.sound ∙ refused_in-last u.booked (Bad (refusal_of bad) ∷ []) u.sound in
      let taken = s.taken in
      record {
        booked = u.booked;
        rest = u.rest;
        front = adds inputs s ∙ ap (λ (l : List Arrival). lane_arrivals m.channels.shift inputs ++ l) u.front;
        same = u.same;
        ends = (u.so.1, inl (piece-bad m.lane m.channels.shift channel bytes inputs (refusal_of bad) s.none (omega (arith, taken, room)) (none_refused inputs s) comes), tt);
      }

  fed_refused : (inputs : List LaneInput) (now : Reader) (before after : Lane) → StandsBehind inputs m → IsFedWhole p.found.reader now bytes before after → refused_in (arrivals m.channels.shift (stream channel inputs ++ bytes)) ≡ None
  fed_refused inputs now before after s f =
      refused_in-none (arrivals m.channels.shift (stream channel inputs ++ bytes)) (reads_more m.channels.shift (stream channel inputs) bytes p.found.reader now before after (reads_here inputs s) f).sound

  whole_front : (inputs : List LaneInput) → StandsBehind inputs m → lane_arrivals m.channels.shift (reverse (map (λ value. Came channel value) bytes) ++ inputs) ≡ lane_arrivals m.channels.shift inputs ++ (to_come p.found.reader bytes ++ [])
  whole_front inputs s = adds inputs s ∙ ap (λ (l : List Arrival). lane_arrivals m.channels.shift inputs ++ l) (sym (append-nil (to_come p.found.reader bytes)))

  pub piece_long : {A : Type 0} → (inputs : List LaneInput) (now : Mover) (reader : Reader) (before after : Lane) → StandsBehind inputs m → 0 < length bytes → m.taken + length bytes ≤ MAX_BYTES → MAX_BYTES ≤ m.taken + length bytes → IsFedWhole p.found.reader reader bytes before after
      → Turned {A = A} (bounds_of m) inputs (reverse (map (λ value. Came channel value) bytes)) ⊥ ⊥ now before after (Err (Failed (StreamTooLong m.lane)))
  piece_long inputs now reader before after s some room long f =
      let taken = s.taken in
      record {
        booked = to_come p.found.reader bytes;
        rest = [];
        front = whole_front inputs s;
        same = f.same;
        ends = (f.numbers, inl (piece-long m.lane m.channels.shift channel bytes inputs s.none some (omega (arith, taken, room, long)) (fed_refused inputs reader before after s f)), tt);
      }

  pub piece_goes : {A : Type 0} → (inputs : List LaneInput) (now : Mover) (reader : Reader) (before after : Lane) (answer : A) → StandsBehind inputs m → m.taken + length bytes < MAX_BYTES → IsFedWhole p.found.reader reader bytes before after
      → now.channels.table.items ≡ set m.channels.table.items place (record { number = p.found.number; reader = reader }) → now.channels.opened ≡ m.channels.opened → now.channels.shift ≡ m.channels.shift
      → now.lane ≡ m.lane → now.taken ≡ m.taken + length bytes → now.patience.quiets ≡ 0 → now.patience.idle ≡ m.patience.idle
      → Turned {A = A} (bounds_of m) inputs (reverse (map (λ value. Came channel value) bytes)) ⊥ ⊥ now before after (Ok answer)
  piece_goes inputs now reader before after answer s room f table opened shift lane more quiets idle =
      let given = reverse (map (λ value. Came channel value) bytes) in
      let live : LiveChannel = record { number = p.found.number; reader = reader } in
      let h = s.channels in
      let numbers : live_numbers now.channels.table.items ≡ live_numbers m.channels.table.items = ap live_numbers table ∙ numbers-set m.channels.table.items place p.found live p.at refl in
      let same_channels = channels_piece channel bytes inputs in
      let count = count_piece channel bytes inputs in
      let taken = s.taken in
      let limit = h.limit in
      let reads = reads_more m.channels.shift (stream channel inputs) bytes p.found.reader reader before after (reads_here inputs s) f in
      let below = apart_below m.channels.opened channel m.channels.table.items place p.found h.apart p.at p.number in
      let none = piece-none m.lane m.channels.shift channel bytes inputs s.none (omega (arith, taken, room)) (fed_refused inputs reader before after s f) in
      record {
        booked = to_come p.found.reader bytes;
        rest = [];
        front = whole_front inputs s;
        same = f.same;
        ends = (
          refl,
          f.numbers,
          record {
            channels = record {
              limit = omega (arith, limit, shift);
              live = numbers ∙ h.live ∙ sym (ap (λ c. c.live) same_channels);
              opened = opened ∙ h.opened ∙ sym (ap (λ c. c.opened) same_channels);
              apart = subst (λ (n : ℕ). AreApart n (live_numbers now.channels.table.items)) (sym opened) (subst (AreApart m.channels.opened) (sym numbers) h.apart);
              each = subst (λ (n : ℕ). EachReads n (given ++ inputs) now.channels.table.items) (sym shift)
                  (subst (EachReads m.channels.shift (given ++ inputs)) (sym table) (each-fed m.channels.shift channel m.channels.opened bytes inputs m.channels.table.items place p.found live h.apart p.at p.number p.number reads h.each));
              unopened = λ c le. stream_other c channel bytes inputs (ne_eqb channel c (λ e. omega (arith, e, below, le, opened))) ∙ h.unopened c (omega (arith, le, opened));
            };
            taken = omega (arith, more, taken, count);
            short = omega (arith, taken, count, room);
            quiet = omega (arith, quiets);
            none = subst (λ (k : ℕ). first_cause k now.channels.shift (given ++ inputs) ≡ None) (sym lane) (subst (λ (k : ℕ). first_cause m.lane k (given ++ inputs) ≡ None) (sym shift) none);
          },
          ap (λ (k : ℕ). record { lane = k; shift = now.channels.shift; idle = now.patience.idle }) lane
              ∙ ap (λ (k : ℕ). record { lane = m.lane; shift = k; idle = now.patience.idle }) shift
              ∙ ap (λ (k : ℕ). record { lane = m.lane; shift = m.channels.shift; idle = k }) idle,
        );
      }
