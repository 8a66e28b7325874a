-- What a stream tells.
use Rattle.std.proofs.Common.{◌≡◌, ℕ, ◌+◌, ◌-◌, ◌<◌, ◌≤◌, Bool, true, false, cond, eqb, List, [], ◌∷◌, ◌++◌, length, length-append, get_or, get_or-take, take, take-take, drop, min, Some, None, append_assoc, append-nil, refl, sym, ap, ◌∙◌, arith}
use Rattle.std.specs.List.{position}
use mir.Val.{bool_byte}
use Rattle.std.specs.Str.Lines.{strip_carriage_return}
use Rattle.std.proofs.lemmas.Bool.{lt-ltb, le-ltb, both_ways, eq-eqb, eqb-true}
use Rattle.std.proofs.lemmas.List.Splits.{slice_split_none}
use Rattle.gft_base.specs.Words.{parts_at, Lacks, line_feed, carriage_return}
use Rattle.gft_text.specs.LineStream.{Line, Overlong, told, told_of_parts}
use Rattle.gft_text.specs.Lines.{Held, line_begun, IsFront, CarriesLine, Overruns}
use Rattle.gft_text.specs.declared.TheConstants.{LINE_LIMIT}
use Rattle.std.proofs.lemmas.List.{take_all, take_min, take_more, take-append-drop, length-take, length-take-le}
use Rattle.std.proofs.lemmas.List.Elements.{All-append}
use Rattle.std.proofs.lemmas.List.Quantifiers.{position-Some}
use Rattle.std.proofs.Math.Seq.{take-append-add, take-append_seam, get_or-append_seam, take-length}
use Rattle.gft_base.proofs.Lemmas.{parts_join, parts_front, parts_some, position-None, front_apart}

parts_line : (line : List ℕ) (parts : List (List ℕ)) → 0 < length parts → length line < LINE_LIMIT → told_of_parts (line ∷ parts) ≡ Line (strip_carriage_return line) ∷ told_of_parts parts
parts_line line [] some short = absurd (omega (arith, some))
parts_line line (part ∷ parts) some short = rw (lt-ltb _ _ short) refl

parts_overlong : (part : List ℕ) (parts : List (List ℕ)) → LINE_LIMIT ≤ length part → told_of_parts (part ∷ parts) ≡ Overlong ∷ []
parts_overlong part parts long = rw (le-ltb _ _ long) refl

-- bytes and an LF are a line
pub told-line : (line rest : List ℕ) → Lacks line_feed line → length line < LINE_LIMIT → told (line ++ line_feed ∷ rest) ≡ Line (strip_carriage_return line) ∷ told rest
unfolding told
told-line line rest lacks short = ap told_of_parts (parts_join line_feed line rest lacks) ∙ parts_line line (parts_at line_feed rest) (parts_some line_feed rest) short

-- too few bytes without an LF tell nothing
pub told-none : (bytes : List ℕ) → Lacks line_feed bytes → length bytes < LINE_LIMIT → told bytes ≡ []
unfolding told
told-none bytes lacks short = ap told_of_parts (slice_split_none (λ b. eqb b line_feed) bytes lacks) ∙ rw (lt-ltb _ _ short) refl

overlong_parts : (bytes rest : List ℕ) (parts : List (List ℕ)) → 0 < length parts → parts_at line_feed rest ≡ parts → Lacks line_feed bytes → LINE_LIMIT ≤ length bytes → told_of_parts (parts_at line_feed (bytes ++ rest)) ≡ Overlong ∷ []
overlong_parts bytes rest [] some is lacks long = absurd (omega (arith, some))
overlong_parts bytes rest (part ∷ parts) some is lacks long = ap told_of_parts (parts_front line_feed bytes rest part parts lacks is) ∙ parts_overlong (bytes ++ part) parts (omega (arith, length-append bytes part))

-- so many bytes without an LF are too long a line
pub told-overlong : (bytes rest : List ℕ) → Lacks line_feed bytes → LINE_LIMIT ≤ length bytes → told (bytes ++ rest) ≡ Overlong ∷ []
unfolding told
told-overlong bytes rest lacks long = overlong_parts bytes rest (parts_at line_feed rest) (parts_some line_feed rest) refl lacks long

-- what a reader holds
abbrev pub held : List ℕ → Bool → Held
held bytes was = record { bytes = bytes; whole = was }

begun_lacks : (bytes : List ℕ) (was : Bool) → Lacks line_feed bytes → Lacks line_feed (line_begun (held bytes was))
begun_lacks bytes true lacks = λ k d lt. absurd (omega (arith, lt))
begun_lacks bytes false lacks = lacks

-- where no LF came and there was room, the whole piece was taken
front_whole : (piece front : List ℕ) (room : ℕ) → front ≡ take room piece → length front < room → front ≡ piece
front_whole piece front room is room_left =
    is ∙ take_all room piece (omega (arith, ap length is, length-take room piece))

carries_line : (old : Held) (piece front items : List ℕ) (used : ℕ) → Lacks line_feed items → take (length front + 1) piece ≡ front ++ line_feed ∷ [] → items ≡ line_begun old ++ front → length items < LINE_LIMIT → used ≡ length front + 1 → CarriesLine old piece (record { used = used; whole = true }) (held items true)
carries_line old piece front items used lacks taken is short used_is = record {
  all = λ later.
      let bytes : line_begun old ++ ((front ++ line_feed ∷ []) ++ later) ≡ items ++ line_feed ∷ later = simp (is, append_assoc) refl in
      ap told (rw (used_is, taken) bytes) ∙ told-line items later lacks short;
  settled = told-none [] (λ k d lt. absurd (omega (arith, lt))) (omega arith);
}

carries_rest : (old : Held) (piece items : List ℕ) (used : ℕ) → Lacks line_feed items → items ≡ line_begun old ++ piece → length items < LINE_LIMIT → used ≡ length piece → CarriesLine old piece (record { used = used; whole = false }) (held items false)
carries_rest old piece items used lacks is short used_is = record {
  all = λ later.
      let bytes : line_begun old ++ (piece ++ later) ≡ items ++ later = simp (is, append_assoc) refl in
      ap told (rw (used_is, take-length piece) bytes);
  settled = rw append-nil (told-none items lacks short);
}

front_within : (piece front : List ℕ) (room : ℕ) (ended : Bool) → IsFront piece room front ended → length front ≤ room
front_within piece front room true front_is = omega (arith, (front_is.ending refl).0)
front_within piece front room false front_is = omega (arith, ap length (front_is.unended refl), length-take room piece)

-- a reader that has not come to the limit is below it
pub items_short : (piece front first items : List ℕ) (room : ℕ) (ended : Bool) → IsFront piece room front ended → items ≡ first ++ front → room ≡ LINE_LIMIT - length first → length first ≤ LINE_LIMIT → (length items ≡ LINE_LIMIT → ⊥) → length items < LINE_LIMIT
items_short piece front first items room ended front_is items_is room_is within apart =
    let len = front_within piece front room ended front_is in
    let sum = ap length items_is in
    let joined = length-append first front in
    omega arith

-- the feed tells what the bytes that it took tell
pub feed-carries : (bytes : List ℕ) (was : Bool) (piece front items : List ℕ) (ended : Bool) (room used : ℕ) → Lacks line_feed bytes → IsFront piece room front ended → items ≡ line_begun (held bytes was) ++ front → room ≡ LINE_LIMIT - length (line_begun (held bytes was)) → length items < LINE_LIMIT → used ≡ length front + cond ended 1 0 → CarriesLine (held bytes was) piece (record { used = used; whole = ended }) (held items ended)
feed-carries bytes was piece front items true room used lacks front_is items_is room_is short used_is =
    let old : Held = held bytes was in
    let single : Lacks line_feed items = rw items_is (All-append (λ b. eqb b line_feed ≡ false) (line_begun old) front (begun_lacks bytes was lacks) front_is.single) in
    carries_line old piece front items used single (front_is.ending refl).2 items_is short used_is
feed-carries bytes was piece front items false room used lacks front_is items_is room_is short used_is =
    let old : Held = held bytes was in
    let single : Lacks line_feed items = rw items_is (All-append (λ b. eqb b line_feed ≡ false) (line_begun old) front (begun_lacks bytes was lacks) front_is.single) in
    let all = front_whole piece front room (front_is.unended refl) (omega (arith, ap length items_is, length-append (line_begun old) front)) in
    carries_rest old piece items used single (rw all at items_is) short (omega (arith, ap length all))

-- as many bytes as the limit, none of them an LF
pub feed-overruns : (bytes : List ℕ) (was : Bool) (piece front items : List ℕ) (ended : Bool) (room : ℕ) → Lacks line_feed bytes → length (line_begun (held bytes was)) ≤ LINE_LIMIT → IsFront piece room front ended → items ≡ line_begun (held bytes was) ++ front → room ≡ LINE_LIMIT - length (line_begun (held bytes was)) → length items ≡ LINE_LIMIT → Overruns (held bytes was) piece (held items ended)
feed-overruns bytes was piece front items true room lacks begun_within front_is items_is room_is long =
    let old : Held = held bytes was in
    absurd (omega (arith, (front_is.ending refl).0, ap length items_is, length-append (line_begun old) front))
feed-overruns bytes was piece front items false room lacks begun_within front_is items_is room_is long =
    let old : Held = held bytes was in
    let single : Lacks line_feed items = rw items_is (All-append (λ b. eqb b line_feed ≡ false) (line_begun old) front (begun_lacks bytes was lacks) front_is.single) in
    let front_taken = front_is.unended refl in
    let limit : LINE_LIMIT ≡ length (line_begun old) + room = omega arith in
    record {
      bytes = items_is ∙ ap (λ (x : List ℕ). line_begun old ++ x) front_taken ∙ sym (ap (λ (n : ℕ). take n (line_begun old ++ piece)) limit ∙ take-append-add (line_begun old) piece room);
      unended = single;
      overlong = long;
      comes = λ later.
          let whole_piece : front ++ drop room piece ≡ piece = rw front_taken (take-append-drop room piece) in
          let stream : line_begun old ++ ((front ++ drop room piece) ++ later) ≡ items ++ (drop room piece ++ later) = simp (items_is, append_assoc) refl in
          ap told (ap (λ (x : List ℕ). line_begun old ++ (x ++ later)) (sym whole_piece) ∙ stream) ∙ told-overlong items (drop room piece ++ later) single (omega arith);
      stays = λ later. told-overlong items later single (omega arith);
    }

-- a reader that is at the limit stays there
pub overlong-stays : (bytes : List ℕ) (was : Bool) (piece : List ℕ) → Lacks line_feed bytes → length (line_begun (held bytes was)) ≡ LINE_LIMIT → Overruns (held bytes was) piece (held bytes was)
overlong-stays bytes true piece lacks long = absurd (omega (arith, long))
overlong-stays bytes false piece lacks long = feed-overruns bytes false piece [] bytes false 0 lacks (omega arith) (record { single = λ k d lt. absurd (omega (arith, lt)); ending = λ e. cc; unended = λ e. refl }) (sym (append-nil bytes)) (omega arith) long

-- a feed that takes all it is handed, or an LF, has met no line that is too long
pub feed-short : (bytes : List ℕ) (was : Bool) (piece front items : List ℕ) (ended : Bool) (room : ℕ) → IsFront piece room front ended → items ≡ line_begun (held bytes was) ++ front → room ≡ LINE_LIMIT - length (line_begun (held bytes was)) → length items < LINE_LIMIT → LINE_LIMIT ≤ length (line_begun (held bytes was) ++ piece) → Lacks line_feed (take LINE_LIMIT (line_begun (held bytes was) ++ piece)) → ⊥
feed-short bytes was piece front items true room front_is items_is room_is short long lacks =
    let first : List ℕ = line_begun (held bytes was) in
    let place : ℕ = length first + length front in
    let ending = front_is.ending refl in
    let behind : List ℕ = drop (length front + 1) piece in
    let whole_piece : piece ≡ (front ++ line_feed ∷ []) ++ behind = sym (take-append-drop (length front + 1) piece) ∙ ap (λ (x : List ℕ). x ++ behind) ending.2 in
    let stream : first ++ piece ≡ (first ++ front) ++ line_feed ∷ behind = ap (λ (x : List ℕ). first ++ x) whole_piece ∙ simp append_assoc refl in
    let line : List ℕ = first ++ front in
    let line_len = length-append first front in
    let below : length line < LINE_LIMIT = omega (arith, ending.0, line_len, ap length items_is) in
    let taken : length line < length (take LINE_LIMIT (first ++ piece)) = omega (arith, length-take LINE_LIMIT (first ++ piece)) in
    let here : get_or (take LINE_LIMIT (first ++ piece)) (length line) 0 ≡ line_feed = get_or-take LINE_LIMIT (first ++ piece) (length line) 0 below ∙ ap (λ (x : List ℕ). get_or x (length line) 0) stream ∙ get_or-append_seam line line_feed behind 0 in
    both_ways _ (lacks (length line) 0 taken) (eq-eqb _ _ here)
feed-short bytes was piece front items false room front_is items_is room_is short long lacks =
    let first : List ℕ = line_begun (held bytes was) in
    let all = front_whole piece front room (front_is.unended refl) (omega (arith, ap length items_is, length-append first front)) in
    omega (arith, ap length items_is, length-append first front, length-append first piece, ap length all)

-- the same, where the value is known by an equation
pub feed-short-at : (bytes : List ℕ) (was : Bool) (old : Held) (piece front items : List ℕ) (ended : Bool) (room : ℕ) → held bytes was ≡ old → IsFront piece room front ended → items ≡ line_begun (held bytes was) ++ front → room ≡ LINE_LIMIT - length (line_begun (held bytes was)) → length items < LINE_LIMIT → LINE_LIMIT ≤ length (line_begun old ++ piece) → Lacks line_feed (take LINE_LIMIT (line_begun old ++ piece)) → ⊥
feed-short-at bytes was old piece front items ended room same front_is items_is room_is short =
    rw (← same) (feed-short bytes was piece front items ended room front_is items_is room_is short)

-- a test as a number
pub bool_byte-cond : (b : Bool) → bool_byte b ≡ cond b 1 0
bool_byte-cond true = refl
bool_byte-cond false = refl

up_to : (piece : List ℕ) (room n at : ℕ) → n ≤ room → position (λ b. eqb b line_feed) (take n piece) ≡ Some at → (at < room) × (at < length piece) × (take (at + 1) piece ≡ take at (take n piece) ++ line_feed ∷ [])
up_to piece room n at within found =
    let place = position-Some (λ b. eqb b line_feed) (take n piece) at 0 found in
    let len = length-take n piece in
    let at_n : at < n = omega (arith, place.0) in
    let inside : at < length piece = omega (arith, place.0) in
    let byte : get_or piece at 0 ≡ line_feed = sym (get_or-take n piece at 0 at_n) ∙ eqb-true _ _ place.1 in
    (omega arith, inside, take_more piece at 0 inside ∙ rw (byte, take-take at n piece (omega arith)) refl)

-- the front that ends before an LF
pub front-ended : (piece : List ℕ) (room n at : ℕ) → n ≤ room → position (λ b. eqb b line_feed) (take n piece) ≡ Some at → IsFront piece room (take at (take n piece)) true
front-ended piece room n at within found =
    let ending = up_to piece room n at within found in
    let place = position-Some (λ b. eqb b line_feed) (take n piece) at 0 found in
    let len : length (take at (take n piece)) ≡ at = length-take-le at (take n piece) (omega (arith, place.0)) in
    record {
      single = front_apart line_feed (take n piece) at found;
      ending = λ e. (rw len ending.0, rw len ending.1, rw len ending.2);
      unended = λ e. cc;
    }

-- the front without an LF
pub front-unended : (piece : List ℕ) (room n : ℕ) → n ≡ min room (length piece) → position (λ b. eqb b line_feed) (take n piece) ≡ None → IsFront piece room (take n piece) false
front-unended piece room n is none = record {
  single = position-None (λ b. eqb b line_feed) (take n piece) none;
  ending = λ e. cc;
  unended = λ e. rw is (take_min room piece);
}

-- what ends in a CR is a line without it
pub without_return : (bytes : List ℕ) → strip_carriage_return (bytes ++ carriage_return ∷ []) ≡ bytes
without_return bytes =
    let place : length (bytes ++ carriage_return ∷ []) - 1 ≡ length bytes = omega (arith, length-append bytes (carriage_return ∷ [])) in
    rw (place, get_or-append_seam bytes carriage_return [] 0) (take-append_seam bytes (carriage_return ∷ []))
