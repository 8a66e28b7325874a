-- Blocks of a file, piece by piece and one after another.
use Rattle.std.proofs.Common.{◌≡◌, ℕ, ◌+◌, ◌-◌, ◌<◌, ◌≤◌, List, [], ◌∷◌, ◌++◌, length, take, drop, true, refl, sym, ap, ◌∙◌, subst, arith, inl, inr, append_assoc}
use Rattle.std.specs.Prelude.{Result, Ok, Err, slice_index, slice_range}
use Rattle.std.proofs.Math.Seq.{take-append_seam}
use Rattle.std.proofs.lemmas.List.{append-nil, drop_all, length-take}
use Rattle.gft_range.specs.declared.Range.{Range}
use Rattle.gft_range.specs.Words.{HasOffset, InRange}
use Rattle.gft_drive.specs.Words.{DriveState, IsLawful}
use Rattle.gft_eblock.specs.Words.{spelling}
use Rattle.gft_layout.specs.Words.{IsAscending}
use Rattle.gft_layout.specs.Runs.{BeginsFrom}
use Rattle.gft_outside.specs.Words.{OutLaneState}
use Rattle.gft_pass.specs.declared.Cause.{Cause}
use Rattle.gft_send.specs.Sending.{HasRest, IsRestOf, Sends, end_of_piece}
use Rattle.gft_send.specs.Streams.{data_blocks, data_header}
use Rattle.gft_send.specs.Stripes.{bytes_in}
use Rattle.gft_send.proofs.FileLemmas.{part_same, part_split}
use Rattle.gft_send.proofs.SendLemmas.{sends_as, sends_none, sends_stop, sends_then}

-- from this offset on
abbrev pub range_from : Range → ℕ → Range
range_from range at = record { start = at; end = range.end }

stays_below : (range : Range) (at : ℕ) (f g : List ℕ) → length g ≡ length f → ((x : ℕ) → ¬ InRange (range_from range at) x → slice_index g x ≡ slice_index f x) → slice_range g range.start at ≡ slice_range f range.start at
stays_below range at f g long same = part_same f g range.start at long (λ x low high. same x (λ h. absurd (omega arith)))

-- ---- the pieces behind the first

pub no_header : (n : ℕ) (buf : List ℕ) → drop n (take n buf) ≡ []
no_header n buf = drop_all n (take n buf) (let e = length-take n buf in omega arith)

rest_part : (range : Range) (at stop : ℕ) (head : List ℕ) → head ≡ [] → range.start ≤ at → at ≤ stop → (f : List ℕ) → slice_range f range.start stop ≡ slice_range f range.start at ++ (head ++ slice_range f at stop)
rest_part range at stop head none low high f =
    part_split f range.start at stop low high ∙ ap (λ (l : List ℕ). slice_range f range.start at ++ (l ++ slice_range f at stop)) (sym none)

module _ (range : Range) (at : ℕ) (head : List ℕ) (drive seen looked : DriveState) (old mid new : OutLaneState) where
  pub rest_step : (result : Result ℕ Cause) → IsLawful seen → IsLawful looked → head ≡ [] → range.start ≤ at → at ≤ end_of_piece (range_from range at) result
      → Sends {T = ℕ} (InRange range) (IsRestOf range) (λ file. slice_range file range.start at) (Ok 0) drive seen old mid
      → Sends {T = ℕ} (InRange (range_from range at)) (IsRestOf (range_from range at)) (λ file. head ++ slice_range file at (end_of_piece (range_from range at) result)) result seen looked mid new
      → Sends {T = ℕ} (InRange range) (IsRestOf range) (λ file. slice_range file range.start (end_of_piece (range_from range at) result)) result drive looked old new
  rest_step result lawful_seen lawful_looked none low high first second =
      let stop = end_of_piece (range_from range at) result in
      sends_then {T = ℕ} {U = ℕ} (InRange range) (InRange (range_from range at)) (InRange range) (IsRestOf range) (IsRestOf (range_from range at)) (IsRestOf range)
      (λ file. slice_range file range.start at) (λ file. head ++ slice_range file at stop) (λ file. slice_range file range.start stop)
      drive seen looked old mid new 0 result lawful_seen lawful_looked first second
      (λ x h. h) (λ x h. (omega arith, h.1)) (λ r h. record { from = let f = h.from in omega arith; some = h.some; to = h.to })
      (λ f g long same. stays_below range at f g long same)
      (rest_part range at stop head none low high)

-- ---- a block

-- the header stands at the front of the buffer
pub front_is : (h : ℕ) (part later header : List ℕ) → length part ≡ h → part ≡ header → drop 0 (take h (part ++ later)) ≡ header
front_is h part later header size is = ap (λ (n : ℕ). take n (part ++ later)) (sym size) ∙ take-append_seam part later ∙ is

block_part : (range : Range) (n : ℕ) (front header : List ℕ) → front ≡ header → range.start + n ≤ range.end → (f : List ℕ) → header ++ slice_range f range.start range.end ≡ (front ++ slice_range f range.start (range.start + n)) ++ slice_range f (range.start + n) range.end
block_part range n front header is fits f =
    let mid = range.start + n in
    ap (λ (l : List ℕ). header ++ l) (part_split f range.start mid range.end (omega arith) fits)
    ∙ sym (append_assoc header (slice_range f range.start mid) (slice_range f mid range.end))
    ∙ ap (λ (l : List ℕ). (l ++ slice_range f range.start mid) ++ slice_range f mid range.end) (sym is)

module _ {U : Type 0} (range : Range) (n : ℕ) (front header : List ℕ) (drive seen looked : DriveState) (old mid new : OutLaneState) where
  -- the first piece, and then the rest
  pub block_step : (result : Result U Cause) → IsLawful seen → IsLawful looked → front ≡ header → range.start + n ≤ range.end
      → Sends {T = ℕ} (InRange range) (IsRestOf range) (λ file. front ++ slice_range file range.start (range.start + n)) (Ok n) drive seen old mid
      → Sends (InRange (range_from range (range.start + n))) (IsRestOf (range_from range (range.start + n))) (λ file. slice_range file (range.start + n) range.end) result seen looked mid new
      → Sends (InRange range) (IsRestOf range) (λ file. header ++ slice_range file range.start range.end) result drive looked old new
  block_step result lawful_seen lawful_looked is fits first second =
      let at = range.start + n in
      sends_then {T = ℕ} {U = U} (InRange range) (InRange (range_from range at)) (InRange range) (IsRestOf range) (IsRestOf (range_from range at)) (IsRestOf range)
      (λ file. front ++ slice_range file range.start at) (λ file. slice_range file at range.end) (λ file. header ++ slice_range file range.start range.end)
      drive seen looked old mid new n result lawful_seen lawful_looked first second
      (λ x h. h) (λ x h. ((let l = h.0 in omega arith), h.1)) (λ r h. record { from = let f = h.from in omega arith; some = h.some; to = h.to })
      (λ f g long same. ap (λ (l : List ℕ). front ++ l) (stays_below range at f g long same))
      (block_part range n front header is fits)

pub block_stop : {U : Type 0} (range : Range) (front header : List ℕ) (drive looked : DriveState) (old new : OutLaneState) (cause : Cause) → front ≡ header
    → Sends {T = ℕ} (InRange range) (IsRestOf range) (λ file. front ++ slice_range file range.start range.end) (Err cause) drive looked old new
    → Sends {T = U} (InRange range) (IsRestOf range) (λ file. header ++ slice_range file range.start range.end) (Err cause) drive looked old new
block_stop {U = U} range front header drive looked old new cause is first =
    sends_stop {T = ℕ} {U = U} (InRange range) (InRange range) (IsRestOf range) (IsRestOf range) (λ file. front ++ slice_range file range.start range.end) (λ file. []) (λ file. header ++ slice_range file range.start range.end)
    drive looked old new cause first (λ x h. h) (λ r h. h)
    (λ f. ap (λ (l : List ℕ). l ++ slice_range f range.start range.end) (sym is) ∙ sym (append-nil (front ++ slice_range f range.start range.end)))

-- ---- blocks

pub data_blocks-append : (file : List ℕ) (a b : List Range) → data_blocks file (a ++ b) ≡ data_blocks file a ++ data_blocks file b
data_blocks-append file [] b = refl
data_blocks-append file (r ∷ rs) b =
    let header = spelling (data_header r) in
    let bytes = slice_range file r.start r.end in
    ap (λ (l : List ℕ). header ++ (bytes ++ l)) (data_blocks-append file rs b)
    ∙ ap (λ (l : List ℕ). header ++ l) (sym (append_assoc bytes (data_blocks file rs) (data_blocks file b)))
    ∙ sym (append_assoc header (bytes ++ data_blocks file rs) (data_blocks file b))

pub one_block : (file : List ℕ) (r : Range) → data_blocks file (r ∷ []) ≡ spelling (data_header r) ++ slice_range file r.start r.end
one_block file r = ap (λ (l : List ℕ). spelling (data_header r) ++ l) (append-nil (slice_range file r.start r.end))

pub bytes_in-append : (a b : List Range) → bytes_in (a ++ b) ≡ bytes_in a + bytes_in b
bytes_in-append [] b = omega arith
bytes_in-append (r ∷ rs) b = let e = bytes_in-append rs b in omega arith

pub in_front : (a b : List Range) (x : ℕ) → HasOffset a x → HasOffset (a ++ b) x
in_front [] b x h = absurd h
in_front (r ∷ rs) b x (inl h) = inl h
in_front (r ∷ rs) b x (inr h) = inr (in_front rs b x h)

pub in_back : (a b : List Range) (x : ℕ) → HasOffset b x → HasOffset (a ++ b) x
in_back [] b x h = h
in_back (r ∷ rs) b x h = inr (in_back rs b x h)

rest_back : (a b : List Range) (m : Range) → HasRest b m → HasRest (a ++ b) m
rest_back [] b m h = h
rest_back (r ∷ rs) b m h = inr (rest_back rs b m h)

begins_low : (x : ℕ) (before : List Range) (r : Range) (later : List Range) → BeginsFrom x (before ++ r ∷ later) → IsAscending (before ++ r ∷ later) → x ≤ r.start
begins_low x [] r later from up = from
begins_low x (b ∷ bs) r later from up = let low = begins_low b.end bs r later up.1 up.2 in let some = up.0 in omega arith

blocks_stay : (before : List Range) (r : Range) (later : List Range) (f g : List ℕ) → IsAscending (before ++ r ∷ later) → length g ≡ length f → ((x : ℕ) → ¬ InRange r x → slice_index g x ≡ slice_index f x) → data_blocks g before ≡ data_blocks f before
blocks_stay [] r later f g up long same = refl
blocks_stay (b ∷ bs) r later f g up long same =
    let low = begins_low b.end bs r later up.1 up.2 in
    let here = part_same f g b.start b.end long (λ x from to. same x (λ h. let h0 = h.0 in absurd (omega arith))) in
    ap (λ (l : List ℕ). spelling (data_header b) ++ (l ++ data_blocks g bs)) here
    ∙ ap (λ (l : List ℕ). spelling (data_header b) ++ (slice_range f b.start b.end ++ l)) (blocks_stay bs r later f g up.2 long same)

module _ {U : Type 0} (ranges before : List Range) (r : Range) (later : List Range) (drive seen looked : DriveState) (old mid new : OutLaneState) where
  -- one block more
  pub blocks_step : (result : Result U Cause) → IsLawful seen → IsLawful looked → ranges ≡ before ++ r ∷ later → IsAscending ranges
      → Sends {T = ℕ} (HasOffset ranges) (HasRest ranges) (λ file. data_blocks file before) (Ok 0) drive seen old mid
      → Sends (InRange r) (IsRestOf r) (λ file. spelling (data_header r) ++ slice_range file r.start r.end) result seen looked mid new
      → Sends (HasOffset ranges) (HasRest ranges) (λ file. data_blocks file (before ++ r ∷ [])) result drive looked old new
  blocks_step result lawful_seen lawful_looked is up first second =
      sends_then {T = ℕ} {U = U} (HasOffset ranges) (InRange r) (HasOffset ranges) (HasRest ranges) (IsRestOf r) (HasRest ranges)
      (λ file. data_blocks file before) (λ file. spelling (data_header r) ++ slice_range file r.start r.end) (λ file. data_blocks file (before ++ r ∷ []))
      drive seen looked old mid new 0 result lawful_seen lawful_looked first second
      (λ x h. h)
      (λ x h. subst (λ (l : List Range). HasOffset l x) (sym is) (in_back before (r ∷ later) x (inl h)))
      (λ m h. subst (λ (l : List Range). HasRest l m) (sym is) (rest_back before (r ∷ later) m (inl h)))
      (λ f g long same. blocks_stay before r later f g (subst (λ (l : List Range). IsAscending l) is up) long same)
      (λ f. data_blocks-append f before (r ∷ []) ∙ ap (λ (l : List ℕ). data_blocks f before ++ l) (one_block f r))

module _ {T U : Type 0} (ranges before : List Range) (r : Range) (later : List Range) (drive looked : DriveState) (old new : OutLaneState) where
  pub blocks_stop : (cause : Cause) → ranges ≡ before ++ r ∷ later
      → Sends {T = T} (HasOffset ranges) (HasRest ranges) (λ file. data_blocks file (before ++ r ∷ [])) (Err cause) drive looked old new
      → Sends {T = U} (HasOffset ranges) (HasRest ranges) (λ file. data_blocks file ranges) (Err cause) drive looked old new
  blocks_stop cause is first =
      sends_stop {T = T} {U = U} (HasOffset ranges) (HasOffset ranges) (HasRest ranges) (HasRest ranges) (λ file. data_blocks file (before ++ r ∷ [])) (λ file. data_blocks file later) (λ file. data_blocks file ranges)
      drive looked old new cause first (λ x h. h) (λ m h. h)
      (λ f. ap (λ (l : List Range). data_blocks f l) (is ∙ sym (append_assoc before (r ∷ []) later)) ∙ data_blocks-append f (before ++ r ∷ []) later)

-- the front of the ranges is put, of so many bytes
pub record HasPut (ranges later : List Range) (sent : ℕ) (drive looked : DriveState) (old new : OutLaneState) : Type 0 where
  pub before : List Range
  pub split : ranges ≡ before ++ later
  pub counted : sent ≡ bytes_in before
  pub sends : Sends {T = ℕ} (HasOffset ranges) (HasRest ranges) (λ file. data_blocks file before) (Ok 0) drive looked old new

pub put_none : (ranges : List Range) (drive : DriveState) (out : OutLaneState) → out.is_open ≡ true → HasPut ranges ranges 0 drive drive out out
put_none ranges drive out is_open = record {
  before = [];
  split = refl;
  counted = refl;
  sends = sends_none {T = ℕ} 0 (HasOffset ranges) (HasRest ranges) (λ file. []) drive out is_open (λ f. refl);
}

module _ (ranges now : List Range) (sent : ℕ) (r : Range) (later : List Range) (drive seen looked : DriveState) (old mid new : OutLaneState) (put : HasPut ranges now sent drive seen old mid) (is : now ≡ r ∷ later) where
  split_here : ranges ≡ put.before ++ r ∷ later
  split_here = put.split ∙ ap (λ (l : List Range). put.before ++ l) is

  -- the next one has bytes that were not counted
  pub put_fits : sent + bytes_in (r ∷ later) ≡ bytes_in ranges
  put_fits = let e = bytes_in-append put.before (r ∷ later) in let s = ap bytes_in split_here in let c = put.counted in omega arith

  pub put_more : {U : Type 0} (v : U) → IsLawful seen → IsLawful looked → IsAscending ranges
      → Sends {T = U} (InRange r) (IsRestOf r) (λ file. spelling (data_header r) ++ slice_range file r.start r.end) (Ok v) seen looked mid new
      → HasPut ranges later (sent + (r.end - r.start)) drive looked old new
  put_more {U = U} v lawful_seen lawful_looked up block = record {
    before = put.before ++ r ∷ [];
    split = split_here ∙ sym (append_assoc put.before (r ∷ []) later);
    counted = let e = bytes_in-append put.before (r ∷ []) in let c = put.counted in omega arith;
    sends = sends_as {T = U} {U = ℕ} (HasOffset ranges) (HasOffset ranges) (HasRest ranges) (HasRest ranges) (λ file. data_blocks file (put.before ++ r ∷ [])) (λ file. []) (λ file. data_blocks file (put.before ++ r ∷ [])) drive looked old new v 0
        (blocks_step {U = U} ranges put.before r later drive seen looked old mid new (Ok v) lawful_seen lawful_looked split_here up put.sends block)
        (λ x h. h) (λ f. refl);
  }

  pub put_cut : {T U : Type 0} (cause : Cause) → IsLawful seen → IsLawful looked → IsAscending ranges
      → Sends {T = T} (InRange r) (IsRestOf r) (λ file. spelling (data_header r) ++ slice_range file r.start r.end) (Err cause) seen looked mid new
      → Sends {T = U} (HasOffset ranges) (HasRest ranges) (λ file. data_blocks file ranges) (Err cause) drive looked old new
  put_cut {T = T} {U = U} cause lawful_seen lawful_looked up block =
      blocks_stop {T = T} {U = U} ranges put.before r later drive looked old new cause split_here
      (blocks_step {U = T} ranges put.before r later drive seen looked old mid new (Err cause) lawful_seen lawful_looked split_here up put.sends block)

  pub put_some : IsAscending ranges → r.start < r.end
  put_some up = ascending_at put.before (subst (λ (l : List Range). IsAscending l) split_here up)
    where
      ascending_at : (before : List Range) → IsAscending (before ++ r ∷ later) → r.start < r.end
      ascending_at [] up = up.0
      ascending_at (b ∷ bs) up = ascending_at bs up.2

  pub put_there : (x : ℕ) → InRange r x → HasOffset ranges x
  put_there x h = subst (λ (l : List Range). HasOffset l x) (sym split_here) (in_back put.before (r ∷ later) x (inl h))

pub put_all : (ranges now : List Range) (sent : ℕ) (drive looked : DriveState) (old new : OutLaneState) → HasPut ranges now sent drive looked old new → now ≡ [] → Sends {T = ℕ} (HasOffset ranges) (HasRest ranges) (λ file. data_blocks file ranges) (Ok sent) drive looked old new
put_all ranges now sent drive looked old new put none =
    sends_as {T = ℕ} {U = ℕ} (HasOffset ranges) (HasOffset ranges) (HasRest ranges) (HasRest ranges) (λ file. data_blocks file put.before) (λ file. []) (λ file. data_blocks file ranges) drive looked old new 0 sent put.sends (λ x h. h)
    (λ f. ap (λ (l : List Range). data_blocks f l) (put.split ∙ ap (λ (l : List Range). put.before ++ l) none ∙ append-nil put.before))

pub put_total : (ranges now : List Range) (sent : ℕ) (drive looked : DriveState) (old new : OutLaneState) → HasPut ranges now sent drive looked old new → now ≡ [] → sent ≡ bytes_in ranges
put_total ranges now sent drive looked old new put none =
    put.counted ∙ ap bytes_in (sym (put.split ∙ ap (λ (l : List Range). put.before ++ l) none ∙ append-nil put.before))
