-- Which replies are markers, and how markers are written (GFD.20: restart markers and performance markers).
use Rattle.std.specs.Prelude.{◌≡◌, ℕ, ◌/◌, ◌%◌, ◌<◌, ◌≤◌, ◌^◌, List, [], ◌∷◌, ◌++◌, length, codes, decimal}
use Rattle.gft_base.specs.Words.{IsNumber, dot}
use Rattle.gft_range.specs.declared.Range.{Range}
use Rattle.gft_range.specs.Words.{IsList, items_of, list_text}
use Rattle.gft_range.specs.declared.TheConstants.{MAX_ITEMS}
use Rattle.gft_mark.specs.Fields.{IsShortNumber, IsTimestamp, States}
use Rattle.gft_mark.specs.declared.TheConstants.{PERF_CODE, RANGE_CODE}
use Rattle.gft_mark.specs.declared.marker.Marker.{Marker}
use Rattle.gft_mark.specs.declared.marker.Marker.TheVariants as marker
use Rattle.gft_mark.specs.declared.perf.Perf.{Perf}
use Rattle.gft_reply.specs.declared.Reply.{Reply}

-- one line of the code of restart markers: its name, and a list that names at least one offset
pub record IsRangeMarker (reply : Reply) (ranges : List Range) : Type 0 where
  pub list : List ℕ
  pub code : reply.code ≡ RANGE_CODE
  pub lines : reply.lines ≡ (codes "Range Marker " ++ list) ∷ []
  pub read : IsList list ranges
  pub some : 0 < length ranges

-- one line of that code: its name, and a text of at most MAX_ITEMS items
pub record HasFewItems (reply : Reply) : Type 0 where
  pub list : List ℕ
  pub code : reply.code ≡ RANGE_CODE
  pub lines : reply.lines ≡ (codes "Range Marker " ++ list) ∷ []
  pub few : length (items_of list) ≤ MAX_ITEMS

-- six lines of the code of performance markers: their name, four values, and the end with any text behind it
pub record IsPerfMarker (reply : Reply) (perf : Perf) : Type 0 where
  pub timestamp : List ℕ
  pub index : List ℕ
  pub transferred : List ℕ
  pub count : List ℕ
  pub ending : List ℕ
  pub code : reply.code ≡ PERF_CODE
  pub lines : reply.lines
      ≡ codes "Perf Marker" ∷ timestamp ∷ index ∷ transferred ∷ count ∷ (codes "End" ++ ending) ∷ []
  pub tenths : States (codes "Timestamp:") IsTimestamp timestamp perf.tenths
  pub stripe : States (codes "Stripe Index:") IsShortNumber index perf.stripe
  pub bytes : States (codes "Stripe Bytes Transferred:") IsNumber transferred perf.bytes
  pub stripes : States (codes "Total Stripe Count:") IsShortNumber count perf.stripes

-- the reply is this marker
abbrev pub IsMarker : Reply → Marker → Type 0
IsMarker reply (marker.Ranges set) = IsRangeMarker reply set.ranges
IsMarker reply (marker.Perf perf) = IsPerfMarker reply perf

-- the line of a written restart marker
abbrev pub range_marker_text : List Range → List ℕ
range_marker_text ranges = codes "Range Marker " ++ list_text ranges

-- the seconds, a point, and the last digit of the tenths
abbrev pub timestamp_text : ℕ → List ℕ
timestamp_text tenths = decimal (tenths / 10) ++ dot ∷ decimal (tenths % 10)

-- the lines of a written performance marker
abbrev pub perf_lines : Perf → List (List ℕ)
perf_lines perf =
    codes "Perf Marker"
    ∷ (codes "Timestamp: " ++ timestamp_text perf.tenths)
    ∷ (codes "Stripe Index: " ++ decimal perf.stripe)
    ∷ (codes "Stripe Bytes Transferred: " ++ decimal perf.bytes)
    ∷ (codes "Total Stripe Count: " ++ decimal perf.stripes)
    ∷ codes "End"
    ∷ []

-- the values fit their fields
pub record FitsPerf (perf : Perf) : Type 0 where
  pub tenths : perf.tenths < 2 ^ 64
  pub stripe : perf.stripe < 2 ^ 16
  pub bytes : perf.bytes < 2 ^ 64
  pub stripes : perf.stripes < 2 ^ 16
