-- What an out lane is, what a put does to it, and what its memory form shows.
use Rattle.std.specs.Prelude.{◌≡◌, ℕ, ◌-◌, ◌++◌, min, Bool, true, false, ◌||◌, nat_lt, if◌then◌else◌}
use Rattle.std.specs.Prelude.{List, [], length, take}
use Rattle.std.specs.Prelude.{Option, Some, Result, Ok, Err}
use Rattle.std.specs.Io.KnownBytes.{Appends}
use Rattle.gft_base.specs.Words.{one_more}
use Rattle.gft_outside.specs.Lists.{Failures, fails_next}

pub record OutLaneState : Type 0 where
  -- the bytes that were put, in order, if the out lane tells them
  pub written : Option (List ℕ)
  -- no put has failed, and it wasn't closed
  pub is_open : Bool
  -- how often a put failed
  pub faults : ℕ

-- all bytes were put, and more may be; or a part of them from the front, and no more may be
abbrev pub PutsOut : {T E : Type 0} → Result T E → List ℕ → OutLaneState → OutLaneState → Type 0
PutsOut (Ok value) bytes old new = Appends old.written new.written bytes × (new.is_open ≡ true)
PutsOut (Err error) bytes old new =
    ((count : ℕ) × Appends old.written new.written (take count bytes)) × (new.is_open ≡ false)

-- ---- in memory

pub record OutLaneList : Type 0 where
  pub written : List ℕ
  -- for how many bytes it is made
  pub room : ℕ
  pub failing : Failures
  pub is_open : Bool
  pub faults : ℕ

abbrev pub out_lane_state : OutLaneList → OutLaneState
out_lane_state out = record { written = Some out.written; is_open = out.is_open; faults = out.faults }

-- an out lane with so much room, on which these puts are to fail
abbrev pub new_out_lane : ℕ → List ℕ → OutLaneList
new_out_lane room failing = record {
  written = [];
  room = room;
  failing = record { numbers = failing; calls = 0 };
  is_open = true;
  faults = 0;
}

-- how many of so many bytes the next put takes: none if it is to fail, and else as many as there is room for
abbrev pub put_takes : OutLaneList → ℕ → ℕ
put_takes out count = if fails_next out.failing then 0 else min count (out.room - length out.written)

-- it is to fail, or there is no room for all of them
abbrev pub put_fails : OutLaneList → ℕ → Bool
put_fails out count = fails_next out.failing || nat_lt (out.room - length out.written) count

-- a put was counted, and took what it could; it failed where it was to, and where there was no room
abbrev pub PutsBy : {T E : Type 0} → Result T E → List ℕ → OutLaneList → OutLaneList → Type 0
PutsBy (Ok value) bytes old new = (put_fails old (length bytes) ≡ false) × (new ≡ record old {
  written = old.written ++ bytes;
  failing = record old.failing { calls = one_more old.failing.calls };
})
PutsBy (Err error) bytes old new = (put_fails old (length bytes) ≡ true) × (new ≡ record old {
  written = old.written ++ take (put_takes old (length bytes)) bytes;
  failing = record old.failing { calls = one_more old.failing.calls };
  is_open = false;
  faults = one_more old.faults;
})
