-- What is still to come of a channel: nothing behind its EOD, nothing from no byte, and no end from fewer bytes than it wants.
use Rattle.std.proofs.Common.{◌≡◌, ℕ, ◌-◌, ◌<◌, ◌⊎◌, inl, inr, List, [], ◌∷◌, ◌++◌, length, drop, Option, Some, None, append-nil, refl, sym, ap, ◌∙◌, subst, arith, length-append}
use Rattle.std.proofs.Math.Seq.{drop-length, take-nil}
use Rattle.std.proofs.lemmas.Bool.{lt-ltb}
use Rattle.std.proofs.lemmas.List.{take-append-drop}
use Rattle.gft_eblock.specs.declared.TheConstants.{HEADER_LEN}
use Rattle.gft_eblock.specs.declared.bad_block.BadBlock.{BadBlock}
use Rattle.gft_eblock.specs.Arrival.{Arrival, Bad, Eod, Refusal}
use Rattle.gft_eblock.specs.declared.channel.State.{State}
use Rattle.gft_eblock.specs.declared.channel.State.TheVariants.{Header, Data, EodWaits, Done, Failed}
use Rattle.gft_eblock.specs.declared.event.Event.{Event}
use Rattle.gft_eblock.specs.declared.event.Event.TheVariants as event
use Rattle.gft_eblock.specs.declared.event.Step.{Step}
use Rattle.gft_eblock.specs.Arrivals.{IsUnfinished, data_at, data_then, blocks_from}
use Rattle.gft_eblock.specs.Channel.{Reader, IsDone, IsDoneState, IsSoundState, to_come, to_come_in, wanted, wanted_in}
use Rattle.gft_eblock.specs.Feeding.{Advances, IsEventOf, event_arrivals}
use Rattle.gft_eblock.proofs.BlockLemmas.{blocks_from-short}
use Rattle.gft_eblock.proofs.EndingLemmas.{IsUnfinished-data_at, data_cut}

to_come_in-done : (state : State) (shift taken : ℕ) (bytes later : List ℕ) → IsDoneState state → to_come_in state shift taken bytes later ≡ []
unfolding to_come_in
to_come_in-done Header shift taken bytes later done = absurd done
to_come_in-done (Data offset left eod) shift taken bytes later done = absurd done
to_come_in-done EodWaits shift taken bytes later done = absurd done
to_come_in-done Done shift taken bytes later done = refl
to_come_in-done (Failed bad) shift taken bytes later done = absurd done

-- behind the EOD nothing comes
pub to_come-done : (reader : Reader) → IsDone reader → (later : List ℕ) → to_come reader later ≡ []
to_come-done reader done later = to_come_in-done reader.state reader.shift reader.taken reader.header later done

to_come_in-nothing : (state : State) (shift taken : ℕ) (bytes : List ℕ) → 0 < wanted_in state bytes → to_come_in state shift taken bytes [] ≡ []
unfolding to_come_in data_then
to_come_in-nothing Header shift taken bytes some = ap (blocks_from shift (taken - length bytes)) (append-nil bytes) ∙ blocks_from-short shift (taken - length bytes) bytes (omega arith)
to_come_in-nothing (Data offset left eod) shift taken bytes some = rw (take-nil left, lt-ltb 0 left some)
to_come_in-nothing EodWaits shift taken bytes some = absurd (omega arith)
to_come_in-nothing Done shift taken bytes some = absurd (omega arith)
to_come_in-nothing (Failed bad) shift taken bytes some = absurd (omega arith)

-- where a byte is waited for, no event is
pub to_come-nothing : (reader : Reader) → 0 < wanted reader → to_come reader [] ≡ []
to_come-nothing reader some = to_come_in-nothing reader.state reader.shift reader.taken reader.header some

to_come_in-early : (s : State) (shift taken : ℕ) (header bytes : List ℕ) → length bytes < wanted_in s header → IsUnfinished (to_come_in s shift taken header bytes)
unfolding to_come_in
to_come_in-early Header shift taken header bytes lt =
    subst IsUnfinished (sym (blocks_from-short shift (taken - length header) (header ++ bytes) (omega (arith, length-append header bytes)))) tt
to_come_in-early (Data offset left eod) shift taken header bytes lt =
    subst IsUnfinished (sym (data_cut offset left bytes _ lt)) (IsUnfinished-data_at offset bytes)
to_come_in-early EodWaits shift taken header bytes lt = absurd (omega arith)
to_come_in-early Done shift taken header bytes lt = absurd (omega arith)
to_come_in-early (Failed bad) shift taken header bytes lt = absurd (omega arith)

-- a front of what is wanted brings data at most
to_come_in-data : (s : State) (shift taken : ℕ) (header bytes : List ℕ) → length bytes < wanted_in s header → (offset : ℕ) × (values : List ℕ) × (to_come_in s shift taken header bytes ≡ data_at offset values)
unfolding to_come_in
to_come_in-data Header shift taken header bytes lt =
    (0, [], blocks_from-short shift (taken - length header) (header ++ bytes) (omega (arith, length-append header bytes)))
to_come_in-data (Data offset left eod) shift taken header bytes lt = (offset, bytes, data_cut offset left bytes _ lt)
to_come_in-data EodWaits shift taken header bytes lt = absurd (omega arith)
to_come_in-data Done shift taken header bytes lt = absurd (omega arith)
to_come_in-data (Failed bad) shift taken header bytes lt = absurd (omega arith)

pub to_come-data : (reader : Reader) (bytes : List ℕ) → length bytes < wanted reader → (offset : ℕ) × (values : List ℕ) × (to_come reader bytes ≡ data_at offset values)
to_come-data reader bytes lt = to_come_in-data reader.state reader.shift reader.taken reader.header bytes lt

pub to_come-early : (reader : Reader) (bytes : List ℕ) → length bytes < wanted reader → IsUnfinished (to_come reader bytes)
to_come-early reader bytes lt = to_come_in-early reader.state reader.shift reader.taken reader.header bytes lt

-- ---- behind an event

not_failed : (told : Option Event) (bad : BadBlock) (header : List ℕ) → IsEventOf told (Failed bad) header → ⊥
not_failed None bad header shape = omega (arith, shape)
not_failed (Some (event.Piece offset bytes)) bad header shape = shape.2
not_failed (Some (event.Eof total)) bad header shape = shape
not_failed (Some event.Eod) bad header shape = shape

behind_in : (told : Option Event) (s : State) (shift taken : ℕ) (header : List ℕ) → IsSoundState s taken header → IsEventOf told s header → (to_come_in s shift taken header [] ≡ []) ⊎ (to_come_in s shift taken header [] ≡ Eod ∷ [])
unfolding to_come_in
behind_in told Header shift taken header sound shape = inl (to_come_in-nothing Header shift taken header (let short = sound.0 in omega arith))
behind_in told (Data offset left eod) shift taken header sound shape = inl (to_come_in-nothing (Data offset left eod) shift taken header sound.0)
behind_in told EodWaits shift taken header sound shape = inr refl
behind_in told Done shift taken header sound shape = inl refl
behind_in told (Failed bad) shift taken header sound shape = absurd (not_failed told bad header shape)

-- behind an event at most an EOD waits
pub behind_of : (told : Option Event) (r : Reader) → IsSoundState r.state r.taken r.header → IsEventOf told r.state r.header → (to_come r [] ≡ []) ⊎ (to_come r [] ≡ Eod ∷ [])
behind_of told r sound shape = behind_in told r.state r.shift r.taken r.header sound shape

-- ---- a bad block that comes first is refused

data_not_bad : (offset : ℕ) (bytes : List ℕ) (rest : List Arrival) (refused : Refusal) → 0 < length bytes → data_at offset bytes ++ rest ≡ Bad refused ∷ [] → ⊥
data_not_bad offset [] rest refused some came = omega (arith, some)
data_not_bad offset (value ∷ values) rest refused some came = cc came

event_not_bad : (told : Option Event) (r : Reader) (later : List ℕ) (refused : Refusal) → IsEventOf told r.state r.header → (told ≡ None → later ≡ []) → event_arrivals told ++ to_come r later ≡ Bad refused ∷ [] → ⊥
event_not_bad None r later refused waits whole came =
    let none : to_come r later ≡ [] = ap (to_come r) (whole refl) ∙ to_come-nothing r waits in
    cc (none, came)
event_not_bad (Some (event.Piece offset bytes)) r later refused shape whole came = data_not_bad offset bytes.now (to_come r later) refused shape.0 came
event_not_bad (Some (event.Eof total)) r later refused shape whole came = cc came
event_not_bad (Some event.Eod) r later refused shape whole came = cc came

-- a channel that advanced, up to an event or over the whole piece, had no bad block before it
pub Advances-not_bad : (old : Reader) (piece : List ℕ) (step : Step) (new : Reader) (refused : Refusal) → Advances old piece step new → (step.event ≡ None → step.used ≡ length piece) → to_come old piece ≡ Bad refused ∷ [] → ⊥
Advances-not_bad old piece step new refused advances whole came =
    let later = drop step.used piece in
    let nothing : step.event ≡ None → later ≡ [] = λ none. ap (λ n. drop n piece) (whole none) ∙ drop-length piece in
    let split : to_come old piece ≡ event_arrivals step.event ++ to_come new later = rw (take-append-drop step.used piece) at (advances.carried later) in
    event_not_bad step.event new later refused advances.event nothing (sym split ∙ came)
