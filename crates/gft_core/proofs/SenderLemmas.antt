-- A STOR of honest senders that is done has kept the source.
use Rattle.std.proofs.Common.{◌≡◌, ◌⊎◌, ℕ, ◌+◌, ◌<◌, ◌≤◌, ◌==◌, List, [], ◌∷◌, ◌++◌, Some, None, Bool, true, false, refl, sym, ap, ◌∙◌, subst, inl, inr, ⊎_elim, lt_of_not-le, eq-eqb, ne_eqb, append-nil, arith}
use Rattle.std.specs.Prelude.{Option, slice_get, if◌then◌else◌}
use Rattle.std.proofs.lemmas.Bool.{both_ways}
use Rattle.std.proofs.lemmas.Option.{none-some, same_Some}
use mathlib.Core.Logic.{dite}
use native.Mathlib.Decide.{ℕ_discrete, dec_le}
use Rattle.gft_range.specs.declared.Range.{Range}
use Rattle.gft_range.specs.Words.{HasOffset}
use Rattle.gft_core.specs.declared.event.CoreEvent.{CoreEvent}
use Rattle.gft_core.specs.declared.event.CoreEvent.TheVariants.{Block, Eod, Eof, Crash, Fresh, Resume}
use Rattle.gft_core.specs.Held.{covers}
use Rattle.gft_core.specs.Kept.{first_some, byte_at, carried, answered, earliest, kept, Booked}
use Rattle.gft_core.specs.Legal.{is_open, Legal}
use Rattle.gft_core.specs.Done.{since, total, eod_count}
use Rattle.gft_core.specs.Sender.{AllBring, Brings, CarriesSource, IsInOrder, lane_eods, lane_offsets, list_of, stor_list}
use Rattle.gft_drive.specs.Words.{IsAmong, IsPlan, Orders, offsets_from, sum_below}
use Rattle.gft_core.specs.Laws.{DoneLaw}
use Rattle.gft_core.proofs.CrashLemmas.{shut}
use Rattle.gft_core.proofs.HonestLemmas.{below_length}
use Rattle.gft_core.proofs.OptionLemmas.{first_some_front, first_some_back, first_some_either, if_value, same_options}
use Rattle.gft_core.proofs.SumLemmas.{one_here, none_here, sum_same, sum_none, sum_one, squeeze}

-- ---- lists of offsets

among_append : (xs ys : List ℕ) (x : ℕ) → IsAmong x (xs ++ ys) → IsAmong x xs ⊎ IsAmong x ys
among_append [] ys x h = inr h
among_append (z ∷ xs) ys x h = ⊎_elim (λ p. inl (inl p)) (λ p. ⊎_elim (λ q. inl (inr q)) (λ q. inr q) (among_append xs ys x p)) h

among_if : (b : Bool) (xs : List ℕ) (x : ℕ) → IsAmong x (if b then xs else []) → IsAmong x xs
among_if true xs x h = h
among_if false xs x h = absurd h

some_else : (c : Bool) (b : ℕ) (o : Option ℕ) (v : ℕ) → o ≡ Some v → (w : ℕ) × ((if c then Some b else o) ≡ Some w)
some_else true b o v e = (b, refl)
some_else false b o v e = (v, e)

among_offsets : (offset : ℕ) (bytes : List ℕ) (x : ℕ) → IsAmong x (offsets_from offset bytes) → (v : ℕ) × (byte_at offset bytes x ≡ Some v)
among_offsets offset [] x h = absurd h
among_offsets offset (b ∷ bs) x h =
    ⊎_elim
    (λ (e : x ≡ offset). (b, ap (λ (c : Bool). if c then Some b else byte_at (offset + 1) bs x) (eq-eqb x offset e)))
    (λ (p : IsAmong x (offsets_from (offset + 1) bs)). let t = among_offsets (offset + 1) bs x p in some_else (x == offset) b (byte_at (offset + 1) bs x) t.0 t.1)
    h

-- ---- what is kept was brought

brings_answered : (source : List ℕ) (older : List CoreEvent) (e : CoreEvent) → Brings source older e → CarriesSource source (answered e)
brings_answered source older (Block lane channel offset bytes true) b x v e = absurd (none-some v e)
brings_answered source older (Block lane channel offset bytes false) b x v e = b x v e
brings_answered source older other b x v e = absurd (none-some v e)

brings_carried : (source : List ℕ) (older : List CoreEvent) (e : CoreEvent) → Brings source older e → CarriesSource source (carried e)
brings_carried source older (Block lane channel offset bytes unanswered) b x v e = b x v e
brings_carried source older other b x v e = absurd (none-some v e)

earliest_brought : (source : List ℕ) (events : List CoreEvent) → AllBring source events → CarriesSource source (earliest events)
earliest_brought source [] all x v k = absurd (none-some v k)
earliest_brought source (Fresh ∷ older) all x v k = absurd (none-some v k)
earliest_brought source (Crash image ∷ []) all x v k = all.1 x v k
earliest_brought source (Crash image ∷ (e ∷ older)) all x v k =
    earliest_brought source (e ∷ older) all.0 x v (if_value (covers image.ranges x) (earliest (e ∷ older) x) v k)
earliest_brought source (e ∷ older) all x v k =
    ⊎_elim (λ p. earliest_brought source older all.0 x v p) (λ p. brings_carried source older e all.1 x v p) (first_some_either (earliest older x) (carried e x) v k)

kept_brought : (source : List ℕ) (events : List CoreEvent) → AllBring source events → CarriesSource source (kept events)
kept_brought source [] all x v k = absurd (none-some v k)
kept_brought source (Fresh ∷ older) all x v k = absurd (none-some v k)
kept_brought source (Crash image ∷ older) all x v k = earliest_brought source (Crash image ∷ older) all x v k
kept_brought source (e ∷ older) all x v k =
    ⊎_elim (λ p. kept_brought source older all.0 x v p) (λ p. brings_answered source older e all.1 x v p) (first_some_either (kept older x) (answered e x) v k)

-- ---- what came is booked

-- an event more keeps what is booked, if it is no Fresh and no Crash
more : (older : List CoreEvent) (e : CoreEvent) (x : ℕ) → Booked older x → (v : ℕ) × (first_some (kept older x) (answered e x) ≡ Some v)
more older e x b = (b.0, first_some_front (kept older x) (answered e x) b.0 b.1)

-- where no block is open, what came on a lane is booked
came_booked : (events : List CoreEvent) → is_open events ≡ false → (k x : ℕ) → IsAmong x (lane_offsets k (since events)) → Booked events x
came_booked [] none k x h = absurd h
came_booked (Fresh ∷ older) none k x h = absurd h
came_booked (Resume list ∷ older) none k x h = absurd h
came_booked (Crash image ∷ older) none k x h = absurd h
came_booked (Block lane channel offset bytes true ∷ older) none k x h = absurd (both_ways true none refl)
came_booked (Block lane channel offset bytes false ∷ older) none k x h =
    ⊎_elim
    (λ p. more older (Block lane channel offset bytes false) x (came_booked older none k x p))
    (λ p. let b = among_offsets offset bytes x (among_if (lane == k) (offsets_from offset bytes) x p) in first_some_back (kept older x) (byte_at offset bytes x) b.0 b.1)
    (among_append (lane_offsets k (since older)) (if lane == k then offsets_from offset bytes else []) x h)
came_booked (e ∷ older) none k x h =
    ⊎_elim (λ p. more older e x (came_booked older none k x p)) (λ p. absurd p) (among_append (lane_offsets k (since older)) [] x h)

list_of-is : (ranges list : List Range) → list_of ranges ≡ Some list → ranges ≡ list
list_of-is [] list e = absurd (none-some list e)
list_of-is (r ∷ rs) list e = same_Some (r ∷ rs) list e

-- and so is the REST list
resumed : (events : List CoreEvent) (list : List Range) → Legal events → stor_list events ≡ Some list → (x : ℕ) → HasOffset list x → Booked events x
resumed [] list legal is x h = absurd (none-some list is)
resumed (Fresh ∷ older) list legal is x h = absurd (subst (λ (rs : List Range). HasOffset rs x) (sym (same_Some [] list is)) h)
resumed (Resume rest ∷ older) list legal is x h =
    more older (Resume rest) x (legal.3 x (subst (λ (rs : List Range). HasOffset rs x) (sym (list_of-is rest.ranges list is)) h))
resumed (Crash image ∷ older) list legal is x h = absurd (none-some list is)
resumed (e ∷ older) list legal is x h = more older e x (resumed older list legal.0 is x h)

-- ---- one transfer

module _ {source : List ℕ} {rest : List Range} (orders : Orders) (plan : IsPlan source rest orders) where
  -- what came on a lane begins its order
  prefix : (transfer : List CoreEvent) → IsInOrder orders transfer → (k : ℕ) → (left : List ℕ) × (lane_offsets k transfer ++ left ≡ orders.order k)
  prefix [] h k = (orders.order k, refl)
  prefix (Block lane channel offset bytes unanswered ∷ earlier) h k =
      dite (ℕ_discrete lane k)
      (λ e. (
        h.1.0,
        ap (λ (b : Bool). (lane_offsets k earlier ++ (if b then offsets_from offset bytes else [])) ++ h.1.0) (eq-eqb lane k e)
            ∙ subst (λ (l : ℕ). (lane_offsets l earlier ++ offsets_from offset bytes) ++ h.1.0 ≡ orders.order l) e h.1.1,
      ))
      (λ ne. let p = prefix earlier h.0 k in
      (p.0, ap (λ (b : Bool). (lane_offsets k earlier ++ (if b then offsets_from offset bytes else [])) ++ p.0) (ne_eqb lane k ne) ∙ ap (λ l. l ++ p.0) (append-nil (lane_offsets k earlier)) ∙ p.1))
  prefix (e ∷ earlier) h k = let p = prefix earlier h.0 k in (p.0, ap (λ l. l ++ p.0) (append-nil (lane_offsets k earlier)) ∙ p.1)

  -- a lane has at most its number of EODs, and once it has them its whole order is booked
  abbrev Told : List CoreEvent → ℕ → Type 0
  Told events k = (lane_eods k (since events) ≤ orders.number k) × (lane_eods k (since events) ≡ orders.number k → (x : ℕ) → IsAmong x (orders.order k) → Booked events x)

  at_first : (k : ℕ) (F : ℕ → Type 0) → (0 ≤ orders.number k) × (0 ≡ orders.number k → (x : ℕ) → IsAmong x (orders.order k) → F x)
  at_first k F = (omega arith, λ e x h. absurd (subst (IsAmong x) (plan.silent k (sym e)) h))

  told : (events : List CoreEvent) → Legal events → IsInOrder orders (since events) → (k : ℕ) → Told events k
  told [] legal h k = at_first k (Booked [])
  told (Fresh ∷ older) legal h k = at_first k (Booked (Fresh ∷ older))
  told (Resume list ∷ older) legal h k = at_first k (Booked (Resume list ∷ older))
  told (Crash image ∷ older) legal h k = at_first k (Booked (Crash image ∷ older))
  told (Eod lane ∷ older) legal h k =
      let before = told older legal.0 h.0 k in
      dite (ℕ_discrete lane k)
      (λ e.
      let one = one_here lane k e in
      let order = subst (λ (l : ℕ). (lane_eods l (since older) < orders.number l) × (lane_eods l (since older) + 1 ≡ orders.number l → lane_offsets l (since older) ≡ orders.order l)) e h.1 in (
        omega (arith, one, order.0),
        λ all x i. more older (Eod lane) x (came_booked older (shut (is_open older) false legal.1 refl) k x (subst (IsAmong x) (sym (order.1 (omega (arith, one, all)))) i)),
      ))
      (λ ne.
      let none = none_here lane k ne in
      (omega (arith, none, before.0), λ all x i. more older (Eod lane) x (before.1 (omega (arith, none, all)) x i)))
  told (e ∷ older) legal h k =
      let before = told older legal.0 h.0 k in
      (omega (arith, before.0), λ all x i. more older e x (before.1 (omega (arith, all)) x i))

  -- the EODs are those of all lanes
  counted : (transfer : List CoreEvent) → IsInOrder orders transfer → eod_count transfer ≡ sum_below (λ k. lane_eods k transfer) orders.lanes
  counted [] h = sym (sum_none orders.lanes)
  counted (Eod lane ∷ older) h =
      let some_lane : lane < orders.lanes = dite (dec_le orders.lanes lane) (λ le. absurd (omega (arith, plan.no_more lane le, h.1.0))) (λ no. lt_of_not-le no) in
      omega (arith, counted older h.0, sum_one (λ k. lane_eods k older) lane orders.lanes some_lane)
  counted (e ∷ older) h = omega (arith, counted older h.0, sum_same (λ k. lane_eods k older + 0) (λ k. lane_eods k older) orders.lanes (λ k _. omega arith))

  -- the total is the plan's
  totals : (transfer : List CoreEvent) → IsInOrder orders transfer → (t : ℕ) → total transfer ≡ Some t → t ≡ sum_below orders.number orders.lanes
  totals [] h t e = absurd (none-some t e)
  totals (Eof n ∷ older) h t e =
      ⊎_elim (λ p. totals older h.0 t p) (λ (p : Some n ≡ Some t). sym (same_Some n t p) ∙ h.1) (first_some_either (total older) (Some n) t e)
  totals (other ∷ older) h t e = ⊎_elim (λ p. totals older h.0 t p) (λ (p : None ≡ Some t). absurd (none-some t p)) (first_some_either (total older) None t e)

pub done_kept : DoneLaw
done_kept source events legal stor done x =
    let orders = stor.orders in
    let plan = stor.plan in
    let all = told orders plan events legal stor.in_order in
    let sums = sym (counted orders plan (since events) stor.in_order) ∙ done.met ∙ totals orders plan (since events) stor.in_order done.number done.total in
    let each = squeeze (λ k. lane_eods k (since events)) orders.number orders.lanes (λ k _. (all k).0) sums in
    same_options (kept events x) (slice_get source x)
    (λ v k. kept_brought source events stor.bring x v k)
    (λ v at. ⊎_elim
    (λ h. resumed events stor.list legal stor.stor x h)
    (λ (p : (lane : ℕ) × (lane < orders.lanes) × IsAmong x (orders.order lane)). (all p.0).1 (each p.0 p.1) x p.2)
    (plan.all x (below_length source x v at)))
