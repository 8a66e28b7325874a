-- The table of live channels, behind further inputs.
use Rattle.std.proofs.Common.{◌≡◌, ◌==◌, ◌||◌, ℕ, zero, suc, ◌+◌, ◌<◌, List, [], ◌∷◌, ◌++◌, length, Some, Bool, true, false, refl, sym, ap, ◌∙◌, subst, arith, ne_eqb}
use Rattle.std.specs.Prelude.{if◌then◌else◌, remove, slice_get}
use Rattle.std.proofs.lemmas.Bool.{eq-eqb}
use Rattle.gft_eblock.specs.Words.{Arrival, IsDone, Reader, arrivals, blocks_from, eods, to_come}
use Rattle.gft_outside.specs.Words.{Ended, HasNoBad, LaneInput, Opened, Silence, is_live, stream, without}
use Rattle.gft_receive.specs.declared.channels.LiveChannel.{LiveChannel}
use Rattle.gft_receive.specs.declared.channels.Channels.{Channels}
use Rattle.gft_receive.specs.Table.{AreApart, TakesOut, EachReads, HoldsChannels, PutsIn, ReadsStream, live_numbers}

-- ---- tests

pub no_both : (b : Bool) → b ≡ true → b ≡ false → ⊥
no_both b yes_ no_ = let e : true ≡ false = sym yes_ ∙ no_ in cc

pub or_false : (a b : Bool) → (a || b) ≡ false → (a ≡ false) × (b ≡ false)
or_false true b e = absurd (no_both true refl e)
or_false false b e = (refl, e)

both_false : (a b : Bool) → a ≡ false → b ≡ false → (a || b) ≡ false
both_false a b x y = ap (λ (c : Bool). c || b) x ∙ y

pub apart_swap : (a b : ℕ) → (a == b) ≡ false → (b == a) ≡ false
apart_swap a b is = ne_eqb b a (λ e. no_both (a == b) (eq-eqb a b (sym e)) is)

-- ---- numbers

never_live : (table : List LiveChannel) (channel : ℕ) → ((k : ℕ) (live : LiveChannel) → k < length table → slice_get table k ≡ Some live → live.number ≡ channel → ⊥) → is_live channel (live_numbers table) ≡ false
never_live [] channel none = refl
never_live (live ∷ table) channel none =
    both_false (live.number == channel) (is_live channel (live_numbers table)) (ne_eqb live.number channel (none 0 live (omega arith) refl))
    (never_live table channel (λ k other lt at is. none (suc k) other (omega (arith, lt)) at is))

pub never_live_below : (table : List LiveChannel) (channel n : ℕ) → n ≡ length table → ((k : ℕ) (live : LiveChannel) → k < n → slice_get table k ≡ Some live → live.number ≡ channel → ⊥) → is_live channel (live_numbers table) ≡ false
never_live_below table channel n all none = never_live table channel (λ k live lt at is. none k live (omega (arith, lt, all)) at is)

pub same_live : (a b : LiveChannel) → Some a ≡ Some b → a ≡ b
same_live a b e = cc

pub live_at : (table : List LiveChannel) (channel place : ℕ) (found : LiveChannel) → slice_get table place ≡ Some found → found.number ≡ channel → is_live channel (live_numbers table) ≡ true
live_at [] channel place found at number = cc
live_at (live ∷ table) channel zero found at number =
    let is : live.number ≡ channel = ap (λ (l : LiveChannel). l.number) (same_live live found at) ∙ number in
    ap (λ (b : Bool). b || is_live channel (live_numbers table)) (eq-eqb live.number channel is)
live_at (live ∷ table) channel (suc place) found at number = cases (live.number == channel) (live_at table channel place found at number)
  where
    cases : (b : Bool) → is_live channel (live_numbers table) ≡ true → (b || is_live channel (live_numbers table)) ≡ true
    cases true later = refl
    cases false later = later

pub numbers-opened : (table : List LiveChannel) (live : LiveChannel) → live_numbers (table ++ live ∷ []) ≡ live_numbers table ++ live.number ∷ []
numbers-opened [] live = refl
numbers-opened (first ∷ table) live = ap (λ (ns : List ℕ). first.number ∷ ns) (numbers-opened table live)

pub length-numbers : (table : List LiveChannel) → length (live_numbers table) ≡ length table
length-numbers [] = refl
length-numbers (first ∷ table) = let h = length-numbers table in omega (arith, h)

without-none : (channel : ℕ) (ns : List ℕ) → is_live channel ns ≡ false → without channel ns ≡ ns
without-none channel [] none = refl
without-none channel (n ∷ ns) none =
    let tests = or_false (n == channel) (is_live channel ns) none in
    ap (λ (b : Bool). if b then without channel ns else n ∷ without channel ns) tests.0 ∙ ap (λ (l : List ℕ). n ∷ l) (without-none channel ns tests.1)

is_live-without : (n channel : ℕ) (ns : List ℕ) → is_live n ns ≡ false → is_live n (without channel ns) ≡ false
is_live-without n channel [] none = refl
is_live-without n channel (m ∷ ns) none =
    let tests = or_false (m == n) (is_live n ns) none in cases (m == channel) tests.0 (is_live-without n channel ns tests.1)
  where
    cases : (b : Bool) → (m == n) ≡ false → is_live n (without channel ns) ≡ false → is_live n (if b then without channel ns else m ∷ without channel ns) ≡ false
    cases true first later = later
    cases false first later = both_false (m == n) (is_live n (without channel ns)) first later

pub apart-without : (most channel : ℕ) (ns : List ℕ) → AreApart most ns → AreApart most (without channel ns)
apart-without most channel [] apart = tt
apart-without most channel (n ∷ ns) apart = cases (n == channel) (apart-without most channel ns apart.2)
  where
    cases : (b : Bool) → AreApart most (without channel ns) → AreApart most (if b then without channel ns else n ∷ without channel ns)
    cases true later = later
    cases false later = (apart.0, is_live-without n channel ns apart.1, later)

is_live-opened : (n m : ℕ) (ns : List ℕ) → is_live n ns ≡ false → n < m → is_live n (ns ++ m ∷ []) ≡ false
is_live-opened n m [] none lt = both_false (m == n) false (ne_eqb m n (λ e. omega (arith, e, lt))) refl
is_live-opened n m (k ∷ ns) none lt =
    let tests = or_false (k == n) (is_live n ns) none in
    both_false (k == n) (is_live n (ns ++ m ∷ [])) tests.0 (is_live-opened n m ns tests.1 lt)

-- a further number above all of them
below_all : (most : ℕ) (ns : List ℕ) → AreApart most ns → is_live most ns ≡ false
below_all most [] apart = refl
below_all most (n ∷ ns) apart = let lt = apart.0 in both_false (n == most) (is_live most ns) (ne_eqb n most (λ e. omega (arith, e, lt))) (below_all most ns apart.2)

apart-opened : (most : ℕ) (ns : List ℕ) → AreApart most ns → AreApart (most + 1) (ns ++ most ∷ [])
apart-opened most [] apart = (omega arith, refl, tt)
apart-opened most (n ∷ ns) apart = let lt = apart.0 in (omega (arith, lt), is_live-opened n most ns apart.1 apart.0, apart-opened most ns apart.2)

-- the table without the channel at this place
numbers-removed : (most channel place : ℕ) (table : List LiveChannel) (found : LiveChannel) → AreApart most (live_numbers table) → slice_get table place ≡ Some found → found.number ≡ channel → live_numbers (remove table place) ≡ without channel (live_numbers table)
numbers-removed most channel place [] found apart at number = cc
numbers-removed most channel zero (live ∷ table) found apart at number =
    let is : live.number ≡ channel = ap (λ (l : LiveChannel). l.number) (same_live live found at) ∙ number in
    let ns = live_numbers table in
    let gone : is_live channel ns ≡ false = subst (λ (c : ℕ). is_live c ns ≡ false) is apart.1 in
    sym (ap (λ (b : Bool). if b then without channel ns else live.number ∷ without channel ns) (eq-eqb live.number channel is) ∙ without-none channel ns gone)
numbers-removed most channel (suc place) (live ∷ table) found apart at number =
    let ns = live_numbers table in
    let differs : (live.number == channel) ≡ false = ne_eqb live.number channel (λ e. no_both (is_live live.number ns) (live_at table live.number place found at (number ∙ sym e)) apart.1) in
    ap (λ (l : List ℕ). live.number ∷ l) (numbers-removed most channel place table found apart.2 at number)
    ∙ sym (ap (λ (b : Bool). if b then without channel ns else live.number ∷ without channel ns) differs)

-- ---- readers

arrivals-nil : (shift : ℕ) → arrivals shift [] ≡ []
unfolding arrivals blocks_from
arrivals-nil shift = refl

-- a reader before its first byte
reads_new : (shift : ℕ) (reader : Reader) → reader.taken ≡ 0 → ¬ IsDone reader → ((later : List ℕ) → to_come reader later ≡ arrivals shift later) → ReadsStream shift [] reader
reads_new shift reader none undone comes = record {
  carried = λ later. sym (comes later) ∙ ap (λ (l : List Arrival). l ++ to_come reader later) (sym (arrivals-nil shift));
  taken = λ _. none;
  most = omega (arith, none);
  ended = (λ done. absurd (undone done), λ some. let e = ap eods (arrivals-nil shift) in absurd (omega (arith, some, e)));
  sound = subst HasNoBad (sym (arrivals-nil shift)) tt;
}

each-opened : (shift channel : ℕ) (inputs : List LaneInput) (table : List LiveChannel) (live : LiveChannel) → EachReads shift inputs table → ReadsStream shift (stream live.number inputs) live.reader → EachReads shift (Opened channel ∷ inputs) (table ++ live ∷ [])
each-opened shift channel inputs [] live each one = (one, tt)
each-opened shift channel inputs (first ∷ table) live each one = (each.0, each-opened shift channel inputs table live each.1 one)

each-ended : (shift channel : ℕ) (inputs : List LaneInput) (table : List LiveChannel) → EachReads shift inputs table → EachReads shift (Ended channel ∷ inputs) table
each-ended shift channel inputs [] each = tt
each-ended shift channel inputs (first ∷ table) each = (each.0, each-ended shift channel inputs table each.1)

each-silent : (shift : ℕ) (inputs : List LaneInput) (table : List LiveChannel) → EachReads shift inputs table → EachReads shift (Silence ∷ inputs) table
each-silent shift inputs [] each = tt
each-silent shift inputs (first ∷ table) each = (each.0, each-silent shift inputs table each.1)

each-removed : (shift place : ℕ) (inputs : List LaneInput) (table : List LiveChannel) → EachReads shift inputs table → EachReads shift inputs (remove table place)
each-removed shift zero inputs [] each = tt
each-removed shift (suc place) inputs [] each = tt
each-removed shift zero inputs (first ∷ table) each = each.1
each-removed shift (suc place) inputs (first ∷ table) each = (each.0, each-removed shift place inputs table each.1)

pub each-at : (shift : ℕ) (inputs : List LaneInput) (table : List LiveChannel) (place : ℕ) (live : LiveChannel) → EachReads shift inputs table → slice_get table place ≡ Some live → ReadsStream shift (stream live.number inputs) live.reader
each-at shift inputs [] place live each at = cc
each-at shift inputs (first ∷ table) zero live each at = subst (λ (l : LiveChannel). ReadsStream shift (stream l.number inputs) l.reader) (same_live first live at) each.0
each-at shift inputs (first ∷ table) (suc place) live each at = each-at shift inputs table place live each.1 at

-- ---- a table behind an input

pub holds-opened : (inputs : List LaneInput) (channel : ℕ) (old new : Channels) → HoldsChannels inputs old → channel ≡ old.opened → PutsIn channel old new → HoldsChannels (Opened channel ∷ inputs) new
holds-opened inputs channel old new h next o =
    let live : LiveChannel = record { number = channel; reader = o.reader } in
    let numbers : live_numbers new.table.items ≡ live_numbers old.table.items ++ channel ∷ [] = ap live_numbers o.table ∙ numbers-opened old.table.items live in
    let fresh : stream channel inputs ≡ [] = h.unopened channel (omega (arith, next)) in
    let one : ReadsStream old.shift (stream channel inputs) o.reader = subst (λ (s : List ℕ). ReadsStream old.shift s o.reader) (sym fresh) (reads_new old.shift o.reader o.untaken o.undone o.to_come) in
    let apart : AreApart (old.opened + 1) (live_numbers old.table.items ++ channel ∷ []) = subst (λ (c : ℕ). AreApart (old.opened + 1) (live_numbers old.table.items ++ c ∷ [])) (sym next) (apart-opened old.opened (live_numbers old.table.items) h.apart) in
    let a = h.limit in
    record {
      limit = omega (arith, a, o.shift);
      live = numbers ∙ ap (λ (l : List ℕ). l ++ channel ∷ []) h.live;
      opened = o.opened ∙ ap (λ (n : ℕ). n + 1) h.opened;
      apart = subst (λ (m : ℕ). AreApart m (live_numbers new.table.items)) (sym o.opened) (subst (AreApart (old.opened + 1)) (sym numbers) apart);
      each = subst (λ (s : ℕ). EachReads s (Opened channel ∷ inputs) new.table.items) (sym o.shift)
          (subst (EachReads old.shift (Opened channel ∷ inputs)) (sym o.table) (each-opened old.shift channel inputs old.table.items live h.each one));
      unopened = λ c le. h.unopened c (let more = o.opened in omega (arith, more, le));
    }

pub holds-closed : (inputs : List LaneInput) (channel : ℕ) (reader : Reader) (old new : Channels) → HoldsChannels inputs old → TakesOut channel reader old new → HoldsChannels (Ended channel ∷ inputs) new
holds-closed inputs channel reader old new h c =
    let live : LiveChannel = record { number = channel; reader = reader } in
    let numbers : live_numbers new.table.items ≡ without channel (live_numbers old.table.items) = ap live_numbers c.table ∙ numbers-removed old.opened channel c.place old.table.items live h.apart c.at refl in
    let a = h.limit in
    record {
      limit = omega (arith, a, c.shift);
      live = numbers ∙ ap (without channel) h.live;
      opened = c.opened ∙ h.opened;
      apart = subst (λ (m : ℕ). AreApart m (live_numbers new.table.items)) (sym c.opened) (subst (AreApart old.opened) (sym numbers) (apart-without old.opened channel (live_numbers old.table.items) h.apart));
      each = subst (λ (s : ℕ). EachReads s (Ended channel ∷ inputs) new.table.items) (sym c.shift)
          (subst (EachReads old.shift (Ended channel ∷ inputs)) (sym c.table) (each-removed old.shift c.place (Ended channel ∷ inputs) old.table.items (each-ended old.shift channel inputs old.table.items h.each)));
      unopened = λ n le. h.unopened n (let same = c.opened in omega (arith, same, le));
    }

pub holds-silent : (inputs : List LaneInput) (channels : Channels) → HoldsChannels inputs channels → HoldsChannels (Silence ∷ inputs) channels
holds-silent inputs channels h = record {
  limit = h.limit;
  live = h.live;
  opened = h.opened;
  apart = h.apart;
  each = each-silent channels.shift inputs channels.table.items h.each;
  unopened = h.unopened;
}
