-- How many ranges the arrivals have.
use Rattle.std.proofs.Common.{◌≡◌, ℕ, ◌+◌, ◌<◌, ◌≤◌, ◌⊎◌, ◌↔◌, List, [], ◌∷◌, ◌++◌, length, append-nil, refl, sym, ap, ◌∙◌, subst, arith, inl, inr}
use Rattle.std.proofs.lemmas.Bool.{cases_lt}
use Rattle.gft_drive.specs.declared.TheConstants.{MAX_RANGES}
use Rattle.gft_eblock.specs.Words.{Arrival, At, Eof, Eod, Bad, Arrives, totals, data_at}
use Rattle.gft_range.specs.declared.Range.{Range}
use Rattle.gft_range.specs.Words.{InRange, HasOffset, IsNormal}
use Rattle.gft_range.proofs.Lemmas.{normal_few}
use Rattle.gft_keep.specs.Words.{IsFull, block_of}
use Rattle.gridftpd.specs.Cause.{HasRangesAtMost}
use Rattle.gft_outside.specs.Words.{HasNoBad}
use Rattle.gft_outside.specs.Words.{AreAgreed}
use Rattle.gridftpd.specs.Follows.{Books}
use Rattle.gridftpd.proofs.ArrivalLemmas.{Arrives-append, Arrives-data_at, totals-append, totals-data_at}

-- the arrivals with data behind them have one range more at most
few_with : (told : List Arrival) (set : List Range) (offset : ℕ) (bytes : List ℕ) (behind : List Arrival) (ranges : List Range) → Books told set → ((x : ℕ) → ¬ Arrives behind x) → IsNormal ranges → ((x : ℕ) → HasOffset ranges x ↔ Arrives (told ++ (data_at offset bytes ++ behind)) x)
    → ((x : ℕ) → HasOffset ranges x ↔ (HasOffset set x ⊎ InRange (block_of offset bytes) x)) × (length ranges ≤ length set + 1)
few_with told set offset bytes behind ranges books none normal same =
    let joined : (x : ℕ) → HasOffset ranges x ↔ (HasOffset set x ⊎ InRange (block_of offset bytes) x) = λ x.
    let split = Arrives-append told (data_at offset bytes ++ behind) x in
    let more = Arrives-append (data_at offset bytes) behind x in
    let inside = Arrives-data_at offset bytes x in (
      λ had. elim (split.0 ((same x).0 had)) [
        | inl old ↦ inl ((books.offsets x).1 old)
        | inr new ↦ elim (more.0 new) [ inl here ↦ inr (inside.0 here) | inr later ↦ absurd (none x later) ]
      ],
      λ either. elim either [
        | inl old ↦ (same x).1 (split.1 (inl ((books.offsets x).0 old)))
        | inr new ↦ (same x).1 (split.1 (inr (more.1 (inl (inside.1 new)))))
      ],
    ) in
    let le = normal_few ranges (block_of offset bytes ∷ set) normal (λ x. (
      λ had. elim ((joined x).0 had) [ inl old ↦ inr old | inr new ↦ inl new ],
      λ either. elim either [ inl new ↦ (joined x).1 (inr new) | inr old ↦ (joined x).1 (inl old) ],
    )) in
    (joined, omega (arith, le))

no_arrival : (x : ℕ) → ¬ Arrives [] x
no_arrival x came = came

-- a front of a piece of data
pub few_early : (told : List Arrival) (set : List Range) (offset : ℕ) (bytes : List ℕ) → Books told set → HasRangesAtMost (MAX_RANGES + 1) (told ++ data_at offset bytes)
few_early told set offset bytes books ranges normal same =
    let all : data_at offset bytes ++ [] ≡ data_at offset bytes = append-nil (data_at offset bytes) in
    let moved = subst (λ brought. (x : ℕ) → HasOffset ranges x ↔ Arrives (told ++ brought) x) (sym all) same in
    omega (arith, (few_with told set offset bytes [] ranges books no_arrival normal moved).1, books.few)

-- a piece of data beside which the ranges aren't full
pub few_not_full : (told : List Arrival) (set : List Range) (offset : ℕ) (bytes : List ℕ) (behind : List Arrival) → Books told set → ((x : ℕ) → ¬ Arrives behind x) → ¬ IsFull set (block_of offset bytes) → HasRangesAtMost MAX_RANGES (told ++ (data_at offset bytes ++ behind))
few_not_full told set offset bytes behind books none fits ranges normal same =
    let with_it = few_with told set offset bytes behind ranges books none normal same in
    elim (cases_lt MAX_RANGES (length ranges)) [
      | inl over ↦ absurd (fits (record {
        normal = books.normal;
        at_limit = omega (arith, books.few, with_it.1);
        union = ranges;
        is_union = record { normal = normal; offsets = with_it.0 };
        one_more = omega (arith, books.few, with_it.1);
      }))
      | inr le ↦ le
    ]

-- where no data came behind them
pub few_same : (told : List Arrival) (set : List Range) (behind : List Arrival) → Books told set → ((x : ℕ) → ¬ Arrives behind x) → HasRangesAtMost MAX_RANGES (told ++ behind)
few_same told set behind books none ranges normal same =
    let le = normal_few ranges set normal (λ x. let split = Arrives-append told behind x in (
      λ had. elim (split.0 ((same x).0 had)) [ inl old ↦ (books.offsets x).1 old | inr new ↦ absurd (none x new) ],
      λ old. (same x).1 (split.1 (inl ((books.offsets x).0 old))),
    )) in
    omega (arith, le, books.few)

pub few_kept : (told : List Arrival) (set : List Range) → Books told set → HasRangesAtMost MAX_RANGES told
few_kept told set books = subst (HasRangesAtMost MAX_RANGES) (append-nil told) (few_same told set [] books no_arrival)

-- ---- what brings no bad header

pub HasNoBad-append : (a b : List Arrival) → HasNoBad a → HasNoBad b → HasNoBad (a ++ b)
HasNoBad-append [] b sound more = more
HasNoBad-append (At offset value ∷ a) b sound more = HasNoBad-append a b sound more
HasNoBad-append (Eof total ∷ a) b sound more = HasNoBad-append a b sound more
HasNoBad-append (Eod ∷ a) b sound more = HasNoBad-append a b sound more
HasNoBad-append (Bad refusal ∷ a) b sound more = absurd sound

pub HasNoBad-data_at : (offset : ℕ) (bytes : List ℕ) → HasNoBad (data_at offset bytes)
HasNoBad-data_at offset [] = tt
HasNoBad-data_at offset (v ∷ bytes) = HasNoBad-data_at (offset + 1) bytes

-- ---- what brings no total

pub agreed_same : (told behind : List Arrival) → AreAgreed (totals told) → totals behind ≡ [] → AreAgreed (totals (told ++ behind))
agreed_same told behind agreed none =
    subst AreAgreed (sym (totals-append told behind ∙ ap (λ ns. totals told ++ ns) none ∙ append-nil (totals told))) agreed

-- at most an EOD
pub record IsBehind (list : List Arrival) : Type 0 where
  pub totals : totals list ≡ []
  pub no_bad : HasNoBad list
  pub none : (x : ℕ) → ¬ Arrives list x

pub behind_is : (list : List Arrival) → (list ≡ []) ⊎ (list ≡ Eod ∷ []) → IsBehind list
behind_is list (inl is) = subst IsBehind (sym is) (record { totals = refl; no_bad = tt; none = λ x came. came })
behind_is list (inr is) = subst IsBehind (sym is) (record { totals = refl; no_bad = tt; none = λ x came. came })

pub totals-data_behind : (offset : ℕ) (bytes : List ℕ) (behind : List Arrival) → IsBehind behind → totals (data_at offset bytes ++ behind) ≡ []
totals-data_behind offset bytes behind is = totals-append (data_at offset bytes) behind ∙ ap (λ ns. ns ++ totals behind) (totals-data_at offset bytes) ∙ is.totals
