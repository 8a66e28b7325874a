-- A good input is refused by no line but that of full ranges.
use Rattle.std.proofs.Common.{◌≡◌, ℕ, ◌<◌, List, [], ◌∷◌, ◌++◌, append_assoc, append-nil, length, take, Option, Some, None, IsSome, refl, sym, ap, ◌∙◌, subst, arith, inl, inr}
use Rattle.std.proofs.lemmas.List.{take-append-le}
use Rattle.gft_eblock.specs.Words.{Arrival, Refusal, At, Eof, Eod, Bad, eods, arrivals, data_at, IsUnfinished, HasEnded}
use Rattle.gft_range.specs.declared.Range.{Range}
use Rattle.gft_drive.specs.declared.TheConstants.{MAX_RANGES}
use Rattle.gft_eblock.specs.declared.TheConstants.{MAX_BYTES}
use Rattle.gft_eblock.proofs.Lemmas.{arrivals-ended, arrivals-grow, eods-append, unfinished_not_ended}
use Rattle.gft_eod.specs.declared.EodError.{EodError}
use Rattle.gridftpd.proofs.CountLemmas.{done_is_counted}
use Rattle.gridftpd.specs.declared.outcome.Outcome.{Outcome}
use Rattle.gridftpd.specs.declared.outcome.Outcome.TheVariants as outcome
use Rattle.gridftpd.specs.Cause.{told_by, EndsNothing, IsCause, IsLost, HasHole, IsFirstMissing, IsMiscounted, NeedsMoreRanges, EndsBad}
use Rattle.std.specs.Io.KnownBytes.{Appends}
use Rattle.gridftpd.specs.Line.{text_of}
use Rattle.gridftpd.specs.Drain.{FillsRanges, IsTaken, IsGoodInput, IsRefusal}
use Rattle.gridftpd.proofs.DoneLemmas.{SaysDone, says_done}
use Rattle.gridftpd.proofs.EndLemmas.{no_arrivals}
use Rattle.gridftpd.proofs.OriginLemmas.{HasEnded-eods}

eods-unfinished : (list : List Arrival) → IsUnfinished list → eods list ≡ 0
eods-unfinished [] none = refl
eods-unfinished (At offset value ∷ list) none = eods-unfinished list none
eods-unfinished (Eof total ∷ list) none = eods-unfinished list none
eods-unfinished (Eod ∷ list) none = absurd none
eods-unfinished (Bad refused ∷ list) none = absurd none

HasEnded-bad : (list : List Arrival) (refused : Refusal) → HasEnded (list ++ Bad refused ∷ [])
HasEnded-bad [] refused = tt
HasEnded-bad (At offset value ∷ list) refused = HasEnded-bad list refused
HasEnded-bad (Eof total ∷ list) refused = HasEnded-bad list refused
HasEnded-bad (Eod ∷ list) refused = tt
HasEnded-bad (Bad other ∷ list) refused = tt

module _ (bytes stream rest : List ℕ) (all : bytes ≡ stream ++ rest) (good : IsGoodInput bytes) where
  abbrev end : ℕ
  end = good.done.whole.0

  says : SaysDone (told_by bytes) end
  says = says_done (told_by bytes) good.done

  some_eod : 0 < eods (told_by bytes)
  some_eod = let bounds = says.in_bounds in omega (arith, says.met, bounds.0)

  grown : (more : List Arrival) × (told_by bytes ≡ told_by stream ++ more)
  grown = let more = arrivals-grow 0 stream rest in (more.0, ap (arrivals 0) all ∙ more.1)

  same_told : HasEnded (told_by stream) → told_by bytes ≡ told_by stream
  same_told ended = ap (arrivals 0) all ∙ arrivals-ended 0 stream rest ended

  not_lost : (taken : ℕ) → IsLost stream (Some rest) taken → ⊥
  not_lost taken lost =
      let nothing : rest ≡ [] = lost.at_end in
      let same : told_by bytes ≡ told_by stream = ap (arrivals 0) (all ∙ ap (λ tail. stream ++ tail) nothing ∙ append-nil stream) in
      omega (arith, some_eod, ap eods same, eods-unfinished (told_by stream) lost.unfinished)

  not_missing : (list : List Arrival) (missing : Option Range) → SaysDone list end → IsFirstMissing list missing → IsSome missing → ⊥
  not_missing list None done first there = cc
  not_missing list (Some gap) done first there =
      let full : gap.start < gap.end = first.0 in
      let below = (done.whole gap.end).0 first.3 in
      first.2 gap.start (omega arith, full) ((done.whole gap.start).1 (omega arith))

  not_a_hole : (total : Option ℕ) (number : ℕ) (missing : Option Range) → HasHole stream (Some rest) total number missing → ⊥
  not_a_hole total number missing hole =
      elim hole.ended [
        | inl none ↦
            let same : bytes ≡ [] = all ∙ ap (λ front. front ++ rest) none.0 ∙ none.1 in
            let nothing : told_by bytes ≡ [] = ap (arrivals 0) same ∙ no_arrivals in
            omega (arith, some_eod, ap eods nothing)
        | inr one ↦
            let same = same_told (HasEnded-eods (told_by stream) (omega (arith, one))) in
            let done = subst (λ (list : List Arrival). SaysDone list end) same says in
            elim hole.why [ inl unmet ↦ unmet (hole.announced ∙ done.announced ∙ ap (λ (n : ℕ). Some n) (sym done.met ∙ sym hole.counted)) | inr there ↦ not_missing (told_by stream) missing done hole.first_missing there ]
      ]

  not_bad : (refused : Refusal) → EndsBad stream refused → ⊥
  not_bad refused bad =
      let ended : HasEnded (told_by stream) = subst HasEnded (sym bad.split) (HasEnded-bad bad.earlier refused) in
      let same = same_told ended in
      omega (arith, some_eod, ap eods same, ap eods bad.split, eods-append bad.earlier (Bad refused ∷ []), eods-unfinished bad.earlier bad.unfinished)

  not_miscounted : (error : EodError) → IsMiscounted stream error → ⊥
  not_miscounted error wrong =
      let more = grown in
      done_is_counted (told_by stream) more.0 end wrong.earlier wrong.later wrong.total error (subst (λ (list : List Arrival). SaysDone list end) more.1 says) wrong.split wrong.refused

  not_too_long : ((n : ℕ) → n < length stream → EndsNothing (told_by (take n stream))) → length stream ≡ MAX_BYTES → ⊥
  not_too_long in_time long =
      let n = good.soon.0 in
      let lt : n < length stream = omega (arith, good.soon.1) in
      let same : take n bytes ≡ take n stream = ap (take n) all ∙ take-append-le n stream rest (omega arith) in
      unfinished_not_ended (told_by (take n stream)) (in_time n lt).unfinished (subst (λ (list : List ℕ). HasEnded (told_by list)) same good.soon.2)

  no_refusal : (ending : Outcome) → IsRefusal ending → IsCause ending stream (Some rest) → ((n : ℕ) → n < length stream → EndsNothing (told_by (take n stream))) → NeedsMoreRanges stream × (ending ≡ outcome.RangesFull MAX_RANGES)
  no_refusal outcome.Complete is cause in_time = absurd is
  no_refusal (outcome.Lost taken) is cause in_time = absurd (not_lost taken cause.1)
  no_refusal (outcome.Hole total number missing) is cause in_time = absurd (not_a_hole total number missing cause.1)
  no_refusal (outcome.BadBlock bad) is cause in_time = absurd (not_bad _ cause)
  no_refusal (outcome.CountRefused error) is cause in_time = absurd (not_miscounted error cause)
  no_refusal outcome.TooLong is cause in_time = absurd (not_too_long in_time cause)
  no_refusal (outcome.RangesFull kept) is cause in_time = (cause.1, ap (λ n. outcome.RangesFull n) cause.0)
  no_refusal outcome.Damaged is cause in_time = absurd is
  no_refusal outcome.ReadFailed is cause in_time = absurd is
  no_refusal outcome.DriveFailed is cause in_time = absurd is
  no_refusal outcome.OutOfMemory is cause in_time = absurd is

refused_by_ranges : (bytes stream : List ℕ) (before after : Option (List ℕ)) (ending : Outcome) → before ≡ Some bytes → IsGoodInput bytes → IsTaken before after stream → IsCause ending stream after → IsRefusal ending → NeedsMoreRanges stream × (ending ≡ outcome.RangesFull MAX_RANGES)
refused_by_ranges bytes stream None after ending is good taken cause refused = absurd (cc)
refused_by_ranges bytes stream (Some known) None ending is good taken cause refused = absurd taken.consumed
refused_by_ranges bytes stream (Some known) (Some rest) ending is good taken cause refused = no_refusal bytes stream rest (let same : known ≡ bytes = cc in sym same ∙ taken.consumed) good ending refused cause taken.in_time

-- the one refusal of a good input
pub fills_ranges : (bytes stream : List ℕ) (before after written put : Option (List ℕ)) (ending : Outcome) → before ≡ Some bytes → IsGoodInput bytes → IsTaken before after stream → IsCause ending stream after → IsRefusal ending → Appends written put (text_of ending) → FillsRanges before after written put
fills_ranges bytes stream before after written put ending is good taken cause refused line =
    let full = refused_by_ranges bytes stream before after ending is good taken cause refused in
    record { stream = stream; taken = taken; cause = full.0; line = subst (λ (answer : Outcome). Appends written put (text_of answer)) full.1 line }
