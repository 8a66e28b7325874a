-- A Book's marks.
use Rattle.std.proofs.Common.{Bor, ◌≡◌, ◌⊎◌, ℕ, zero, suc, ◌<◌, ◌≤◌, List, [], ◌∷◌, ◌++◌, length, take, Some, None, refl, sym, ap, ◌∙◌, subst, ⊎_elim, inl, inr, arith}
use Rattle.std.specs.Prelude.{Option, IsSome, IfSome, slice_get}
use Rattle.std.proofs.lemmas.Option.{none-some, same_Some}
use Rattle.gft_range.specs.declared.Range.{Range}
use Rattle.gft_range.specs.declared.TheConstants.{MAX_ITEMS}
use Rattle.gft_range.specs.Words.{HasOffset}
use Rattle.gft_drive.specs.Words.{Sent}
use Rattle.gft_keep.specs.declared.Standing.{Standing}
use Rattle.gft_keep.specs.declared.Standing.TheVariants.{Whole, Emptying, Torn}
use Rattle.gft_keep.specs.Words.{EachImage, IsKeep, KeepState}
use Rattle.gft_herald.specs.Words.{IsNamed}
use Rattle.gft_core.specs.declared.CoreEvent.{CoreEvent}
use Rattle.gft_core.specs.declared.CoreEvent.TheVariants.{Mark}
use Rattle.gft_core.specs.Words.{held, since}
use Rattle.gft_core.proofs.Lemmas.{broken_stays, counts_mark}
use Rattle.gft_book.specs.declared.mark.Mark.{Mark as BookMark}
use Rattle.gft_book.specs.declared.transfer.Transfer.{Transfer}
use Rattle.gft_book.specs.declared.transfer.Stage.{Stage}
use Rattle.gft_book.specs.declared.transfer.Stage.TheVariants.{Rest, Reading, Storing}
use Rattle.gft_book.specs.Book.{BookState, transfer_of}
use Rattle.gft_book.specs.Facts.{ImagesAreFrom, IsBook, IsMark, IsTransfer, MarksHold}
use Rattle.gft_book.specs.Fits.{Fits}
use Rattle.gft_book.specs.Keeping.{KeepsByte}
use Rattle.gft_book.proofs.ChoiceLemmas.{off}
use Rattle.gft_book.proofs.KeepLemmas.{read_kept, torn_held, whole_read}
use Rattle.gft_book.proofs.TransferLemmas.{transfer_is}
use Rattle.gft_book.proofs.StoreLemmas.{never_emptying}
use Rattle.gft_book.proofs.FitLemmas.{Fits-quiet, quiet-mark}

-- every image holds a mark's ranges, as a read gives them
pub mark_held : (keep : KeepState) (marks : List BookMark) (i : ℕ) (mark : BookMark) → IsKeep keep → MarksHold keep marks → slice_get marks i ≡ Some mark
    → EachImage keep (λ image. (x : ℕ) → HasOffset mark.ranges.ranges x → (v : ℕ) × (held image x ≡ Some v) × KeepsByte keep x v)
mark_held keep marks i mark sound h at told image now x c = by_standing keep.standing refl
  where
    covered : HasOffset keep.ranges x
    covered = (h.each i mark at).kept told x c

    by_standing : (s : Standing) → keep.standing ≡ s → (v : ℕ) × (held image x ≡ Some v) × KeepsByte keep x v
    by_standing Whole is =
        let read = whole_read keep is sound told image now in
        let there = read.held x covered in
        (there.0, there.1, read_kept keep image read x there.0 there.1)
    by_standing Torn is = torn_held keep is sound told image now x covered
    by_standing Emptying is = absurd (none-some mark (ap (λ (l : List BookMark). slice_get l i) (sym (h.gone is)) ∙ at))

at_last : (l : List BookMark) (a b : BookMark) (j : ℕ) → slice_get (l ++ a ∷ []) j ≡ Some b → (slice_get l j ≡ Some b) ⊎ ((j ≡ length l) × (a ≡ b))
at_last [] a b zero e = inr (refl, same_Some a b e)
at_last [] a b (suc j) e = absurd (none-some b e)
at_last (x ∷ xs) a b zero e = inl e
at_last (x ∷ xs) a b (suc j) e = ⊎_elim (λ t. inl t) (λ t. inr (let n = t.0 in omega arith, t.1)) (at_last xs a b j e)

take_has : (rs : List Range) (n x : ℕ) → HasOffset (take n rs) x → HasOffset rs x
take_has [] zero x c = c
take_has [] (suc n) x c = c
take_has (r ∷ rs) zero x c = absurd c
take_has (r ∷ rs) (suc n) x c = ⊎_elim (λ here. inl here) (λ later. inr (take_has rs n x later)) c

take_some : (rs : List Range) (n : ℕ) → 0 < length rs → 1 ≤ n → 1 ≤ length (take n rs)
take_some [] n some one = absurd (omega arith)
take_some (r ∷ rs) zero some one = absurd (omega arith)
take_some (r ∷ rs) (suc n) some one = omega arith

take_most : (rs : List Range) (n : ℕ) → length (take n rs) ≤ n
take_most [] zero = omega arith
take_most [] (suc n) = omega arith
take_most (r ∷ rs) zero = omega arith
take_most (r ∷ rs) (suc n) = let rest = take_most rs n in omega (arith, rest)

pub take_named : (rs : List Range) → 0 < length rs → IsNamed (take MAX_ITEMS rs)
take_named rs some = (take_some rs MAX_ITEMS some (omega arith), take_most rs MAX_ITEMS)

-- the transfer of a stage that has one
record HasTransfer (stage : Stage) : Type 0 where
  pub t : Transfer
  pub is : stage ≡ Storing t

has : (stage : Stage) → IsSome (transfer_of stage) → HasTransfer stage
has (Storing t) some = record { t = t; is = refl }
has Rest some = absurd (off some)
has (Reading n) some = absurd (off some)

pub IsBook-mark : (sent : List ℕ → Option Sent) (old new : BookState) (mark : BookMark) → IsBook sent old → IsSome (transfer_of old.stage) → 0 < length old.keep.ranges
    → new.keep ≡ old.keep → new.stage ≡ old.stage → new.marks ≡ old.marks ++ mark ∷ [] → mark.number ≡ length old.marks → mark.ranges.ranges ≡ take MAX_ITEMS old.keep.ranges → IsBook sent new
IsBook-mark sent old new mark b storing some keep stage marks number ranges =
    let h = has old.stage storing in
    let t = transfer_is sent old h.t h.is b in
    let hold : MarksHold old.keep (old.marks ++ mark ∷ []) = record {
      each = λ i m at. ⊎_elim
          (λ was. b.marks.each i m was)
          (λ (new_one : (i ≡ length old.marks) × (mark ≡ m)). subst (IsMark old.keep i) new_one.1
          (record {
            number = number ∙ sym new_one.0;
            some = subst (λ (l : List Range). 1 ≤ length l) (sym ranges) (take_some old.keep.ranges MAX_ITEMS some (omega arith));
            most = subst (λ (l : List Range). length l ≤ MAX_ITEMS) (sym ranges) (take_most old.keep.ranges MAX_ITEMS);
            kept = λ told x c. take_has old.keep.ranges MAX_ITEMS x (subst (λ (l : List Range). HasOffset l x) ranges c);
          }))
          (at_last old.marks mark m i at);
      gone = λ is. absurd (never_emptying h.t.cause old.keep.standing t.standing is);
    } in
    record {
      keep = subst IsKeep (sym keep) b.keep;
      marks = subst (λ (k : KeepState). MarksHold k new.marks) (sym keep) (subst (λ (l : List BookMark). MarksHold old.keep l) (sym marks) hold);
      origin = subst (λ (k : KeepState). ImagesAreFrom sent k) (sym keep) b.origin;
      transfer = subst (λ (s : Stage). IfSome (transfer_of s) (IsTransfer sent new.keep)) (sym stage) (subst (λ (k : KeepState). IfSome (transfer_of old.stage) (IsTransfer sent k)) (sym keep) b.transfer);
      reading = λ n is. b.reading n (sym stage ∙ is);
    }

pub Fits-mark : (old new : BookState) (mark : BookMark) → IsKeep old.keep → IsSome (transfer_of old.stage) → new.keep ≡ old.keep → new.stage ≡ old.stage → new.marks ≡ old.marks ++ mark ∷ [] → mark.ranges.ranges ≡ take MAX_ITEMS old.keep.ranges
    → (events : List CoreEvent) → Fits old events → Fits new (Mark ∷ events)
Fits-mark old new mark sound storing keep stage marks ranges events f =
    let h = has old.stage storing in
    Fits-quiet old new h.t h.t Mark events keep h.is (stage ∙ h.is) (quiet-mark events) (λ o. refl)
    (λ m. (old.marks, (mark, marks, m, record { booked = old.keep.ranges; normal = sound.normal; same = f.booked; front = ranges })))
    (λ runs. record {
      begun = runs.begun;
      counts = λ none. counts_mark (since events) h.t.count (runs.counts none);
      failed = λ some. broken_stays (since events) Mark (runs.failed some);
    })
    f

pub mark_held_in : (keep : KeepState) (marks : List BookMark) (i : ℕ) (o : Option (Bor BookMark)) → IsKeep keep → MarksHold keep marks → IfSome o (λ m. slice_get marks i ≡ Some m.now)
    → IfSome o (λ m. EachImage keep (λ image. (x : ℕ) → HasOffset m.now.ranges.ranges x → (v : ℕ) × (held image x ≡ Some v) × KeepsByte keep x v))
mark_held_in keep marks i None sound h at = tt
mark_held_in keep marks i (Some m) sound h at = mark_held keep marks i m.now sound h at
