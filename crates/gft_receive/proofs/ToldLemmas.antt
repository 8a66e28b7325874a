-- What a transfer has told when it ends.
use Rattle.std.proofs.Common.{◌≡◌, ℕ, suc, ◌^◌, ◌<◌, Bool, false, List, [], ◌∷◌, ◌++◌, length, take, Some, None, Ok, Err, refl, sym, ap, ◌∙◌, subst, arith}
use Rattle.std.specs.Prelude.{IfOk, IfSome, IsSome, OnOk, Option, Result, slice_get}
use Rattle.std.specs.List.{AllByRecursion}
use Rattle.std.proofs.lemmas.List.{append-nil, length-append, length-map}
use Rattle.std.proofs.lemmas.Option.{slice_get_within}
use Rattle.gft_range.specs.declared.Range.{Range}
use Rattle.gft_range.specs.declared.TheConstants.{MAX_ITEMS}
use Rattle.gft_drive.specs.Words.{Sent}
use Rattle.gft_keep.specs.Words.{EachImage, KeepState}
use Rattle.gft_pass.specs.declared.Cause.{Cause}
use Rattle.gft_pass.specs.declared.Cause.TheVariants.{Memory}
use Rattle.gft_pass.specs.declared.Numbers.{Numbers}
use Rattle.gft_book.specs.declared.Mark.{Mark}
use Rattle.gft_book.specs.declared.transfer.Stage.{Stage}
use Rattle.gft_book.specs.declared.transfer.Stage.TheVariants.{Rest, Reading, Storing}
use Rattle.gft_book.specs.Words.{BookState, HasKeptCause, InTransfer, IsBook, IsFrom, SettledFile, SettlesWell, named_by}
use Rattle.gft_book.proofs.Lemmas.{mark_held}
use Rattle.gft_receive.specs.declared.telling.TellError.{TellError}
use Rattle.gft_receive.specs.declared.telling.TellError.TheVariants as error
use Rattle.gft_receive.specs.declared.telling.Told.{Told}
use Rattle.gft_receive.specs.Teller.{HasPut, IsTellersFor, PutsSo, cause_of_tell, is_sink}
use Rattle.gft_receive.specs.Telling.{HasTold, IsHeld, IsTellers, IsTellersCause, LiesBelow, Puts, TellsWhole}
use Rattle.gft_receive.proofs.EachLemmas.{is_there}
use Rattle.gft_receive.proofs.RunLemmas.{no_cause}
use Rattle.gft_receive.proofs.TellingLemmas.{puts_none}

-- ---- what the marks name

abbrev head_of : List (List Range) → List Range
head_of [] = []
head_of (x ∷ l) = x

abbrev tail_of : List (List Range) → List (List Range)
tail_of [] = []
tail_of (x ∷ l) = l

module _ (P : List Range → Type 0) where
  all_named : (marks : List Mark) → ((i : ℕ) (mark : Mark) → slice_get marks i ≡ Some mark → P mark.ranges.ranges) → (front told back : List (List Range)) → named_by marks ≡ front ++ (told ++ back) → AllByRecursion P told
  all_named [] each [] [] back is = tt
  all_named [] each [] (t ∷ told) back is = absurd (let e = ap (λ (l : List (List Range)). length l) is in omega (arith, e))
  all_named [] each (f ∷ front) told back is = absurd (let e = ap (λ (l : List (List Range)). length l) is in omega (arith, e))
  all_named (m ∷ marks) each [] [] back is = tt
  all_named (m ∷ marks) each [] (t ∷ told) back is =
      (subst P (ap head_of is) (each 0 m refl), all_named marks (λ i mark at. each (suc i) mark at) [] told back (ap tail_of is))
  all_named (m ∷ marks) each (f ∷ front) told back is = all_named marks (λ i mark at. each (suc i) mark at) front told back (ap tail_of is)

module _ (sent : List ℕ → Option Sent) (book : BookState) (b : IsBook sent book) where
  held_one : (i : ℕ) (mark : Mark) → slice_get book.marks i ≡ Some mark → IsHeld book.keep mark.ranges.ranges
  held_one i mark at = mark_held book.keep book.marks i mark b.keep b.marks at

  below_one : (s : Sent) → EachImage book.keep (IsFrom s.source) → IsSome book.keep.drive.contents → (i : ℕ) (mark : Mark) → slice_get book.marks i ≡ Some mark → LiesBelow (length s.source) mark.ranges.ranges
  below_one s from told i mark at x has =
      let image = is_there book.keep.drive.contents told in
      let now = b.keep.lawful.read image.0 image.1 in
      let h = held_one i mark at told image.0 now x has in
      slice_get_within s.source x h.0 ((from told image.0 now).named x h.0 h.1)

  module _ (front told back : List (List Range)) (is : named_by book.marks ≡ front ++ (told ++ back)) where
    pub all_held : AllByRecursion (IsHeld book.keep) told
    all_held = all_named (IsHeld book.keep) book.marks held_one front told back is

    below_all : (o : Option Sent) → IfSome o (λ s. EachImage book.keep (IsFrom s.source)) → IfSome o (λ s. IsSome book.keep.drive.contents → AllByRecursion (LiesBelow (length s.source)) told)
    below_all None from = tt
    below_all (Some s) from = λ there. all_named (LiesBelow (length s.source)) book.marks (below_one s from there) front told back is

    pub all_below : (label : List ℕ) → book.keep.drive.label ≡ label → IfSome (sent label) (λ s. IsSome book.keep.drive.contents → AllByRecursion (LiesBelow (length s.source)) told)
    all_below label same = subst (λ (l : List ℕ). IfSome (sent l) (λ s. IsSome book.keep.drive.contents → AllByRecursion (LiesBelow (length s.source)) told)) same (below_all (sent book.keep.drive.label) b.origin)

-- ---- the end

-- where it ends well no error was left
no_error : (stage : Stage) (why : Option TellError) (keep now : KeepState) (file : SettledFile) → (IsSome why → HasKeptCause stage) → InTransfer (SettlesWell keep now file) stage → why ≡ None
no_error stage None keep now file failed well = refl
no_error (Storing t) (Some e) keep now file failed well = absurd (no_cause t.cause well.no_cause (failed refl))
no_error Rest (Some e) keep now file failed well = absurd well
no_error (Reading n) (Some e) keep now file failed well = absurd well

module _ {W : Type 0} (written : W → Option (List ℕ)) (is_open : W → Type 0) (faults : W → ℕ) (first now : W) where
  puts_of : (why : Option TellError) (put_failed : Bool) (told left : List (List Range)) → put_failed ≡ is_sink why → PutsSo written is_open faults first now why told left → Puts written is_open faults first now put_failed told left
  puts_of None put_failed told left is puts = subst (λ (b : Bool). Puts written is_open faults first now b told left) (sym is) puts.1
  puts_of (Some error.Memory) put_failed told left is puts = subst (λ (b : Bool). Puts written is_open faults first now b told left) (sym is) puts
  puts_of (Some error.Sink) put_failed told left is puts = subst (λ (b : Bool). Puts written is_open faults first now b told left) (sym is) puts

  module _ (t : Told) (pushed more : List (List Range)) (h : HasPut written is_open faults first now (pushed ++ more) t) (put_failed : Bool) (is : put_failed ≡ is_sink t.error) where
    tells_whole : (end : Result SettledFile Cause) (stage : Stage) (keep after : KeepState) → (t.error ≡ None → 0 < length keep.ranges → more ≡ take MAX_ITEMS keep.ranges ∷ []) → (IsSome t.error → HasKeptCause stage) → after.ranges ≡ keep.ranges
        → IfOk end (λ file. InTransfer (SettlesWell keep after file) stage) → OnOk end (TellsWhole after h.told h.left put_failed)
    tells_whole (Err cause) stage keep after last failed same well = tt
    tells_whole (Ok file) stage keep after last failed same well =
        let none = no_error stage t.error keep after file failed well in
        let quiet : (h.left ≡ []) × _ = subst (λ (o : Option TellError). PutsSo written is_open faults first now o h.told h.left) none h.puts in
        record {
          no_failure = is ∙ ap is_sink none;
          all = quiet.0;
          last = λ some. (pushed, ends_with none quiet.0 some);
        }
      where
        ends_with : t.error ≡ None → h.left ≡ [] → 0 < length after.ranges → h.told ≡ pushed ++ take MAX_ITEMS after.ranges ∷ []
        ends_with none left some =
            sym (append-nil h.told) ∙ ap (λ (l : List (List Range)). h.told ++ l) (sym left) ∙ sym h.all
            ∙ ap (λ (l : List (List Range)). pushed ++ l) (last none (subst (λ (l : List Range). 0 < length l) same some))
            ∙ ap (λ (l : List Range). pushed ++ take MAX_ITEMS l ∷ []) (sym same)

    pub has_told : (sent : List ℕ → Option Sent) (label : List ℕ) (book : BookState) (before : List Mark) (end : Result SettledFile Cause) (stage : Stage) (keep : KeepState)
        → IsBook sent book → book.keep.drive.label ≡ label → named_by book.marks ≡ named_by before ++ (pushed ++ more) → length book.marks < 2 ^ 64
        → (t.error ≡ None → 0 < length keep.ranges → more ≡ take MAX_ITEMS keep.ranges ∷ []) → (IsSome t.error → HasKeptCause stage) → book.keep.ranges ≡ keep.ranges
        → IfOk end (λ file. InTransfer (SettlesWell keep book.keep file) stage) → HasTold written is_open faults first now (sent label) book.keep before book.marks end t.count put_failed
    has_told sent label book before end stage keep b labelled marks few last failed same well =
        let named : named_by book.marks ≡ named_by before ++ (h.told ++ h.left) = marks ∙ ap (λ (l : List (List Range)). named_by before ++ l) h.all in
        record {
          told = h.told;
          left = h.left;
          count = counted named;
          puts = puts_of t.error put_failed h.told h.left is h.puts;
          tells = record {
            marks = named;
            held = all_held sent book b (named_by before) h.told h.left named;
            below = all_below sent book b (named_by before) h.told h.left named label labelled;
            whole = tells_whole end stage keep book.keep last failed same well;
          };
        }
      where
        counted : named_by book.marks ≡ named_by before ++ (h.told ++ h.left) → length h.told ≡ t.count
        counted named =
            let many = ap (λ (l : List (List Range)). length l) named in
            let all = length-map book.marks (λ (m : Mark). m.ranges.ranges) in
            let had = h.count in
            omega (arith, many, all, few, had, length-append (named_by before) (h.told ++ h.left), length-append h.told h.left)

-- ---- the teller's numbers

tellers_cause : (why : Option TellError) (put_failed : Bool) (o : Option Cause) → put_failed ≡ is_sink why → IfSome o (λ kept. (e : TellError) × (why ≡ Some e) × (kept ≡ cause_of_tell e)) → IfSome o (IsTellersCause put_failed)
tellers_cause why put_failed None is kept = tt
tellers_cause why put_failed (Some cause) is (error.Memory, it, kept) = subst (IsTellersCause put_failed) (sym kept) tt
tellers_cause why put_failed (Some cause) is (error.Sink, it, kept) = subst (IsTellersCause put_failed) (sym kept) (is ∙ ap is_sink it)

pub tellers_of : (why : Option TellError) (put_failed : Bool) (n : Numbers) → put_failed ≡ is_sink why → IsTellersFor why n → IsTellers put_failed n
tellers_of why put_failed n is h = record { bytes = h.bytes; eods = h.eods; total = h.total; cause = tellers_cause why put_failed n.cause is h.cause }

-- ---- a transfer that failed before it ran

none_below : (o : Option Sent) (keep : KeepState) → IfSome o (λ s. IsSome keep.drive.contents → AllByRecursion (LiesBelow (length s.source)) [])
none_below None keep = tt
none_below (Some s) keep = λ told. tt

pub told_none : {W : Type 0} → (written : W → Option (List ℕ)) (is_open : W → Type 0) (faults : W → ℕ) (now : W) (source : Option Sent) (keep : KeepState) (before after : List Mark) (end : Result SettledFile Cause) (many : ℕ) (put_failed : Bool)
    → is_open now → (many ≡ 0) × (put_failed ≡ false) × (after ≡ before) → end ≡ Err Memory → HasTold written is_open faults now now source keep before after end many put_failed
told_none written is_open faults now source keep before after end many put_failed opened is failed = record {
  told = [];
  left = [];
  count = sym is.0;
  puts = subst (λ (b : Bool). Puts written is_open faults now now b [] []) (sym is.1) (puts_none written is_open faults now opened);
  tells = record {
    marks = ap named_by is.2 ∙ sym (append-nil (named_by before));
    held = tt;
    below = none_below source keep;
    whole = subst (λ e. OnOk e (TellsWhole keep [] [] put_failed)) (sym failed) tt;
  };
}
