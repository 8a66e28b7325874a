-- The 111 lines of a transfer, among its replies.
use Rattle.std.proofs.Common.{◌≡◌, ◌<◌, ◌⊎◌, ℕ, Bool, true, false, if◌then◌else◌, List, [], ◌∷◌, ◌++◌, length, map, take, Option, None, Some, Result, Ok, Err, IsOk, OnOk, refl, sym, ap, ◌∙◌, subst, inl, inr, append_assoc, append-nil, arith}
use Rattle.std.specs.Prelude.{IfOk, IsSome, IsTrue, nat_eq}
use Rattle.std.specs.Io.KnownBytes.{Appends}
use Rattle.std.proofs.lemmas.Option.{same_Some}
use Rattle.std.proofs.lemmas.Bool.{ne_eqb}
use Rattle.gft_base.specs.Words.{Rose}
use Rattle.gft_drive.specs.Words.{IsPartOf, Sent}
use Rattle.gft_keep.specs.Words.{KeepState}
use Rattle.gft_range.specs.declared.range.Range.{Range}
use Rattle.gft_range.specs.declared.TheConstants.{MAX_ITEMS}
use Rattle.gft_reply.specs.declared.reply.Reply.{Reply}
use Rattle.gft_reply.specs.Words.{reply_text}
use Rattle.gft_pass.specs.declared.cause.Cause.{Cause}
use Rattle.gft_pass.specs.declared.cause.Cause.TheVariants as causes
use Rattle.gft_pass.specs.Words.{Lane}
use Rattle.gft_outside.specs.Words.{LaneState}
use Rattle.gft_book.specs.declared.usage.How.{How}
use Rattle.gft_book.specs.Words.{BeginsStore, BookState, EqualsSource, SettledFile, left_out, rest_of, start_at, start_now}
use Rattle.gft_receive.specs.declared.limits.Limits.{Limits}
use Rattle.gft_book.specs.declared.Mark.{Mark}
use Rattle.gft_receive.specs.Words.{HasTold, PutsPart, Receives, TellsWhole, line_of, lines_of, marker_of, whole_ranges}
use Rattle.gft_receive.proofs.Lemmas.{begun_how}
use Rattle.gft_session.specs.declared.session_end.Stopped.{Stopped}
use Rattle.gft_session.specs.declared.session_end.Stopped.TheVariants as stops
use Rattle.gft_session.specs.Receiving.{NamesSource, marks_due}
use Rattle.gft_session.specs.Brought.{text_of_all}
use Rattle.gft_session.specs.Steps.{PutsAll}

-- the bytes of the lines
pub text_of_marks : (marks : List (List Range)) → text_of_all (map marker_of marks) ≡ lines_of marks
text_of_marks [] = refl
text_of_marks (ranges ∷ marks) = ap (λ xs. line_of ranges ++ xs) (text_of_marks marks)

-- a part of the next one's line, behind those that were told
part_of_next : (told : List (List Range)) (next : List Range) (others : List (List Range)) (rest : List Reply) (part : List ℕ) → IsPartOf part (line_of next) →
    IsPartOf (lines_of told ++ part) (text_of_all (map marker_of (told ++ next ∷ others) ++ rest))
part_of_next [] next others rest part is =
    (is.0 ++ text_of_all (map marker_of others ++ rest), ap (λ xs. xs ++ text_of_all (map marker_of others ++ rest)) is.1 ∙ append_assoc part is.0 (text_of_all (map marker_of others ++ rest)))
part_of_next (ranges ∷ told) next others rest part is =
    let behind = part_of_next told next others rest part is in
    (behind.0, ap (λ xs. line_of ranges ++ xs) behind.1 ∙ sym (append_assoc (line_of ranges) (lines_of told ++ part) behind.0) ∙ ap (λ xs. xs ++ behind.0) (sym (append_assoc (line_of ranges) (lines_of told) part)))

-- a put failed among the lines
pub puts_part : {W : Type 0} (T : Type 0) (written : W → Option (List ℕ)) (is_open : W → Type 0) (faults : W → ℕ) (old new : W) (told left : List (List Range)) (rest : List Reply) →
    PutsPart written is_open faults old new told left → PutsAll {T = T} (Err stops.OutFault) (written old) (written new) (map marker_of (told ++ left) ++ rest)
puts_part T written is_open faults old new told left rest puts = record {
  part = lines_of told ++ puts.part;
  put = puts.put;
  is_part = rw puts.is_next (part_of_next told puts.next puts.others rest puts.part puts.is_part);
  whole = λ ok. absurd (cc ok);
  before = λ refused. absurd refused;
}

-- ---- what a transfer told

module _ {W : Type 0} (written : W → Option (List ℕ)) (is_open : W → Type 0) (faults : W → ℕ) (old new : W) (sent : Option Sent) (keep : KeepState) (before after : List Mark) (end : Result SettledFile Cause) (many : ℕ) where
  -- all lines that are due were put
  pub marks_put : (put_failed : Bool) (h : HasTold written is_open faults old new sent keep before after end many put_failed) → put_failed ≡ false → Appends (written old) (written new) (text_of_all (map marker_of (marks_due put_failed h.told h.left)))
  marks_put true h none = absurd (cc none)
  marks_put false h none = subst (λ xs. Appends (written old) (written new) xs) (sym (text_of_marks h.told)) h.puts.put

  pub marks_open : (put_failed : Bool) → HasTold written is_open faults old new sent keep before after end many put_failed → put_failed ≡ false → is_open new
  marks_open true h none = absurd (cc none)
  marks_open false h none = h.puts.still_open

  pub marks_same : (put_failed : Bool) → HasTold written is_open faults old new sent keep before after end many put_failed → put_failed ≡ false → faults new ≡ faults old
  marks_same true h none = absurd (cc none)
  marks_same false h none = h.puts.no_fault

  pub marks_rose : (put_failed : Bool) → HasTold written is_open faults old new sent keep before after end many put_failed → put_failed ≡ true → Rose (faults old) (faults new)
  marks_rose true h one = h.puts.fault
  marks_rose false h one = absurd (cc one)

  -- a put of one failed
  pub marks_part : (T : Type 0) (rest : List Reply) (put_failed : Bool) (h : HasTold written is_open faults old new sent keep before after end many put_failed) → put_failed ≡ true → PutsAll {T = T} (Err stops.OutFault) (written old) (written new) (map marker_of (marks_due put_failed h.told h.left) ++ rest)
  marks_part T rest true h one = puts_part T written is_open faults old new h.told h.left rest h.puts
  marks_part T rest false h one = absurd (cc one)

  -- a transfer that ended well put all
  pub none_failed : (put_failed : Bool) (file : SettledFile) → HasTold written is_open faults old new sent keep before after end many put_failed → end ≡ Ok file → put_failed ≡ false
  none_failed put_failed file h ok = (rw ok at h.tells.whole).no_failure

-- ---- the last mark of a whole file

whole_of : (len : ℕ) (ranges : List Range) → ranges ≡ whole_ranges len → 0 < len → ranges ≡ record { start = 0; end = len } ∷ []
whole_of len ranges is some = is ∙ by_test (nat_eq len 0) (ne_eqb len 0 (omega arith))
  where
    by_test : (test : Bool) → test ≡ false → ◌≡◌ {A = List Range} (if test then [] else record { start = 0; end = len } ∷ []) (record { start = 0; end = len } ∷ [])
    by_test true is_not = absurd (cc is_not)
    by_test false is_not = refl

pub names_source : {L : Type 0} (state : L → LaneState) (limits : Limits) (sent : Option Sent) (before begun : BookState) (how : How) (many : ℕ) (passes : List Lane) (lanes back : List L) (now : KeepState) (end : Result SettledFile Cause) (put_failed : Bool) (told left : List (List Range)) →
    BeginsStore before begun how many passes → Receives state limits (start_now begun) lanes back now end put_failed → OnOk end (EqualsSource sent begun now) → OnOk end (TellsWhole now told left put_failed) → IfOk end (NamesSource sent begun.keep.drive told)
names_source state limits sent before begun how many passes lanes back now (Err why) put_failed told left begins receives equals whole = tt
names_source state limits None before begun how many passes lanes back now (Ok file) put_failed told left begins receives equals whole = tt
names_source state limits (Some s) before begun how many passes lanes back now (Ok file) put_failed told left begins (inr memory) equals whole = absurd (cc memory.0)
names_source state limits (Some s) before begun how many passes lanes back now (Ok file) put_failed told left begins (inl run) equals whole = λ is_whole tells_contents some.
    let of_stor : IsSome (left_out (start_now begun).how) = run.ends.is_whole.0 is_whole in
    let of_stage : IsSome (rest_of begun.stage) = rw (begins.stage, begins.how) (rw (begun_how before begun how many passes begins) at of_stor) in
    let reads = equals of_stage tells_contents in
    let len : file.len ≡ length s.source = same_Some _ _ (sym (run.ends.complete of_stor).0 ∙ reads.complete) in
    let ranges = whole_of file.len now.ranges (run.ends.ranges of_stor) (omega (arith, len, some)) in
    let last = whole.last (omega (arith, ap length ranges)) in
    (last.0, last.1 ∙ ap (λ r. last.0 ++ take MAX_ITEMS r ∷ []) ranges ∙ ap (λ n. last.0 ++ (record { start = 0; end = n } ∷ []) ∷ []) len)

-- a transfer that has just begun is labelled by its drive
pub begun_label : (old new : BookState) (way : How) (lanes : ℕ) (dealt : List Lane) → BeginsStore old new way lanes dealt → (start_now new).label ≡ new.keep.drive.label
begun_label old new way lanes dealt b = ap (λ s. (start_at new s).label) b.stage
