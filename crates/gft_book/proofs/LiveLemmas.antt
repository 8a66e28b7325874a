-- What a lock knows stays true.
use Rattle.std.proofs.Common.{◌≡◌, ℕ, ◌+◌, ◌<◌, List, [], ◌++◌, length, Some, None, refl, sym, ap, ◌∙◌, subst, ⊎_elim, inl, inr, arith}
use Rattle.std.specs.Prelude.{Bool, true, false, if◌then◌else◌, Option, Result, IsSome, IfSome, OnErr}
use Rattle.std.proofs.lemmas.List.{append_assoc, append-nil}
use Rattle.std.proofs.lemmas.Option.{none-some}
use Rattle.atomic_table.specs.Seated.{TableId}
use Rattle.gft_range.specs.declared.Range.{Range}
use Rattle.gft_range.specs.Words.{HasOffset}
use Rattle.gft_base.specs.Words.{Rose}
use Rattle.gft_drive.specs.Words.{DriveState, Image, Sent, total_of}
use Rattle.gft_herald.specs.Words.{LineId, Pushed, SamePushed}
use Rattle.gft_eod.specs.Words.{eod_refusal, eof_refusal}
use Rattle.gft_keep.specs.declared.KeepError.{KeepError}
use Rattle.gft_keep.specs.declared.Standing.TheVariants.{Whole}
use Rattle.gft_keep.specs.Words.{IsKeep, KeepState, keep_of}
use Rattle.gft_pass.specs.declared.Cause.{Cause}
use Rattle.gft_pass.specs.declared.Cause.TheVariants.{DriveFailed}
use Rattle.gft_pass.specs.Words.{AllPasses, Lane, cause_of_count}
use Rattle.gft_book.specs.declared.cause.Stop.{Stop}
use Rattle.gft_book.specs.declared.mark.Mark.{Mark}
use Rattle.gft_book.specs.declared.transfer.Transfer.{Transfer}
use Rattle.gft_book.specs.declared.transfer.Stage.{Stage}
use Rattle.gft_book.specs.declared.transfer.Stage.TheVariants.{Rest, Reading, Storing}
use Rattle.gft_book.specs.Book.{BookState, InTransfer, IsLanePass, IsPass, IsRunning, IsStoring, Moving, Seen, book_of, cause_of, left_out, named_by, rest_of, transfer_of}
use Rattle.gft_book.specs.Facts.{IsBook, IsTransfer, standing_after}
use Rattle.gft_book.specs.Keeping.{Keeps, KeepsByte, byte_read}
use Rattle.gft_book.specs.Calls.{CarriesOn, FindsFailed, HasEodLeft, IsNext, IsOfSource, KeepsCause, KeepsFirst, MarksOnly, NotesEnd, RefusesBlock, RefusesEod, RefusesEof, SameTransfer, SendsBlock, SendsEod, SendsTotal, StopsBlock, StopsEod, StopsEof, as_stopped, cause_of_keep}
use Rattle.gft_book.specs.Live.{BlockIn, EodIn, FillsLine, IsLaneOf, IsLive, IsPassOf, IsStarted, KeepsTotal, KeptSince, Learns, LearnsCount, LineStart, MakesMarks, SamePass, Start, TotalIn, start_at, start_now, start_of}
use Rattle.gft_book.proofs.ChoiceLemmas.{if_some, is_there, on_err}
use Rattle.gft_book.proofs.KeepLemmas.{Keeps-same, held_byte}
use Rattle.gft_book.proofs.TransferLemmas.{moved}

-- the transfer in a stage
record There (P : Transfer → Type 0) (stage : Stage) : Type 0 where
  pub t : Transfer
  pub is : stage ≡ Storing t
  pub so : P t

there : (P : Transfer → Type 0) (stage : Stage) → InTransfer P stage → There P stage
there P (Storing t) h = record { t = t; is = refl; so = h }
there P Rest h = absurd h
there P (Reading n) h = absurd h

back : (P : Transfer → Type 0) (stage : Stage) (t : Transfer) → stage ≡ Storing t → P t → InTransfer P stage
back P stage t is h = subst (λ (s : Stage). InTransfer P s) (sym is) h

pub lane_fits : (start : Start) (book : BookState) (pass : Lane) → IsLive start book → IsLaneOf start pass → IsLanePass book.stage pass
lane_fits start book pass live mine =
    let h = there (IsStarted start) book.stage live.transfer in
    back (λ t. (pass.table ≡ t.roster.table) × (pass.lane + 1 < length t.roster.counts)) book.stage h.t h.is
    (mine.0 ∙ sym h.so.table, omega (arith, mine.1, h.so.passes))

pub block_fits : (sent : List ℕ → Option Sent) (start : Start) (book : BookState) (pass : Lane) (offset : ℕ) (bytes : List ℕ) → IsLive start book → BlockIn sent start pass offset bytes → SendsBlock sent book pass offset bytes
block_fits sent start book pass offset bytes live block =
    let h = there (IsStarted start) book.stage live.transfer in
    let rest : rest_of book.stage ≡ left_out start.how = ap rest_of h.is ∙ ap left_out h.so.how in
    subst (λ (l : List ℕ). IfSome (sent l) (λ s. IsOfSource s.source offset bytes × IfSome (rest_of book.stage) (λ r. IsNext (s.orders r) pass offset bytes))) (sym live.kept.label)
    (subst (λ (o : Option (List Range)). IfSome (sent start.label) (λ s. IsOfSource s.source offset bytes × IfSome o (λ r. IsNext (s.orders r) pass offset bytes))) (sym rest) block)

-- what was kept at the start is kept now
byte_now : (start : Start) (keep : KeepState) → IsKeep keep → KeptSince start keep → IsSome start.read → (x v : ℕ) → HasOffset start.ranges x → byte_read start.read x ≡ Some v → KeepsByte keep x v
byte_now start keep sound k told x v has is =
    let read = is_there keep.drive.contents (k.tells told) in
    let now = sound.lawful.read read.0 read.1 in
    let since = sound.lawful.since start.moment keep.drive.moment read.0 k.later (omega arith) now in
    let h = k.held told read.0 since x v has is in
    (k.ranges x has, ap (λ (o : Option Image). byte_read o x) read.1 ∙ held_byte read.0 x v h)

pub KeptSince-keeps : (start : Start) (old new : KeepState) → IsKeep old → KeptSince start old → Keeps old new → KeptSince start new
KeptSince-keeps start old new sound k g =
    record {
      label = g.time.goes.label ∙ k.label;
      tells = λ told. g.time.goes.tells.1 (k.tells told);
      later = let a = k.later in let b = g.time.later in omega (arith, a, b);
      counted = let a = k.counted in let b = g.counted in omega (arith, a, b);
      ranges = λ x c. g.ranges x (k.ranges x c);
      held = λ told image left x v has is. ⊎_elim
          (λ before. k.held told image before x v has is)
          (λ now. g.held (k.tells told) image now x v (byte_now start old sound k told x v has is))
          (g.time.nothing_else start.moment image k.later left);
    }

pub IsLive-carries_on : (start : Start) (old new : BookState) → IsKeep old.keep → IsLive start old → CarriesOn old new → IsLive start new
IsLive-carries_on start old new sound live g =
    let h = there (IsStarted start) old.stage live.transfer in
    let m = moved SameTransfer old.stage new.stage g.transfer in
    let same : m.before ≡ h.t = one_transfer m.before h.t (sym m.was ∙ h.is) in
    let is_this = subst (IsStarted start) (sym same) h.so in
    record {
      transfer = back (IsStarted start) new.stage m.after m.is (record { table = m.so.table ∙ is_this.table; how = m.so.how ∙ is_this.how; passes = m.so.passes ∙ is_this.passes });
      kept = KeptSince-keeps start old.keep new.keep sound live.kept g.keeps;
      failed = λ is. ⊎_elim
          (λ before. let a = live.failed before in let b = g.keeps.counted in omega (arith, a, b))
          (λ rose. let a = live.kept.counted in omega (arith, a, rose))
          (g.failed is);
    }
  where
    one_transfer : (a b : Transfer) → Storing a ≡ Storing b → a ≡ b
    one_transfer a b e = cc

-- a Book that goes into its lock while its transfer runs
pub IsLive-start : (book : BookState) (t : Transfer) → book.stage ≡ Storing t → t.cause ≡ None → IsKeep book.keep → (book.keep.standing ≡ Whole) → IsLive (start_now book) book
IsLive-start book t is none sound whole =
    subst (λ (s : Stage). IsLive (start_at book s) book) (sym is)
    record {
      transfer = back (IsStarted (start_of book t)) book.stage t is (record { table = refl; how = refl; passes = refl });
      kept = record {
        label = refl;
        tells = λ told. told;
        later = omega arith;
        counted = omega arith;
        ranges = λ x c. c;
        held = λ told image left x v has is_v. (Keeps-same book.keep sound (inl whole)).held told image left x v (has, is_v);
      };
      failed = λ failed. absurd (none-some DriveFailed (sym (sym failed ∙ (ap cause_of is ∙ none))));
    }

-- a Book whose transfer runs, and a lane's pass of it
pub IsLive-running : (sent : List ℕ → Option Sent) (book : BookState) → IsBook sent book → IsRunning book.stage → IsLive (start_now book) book
IsLive-running sent book facts running =
    let h = there (λ t. t.cause ≡ None) book.stage running in
    let whole = (if_some (transfer_of book.stage) (IsTransfer sent book.keep) h.t (ap transfer_of h.is) facts.transfer).standing in
    IsLive-start book h.t h.is h.so facts.keep (whole ∙ ap standing_after h.so)

pub IsLaneOf-lane : (book : BookState) (pass : Lane) → IsLanePass book.stage pass → IsLaneOf (start_now book) pass
IsLaneOf-lane book pass mine =
    let h = there (λ t. (pass.table ≡ t.roster.table) × (pass.lane + 1 < length t.roster.counts)) book.stage mine in
    subst (λ (start : Start). IsLaneOf start pass) (sym (ap (start_at book) h.is)) h.so

abbrev pub LearnsKeep : Lane → Lane → Type 0
LearnsKeep before after = Learns (λ cause. (error : KeepError) × (cause ≡ cause_of_keep error)) before.count after.count

learns_store : (unchanged : Type 0) (old new : BookState) (before after : Lane) (offset : ℕ) (bytes : List ℕ) → StopsBlock unchanged old new before after offset bytes → LearnsKeep before after
learns_store unchanged old new before after offset bytes stops =
    ⊎_elim
    (λ found. let m = moved (FindsFailed before after) old.stage new.stage found in inl (ap (λ (p : Lane). p.count) m.so.moves.pass))
    (λ (refused : RefusesBlock unchanged old new before after offset bytes). let m = moved (KeepsCause (cause_of_keep refused.error) before after) old.stage new.stage refused.fails in
    inr (cause_of_keep refused.error, (refused.error, refl), ap (λ (p : Lane). p.count) m.so.moves.pass))
    stops

pub learns_err : (unchanged : Type 0) (r : Result ℕ Stop) (old new : BookState) (before after : Lane) (offset : ℕ) (bytes : List ℕ) → OnErr r (StopsBlock unchanged old new before after offset bytes) → OnErr r (LearnsKeep before after)
learns_err unchanged r old new before after offset bytes h = on_err r _ _ (λ s. learns_store unchanged old new before after offset bytes s) h

pub pass_fits : (start : Start) (book : BookState) (pass : Lane) → IsLive start book → IsPassOf start pass → IsPass book.stage pass
pass_fits start book pass live mine =
    let h = there (IsStarted start) book.stage live.transfer in
    back (λ t. (pass.table ≡ t.roster.table) × (pass.lane < length t.roster.counts)) book.stage h.t h.is
    (mine.0 ∙ sym h.so.table, omega (arith, mine.1, h.so.passes))

pub learns_fail : (old new : BookState) (before after : Lane) (c : Cause) → Moving (KeepsFirst c before after) old.stage new.stage → Learns (λ kept. kept ≡ c) before.count after.count
learns_fail old new before after c moving =
    let m = moved (KeepsFirst c before after) old.stage new.stage moving in
    ⊎_elim
    (λ (found : FindsFailed before after m.before m.after). inl (ap (λ (p : Lane). p.count) found.moves.pass))
    (λ (fails : KeepsCause c before after m.before m.after). inr (c, refl, ap (λ (p : Lane). p.count) fails.moves.pass))
    m.so

-- the passes that fitted the Book before its lock fit it after
pub passes_fit : (book now : BookState) (passes : List Lane) → InTransfer (λ t. AllPasses t.roster.table (length t.roster.counts) passes) book.stage → IsLive (start_now book) now → InTransfer (λ t. AllPasses t.roster.table (length t.roster.counts) passes) now.stage
passes_fit book now passes all live =
    let P : Transfer → Type 0 = λ t. AllPasses t.roster.table (length t.roster.counts) passes in
    let b = there P book.stage all in
    let start : start_now book ≡ start_of book b.t = ap (start_at book) b.is in
    let n = there (IsStarted (start_now book)) now.stage live.transfer in
    let table : b.t.roster.table ≡ n.t.roster.table = sym (n.so.table ∙ ap (λ (s : Start). s.table) start) in
    let many : length b.t.roster.counts ≡ length n.t.roster.counts = sym (n.so.passes ∙ ap (λ (s : Start). s.passes) start) in
    back P now.stage n.t n.is (subst (λ (x : TableId). AllPasses x (length n.t.roster.counts) passes) table (subst (λ (x : ℕ). AllPasses b.t.roster.table x passes) many b.so))

pub in_map : (P Q : Transfer → Type 0) (stage : Stage) → ((t : Transfer) → P t → Q t) → InTransfer P stage → InTransfer Q stage
in_map P Q (Storing t) f h = f t h
in_map P Q Rest f h = absurd h
in_map P Q (Reading n) f h = absurd h

-- ---- eof, eod

rest_now : (start : Start) (book : BookState) → IsLive start book → rest_of book.stage ≡ left_out start.how
rest_now start book live =
    let h = there (IsStarted start) book.stage live.transfer in
    ap rest_of h.is ∙ ap left_out h.so.how

pub total_fits : (sent : List ℕ → Option Sent) (start : Start) (book : BookState) (total : ℕ) → IsLive start book → TotalIn sent start total → SendsTotal sent book total
total_fits sent start book total live h =
    subst (λ (l : List ℕ). IfSome (sent l) (λ s. IfSome (rest_of book.stage) (λ r. total ≡ total_of (s.orders r)))) (sym live.kept.label)
    (subst (λ (o : Option (List Range)). IfSome (sent start.label) (λ s. IfSome o (λ r. total ≡ total_of (s.orders r)))) (sym (rest_now start book live)) h.1)

pub eod_fits : (sent : List ℕ → Option Sent) (start : Start) (book : BookState) (pass : Lane) → IsLive start book → EodIn sent start pass → SendsEod sent book pass
eod_fits sent start book pass live h =
    subst (λ (l : List ℕ). IfSome (sent l) (λ s. IfSome (rest_of book.stage) (λ r. HasEodLeft (s.orders r) pass))) (sym live.kept.label)
    (subst (λ (o : Option (List Range)). IfSome (sent start.label) (λ s. IfSome o (λ r. HasEodLeft (s.orders r) pass))) (sym (rest_now start book live)) h)

-- a lock whose Book finds that its transfer has ended, or that it goes on
pub noted_count : (result : Bool) (old new : Stage) (before after : Lane) → (result ≡ true → after ≡ before) → (result ≡ false → Moving (NotesEnd before after) old new) → after.count ≡ (if result then before.count else as_stopped before.count)
noted_count true old new before after same noted = ap (λ (p : Lane). p.count) (same refl)
noted_count false old new before after same noted =
    let m = moved (NotesEnd before after) old new (noted refl) in ap (λ (p : Lane). p.count) m.so.moves.pass

pub noted_pass : (result : Bool) (old new : Stage) (before after : Lane) → (result ≡ true → after ≡ before) → (result ≡ false → Moving (NotesEnd before after) old new) → SamePass before after
noted_pass true old new before after same noted =
    record { table = ap (λ (p : Lane). p.table) (same refl); lane = ap (λ (p : Lane). p.lane) (same refl) }
noted_pass false old new before after same noted =
    let m = moved (NotesEnd before after) old new (noted refl) in
    record { table = ap (λ (p : Lane). p.table) m.so.moves.pass; lane = ap (λ (p : Lane). p.lane) m.so.moves.pass }

pub learns_eof : {A : Type 0} → (r : Result A Stop) (old new : BookState) (before after : Lane) (total : ℕ) → OnErr r (Moving (StopsEof total before after) old.stage new.stage) → OnErr r (LearnsCount (λ count. eof_refusal count total) before.count after.count)
learns_eof r old new before after total h =
    on_err r _ _ (λ (stops : Moving (StopsEof total before after) old.stage new.stage).
    let m = moved (StopsEof total before after) old.stage new.stage stops in
    ⊎_elim
    (λ (found : FindsFailed before after m.before m.after). inl (ap (λ (p : Lane). p.count) found.moves.pass))
    (λ (no_ : RefusesEof total before after m.before m.after). inr (cause_of_count no_.error, record { count = m.before.count; error = no_.error; refused = no_.refused; kept = refl }, ap (λ (p : Lane). p.count) no_.fails.moves.pass))
    m.so) h

pub learns_eod : {A : Type 0} → (r : Result A Stop) (old new : BookState) (before after : Lane) → OnErr r (Moving (StopsEod before after) old.stage new.stage) → OnErr r (LearnsCount eod_refusal before.count after.count)
learns_eod r old new before after h =
    on_err r _ _ (λ (stops : Moving (StopsEod before after) old.stage new.stage).
    let m = moved (StopsEod before after) old.stage new.stage stops in
    ⊎_elim
    (λ (found : FindsFailed before after m.before m.after). inl (ap (λ (p : Lane). p.count) found.moves.pass))
    (λ (no_ : RefusesEod before after m.before m.after). inr (cause_of_count no_.error, record { count = m.before.count; error = no_.error; refused = no_.refused; kept = refl }, ap (λ (p : Lane). p.count) no_.fails.moves.pass))
    m.so) h

-- ---- marks

-- a mark leaves what a lock knows
pub IsLive-marks : {D : Type 0} (state : D → DriveState) (start : Start) (old new : Seen D) → MarksOnly old new → IsLive start (book_of state old) → IsLive start (book_of state new)
IsLive-marks state start old new only live = record {
  transfer = subst (λ (s : Stage). InTransfer (IsStarted start) s) (sym only.stage) live.transfer;
  kept = subst (λ k. KeptSince start (keep_of state k)) (sym only.keep) live.kept;
  failed = λ is. subst (λ k. Rose start.faults (keep_of state k).drive.faults) (sym only.keep) (live.failed (ap cause_of (sym only.stage) ∙ is));
}

pub KeepsTotal-marks : {D : Type 0} (start : Start) (old new : Seen D) → MarksOnly old new → KeepsTotal start old.stage → KeepsTotal start new.stage
KeepsTotal-marks start old new only keeps = subst (λ (s : Stage). KeepsTotal start s) (sym only.stage) keeps

pub FillsLine-same : (start : LineStart) (old new : List Mark) (pusher : Pushed) → new ≡ old → FillsLine start old pusher → FillsLine start new pusher
FillsLine-same start old new pusher same fills = subst (λ (l : List Mark). FillsLine start l pusher) (sym same) fills

pub FillsLine-makes : (start : LineStart) (old new : List Mark) (before after : Pushed) → FillsLine start old before → MakesMarks old new before after → FillsLine start new after
FillsLine-makes start old new before after fills makes = record {
  line = fills.line ∙ ap (λ (l : LineId). Some l) (sym makes.line);
  marks = makes.marks ∙ ap (λ (l : List (List Range)). l ++ makes.made) fills.marks ∙ append_assoc start.marked before.marks makes.made ∙ ap (λ (l : List (List Range)). start.marked ++ l) (sym makes.pushed);
}

pub FillsLine-quiet : (start : LineStart) (marks : List Mark) (before after : Pushed) → SamePushed before after → FillsLine start marks before → FillsLine start marks after
FillsLine-quiet start marks before after same fills = record {
  line = fills.line ∙ ap (λ (l : LineId). Some l) (sym same.0);
  marks = fills.marks ∙ ap (λ (l : List (List Range)). start.marked ++ l) (sym same.1);
}

-- a line into which nothing was pushed
pub FillsLine-new : (marks : List Mark) (pusher : Pushed) → pusher.marks ≡ [] → FillsLine (record { line = Some pusher.line; marked = named_by marks }) marks pusher
FillsLine-new marks pusher none = record {
  line = refl;
  marks = sym (ap (λ (l : List (List Range)). named_by marks ++ l) none ∙ append-nil (named_by marks));
}

-- a transfer that a lock knows is there
pub IsLive-storing : (start : Start) (book : BookState) → IsLive start book → IsStoring book.stage
IsLive-storing start book live =
    let h = there (IsStarted start) book.stage live.transfer in
    subst (λ (s : Stage). IsStoring s) (sym h.is) refl
