-- The passes of a transfer, while its calls are made.
use Rattle.std.proofs.Common.{◌≡◌, ℕ, ◌+◌, ◌<◌, List, length, set, Ok, Err, refl, sym, ap, ◌∙◌, subst, ⊎_elim, arith}
use Rattle.std.proofs.lemmas.List.{length-replicate}
use Rattle.std.specs.Prelude.{Result, IfOk, OnErr}
use mathlib.Core.Option.{some}
use lib.ListN.{get_elem?}
use Rattle.atomic_table.specs.Seated.{TableId}
use Rattle.gft_pass.specs.declared.Numbers.{Numbers}
use Rattle.gft_pass.specs.Words.{AllPasses, Lane, nothing}
use Rattle.gft_pass.proofs.Lemmas.{AllPasses-lane, AllPasses-length, AllPasses-set}
use Rattle.gft_book.specs.declared.cause.Stop.{Stop}
use Rattle.gft_book.specs.declared.usage.How.{How}
use Rattle.gft_book.specs.declared.transfer.Stage.{Stage}
use Rattle.gft_book.specs.declared.transfer.Stage.TheVariants.{Rest, Reading, Storing}
use Rattle.gft_book.specs.Book.{BookState, HasAllPasses, IsLanePass, IsStoring, Moving}
use Rattle.gft_book.specs.Begin.{BeginsStore}
use Rattle.gft_book.specs.Calls.{FindsFailed, KeepsCause, RefusesBlock, RunsOn, SameTransfer, StopsBlock, TakesBlock, cause_of_keep, more_bytes}
use Rattle.gft_book.specs.Live.{SamePass}
use Rattle.gft_book.proofs.ChoiceLemmas.{off}
use Rattle.gft_book.proofs.TransferLemmas.{moved}

-- a pass of a transfer shows that there is one
pub IsLanePass-storing : (stage : Stage) (pass : Lane) → IsLanePass stage pass → IsStoring stage
IsLanePass-storing (Storing t) pass h = refl
IsLanePass-storing Rest pass h = absurd h
IsLanePass-storing (Reading n) pass h = absurd h

pub HasAllPasses-storing : (stage : Stage) (passes : List Lane) → HasAllPasses stage passes → IsStoring stage
HasAllPasses-storing (Storing t) passes h = refl
HasAllPasses-storing Rest passes h = absurd h
HasAllPasses-storing (Reading n) passes h = absurd h

pub Moving-refl : (stage : Stage) → IsStoring stage → Moving SameTransfer stage stage
Moving-refl (Storing t) h = record { table = refl; passes = refl; how = refl }
Moving-refl Rest h = absurd (off h)
Moving-refl (Reading n) h = absurd (off h)

-- a call that leaves the transfer and the pass leaves it that transfer's
pub IsLanePass-same : (old new : Stage) (before after : Lane) → Moving SameTransfer old new → SamePass before after → IsLanePass old before → IsLanePass new after
IsLanePass-same (Storing t) (Storing u) before after m p h =
    (p.table ∙ h.0 ∙ sym m.table, omega (arith, h.1, m.passes, p.lane))
IsLanePass-same (Storing t) Rest before after m p h = absurd m
IsLanePass-same (Storing t) (Reading n) before after m p h = absurd m
IsLanePass-same Rest new before after m p h = absurd h
IsLanePass-same (Reading n) new before after m p h = absurd h

-- of all passes, the one at a place that isn't the last is a lane's
pub HasAllPasses-lane : (stage : Stage) (passes : List Lane) (k : ℕ) (p : Lane) → HasAllPasses stage passes → get_elem? passes k ≡ some p → k + 1 < length passes → IsLanePass stage p
HasAllPasses-lane (Storing t) passes k p h at below =
    let l = AllPasses-lane t.roster.table (length t.roster.counts) passes h k p at in
    let n = AllPasses-length t.roster.table (length t.roster.counts) passes h in
    (l.0, omega (arith, l.1, n, below))
HasAllPasses-lane Rest passes k p h at below = absurd h
HasAllPasses-lane (Reading n) passes k p h at below = absurd h

-- they are all passes still when a call was made with one
pub HasAllPasses-set : (old new : Stage) (passes : List Lane) (k : ℕ) (before after : Lane) → Moving SameTransfer old new → SamePass before after → get_elem? passes k ≡ some before → HasAllPasses old passes → HasAllPasses new (set passes k after)
HasAllPasses-set (Storing t) (Storing u) passes k before after m p at h =
    let all = AllPasses-set t.roster.table (length t.roster.counts) passes k before after h at p.table p.lane in
    subst (λ (x : TableId). AllPasses x (length u.roster.counts) (set passes k after)) (sym m.table)
    (subst (λ (n : ℕ). AllPasses t.roster.table n (set passes k after)) (sym m.passes) all)
HasAllPasses-set (Storing t) Rest passes k before after m p at h = absurd m
HasAllPasses-set (Storing t) (Reading n) passes k before after m p at h = absurd m
HasAllPasses-set Rest new passes k before after m p at h = absurd h
HasAllPasses-set (Reading n) new passes k before after m p at h = absurd h

-- a begin deals all passes
pub HasAllPasses-begun : (old new : BookState) (way : How) (lanes : ℕ) (dealt : List Lane) → BeginsStore old new way lanes dealt → HasAllPasses new.stage dealt
HasAllPasses-begun old new way lanes dealt b =
    let many : length b.transfer.roster.counts ≡ lanes + 1 = ap (λ l. length l) b.counts ∙ length-replicate (lanes + 1) nothing in
    subst (λ (s : Stage). HasAllPasses s dealt) (sym b.stage)
    (subst (λ (n : ℕ). AllPasses b.transfer.roster.table n dealt) (sym many) b.passes)

pub HasAllPasses-ok : {A E : Type 0} → (r : Result A E) (items : A → List Lane) (old new : BookState) (way : How) (lanes : ℕ) → IfOk r (λ a. BeginsStore old new way lanes (items a)) → IfOk r (λ a. HasAllPasses new.stage (items a))
HasAllPasses-ok (Ok a) items old new way lanes h = HasAllPasses-begun old new way lanes (items a) h
HasAllPasses-ok (Err e) items old new way lanes h = h

-- ---- a call leaves its pass that lane's

same_pass : (before after : Lane) (n : Numbers) → after ≡ record { table = before.table; lane = before.lane; count = n } → SamePass before after
same_pass before after n is = record { table = ap (λ (p : Lane). p.table) is; lane = ap (λ (p : Lane). p.lane) is }

pub SamePass-store : (r : Result ℕ Stop) (unchanged : Type 0) (old new : BookState) (before after : Lane) (offset : ℕ) (bytes : List ℕ) → IfOk r (TakesBlock old new before after offset bytes) → OnErr r (StopsBlock unchanged old new before after offset bytes) → SamePass before after
SamePass-store (Ok n) unchanged old new before after offset bytes ok err =
    let m = moved (λ t u. RunsOn (more_bytes (length bytes) before.count) t.count before after t u) old.stage new.stage ok.runs in
    same_pass before after _ m.so.moves.pass
SamePass-store (Err s) unchanged old new before after offset bytes ok err =
    ⊎_elim
    (λ found. let m = moved (FindsFailed before after) old.stage new.stage found in same_pass before after _ m.so.moves.pass)
    (λ (refused : RefusesBlock unchanged old new before after offset bytes).
    let m = moved (KeepsCause (cause_of_keep refused.error) before after) old.stage new.stage refused.fails in
    same_pass before after _ m.so.moves.pass)
    err
