-- What a crash leaves, step by step.
use Rattle.std.proofs.Common.{◌≡◌, ℕ, ◌+◌, ◌<◌, Bool, true, false, cond, List, [], ◌∷◌, length, get_or, take, reverse, sym, ◌∙◌, ap, subst, add-one}
use Rattle.std.proofs.Math.Seq.{take-suc}
use Rattle.std.proofs.lemmas.List.{reverse-append}
use Rattle.gft_drive.specs.Drive.{Image}
use Rattle.gft_drive.specs.Write.{Torn, TornCut}
use Rattle.gft_drive.specs.declared.drive.Part.{Part}
use Rattle.gft_drive.specs.declared.crash.CrashChoice.{CrashChoice}
use Rattle.gft_drive.specs.declared.crash.CrashChoice.TheVariants.{New}
use Rattle.gft_drive.specs.declared.disk.Step.{Step}
use Rattle.gft_drive.specs.declared.disk.Step.TheVariants.{Write, Cut, Sync}
use Rattle.gft_drive.specs.Replay.{is_on, stepped, content_after, LeftAfter, LeftBy, Tears, syncs}

-- the first is what a read gives after the steps, the second what a crash leaves by the choice
pub record IsCrashed (image : Image) (steps : List Step) (part : Part) (choice : CrashChoice) (current left : List ℕ) : Type 0 where
  pub reads : current ≡ content_after image steps part
  pub leaves : LeftAfter image steps part left
  pub newest : choice ≡ New → left ≡ content_after image steps part

pub one_step_more : (log : List Step) (i : ℕ) (s : Step) → i < length log → s ≡ get_or log i s → reverse (take (i + 1) log) ≡ s ∷ reverse (take i log)
one_step_more log i s lt is =
    rw (add-one, take-suc log i s lt, ← is) (reverse-append (take i log) (s ∷ []))

tear : (on : Bool) (T : List ℕ → List ℕ → Type 0) (may : List ℕ → Type 0) (left new : List ℕ) → may left → cond on (T left new) (new ≡ left) → cond on ((from : List ℕ) × may from × T from new) (may new)
tear true T may left new was tears = (left, was, tears)
tear false T may left new was tears = subst may (sym tears) was

not_synced : (on : Bool) (read : List ℕ) (may : List ℕ → Type 0) (left new : List ℕ) → on ≡ false → may left → new ≡ left → cond on (new ≡ read) (may new)
not_synced true read may left new not was same = absurd (cc not)
not_synced false read may left new not was same = subst may (sym same) was

synced : (on : Bool) (read : List ℕ) (may : List ℕ → Type 0) (new : List ℕ) → on ≡ true → new ≡ read → cond on (new ≡ read) (may new)
synced true read may new is same = same
synced false read may new is same = absurd (cc is)

pub left_torn : (s : Step) (part : Part) (read : List ℕ) (may : List ℕ → Type 0) (left new : List ℕ) → syncs s part ≡ false → may left → Tears s part left new → LeftBy s part read may new
left_torn (Write on at bytes is_done) part read may left new not was tears = tear (is_on on part) (Torn at (length bytes.items)) may left new was tears
left_torn (Cut on len) part read may left new not was tears = tear (is_on on part) (TornCut len) may left new was tears
left_torn (Sync on) part read may left new not was tears = not_synced (is_on on part) read may left new not was tears

pub left_synced : (s : Step) (part : Part) (read : List ℕ) (may : List ℕ → Type 0) (new : List ℕ) → syncs s part ≡ true → new ≡ stepped s part read → LeftBy s part read may new
left_synced (Write on at bytes is_done) part read may new is same = absurd (cc is)
left_synced (Cut on len) part read may new is same = absurd (cc is)
left_synced (Sync on) part read may new is same = synced (is_on on part) read may new is same

module _ (image : Image) (older : List Step) (s : Step) (part : Part) (choice : CrashChoice) (current left now new : List ℕ) (was : IsCrashed image older part choice current left) (goes : now ≡ stepped s part current) where
  reads_now : now ≡ content_after image (s ∷ older) part
  reads_now = goes ∙ ap (stepped s part) was.reads

  pub crashed_synced : syncs s part ≡ true → new ≡ now → IsCrashed image (s ∷ older) part choice now new
  crashed_synced is same = record {
    reads = reads_now;
    leaves = left_synced s part (content_after image older part) (LeftAfter image older part) new is (same ∙ reads_now);
    newest = λ choice. same ∙ reads_now;
  }

  pub crashed_torn : syncs s part ≡ false → Tears s part left new → (choice ≡ New → new ≡ stepped s part left) → IsCrashed image (s ∷ older) part choice now new
  crashed_torn not tears newest = record {
    reads = reads_now;
    leaves = left_torn s part (content_after image older part) (LeftAfter image older part) left new not was.leaves tears;
    newest = λ is. newest is ∙ ap (stepped s part) (was.newest is);
  }
