-- A transfer that has just begun is one that lanes may be received for.
use Rattle.std.proofs.Common.{◌≡◌, ℕ, zero, suc, ◌+◌, List, length, replicate, Some, sym, ap, ◌∙◌, subst}
use Rattle.std.specs.Prelude.{slice_get}
use Rattle.gft_pass.specs.declared.Numbers.{Numbers}
use Rattle.gft_pass.specs.Words.{Lane, nothing}
use Rattle.gft_pass.proofs.Lemmas.{AllPasses-length}
use Rattle.gft_book.specs.declared.usage.How.{How}
use Rattle.gft_book.specs.declared.transfer.Stage.{Stage}
use Rattle.gft_book.specs.Words.{BeginsStore, BookState, IsRunning, start_at, start_now}
use Rattle.gft_receive.specs.Transfer.{AreFresh}
use Rattle.gft_receive.proofs.ListLemmas.{at_map, same_some}

pub begun_running : (old new : BookState) (way : How) (lanes : ℕ) (dealt : List Lane) → BeginsStore old new way lanes dealt → IsRunning new.stage
begun_running old new way lanes dealt b = subst (λ (s : Stage). IsRunning s) (sym b.stage) b.cause

same_all : (n k : ℕ) (x y : Numbers) → slice_get (replicate n x) k ≡ Some y → y ≡ x
same_all zero k x y at = cc
same_all (suc n) zero x y at = sym (same_some x y at)
same_all (suc n) (suc k) x y at = same_all n k x y at

pub begun_fresh : (old new : BookState) (way : How) (lanes : ℕ) (dealt : List Lane) → BeginsStore old new way lanes dealt → AreFresh dealt
begun_fresh old new way lanes dealt b k pass at =
    same_all (lanes + 1) k nothing pass.count
    (ap (λ (l : List Numbers). slice_get l k) (sym b.fresh) ∙ at_map (λ (p : Lane). p.count) dealt k pass at)

pub begun_many : (old new : BookState) (way : How) (lanes : ℕ) (dealt : List Lane) → BeginsStore old new way lanes dealt → length dealt ≡ lanes + 1
begun_many old new way lanes dealt b = AllPasses-length b.transfer.roster.table (lanes + 1) dealt b.passes

-- what its lanes are asked for
pub begun_how : (old new : BookState) (way : How) (lanes : ℕ) (dealt : List Lane) → BeginsStore old new way lanes dealt → (start_now new).how ≡ way
begun_how old new way lanes dealt b = ap (λ (s : Stage). (start_at new s).how) b.stage ∙ b.how
