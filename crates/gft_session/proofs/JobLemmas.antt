-- Which lines that begin a transfer are refused before the library is asked.
use Rattle.std.proofs.Common.{◌≡◌, ℕ, Bool, true, false, not, ◌&&◌, ◌==◌, ◌⊎◌, if◌then◌else◌, List, length, Option, Some, None, refl, sym, subst, inl, inr}
use Rattle.gft_text.proofs.Lemmas.{names}
use Rattle.gft_text.specs.Words.{IsName, WritesName, without_slash}
use Rattle.gft_range.specs.declared.range.Range.{Range}
use Rattle.gft_reply_kind.specs.declared.ReplyKind.{ReplyKind}
use Rattle.gft_session.specs.Jobs.{is_binary, is_empty, is_name, refusal}
use Rattle.gft_session.specs.Settings.{State}

-- the path writes the name, so it isn't refused
pub writes_one : (path name : List ℕ) → WritesName path name → is_name path ≡ true
writes_one path name writes = rw (names (without_slash path) (subst IsName writes.written writes.legal)) refl

-- no list is kept, or the line is of a whole file
pub no_list : (is_part : Bool) (rest : List Range) (count : ℕ) → count ≡ length rest → (is_part ≡ false) ⊎ (count ≡ 0) → (is_part && not (is_empty rest)) ≡ false
no_list false rest count same either = refl
no_list true rest count same (inl not_part) = absurd (cc not_part)
no_list true rest count same (inr none) = rw (sym same, none) refl

-- up to the last test
pub refusal_at_last : {L : Type 0} (state : State L) (path name : List ℕ) (is_part is_ready : Bool) (last : ReplyKind) → is_binary state.transfer_type state.mode ≡ true → (is_part && not (is_empty state.rest)) ≡ false → WritesName path name →
    refusal state path is_part is_ready last ≡ (if not is_ready then Some last else None)
refusal_at_last state path name is_part is_ready last binary part writes = rw (binary, part, writes_one path name writes) refl
