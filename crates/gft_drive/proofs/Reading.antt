-- What a read from memory consumes.
use Rattle.std.proofs.Common.{◌≡◌, ℕ, ◌+◌, ◌≤◌, List, ◌++◌, length, take, drop, sym, ap, ◌∙◌, subst, arith, length-drop}
use Rattle.std.proofs.Math.Seq.{take-append_seam}
use Rattle.std.proofs.lemmas.List.{length-take-le, take-append-drop, drop-drop}

pub read_front : (bytes behind copied : List ℕ) (at count : ℕ) → at + count ≤ length bytes → copied ≡ take count (drop at bytes)
    → drop at bytes ≡ take count (copied ++ behind) ++ drop (at + count) bytes
read_front bytes behind copied at count fits is =
    let len : length copied ≡ count = ap length is ∙ length-take-le count (drop at bytes) (omega (arith, length-drop at bytes)) in
    let front : take count (copied ++ behind) ≡ copied = subst (λ n. take n (copied ++ behind) ≡ copied) len (take-append_seam copied behind) in
    rw (front, is, ← drop-drop count at bytes) (sym (take-append-drop count (drop at bytes)))
