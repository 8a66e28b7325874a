-- What a block that is spelled out brings.
use Rattle.std.proofs.Common.{◌≡◌, ℕ, ◌+◌, ◌<◌, ◌^◌, false, cond, List, [], ◌∷◌, ◌++◌, length, drop, refl, ap, ◌∙◌, subst, add-zero}
use Rattle.std.proofs.Math.Seq.{drop-append_seam}
use Rattle.gft_eblock.specs.declared.TheConstants.{HEADER_LEN}
use Rattle.gft_eblock.specs.declared.header.Header.{Header}
use Rattle.gft_eblock.specs.Arrival.{Arrival, Eof}
use Rattle.gft_eblock.specs.Header.{is_bad, is_eod, is_eof}
use Rattle.gft_eblock.specs.Spelling.{spelling}
use Rattle.gft_eblock.specs.Arrivals.{data_at, data_then, end_or, good_block, blocks_from}
use Rattle.gft_eblock.proofs.BlockLemmas.{blocks_from-append, data_then-append, data_then-zero}
use Rattle.gft_eblock.proofs.SpellingLemmas.{header_of-spelling}

pub length-spelling : (h : Header) → length (spelling h) ≡ HEADER_LEN
unfolding spelling
length-spelling h = refl

whole_data : (offset count : ℕ) (bytes rest : List ℕ) (next : List Arrival) → length bytes ≡ count → data_then offset count (bytes ++ rest) next ≡ data_at offset bytes ++ next
whole_data offset count bytes rest next len =
    subst (λ n. data_then offset n (bytes ++ rest) next ≡ data_at offset bytes ++ next) (add-zero (length bytes) ∙ len)
    (data_then-append offset 0 bytes rest next ∙ ap (λ tail. data_at offset bytes ++ tail) (data_then-zero (offset + length bytes) rest next))

good_whole : (shift : ℕ) (h : Header) (bytes rest : List ℕ) (next : List Arrival) → length bytes ≡ h.count → good_block shift h (bytes ++ rest) next ≡ cond (is_eof h.flags) (Eof h.offset ∷ []) [] ++ (data_at (shift + h.offset) bytes ++ end_or (is_eod h.flags) next)
unfolding good_block
good_whole shift h bytes rest next len = ap (λ tail. cond (is_eof h.flags) (Eof h.offset ∷ []) [] ++ tail) (whole_data (shift + h.offset) h.count bytes rest (end_or (is_eod h.flags) next) len)

pub block_law : (shift place : ℕ) (h : Header) (bytes rest : List ℕ) → h.count < 2 ^ 64 → h.offset < 2 ^ 64 → length bytes ≡ h.count → is_bad shift h ≡ false → blocks_from shift place (spelling h ++ (bytes ++ rest))
    ≡ cond (is_eof h.flags) (Eof h.offset ∷ []) [] ++ (data_at (shift + h.offset) bytes ++ end_or (is_eod h.flags) (blocks_from shift (place + HEADER_LEN + h.count) rest))
block_law shift place h bytes rest count_fits offset_fits len good =
    let read = header_of-spelling h count_fits offset_fits in
    let behind : drop h.count (bytes ++ rest) ≡ rest = subst (λ n. drop n (bytes ++ rest) ≡ rest) len (drop-append_seam bytes rest) in
    blocks_from-append shift place (spelling h) (bytes ++ rest) (length-spelling h) ∙ rw (read, good, behind) (good_whole shift h bytes rest (blocks_from shift (place + HEADER_LEN + h.count) rest) len)
