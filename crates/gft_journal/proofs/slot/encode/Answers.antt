use Rattle.std.proofs.Common.{ℕ, [], ◌∷◌, refl, arith, get_or}
use Rattle.gft_drive.specs.Words.{number_at}
use Rattle.gft_journal.proofs.Encoding.{low_six, padded_by}
use Rattle.gft_journal.proofs.slot.encode.Goals as goal

pub returns : goal.returns
unfolding number_at
returns c =
    let start = low_six c.args.start c.to_be_bytes.result (omega (arith, c.requires.start)) c.to_be_bytes.ensures in
    let end = low_six c.args.end c.to_be_bytes-2.result (omega (arith, c.requires.end)) c.to_be_bytes-2.ensures in
    let b : ℕ → ℕ = λ i. get_or c.to_be_bytes.result i 0 in
    let e : ℕ → ℕ = λ i. get_or c.to_be_bytes-2.result i 0 in
    record { size = refl; is = λ i. record { gate = 1; kind = c.args.kind; start = start i; end = end i }; padded = padded_by (1 ∷ c.args.kind ∷ b 2 ∷ b 3 ∷ b 4 ∷ b 5 ∷ b 6 ∷ b 7 ∷ 0 ∷ 0 ∷ e 2 ∷ e 3 ∷ e 4 ∷ e 5 ∷ e 6 ∷ e 7 ∷ []) refl refl }
