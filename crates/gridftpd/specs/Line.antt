-- The line that `gridftpd drain` prints.
use Rattle.std.specs.Prelude.{ℕ, List, ◌++◌, codes, Option, None, Some}
use Rattle.std.specs.Fmt.{decimal}
use Rattle.gft_eblock.specs.declared.BadBlock.{BadBlock}
use Rattle.gft_eod.specs.declared.EodError.{EodError}
use Rattle.gft_eod.specs.declared.EodError.TheVariants.{BadTotal, TwoTotals, TooManyEods}
use Rattle.gft_range.specs.declared.Range.{Range}
use Rattle.gridftpd.specs.declared.outcome.Outcome.{Outcome}
use Rattle.gridftpd.specs.declared.outcome.Outcome.TheVariants as outcome

abbrev pub number_text : Option ℕ → List ℕ
number_text None = codes "none"
number_text (Some n) = decimal n

abbrev pub range_text : Option Range → List ℕ
range_text None = codes "none"
range_text (Some r) = decimal r.start ++ codes "-" ++ decimal r.end

unfoldable pub usage_text : List ℕ
usage_text = codes "usage: gridftpd drain NAME\n"

unfoldable pub complete_text : List ℕ
complete_text = codes "226 Transfer complete.\n"

unfoldable pub lost_text : ℕ → List ℕ
lost_text taken = codes "426 Channel lost: lane 0, channel 0, " ++ decimal taken ++ codes " bytes taken.\n"

unfoldable pub hole_text : Option ℕ → ℕ → Option Range → List ℕ
hole_text total eods missing =
    codes "426 Hole: total " ++ (number_text total ++ (codes ", EODs " ++ (decimal eods
    ++ (codes ", first missing " ++ (range_text missing ++ codes ".\n")))))

unfoldable pub bad_block_text : BadBlock → List ℕ
bad_block_text bad =
    codes "426 Bad block at " ++ (decimal bad.place ++ (codes ": flags " ++ (decimal bad.flags
    ++ (codes ", count " ++ (decimal bad.count
    ++ (codes ", offset " ++ (decimal bad.offset ++ codes ".\n")))))))

unfoldable pub count_refused_text : EodError → List ℕ
count_refused_text (BadTotal total) = codes "426 Bad total: " ++ (decimal total ++ codes ".\n")
count_refused_text (TwoTotals kept other) =
    codes "426 Two totals: " ++ (decimal kept ++ (codes " and " ++ (decimal other ++ codes ".\n")))
count_refused_text (TooManyEods total) = codes "426 Too many EODs: total " ++ (decimal total ++ codes ".\n")

unfoldable pub too_long_text : List ℕ
too_long_text = codes "426 Stream too long: lane 0.\n"

unfoldable pub ranges_full_text : ℕ → List ℕ
ranges_full_text kept = codes "452 Too many ranges: " ++ (decimal kept ++ codes ".\n")

unfoldable pub read_failed_text : List ℕ
read_failed_text = codes "451 Read failed.\n"

unfoldable pub drive_failed_text : List ℕ
drive_failed_text = codes "451 Drive failed.\n"

unfoldable pub damaged_text : List ℕ
damaged_text = codes "451 Journal damaged.\n"

unfoldable pub out_of_memory_text : List ℕ
out_of_memory_text = codes "455 Out of memory.\n"

abbrev pub text_of : Outcome → List ℕ
text_of outcome.Complete = complete_text
text_of (outcome.Lost taken) = lost_text taken
text_of (outcome.Hole total eods missing) = hole_text total eods missing
text_of (outcome.BadBlock bad) = bad_block_text bad
text_of (outcome.CountRefused error) = count_refused_text error
text_of outcome.TooLong = too_long_text
text_of (outcome.RangesFull kept) = ranges_full_text kept
text_of outcome.Damaged = damaged_text
text_of outcome.ReadFailed = read_failed_text
text_of outcome.DriveFailed = drive_failed_text
text_of outcome.OutOfMemory = out_of_memory_text
