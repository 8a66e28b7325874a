-- What `gridftp` prints beside what it was asked for.
use Rattle.std.specs.Prelude.{ℕ, List, codes}

unfoldable pub out_of_memory_text : List ℕ
out_of_memory_text = codes "455 Out of memory.\n"
