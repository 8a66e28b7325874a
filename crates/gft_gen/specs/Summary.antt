-- The seven lines that tell of a generated transfer.
use Rattle.std.specs.Prelude.{ℕ, Bool, true, false, List, ◌++◌, codes}
use Rattle.std.specs.Fmt.{decimal}
use Rattle.gft_generated.specs.declared.Generated.{Generated}
use Rattle.gft_gen.specs.declared.summary.Answers.{Answers}

abbrev pub word_of : Bool → List ℕ
word_of true = codes "yes"
word_of false = codes "no"

unfoldable pub file_text : Generated → List ℕ
file_text file = codes "seed " ++ (decimal file.seed ++ (codes "\nsize " ++ (decimal file.size ++ codes "\n")))

unfoldable pub codes_text : Answers → List ℕ
codes_text answers =
    codes "answers " ++ (decimal answers.first ++ (codes " " ++ (decimal answers.second ++ (codes " "
    ++ (decimal answers.third ++ codes "\n")))))

unfoldable pub equal_text : Bool → List ℕ
equal_text is_equal = codes "equal " ++ (word_of is_equal ++ codes "\n")

unfoldable pub shape_text : List ℕ
shape_text = codes "stripes 4\nchannels 16\nattempts 3\n"

abbrev pub summary_text : Generated → Answers → List ℕ
summary_text file answers =
    file_text file ++ (shape_text ++ (codes_text answers ++ equal_text answers.is_equal))
