-- What was taken is the front of what was pushed.
use Rattle.std.proofs.Common.{◌≡◌, List, [], ◌∷◌, ◌++◌, map, refl, sym, ap, ◌∙◌}
use Rattle.std.proofs.lemmas.List.{append_assoc}
use Rattle.gft_range.specs.declared.Range.{Range}
use Rattle.gft_range.specs.Words.{KeptRanges}
use Rattle.gft_herald.specs.Line.{ranges_of}

ranges_of-append : (a b : List KeptRanges) → ranges_of (a ++ b) ≡ ranges_of a ++ ranges_of b
ranges_of-append [] b = refl
ranges_of-append (x ∷ a) b = ap (λ (l : List (List Range)). x.ranges ∷ l) (ranges_of-append a b)

pub front_next : (had now known rest sent : List KeptRanges) (x : KeptRanges) → had ++ known ≡ sent → known ≡ x ∷ rest → now ≡ had ++ x ∷ [] → ranges_of sent ≡ ranges_of now ++ ranges_of rest
front_next had now known rest sent x fifo first took =
    ap (λ (l : List KeptRanges). ranges_of l) (sym fifo ∙ ap (λ (l : List KeptRanges). had ++ l) first ∙ sym (append_assoc had (x ∷ []) rest) ∙ ap (λ (l : List KeptRanges). l ++ rest) (sym took))
    ∙ ranges_of-append now rest
