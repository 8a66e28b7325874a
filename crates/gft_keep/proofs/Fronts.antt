-- How many ranges a set has with the first missing ranges of a block.
use Rattle.std.proofs.Common.{◌≡◌, ◌⊎◌, ◌↔◌, inl, inr, ⊎_elim, ℕ, ◌+◌, ◌-◌, ◌<◌, ◌≤◌, min, max, List, [], ◌∷◌, ◌++◌, length, refl, ap, subst, arith}
use Rattle.std.proofs.lemmas.Bool.{cases_eq, cases_lt}
use Rattle.gft_range.specs.declared.Range.{Range}
use Rattle.gft_range.specs.Words.{BeginsAbove, HasOffset, InRange, IsMissing, IsNormal, IsUnion}
use Rattle.gft_range.proofs.Lemmas.{HasOffset-or, normal_few, union_of}
use Rattle.gft_drive.specs.declared.TheConstants.{MAX_RANGES}
use Rattle.gft_keep.specs.Tearing.{HasFitUnion}

-- an offset of two lists in a row
pub has_either : (a b : List Range) (x : ℕ) → HasOffset (a ++ b) x ↔ (HasOffset a x ⊎ HasOffset b x)
has_either [] b x = (λ has. inr has, λ has. elim has [ inl none ↦ absurd none | inr is ↦ is ])
has_either (r ∷ a) b x =
    let rest = has_either a b x in (
      λ has. elim has [ inl here ↦ inl (inl here) | inr later ↦ elim (rest.0 later) [ inl first ↦ inl (inr first) | inr second ↦ inr second ] ],
      λ has. elim has [ inl first ↦ elim first [ inl here ↦ inl here | inr later ↦ inr (rest.1 (inl later)) ] | inr second ↦ inr (rest.1 (inr second)) ],
    )

-- a list of as many ranges that has the gap's offsets too
record Widened (set : List Range) (gap : Range) : Type 0 where
  list : List Range
  offsets : (x : ℕ) → HasOffset list x ↔ (HasOffset set x ⊎ InRange gap x)
  size : length list ≡ length set

abbrev hull : Range → Range → Range
hull q gap = record { start = min q.start gap.start; end = max q.end gap.end }

in_hull : (q gap : Range) (x : ℕ) → gap.start ≤ q.end → q.start ≤ gap.end → InRange (hull q gap) x ↔ (InRange q x ⊎ InRange gap x)
in_hull q gap x low high = (forth, back)
  where
    forth : InRange (hull q gap) x → InRange q x ⊎ InRange gap x
    forth has =
        let above : min q.start gap.start ≤ x = has.0 in
        let below : x < max q.end gap.end = has.1 in
        elim (cases_lt x q.start) [
          | inl before ↦ inr (omega arith, omega arith)
          | inr from ↦ elim (cases_lt x q.end) [ inl within ↦ inl (from, within) | inr past ↦ inr (omega arith, omega arith) ]
        ]

    back : InRange q x ⊎ InRange gap x → InRange (hull q gap) x
    back (inl has) = let both = has in (omega arith, omega arith)
    back (inr has) = let both = has in (omega arith, omega arith)

widen : (set : List Range) (gap : Range) (y : ℕ) → gap.start ≤ y + 1 → y ≤ gap.end → HasOffset set y → Widened set gap
widen [] gap y low high has = absurd has
widen (q ∷ rest) gap y low high (inl here) = record {
  list = hull q gap ∷ rest;
  offsets = λ x.
      let is = in_hull q gap x (omega (arith, here.0, here.1, low)) (omega (arith, here.0, here.1, high)) in (
        λ has. elim has [ inl both ↦ elim (is.0 both) [ inl in_q ↦ inl (inl in_q) | inr in_gap ↦ inr in_gap ] | inr later ↦ inl (inr later) ],
        λ has. elim has [ inl had ↦ elim had [ inl in_q ↦ inl (is.1 (inl in_q)) | inr later ↦ inr later ] | inr in_gap ↦ inl (is.1 (inr in_gap)) ],
      );
  size = refl;
}
widen (q ∷ rest) gap y low high (inr later) =
    let wide = widen rest gap y low high later in
    record {
      list = q ∷ wide.list;
      offsets = λ x. (
        λ has. elim has [ inl here ↦ inl (inl here) | inr more ↦ elim ((wide.offsets x).0 more) [ inl had ↦ inl (inr had) | inr in_gap ↦ inr in_gap ] ],
        λ has. elim has [ inl had ↦ elim had [ inl here ↦ inl here | inr more ↦ inr ((wide.offsets x).1 (inl more)) ] | inr in_gap ↦ inr ((wide.offsets x).1 (inr in_gap)) ],
      );
      size = omega (arith, wide.size);
    }

-- the gap stands beside an offset of the set
record Touches (set : List Range) (gap : Range) : Type 0 where
  full : gap.start < gap.end
  offset : ℕ
  has : HasOffset set offset
  low : gap.start ≤ offset + 1
  high : offset ≤ gap.end

abbrev AllTouch : List Range → List Range → Type 0
AllTouch set [] = Unit {0}
AllTouch set (g ∷ gs) = Touches set g × AllTouch set gs

above_all : (rs : List Range) (y x : ℕ) → IsNormal rs → BeginsAbove y rs → HasOffset rs x → y < x
above_all [] y x normal above has = absurd has
above_all (r ∷ rs) y x normal above (inl here) = let first : y < r.start = above in omega (arith, first, here.0)
above_all (r ∷ rs) y x normal above (inr later) = let first : y < r.start = above in let last = above_all rs r.end x normal.2 normal.1 later in omega (arith, first, last, normal.0)

-- an offset of the block from this one on that the set lacks
record StillMissing (set : List Range) (block : Range) (low x : ℕ) : Type 0 where
  from : low ≤ x
  inside : InRange block x
  out : ¬ HasOffset set x

-- the parts of the block from this offset on that are missing
record MissingFrom (set : List Range) (block : Range) (low : ℕ) (all : List Range) : Type 0 where
  normal : IsNormal all
  offsets : (x : ℕ) → HasOffset all x ↔ StillMissing set block low x
  before : (low ≡ block.start) ⊎ (HasOffset set low ⊎ (block.end ≤ low))

module _ (set : List Range) (block : Range) where
  -- an offset of the block that isn't missing is in the set
  not_missing : (low : ℕ) (all : List Range) → MissingFrom set block low all → (x : ℕ) → low ≤ x → InRange block x → ¬ HasOffset all x → HasOffset set x
  not_missing low all are x le inside out = elim (HasOffset-or set x) [ inl had ↦ had | inr not ↦ absurd (out ((are.offsets x).1 (record { from = le; inside = inside; out = not }))) ]

  module _ (low : ℕ) (g : Range) (gs : List Range) (are : MissingFrom set block low (g ∷ gs)) where
    full : g.start < g.end
    full = are.normal.0

    first : StillMissing set block low g.start
    first = (are.offsets g.start).0 (inl (omega arith, full))

    end_out : ¬ HasOffset (g ∷ gs) g.end
    end_out has = elim has [ inl here ↦ omega (arith, here.1) | inr later ↦ omega (arith, above_all gs g.end g.end are.normal.2 are.normal.1 later) ]

    -- behind the gap the set goes on, or the block ends
    behind : HasOffset set g.end ⊎ (block.end ≤ g.end)
    behind = elim (cases_lt g.end block.end) [
      | inl inside ↦ inl (not_missing low (g ∷ gs) are g.end (omega (arith, first.from, full)) (omega (arith, first.inside.0, full), inside) end_out)
      | inr past ↦ inr past
    ]

    rest_are : MissingFrom set block g.end gs
    rest_are = record {
      normal = are.normal.2;
      offsets = λ x. (
        λ has. let is = (are.offsets x).0 (inr has) in record { from = omega (arith, above_all gs g.end x are.normal.2 are.normal.1 has); inside = is.inside; out = is.out },
        λ is. elim ((are.offsets x).1 (record { from = omega (arith, is.from, first.from, full); inside = is.inside; out = is.out })) [ inl here ↦ absurd (omega (arith, here.1, is.from)) | inr later ↦ later ],
      );
      before = elim behind [ inl had ↦ inr (inl had) | inr past ↦ inr (inr past) ];
    }

    start_out : (y : ℕ) → y + 1 ≡ g.start → ¬ HasOffset (g ∷ gs) y
    start_out y is has = elim has [ inl here ↦ omega (arith, here.0, is) | inr later ↦ omega (arith, above_all gs g.end y are.normal.2 are.normal.1 later, is, full) ]

    -- the gap is all of the block, or stands beside the set
    borders : ((x : ℕ) → InRange block x → InRange g x) ⊎ Touches set g
    borders = elim behind [
      | inl had ↦ inr (record { full = full; offset = g.end; has = had; low = omega (arith, full); high = omega arith })
      | inr past ↦ elim (cases_lt block.start g.start) [
        | inl above ↦ inr (record { full = full; offset = g.start - 1; has = beside above; low = omega (arith, above); high = omega (arith, full) })
        | inr whole ↦ inl (λ x inside. (omega (arith, inside.0, whole), omega (arith, inside.1, past)))
      ]
    ]
      where
        beside : block.start < g.start → HasOffset set (g.start - 1)
        beside above = elim (cases_lt low g.start) [
          | inl lower ↦ not_missing low (g ∷ gs) are (g.start - 1) (omega (arith, lower)) (omega (arith, above), omega (arith, first.inside.1, above)) (start_out (g.start - 1) (omega (arith, above)))
          | inr at ↦
              let same : low ≡ g.start = omega (arith, at, first.from) in
              elim are.before [
                | inl begin ↦ absurd (omega (arith, begin, same, above))
                | inr other ↦ elim other [
                  | inl had ↦ absurd (first.out (subst (λ (y : ℕ). HasOffset set y) same had))
                  | inr over ↦ absurd (omega (arith, over, same, first.inside.1))
                ]
              ]
        ]

  -- one of the first parts is all of the block, or each stands beside the set
  fronts : (low : ℕ) (front back : List Range) → MissingFrom set block low (front ++ back) → ((x : ℕ) → InRange block x → HasOffset front x) ⊎ AllTouch set front
  fronts low [] back are = inr tt
  fronts low (g ∷ gs) back are = elim (borders low g (gs ++ back) are) [
    | inl whole ↦ inl (λ x inside. inl (whole x inside))
    | inr touches ↦ elim (fronts g.end gs back (rest_are low g (gs ++ back) are)) [
      | inl whole ↦ inl (λ x inside. inr (whole x inside))
      | inr all ↦ inr (touches, all)
    ]
  ]

-- the set with some first parts, as a list of as many ranges and as a normal list
record Grown (set front : List Range) (size : ℕ) : Type 0 where
  list : List Range
  normal : List Range
  is_normal : IsNormal normal
  same : (x : ℕ) → HasOffset normal x ↔ HasOffset list x
  offsets : (x : ℕ) → HasOffset list x ↔ (HasOffset set x ⊎ HasOffset front x)
  as_long : length list ≡ size

-- they grow one after another from a list that has the set's offsets
grow : (set : List Range) (front : List Range) → AllTouch set front → (list normal : List Range) → IsNormal normal → ((x : ℕ) → HasOffset normal x ↔ HasOffset list x) → ((x : ℕ) → HasOffset set x → HasOffset list x) → Grown list front (length list)
grow set [] all list normal is_normal same over = record {
  list = list;
  normal = normal;
  is_normal = is_normal;
  same = same;
  offsets = λ x. (λ has. inl has, λ has. elim has [ inl had ↦ had | inr none ↦ absurd none ]);
  as_long = refl;
}
grow set (g ∷ gs) all list normal is_normal same over =
    let touch = all.0 in
    let wide = widen list g touch.offset touch.low touch.high (over touch.offset touch.has) in
    let union = union_of normal g is_normal touch.full in
    let more = grow set gs all.1 wide.list union.0 union.1.normal
    (λ x. (
      λ has. elim ((union.1.offsets x).0 has) [ inl had ↦ (wide.offsets x).1 (inl ((same x).0 had)) | inr new ↦ (wide.offsets x).1 (inr new) ],
      λ has. elim ((wide.offsets x).0 has) [ inl had ↦ (union.1.offsets x).1 (inl ((same x).1 had)) | inr new ↦ (union.1.offsets x).1 (inr new) ],
    ))
    (λ x has. (wide.offsets x).1 (inl (over x has))) in
    record {
      list = more.list;
      normal = more.normal;
      is_normal = more.is_normal;
      same = more.same;
      offsets = λ x. (
        λ has. elim ((more.offsets x).0 has) [ inl had ↦ elim ((wide.offsets x).0 had) [ inl old ↦ inl old | inr here ↦ inr (inl here) ] | inr later ↦ inr (inr later) ],
        λ has. elim has [
          | inl old ↦ (more.offsets x).1 (inl ((wide.offsets x).1 (inl old)))
          | inr new ↦ elim new [ inl here ↦ (more.offsets x).1 (inl ((wide.offsets x).1 (inr here))) | inr later ↦ (more.offsets x).1 (inr later) ]
        ],
      );
      as_long = wide_size wide.size more.as_long;
    }
  where
    wide_size : {a b c : ℕ} → b ≡ c → a ≡ b → a ≡ c
    wide_size first second = omega (arith, first, second)

-- the set with some first missing parts of a block is short enough for a file
pub record FewWith (set front : List Range) : Type 0 where
  pub list : List Range
  pub normal : IsNormal list
  pub offsets : (x : ℕ) → HasOffset list x ↔ (HasOffset set x ⊎ HasOffset front x)
  pub few : length list ≤ MAX_RANGES

pub few_with : (set : List Range) (block : Range) (front back : List Range) → IsNormal set → length set ≤ MAX_RANGES → block.start < block.end → HasFitUnion set block → IsMissing set block (front ++ back) → FewWith set front
few_with set block front back normal few some fits missing =
    elim (fronts set block block.start front back (record {
      normal = missing.normal;
      offsets = λ x. (λ has. let is = (missing.offsets x).0 has in record { from = is.0.0; inside = is.0; out = is.1 }, λ is. (missing.offsets x).1 (is.inside, is.out));
      before = inl refl;
    })) [
      | inl whole ↦
          let union = union_of set block normal some in
          record {
            list = union.0;
            normal = union.1.normal;
            offsets = λ x. (
              λ has. elim ((union.1.offsets x).0 has) [ inl had ↦ inl had | inr inside ↦ inr (whole x inside) ],
              λ has. (union.1.offsets x).1 (elim has as (λ _. HasOffset set x ⊎ InRange block x) [ inl had ↦ inl had | inr new ↦ inr ((missing.offsets x).0 ((has_either front back x).1 (inl new))).0 ]),
            );
            few = fits union.0 union.1;
          }
      | inr all ↦
          let grown = grow set front all set set normal (λ x. (λ has. has, λ has. has)) (λ x has. has) in
          record {
            list = grown.normal;
            normal = grown.is_normal;
            offsets = λ x. (λ has. (grown.offsets x).0 ((grown.same x).0 has), λ has. (grown.same x).1 ((grown.offsets x).1 has));
            few = omega (arith, normal_few grown.normal grown.list grown.is_normal grown.same, grown.as_long, few);
          }
    ]

-- a block makes at most one range more
pub one_more_range : (set : List Range) (block : Range) (union : List Range) → IsUnion set block union → length union ≤ length set + 1
one_more_range set block union is =
    let few : length union ≤ length (block ∷ set) = normal_few union (block ∷ set) is.normal (λ x. (
      λ has. elim ((is.offsets x).0 has) [ inl had ↦ inr had | inr here ↦ inl here ],
      λ has. elim has [ inl here ↦ (is.offsets x).1 (inr here) | inr had ↦ (is.offsets x).1 (inl had) ],
    )) in
    omega (arith, few)
