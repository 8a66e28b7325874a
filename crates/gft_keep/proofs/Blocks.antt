-- What storing a block leaves.
use Rattle.std.proofs.Common.{◌≡◌, ◌⊎◌, ◌↔◌, inl, inr, ⊎_elim, ℕ, ◌+◌, ◌-◌, ◌<◌, ◌≤◌, List, [], ◌++◌, length, Option, Some, None, Bool, true, IsTrue, IfSome, refl, sym, ap, ◌∙◌, subst, arith}
use Rattle.std.specs.Prelude.{slice_index}
use Rattle.gft_base.specs.declared.TheConstants.{LIMIT}
use Rattle.gft_range.specs.declared.Range.{Range}
use Rattle.gft_range.specs.Words.{HasOffset, InRange, IsMissing, IsNormal, IsUnion}
use Rattle.gft_range.proofs.Lemmas.{HasOffset-or, union_of}
use Rattle.gft_drive.specs.declared.Part.TheVariants.{Bytes, Ranges}
use Rattle.gft_drive.specs.declared.TheConstants.{MAX_RANGES}
use Rattle.gft_drive.specs.Words.{Covers, DriveState, Elapses, Image, IsBorn, IsComplete, IsIntact, IsLawful, LeavesBy, OnPart, ReadsBy}
use Rattle.gft_journal.specs.Words.{Becomes, BecomesOrNot, KeepsRest, SameJournal}
use Rattle.gft_journal.specs.declared.Journal.{Journal}
use Rattle.gft_keep.specs.declared.standing.Standing.{Standing}
use Rattle.gft_keep.specs.declared.standing.Standing.TheVariants.{Whole, Torn}
use Rattle.gft_keep.specs.Appending.{AddsAllBut, AddsFront, AddsMissing}
use Rattle.gft_keep.specs.Image.{HasFewRanges, Holds, IsSound}
use Rattle.gft_keep.specs.Keep.{IsExact, IsKeep, IsOpen, MovesBy, StandsAs, StandsWhole}
use Rattle.gft_keep.specs.State.{KeepState}
use Rattle.gft_keep.specs.Steps.{CompletesNothing, Stores, StoresSome, block_of}
use Rattle.gft_keep.specs.Store.{IsNewCount, Stored}
use Rattle.gft_keep.specs.Tearing.{EachSince, HasFitUnion, StoresBlock, TornFrom, TornOpen, open_keep}
use Rattle.gft_keep.specs.Writing.{Fills, FillsBlock, KeepsBytes}
use Rattle.gft_keep.proofs.Changing.{sound_kept}
use Rattle.gft_drive.proofs.Lemmas.{elapses_refl}
use Rattle.gft_keep.proofs.Counts.{nothing_missing}
use Rattle.gft_keep.proofs.Failing.{torn_is_keep}
use Rattle.gft_keep.proofs.Running.{since_leaves, since_says}
use Rattle.gft_keep.proofs.Fronts.{few_with, has_either, one_more_range}
use Rattle.gft_keep.proofs.Images.{few_same, iff_refl, iff_then}
use Rattle.gft_keep.proofs.Kept.{exact_read, read_from, ready_stands, stands_whole}
use Rattle.gft_keep.proofs.Stages.{IsStart, Stage}

-- what is known of a file that takes blocks
pub record TakesBlocks (set : List Range) (read : Image) : Type 0 where
  pub exact : (x : ℕ) → Covers read.ranges x ↔ HasOffset set x
  pub incomplete : (n : ℕ) → ¬ IsComplete read.ranges n
  pub born : IsBorn read.ranges

-- neither complete nor not born
pub completes_nothing : (read image : Image) → ((n : ℕ) → ¬ IsComplete image.ranges n) → IsBorn image.ranges → CompletesNothing read image
completes_nothing read image incomplete born = record {
  complete = λ len is. absurd (incomplete len is);
  unborn = λ not. absurd (not born);
}

module _ (set : List Range) (block : Range) (bytes : List ℕ) (fills : FillsBlock block bytes) where
  pub in_block_of : (x : ℕ) → InRange block x → InRange (block_of block.start bytes) x
  in_block_of x inside = (inside.0, omega (arith, inside.1, fills.size))

  pub of_block : (x : ℕ) → InRange (block_of block.start bytes) x → InRange block x
  of_block x inside = (inside.0, omega (arith, inside.1, fills.size))

  pub start_open : (read : Image) → IsSound read → TakesBlocks set read → TornOpen set block.start bytes read read
  start_open read sound takes = record {
    torn = record {
      sound = sound;
      kept = λ x has. let covered = (takes.exact x).1 has in record { covered = covered; within = sound.within x covered; byte = refl };
      added = λ x covered. inl ((takes.exact x).0 covered);
    };
    completes = completes_nothing read read takes.incomplete takes.born;
  }

  -- while the bytes are written
  written_torn : (read image : Image) → IsSound read → TakesBlocks set read → OnPart Bytes (KeepsBytes set) read image → TornOpen set block.start bytes read image
  written_torn read image sound takes step =
      let same = λ (x : ℕ). subst (λ (l : List ℕ). Covers l x ↔ Covers read.ranges x) (sym step.kept) iff_refl in
      let none : (n : ℕ) → ¬ IsComplete image.ranges n = subst (λ (l : List ℕ). (n : ℕ) → ¬ IsComplete l n) (sym step.kept) takes.incomplete in
      record {
        torn = record {
          sound = sound_kept read image sound (subst (λ (l : List ℕ). IsIntact read.ranges → IsIntact l) (sym step.kept) (λ is. is)) same
              (λ x covered. omega (arith, sound.within x covered, step.changed.longer)) (λ n is. absurd (none n is));
          kept = λ x has.
              let covered = (takes.exact x).1 has in
              let lt = sound.within x covered in
              record { covered = (same x).1 covered; within = omega (arith, lt, step.changed.longer); byte = step.changed.kept x has lt };
          added = λ x covered. inl ((takes.exact x).0 ((same x).0 covered));
        };
        completes = completes_nothing read image none (subst (λ (l : List ℕ). IsBorn l) (sym step.kept) takes.born);
      }

  pub writes : (read staged image : Image) → IsStart (TakesBlocks set) read staged → OnPart Bytes (KeepsBytes set) staged image → TornOpen set block.start bytes read image
  writes read staged image start step = written_torn read image start.sound start.facts (subst (λ (i : Image). OnPart Bytes (KeepsBytes set) i image) start.same step)

-- once the bytes are written
pub record HasWritten (set : List Range) (block : Range) (bytes : List ℕ) (read image : Image) : Type 0 where
  pub fills : Fills set block bytes read.bytes image.bytes
  pub takes : TakesBlocks set image
  pub sound : IsSound image

pub is_written : (set : List Range) (block : Range) (bytes : List ℕ) (read staged image : Image) → IsStart (TakesBlocks set) read staged → OnPart Bytes (Fills set block bytes) staged image → HasWritten set block bytes read image
is_written set block bytes read staged image start step =
    let fills = subst (λ (i : Image). OnPart Bytes (Fills set block bytes) i image) start.same step in
    let same = λ (x : ℕ). subst (λ (l : List ℕ). Covers l x ↔ Covers read.ranges x) (sym fills.kept) iff_refl in
    let none : (n : ℕ) → ¬ IsComplete image.ranges n = subst (λ (l : List ℕ). (n : ℕ) → ¬ IsComplete l n) (sym fills.kept) start.facts.incomplete in
    record {
      fills = fills.changed;
      takes = record {
        exact = λ x. iff_then (same x) (start.facts.exact x);
        incomplete = none;
        born = subst (λ (l : List ℕ). IsBorn l) (sym fills.kept) start.facts.born;
      };
      sound = sound_kept read image start.sound (subst (λ (l : List ℕ). IsIntact read.ranges → IsIntact l) (sym fills.kept) (λ is. is)) same
          (λ x covered. fills.changed.size x ((start.facts.exact x).0 covered)) (λ n is. absurd (none n is));
    }

-- the ranges of an image, once more of them are named
pub record NamesAlso (set : List Range) (G : ℕ → Type 0) (image : Image) : Type 0 where
  pub names : (x : ℕ) → Covers image.ranges x ↔ (HasOffset set x ⊎ G x)
  pub few : HasFewRanges image.ranges
  pub intact : IsIntact image.ranges
  pub incomplete : (n : ℕ) → ¬ IsComplete image.ranges n
  pub born : IsBorn image.ranges

module _ (set : List Range) (block : Range) (bytes : List ℕ) (fills : FillsBlock block bytes) (read staged image : Image) (written : HasWritten set block bytes read staged) (same : image.bytes ≡ staged.bytes) where
  -- a byte of the block that the set lacks
  block_byte : (x : ℕ) → InRange block x → ¬ HasOffset set x → (slice_index image.bytes x ≡ slice_index bytes (x - block.start)) × (x < length image.bytes)
  block_byte x inside out =
      let k = x - block.start in
      let back : block.start + k ≡ x = omega (arith, inside.0) in
      let lt : k < length bytes = omega (arith, inside.0, inside.1, fills.size) in
      let lacks : ¬ HasOffset set (block.start + k) = λ has. out (subst (λ (y : ℕ). HasOffset set y) back has) in (
        ap (λ (l : List ℕ). slice_index l x) same ∙ ap (λ (y : ℕ). slice_index staged.bytes y) (sym back) ∙ written.fills.added k lt lacks,
        omega (arith, written.fills.reaches k lt lacks, back, ap length same),
      )

  module _ (G : ℕ → Type 0) (missing : (x : ℕ) → G x → InRange block x × ¬ HasOffset set x) (named : NamesAlso set G image) where
    within : (x : ℕ) → Covers image.ranges x → x < length image.bytes
    within x covered = ⊎_elim
        (λ has. omega (arith, written.fills.size x has, ap length same))
        (λ new. let is = missing x new in (block_byte x is.0 is.1).1)
        ((named.names x).0 covered)

    pub also_torn : TornOpen set block.start bytes read image
    also_torn = record {
      torn = record {
        sound = record { intact = named.intact; few = named.few; within = within; complete = λ n is. absurd (named.incomplete n is) };
        kept = λ x has. record {
          covered = (named.names x).1 (inl has);
          within = omega (arith, written.fills.size x has, ap length same);
          byte = ap (λ (l : List ℕ). slice_index l x) same ∙ written.fills.kept x has;
        };
        added = λ x covered. ⊎_elim
            (λ has. inl has)
            (λ new. let is = missing x new in let there = block_byte x is.0 is.1 in
            inr (in_block_of set block bytes fills x is.0, record { covered = covered; within = there.1; byte = there.0 }))
            ((named.names x).0 covered);
      };
      completes = completes_nothing read image named.incomplete named.born;
    }

-- what is left once the block is stored
pub record HasBlock (set : List Range) (block : Range) (bytes : List ℕ) (read image : Image) : Type 0 where
  pub torn : TornOpen set block.start bytes read image
  pub all : (x : ℕ) → InRange block x → HasOffset set x ⊎ Holds image x (slice_index bytes (x - block.start))
  pub names : (x : ℕ) → Covers image.ranges x ↔ (HasOffset set x ⊎ InRange block x)
  pub incomplete : (n : ℕ) → ¬ IsComplete image.ranges n
  pub born : IsBorn image.ranges

abbrev pub Lacking : List Range → Range → ℕ → Type 0
Lacking set block x = InRange block x × ¬ HasOffset set x

-- the missing offsets are named
all_stored : (set : List Range) (block : Range) (bytes : List ℕ) → FillsBlock block bytes → (read staged image : Image) → HasWritten set block bytes read staged → image.bytes ≡ staged.bytes
    → NamesAlso set (Lacking set block) image → HasBlock set block bytes read image
all_stored set block bytes fills read staged image written same named = record {
  torn = also_torn set block bytes fills read staged image written same (Lacking set block) (λ x new. new) named;
  all = λ x inside. elim (HasOffset-or set x) [
    | inl has ↦ inl has
    | inr out ↦
        let there = block_byte set block bytes fills read staged image written same x inside out in
        inr (record { covered = (named.names x).1 (inr (inside, out)); within = there.1; byte = there.0 })
  ];
  names = λ x. (
    λ covered. elim ((named.names x).0 covered) [ inl has ↦ inl has | inr new ↦ inr new.0 ],
    λ either. elim either [
      | inl has ↦ (named.names x).1 (inl has)
      | inr inside ↦ elim (HasOffset-or set x) [ inl has ↦ (named.names x).1 (inl has) | inr out ↦ (named.names x).1 (inr (inside, out)) ]
    ],
  );
  incomplete = named.incomplete;
  born = named.born;
}

-- ---- one range after another

module _ (set : List Range) (block : Range) (bytes : List ℕ) (fills : FillsBlock block bytes) (normal : IsNormal set) (few : length set ≤ MAX_RANGES) (some : block.start < block.end) (fits : HasFitUnion set block) where
  -- some first missing ranges are named
  front_named : (staged image : Image) (front left : List Range) → TakesBlocks set staged → IsIntact staged.ranges → IsMissing set block (front ++ left) → ((x : ℕ) → Covers image.ranges x ↔ (Covers staged.ranges x ⊎ HasOffset front x)) → KeepsRest staged.ranges image.ranges
      → NamesAlso set (HasOffset front) image
  front_named staged image front left takes intact missing ranges rest =
      let with = few_with set block front left normal few some fits missing in
      let names : (x : ℕ) → Covers image.ranges x ↔ (HasOffset set x ⊎ HasOffset front x) = λ x. (
        λ covered. ⊎_elim (λ was. inl ((takes.exact x).0 was)) (λ new. inr new) ((ranges x).0 covered),
        λ either. (ranges x).1 (⊎_elim (λ has. inl ((takes.exact x).1 has)) (λ new. inr new) either),
      ) in
      record {
        names = names;
        few = record { set = with.list; normal = with.normal; offsets = λ x. (λ has. (names x).1 ((with.offsets x).0 has), λ covered. (with.offsets x).1 ((names x).0 covered)); few = with.few };
        intact = rest.sound intact;
        incomplete = λ n is. takes.incomplete n ((rest.complete n).0 is);
        born = rest.born.1 takes.born;
      }

  pub appends : (read staged image : Image) → HasWritten set block bytes read staged → OnPart Ranges (AddsFront set block) staged image → TornOpen set block.start bytes read image
  appends read staged image written step =
      let adds = step.changed.adds in
      also_torn set block bytes fills read staged image written step.kept (HasOffset adds.front)
      (λ x new. (adds.missing.offsets x).0 (in_front adds.front step.changed.left x new))
      (front_named staged image adds.front step.changed.left written.takes written.sound.intact adds.missing adds.ranges adds.rest)
    where
      in_front : (front left : List Range) (x : ℕ) → HasOffset front x → HasOffset (front ++ left) x
      in_front front left x has = (has_either front left x).1 (inl has)

  -- all of them are
  pub is_appended : (read staged image : Image) → HasWritten set block bytes read staged → OnPart Ranges (AddsMissing set block) staged image → HasBlock set block bytes read image
  is_appended read staged image written step =
      let union = union_of set block normal some in
      let names : (x : ℕ) → Covers image.ranges x ↔ (HasOffset set x ⊎ Lacking set block x) = λ x. (
        λ covered. ⊎_elim (λ was. inl ((written.takes.exact x).0 was)) (λ new. inr new) ((step.changed.ranges x).0 covered),
        λ either. (step.changed.ranges x).1 (⊎_elim (λ has. inl ((written.takes.exact x).1 has)) (λ new. inr new) either),
      ) in
      all_stored set block bytes fills read staged image written step.kept (record {
        names = names;
        few = record {
          set = union.0;
          normal = union.1.normal;
          offsets = λ x. (
            λ has. elim ((union.1.offsets x).0 has) [
              | inl had ↦ (names x).1 (inl had)
              | inr inside ↦ elim (HasOffset-or set x) [ inl had ↦ (names x).1 (inl had) | inr out ↦ (names x).1 (inr (inside, out)) ]
            ],
            λ covered. (union.1.offsets x).1 (elim ((names x).0 covered) as (λ _. HasOffset set x ⊎ InRange block x) [ inl had ↦ inl had | inr new ↦ inr new.0 ]),
          );
          few = fits union.0 union.1;
        };
        intact = step.changed.rest.sound written.sound.intact;
        incomplete = λ n is. written.takes.incomplete n ((step.changed.rest.complete n).0 is);
        born = step.changed.rest.born.1 written.takes.born;
      })

  -- ---- or all at once

  union_named : (staged image : Image) (union : List Range) → IsUnion set block union → TakesBlocks set staged → IsIntact staged.ranges → Becomes union None staged.ranges image.ranges → NamesAlso set (Lacking set block) image
  union_named staged image union is takes intact becomes = record {
    names = λ x. (
      λ covered. elim ((is.offsets x).0 ((becomes.ranges x).0 covered)) [
        | inl has ↦ inl has
        | inr inside ↦ elim (HasOffset-or set x) [ inl has ↦ inl has | inr out ↦ inr (inside, out) ]
      ],
      λ either. (becomes.ranges x).1 ((is.offsets x).1 (elim either as (λ _. HasOffset set x ⊎ InRange block x) [ inl has ↦ inl has | inr new ↦ inr new.0 ])),
    );
    few = record { set = union; normal = is.normal; offsets = λ x. (λ has. (becomes.ranges x).1 has, λ covered. (becomes.ranges x).0 covered); few = fits union is };
    intact = becomes.sound intact;
    incomplete = λ n now. let gone : None ≡ Some n = (becomes.complete n).0 now in absurd (cc);
    born = becomes.born.1 takes.born;
  }

  same_named : (staged image : Image) → TakesBlocks set staged → IsSound staged → SameJournal staged.ranges image.ranges → NamesAlso set (λ x. ⊥) image
  same_named staged image takes sound same = record {
    names = λ x. (λ covered. inl ((takes.exact x).0 ((same.ranges x).0 covered)), λ either. elim either [ inl has ↦ (same.ranges x).1 ((takes.exact x).1 has) | inr none ↦ absurd none ]);
    few = few_same staged.ranges image.ranges sound.few same.ranges;
    intact = same.rest.sound sound.intact;
    incomplete = λ n is. takes.incomplete n ((same.rest.complete n).0 is);
    born = same.rest.born.1 takes.born;
  }

  pub changes_over : (union : List Range) → IsUnion set block union → (read staged image : Image) → HasWritten set block bytes read staged → OnPart Ranges (BecomesOrNot union None) staged image → TornOpen set block.start bytes read image
  changes_over union is read staged image written step = ⊎_elim
      (λ same. also_torn set block bytes fills read staged image written step.kept (λ x. ⊥) (λ x none. absurd none) (same_named staged image written.takes written.sound same))
      (λ becomes. also_torn set block bytes fills read staged image written step.kept (Lacking set block) (λ x new. new) (union_named staged image union is written.takes written.sound.intact becomes))
      step.changed

  pub is_changed_over : (union : List Range) → IsUnion set block union → (read staged image : Image) → HasWritten set block bytes read staged → OnPart Ranges (Becomes union None) staged image → HasBlock set block bytes read image
  is_changed_over union is read staged image written step =
      all_stored set block bytes fills read staged image written step.kept (union_named staged image union is written.takes written.sound.intact step.changed)

-- ---- as the keep sees it

-- what each image is, as a step
pub open_stores : (set : List Range) (offset : ℕ) (bytes : List ℕ) (read image : Image) → ((x : ℕ) → Covers read.ranges x ↔ HasOffset set x) → TornOpen set offset bytes read image → StoresSome offset bytes read image
open_stores set offset bytes read image exact torn = record {
  kept = λ x v holds. let now = torn.torn.kept x ((exact x).0 holds.covered) in record { covered = now.covered; within = now.within; byte = now.byte ∙ holds.byte };
  added = λ x covered. ⊎_elim (λ has. inl ((exact x).1 has)) (λ block. inr block) (torn.torn.added x covered);
  completes = torn.completes;
}

-- a whole keep of the union
pub stage_stores : (set : List Range) (block : Range) (bytes : List ℕ) (answer : ℕ) (journal : Journal) (old new : DriveState) → FillsBlock block bytes → IsLawful new → Elapses old new
    → ((read : Image) → old.contents ≡ Some read → (x : ℕ) → Covers read.ranges x ↔ HasOffset set x) → Stage (TornOpen set block.start bytes) (HasBlock set block bytes) journal old new → IsNewCount set block answer → StoresBlock set block bytes journal old new answer
stage_stores set block bytes answer journal old new fills lawful time exact stage count = record {
  stands = λ union is. ready_stands (open_keep new union journal) stage.ready (λ read told.
      let from = read_from (HasBlock set block bytes) old new time stage.reads read told in
      record {
        read = told;
        ranges = λ x. (λ covered. (is.offsets x).1 ((from.2.names x).0 covered), λ has. (from.2.names x).1 ((is.offsets x).0 has));
        complete = λ n. (λ now. absurd (from.2.incomplete n now), λ gone. absurd (cc));
        born = (λ born. refl, λ yes. from.2.born);
        sound = stage.ready.sound read told;
      });
  read = λ read told.
      let last = stage.reads read told in (
        last.0,
        last.1,
        record {
          some = open_stores set block.start bytes read last.0 (exact read told) last.2.torn;
          all = λ x inside. ⊎_elim (λ has. inl ((exact read told x).1 has)) (λ holds. inr holds) (last.2.all x (of_block set block bytes fills x inside));
        },
      );
  count = count;
}

-- a keep that takes blocks, in its parts
pub open_is_open : (keep : KeepState) → IsOpen keep → IsOpen (open_keep keep.drive keep.ranges keep.journal)
open_is_open keep is = record {
  unbroken = record {
    whole = refl;
    facts = record {
      lawful = is.unbroken.facts.lawful;
      normal = is.unbroken.facts.normal;
      few = is.unbroken.facts.few;
      in_limit = is.unbroken.facts.in_limit;
      complete = tt;
      stands = record {
        journal = (stands_whole keep is.unbroken).journal;
        each = λ some image left.
            let exact = (stands_whole keep is.unbroken).each some image left in
            record {
              read = exact.read;
              ranges = exact.ranges;
              complete = λ n. subst (λ (o : Option ℕ). IsComplete image.ranges n ↔ (o ≡ Some n)) is.incomplete (exact.complete n);
              born = subst (λ (b : Bool). IsBorn image.ranges ↔ IsTrue b) is.born exact.born;
              sound = exact.sound;
            };
      };
    };
  };
  born = refl;
  incomplete = refl;
}

abbrev pub state_with : DriveState → List Range → Option ℕ → Bool → Standing → Journal → KeepState
state_with drive ranges complete is_born standing journal = record { drive = drive; ranges = ranges; complete = complete; is_born = is_born; standing = standing; journal = journal }

-- the keep once the block is stored
pub stored_is_keep : (old : KeepState) (block : Range) (bytes : List ℕ) (union : List Range) (drive : DriveState) (journal : Journal) → IsOpen old → block.end ≤ LIMIT → HasFitUnion old.ranges block → IsUnion old.ranges block union → IsLawful drive
    → StandsWhole (open_keep drive union journal) → IsKeep (state_with drive union old.complete old.is_born old.standing journal)
stored_is_keep old block bytes union drive journal is in_limit fits is_union lawful stands =
    let base : IsKeep (open_keep drive union journal) = record {
      lawful = lawful;
      normal = is_union.normal;
      few = fits union is_union;
      in_limit = λ x has. ⊎_elim (λ had. is.unbroken.facts.in_limit x had) (λ inside. omega (arith, inside.1, in_limit)) ((is_union.offsets x).0 has);
      complete = tt;
      stands = stands;
    } in
    subst (λ (o : Option ℕ). IsKeep (state_with drive union o old.is_born old.standing journal)) (sym is.incomplete)
    (subst (λ (b : Bool). IsKeep (state_with drive union None b old.standing journal)) (sym is.born)
    (subst (λ (s : Standing). IsKeep (state_with drive union None true s journal)) (sym is.unbroken.whole) base))

-- what a read of an open keep gives
pub takes_blocks : (drive : DriveState) (set : List Range) (journal : Journal) → IsOpen (open_keep drive set journal) → (read : Image) → drive.contents ≡ Some read → TakesBlocks set read
takes_blocks drive set journal is read told =
    let exact = exact_read (open_keep drive set journal) is.unbroken read told in
    record {
      exact = exact.ranges;
      incomplete = λ n now. let gone : None ≡ Some n = (exact.complete n).0 now in absurd (cc);
      born = exact.born.1 refl;
    }

abbrev range_to : ℕ → ℕ → Range
range_to start end = record { start = start; end = end }

pub block_is : (block : Range) (bytes : List ℕ) → FillsBlock block bytes → block_of block.start bytes ≡ block
block_is block bytes fills = ap (λ (e : ℕ). range_to block.start e) fills.size

-- a store that is done or not, over the set as the call has it
module _ (old : KeepState) (set : List Range) (same : set ≡ old.ranges) (block : Range) (bytes : List ℕ) (is : IsOpen old) (drive : DriveState) (lawful : IsLawful drive)
    (since : EachSince (TornOpen set block.start bytes) old.drive drive) where
  pub store_leaves : LeavesBy (StoresSome block.start bytes) old.drive drive
  store_leaves = since_leaves (TornOpen set block.start bytes) (StoresSome block.start bytes) old.drive drive is.unbroken.facts.lawful since (λ read image told torn.
      open_stores set block.start bytes read image (subst (λ (rs : List Range). (x : ℕ) → Covers read.ranges x ↔ HasOffset rs x) (sym same) (exact_read old is.unbroken read told).ranges) torn)

  pub store_broken : (journal : Journal) → IsKeep (state_with drive set old.complete old.is_born Torn journal)
  store_broken journal =
      let torn = since_says (TornOpen set block.start bytes) (TornFrom old.ranges block.start bytes) old.drive drive since (λ read image told now. subst (λ (rs : List Range). TornFrom rs block.start bytes read image) same now.torn) in
      subst (λ (rs : List Range). IsKeep (state_with drive rs old.complete old.is_born Torn journal)) (sym same) (torn_is_keep old drive journal block.start bytes is.unbroken.facts lawful torn)

-- a keep that takes blocks, over the set as the call has it
pub open_with : (keep : KeepState) (set : List Range) → set ≡ keep.ranges → IsOpen keep → IsOpen (open_keep keep.drive set keep.journal)
open_with keep set same is = subst (λ (rs : List Range). IsOpen (open_keep keep.drive rs keep.journal)) (sym same) (open_is_open keep is)

-- what is answered of a block
pub block_stored : (old : KeepState) (set union : List Range) (block : Range) (bytes : List ℕ) (answer : ℕ) (drive : DriveState) (journal last : Journal) → set ≡ old.ranges → IsOpen old → FillsBlock block bytes
    → StoresBlock set block bytes last old.drive drive answer → IsUnion set block union → drive.faults ≡ old.drive.faults → Stored old (state_with drive union old.complete old.is_born old.standing journal) block.start bytes answer
block_stored old set union block bytes answer drive journal last same is fills stores is_union faults =
    let block_same = sym (block_is block bytes fills) in
    record {
      whole = is.unbroken.whole;
      read = stores.read;
      union = subst (λ (b : Range). IsUnion old.ranges b union) block_same (subst (λ (rs : List Range). IsUnion rs block union) same is_union);
      count = subst (λ (b : Range). IsNewCount old.ranges b answer) block_same (subst (λ (rs : List Range). IsNewCount rs block answer) same stores.count);
      complete = refl;
      is_born = refl;
      faults = faults;
    }

-- ---- nothing is missing, or nothing is done

stores_none : (offset : ℕ) (bytes : List ℕ) (image : Image) → StoresSome offset bytes image image
stores_none offset bytes image = record {
  kept = λ x v holds. holds;
  added = λ x covered. inl covered;
  completes = record { complete = λ len is. (is, refl); unborn = λ not. (not, refl) };
}

pub stays_open : (keep : KeepState) (offset : ℕ) (bytes : List ℕ) → IsOpen keep → MovesBy (StoresSome offset bytes) keep keep
stays_open keep offset bytes is = record {
  keep = is.unbroken.facts;
  any_moment = λ some image left. (image, left, stores_none offset bytes image);
  time = elapses_refl keep.drive;
}

pub already_stored : (keep : KeepState) (offset : ℕ) (bytes : List ℕ) → IsOpen keep → ((x : ℕ) → InRange (block_of offset bytes) x → HasOffset keep.ranges x) → Stored keep keep offset bytes 0
already_stored keep offset bytes is covered = record {
  whole = is.unbroken.whole;
  read = λ read told. (
    read,
    told,
    record {
      some = stores_none offset bytes read;
      all = λ x inside. inl (((exact_read keep is.unbroken read told).ranges x).1 (covered x inside));
    },
  );
  union = record { normal = is.unbroken.facts.normal; offsets = λ x. (λ has. inl has, λ either. elim either [ inl had ↦ had | inr here ↦ covered x here ]) };
  count = λ missing gone. nothing_missing keep.ranges (block_of offset bytes) missing gone covered;
  complete = refl;
  is_born = refl;
  faults = refl;
}

-- fewer ranges than may be kept have room for one more
pub fits_below : (set : List Range) (block : Range) → length set ≤ MAX_RANGES → (length set ≡ MAX_RANGES → ⊥) → HasFitUnion set block
fits_below set block few not_full union is = let most = one_more_range set block union is in omega (arith, few, not_full, most)
