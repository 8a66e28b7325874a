-- What is on a shelf and on its drives is from the source, through the calls.
use Rattle.std.proofs.Common.{◌≡◌, ◌≢◌, inl, inr, ℕ, Bool, true, false, List, [], Option, Some, None, refl, sym, ap, ◌∙◌, subst, arith}
use Rattle.std.specs.Prelude.{nat_eq, slice_get, if◌then◌else◌, IfSome, IsSome}
use Rattle.std.specs.Cmp.Lexicographic.{pointwise}
use Rattle.gft_drive.specs.Words.{DriveState, Elapses, Image, IsLawful, LeavesBy, MayLeave, Sent}
use Rattle.gft_core.specs.Words.{CarriesSource, held}
use Rattle.gft_book.specs.Words.{IsFrom}
use Rattle.gft_outside.specs.declared.shelf.ShelfError.{ShelfError}
use Rattle.gft_outside.specs.Words.{FindsDrive, FindsNone, IsNewDrive, MakesDrive, NotFound, NotMade, SameDrives, ShelfState}
use Rattle.gft_library.specs.Names.{DriveIsFrom, ShelfIsFrom}
use Rattle.gft_library.specs.Finding.{Seeks, SeeksNot}
use Rattle.gft_library.specs.declared.error.LibraryError.{LibraryError}
use Rattle.gft_library.specs.declared.seeking.Absent.{Absent}
use Rattle.gft_library.proofs.ListLemmas.{name_itself, same_names}

-- ---- drives

no_bytes : (source : List ℕ) (bytes : List ℕ) → bytes ≡ [] → CarriesSource source (slice_get bytes)
no_bytes source bytes none x v here = absurd (nothing (subst (λ (b : List ℕ). slice_get b x ≡ Some v) none here))
  where
    nothing : slice_get {X = ℕ} [] x ≡ Some v → ⊥
    nothing e = cc

-- an image without a byte has none that isn't the source's
empty_from : (source : List ℕ) (image : Image) → image.bytes ≡ [] → IsFrom source image
empty_from source image none = record {
  named = λ x v here. holds x v here;
  complete = λ len done. no_bytes source image.bytes none;
  unborn = λ unborn. no_bytes source image.bytes none;
}
  where
    open_held : (b : Bool) (x v : ℕ) → (if b then slice_get image.bytes x else None) ≡ Some v → slice_get source x ≡ Some v
    open_held true x v here = no_bytes source image.bytes none x v here
    open_held false x v here = absurd (nothing here)
      where
        nothing : None ≡ Some v → ⊥
        nothing e = cc

    holds : (x v : ℕ) → held image x ≡ Some v → slice_get source x ≡ Some v
    holds x v here = open_held _ x v here

module _ (sent : List ℕ → Option Sent) where
  abbrev AllFrom : DriveState → Sent → Type 0
  AllFrom drive s = IsSome drive.contents → (image : Image) → MayLeave drive image → IsFrom s.source image

  if_sent : (s : Option Sent) (drive : DriveState) → ((t : Sent) → s ≡ Some t → AllFrom drive t) → IfSome s (AllFrom drive)
  if_sent None drive each = tt
  if_sent (Some t) drive each = each t refl

  -- a new drive is from any source
  pub new_from : (drive : DriveState) (name : List ℕ) → IsNewDrive drive name → DriveIsFrom sent drive
  new_from drive name new = if_sent (sent drive.label) drive (λ t is told image left. empty_from t.source image (new.empty told image left).0)

  from_sent : (drive : DriveState) (t : Sent) → sent drive.label ≡ Some t → DriveIsFrom sent drive → AllFrom drive t
  from_sent drive t is from = subst (λ (s : Option Sent). IfSome s (AllFrom drive)) is from

  -- a drive after its images stayed as they were
  pub rests_from : (old new : DriveState) → IsLawful new → Elapses old new → LeavesBy (λ from image. image ≡ from) old new → DriveIsFrom sent old → DriveIsFrom sent new
  rests_from old new laws time images from = if_sent (sent new.label) new (λ t is told image left.
      let was = from_sent old t (ap sent (sym time.goes.label) ∙ is) from in
      let told_old = time.goes.tells.0 told in
      let since = laws.since old.moment new.moment image time.later (omega arith) left in
      let came = images told_old image since in
      subst (IsFrom t.source) (sym came.2) (was told_old came.0 came.1))

  -- ---- shelves

  module _ {D : Type 0} (state : D → DriveState) where
    abbrev UnderFrom : Option D → Type 0
    UnderFrom found = IfSome found (λ drive. DriveIsFrom sent (state drive))

    abbrev AtFrom : (List ℕ → Option D) → Type 0
    AtFrom at = (name : List ℕ) → UnderFrom (at name)

    others_from : (old new : Option (List ℕ → Option D)) (name : List ℕ) → SameDrives (λ other. other ≢ name) old new → IfSome new (λ at. UnderFrom (at name)) → IfSome old AtFrom → IfSome new AtFrom
    others_from None None name same under from = tt
    others_from None (Some new) name same under from = absurd same
    others_from (Some old) None name same under from = tt
    others_from (Some old) (Some new) name same under from = λ other. cases other (pointwise nat_eq other name) refl
      where
        cases : (other : List ℕ) (b : Bool) → pointwise nat_eq other name ≡ b → UnderFrom (new other)
        cases other true is = subst (λ (n : List ℕ). UnderFrom (new n)) (sym (same_names other name is)) under
        cases other false is = subst UnderFrom (sym (same other (λ e. differs e is))) (from other)
          where
            differs : other ≡ name → pointwise nat_eq other name ≡ false → ⊥
            differs e isnt = let here : pointwise nat_eq other name ≡ true = subst (λ (n : List ℕ). pointwise nat_eq other n ≡ true) e (name_itself other) in cc

    all_from : (old new : Option (List ℕ → Option D)) → SameDrives (λ any. Unit {0}) old new → IfSome old AtFrom → IfSome new AtFrom
    all_from None None same from = tt
    all_from None (Some new) same from = absurd same
    all_from (Some old) None same from = tt
    all_from (Some old) (Some new) same from = λ name. subst UnderFrom (sym (same name tt)) (from name)

    gone_from : (new : ShelfState D) (name : List ℕ) → IfSome new.drives (λ at. at name ≡ None) → IfSome new.drives (λ at. UnderFrom (at name))
    gone_from new name gone = lift new.drives gone
      where
        lift : (drives : Option (List ℕ → Option D)) → IfSome drives (λ at. at name ≡ None) → IfSome drives (λ at. UnderFrom (at name))
        lift None gone = tt
        lift (Some at) gone = subst UnderFrom (sym gone) tt

    pick : (drives : Option (List ℕ → Option D)) (name : List ℕ) (drive : D) → IfSome drives (λ at. at name ≡ Some drive) → IfSome drives AtFrom → IsSome drives → DriveIsFrom sent (state drive)
    pick None name drive had from told = absurd (no told)
      where
        no : IsSome {T = List ℕ → Option D} None → ⊥
        no has = cc
    pick (Some at) name drive had from told = subst UnderFrom had (from name)

    -- a drive that the shelf hands out
    pub found_from : (drive : D) (old new : ShelfState D) (name : List ℕ) → FindsDrive (state drive) old new name drive → ShelfIsFrom state sent old
        → DriveIsFrom sent (state drive) × ShelfIsFrom state sent new
    found_from drive old new name finds from = (
      if_sent (sent (state drive).label) (state drive) (λ t is told.
          from_sent (state drive) t is (pick old.drives name drive finds.had from (finds.tells told)) told),
      others_from old.drives new.drives name finds.others (gone_from new name finds.gone) from,
    )

    pub none_from : (old new : ShelfState D) (name : List ℕ) → FindsNone old new name → ShelfIsFrom state sent old → ShelfIsFrom state sent new
    none_from old new name finds from = all_from old.drives new.drives finds.same from

    pub not_found_from : (old new : ShelfState D) (name : List ℕ) (error : ShelfError) → NotFound old new name error → ShelfIsFrom state sent old → ShelfIsFrom state sent new
    not_found_from old new name error refused from = all_from old.drives new.drives refused.same from

    pub made_from : (drive : D) (old new : ShelfState D) (name : List ℕ) → MakesDrive (state drive) old new name → ShelfIsFrom state sent old
        → DriveIsFrom sent (state drive) × ShelfIsFrom state sent new
    made_from drive old new name made from =
        (new_from (state drive) name made.fresh, others_from old.drives new.drives name made.others (gone_from new name made.gone) from)

    pub not_made_from : (old new : ShelfState D) (name : List ℕ) (error : ShelfError) → NotMade state old new name error → ShelfIsFrom state sent old → ShelfIsFrom state sent new
    not_made_from old new name error refused from = elim refused.under [
      | inl same ↦ all_from old.drives new.drives same from
      | inr under ↦ others_from old.drives new.drives name refused.others (lift new.drives under) from
    ]
      where
        under_new : (found : Option D) → IfSome found (λ drive. IsNewDrive (state drive) name) → UnderFrom found
        under_new None fresh = tt
        under_new (Some drive) fresh = new_from (state drive) name fresh

        lift : (drives : Option (List ℕ → Option D)) → IfSome drives (λ at. IfSome (at name) (λ drive. IsNewDrive (state drive) name)) → IfSome drives (λ at. UnderFrom (at name))
        lift None under = tt
        lift (Some at) under = under_new (at name) under

  -- ---- a name that is nowhere

  module _ {D S : Type 0} (state : D → DriveState) (shelf : S → ShelfState D) (absent : Absent) (old new : S) (name : List ℕ) where
    -- the drive that the shelf gives
    pub given_from : (drive : D) → Seeks state shelf absent old new name drive → ShelfIsFrom state sent (shelf old)
        → ((state drive).label ≡ name) × DriveIsFrom sent (state drive) × ShelfIsFrom state sent (shelf new)
    given_from drive seeks from = elim seeks [
      | inl found ↦ let is = found_from state drive (shelf old) (shelf new) name found from in (found.label, is.0, is.1)
      | inr made ↦
          let is = made_from state drive (shelf made.1.0) (shelf new) name made.1.2 (none_from state (shelf old) (shelf made.1.0) name made.1.1 from) in
          (made.1.2.fresh.label, is.0, is.1)
    ]

    -- it gives none
    pub not_given_from : (why : LibraryError) → SeeksNot state shelf absent old new name why → ShelfIsFrom state sent (shelf old) → ShelfIsFrom state sent (shelf new)
    not_given_from why refused from = elim refused [
      | inl failed ↦ not_found_from state (shelf old) (shelf new) name failed.0 failed.2 from
      | inr other ↦ elim other [
        | inl none ↦ none_from state (shelf old) (shelf new) name none.1 from
        | inr unmade ↦
            not_made_from state (shelf unmade.1.0) (shelf new) name unmade.1.2.0 unmade.1.2.2 (none_from state (shelf old) (shelf unmade.1.0) name unmade.1.1 from)
      ]
    ]
