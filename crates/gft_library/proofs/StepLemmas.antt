-- What the steps of a call say of the whole call.
use Rattle.std.proofs.Common.{◌≡◌, inl, inr, ℕ, List, length, Some, None, sym, ap, ◌∙◌, subst, arith}
use Rattle.gft_drive.specs.Words.{DriveState}
use Rattle.gft_book.specs.Words.{Seen}
use Rattle.gft_outside.specs.Words.{ShelfState}
use Rattle.gft_library.specs.declared.error.LibraryError.{LibraryError}
use Rattle.gft_library.specs.declared.seeking.Absent.{Absent}
use Rattle.gft_library.specs.declared.holding.Holding.{Holding}
use Rattle.gft_library.specs.declared.holding.Holding.TheVariants.{AtHand, HandedOut, Unread}
use Rattle.gft_library.specs.declared.list.KeptName.{KeptName}
use Rattle.gft_library.specs.Kept.{Puts, kept_under}
use Rattle.gft_library.specs.Names.{NamesSeen}
use Rattle.gft_library.specs.Finding.{Asking, Comes, HasDrive, IsBarred, IsKeptFrom, Seeks, asking}
use Rattle.std.specs.Prelude.{IfOk, MatchResult, Result, Ok, Err}
use Rattle.gft_library.specs.Calls.{ByBook}
use Rattle.gft_library.specs.Steps.{Brings, OpensNot, Takes}
use Rattle.gft_library.proofs.NamesLemmas.{put_nowhere, put_there, same_length}

module _ {D O S : Type 0} (drive_state : D → DriveState) (shelf_state : S → ShelfState D) (name : List ℕ) where
  abbrev seen : S → List (KeptName (Holding D O)) → NamesSeen D O S
  seen shelf kept = record { shelf = shelf; kept = kept }

  abbrev about : S → List (KeptName (Holding D O)) → Asking D O S
  about shelf kept = asking drive_state shelf_state (seen shelf kept) name

  -- a put that found nothing changes nothing that a refusal speaks of
  pub barred_before : (shelf : S) (kept mid : List (KeptName (Holding D O))) (holding : Holding D O) (absent : Absent) (new : NamesSeen D O S) (why : LibraryError) → Puts kept mid name holding → kept_under kept name ≡ None
      → IsBarred (about shelf mid) absent new why → IsBarred (about shelf kept) absent new why
  barred_before shelf kept mid holding absent new why puts none barred =
      let gone : kept_under mid name ≡ None = put_nowhere name kept mid holding puts none in
      let long : length mid ≡ length kept = same_length name kept mid holding puts in
      elim barred [
        | inl want ↦ inl (record { is = want.is; unchanged = record { under = want.unchanged.under ∙ gone ∙ sym none; shelf = want.unchanged.shelf } })
        | inr rest ↦ elim rest [
          | inl many ↦
              inr (inl (record { none = none; many = sym long ∙ many.many; is = many.is; unchanged = record { under = many.unchanged.under ∙ gone ∙ sym none; shelf = many.unchanged.shelf } }))
          | inr given ↦ inr (inr (record { nowhere = record { none = none; room = omega (arith, given.nowhere.room, long) }; refused = given.refused; none = given.none }))
        ]
      ]

module _ {D O S : Type 0} (call : Asking D O S) (absent : Absent) where
  -- what was taken is a drive
  drive_taken : (now : S) (drive : D) → Takes call absent now (Unread drive) → HasDrive call absent now drive
  drive_taken now drive takes = elim takes [
    | inl kept ↦ inl kept
    | inr given ↦ inr (given.2, subst (Seeks call.drive_state call.shelf_state absent call.old.shelf now call.name) (same_drive given.0 (sym given.1)) given.3)
  ]
    where
      same_drive : (other : D) → ◌≡◌ {A = Holding D O} (Unread other) (Unread drive) → other ≡ drive
      same_drive other e = cc

  -- a Book is kept or handed out only if it was
  book_taken : (now : S) (holding : Holding D O) → ((drive : D) → holding ≡ Unread drive → ⊥) → Takes call absent now holding → (kept_under call.old.kept call.name ≡ Some holding) × (now ≡ call.old.shelf)
  book_taken now holding other takes = elim takes [
    | inl kept ↦ kept
    | inr given ↦ absurd (other given.0 given.1)
  ]

  -- what could not be opened is kept again
  pub not_opened : (mid new : NamesSeen D O S) (holding left : Holding D O) (why : LibraryError) → Takes call absent mid.shelf holding → kept_under mid.kept call.name ≡ Some HandedOut
      → OpensNot call.drive_state holding why left → Puts mid.kept new.kept call.name left → new.shelf ≡ mid.shelf → IsKeptFrom call absent new why
  not_opened mid new (AtHand book) left why takes stands opens puts shelf = absurd opens
  not_opened mid new HandedOut left why takes stands opens puts shelf =
      let was = book_taken mid.shelf HandedOut other takes in
      let is : kept_under new.kept call.name ≡ Some left = put_there call.name mid.kept new.kept HandedOut left puts stands in
      inr (inl (record { handed = was.0; is = opens.0; unchanged = record { under = is ∙ ap Some opens.1 ∙ sym was.0; shelf = shelf ∙ was.1 } }))
    where
      other : (drive : D) → ◌≡◌ {A = Holding D O} HandedOut (Unread drive) → ⊥
      other drive e = cc
  not_opened mid new (Unread drive) left why takes stands opens puts shelf =
      let is : kept_under new.kept call.name ≡ Some left = put_there call.name mid.kept new.kept HandedOut left puts stands in
      inr (inr (record {
        drive = drive;
        has = subst (λ (s : S). HasDrive call absent s drive) (sym shelf) (drive_taken mid.shelf drive takes);
        later = opens.0;
        refused = opens.2;
        stays = is ∙ ap Some opens.1;
      }))

  -- a Book that was taken, and put back after a call
  pub by_book : (does : Seen D → Seen D → Type 0) (mid new : NamesSeen D O S) (book now : Seen D) → Brings call absent mid book → Puts mid.kept new.kept call.name (AtHand now) → new.shelf ≡ mid.shelf
      → does book now → ByBook call absent new does
  by_book does mid new book now brings puts shelf done = (
    book,
    now,
    subst (λ (s : S). Comes call absent s book) (sym shelf) brings.comes,
    put_there call.name mid.kept new.kept HandedOut (AtHand now) puts brings.stands,
    done,
  )

-- what holds of an answer, from what else does
pub of_answer : {T E : Type 0} (P P' : T → Type 0) (Q Q' : E → Type 0) (answer : Result T E) → ((value : T) → P value → P' value) → ((why : E) → Q why → Q' why) → MatchResult answer P Q
    → MatchResult answer P' Q'
of_answer P P' Q Q' (Ok value) ok err holds = ok value holds
of_answer P P' Q Q' (Err why) ok err holds = err why holds

pub of_ok : {T E : Type 0} (P P' : T → Type 0) (Q : E → Type 0) (answer : Result T E) → ((value : T) → P value → P' value) → MatchResult answer P Q → IfOk answer P'
of_ok P P' Q (Ok value) ok holds = ok value holds
of_ok P P' Q (Err why) ok holds = tt
