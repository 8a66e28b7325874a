-- The names stay names when what is kept under one changes.
use Rattle.std.proofs.Common.{◌≡◌, ◌≢◌, ℕ, ◌<◌, Bool, true, false, List, length, Option, Some, None, refl, sym, ap, ◌∙◌, subst, arith}
use Rattle.std.specs.Prelude.{IfSome, nat_eq}
use Rattle.std.specs.Cmp.Lexicographic.{pointwise}
use Rattle.gft_drive.specs.Words.{DriveState, Sent}
use Rattle.gft_outside.specs.Words.{ShelfState}
use Rattle.gft_library.specs.declared.TheConstants.{MAX_NAMES}
use Rattle.gft_library.specs.declared.holding.Holding.{Holding}
use Rattle.gft_library.specs.declared.list.KeptName.{KeptName}
use Rattle.gft_library.specs.Kept.{Adds, LetsGo, OnlyUnder, Puts, count_of, in_place, kept_under}
use Rattle.gft_library.specs.declared.holding.Holding.TheVariants.{HandedOut}
use Rattle.gft_library.specs.Names.{AreNames, IsOwn, ShelfIsFrom}
use Rattle.gft_library.proofs.ListLemmas.{name_itself, same_names}

-- ---- what changes of the list

module _ {T : Type 0} (name : List ℕ) where
  -- two calls about one name
  pub only_both : (old mid new : List (KeptName T)) → OnlyUnder old mid name → OnlyUnder mid new name → OnlyUnder old new name
  only_both old mid new first second = record {
    others = λ other apart. second.others other apart ∙ first.others other apart;
    many = omega (arith, first.many, second.many);
  }

  same_count : (was : Option T) (holding : T) → count_of (in_place was holding) ≡ count_of was
  same_count None holding = refl
  same_count (Some was) holding = refl

  pub same_length : (old new : List (KeptName T)) (holding : T) → Puts old new name holding → length new ≡ length old
  same_length old new holding puts = omega (arith, puts.only.many, ap count_of puts.under, same_count (kept_under old name) holding)

  -- what is put under a name that is kept is kept there
  pub put_there : (old new : List (KeptName T)) (was holding : T) → Puts old new name holding → kept_under old name ≡ Some was → kept_under new name ≡ Some holding
  put_there old new was holding puts is = puts.under ∙ ap (λ (o : Option T). in_place o holding) is

  -- nothing is put under another
  pub put_nowhere : (old new : List (KeptName T)) (holding : T) → Puts old new name holding → kept_under old name ≡ None → kept_under new name ≡ None
  put_nowhere old new holding puts is = puts.under ∙ ap (λ (o : Option T). in_place o holding) is

-- ---- the names

module _ {D O S : Type 0} (drive_state : D → DriveState) (shelf_state : S → ShelfState D) (sent : List ℕ → Option Sent) where
  abbrev Own : List ℕ → Option (Holding D O) → Type 0
  Own name under = IfSome under (IsOwn drive_state sent name)

  abbrev pub Are : S → List (KeptName (Holding D O)) → Type 0
  Are shelf kept = AreNames drive_state shelf_state sent (record { shelf = shelf; kept = kept })

  own_step : (old new : List (KeptName (Holding D O))) (name : List ℕ) → OnlyUnder old new name → Own name (kept_under new name)
      → ((other : List ℕ) → Own other (kept_under old other)) → (other : List ℕ) → Own other (kept_under new other)
  own_step old new name only own all other = cases (pointwise nat_eq other name) refl
    where
      cases : (b : Bool) → pointwise nat_eq other name ≡ b → Own other (kept_under new other)
      cases true is = subst (λ (n : List ℕ). Own n (kept_under new n)) (sym (same_names other name is)) own
      cases false is = subst (Own other) (sym (only.others other apart)) (all other)
        where
          apart : other ≢ name
          apart e = absurd (no (subst (λ (n : List ℕ). pointwise nat_eq other n ≡ true) e (name_itself other)))
            where
              no : pointwise nat_eq other name ≡ true → ⊥
              no same = cc

  own_put : (name : List ℕ) (was : Option (Holding D O)) (holding : Holding D O) → IsOwn drive_state sent name holding → Own name (in_place was holding)
  own_put name None holding own = tt
  own_put name (Some was) holding own = own

  -- what is kept under a name is its own
  pub own_under : (shelf : S) (kept : List (KeptName (Holding D O))) (name : List ℕ) (holding : Holding D O) → Are shelf kept → Some holding ≡ kept_under kept name → IsOwn drive_state sent name holding
  own_under shelf kept name holding are is = subst (Own name) (sym is) (are.own name)

  pub names_put : (shelf : S) (old new : List (KeptName (Holding D O))) (name : List ℕ) (holding : Holding D O) → Puts old new name holding → IsOwn drive_state sent name holding → Are shelf old → Are shelf new
  names_put shelf old new name holding puts own are = record {
    few = omega (arith, are.few, same_length name old new holding puts);
    own = own_step old new name puts.only (subst (Own name) (sym puts.under) (own_put name (kept_under old name) holding own)) are.own;
    shelf = are.shelf;
  }

  pub names_add : (shelf : S) (old new : List (KeptName (Holding D O))) (name : List ℕ) (holding : Holding D O) → Adds old new name holding → kept_under old name ≡ None → length old < MAX_NAMES
      → IsOwn drive_state sent name holding → Are shelf old → Are shelf new
  names_add shelf old new name holding adds none room own are = record {
    few = omega (arith, room, adds.only.many, ap count_of adds.under, ap count_of none);
    own = own_step old new name adds.only (subst (Own name) (sym adds.under) own) are.own;
    shelf = are.shelf;
  }

  pub names_remove : (shelf : S) (old new : List (KeptName (Holding D O))) (name : List ℕ) → LetsGo old new name → Are shelf old → Are shelf new
  names_remove shelf old new name goes are = record {
    few = omega (arith, are.few, goes.only.many, ap count_of goes.under);
    own = own_step old new name goes.only (subst (Own name) (sym goes.under) tt) are.own;
    shelf = are.shelf;
  }

  pub names_shelf : (now shelf : S) (kept : List (KeptName (Holding D O))) → ShelfIsFrom drive_state sent (shelf_state now) → Are shelf kept → Are now kept
  names_shelf now shelf kept from are = record { few = are.few; own = are.own; shelf = from }

  -- ---- a name that is nowhere is added as handed out

  module _ (shelf : S) (kept mid : List (KeptName (Holding D O))) (name copy : List ℕ) (same : copy ≡ name) (adds : Adds kept mid copy HandedOut) where
    pub added : Adds kept mid name HandedOut
    added = subst (λ (n : List ℕ). Adds kept mid n HandedOut) same adds

    -- the shelf gave its drive
    pub names_given : (next : S) → kept_under kept name ≡ None → length kept < MAX_NAMES → ShelfIsFrom drive_state sent (shelf_state next) → Are shelf kept → Are next mid
    names_given next none room from are = names_shelf next shelf mid from (names_add shelf kept mid name HandedOut added none room tt are)

    -- it gave none, and the name is dropped again
    pub names_not_given : (next : S) (new : List (KeptName (Holding D O))) → kept_under kept name ≡ None → length kept < MAX_NAMES → ShelfIsFrom drive_state sent (shelf_state next) → LetsGo mid new name
        → Are shelf kept → Are next new
    names_not_given next new none room from goes are = names_remove next mid new name goes (names_given next none room from are)
