-- What a teller makes and tells when the movers have ended.
use Rattle.std.proofs.Common.{◌≡◌, ℕ, ◌<◌, List, [], ◌∷◌, ◌++◌, length, take, Some, None, refl, sym, ap, ◌∙◌, subst, ⊎_elim, true≢false}
use Rattle.std.specs.Prelude.{IfSome, IsSome, Option, false, is_some, slice_get}
use Rattle.std.proofs.lemmas.List.{append-nil}
use Rattle.std.proofs.lemmas.Option.{none-some}
use Rattle.gft_range.specs.declared.Range.{Range}
use Rattle.gft_range.specs.declared.TheConstants.{MAX_ITEMS}
use Rattle.gft_herald.specs.Words.{IsNamed}
use Rattle.gft_pass.specs.declared.Cause.{Cause}
use Rattle.gft_pass.specs.declared.Numbers.{Numbers}
use Rattle.gft_book.specs.declared.Mark.{Mark}
use Rattle.gft_book.specs.Words.{BookState, IsOutside, Learns, Marked, as_stopped, named_by}
use Rattle.gft_book.proofs.Lemmas.{take_named}
use Rattle.gft_receive.specs.declared.telling.TellError.{TellError}
use Rattle.gft_receive.specs.declared.telling.TellError.TheVariants as error
use Rattle.gft_receive.specs.declared.telling.Told.{Told}
use Rattle.gft_receive.specs.Teller.{HasPut, IsTellersFor, TellsLast, TellsMore, TellsRest, cause_of_tell}
use Rattle.gft_receive.proofs.ListLemmas.{at_last, same_some}
use Rattle.gft_receive.proofs.TellingLemmas.{put_starved}

pub is_none : {A : Type 0} (o : Option A) → false ≡ is_some o → o ≡ None
is_none None is = refl
is_none (Some x) is = absurd (true≢false (sym is))

-- no error is a cause that the Book finds itself
pub outside_of : (e : TellError) (cause : Cause) → cause ≡ cause_of_tell e → IsOutside cause
outside_of error.Memory cause is = subst IsOutside (sym is) tt
outside_of error.Sink cause is = subst IsOutside (sym is) tt

-- ---- the mark that was made

named_by-append : (marks : List Mark) (mark : Mark) → named_by (marks ++ mark ∷ []) ≡ named_by marks ++ mark.ranges.ranges ∷ []
named_by-append [] mark = refl
named_by-append (m ∷ marks) mark = ap (λ (l : List (List Range)). m.ranges.ranges ∷ l) (named_by-append marks mark)

module _ (old new : BookState) (n : ℕ) (mark : Mark) (m : Marked old new n) (at : slice_get new.marks n ≡ Some mark) where
  it_is : m.mark ≡ mark
  it_is = same_some m.mark mark
      (sym (at_last old.marks m.mark) ∙ ap (λ (i : ℕ). slice_get (old.marks ++ m.mark ∷ []) i) (sym m.next) ∙ ap (λ (l : List Mark). slice_get l n) (sym m.marks) ∙ at)

  pub marked_ranges : mark.ranges.ranges ≡ take MAX_ITEMS old.keep.ranges
  marked_ranges = ap (λ (k : Mark). k.ranges.ranges) (sym it_is) ∙ m.ranges

  pub marked_named : 0 < length old.keep.ranges → IsNamed mark.ranges.ranges
  marked_named some = subst IsNamed (sym marked_ranges) (take_named old.keep.ranges some)

  pub marked_more : named_by new.marks ≡ named_by old.marks ++ mark.ranges.ranges ∷ []
  marked_more =
      ap named_by m.marks ∙ named_by-append old.marks m.mark ∙ ap (λ (k : Mark). named_by old.marks ++ k.ranges.ranges ∷ []) it_is

-- ---- what was told

module _ {W : Type 0} (written : W → Option (List ℕ)) (is_open : W → Type 0) (faults : W → ℕ) where
  -- no mark was made
  pub last_none : (now : W) (ranges : List Range) (marks : List Mark) (t : Told) → (t.error ≡ None → 0 < length ranges → ⊥) → TellsLast written is_open faults now now ranges marks marks t t
  last_none now ranges marks t none = record {
    more = [];
    marks = sym (append-nil (named_by marks));
    tells = λ made first h. subst (λ (l : List (List Range)). HasPut written is_open faults first now l t) (sym (append-nil made)) h;
    last = λ quiet some. absurd (none quiet some);
  }

  -- memory for it was refused
  pub last_starved : (now : W) (ranges : List Range) (marks after : List Mark) (t : Told) → after ≡ marks → t.error ≡ None → TellsLast written is_open faults now now ranges marks after t (record { count = t.count; error = Some error.Memory })
  last_starved now ranges marks after t same none = record {
    more = [];
    marks = ap named_by same ∙ sym (append-nil (named_by marks));
    tells = λ made first h. subst (λ (l : List (List Range)). HasPut written is_open faults first now l (record { count = t.count; error = Some error.Memory })) (sym (append-nil made)) (put_starved written is_open faults first now made t none h);
    last = λ quiet some. absurd (none-some error.Memory (sym quiet));
  }

  -- it was told, or not
  pub last_told : (old new : W) (before after : BookState) (n : ℕ) (mark : Mark) (t u : Told) → Marked before after n → slice_get after.marks n ≡ Some mark
      → ((first : W) (made : List (List Range)) → HasPut written is_open faults first old made t → HasPut written is_open faults first new (made ++ mark.ranges.ranges ∷ []) u)
      → TellsLast written is_open faults old new before.keep.ranges before.marks after.marks t u
  last_told old new before after n mark t u m at tells = record {
    more = mark.ranges.ranges ∷ [];
    marks = marked_more before after n mark m at;
    tells = λ made first h. tells first made h;
    last = λ quiet some. ap (λ (r : List Range). r ∷ []) (marked_ranges before after n mark m at);
  }

  -- the rest of the line, and then the last mark
  pub rest_told : (old mid new : W) (ranges : List Range) (marks after : List Mark) (taken pushed pushed_now : List (List Range)) (t u v : Told) → pushed_now ≡ pushed
      → TellsMore written is_open faults old mid taken pushed_now t u → TellsLast written is_open faults mid new ranges marks after u v → TellsRest written is_open faults old new ranges marks after taken pushed t v
  rest_told old mid new ranges marks after taken pushed pushed_now t u v same rest last = record {
    more = last.more;
    marks = last.marks;
    tells = λ first h. last.tells pushed first (subst (λ (l : List (List Range)). HasPut written is_open faults first mid l u) same (rest first h));
    last = last.last;
  }

-- ---- the teller's numbers

-- an error that stays is still there
kept_why : (why now : Option TellError) (e : TellError) → (IsSome why → now ≡ why) → why ≡ Some e → now ≡ Some e
kept_why why now e stays is = stays (subst (λ (o : Option TellError). IsSome o) (sym is) refl) ∙ is

its_cause : (why now : Option TellError) (o : Option Cause) → (IsSome why → now ≡ why) → IfSome o (λ kept. (e : TellError) × (why ≡ Some e) × (kept ≡ cause_of_tell e)) → IfSome o (λ kept. (e : TellError) × (now ≡ Some e) × (kept ≡ cause_of_tell e))
its_cause why now None stays h = tt
its_cause why now (Some kept) stays (e, is, of_it) = (e, kept_why why now e stays is, of_it)

pub numbers_stay : (why now : Option TellError) (n : Numbers) → (IsSome why → now ≡ why) → IsTellersFor why n → IsTellersFor now n
numbers_stay why now n stays h = record { bytes = h.bytes; eods = h.eods; total = h.total; cause = its_cause why now n.cause stays h.cause }

-- and the pass of a teller that fails the transfer has its error, if it has one
pub numbers_fail : (now : Option TellError) (e : TellError) (before after : Numbers) → now ≡ Some e → IsTellersFor now before → Learns (λ kept. kept ≡ cause_of_tell e) before after → IsTellersFor now after
numbers_fail now e before after is h learned = ⊎_elim
    (λ (stopped : after ≡ as_stopped before). subst (IsTellersFor now) (sym stopped) (record { bytes = h.bytes; eods = h.eods; total = h.total; cause = h.cause }))
    (λ failed. subst (IsTellersFor now) (sym failed.2) (record { bytes = h.bytes; eods = h.eods; total = h.total; cause = (e, is, failed.1) }))
    learned

pub numbers_fresh : (now : Option TellError) (n : Numbers) → n.bytes ≡ 0 → n.eods ≡ 0 → n.total ≡ None → n.cause ≡ None → IsTellersFor now n
numbers_fresh now n bytes eods total cause = record { bytes = bytes; eods = eods; total = total; cause = subst (λ (o : Option Cause). IfSome o (λ kept. (e : TellError) × (now ≡ Some e) × (kept ≡ cause_of_tell e))) (sym cause) tt }
