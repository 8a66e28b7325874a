use Rattle.std.proofs.Common.{◌≡◌, ◌<◌, [], sym, ap, ◌∙◌, subst, arith}
use Rattle.atomic_table.specs.Table.{keeps}
use Rattle.gft_meter.specs.Adds.{SeatState, added_on, with_bytes}
use Rattle.gft_meter.specs.Views.{live_view, with_add}
use Rattle.gft_meter.proofs.StepLemmas.{adds, word_of-one}
use Rattle.gft_meter.proofs.meter.Meter.add.Goals as goal

pub fetch_add-requires : goal.fetch_add-requires
fetch_add-requires c =
    let v = c.seat.inside.seat.me.0 in
    let stripe = c.args.stripe in
    let bytes = c.args.bytes in
    let is_place = c.word_of.ensures in
    let kept = c.self.invariant in
    let below : stripe < c.self.inside.stripes = subst (λ n. stripe < n) (sym (ap (λ m. m.stripes) c.self.view_is)) c.requires.stripe in
    let same = ap (λ s. added_on stripe s.adds) c.seat.view_is in (
      ap (λ s. s.table) c.seat.view_is ∙ c.requires.meter ∙ sym (ap (λ m. m.table) c.self.view_is),
      omega (arith, is_place, below, kept.1),
      λ s h len at fits. (
        with_add stripe bytes v,
        keeps,
        tt,
        adds _ s.words s.views _ v stripe bytes _ is_place (ap (λ m. m.0.is_live) c.seat.invariant) (omega (arith, below, kept.0)) (omega (arith, same, c.requires.bound)) h at,
        λ k is_other. ap (λ j. (with_add j bytes v, c.seat.inside.seat.me.1)) (word_of-one _ stripe k is_place is_other),
      ),
    )

pub invariant_of-seat : goal.invariant_of-seat
invariant_of-seat c =
    let grew = c.fetch_add.ensures.2 c.args.stripe c.word_of.ensures ∙ ap (λ m. (with_add c.args.stripe c.args.bytes m.0, m.1)) c.seat.invariant in
    grew ∙ sym (ap (λ m. (live_view m.0.rights m.0.adds, [])) grew)

pub returns : goal.returns
returns c =
    let seat = c.fetch_add.new.seat in
    let after : SeatState = record { table = seat.table_id; rights = seat.me.0.rights; adds = seat.me.0.adds } in
    let grew = c.fetch_add.ensures.2 c.args.stripe c.word_of.ensures in
    subst (λ s. after ≡ with_bytes s c.args.stripe c.args.bytes) c.seat.view_is
    (λ i. record { table = c.fetch_add.ensures.0 i; rights = (grew i).0.rights; adds = (grew i).0.adds })
