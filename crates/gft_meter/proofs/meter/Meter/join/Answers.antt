use Rattle.std.proofs.Common.{sym, ap, ◌∙◌, arith}
use Rattle.gft_meter.proofs.StepLemmas.{joins}
use Rattle.gft_meter.proofs.meter.Meter.join.Goals as goal

pub join_seat-requires : goal.join_seat-requires
join_seat-requires c =
    let table = sym (ap (λ m. m.table) c.self.view_is) in (
      ap (λ s. s.table) c.seat.view_is ∙ c.requires.meter.0 ∙ table,
      ap (λ s. s.table) c.other.view_is ∙ c.requires.meter.1 ∙ table,
      ap (λ m. m.1) c.other.invariant,
      omega (arith, c.self.invariant.1),
      λ s h at apart there. joins _ s.words s.views _ _ _ _ (ap (λ m. m.0.is_live) c.seat.invariant) (ap (λ m. m.0.is_live) c.other.invariant) h at apart there,
    )
