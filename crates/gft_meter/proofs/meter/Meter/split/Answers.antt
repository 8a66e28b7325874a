use Rattle.std.proofs.Common.{◌<◌, sym, ap, ◌∙◌, subst, arith}
use Rattle.gft_meter.proofs.StepLemmas.{splits}
use Rattle.gft_meter.proofs.meter.Meter.split.Goals as goal

pub split_seat-requires : goal.split_seat-requires
split_seat-requires c =
    let is = c.seat.view_is in (
      ap (λ s. s.table) is ∙ c.requires.meter ∙ sym (ap (λ m. m.table) c.self.view_is),
      omega (arith, c.self.invariant.1),
      λ s h at. splits _ s.words s.views _ _
          (ap (λ m. m.0.is_live) c.seat.invariant)
          (subst (λ n. 0 < n) (sym (ap (λ v. v.rights) is)) c.requires.right)
          (ap (λ v. v.adds) is ∙ c.requires.nothing)
          h at,
    )
