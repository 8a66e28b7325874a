use Rattle.std.proofs.Common.{refl, sym, ap, ◌∙◌, subst}
use Rattle.atomic_table.proofs.Lists.{set_again}
use Rattle.atomic_table.specs.Table.{keeps}
use Rattle.gft_pass.specs.Views.{AreSeats}
use Rattle.gft_pass.proofs.SeatLemmas.{joins, listed}
use Rattle.gft_pass.proofs.roster.take_in.Goals as goal

pub join_seat-requires : goal.join_seat-requires
join_seat-requires c = (
  c.requires.table.0,
  ap (λ p. p.table) c.pass.view_is ∙ c.requires.table.1,
  ap (λ m. m.1) c.pass.invariant,
  c.requires.table.2,
  λ s h at ne there. joins s.views _ _ _ _ h at ne there,
)

pub load-requires : goal.load-requires
load-requires c =
    let j = c.join_seat.ensures in (
      j.0 ∙ c.requires.table.0,
      c.requires.table.2,
      λ s h len at fits. (
        _,
        keeps,
        tt,
        subst AreSeats (sym (set_again s.views _ _ at)) h,
        (refl, listed s.views _ _ (ap (λ m. m.0.keeps_list) j.2 ∙ c.requires.keeps) (ap (λ m. m.0.has_lane) j.2 ∙ ap (λ m. m.0.has_lane) c.pass.invariant) h at),
      ),
    )
