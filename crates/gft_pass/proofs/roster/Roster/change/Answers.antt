use Rattle.std.proofs.Common.{◌<◌, refl, sym, ap, ◌∙◌, subst}
use Rattle.gft_pass.specs.Views.{blank_view}
use Rattle.gft_pass.proofs.SeatLemmas.{enters, joins, gives_back}
use Rattle.gft_pass.proofs.roster.Roster.change.Goals as goal

pub load_new_seat-blank-requires : goal.load_new_seat-blank-requires
load_new_seat-blank-requires c =
    let i = c.self.invariant in
    (subst (λ t. 0 < t.words) (sym i.0) i.1, λ s h len fits. (blank_view, enters s.views h, refl))

pub join_seat-requires : goal.join_seat-requires
join_seat-requires c =
    let i = c.self.invariant in
    let lent = c.replace-lent.ensures.value in (
      sym i.0,
      ap (λ s. s.table_id) lent ∙ ap (λ p. p.table) c.pass.view_is ∙ c.requires ∙ sym (ap (λ b. b.table) c.self.view_is) ∙ sym i.0,
      ap (λ s. s.me.1) lent ∙ ap (λ m. m.1) c.pass.invariant,
      subst (λ t. 0 < t.words) (sym i.0) i.1,
      λ s h at ne there. joins s.views _ _ _ _ h at ne there,
    )

pub split_seat-requires : goal.split_seat-requires
split_seat-requires c =
    let i = c.self.invariant in
    let lent = c.replace-lent.ensures.value in
    let j = c.join_seat.ensures in
    let g = c.change_listed.ensures in (
      g.table ∙ j.0 ∙ sym i.0,
      subst (λ t. 0 < t.words) (sym i.0) i.1,
      λ s h at. gives_back s.views _ _
          (ap (λ m. m.0.keeps_list) g.changed ∙ ap (λ m. m.0.keeps_list) j.2 ∙ ap (λ m. m.0.keeps_list) i.2)
          (ap (λ m. m.0.has_lane) g.changed ∙ ap (λ m. m.0.has_lane) j.2 ∙ ap (λ s. s.me.0.has_lane) lent ∙ ap (λ m. m.0.has_lane) c.pass.invariant)
          h at,
    )
