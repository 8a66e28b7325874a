use Rattle.std.proofs.Common.{◌≡◌, ◌≢◌, ◌≤◌, ◌⊎◌, ℕ, List, Option, Some, IsSome, true, false, sym, subst, ◌∙◌, inl, inr}
use Rattle.std.specs.Prelude.{IfSome, IfNone}
use Rattle.gft_range.specs.declared.Range.{Range}
use Rattle.gft_range.specs.Words.{IsFirstGap, HasNoGap}
use Rattle.gft_keep.specs.Words.{keep_of}
use Rattle.gridftpd.proofs.EndLemmas.{all_held, below_end, done_from, held_at_end, held_finished, hole_from, is_none, met_none_at_end, stored_from}
use Rattle.gridftpd.proofs.intake.Intake.finish.Goals as goal
use Rattle.gridftpd.proofs.intake.Intake.finish.Goals.{then-not-is_met-via-then-not-is_met, then-not-is_met-via-else-not-is_met+then-is_some}

pub finish-requires-clause-unbroken : goal.finish-requires-clause-unbroken
finish-requires-clause-unbroken g c = λ κs below. c.requires.is_open.unbroken

pub finish-requires-clause-mark : goal.finish-requires-clause-mark
finish-requires-clause-mark g c = λ κs below. subst (λ (mark : Option ℕ). IfSome mark (λ n. n ≤ c.end-end.result)) (sym c.requires.is_open.incomplete) tt

pub returns-then-not-is_met-clause-caused : goal.returns-then-not-is_met-clause-caused
returns-then-not-is_met-clause-caused g c stream left follows done =
    let set = (keep_of g.D.Drive.state c.args.self.now.keep).ranges in
    let count = c.args.self.now.count in
    let same : c.ranges-2.result.now.ranges ≡ set = c.ranges-2.ensures in
    let missing = c.first_gap-missing.result in
    let gap : IfSome missing (IsFirstGap set) = subst (λ (rs : List Range). IfSome missing (IsFirstGap rs)) same c.first_gap-missing.ensures.gap in
    let no_gap : IfNone missing (HasNoGap set) = subst (λ (rs : List Range). IfNone missing (HasNoGap rs)) same c.first_gap-missing.ensures.none in
    let why : (count.total ≢ Some count.eods) ⊎ IsSome missing = elim c.then-not-is_met.branch [
      | then-not-is_met-via-then-not-is_met w ↦ inl (λ met. let no : false ≡ true = sym w.if-not-is_met.true ∙ c.is_met.ensures.met.1 met in cc)
      | then-not-is_met-via-else-not-is_met+then-is_some w ↦ inr (sym w.is_some.ensures ∙ w.if-is_some.true)
    ] in (
      (
        met_none_at_end g.D.Drive.state stream c.args.self.now follows done,
        rw (c.total.ensures.total, c.eods.ensures.eods) (hole_from g.D.Drive.state stream c.args.self.now left missing follows done gap no_gap why),
      ),
      held_at_end g.D.Drive.state stream c.args.self.now follows done,
    )

pub returns-in-Ok-clause-caused : goal.returns-in-Ok-clause-caused
returns-in-Ok-clause-caused g c stream left follows done =
    let set = (keep_of g.D.Drive.state c.args.self.now.keep).ranges in
    let below = below_end set c.ranges-2.result.now.ranges c.ranges-3.result.now.ranges c.end-end.result c.first_gap-missing.result c.ranges-2.ensures c.ranges-3.ensures (is_none c.first_gap-missing.result (sym c.is_some.ensures ∙ c.if-is_some.false)) c.first_gap-missing.ensures.none c.end-end.ensures.whole in (
      (
        met_none_at_end g.D.Drive.state stream c.args.self.now follows done,
        done_from g.D.Drive.state stream c.args.self.now c.end-end.result follows done (c.is_met.ensures.met.0 c.if-not-is_met.false) c.is_met.ensures.count below,
      ),
      held_finished g.D.Drive.state stream c.args.self.now c.end-end.result (keep_of g.D.Drive.state c.finish.new.self) follows done c.finish.ensures.any_moment,
    )

pub returns-in-Ok-clause-complete : goal.returns-in-Ok-clause-complete
returns-in-Ok-clause-complete g c stream follows done complete =
    let set = (keep_of g.D.Drive.state c.args.self.now.keep).ranges in
    let below = below_end set c.ranges-2.result.now.ranges c.ranges-3.result.now.ranges c.end-end.result c.first_gap-missing.result c.ranges-2.ensures c.ranges-3.ensures (is_none c.first_gap-missing.result (sym c.is_some.ensures ∙ c.if-is_some.false)) c.first_gap-missing.ensures.none c.end-end.ensures.whole in
    stored_from g.D.Drive.state stream c.args.self.now c.end-end.result (keep_of g.D.Drive.state c.finish.new.self) follows done (c.is_met.ensures.met.0 c.if-not-is_met.false) c.is_met.ensures.count below c.finish.ensures.any_moment c.in-Ok.ensures.finished

pub returns-in-Err-clause-caused : goal.returns-in-Err-clause-caused
returns-in-Err-clause-caused g c stream left follows done =
    let new = keep_of g.D.Drive.state c.finish.new.self in (
      met_none_at_end g.D.Drive.state stream c.args.self.now follows done,
      all_held g.D.Drive.state stream c.args.self.now new.drive (held_finished g.D.Drive.state stream c.args.self.now c.end-end.result new follows done c.finish.ensures.any_moment),
    )
