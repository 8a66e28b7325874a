use Rattle.std.proofs.Common.{◌≡◌, rules, ℕ, ◌+◌, ◌-◌, ◌^◌, ◌≤◌, ◌∷◌, List, min, arith, sym, ap, ◌∙◌}
use Rattle.gft_range.specs.declared.range.Range.{Range}
use Rattle.gft_layout.specs.Blocks.{ranges_every}
use Rattle.gft_layout.proofs.BlockLemmas.{ranges-next}
use Rattle.gft_layout.proofs.blocks.LayoutBlocksIterator.next.Goals as goal

pub returns-clause-steps : goal.returns-clause-steps
returns-clause-steps c =
    let top = 2 ^ 64 - 1 in
    let b = c.self.inside in
    let below : b.end ≤ top = omega arith in
    let step : c.saturating_add-self-inside.result ≡ min (b.at + b.step) top = c.saturating_add-self-inside.ensures in
    let stop : c.min.result ≡ min (min (b.at + b.len) top) b.end = omega arith in
    let make : ℕ → List Range → List Range = λ (stop : ℕ) (others : List Range). record { start = b.at; end = stop } ∷ others in
    sym c.self.view_is ∙ ranges-next top b.at b.len b.step b.end below c.self.invariant c.if-self.false
    ∙ ap (λ e. make e (ranges_every (min (b.at + b.step) top) b.len b.step b.end)) (sym stop)
    ∙ ap (λ a. make c.min.result (ranges_every a b.len b.step b.end)) (sym step)

pub returns-clause-goes : goal.returns-clause-goes
returns-clause-goes c =
    let steps = returns-clause-steps c in
    search (rules, steps)
