use Rattle.std.proofs.Common.{◌≡◌, ◌<◌, ◌++◌, ◌∷◌, [], length, sym, ap, ◌∙◌, subst, ⊎_elim, append_assoc, append-nil}
use Rattle.std.proofs.lemmas.List.{nil_from_length}
use mathlib.Core.Option.{some}
use lib.ListN.{get_elem?}
use Rattle.atomic_table.proofs.Lists.{at_snoc}
use Rattle.gft_pass.specs.Ledger.{Lane}
use Rattle.gft_pass.proofs.PassLemmas.{at_middle, AllPasses-lane, AllPasses-counts}
use Rattle.gft_pass.proofs.roster.Roster.settle.Goals as goal

pub take_in-requires-clause-table : goal.take_in-requires-clause-table
take_in-requires-clause-table c =
    let i = c.loop-pass.invariant in
    let here = ap (λ l. get_elem? l (length c.loop-pass.yielded)) (sym i.8 ∙ ap (λ l. c.loop-pass.yielded ++ l) c.in-Some.ensures.steps.0) ∙ at_middle c.loop-pass.yielded _ _ in
    let lane = AllPasses-lane c.args.self.table (length c.args.self.counts) c.args.passes.items c.requires (length c.loop-pass.yielded) c.in-Some.pass here in
    (i.2 ∙ sym i.3, lane.0 ∙ sym i.3, subst (λ t. 0 < t.words) (sym i.3) i.4)

pub loop-pass-preserved : goal.loop-pass-preserved
loop-pass-preserved c =
    let i = c.loop-pass.invariant in
    let e = c.take_in.ensures in (
      tt,
      tt,
      e.table ∙ i.2,
      i.3,
      i.4,
      e.keeps.0,
      e.keeps.2 ∙ i.6,
      e.keeps.1 ∙ i.7,
      append_assoc c.loop-pass.yielded (c.in-Some.pass ∷ []) c.next.new.self.rest.items ∙ ap (λ l. c.loop-pass.yielded ++ l) (sym c.in-Some.ensures.steps.0) ∙ i.8,
      λ k p at. ⊎_elim
          (λ was. i.9 k p was)
          (λ (same : c.in-Some.pass ≡ p). subst (λ (q : Lane). get_elem? c.args.self.counts q.lane ≡ some q.count) same (ap (λ l. get_elem? l c.in-Some.pass.lane) (sym i.7) ∙ e.listed))
          (at_snoc c.loop-pass.yielded c.in-Some.pass p k at),
    )

pub returns-clause-counts : goal.returns-clause-counts
returns-clause-counts c =
    let i = c.loop-pass.invariant in
    let rest = c.loop-pass.pass-iterator.rest in
    let none = nil_from_length rest.items (sym rest.ok.0 ∙ c.in-None.ensures.steps.0) in
    let all : c.loop-pass.yielded ≡ c.args.passes.items = sym (append-nil _) ∙ ap (λ l. c.loop-pass.yielded ++ l) (sym none) ∙ i.8 in
    (i.7, i.7 ∙ AllPasses-counts c.args.self.table c.args.self.counts c.args.passes.items c.requires (λ k p at. i.9 k p (subst (λ l. get_elem? l k ≡ some p) (sym all) at)))
