use Rattle.std.proofs.Common.{length, set, sym, ap, subst}
use Rattle.atomic_table.proofs.Lists.{at_index}
use Rattle.gft_pass.specs.Ledger.{AllPasses, Lane, Ledger}
use Rattle.gft_pass.proofs.LedgerLemmas.{length-set}
use Rattle.gft_pass.proofs.PassLemmas.{AllPasses-lane, AllPasses-set}
use Rattle.gft_pass.proofs.tests.change_at.Goals as goal

pub change-requires : goal.change-requires
change-requires c =
    let r = c.args.roster.now in
    let passes = c.args.passes.now.items in
    let i = c.in-Some.ensures.item in
    let at = at_index passes c.args.place c.in-Some.pass.now i.3.0 i.1 in
    (AllPasses-lane r.table (length r.counts) passes c.requires c.args.place c.in-Some.pass.now at).0

pub returns-in-Some : goal.returns-in-Some
returns-in-Some c =
    let r = c.args.roster.now in
    let passes = c.args.passes.now.items in
    let i = c.in-Some.ensures.item in
    let e = c.change.ensures in
    let p = c.in-Some.pass.now in
    let q = c.change.new.pass in
    let at = at_index passes c.args.place p i.3.0 i.1 in
    let all = AllPasses-set r.table (length r.counts) passes c.args.place p q c.requires at
    (ap (λ (x : Lane). x.table) e.pass) (ap (λ (x : Lane). x.lane) e.pass) in
    subst (λ (x : Ledger). AllPasses x.table (length x.counts) (set passes c.args.place q)) (sym e.roster)
    (subst (λ m. AllPasses r.table m (set passes c.args.place q)) (sym (length-set r.counts p.lane _)) all)
