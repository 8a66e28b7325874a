use Rattle.std.proofs.Common.{List, sym, subst}
use Rattle.gft_library.specs.declared.list.KeptName.{KeptName}
use Rattle.gft_library.specs.Kept.{AreApart, LetsGo}
use Rattle.gft_library.proofs.ListLemmas.{looked_up, removed, removed_apart}
use Rattle.gft_library.proofs.list.NameList.remove.Goals as goal

pub invariant_of-self : goal.invariant_of-self
invariant_of-self g c =
    subst (λ (k : List (KeptName g.row.T.Denot)). AreApart k) (sym c.remove-holding.ensures.items)
    (removed_apart c.self.inside.entries.items c.args.self.now c.self.view_is c.args.name.now c.in-Some.place c.in-Some.ensures c.remove-holding.result c.remove-holding.ensures.value c.self.invariant)

pub returns-in-Some-clause-was : goal.returns-in-Some-clause-was
returns-in-Some-clause-was g c =
    looked_up c.self.inside.entries.items c.args.self.now c.self.view_is c.args.name.now c.in-Some.place c.in-Some.ensures c.remove-holding.result c.remove-holding.ensures.value c.self.invariant

pub returns-in-Some-clause-gone : goal.returns-in-Some-clause-gone
returns-in-Some-clause-gone g c =
    subst (λ (k : List (KeptName g.row.T.Denot)). LetsGo c.args.self.now k c.args.name.now) (sym c.remove-holding.ensures.items)
    (removed c.self.inside.entries.items c.args.self.now c.self.view_is c.args.name.now c.in-Some.place c.in-Some.ensures c.remove-holding.result c.remove-holding.ensures.value c.self.invariant)
