use Rattle.std.proofs.Common.{refl, ap, ◌∙◌, Some}
use Rattle.gft_library.proofs.ListLemmas.{looked_up, replaced, replaced_apart}
use Rattle.gft_library.proofs.list.NameList.put.Goals as goal

pub invariant_of-self : goal.invariant_of-self
invariant_of-self g c =
    replaced_apart c.self.inside.entries.items c.args.self.now c.self.view_is c.args.name.now c.in-Some.place c.in-Some.ensures c.index_mut.result.now c.index_mut.ensures.value c.self.invariant
    (record { name = c.index_mut.result.now.name; holding = c.replace.new.dest }) refl

pub returns-in-Some-clause-was : goal.returns-in-Some-clause-was
returns-in-Some-clause-was g c =
    ap Some c.replace.ensures.value
    ∙ looked_up c.self.inside.entries.items c.args.self.now c.self.view_is c.args.name.now c.in-Some.place c.in-Some.ensures c.index_mut.result.now c.index_mut.ensures.value c.self.invariant

pub returns-in-Some-clause-puts : goal.returns-in-Some-clause-puts
returns-in-Some-clause-puts g c =
    replaced c.self.inside.entries.items c.args.self.now c.self.view_is c.args.name.now c.in-Some.place c.in-Some.ensures c.index_mut.result.now c.index_mut.ensures.value c.self.invariant
    (record { name = c.index_mut.result.now.name; holding = c.replace.new.dest }) c.args.holding refl c.replace.ensures.after
