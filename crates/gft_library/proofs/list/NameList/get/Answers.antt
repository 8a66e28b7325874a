use Rattle.gft_library.proofs.ListLemmas.{looked_up}
use Rattle.gft_library.proofs.list.NameList.get.Goals as goal

pub returns-in-Some : goal.returns-in-Some
returns-in-Some g c = looked_up c.self.inside.entries.items c.args.self.now c.self.view_is c.args.name.now c.in-Some.place c.in-Some.ensures c.index.result.now c.index.ensures c.self.invariant
