use Rattle.std.proofs.Common.{List, sym, ap, ◌∙◌, subst}
use Rattle.std.specs.Prelude.{OnOk}
use Rattle.gft_library.specs.Kept.{Adds, kept_under}
use Rattle.gft_library.specs.declared.list.KeptName.{KeptName}
use Rattle.gft_library.proofs.ListLemmas.{pushed, pushed_apart}
use Rattle.gft_library.proofs.list.NameList.add.Goals as goal
use Rattle.gft_library.proofs.list.NameList.add.Goals.{in-Ok, in-Err}

pub invariant_of-self : goal.invariant_of-self
invariant_of-self g c =
    pushed_apart (record { name = c.args.name; holding = c.args.holding }) c.self.inside.entries.items c.push.new.self.items c.push.result
    (ap (λ (k : List (KeptName g.row.T.Denot)). kept_under k c.args.name) c.self.view_is ∙ c.requires.none) c.self.invariant c.push.ensures.items

pub returns-clause-added : goal.returns-clause-added
returns-clause-added g c =
    let added = Adds c.args.self.now c.push.new.self.items c.args.name c.args.holding in
    elim c.match-push.branch [
      | in-Ok w ↦ subst (λ r. OnOk r added) (sym w.result-is)
          (pushed (record { name = c.args.name; holding = c.args.holding }) c.self.inside.entries.items c.args.self.now c.push.new.self.items c.self.view_is c.requires.none w.in-Ok.ensures.items)
      | in-Err w ↦ subst (λ r. OnOk r added) (sym w.result-is) tt
    ]
