use Rattle.std.proofs.Common.{sym, ap, ◌∙◌}
use Rattle.std.specs.List.{position}
use Rattle.std.specs.Option.{is_some}
use Rattle.gft_outside.specs.MemoryShelves.{ShelfList, drive_under, is_under}
use Rattle.gft_outside.proofs.FindLemmas.{same_found}
use Rattle.gft_outside.proofs.memory_shelf.MemoryShelf.has.Goals as goal

pub returns : goal.returns
returns c =
    let name = c.args.name.now in
    c.is_some.ensures ∙ ap is_some (c.place_of.ensures ∙ ap (position (is_under name)) c.deref.ensures.value) ∙ same_found (is_under name) c.self.inside.drives.items
    ∙ ap (λ (v : ShelfList). is_some (drive_under v.drives name)) c.self.view_is
