use Rattle.std.proofs.Common.{◌≡◌, List, Some, None, sym, ap, ◌∙◌}
use Rattle.std.specs.List.{position}
use Rattle.gft_drive.specs.Memory.{Memory}
use Rattle.gft_outside.specs.MemoryShelves.{is_under, without_name}
use Rattle.gft_outside.proofs.FindLemmas.{first_there, nowhere}
use Rattle.gft_outside.proofs.memory_shelf.take_named.Goals as goal

pub returns-in-Some-clause-taken : goal.returns-in-Some-clause-taken
returns-in-Some-clause-taken c =
    let name = c.args.name.now in
    let drives = c.args.drives.now.items in
    let at : position (is_under name) drives ≡ Some c.in-Some.at = ap (position (is_under name)) (sym c.deref.ensures.value) ∙ sym c.in-Some.ensures in
    let there = first_there (is_under name) drives c.in-Some.at c.remove-found.result at in
    ap Some (c.into_drive.ensures ∙ c.remove-found.ensures.value) ∙ sym there.1

pub returns-in-Some-clause-left : goal.returns-in-Some-clause-left
returns-in-Some-clause-left c =
    let name = c.args.name.now in
    let drives = c.args.drives.now.items in
    let at : position (is_under name) drives ≡ Some c.in-Some.at = ap (position (is_under name)) (sym c.deref.ensures.value) ∙ sym c.in-Some.ensures in
    let there = first_there (is_under name) drives c.in-Some.at c.remove-found.result at in
    c.drop_named.ensures ∙ ap (without_name name) c.remove-found.ensures.items ∙ there.2

pub returns-in-None-clause-taken : goal.returns-in-None-clause-taken
returns-in-None-clause-taken c =
    let name = c.args.name.now in
    let drives = c.args.drives.now.items in
    let at : position (is_under name) drives ≡ None = ap (position (is_under name)) (sym c.deref.ensures.value) ∙ sym c.in-None.ensures in
    sym (nowhere (is_under name) drives at).0

pub returns-in-None-clause-left : goal.returns-in-None-clause-left
returns-in-None-clause-left c =
    let name = c.args.name.now in
    let drives = c.args.drives.now.items in
    let at : position (is_under name) drives ≡ None = ap (position (is_under name)) (sym c.deref.ensures.value) ∙ sym c.in-None.ensures in
    sym (nowhere (is_under name) drives at).1
