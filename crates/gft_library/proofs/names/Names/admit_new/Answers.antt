use Rattle.std.proofs.Common.{◌≡◌, ◌<◌, None, length, ap, ◌∙◌, subst, sym}
use Rattle.gft_drive.specs.Words.{sent_by}
use Rattle.gft_library.specs.declared.TheConstants.{MAX_NAMES}
use Rattle.gft_library.specs.Kept.{kept_under}
use Rattle.gft_library.specs.Names.{NamesSeen}
use Rattle.gft_library.proofs.NamesLemmas.{names_given, names_not_given}
use Rattle.gft_library.proofs.SourceLemmas.{given_from, not_given_from}
use Rattle.gft_library.proofs.names.Names.admit_new.Goals as goal

pub invariant_of-self-in-Ok-seek : goal.invariant_of-self-in-Ok-seek
invariant_of-self-in-Ok-seek g c =
    let sent = sent_by g.O.Origin.source g.O.Origin.orders g.O.Origin.fit in
    let none : kept_under c.self.inside.kept c.args.name.now ≡ None =
    ap (λ (n : NamesSeen g.row.S-D.Denot g.row.O.Denot g.row.S.Denot). kept_under n.kept c.args.name.now) c.self.view_is ∙ c.requires.none in
    let room : length c.self.inside.kept < MAX_NAMES =
    subst (λ (n : NamesSeen g.row.S-D.Denot g.row.O.Denot g.row.S.Denot). length n.kept < MAX_NAMES) (sym c.self.view_is) c.requires.room in
    let given = given_from sent g.S.D.Drive.state g.S.Shelf.state c.args.absent c.self.inside.shelf c.seek.new.shelf c.args.name.now c.in-Ok-seek.drive c.in-Ok-seek.ensures.sought
    c.self.invariant.shelf in
    names_given g.S.D.Drive.state g.S.Shelf.state sent c.self.inside.shelf c.self.inside.kept c.add.new.self c.args.name.now c.in-Ok.copy c.in-Ok.ensures c.in-Ok-add.ensures.added
    c.seek.new.shelf none room given.2 c.self.invariant

pub invariant_of-self-in-Err : goal.invariant_of-self-in-Err
invariant_of-self-in-Err g c =
    let sent = sent_by g.O.Origin.source g.O.Origin.orders g.O.Origin.fit in
    let none : kept_under c.self.inside.kept c.args.name.now ≡ None =
    ap (λ (n : NamesSeen g.row.S-D.Denot g.row.O.Denot g.row.S.Denot). kept_under n.kept c.args.name.now) c.self.view_is ∙ c.requires.none in
    let room : length c.self.inside.kept < MAX_NAMES =
    subst (λ (n : NamesSeen g.row.S-D.Denot g.row.O.Denot g.row.S.Denot). length n.kept < MAX_NAMES) (sym c.self.view_is) c.requires.room in
    let from = not_given_from sent g.S.D.Drive.state g.S.Shelf.state c.args.absent c.self.inside.shelf c.seek.new.shelf c.args.name.now c.in-Err.why c.in-Err.ensures.sought
    c.self.invariant.shelf in
    names_not_given g.S.D.Drive.state g.S.Shelf.state sent c.self.inside.shelf c.self.inside.kept c.add.new.self c.args.name.now c.in-Ok.copy c.in-Ok.ensures c.in-Ok-add.ensures.added
    c.seek.new.shelf c.forget.new.self none room from c.forget.ensures c.self.invariant

pub returns-in-Ok-seek-clause-own : goal.returns-in-Ok-seek-clause-own
returns-in-Ok-seek-clause-own g c =
    let sent = sent_by g.O.Origin.source g.O.Origin.orders g.O.Origin.fit in
    let given = given_from sent g.S.D.Drive.state g.S.Shelf.state c.args.absent c.self.inside.shelf c.seek.new.shelf c.args.name.now c.in-Ok-seek.drive c.in-Ok-seek.ensures.sought
    c.self.invariant.shelf in
    (given.0, given.1)
