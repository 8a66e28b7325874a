use Rattle.std.proofs.Common.{◌≡◌, refl, sym, subst}
use Rattle.gft_drive.proofs.Lemmas.{tells_some}
use Rattle.gft_keep.specs.declared.standing.Standing.{Standing}
use Rattle.gft_keep.specs.Keep.{IsKeep}
use Rattle.gft_keep.specs.Of.{keep_of}
use Rattle.gft_keep.specs.State.{KeepState}
use Rattle.gft_keep.proofs.Failing.{each_sound, failed_is_keep, failed_keep, none_told}
use Rattle.gft_keep.proofs.Images.{sound_undamaged}
use Rattle.gft_keep.proofs.Opened.{found_is_keep}
use Rattle.gft_keep.proofs.keep.Keep.reattach.Goals as goal

pub returns-in-Ok-clause-any_moment : goal.returns-in-Ok-clause-any_moment
returns-in-Ok-clause-any_moment g c =
    let s = g.D.Drive.state in
    let laws = (g.met.D.Drive g.world.𝓛 g.world.𝓜 g.world.𝓡 ((λ s x. x), (λ x. x), (λ x. x), λ x. x)).lawful in
    record {
      keep = found_is_keep (s c.args.self.now.drive) (s c.open.new.drive) c.in-Ok.field-0 (laws c.open.new.drive) c.in-Ok.ensures.found;
      any_moment = c.open.ensures.rests.images;
      time = c.open.ensures.rests.time;
    }

pub returns-in-Err-clause-any_moment : goal.returns-in-Err-clause-any_moment
returns-in-Err-clause-any_moment g c =
    let s = g.D.Drive.state in
    let laws = (g.met.D.Drive g.world.𝓛 g.world.𝓜 g.world.𝓡 ((λ s x. x), (λ x. x), (λ x. x), λ x. x)).lawful in
    let old = keep_of s c.args.self.now in
    let P : Standing → Type 0 = λ standing. IsKeep (record { drive = s c.open.new.drive; ranges = old.ranges; complete = old.complete; is_born = old.is_born; standing = standing; journal = old.journal }) in
    record {
      keep = subst P (sym c.once_failed-self.ensures) (failed_is_keep old (s c.open.new.drive) c.requires.keep (laws c.open.new.drive) c.open.ensures.rests);
      any_moment = c.open.ensures.rests.images;
      time = c.open.ensures.rests.time;
    }

pub returns-in-Err-clause-failed : goal.returns-in-Err-clause-failed
returns-in-Err-clause-failed g c =
    let old = keep_of g.D.Drive.state c.args.self.now in
    record {
      standing = c.once_failed-self.ensures;
      same = record { ranges = refl; complete = refl; is_born = refl };
      undamaged = λ damage is. none_told old.drive.contents (λ read told.
          sound_undamaged read damage (each_sound old old.standing c.requires.keep.stands (tells_some old.drive read told) read (c.requires.keep.lawful.read read told)) (c.in-Err.ensures.damaged damage is read told));
    }
