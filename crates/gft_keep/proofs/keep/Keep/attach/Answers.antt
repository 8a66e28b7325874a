use Rattle.std.proofs.Common.{rules, ◌≡◌, refl}
use Rattle.gft_journal.specs.declared.AttachError.{AttachError}
use Rattle.gft_keep.proofs.Images.{counts_fault, sound_undamaged}
use Rattle.gft_keep.proofs.Opened.{found_is_keep}
use Rattle.gft_keep.proofs.keep.Keep.attach.Goals as goal

pub returns-in-Ok-clause-ok : goal.returns-in-Ok-clause-ok
returns-in-Ok-clause-ok g c =
    let s = g.D.Drive.state in
    let laws = (g.met.D.Drive g.world.𝓛 g.world.𝓜 g.world.𝓡 ((λ s x. x), (λ x. x), (λ x. x), λ x. x)).lawful in
    record {
      keep = found_is_keep (s c.args.drive) (s c.open.new.drive) c.in-Ok.field-0 (laws c.open.new.drive) c.in-Ok.ensures.found;
      whole = refl;
      read = c.in-Ok.ensures.found.is.read;
      rests = c.open.ensures.rests;
      faults = c.in-Ok.ensures.cause.kept (λ is. cc);
    }

pub returns-in-Err-clause-failed : goal.returns-in-Err-clause-failed
returns-in-Err-clause-failed g c = record {
  rests = c.open.ensures.rests;
  cause = counts_fault c.in-Err.error _ _ c.in-Err.ensures.cause;
  damage = c.in-Err.ensures.damaged;
  sound = λ read told sound damage is. sound_undamaged read damage sound (c.in-Err.ensures.damaged damage is read told);
}
