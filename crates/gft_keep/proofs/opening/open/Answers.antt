use Rattle.std.proofs.Common.{◌≡◌, Err, sym, ap, subst, arith}
use Rattle.gft_journal.specs.declared.AttachError.{AttachError}
use Rattle.gft_journal.specs.declared.Damage.{Damage}
use Rattle.gft_journal.specs.declared.Damage.TheVariants.{Short}
use Rattle.gft_keep.specs.Image.{IsDamagedBy}
use Rattle.gft_keep.proofs.Images.{journal_damage}
use Rattle.gft_keep.proofs.Opened.{FoundOn-looked, found_short, found_sound}
use Rattle.gft_keep.proofs.Running.{Rests-looked}
use Rattle.gft_keep.proofs.opening.open.Goals as goal

pub returns-in-Err-clause-damaged : goal.returns-in-Err-clause-damaged
returns-in-Err-clause-damaged g c = λ damage is read told.
    journal_damage read damage (c.in-Err.ensures.damaged damage (ap (λ (e : AttachError). Err e) is) read told)

pub returns-then-len-end-clause-damaged : goal.returns-then-len-end-clause-damaged
returns-then-len-end-clause-damaged g c = λ damage is read told.
    let s = g.D.Drive.state in
    let same : Short c.reach-end.result c.in-Ok-len.len ≡ damage = cc is in
    subst (λ (d : Damage). IsDamagedBy d read) same
    (found_short (s c.args.drive.now) (s c.attach.new.drive) c.in-Ok.found c.in-Ok.ensures.found c.reach-end.result c.in-Ok-len.len c.reach-end.ensures read told c.in-Ok-len.ensures.length c.if-len-end.true)

pub returns-clause-found : goal.returns-clause-found
returns-clause-found g c =
    let s = g.D.Drive.state in
    let laws = (g.met.D.Drive g.world.𝓛 g.world.𝓜 g.world.𝓡 ((λ s x. x), (λ x. x), (λ x. x), λ x. x)).lawful in
    record {
      is = FoundOn-looked (s c.args.drive.now) (s c.attach.new.drive) (s c.len.new.self) c.in-Ok.found (laws c.len.new.self) c.in-Ok.ensures.found c.len.ensures.unchanged;
      normal = c.reach-end.ensures.normal;
      sound = λ read told. found_sound (s c.args.drive.now) (s c.attach.new.drive) c.in-Ok.found c.in-Ok.ensures.found c.reach-end.result c.in-Ok-len.len c.reach-end.ensures read told c.in-Ok-len.ensures.length c.if-len-end.false;
    }
