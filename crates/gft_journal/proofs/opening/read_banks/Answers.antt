use Rattle.std.proofs.Common.{◌≡◌, ℕ, Err, sym, ap, ◌∙◌, subst}
use Rattle.std.specs.Prelude.{slice_index}
use Rattle.gft_drive.specs.Words.{bank_at}
use Rattle.gft_journal.specs.Damage.{FirstDamage}
use Rattle.gft_journal.specs.declared.damage.Damage.{Damage}
use Rattle.gft_journal.specs.declared.damage.AttachError.{AttachError}
use Rattle.gft_journal.specs.declared.damage.AttachError.TheVariants.{Damaged}
use Rattle.gft_journal.proofs.opening.read_banks.Goals as goal

pub returns-in-Err-read_version-clause-damaged : goal.returns-in-Err-read_version-clause-damaged
returns-in-Err-read_version-clause-damaged g c = λ damage is read told.
    let error : c.in-Err-read_version.error ≡ Damaged damage = cc is in
    let version = c.in-Err-read_version.ensures.damaged damage (ap (λ (e : AttachError). Err e) error) read (c.read_selector.ensures.unchanged.read ∙ told) in
    let head = c.in-Ok.ensures.selected read told in
    subst (λ (d : Damage). FirstDamage d read.ranges) (sym version.0) (c.requires.size read told, head.bank, ap (λ (b : ℕ). slice_index read.ranges (bank_at b)) head.bank, version.1)
