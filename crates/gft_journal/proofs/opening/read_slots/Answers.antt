use Rattle.std.proofs.Common.{rules, ◌≡◌, ℕ, ◌+◌, ◌*◌, List, length, Err, sym, ap, ◌∙◌, arith}
use Rattle.std.specs.Prelude.{slice_index}
use Rattle.gft_drive.specs.Words.{first_layout, slot_at, bank_at}
use Rattle.gft_journal.specs.Attach.{HasBytesAt}
use Rattle.gft_journal.specs.Slot.{bank_number}
use Rattle.gft_journal.specs.Scan.{HasSlots}
use Rattle.gft_journal.specs.declared.damage.Damage.TheVariants.{Slot}
use Rattle.gft_journal.specs.declared.scan.ScanError.{ScanError}
use Rattle.gft_journal.proofs.opening.read_slots.Goals as goal

has_slots : (xs : List ℕ) (at first n place : ℕ) (bytes : List ℕ) → place ≡ slot_at first_layout at first → length bytes ≡ 16 * n → HasBytesAt place bytes xs → HasSlots xs at first n bytes
has_slots xs at first n place bytes is size has k lt =
    ap (λ (p : ℕ). slice_index xs (p + k)) (sym is) ∙ has k (omega (arith, lt, size))

pub returns-in-Ok-take_all-clause-taken : goal.returns-in-Ok-take_all-clause-taken
returns-in-Ok-take_all-clause-taken g c = λ read told was.
    let at = bank_at (bank_number c.args.bank) in
    let size : length c.read_at.new.buf ≡ 16 * c.args.count = search rules in
    c.in-Ok-take_all.ensures.ok read.ranges at (has_slots read.ranges at c.args.first c.args.count _ c.read_at.new.buf c.place.ensures size (c.in-Ok.ensures.filled read told)) was

pub returns-in-Err-Bad-clause-damaged : goal.returns-in-Err-Bad-clause-damaged
returns-in-Err-Bad-clause-damaged g c = λ damage is read told was.
    let at = bank_at (bank_number c.args.bank) in
    let size : length c.read_at.new.buf ≡ 16 * c.args.count = search rules in
    let same : Slot c.in-Err-Bad.slot ≡ damage = cc is in
    let meets = c.in-Err-Bad.ensures.bad c.in-Err-Bad.slot (ap (λ (e : ScanError). Err e) c.in-Err-Bad.field-0-is) in (
      c.in-Err-Bad.slot,
      sym same,
      omega (arith, meets.0, c.requires.room),
      meets.1 read.ranges at (has_slots read.ranges at c.args.first c.args.count _ c.read_at.new.buf c.place.ensures size (c.in-Ok.ensures.filled read told)) was,
    )
