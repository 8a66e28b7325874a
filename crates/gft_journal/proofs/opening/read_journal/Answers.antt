use Rattle.std.proofs.Common.{◌≡◌, Err, refl, sym, ap, ◌∙◌, subst, arith}
use Rattle.gft_journal.specs.Damage.{FirstDamage}
use Rattle.gft_journal.specs.Slot.{bank_number}
use Rattle.gft_journal.specs.declared.damage.Damage.{Damage}
use Rattle.gft_journal.specs.declared.damage.Damage.TheVariants.{Ranges}
use Rattle.gft_journal.specs.declared.damage.AttachError.{AttachError}
use Rattle.gft_journal.specs.declared.damage.AttachError.TheVariants.{Damaged}
use Rattle.gft_journal.proofs.Attaching.{bad_slot, covers, completed, too_many, matches_scan}
use Rattle.gft_journal.proofs.opening.read_journal.Goals as goal

pub returns-in-Err-read_bank-clause-damaged : goal.returns-in-Err-read_bank-clause-damaged
returns-in-Err-read_bank-clause-damaged g c = λ damage is read told.
    let error : c.in-Err-read_bank.error ≡ Damaged damage = cc is in
    let bad = c.in-Err-read_bank.ensures.damaged damage (ap (λ (e : AttachError). Err e) error) read (c.read_head.ensures.unchanged.read ∙ told) in
    let head = c.in-Ok.ensures.head read told in
    subst (λ (d : Damage). FirstDamage d read.ranges) (sym bad.1) (head.size, head.version, bad_slot read.ranges (bank_number c.in-Ok.head.0) c.in-Ok.head.1 bad.0 head bad.2 bad.3)

pub returns-then-count-gt-MAX_RANGES-clause-damaged : goal.returns-then-count-gt-MAX_RANGES-clause-damaged
returns-then-count-gt-MAX_RANGES-clause-damaged g c = λ damage is read told.
    let head = c.in-Ok.ensures.head read told in
    let scan = c.in-Ok-read_bank.ensures.scan read (c.read_head.ensures.unchanged.read ∙ told) in
    let same : Ranges c.min-count.result ≡ damage = cc is in
    subst (λ (d : Damage). FirstDamage d read.ranges) same
    (too_many read.ranges (bank_number c.in-Ok.head.0) c.in-Ok.head.1 c.in-Ok-read_bank.scan head scan c.min-count.result c.count-count.ensures.normal
    (omega (arith, c.min-count.ensures, c.count-count.ensures.count, scan.few)) (omega (arith, c.count-count.ensures.count, c.if-count-gt-MAX_RANGES.true)))

pub returns-clause-found : goal.returns-clause-found
returns-clause-found g c = record {
  finds = λ read told.
      let head = c.in-Ok.ensures.head read told in
      let scan = c.in-Ok-read_bank.ensures.scan read (c.read_head.ensures.unchanged.read ∙ told) in
      record {
        ranges = covers read.ranges (bank_number c.in-Ok.head.0) c.in-Ok.head.1 c.in-Ok-read_bank.scan head scan;
        complete = completed read.ranges (bank_number c.in-Ok.head.0) c.in-Ok.head.1 c.in-Ok-read_bank.scan head scan;
        born = head.born;
      };
  in_limit = c.in-Ok-read_bank.ensures.in_limit.ranges;
  end = c.in-Ok-read_bank.ensures.in_limit.complete;
  few = omega (arith, c.count-count.ensures.count, c.if-count-gt-MAX_RANGES.false);
  matches = λ read told.
      let head = c.in-Ok.ensures.head read told in
      let scan = c.in-Ok-read_bank.ensures.scan read (c.read_head.ensures.unchanged.read ∙ told) in
      matches_scan read.ranges (bank_number c.in-Ok.head.0) c.in-Ok.head.1 c.in-Ok-read_bank.scan head scan _ refl refl refl;
}
