use Rattle.std.proofs.Common.{◌≡◌, ◌+◌, ℕ, Err, refl, ap, subst, arith}
use Rattle.gft_journal.specs.declared.scan.Refused.{Refused}
use Rattle.gft_journal.specs.Scan.{GoesOver, MeetsBad}
use Rattle.gft_journal.proofs.Scanning.{goes_none, goes_more, meets_bad}
use Rattle.gft_journal.proofs.scan.Scan.take_all.Goals as goal

pub loop-i-init : goal.loop-i-init
loop-i-init c = record { over = goes_none c.args.first c.args.bytes.now c.args.self.now; in_limit = λ is. is }

pub loop-i-preserved : goal.loop-i-preserved
loop-i-preserved c = record {
  over = goes_more c.args.first c.loop-i.i c.args.bytes.now _ c.args.self.now c.loop-i.self c.take.new.self refl c.loop-i.invariant.over c.in-Ok.ensures.ok;
  in_limit = λ is. c.take.ensures.in_limit (c.loop-i.invariant.in_limit is);
}

pub returns-in-Err-Bad-clause-bad : goal.returns-in-Err-Bad-clause-bad
returns-in-Err-Bad-clause-bad c = λ i is.
    let same : c.args.first + c.loop-i.i ≡ i = cc is in
    subst (λ (n : ℕ). MeetsBad c.args.first c.args.count c.args.bytes.now c.args.self.now n) same
    (meets_bad c.args.first c.loop-i.i c.args.count c.args.bytes.now _ c.args.self.now c.loop-i.self c.loop-i-test.true refl c.loop-i.invariant.over (c.in-Err-Bad.ensures.bad (ap (λ (e : Refused). Err e) c.in-Err-Bad.field-0-is)))

pub returns-clause-ok : goal.returns-clause-ok
returns-clause-ok c =
    let all : c.loop-i.i ≡ c.args.count = omega arith in
    subst (λ (n : ℕ). GoesOver c.args.first n c.args.bytes.now c.args.self.now c.loop-i.self) all c.loop-i.invariant.over
