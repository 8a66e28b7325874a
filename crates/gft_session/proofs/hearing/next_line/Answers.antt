use Rattle.std.proofs.Common.{◌≡◌, ◌∷◌, [], arith, ap, ◌∙◌, refl, length, Err}
use Rattle.gft_outside.specs.Words.{Pause, Said}
use Rattle.gft_outside.proofs.Lemmas.{hears_more}
use Rattle.gft_session.proofs.HearingLemmas.{brings_more, byte_of, one_fed, one_heard, told_nothing, told_overlong}
use Rattle.gft_session.proofs.hearing.next_line.Goals as goal

pub returns-then-quiets-idle-clause-heard : goal.returns-then-quiets-idle-clause-heard
returns-then-quiets-idle-clause-heard g c =
    let so_far = c.bytes.invariant in record {
      inputs = Pause ∷ so_far.inputs;
      heard = hears_more _ _ _ so_far.inputs (Pause ∷ []) so_far.heard (rw c.in-Quiet.is at c.in-Ok.ensures.hears);
      told = told_nothing c.args.lines.now c.bytes.lines so_far.inputs so_far.brings so_far.settled;
      reason = (omega (arith, so_far.quiet, c.if-quiets-idle.true), so_far.patient);
    }

pub bytes-preserved-else-quiets-idle : goal.bytes-preserved-else-quiets-idle
bytes-preserved-else-quiets-idle g c =
    let so_far = c.bytes.invariant in record {
      inputs = Pause ∷ so_far.inputs;
      heard = hears_more _ _ _ so_far.inputs (Pause ∷ []) so_far.heard (rw c.in-Quiet.is at c.in-Ok.ensures.hears);
      brings = so_far.brings;
      settled = so_far.settled;
      quiet = omega (arith, so_far.quiet);
      fewer = omega (arith, so_far.fewer, c.if-quiets-idle.false);
      patient = (omega (arith, so_far.quiet, so_far.fewer, c.if-quiets-idle.false), so_far.patient);
      faults = c.in-Ok.ensures.cause.kept ∙ so_far.faults;
      one = omega (arith, c.poll.auto.buf, so_far.one);
    }

pub returns-then-fed-clause-heard : goal.returns-then-fed-clause-heard
returns-then-fed-clause-heard g c =
    let so_far = c.bytes.invariant in
    let buf = c.poll.new.buf in
    let fits = rw c.in-Bytes.is at c.in-Ok.ensures.fits in
    let one : length buf ≡ 1 = omega (arith, c.poll.auto.buf, so_far.one) in
    let all = one_fed c.in-Ok-feed.fed.whole c.bytes.lines c.feed.new.self buf c.in-Ok-feed.fed.used one c.in-Ok-feed.ensures.fed in record {
      inputs = Said (byte_of buf) ∷ so_far.inputs;
      heard = hears_more _ _ _ so_far.inputs (Said (byte_of buf) ∷ []) so_far.heard (one_heard buf _ _ _ one fits.0 (rw c.in-Bytes.is at c.in-Ok.ensures.hears));
      brings = rw c.if-fed.true at (brings_more c.args.lines.now c.bytes.lines c.feed.new.self so_far.inputs buf c.in-Ok-feed.fed one all so_far.brings c.in-Ok-feed.ensures.carried);
      settled = c.in-Ok-feed.ensures.carried.settled;
      patient = (omega (arith, c.requires.idle), so_far.patient);
    }

pub bytes-preserved : goal.bytes-preserved
bytes-preserved g c =
    let so_far = c.bytes.invariant in
    let buf = c.poll.new.buf in
    let fits = rw c.in-Bytes.is at c.in-Ok.ensures.fits in
    let one : length buf ≡ 1 = omega (arith, c.poll.auto.buf, so_far.one) in
    let all = one_fed c.in-Ok-feed.fed.whole c.bytes.lines c.feed.new.self buf c.in-Ok-feed.fed.used one c.in-Ok-feed.ensures.fed in record {
      inputs = Said (byte_of buf) ∷ so_far.inputs;
      heard = hears_more _ _ _ so_far.inputs (Said (byte_of buf) ∷ []) so_far.heard (one_heard buf _ _ _ one fits.0 (rw c.in-Bytes.is at c.in-Ok.ensures.hears));
      brings = rw c.if-fed.false at (brings_more c.args.lines.now c.bytes.lines c.feed.new.self so_far.inputs buf c.in-Ok-feed.fed one all so_far.brings c.in-Ok-feed.ensures.carried);
      settled = c.in-Ok-feed.ensures.carried.settled;
      quiet = refl;
      fewer = omega (arith, c.requires.idle);
      patient = (omega (arith, c.requires.idle), so_far.patient);
      faults = c.in-Ok.ensures.cause.kept ∙ so_far.faults;
      one = one;
    }

pub returns-in-Err-TooLong-clause-heard : goal.returns-in-Err-TooLong-clause-heard
returns-in-Err-TooLong-clause-heard g c =
    let so_far = c.bytes.invariant in
    let buf = c.poll.new.buf in
    let fits = rw c.in-Bytes.is at c.in-Ok.ensures.fits in
    let one : length buf ≡ 1 = omega (arith, c.poll.auto.buf, so_far.one) in record {
      inputs = Said (byte_of buf) ∷ so_far.inputs;
      heard = hears_more _ _ _ so_far.inputs (Said (byte_of buf) ∷ []) so_far.heard (one_heard buf _ _ _ one fits.0 (rw c.in-Bytes.is at c.in-Ok.ensures.hears));
      told = told_overlong c.args.lines.now c.bytes.lines c.feed.new.self so_far.inputs buf one so_far.brings (c.feed.ensures.too_long (c.in-Err-TooLong.is ∙ ap (λ e. Err e) c.in-Err-TooLong.field-0-is));
      reason = (omega (arith, c.requires.idle), so_far.patient);
    }

pub returns-in-Err-OutOfMemory-clause-heard : goal.returns-in-Err-OutOfMemory-clause-heard
returns-in-Err-OutOfMemory-clause-heard g c =
    let so_far = c.bytes.invariant in
    let buf = c.poll.new.buf in
    let fits = rw c.in-Bytes.is at c.in-Ok.ensures.fits in
    let one : length buf ≡ 1 = omega (arith, c.poll.auto.buf, so_far.one) in record {
      inputs = Said (byte_of buf) ∷ so_far.inputs;
      heard = hears_more _ _ _ so_far.inputs (Said (byte_of buf) ∷ []) so_far.heard (one_heard buf _ _ _ one fits.0 (rw c.in-Bytes.is at c.in-Ok.ensures.hears));
      told = told_nothing c.args.lines.now c.bytes.lines so_far.inputs so_far.brings so_far.settled;
      reason = (omega (arith, c.requires.idle), so_far.patient);
    }
