use Rattle.std.proofs.Common.{[], ◌∷◌, ◌++◌, append_assoc, arith}
use Rattle.std.specs.Option.{option_copied}
use Rattle.gft_base.specs.Words.{parts_left}
use Rattle.gft_base.proofs.Lemmas.{AllZip-length, AllZip-middle, AllZip-push}
use Rattle.gft_text.specs.Words.{IsHostPort}
use Rattle.gft_opts.proofs.TargetsLemmas.{all_read}
use Rattle.gft_opts.proofs.targets.read_targets.Goals as goal

pub returns-then-count-gt-MAX_TARGETS-clause-none :
    goal.returns-then-count-gt-MAX_TARGETS-clause-none
returns-then-count-gt-MAX_TARGETS-clause-none c = λ targets is.
    omega (arith, is.few, AllZip-length IsHostPort _ targets is.read)

pub returns-in_default-read_host_port-clause-none :
    goal.returns-in_default-read_host_port-clause-none
returns-in_default-read_host_port-clause-none c = λ targets is.
    let kept = rw c.in-Some.is at c.loop-rest.invariant in
    let same = rw c.split_first.ensures.parts at kept.1 in
    let found = AllZip-middle IsHostPort kept.0 c.split_first.result.0.now (parts_left 32 (option_copied c.split_first.result.1)) targets (rw same at is.read) in
    c.in_default-read_host_port.ensures.none found.0 found.1

pub loop-rest-preserved : goal.loop-rest-preserved
loop-rest-preserved c =
    let kept = rw c.in-Some.is at c.loop-rest.invariant in
    let same = rw c.split_first.ensures.parts at kept.1 in
    (kept.0 ++ c.split_first.result.0.now ∷ [], simp append_assoc same, rw c.in_ok-push.ensures.ok (AllZip-push IsHostPort kept.0 c.loop-rest.targets c.split_first.result.0.now c.in-Ok.at kept.2 c.in-Ok.ensures.address))

pub returns-clause-targets : goal.returns-clause-targets
returns-clause-targets c =
    let kept = rw c.in_default.is at c.loop-rest.invariant in
    all_read c.args.text.now kept.0 c.loop-rest.targets kept.1 kept.2 (omega (arith, c.count_parts-count.ensures))
