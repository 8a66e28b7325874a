use Rattle.std.proofs.Common.{◌++◌, ◌∷◌, [], List, length, subst, sym}
use Rattle.gft_drive.specs.Words.{sent_by}
use Rattle.gft_keep.specs.Words.{keep_of}
use Rattle.gft_pass.specs.declared.Cause.TheVariants.{Memory}
use Rattle.gft_pass.specs.Words.{Lane}
use Rattle.gft_book.specs.Words.{HasAllPasses, book_of, start_now}
use Rattle.gft_book.proofs.Lemmas.{IsLive-carries_on, IsLive-running, KeptSince-keeps}
use Rattle.gft_receive.proofs.ListLemmas.{at_last}
use Rattle.gft_receive.proofs.RunLemmas.{ends_for, fail_kept, fail_passes, last_table, pass_there}
use Rattle.gft_receive.proofs.transfer.give_up.Goals as goal

pub fail-requires-clause-pass : goal.fail-requires-clause-pass
fail-requires-clause-pass g c κs within =
    pass_there c.args.book.stage (c.args.passes.items ++ c.args.teller ∷ []) (length c.args.passes.items) c.args.teller c.requires.passes (at_last c.args.passes.items c.args.teller)

pub settle-ending-requires-clause-passes : goal.settle-ending-requires-clause-passes
settle-ending-requires-clause-passes g c κs within =
    subst (λ (l : List Lane). HasAllPasses c.fail.new.self.stage l) (sym c.push_reserved.ensures.items)
    (fail_passes c.args.book.stage c.fail.new.self.stage c.args.passes.items c.args.teller c.fail.new.pass Memory c.fail.ensures.calls_on.goes_on.transfer c.fail.ensures.failed c.requires.passes)

pub returns-clause-rest : goal.returns-clause-rest
returns-clause-rest g c =
    let sent = sent_by g.O.Origin.source g.O.Origin.orders g.O.Origin.fit in
    let before = book_of g.D.Drive.state c.args.book in
    let failed = book_of g.D.Drive.state c.fail.new.self in
    let live = IsLive-carries_on (start_now before) before failed c.facts.ensures.keep (IsLive-running sent before c.facts.ensures c.requires.running) c.fail.ensures.calls_on.goes_on in
    (c.settle-ending.ensures.rest.rest, last_table (start_now before) c.fail.new.self.stage c.settle-ending.new.self.last live.transfer c.settle-ending.ensures.rest.last)

pub returns-clause-kept : goal.returns-clause-kept
returns-clause-kept g c =
    let sent = sent_by g.O.Origin.source g.O.Origin.orders g.O.Origin.fit in
    let before = book_of g.D.Drive.state c.args.book in
    let failed = book_of g.D.Drive.state c.fail.new.self in
    let live = IsLive-carries_on (start_now before) before failed c.facts.ensures.keep (IsLive-running sent before c.facts.ensures c.requires.running) c.fail.ensures.calls_on.goes_on in
    KeptSince-keeps (start_now before) failed.keep (keep_of g.D.Drive.state c.settle-ending.new.self.keep) c.facts-2.ensures.keep live.kept c.settle-ending.ensures.keeps.keeps

pub returns-clause-memory : goal.returns-clause-memory
returns-clause-memory g c =
    ends_for (keep_of g.D.Drive.state c.fail.new.self.keep) (keep_of g.D.Drive.state c.settle-ending.new.self.keep) Memory c.fail.new.self.stage c.settle-ending.result
    (fail_kept c.args.book.stage c.fail.new.self.stage c.args.teller c.fail.new.pass Memory c.requires.running c.fail.ensures.failed)
    c.settle-ending.ensures.finished c.settle-ending.ensures.refused
