use Rattle.std.proofs.Common.{refl, sym, ◌∙◌, true≢false}
use Rattle.gft_keep.specs.Words.{keep_of}
use Rattle.gft_book.proofs.EndLemmas.{Closes-by, Closes-none, end_exact, is_end}
use Rattle.gft_book.proofs.ending.close.Goals as goal

pub finish-requires-clause-exact : goal.finish-requires-clause-exact
finish-requires-clause-exact g c κs within = end_exact _ _ _ c.ranges-2.ensures c.end-len.ensures.whole (c.requires.no_gap c.if-completes.true)

pub returns-in_err-finish-clause-any_moment : goal.returns-in_err-finish-clause-any_moment
returns-in_err-finish-clause-any_moment g c =
    Closes-by (keep_of g.D.Drive.state c.args.keep.now) (keep_of g.D.Drive.state c.finish.new.self) c.end-len.result (end_exact _ _ _ c.ranges-2.ensures c.end-len.ensures.whole (c.requires.no_gap c.if-completes.true)) c.finish.ensures.any_moment

pub returns-in_ok-finish-clause-any_moment : goal.returns-in_ok-finish-clause-any_moment
returns-in_ok-finish-clause-any_moment g c =
    Closes-by (keep_of g.D.Drive.state c.args.keep.now) (keep_of g.D.Drive.state c.finish.new.self) c.end-len.result (end_exact _ _ _ c.ranges-2.ensures c.end-len.ensures.whole (c.requires.no_gap c.if-completes.true)) c.finish.ensures.any_moment

pub returns-in_ok-finish-clause-closed : goal.returns-in_ok-finish-clause-closed
returns-in_ok-finish-clause-closed g c =
    record {
      end = is_end _ _ _ c.ranges-2.ensures c.end-len.ensures.below c.end-len.ensures.reached;
      whole = λ _. c.in_ok-finish.ensures.finished;
      part = λ e. absurd (true≢false (sym c.if-completes.true ∙ e));
    }

pub returns-else-completes-clause-any_moment : goal.returns-else-completes-clause-any_moment
returns-else-completes-clause-any_moment g c = Closes-none (keep_of g.D.Drive.state c.args.keep.now) c.requires.is_open.unbroken.facts

pub returns-else-completes-clause-closed : goal.returns-else-completes-clause-closed
returns-else-completes-clause-closed g c =
    record {
      end = is_end _ _ _ c.ranges-2.ensures c.end-len.ensures.below c.end-len.ensures.reached;
      whole = λ e. absurd (true≢false (sym e ∙ c.if-completes.false));
      part = λ _. refl;
    }
