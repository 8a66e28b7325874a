use Rattle.std.proofs.Common.{refl, inr, rules}
use Rattle.gft_drive.specs.Words.{sent_by}
use Rattle.gft_keep.specs.Words.{keep_of}
use Rattle.gft_book.specs.declared.begin.BeginError.TheVariants as begin
use Rattle.gft_book.proofs.BeginLemmas.{IsBook-finds, counted_begin}
use Rattle.gft_book.proofs.EndLemmas.{counted_from}
use Rattle.gft_book.proofs.StartLemmas.{BeginsEvents-begun, BeginsEvents-found, BeginsEvents-unopened, BeginsIn-found, BeginsIn-then, BeginsStore-opened, IsBook-begun, IsBook-mid, IsBook-unopened, KeepsUnlessFresh-found, KeepsUnlessFresh-open, KeepsUnlessFresh-same, NotBegun-found, NotBegun-unopened, at_rest, opens_for}
use Rattle.gft_book.proofs.book.Book.begin_store.Goals as goal

pub returns-then-ne-clause-keeps : goal.returns-then-ne-clause-keeps
returns-then-ne-clause-keeps g c = rw (← c.self.view_is) (KeepsUnlessFresh-same c.args.how _ c.self.invariant.keep)

pub invariant_of-self : goal.invariant_of-self
invariant_of-self g c = IsBook-finds (sent_by g.O.Origin.source g.O.Origin.orders g.O.Origin.fit) _ _ c.self.invariant (at_rest c.self.inside.stage (search rules)) refl refl c.prepare.ensures.keep c.prepare.ensures.finds

pub returns-in-Some-clause-refused : goal.returns-in-Some-clause-refused
returns-in-Some-clause-refused g c = rw (← c.self.view_is) (NotBegun-found _ _ _ c.args.how c.in-Some.refusal (at_rest c.self.inside.stage (search rules)) c.in-Some.ensures.refused c.in-Some.ensures.counts)

pub returns-in-Some-clause-since : goal.returns-in-Some-clause-since
returns-in-Some-clause-since g c = rw (← c.self.view_is) (BeginsIn-found _ _ c.prepare.ensures.finds.time refl)

pub returns-in-Some-clause-keeps : goal.returns-in-Some-clause-keeps
returns-in-Some-clause-keeps g c = rw (← c.self.view_is) (KeepsUnlessFresh-found c.args.how _ _ c.self.invariant.keep c.prepare.ensures.keep c.prepare.ensures.finds (counted_begin c.in-Some.refusal _ _ c.in-Some.ensures.counts))

pub returns-in-Some-clause-events : goal.returns-in-Some-clause-events
returns-in-Some-clause-events g c = rw (← c.self.view_is) (λ events f told. BeginsEvents-found _ _ c.args.how c.in-Some.refusal events c.self.invariant.keep c.prepare.ensures.keep (at_rest c.self.inside.stage (search rules)) c.prepare.ensures.finds told f)

pub invariant_of-self-in-Err : goal.invariant_of-self-in-Err
invariant_of-self-in-Err g c = IsBook-finds (sent_by g.O.Origin.source g.O.Origin.orders g.O.Origin.fit) _ _ c.self.invariant (at_rest c.self.inside.stage (search rules)) refl refl c.prepare.ensures.keep c.prepare.ensures.finds

pub returns-in-Err-clause-refused : goal.returns-in-Err-clause-refused
returns-in-Err-clause-refused g c = rw (← c.self.view_is) (NotBegun-found _ _ _ c.args.how begin.OutOfMemory (at_rest c.self.inside.stage (search rules)) (inr c.in_default.ensures.admits) c.in_default.ensures.counts)

pub returns-in-Err-clause-since : goal.returns-in-Err-clause-since
returns-in-Err-clause-since g c = rw (← c.self.view_is) (BeginsIn-found _ _ c.prepare.ensures.finds.time refl)

pub returns-in-Err-clause-keeps : goal.returns-in-Err-clause-keeps
returns-in-Err-clause-keeps g c = rw (← c.self.view_is) (KeepsUnlessFresh-found c.args.how _ _ c.self.invariant.keep c.prepare.ensures.keep c.prepare.ensures.finds (counted_begin begin.OutOfMemory _ _ c.in_default.ensures.counts))

pub returns-in-Err-clause-events : goal.returns-in-Err-clause-events
returns-in-Err-clause-events g c = rw (← c.self.view_is) (λ events f told. BeginsEvents-found _ _ c.args.how begin.OutOfMemory events c.self.invariant.keep c.prepare.ensures.keep (at_rest c.self.inside.stage (search rules)) c.prepare.ensures.finds told f)

pub invariant_of-self-then-is_err : goal.invariant_of-self-then-is_err
invariant_of-self-then-is_err g c =
    IsBook-unopened (sent_by g.O.Origin.source g.O.Origin.orders g.O.Origin.fit) c.args.how _ _ (IsBook-mid (sent_by g.O.Origin.source g.O.Origin.orders g.O.Origin.fit) _ (keep_of g.D.Drive.state c.prepare.new.keep) c.self.invariant (at_rest c.self.inside.stage (search rules)) c.prepare.ensures.keep c.prepare.ensures.finds) c.in_default.ensures.ready c.open_file.ensures.any_moment (search rules) (at_rest c.self.inside.stage (search rules)) refl c.forget_marks.ensures

pub returns-then-is_err-clause-refused : goal.returns-then-is_err-clause-refused
returns-then-is_err-clause-refused g c =
    rw (← c.self.view_is) (NotBegun-unopened _ _ _ (keep_of g.D.Drive.state c.prepare.new.keep) c.args.how (at_rest c.self.inside.stage (search rules)) refl refl refl c.forget_marks.ensures c.in_default.ensures.admits c.in_default.ensures.counts (search rules) (search rules))

pub returns-then-is_err-clause-since : goal.returns-then-is_err-clause-since
returns-then-is_err-clause-since g c = rw (← c.self.view_is) (BeginsIn-then _ _ (keep_of g.D.Drive.state c.prepare.new.keep) c.prepare.ensures.finds.time c.open_file.ensures.any_moment.time c.open_file.ensures.any_moment.keep refl)

pub returns-then-is_err-clause-keeps : goal.returns-then-is_err-clause-keeps
returns-then-is_err-clause-keeps g c =
    rw (← c.self.view_is) (KeepsUnlessFresh-open c.args.how _ (keep_of g.D.Drive.state c.prepare.new.keep) _ c.self.invariant.keep c.prepare.ensures.keep c.prepare.ensures.finds (counted_begin begin.OutOfMemory _ _ c.in_default.ensures.counts) c.in_default.ensures.ready c.open_file.ensures.any_moment (counted_from _ _ c.open_file.ensures.cause.later) (λ _. (search rules)))

pub returns-then-is_err-clause-events : goal.returns-then-is_err-clause-events
returns-then-is_err-clause-events g c =
    rw (← c.self.view_is) (λ events f told. BeginsEvents-unopened _ _ (keep_of g.D.Drive.state c.prepare.new.keep) c.args.how begin.DriveFailed events c.self.invariant.keep c.prepare.ensures.keep (at_rest c.self.inside.stage (search rules)) refl c.prepare.ensures.finds c.in_default.ensures.ready c.open_file.ensures.any_moment (search rules) told f)

pub invariant_of-self-2 : goal.invariant_of-self-2
invariant_of-self-2 g c =
    IsBook-begun (sent_by g.O.Origin.source g.O.Origin.orders g.O.Origin.fit) c.args.how _ _ _ _ (IsBook-mid (sent_by g.O.Origin.source g.O.Origin.orders g.O.Origin.fit) _ (keep_of g.D.Drive.state c.prepare.new.keep) c.self.invariant (at_rest c.self.inside.stage (search rules)) c.prepare.ensures.keep c.prepare.ensures.finds) c.in_default.ensures.ready c.open_file.ensures.any_moment (search rules) c.in_default.ensures.admits
    refl (search rules) refl c.in-Ok.ensures.counts c.new.ensures.total c.new.ensures.eods refl

pub returns-clause-begun : goal.returns-clause-begun
returns-clause-begun g c =
    rw (← c.self.view_is) (BeginsStore-opened _ _ (keep_of g.D.Drive.state c.prepare.new.keep) c.args.how c.args.lanes c.in-Ok.begun.1.items _ (at_rest c.self.inside.stage (search rules)) refl refl refl c.new.ensures.total c.new.ensures.eods
    c.in-Ok.ensures.counts c.in-Ok.ensures.passes c.in-Ok.ensures.fresh (search rules) refl refl c.prepare.ensures.keep c.prepare.ensures.finds c.in_default.ensures.ready c.in_default.ensures.admits c.in_default.ensures.counts (search rules) (search rules))

pub returns-clause-since : goal.returns-clause-since
returns-clause-since g c = rw (← c.self.view_is) (BeginsIn-then _ _ (keep_of g.D.Drive.state c.prepare.new.keep) c.prepare.ensures.finds.time c.open_file.ensures.any_moment.time c.open_file.ensures.any_moment.keep refl)

pub returns-clause-keeps : goal.returns-clause-keeps
returns-clause-keeps g c =
    rw (← c.self.view_is) (KeepsUnlessFresh-open c.args.how _ (keep_of g.D.Drive.state c.prepare.new.keep) (keep_of g.D.Drive.state c.open_file.new.keep) c.self.invariant.keep c.prepare.ensures.keep c.prepare.ensures.finds (counted_begin begin.OutOfMemory _ _ c.in_default.ensures.counts) c.in_default.ensures.ready c.open_file.ensures.any_moment (counted_from _ _ c.open_file.ensures.cause.later) (λ fresh. opens_for c.args.how (keep_of g.D.Drive.state c.prepare.new.keep) (keep_of g.D.Drive.state c.open_file.new.keep) fresh (search rules)))

pub returns-clause-events : goal.returns-clause-events
returns-clause-events g c =
    rw (← c.self.view_is) (λ events f told. BeginsEvents-begun _ _ (keep_of g.D.Drive.state c.prepare.new.keep) c.args.how c.in-Ok.begun.1 _ events c.self.invariant.keep c.prepare.ensures.keep (at_rest c.self.inside.stage (search rules)) refl c.prepare.ensures.finds c.in_default.ensures.ready c.open_file.ensures.any_moment (search rules) c.in_default.ensures.admits
    (search rules) c.new.ensures.total c.new.ensures.eods refl told f)
