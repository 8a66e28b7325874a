use Rattle.std.proofs.Common.{ℕ, [], ◌∷◌, OnOk, sym, subst}
use Rattle.gft_drive.specs.Words.{Reads, Leaves}
use Rattle.gft_drive.specs.declared.Part.TheVariants.{Ranges}
use Rattle.gft_journal.specs.Journal.{Completes, CompletesOrNot, AreJustBelow}
use Rattle.gft_journal.proofs.Sets.{in_none, in_whole, completes_read, completes_crash}
use Rattle.gft_journal.proofs.journal.Journal.complete.Goals as goal

pub returns-then-len-eq0-clause-completed : goal.returns-then-len-eq0-clause-completed
returns-then-len-eq0-clause-completed g c =
    let s = g.D.Drive.state in
    let P : ℕ → Type 0 = λ n. AreJustBelow n (s c.args.drive.now) in
    let Q : ℕ → Type 0 = λ n. OnOk c.rebase_to.result (Reads Ranges (Completes n) (s c.args.drive.now) (s c.rebase_to.new.drive)) in
    subst Q (sym c.if-len-eq0.true) (completes_read c.rebase_to.result (s c.args.drive.now) (s c.rebase_to.new.drive) 0 [] in_none (subst P c.if-len-eq0.true c.requires.whole) c.rebase_to.ensures.based)

pub returns-then-len-eq0-clause-any_moment : goal.returns-then-len-eq0-clause-any_moment
returns-then-len-eq0-clause-any_moment g c =
    let s = g.D.Drive.state in
    let P : ℕ → Type 0 = λ n. AreJustBelow n (s c.args.drive.now) in
    let Q : ℕ → Type 0 = λ n. Leaves Ranges (CompletesOrNot n) (s c.args.drive.now) (s c.rebase_to.new.drive) in
    subst Q (sym c.if-len-eq0.true) (completes_crash (s c.args.drive.now) (s c.rebase_to.new.drive) 0 [] c.requires.stands.synced in_none (subst P c.if-len-eq0.true c.requires.whole) c.rebase_to.ensures.any_moment)

pub returns-clause-completed : goal.returns-clause-completed
returns-clause-completed g c =
    let s = g.D.Drive.state in
    completes_read c.rebase_to-2.result (s c.args.drive.now) (s c.rebase_to-2.new.drive) c.args.len (record { start = 0; end = c.args.len } ∷ []) (in_whole c.args.len) c.requires.whole c.rebase_to-2.ensures.based

pub returns-clause-any_moment : goal.returns-clause-any_moment
returns-clause-any_moment g c =
    let s = g.D.Drive.state in
    completes_crash (s c.args.drive.now) (s c.rebase_to-2.new.drive) c.args.len (record { start = 0; end = c.args.len } ∷ []) c.requires.stands.synced (in_whole c.args.len) c.requires.whole c.rebase_to-2.ensures.any_moment
