use Rattle.std.proofs.Common.{ℕ, ◌≤◌, length, take, subst, sym}
use Rattle.std.specs.Io.KnownBytes.{Appends}
use Rattle.gft_drive.proofs.Known.{appends-part, write-took, write-failed}
use Rattle.gft_drive.proofs.streams.write_whole.Goals.{in-Ok, in-Err}
use Rattle.gft_drive.proofs.streams.write_whole.Goals as goal

pub returns-in-Ok-eq0 : goal.returns-in-Ok-eq0
returns-in-Ok-eq0 g c =
    appends-part _ _ c.args.bytes.now _ (write-took _ _ _ c.args.bytes.now c.loop.done _ c.write.result c.in-Ok-eq0.is c.loop.invariant.0 c.loop.invariant.1 c.write.ensures.bound c.write.ensures.bytes).1

pub returns-in-Err-2 : goal.returns-in-Err-2
returns-in-Err-2 g c =
    appends-part _ _ c.args.bytes.now _ (write-failed _ _ _ _ _ c.write.result _ c.in-Err.is c.loop.invariant.1 c.write.ensures.bytes)

pub loop-preserved : goal.loop-preserved
loop-preserved g c =
    let P : ℕ → Type 0 = λ n. (n ≤ length c.args.bytes.now) × Appends (g.W.Write.contents c.args.writer.now) (g.W.Write.contents c.write.new.self) (take n c.args.bytes.now) in
    elim c.match-write.branch [
      | in-Ok w ↦ subst P (sym w.done-is) (write-took _ _ _ c.args.bytes.now c.loop.done _ c.write.result w.in-Ok.is c.loop.invariant.0 c.loop.invariant.1 c.write.ensures.bound c.write.ensures.bytes)
      | in-Err w ↦ subst P (sym w.done-is) (c.loop.invariant.0, write-failed _ _ _ _ _ c.write.result _ w.in-Err.is c.loop.invariant.1 c.write.ensures.bytes)
    ]

pub returns : goal.returns
returns g c = appends-part _ _ c.args.bytes.now _ c.loop.invariant.1
