use Rattle.std.proofs.Common.{refl, rules, inl, inr}
use Rattle.gft_receive.proofs.TurnLemmas.{closed_goes, closed_shows, same_bounds}
use Rattle.gft_receive.proofs.mover.Mover.close.Goals as goal
use Rattle.gft_receive.proofs.mover.Mover.close.Goals.{else-taken-gt0-via-then-taken-gt0+else-not-is_done, else-taken-gt0-via-else-taken-gt0}

pub returns-then-not-is_done : goal.returns-then-not-is_done
returns-then-not-is_done c inputs s n =
    (refl, closed_shows inputs c.args.channel c.taken-taken.result c.close-reader.result c.args.self.now c.close-reader.new.self s c.close-reader.ensures.closes c.taken-taken.ensures.taken c.if-taken-gt0.true (search rules), tt)

pub returns : goal.returns
returns c inputs s n = (
  refl,
  refl,
  closed_goes inputs c.args.channel c.close-reader.result c.args.self.now _ s c.close-reader.ensures.closes
      (elim c.else-taken-gt0.branch [
        | else-taken-gt0-via-then-taken-gt0+else-not-is_done w ↦ inr (search rules)
        | else-taken-gt0-via-else-taken-gt0 w ↦ inl (search rules)
      ]) refl refl c.reset.ensures.quiets,
  same_bounds c.args.self.now _ _ _ refl c.close-reader.ensures.closes.shift c.reset.ensures.idle,
)
