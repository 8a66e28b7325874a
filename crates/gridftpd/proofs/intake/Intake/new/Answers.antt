use Rattle.std.proofs.Common.{ℕ, [], List, refl, sym, subst, arith}
use Rattle.gft_keep.specs.Words.{keep_of}
use Rattle.gft_range.specs.declared.Range.{Range}
use Rattle.gft_range.specs.Words.{HasOffset}
use Rattle.gridftpd.proofs.intake.Intake.new.Goals as goal

pub returns-clause-follows : goal.returns-clause-follows
returns-clause-follows g c =
    let none = λ (x : ℕ) (had : HasOffset (keep_of g.D.Drive.state c.args.keep).ranges x). subst (λ (rs : List Range). HasOffset rs x) c.requires.empty had in
    record {
      told = [];
      carried = λ later. sym (c.new.ensures.to_come later);
      booked = record {
        offsets = λ x. (none x, λ came. absurd came);
        normal = c.requires.is_open.unbroken.facts.normal;
        few = c.requires.is_open.unbroken.facts.few;
      };
      kept = λ read told x had. absurd (none x had);
      is_open = c.requires.is_open;
      counted = record { total = c.new-2.ensures.total; eods = c.new-2.ensures.eods; agreed = tt };
      sound = tt;
      eods = refl;
      taken = c.new.ensures.taken;
      short = omega arith;
      unfinished = λ zero. tt;
      in_time = λ n lt. absurd (omega arith);
    }
