use Rattle.std.proofs.Common.{refl}
use Rattle.std.proofs.lemmas.Option.{none-some}
use Rattle.gft_core.specs.declared.event.CoreEvent.TheVariants.{Eod, Eof, Mark, Resume}
use Rattle.gft_core.proofs.MachineLemmas.{Stands-quiet}
use Rattle.gft_core.proofs.ProgressLemmas.{Tells-mark}
use Rattle.gft_core.proofs.machine.Core.tell.Goals as goal

pub returns-in-Eod : goal.returns-in-Eod
returns-in-Eod c =
    rw (c.in-Eod.is, ← c.self.view_is)
    (λ quiet events s. Stands-quiet (Eod c.in-Eod.lane) events _ _ (λ x. refl) (λ x. refl) s (c.eod.ensures c.in-Eod.lane events s.progress))

pub returns-in-Eof : goal.returns-in-Eof
returns-in-Eof c =
    rw (c.in-Eof.is, ← c.self.view_is)
    (λ quiet events s. Stands-quiet (Eof c.in-Eof.total) events _ _ (λ x. refl) (λ x. refl) s (c.eof.ensures events s.progress))

pub returns-in-Fresh : goal.returns-in-Fresh
returns-in-Fresh c =
    rw c.in-Fresh.is
    (λ quiet events s. record {
      bytes = rw c.clear.ensures.items (λ x. refl);
      found = rw c.clear-in-Fresh.ensures.ranges (λ x. (λ h. absurd h, λ b. absurd (none-some b.0 b.1)));
      booked = rw c.clear-in-Fresh-2.ensures.ranges (λ x. (λ h. absurd h, λ b. absurd (none-some b.0 b.1)));
      progress = c.begin-self-inside.ensures.fresh events;
      begun = refl;
    })

pub returns-in-Resume : goal.returns-in-Resume
returns-in-Resume c =
    rw (c.in-Resume.is, ← c.self.view_is)
    (λ quiet events s. Stands-quiet (Resume c.in-Resume.list) events _ _ (λ x. refl) (λ x. refl) s (c.begin-self-inside-in-Resume.ensures.resume c.in-Resume.list events))

pub returns-in-Mark : goal.returns-in-Mark
returns-in-Mark c =
    rw (c.in-Mark.is, ← c.self.view_is)
    (λ quiet events s. Stands-quiet Mark events _ _ (λ x. refl) (λ x. refl) s (Tells-mark events _ s.progress))
