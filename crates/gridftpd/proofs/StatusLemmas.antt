-- Which status an outcome is told by, and what that says of the counts.
use Rattle.std.proofs.Common.{◌≡◌, ◌≢◌, ℕ, ◌⊎◌, List, Option, refl, sym, subst, inl, inr}
use Rattle.std.specs.Io.KnownBytes.{Appends}
use Rattle.gridftpd.specs.declared.outcome.Outcome.{Outcome}
use Rattle.gridftpd.specs.declared.outcome.Outcome.TheVariants as outcome
use Rattle.gridftpd.specs.declared.status.Status.{Status}
use Rattle.gridftpd.specs.declared.status.Status.TheVariants as status
use Rattle.gridftpd.specs.Status.{number_of, status_of}
use Rattle.gridftpd.specs.Line.{text_of}
use Rattle.gridftpd.specs.Drain.{Answers, FaultCounts, NoneCounted, NoneRose, InputIsBlamed, DriveIsBlamed, IsMade, IsRefusal, IsTold}

-- which outcome a status stands for
record StandsFor (ending : Outcome) (number : ℕ) : Type 0 where
  pub complete : number ≡ 0 → ending ≡ outcome.Complete
  pub refused : number ≡ 1 → IsRefusal ending
  pub not_usage : number ≢ 2

stands_for : (ending : Outcome) → StandsFor ending (number_of (status_of ending))
stands_for outcome.Complete = record { complete = λ zero. refl; refused = λ one. absurd (cc); not_usage = λ two. cc }
stands_for (outcome.Lost taken) = record { complete = λ zero. absurd (cc); refused = λ one. tt; not_usage = λ two. cc }
stands_for (outcome.Hole total number missing) = record { complete = λ zero. absurd (cc); refused = λ one. tt; not_usage = λ two. cc }
stands_for (outcome.BadBlock bad) = record { complete = λ zero. absurd (cc); refused = λ one. tt; not_usage = λ two. cc }
stands_for (outcome.CountRefused error) = record { complete = λ zero. absurd (cc); refused = λ one. tt; not_usage = λ two. cc }
stands_for outcome.TooLong = record { complete = λ zero. absurd (cc); refused = λ one. tt; not_usage = λ two. cc }
stands_for (outcome.RangesFull kept) = record { complete = λ zero. absurd (cc); refused = λ one. tt; not_usage = λ two. cc }
stands_for outcome.Damaged = record { complete = λ zero. absurd (cc); refused = λ one. absurd (cc); not_usage = λ two. cc }
stands_for outcome.ReadFailed = record { complete = λ zero. absurd (cc); refused = λ one. absurd (cc); not_usage = λ two. cc }
stands_for outcome.DriveFailed = record { complete = λ zero. absurd (cc); refused = λ one. absurd (cc); not_usage = λ two. cc }
stands_for outcome.OutOfMemory = record { complete = λ zero. absurd (cc); refused = λ one. absurd (cc); not_usage = λ two. cc }

-- the status that was told, and its line for a refusal
pub record IsLineOf (ending : Outcome) (number : ℕ) (before after : Option (List ℕ)) : Type 0 where
  pub complete : number ≡ 0 → ending ≡ outcome.Complete
  pub refused : number ≡ 1 → IsRefusal ending × Appends before after (text_of ending)
  pub not_usage : number ≢ 2

told_so : (ending : Outcome) (own : Status) (before after : Option (List ℕ)) (faults risen : ℕ) → IsTold ending own before after faults risen → IsLineOf ending (number_of own) before after
told_so ending own before after faults risen (inl (inl put)) =
    let stands = stands_for ending in
    subst (λ (s : Status). IsLineOf ending (number_of s) before after) (sym put.0)
    (record { complete = stands.complete; refused = λ one. (stands.refused one, put.1); not_usage = stands.not_usage })
told_so ending own before after faults risen (inl (inr failed)) =
    subst (λ (s : Status). IsLineOf ending (number_of s) before after) (sym failed.0)
    (record { complete = λ zero. absurd (cc); refused = λ one. absurd (cc); not_usage = λ two. cc })
told_so ending own before after faults risen (inr (made, inl put)) =
    subst (λ (s : Status). IsLineOf ending (number_of s) before after) (sym put.0)
    (record { complete = λ zero. absurd (cc); refused = λ one. absurd (cc); not_usage = λ two. cc })
told_so ending own before after faults risen (inr (made, inr failed)) =
    subst (λ (s : Status). IsLineOf ending (number_of s) before after) (sym failed.0)
    (record { complete = λ zero. absurd (cc); refused = λ one. absurd (cc); not_usage = λ two. cc })

pub told_of : (ending : Outcome) (own : Status) (before after : Option (List ℕ)) (faults risen number : ℕ) → IsTold ending own before after faults risen → number ≡ number_of own → IsLineOf ending number before after
told_of ending own before after faults risen number told is =
    subst (λ (n : ℕ). IsLineOf ending n before after) (sym is) (told_so ending own before after faults risen told)

-- ---- the counts

-- an outcome whose line is made blames nobody
made_blames_none : (ending : Outcome) (a b c d : ℕ) → IsMade ending → InputIsBlamed ending a b → DriveIsBlamed ending c d → (b ≡ a) × (d ≡ c)
made_blames_none outcome.Complete a b c d made input drive = absurd made
made_blames_none (outcome.Lost taken) a b c d made input drive = (input, drive)
made_blames_none (outcome.Hole total number missing) a b c d made input drive = (input, drive)
made_blames_none (outcome.BadBlock bad) a b c d made input drive = (input, drive)
made_blames_none (outcome.CountRefused error) a b c d made input drive = (input, drive)
made_blames_none outcome.TooLong a b c d made input drive = absurd made
made_blames_none (outcome.RangesFull kept) a b c d made input drive = (input, drive)
made_blames_none outcome.Damaged a b c d made input drive = absurd made
made_blames_none outcome.ReadFailed a b c d made input drive = absurd made
made_blames_none outcome.DriveFailed a b c d made input drive = absurd made
made_blames_none outcome.OutOfMemory a b c d made input drive = (input, drive)

module _ (old new : FaultCounts) (before after : Option (List ℕ)) (output : new.output ≡ old.output) where
  calm : (new.input ≡ old.input) × (new.drive ≡ old.drive) → NoneCounted old new
  calm same = record { input = same.0; output = output; drive = same.1 }

  own_answers : (ending : Outcome) → InputIsBlamed ending old.input new.input → DriveIsBlamed ending old.drive new.drive → Appends before after (text_of ending) → Answers (status_of ending) old new before after
  own_answers outcome.Complete input drive line = (calm (input, drive), line)
  own_answers (outcome.Lost taken) input drive line = calm (input, drive)
  own_answers (outcome.Hole total number missing) input drive line = calm (input, drive)
  own_answers (outcome.BadBlock bad) input drive line = calm (input, drive)
  own_answers (outcome.CountRefused error) input drive line = calm (input, drive)
  own_answers outcome.TooLong input drive line = calm (input, drive)
  own_answers (outcome.RangesFull kept) input drive line = calm (input, drive)
  own_answers outcome.Damaged input drive line = (calm (input, drive), line)
  own_answers outcome.ReadFailed input drive line = (input, output, drive, line)
  own_answers outcome.DriveFailed input drive line = (input, output, drive, line)
  own_answers outcome.OutOfMemory input drive line = (calm (input, drive), line)

-- the status that an outcome is told by says so
pub answers_of : (ending : Outcome) (own : Status) (old new : FaultCounts) (before after : Option (List ℕ)) → IsTold ending own before after old.output new.output → InputIsBlamed ending old.input new.input → DriveIsBlamed ending old.drive new.drive
    → Answers own old new before after
answers_of ending own old new before after (inl (inl put)) input drive =
    subst (λ (s : Status). Answers s old new before after) (sym put.0) (own_answers old new before after put.2 ending input drive put.1)
answers_of ending own old new before after (inl (inr failed)) input drive = subst (λ (s : Status). Answers s old new before after) (sym failed.0) failed.1
answers_of ending own old new before after (inr (made, inl put)) input drive =
    subst (λ (s : Status). Answers s old new before after) (sym put.0) (calm old new before after put.2 (made_blames_none ending old.input new.input old.drive new.drive made input drive), put.1)
answers_of ending own old new before after (inr (made, inr failed)) input drive = subst (λ (s : Status). Answers s old new before after) (sym failed.0) failed.1

-- where no count rose, the status is that of a file that is stored, of want of memory or of a refusal
certain_by : (own : Status) (old new : FaultCounts) (before after : Option (List ℕ)) → Answers own old new before after → NoneRose old new → number_of own ≢ 2 → number_of own ≢ 7
    → (number_of own ≡ 0) ⊎ (number_of own ≡ 6) ⊎ (number_of own ≡ 1)
certain_by status.Complete old new before after answers none usage damaged = inl refl
certain_by status.Refused old new before after answers none usage damaged = inr (inr refl)
certain_by status.Usage old new before after answers none usage damaged = absurd (usage refl)
certain_by status.ReadFailed old new before after answers none usage damaged = absurd (none.input answers.0)
certain_by status.PutFailed old new before after answers none usage damaged = absurd (none.output answers)
certain_by status.DriveFailed old new before after answers none usage damaged = absurd (none.drive answers.2)
certain_by status.OutOfMemory old new before after answers none usage damaged = inr (inl refl)
certain_by status.Damaged old new before after answers none usage damaged = absurd (damaged refl)

pub certain_of : (own : Status) (number : ℕ) (old new : FaultCounts) (before after : Option (List ℕ)) → number ≡ number_of own → Answers own old new before after → NoneRose old new → number ≢ 2 → number ≢ 7
    → (number ≡ 0) ⊎ (number ≡ 6) ⊎ (number ≡ 1)
certain_of own number old new before after is answers none =
    subst (λ (n : ℕ). n ≢ 2 → n ≢ 7 → (n ≡ 0) ⊎ (n ≡ 6) ⊎ (n ≡ 1)) (sym is) (certain_by own old new before after answers none)
