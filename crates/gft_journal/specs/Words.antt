-- The words of this crate that the clauses and proofs of other crates may cite.
pub use Rattle.gft_journal.specs.Attach.{Finds, FoundOn, IsDamageOf, Rests, WhereTold}
pub use Rattle.gft_journal.specs.Bank.{IsEnd}
pub use Rattle.gft_journal.specs.Damage.{FirstBadSlot, FirstDamage, HasAttachCause, HasTooMany, IsGood}
pub use Rattle.gft_journal.specs.Journal.{AddsOrNot, AddsRange, AreJustBelow, Bears, BearsOrNot, Becomes}
pub use Rattle.gft_journal.specs.Journal.{BecomesOrNot, Completes, CompletesOrNot, IsJournalOf, IsRange}
pub use Rattle.gft_journal.specs.Journal.{KeepsRest, Matches, SameJournal, slots_left}
