-- The words of this crate that the clauses and proofs of other crates may cite.
pub use Rattle.gft_book.specs.Begin.{Admits, BeginsEvents, BeginsIn, BeginsStore, CountsBegin, HasBytes}
pub use Rattle.gft_book.specs.Begin.{IsCompleteAlready, IsFirstUnkept, IsFound, KeepsUnlessFresh, Known}
pub use Rattle.gft_book.specs.Begin.{MayAsk, NamesSome, NotBegun, OpensAfresh, OpensAgain, OpensFile}
pub use Rattle.gft_book.specs.Begin.{RefusedFor, broken_by, known_of}
pub use Rattle.gft_book.specs.Book.{BookState, HasAllPasses, HasKeptCause, HasMetTotal, InTransfer}
pub use Rattle.gft_book.specs.Book.{IsLanePass, IsPass, IsRunning, IsStoring, Moving, Seen, book_of}
pub use Rattle.gft_book.specs.Book.{cause_of, left_out, named_by, rest_of, transfer_of, up_to_last, usage_of}
pub use Rattle.gft_book.specs.Calls.{AwaitsMore, CallsOn, CarriesOn, ChangesPass, FindsEnded, FindsFailed}
pub use Rattle.gft_book.specs.Calls.{HasEodLeft, IsNext, NotesEnd, StageOnly}
pub use Rattle.gft_book.specs.Calls.{IsOfSource, IsOutside, KeepsCause, KeepsFirst, Marked, MarksOnly}
pub use Rattle.gft_book.specs.Calls.{RefusesBlock, RefusesEod, RefusesEof, RunsOn, SameTransfer, SendsBlock}
pub use Rattle.gft_book.specs.Calls.{SendsEod, SendsTotal, StopsBlock, StopsEod, StopsEof, TakesBlock}
pub use Rattle.gft_book.specs.Calls.{TakesEod, TakesEof, as_stopped, cause_of_keep, more_bytes, one_eod}
pub use Rattle.gft_book.specs.Calls.{turns_after, with_cause, with_total}
pub use Rattle.gft_book.specs.Ending.{Closes, ComesToRest, EndsFailed, EqualsSource, IsKeptEnd, IsStor}
pub use Rattle.gft_book.specs.Ending.{MissesNothing, ReadsAs, SettledFile, SettlesBadly, SettlesEvents}
pub use Rattle.gft_book.specs.Ending.{SettlesWell, ShowsHole}
pub use Rattle.gft_book.specs.Facts.{HasSent, ImagesAreFrom, IsBook, IsEnded, IsFrom, IsHonestCause, IsMark}
pub use Rattle.gft_book.specs.Facts.{IsSentBy}
pub use Rattle.gft_book.specs.Facts.{IsTransfer, MarksHold, NumbersAgree, ShowsCause, standing_after}
pub use Rattle.gft_book.specs.Fits.{AreMarks, Fits, IsAfterCrash, MayGoOn, Recovers, StoresEvents}
pub use Rattle.gft_book.specs.Fits.{TellsTransfer, beginning_of, failure_of, if_running, store_events}
pub use Rattle.gft_book.specs.Fits.{stored_events}
pub use Rattle.gft_book.specs.Keeping.{HoldsKept, Keeps, KeepsByte, KeepsThrough, NeverFalls, byte_read}
pub use Rattle.gft_book.specs.Live.{BlockIn, EodIn, IsLaneOf, IsLive, IsPassOf, IsStarted, KeptSince, Learns}
pub use Rattle.gft_book.specs.Live.{IsRefusalOf, LearnsCount, SamePass, Start, TotalIn, no_start, start_now}
pub use Rattle.gft_book.specs.Live.{FillsLine, HasOneTotal, IsCauseOfTotal, KeepsTotal, LineStart, MakesMarks}
pub use Rattle.gft_book.specs.Live.{no_line, start_at, start_of}
pub use Rattle.gft_book.specs.Readers.{AreTwins, BeginsRead, IsReadable, MayAskLength, MayRead, NotRead, OnlyReads}
pub use Rattle.gft_book.specs.Readers.{ReadsEvents, RefusedRead, one_reader_fewer, one_reader_more}
