-- The words of this crate that the clauses and proofs of other crates may cite.
pub use Rattle.gft_library.specs.Answers.{Answers, IsFor, LibraryCall, NamedWord, RefusedWith, RefusesReading}
pub use Rattle.gft_library.specs.Answers.{RefusesRemoving, RefusesStoring, Removes, Retrieves, Sizes, Stores}
pub use Rattle.gft_library.specs.Answers.{TakesAnswer, word_of_file}
pub use Rattle.gft_library.specs.Calls.{BeginsTransfer, ByBook, EndsReader, IsNotRead, IsNotRemoved}
pub use Rattle.gft_library.specs.Calls.{IsNotStored, IsOfLastTransfer, LendsFile, MayGo, RefusesReader}
pub use Rattle.gft_library.specs.Calls.{RefusesTransfer, RemovesKept, RemovesOrNot, SizesName, StoresName}
pub use Rattle.gft_library.specs.Calls.{TakesBookBack, TellsLength, absent_for, drive_in, unless_there}
pub use Rattle.gft_library.specs.Finding.{Asking, Comes, HasDrive, IsBarred, IsHandedOut, IsKeptFrom}
pub use Rattle.gft_library.specs.Finding.{IsNotGiven, IsNotOpened, IsNowhere, IsOneTooMany, IsOpenedOn}
pub use Rattle.gft_library.specs.Finding.{IsWant, Seeks, SeeksNot, Unchanged, asking}
pub use Rattle.gft_library.specs.Finding.{of_attach, of_begin, of_shelf}
pub use Rattle.gft_library.specs.Kept.{AreApart, OnlyUnder, kept_under}
pub use Rattle.gft_library.specs.Names.{AreNames, DriveIsFrom, IsOwn, IsOwnDrive, NamesSeen, ShelfIsFrom}
pub use Rattle.gft_library.specs.Tallies.{TallyList, new_tally, takes_answer, told_by}
