-- The code and the lines of every reply (RFC 959, section 4.2; RFC 2389; RFC 3659; GFD.20). No other
-- definition has a text.
use Rattle.std.specs.Prelude.{ℕ, ◌≤◌, List, [], ◌∷◌, ◌++◌, map, codes, decimal, length}
use Rattle.std.specs.Prelude.{Option, None, Some, Bool, not, ◌&&◌, ◌==◌, nat_lt}
use Rattle.std.specs.List.{list_all}
use Rattle.gft_base.specs.Words.{Lacks, line_feed}
use Rattle.gft_text.specs.Words.{host_port_text}
use Rattle.gft_reply.specs.declared.Reply.{Reply}
use Rattle.gft_opts.specs.declared.TheConstants.{MAX_TARGETS}
use Rattle.gft_command.specs.declared.CommandError.{CommandError}
use Rattle.gft_command.specs.declared.CommandError.TheVariants as unread
use Rattle.gft_range.specs.declared.Range.{Range}
use Rattle.gft_pass.specs.declared.Cause.{Cause}
use Rattle.gft_pass.specs.declared.Cause.TheVariants as causes
use Rattle.gft_book.specs.declared.Use.{Use}
use Rattle.gft_book.specs.declared.Use.TheVariants as uses
use Rattle.gft_library.specs.declared.LibraryError.{LibraryError}
use Rattle.gft_library.specs.declared.LibraryError.TheVariants as refusals
use Rattle.gft_reply_kind.specs.declared.reply_kind.ReplyKind.{ReplyKind}
use Rattle.gft_reply_kind.specs.declared.reply_kind.ReplyKind.TheVariants as kinds

-- a reply of one line
abbrev pub line : ℕ → List ℕ → Reply
line code text = record { code = code; lines = text ∷ [] }

-- a reply of several lines
abbrev pub lines_from : ℕ → List ℕ → List (List ℕ) → List ℕ → Reply
lines_from code first inner last = record { code = code; lines = first ∷ (inner ++ last ∷ []) }

-- a line that is no command
unfoldable pub unread_reply : CommandError → Reply
unread_reply unread.UnknownVerb = line 500 (codes "Unknown command.")
unread_reply unread.MissingParameter = line 501 (codes "Parameter missing.")
unread_reply unread.BadParameter = line 501 (codes "Bad parameter.")
unread_reply unread.OutOfMemory = line 455 (codes "Out of memory.")

-- a number or a range, where there is one
abbrev pub number_text : Option ℕ → List ℕ
number_text None = codes "none"
number_text (Some number) = decimal number

abbrev pub range_text : Option Range → List ℕ
range_text None = codes "none"
range_text (Some range) = decimal range.start ++ (codes "-" ++ decimal range.end)

abbrev pub lost_text : ℕ → ℕ → ℕ → List ℕ
lost_text lane channel taken =
    codes "Channel lost: lane " ++ (decimal lane ++ (codes ", channel " ++ (decimal channel
    ++ (codes ", " ++ (decimal taken ++ codes " bytes taken.")))))

abbrev pub bad_block_text : ℕ → ℕ → ℕ → ℕ → List ℕ
bad_block_text place flags count offset =
    codes "Bad block at " ++ (decimal place ++ (codes ": flags " ++ (decimal flags
    ++ (codes ", count " ++ (decimal count ++ (codes ", offset " ++ (decimal offset ++ codes ".")))))))

abbrev pub two_totals_text : ℕ → ℕ → List ℕ
two_totals_text kept new =
    codes "Two totals: " ++ (decimal kept ++ (codes " and " ++ (decimal new ++ codes ".")))

abbrev pub idle_text : ℕ → ℕ → List ℕ
idle_text lane turn =
    codes "Idle: lane " ++ (decimal lane ++ (codes ", turn " ++ (decimal turn ++ codes ".")))

abbrev pub too_many_channels_text : ℕ → ℕ → ℕ → List ℕ
too_many_channels_text lane opened live =
    codes "Too many channels: lane " ++ (decimal lane ++ (codes ", opened " ++ (decimal opened
    ++ (codes ", live " ++ (decimal live ++ codes ".")))))

abbrev pub hole_text : Option ℕ → ℕ → Option Range → List ℕ
hole_text total eods missing =
    codes "Hole: total " ++ number_text total ++ codes ", EODs " ++ decimal eods ++ codes ", first missing "
    ++ range_text missing ++ codes "."

-- a transfer that ended without its file
unfoldable pub cause_reply : Cause → Reply
cause_reply (causes.Lost lane channel taken) = line 426 (lost_text lane channel taken)
cause_reply (causes.BadBlock lane channel bad) =
    line 426 (bad_block_text bad.place bad.flags bad.count bad.offset)
cause_reply (causes.TwoTotals kept new) = line 426 (two_totals_text kept new)
cause_reply (causes.BadTotal total) = line 426 (codes "Bad total: " ++ (decimal total ++ codes "."))
cause_reply (causes.TooManyEods total) =
    line 426 (codes "Too many EODs: total " ++ (decimal total ++ codes "."))
cause_reply (causes.Idle lane turns) = line 426 (idle_text lane turns)
cause_reply (causes.Hole total eods missing) = line 426 (hole_text total eods missing)
cause_reply (causes.StreamTooLong lane) =
    line 426 (codes "Stream too long: lane " ++ (decimal lane ++ codes "."))
cause_reply (causes.TooManyChannels lane opened live) = line 426 (too_many_channels_text lane opened live)
cause_reply causes.Aborted = line 426 (codes "Aborted.")
cause_reply causes.ControlGone = line 426 (codes "Control lost.")
cause_reply causes.LinkFailed = line 425 (codes "Data connection failed.")
cause_reply causes.DriveFailed = line 451 (codes "Drive failed.")
cause_reply (causes.RangesFull kept) = line 452 (codes "Too many ranges: 16384.")
cause_reply causes.Memory = line 455 (codes "Out of memory.")

-- a library that refuses
unfoldable pub busy_reply : Use → Reply
busy_reply uses.Storing = line 450 (codes "Busy: storing.")
busy_reply _ = line 450 (codes "Busy: reading.")

unfoldable pub library_reply : LibraryError → Reply
library_reply (refusals.Busy found) = busy_reply found
library_reply (refusals.Damaged damage) = line 451 (codes "Journal damaged.")
library_reply (refusals.CompleteAlready len) = line 550 (codes "Complete already.")
library_reply (refusals.NotInJournal missing) =
    line 554 (codes "REST names " ++ (decimal missing.start ++ (codes "-" ++ (decimal missing.end
    ++ codes ", which is not stored."))))
library_reply refusals.NoSuch = line 550 (codes "No such file.")
library_reply refusals.Incomplete = line 550 (codes "Not complete.")
library_reply refusals.TooManyNames = line 452 (codes "Too many names: 65536.")
library_reply refusals.ShelfFailed = line 451 (codes "Drive failed.")
library_reply refusals.OutOfMemory = line 455 (codes "Out of memory.")
library_reply refusals.DriveFailed = line 451 (codes "Drive failed.")

abbrev pub features : List (List ℕ)
features =
    codes "DCAU" ∷ codes "ERET" ∷ codes "ESTO" ∷ codes "PARALLEL" ∷ codes "SBUF" ∷ codes "SIZE"
    ∷ codes "SPAS" ∷ codes "SPOR" ∷ []

unfoldable pub reply_of : ReplyKind → Reply
reply_of kinds.Greeting = line 220 (codes "GridFTP server ready.")
reply_of (kinds.Unread why) = unread_reply why
reply_of kinds.PasswordPlease = line 331 (codes "Password please.")
reply_of kinds.LoggedIn = line 230 (codes "Logged in.")
reply_of kinds.UserFirst = line 503 (codes "USER first.")
reply_of kinds.Goodbye = line 221 (codes "Goodbye.")
reply_of kinds.Done = line 200 (codes "Done.")
reply_of kinds.Features = lines_from 211 (codes "Extensions supported:") features (codes "End")
reply_of kinds.LogInFirst = line 530 (codes "Log in first.")
reply_of kinds.TypeImage = line 200 (codes "Type I.")
reply_of kinds.TypeAscii = line 200 (codes "Type A.")
reply_of kinds.NoSuchType = line 504 (codes "Type not supported.")
reply_of kinds.ModeExtended = line 200 (codes "Mode E.")
reply_of kinds.ModeStream = line 200 (codes "Mode S.")
reply_of kinds.NoSuchMode = line 504 (codes "Mode not supported.")
reply_of kinds.StructureFile = line 200 (codes "Structure F.")
reply_of kinds.NoSuchStructure = line 504 (codes "Structure not supported.")
reply_of kinds.NoProtection = line 200 (codes "DCAU N.")
reply_of kinds.OnlyNoProtection = line 504 (codes "Only DCAU N.")
reply_of kinds.BufferNoted = line 200 (codes "Buffer size noted.")
reply_of kinds.AlloNotNeeded = line 202 (codes "ALLO is not needed.")
reply_of kinds.OptionsSet = line 200 (codes "Options set.")
reply_of kinds.OnlyFolder = line 257 (codes "\"/\" is the only folder.")
reply_of kinds.FolderIsRoot = line 250 (codes "Folder is /.")
reply_of kinds.NoSuchFolder = line 550 (codes "No such folder.")
reply_of kinds.CannotListen = line 425 (codes "Cannot listen.")
reply_of (kinds.Passive at) = line 227 (codes "Entering Passive Mode (" ++ host_port_text at ++ codes ")")
reply_of (kinds.Striped places) =
    lines_from 229 (codes "Entering Striped Passive Mode.") (map host_port_text places.items) (codes "End")
reply_of (kinds.TargetsSet count) = line 200 (decimal count ++ codes " targets set.")
reply_of kinds.RestNoted = line 350 (codes "Restart list noted.")
reply_of (kinds.Length len) = line 213 (decimal len)
reply_of kinds.Deleted = line 250 (codes "Deleted.")
reply_of kinds.BadName = line 553 (codes "Bad name.")
reply_of (kinds.Refused why) = library_reply why
reply_of kinds.Complete = line 226 (codes "Transfer complete.")
reply_of kinds.PartStored = line 226 (codes "Part stored.")
reply_of kinds.SetTypeAndMode = line 504 (codes "Set TYPE I and MODE E.")
reply_of kinds.RestElsewhere = line 503 (codes "REST goes with STOR or RETR.")
reply_of kinds.ListenFirst = line 503 (codes "SPAS or PASV first.")
reply_of kinds.TargetsFirst = line 503 (codes "PORT or SPOR first.")
reply_of kinds.Opening = line 150 (codes "Opening data connections.")
reply_of (kinds.Failed cause) = cause_reply cause
reply_of kinds.AbortDone = line 226 (codes "Abort processed.")
reply_of kinds.NotBuilt = line 504 (codes "Not built.")
reply_of kinds.NoTransfer = line 225 (codes "No transfer in progress.")
reply_of kinds.OutOfMemory = line 455 (codes "Out of memory.")
reply_of kinds.Idle = line 421 (codes "Idle, closing.")
reply_of kinds.TooLong = line 500 (codes "Line too long.")

-- the text has no LF, and room in a line
abbrev pub is_line : List ℕ → Bool
is_line text = list_all (λ b. not (b == line_feed)) text && nat_lt (length text) 1000

-- the text has no LF, and at most so many bytes
pub record IsPiece (text : List ℕ) (most : ℕ) : Type 0 where
  pub lacks : Lacks line_feed text
  pub short : length text ≤ most

-- the reply has a text: it lists as many addresses as targets can be named
abbrev pub HasText : ReplyKind → Type 0
HasText (kinds.Striped places) = length places.items ≤ MAX_TARGETS
HasText _ = Unit {0}

-- the reply is of one line that no value goes into
abbrev pub IsFixed : ReplyKind → Type 0
IsFixed (kinds.Unread why) = ⊥
IsFixed kinds.Features = ⊥
IsFixed (kinds.Passive at) = ⊥
IsFixed (kinds.Striped places) = ⊥
IsFixed (kinds.TargetsSet count) = ⊥
IsFixed (kinds.Length len) = ⊥
IsFixed (kinds.Refused why) = ⊥
IsFixed (kinds.Failed cause) = ⊥
IsFixed _ = Unit {0}

-- the reply says that the command wasn't carried out (RFC 959, section 4.2.1: 4yz and 5yz)
abbrev pub IsNegative : ReplyKind → Type 0
IsNegative kind = 400 ≤ (reply_of kind).code
