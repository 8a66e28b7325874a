-- Which replies are of code 425 (RFC 959, section 4.2.2: can't open data connection).
use Rattle.std.proofs.Common.{◌≡◌, ◌==◌, Bool, true, false, refl}
use Rattle.gft_command.specs.declared.CommandError.{CommandError}
use Rattle.gft_command.specs.declared.CommandError.TheVariants as unread
use Rattle.gft_pass.specs.declared.Cause.{Cause}
use Rattle.gft_pass.specs.declared.Cause.TheVariants as causes
use Rattle.gft_book.specs.declared.Use.{Use}
use Rattle.gft_book.specs.declared.Use.TheVariants as uses
use Rattle.gft_library.specs.declared.LibraryError.{LibraryError}
use Rattle.gft_library.specs.declared.LibraryError.TheVariants as refusals
use Rattle.gft_reply_kind.specs.declared.reply_kind.ReplyKind.{ReplyKind}
use Rattle.gft_reply_kind.specs.declared.reply_kind.ReplyKind.TheVariants as kinds
use Rattle.gft_reply_kind.specs.Replies.{busy_reply, cause_reply, library_reply, reply_of, unread_reply}

abbrev pub is_of_link : Cause → Bool
is_of_link causes.LinkFailed = true
is_of_link _ = false

-- the reply tells a fault of the link
abbrev pub tells_link : ReplyKind → Bool
tells_link kinds.CannotListen = true
tells_link (kinds.Failed why) = is_of_link why
tells_link _ = false

other_unread : (why : CommandError) → ((unread_reply why).code == 425) ≡ false
unfolding unread_reply
other_unread unread.UnknownVerb = refl
other_unread unread.MissingParameter = refl
other_unread unread.BadParameter = refl
other_unread unread.OutOfMemory = refl

other_busy : (found : Use) → ((busy_reply found).code == 425) ≡ false
unfolding busy_reply
other_busy uses.Storing = refl
other_busy _ = refl

other_library : (why : LibraryError) → ((library_reply why).code == 425) ≡ false
unfolding library_reply
other_library (refusals.Busy found) = other_busy found
other_library _ = refl

other_cause : (why : Cause) → is_of_link why ≡ false → ((cause_reply why).code == 425) ≡ false
unfolding cause_reply
other_cause causes.LinkFailed link = absurd (cc link)
other_cause _ link = refl

-- no other reply is of code 425
pub other_code : (kind : ReplyKind) → tells_link kind ≡ false → ((reply_of kind).code == 425) ≡ false
unfolding reply_of
other_code kinds.CannotListen link = absurd (cc link)
other_code (kinds.Unread why) link = other_unread why
other_code (kinds.Refused why) link = other_library why
other_code (kinds.Failed why) link = other_cause why link
other_code _ link = refl
