-- How what is put goes on.
use Rattle.std.proofs.Common.{ℕ, List, [], ◌++◌, ◌∷◌, Option, Some, None, Result, Ok, Err, IsOk, refl, sym, ap, ◌∙◌, append_assoc, append-nil}
use Rattle.std.specs.Io.KnownBytes.{Appends}
use Rattle.gft_drive.specs.Words.{IsPartOf}
use Rattle.gft_reply.specs.declared.reply.Reply.{Reply}
use Rattle.gft_reply.specs.Words.{reply_text}
use Rattle.gft_library.specs.Words.{NamedWord}
use Rattle.gft_session.specs.declared.session_end.Stopped.{Stopped}
use Rattle.gft_session.specs.Brought.{Brought, Output}
use Rattle.gft_session.specs.Steps.{Gives, Puts, Takes, Tallies, list_of}

pub appends_none : (known : Option (List ℕ)) → Appends known known []
appends_none None = tt
appends_none (Some xs) = sym (append-nil xs)

pub appends_more : (a b c : Option (List ℕ)) (first next : List ℕ) → Appends a b first → Appends b c next → Appends a c (first ++ next)
appends_more None b c first next h k = tt
appends_more (Some xs) None c first next h k = absurd h
appends_more (Some xs) (Some ys) None first next h k = absurd k
appends_more (Some xs) (Some ys) (Some zs) first next h k = k ∙ ap (λ front. front ++ next) h ∙ append_assoc xs first next

pub whole_part : (xs : List ℕ) → IsPartOf xs xs
whole_part xs = ([], sym (append-nil xs))

pub no_part : (xs : List ℕ) → IsPartOf [] xs
no_part xs = (xs, refl)

-- one reply of the table was given
pub gives : {T : Type 0} (IsRow : Brought → Type 0) (reply : Reply) (answer : Option NamedWord) (result : Result T Stopped) (old new : Output) →
    IsRow (record { replies = reply ∷ []; answer = answer }) → Puts result old.put new.put (reply_text reply) → Takes result answer old.taken new.taken → Gives IsRow result old new
gives IsRow reply answer result old new is_row puts takes = record {
  brought = record { replies = reply ∷ []; answer = answer };
  is_row = is_row;
  puts = record {
    part = puts.part;
    put = puts.put;
    is_part = rw (append-nil (reply_text reply)) puts.is_part;
    whole = λ ok. puts.whole ok ∙ sym (append-nil (reply_text reply));
    before = λ refused. record { front = []; next = reply; more = []; split = refl; bytes = puts.none refused };
  };
  takes = takes;
}

-- ---- what a tally takes

pub tallies_none : (known : Option (List NamedWord)) → Tallies known known []
tallies_none None = tt
tallies_none (Some xs) = refl

pub tallies_more : (a b c : Option (List NamedWord)) (older newer : List NamedWord) → Tallies a b older → Tallies b c newer → Tallies a c (newer ++ older)
tallies_more a b None older newer h k = tt
tallies_more a None (Some zs) older newer h k = absurd k
tallies_more None (Some ys) (Some zs) older newer h k = absurd h
tallies_more (Some xs) (Some ys) (Some zs) older newer h k = k ∙ ap (λ rest. newer ++ rest) h ∙ sym (append_assoc newer older xs)

-- the answer of a reply that was given whole
pub takes_whole : {T : Type 0} (result : Result T Stopped) (answer : Option NamedWord) (a b : Option (List NamedWord)) → IsOk result → Takes result answer a b → Tallies a b (list_of answer)
takes_whole (Ok value) answer a b ok takes = takes
takes_whole (Err why) answer a b ok takes = absurd (cc ok)
